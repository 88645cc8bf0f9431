use Rattle.std.proofs.Common.{◌∷◌, [], ◌++◌, ap, map, refl}
use Rattle.std.proofs.lemmas.Result.{IfErr-weaker, on_ok_weaker}
use Rattle.tendril_lossy.specs.Lossy.{Char, Mark, replaced}
use Rattle.tendril_text.proofs.Feeds.{Feeds-one, Feeds-append, Feeds-same, Stops-after, Stops-call}
use Rattle.tendril_text.proofs.Passing.{replacement-handed, replacement-chars}
use Rattle.tendril_text.specs.Receivers.{IsSentOf, Piece, Fault, no_other, told_of}
use Rattle.tendril_text.proofs.utf8_decode.receiving.replace_by.Goals as goal

pub returns-clause-ok : goal.returns-clause-ok
returns-clause-ok g c = λ piece.
    let t = c.from_short_str.result in
    let is = c.from_short_str.ensures in
    on_ok_weaker c.text.result (λ takes.
    Feeds-append g.W.Receiving.takes (IsSentOf piece) c.args.receiver.now c.error.new.receiver c.text.new.receiver
    (Mark c.args.words.now ∷ []) (Char 0xFFFD ∷ [])
    (Feeds-one g.W.Receiving.takes (IsSentOf piece) c.args.receiver.now (Fault c.args.words.now)
    c.error.new.receiver tt c.in_ok-error.ensures.ok)
    (Feeds-same g.W.Receiving.takes (IsSentOf piece) c.error.new.receiver c.text.new.receiver (told_of (Piece t))
    (Char 0xFFFD ∷ []) (ap (map Char) (replacement-chars t.bytes is.bytes))
    (Feeds-one g.W.Receiving.takes (IsSentOf piece) c.error.new.receiver (Piece t) c.text.new.receiver
    (replacement-handed piece t is.bytes is.copied) takes))) c.text.ensures.ok

pub returns-clause-err : goal.returns-clause-err
returns-clause-err g c = λ piece.
    let t = c.from_short_str.result in
    let is = c.from_short_str.ensures in
    IfErr-weaker c.text.result _ _ (λ refusal refuses.
    Stops-after g.W.Receiving.takes g.W.Receiving.refuses (IsSentOf piece) no_other c.args.receiver.now
    c.error.new.receiver c.text.new.receiver
    (Mark c.args.words.now ∷ []) (Char 0xFFFD ∷ []) (replaced c.args.words.now) refusal
    (Feeds-one g.W.Receiving.takes (IsSentOf piece) c.args.receiver.now (Fault c.args.words.now)
    c.error.new.receiver tt c.in_ok-error.ensures.ok)
    (Stops-call g.W.Receiving.takes g.W.Receiving.refuses (IsSentOf piece) no_other c.error.new.receiver (Piece t) []
    (Char 0xFFFD ∷ []) refusal c.text.new.receiver (replacement-handed piece t is.bytes is.copied)
    (ap (λ cs. map Char cs ++ []) (replacement-chars t.bytes is.bytes)) refuses)
    refl) c.text.ensures.err
