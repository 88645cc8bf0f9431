-- A CSV reader spells the UTF-8 of the decoded characters, without quotes and line ends.
use Rattle.std.proofs.Common.{◌≡◌, ℕ, List, ◌++◌, sym, ap, ◌∙◌, append_assoc}
use Rattle.std.proofs.lemmas.List.Elements.{filter-append}
use Rattle.std.proofs.lemmas.Str.{encodes-append}
use Rattle.std.specs.Prelude.{encode_utf8_all, not}
use Rattle.tendril.specs.Lossy.{Told, characters}
use Rattle.tendril.specs.Proofs.Told.{characters-append}
use Rattle.tendril.specs.SentBytes.{sent_bytes, told_bytes}
use Rattle.tendril.specs.Sinks.{Sent, IsSent, told_of}
use Rattle.use_csv.specs.Spelled.{is_mark, unmarked}

pub unmarked-append : (xs ys : List ℕ) → unmarked (xs ++ ys) ≡ unmarked xs ++ unmarked ys
unmarked-append xs ys = filter-append (λ b. not (is_mark b)) xs ys

-- one more call of the sink keeps this, after bytes `start` of earlier records
pub unmarked_on : (start : List ℕ) (told : List Told) (e : Sent) (was is : List ℕ)
    → IsSent e → unmarked was ≡ start ++ unmarked (encode_utf8_all (characters told))
    → unmarked is ≡ unmarked (was ++ sent_bytes e)
    → unmarked is ≡ start ++ unmarked (encode_utf8_all (characters (told ++ told_of e)))
unmarked_on start told e was is is_sent before call =
    let spelled = encode_utf8_all (characters told) in
    call ∙ unmarked-append was (sent_bytes e) ∙ ap (λ l. l ++ unmarked (sent_bytes e)) before
    ∙ append_assoc start (unmarked spelled) (unmarked (sent_bytes e))
    ∙ ap (λ l. start ++ l)
    (ap (λ l. unmarked spelled ++ unmarked l) (sym (told_bytes e is_sent))
    ∙ sym (unmarked-append spelled (encode_utf8_all (characters (told_of e))))
    ∙ ap unmarked
    (sym (encodes-append (characters told) (characters (told_of e)))
    ∙ ap encode_utf8_all (sym (characters-append told (told_of e)))))
