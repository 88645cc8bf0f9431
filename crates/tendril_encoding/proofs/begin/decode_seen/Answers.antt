use Rattle.std.proofs.Common.{◌≡◌, ◌≤◌, ◌∙◌, [], length, sym, ap, arith}
use Rattle.std.proofs.lemmas.Result.{IfErr-weaker, on_ok_weaker}
use Rattle.tendril_encoding.proofs.Begun.{seen_feeds, seen_stops}
use Rattle.tendril_encoding.proofs.Sniffs.{seen_few}
use Rattle.tendril_encoding.specs.Known.{after_known, out_known}
use Rattle.tendril_encoding.specs.Marks.{seen_bytes}
use Rattle.tendril_encoding.specs.Sends.{IsShortOrNew}
use Rattle.tendril_encoding.specs.StateLaws.{after_known-none, out_known-none}
use Rattle.tendril_text.proofs.Feeds.{Feeds-none, Feeds-same}
use Rattle.tendril_encoding.proofs.begin.decode_seen.Goals as goal

pub returns-in-Nothing-clause-ok : goal.returns-in-Nothing-clause-ok
returns-in-Nothing-clause-ok g c =
    let chosen = c.args.chosen.now in
    let nil = ap seen_bytes c.in-Nothing.is in (
      Feeds-same g.S.TendrilSink.takes IsShortOrNew c.args.sink.now c.args.sink.now []
          (out_known chosen (seen_bytes c.args.seen))
          (sym (ap (out_known chosen) nil ∙ out_known-none chosen c.requires.start))
          (Feeds-none g.S.TendrilSink.takes IsShortOrNew c.args.sink.now),
      sym (ap (after_known chosen) nil ∙ after_known-none chosen c.requires.start),
    )

pub returns-clause-ok : goal.returns-clause-ok
returns-clause-ok g c =
    let t = c.in_ok-text.text in
    let is : t.bytes ≡ seen_bytes c.args.seen = c.in_ok-text.ensures.1.bytes ∙ c.bytes.ensures in
    let few : length t.bytes ≤ 8 = omega (arith, ap length is, seen_few c.args.seen) in
    let copied : t.copied ≡ length t.bytes = c.in_ok-text.ensures.1.copied
    ∙ sym (ap length c.in_ok-text.ensures.1.bytes) in
    on_ok_weaker c.decode.result (λ h. (
      seen_feeds g.S.TendrilSink.takes g.S.TendrilSink.refuses c.args.chosen.now t
          (seen_bytes c.args.seen) is few copied
          c.args.sink.now c.decode.new.sink h.0,
      h.1 ∙ ap (after_known c.args.chosen.now) is,
    )) c.decode.ensures.ok

pub returns-clause-err : goal.returns-clause-err
returns-clause-err g c =
    let t = c.in_ok-text.text in
    let is : t.bytes ≡ seen_bytes c.args.seen = c.in_ok-text.ensures.1.bytes ∙ c.bytes.ensures in
    let few : length t.bytes ≤ 8 = omega (arith, ap length is, seen_few c.args.seen) in
    let copied : t.copied ≡ length t.bytes = c.in_ok-text.ensures.1.copied
    ∙ sym (ap length c.in_ok-text.ensures.1.bytes) in
    IfErr-weaker c.decode.result _ _ (seen_stops g.S.TendrilSink.takes g.S.TendrilSink.refuses c.args.chosen.now t
    (seen_bytes c.args.seen) is few copied c.args.sink.now c.decode.new.sink) c.decode.ensures.err

pub returns-clause-nothing : goal.returns-clause-nothing
returns-clause-nothing g c = λ nothing. absurd (c.in_default.not-Nothing nothing)
