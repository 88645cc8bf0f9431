use Rattle.std.proofs.Common.{[], refl, sym, subst, inl}
use Rattle.tendril_stream.proofs.Stands.{stands_at_nothing}
use Rattle.tendril_stream.specs.Compositions.{StandsAt}
use Rattle.tendril_stream.specs.Decodings.{utf8}
use Rattle.tendril_stream.specs.Utf8Laws.{is_utf8}
use Rattle.rope_text.proofs.Decoded.{new_has}
use Rattle.rope_text.specs.Ropes.{RopeText}
use Rattle.rope_text.specs.Sink.{HasCharacters, goes_on_by}
use Rattle.rope_text.proofs.decode.rope_from_file.Goals as goal

pub returns-in-Err-clause-stopped : goal.returns-in-Err-clause-stopped
returns-in-Err-clause-stopped g c =
    let d = c.new-in-Err-2.result in
    let made = c.new-in-Err-2.ensures in
    let has : HasCharacters d.inner_sink [] = subst (λ (r : RopeText). HasCharacters r []) (sym made.sink)
    (new_has c.new-in-Err.result c.new-in-Err.ensures.bytes) in
    inl (
      refl,
      (
        d,
        refl,
        made.failed,
        subst (λ k. StandsAt utf8 HasCharacters d.inner_sink k []) (sym made.kept)
            (stands_at_nothing utf8 is_utf8 _ HasCharacters goes_on_by d.inner_sink has),
      ),
    )
