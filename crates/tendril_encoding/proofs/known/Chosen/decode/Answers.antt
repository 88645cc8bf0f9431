use Rattle.std.proofs.Common.{◌≡◌, true, length, refl, subst, ap}
use Rattle.std.proofs.lemmas.Result.{IfErr-weaker, on_ok_weaker}
use Rattle.std.proofs.lemmas.Str.{IsUtf8-from_ascii}
use Rattle.std.specs.Prelude.{IsAscii}
use Rattle.tendril_encoding.proofs.Ascii.{after_ascii}
use Rattle.tendril_encoding.proofs.Wholes.{feeds_none, feeds_pieces, feeds_slices, feeds_whole, some_from, stops_pieces}
use Rattle.tendril_encoding.proofs.Wholes.{stops_slices, stops_whole}
use Rattle.tendril_stream.specs.Sinks.{Piece, RefusesCall}
use Rattle.tendril_encoding.specs.Known.{passes_known}
use Rattle.tendril_text.specs.Texts.{Text}
use Rattle.tendril_encoding.proofs.known.Chosen.decode.Goals as goal

pub returns-then-is_empty-clause-ok : goal.returns-then-is_empty-clause-ok
returns-then-is_empty-clause-ok g c =
    let whole = c.passes.ensures.whole c.if-passes.true in
    let ascii = subst IsAscii c.as_byte_slice.ensures.value whole.1 in
    let nil = c.if-is_empty.ensures.0 refl in (
      feeds_none g.S.TendrilSink.takes c.args.self.now c.args.piece whole.0 ascii c.args.sink.now (ap length nil),
      after_ascii c.args.self.now c.args.piece.bytes whole.0 ascii,
    )

pub reinterpret_without_validating-requires : goal.reinterpret_without_validating-requires
reinterpret_without_validating-requires g c =
    IsUtf8-from_ascii c.args.piece.bytes
    (subst IsAscii c.as_byte_slice.ensures.value (c.passes.ensures.whole c.if-passes.true).1)

pub returns-then-passes-clause-ok : goal.returns-then-passes-clause-ok
returns-then-passes-clause-ok g c =
    let whole = c.passes.ensures.whole c.if-passes.true in
    let ascii = subst IsAscii c.as_byte_slice.ensures.value whole.1 in
    let some = some_from c.args.piece.bytes c.is_empty.result c.is_empty.ensures.1 c.if-is_empty.false in
    on_ok_weaker c.send.result (λ takes. (
      feeds_whole g.S.TendrilSink.takes c.args.self.now c.args.piece whole.0 ascii c.args.sink.now c.send.new.sink some
          (subst (λ (t : Text). g.S.TendrilSink.takes c.args.sink.now (Piece t) c.send.new.sink)
          c.reinterpret_without_validating.ensures takes),
      after_ascii c.args.self.now c.args.piece.bytes whole.0 ascii,
    )) c.send.ensures.ok

pub returns-then-passes-clause-err : goal.returns-then-passes-clause-err
returns-then-passes-clause-err g c =
    let whole = c.passes.ensures.whole c.if-passes.true in
    let ascii = subst IsAscii c.as_byte_slice.ensures.value whole.1 in
    let some = some_from c.args.piece.bytes c.is_empty.result c.is_empty.ensures.1 c.if-is_empty.false in
    IfErr-weaker c.send.result _ _ (λ r refused.
    stops_whole g.S.TendrilSink.takes c.args.self.now c.args.piece whole.0 ascii g.S.TendrilSink.refuses
    c.args.sink.now c.send.new.sink r some
    (subst (λ (t : Text). RefusesCall g.S.TendrilSink.refuses c.args.sink.now (Piece t) r c.send.new.sink)
    c.reinterpret_without_validating.ensures refused)) c.send.ensures.err

pub returns-in-Pieces-clause-ok : goal.returns-in-Pieces-clause-ok
returns-in-Pieces-clause-ok g c =
    let not = subst (λ l. passes_known c.args.self.now ≡ true → IsAscii l → ⊥) c.as_byte_slice.ensures.value
    (c.passes.ensures.other c.if-passes.false) in
    on_ok_weaker c.decode_piece.result (feeds_pieces g.S.TendrilSink.takes g.S.TendrilSink.refuses c.args.self.now
    c.args.piece not c.args.sink.now c.decode_piece.new.sink c.in-Pieces.kept c.decode_piece.new.self c.in-Pieces.is)
    c.decode_piece.ensures.ok

pub returns-in-Pieces-clause-err : goal.returns-in-Pieces-clause-err
returns-in-Pieces-clause-err g c =
    let not = subst (λ l. passes_known c.args.self.now ≡ true → IsAscii l → ⊥) c.as_byte_slice.ensures.value
    (c.passes.ensures.other c.if-passes.false) in
    IfErr-weaker c.decode_piece.result _ _ (λ r. stops_pieces g.S.TendrilSink.takes g.S.TendrilSink.refuses
    c.args.self.now c.args.piece not c.args.sink.now c.decode_piece.new.sink c.in-Pieces.kept r c.in-Pieces.is)
    c.decode_piece.ensures.err

pub returns-in-Slices-clause-ok : goal.returns-in-Slices-clause-ok
returns-in-Slices-clause-ok g c =
    let not = subst (λ l. passes_known c.args.self.now ≡ true → IsAscii l → ⊥) c.as_byte_slice.ensures.value
    (c.passes.ensures.other c.if-passes.false) in
    on_ok_weaker c.decode_slices.result (feeds_slices g.S.TendrilSink.takes g.S.TendrilSink.refuses c.args.self.now
    c.args.piece not c.args.sink.now c.decode_slices.new.sink c.in-Slices.decoder c.decode_slices.new.decoder
    c.in-Slices.is) c.decode_slices.ensures.ok

pub returns-in-Slices-clause-err : goal.returns-in-Slices-clause-err
returns-in-Slices-clause-err g c =
    let not = subst (λ l. passes_known c.args.self.now ≡ true → IsAscii l → ⊥) c.as_byte_slice.ensures.value
    (c.passes.ensures.other c.if-passes.false) in
    IfErr-weaker c.decode_slices.result _ _ (λ r. stops_slices g.S.TendrilSink.takes g.S.TendrilSink.refuses
    c.args.self.now c.args.piece not c.args.sink.now c.decode_slices.new.sink c.in-Slices.decoder r c.in-Slices.is)
    c.decode_slices.ensures.err
