use Rattle.std.proofs.Common.{◌∷◌, ◌∙◌, ◌++◌, [], arith, inl, length-append, refl, subst, sym}
use Rattle.std.proofs.lemmas.List.Elements.{All-nil, All-push}
use Rattle.std.proofs.lemmas.Result.{IfErr-weaker, err_from_is_err_and, on_ok_weaker}
use Rattle.tendril_transcode.proofs.DecodingEnds.{decoded, end_stops, ready_first}
use Rattle.tendril_transcode.specs.Transcodings.{IsReady}
use Rattle.tendril_stream.proofs.Fed.{MakesReads-none, MakesReads-on}
use Rattle.tendril_stream.specs.Reads.{CameToEnd, MayReadOn}
use Rattle.tendril_transcode.proofs.decode.transcode.Goals as goal

pub loop-made-init : goal.loop-made-init
loop-made-init g c = (
  [],
  All-nil MayReadOn,
  refl,
  omega arith,
  MakesReads-none g.R.CountedRead.history g.R.CountedRead.remaining c.args.reader.now,
  ready_first g.K.PieceDecoding.decoding c.args.kept c.requires.begins (g.W.Write.contents c.args.out.now) _ _ _
      c.over-decoder.ensures.kept c.over-decoder.ensures.failed (c.over-decoder.ensures.sink ∙ c.new.ensures),
)

pub loop-made-preserved : goal.loop-made-preserved
loop-made-preserved g c =
    let i = c.loop-made.invariant in
    let test = c.loop-made-test.true in
    let count = i.2 in
    let h = c.in_ok-decode_read.ensures.read c.args.kept (g.W.Write.contents c.args.out.now) i.0 i.5 c.if-branch.false
    in (
      i.0 ++ h.0 ∷ [],
      All-push MayReadOn i.0 h.0 i.1 h.1,
      omega (arith, length-append i.0 (h.0 ∷ []), count),
      omega (arith, test),
      MakesReads-on g.R.CountedRead.history g.R.CountedRead.remaining c.args.reader.now c.loop-made.reader
          c.decode_read.new.reader i.0 (h.0 ∷ []) i.4 h.2,
      h.3,
    )

pub returns-clause-stops : goal.returns-clause-stops
returns-clause-stops g c =
    let i = c.loop-made.invariant in
    let none_left = c.loop-made-test.false in
    let within = i.3 in
    let count = i.2 in
    (i.0, i.4, inl (i.5.writes, inl (refl, i.1, omega (arith, none_left, within, count))))

pub returns-in_err-decode_read-clause-stops : goal.returns-in_err-decode_read-clause-stops
returns-in_err-decode_read-clause-stops g c =
    let i = c.loop-made.invariant in
    let test = c.loop-made-test.true in
    let count = i.2 in
    let e = c.in_err-decode_read.ensures.stops c.args.kept (g.W.Write.contents c.args.out.now) i.0 i.1
    (omega (arith, test, count)) i.5 in
    let q = err_from_is_err_and c.from_residual.result c.from_residual.ensures.1 in rw (q.1, q.2) ((
      i.0 ++ e.0,
      MakesReads-on g.R.CountedRead.history g.R.CountedRead.remaining c.args.reader.now c.loop-made.reader
          c.decode_read.new.reader i.0 e.0 i.4 e.1,
      e.2,
    ))

pub returns-then-branch-clause-ok : goal.returns-then-branch-clause-ok
returns-then-branch-clause-ok g c =
    let i = c.loop-made.invariant in
    let test = c.loop-made-test.true in
    let count = i.2 in
    let e = c.in_ok-decode_read.ensures.ended c.if-branch.true in
    let ready : IsReady g.K.PieceDecoding.decoding c.args.kept i.0 (g.W.Write.contents c.args.out.now)
    (g.W.Write.contents c.decode_read.new.out)
    c.decode_read.new.decoder.kept c.decode_read.new.decoder.failed c.decode_read.new.decoder.inner_sink
    = subst (λ o. IsReady g.K.PieceDecoding.decoding c.args.kept i.0 (g.W.Write.contents c.args.out.now)
    (g.W.Write.contents o) c.decode_read.new.decoder.kept c.decode_read.new.decoder.failed
    c.decode_read.new.decoder.inner_sink) (sym e.3)
    (subst (λ d. IsReady g.K.PieceDecoding.decoding c.args.kept i.0 (g.W.Write.contents c.args.out.now)
    (g.W.Write.contents c.loop-made.out) d.kept d.failed
    d.inner_sink) (sym e.2) i.5) in
    on_ok_weaker c.decode_end.result (λ h. (
      i.0 ++ CameToEnd ∷ [],
      MakesReads-on g.R.CountedRead.history g.R.CountedRead.remaining c.args.reader.now c.loop-made.reader
          c.decode_read.new.reader i.0 (CameToEnd ∷ []) i.4 e.0,
      e.1,
      decoded g.K.PieceDecoding.decoding c.args.kept _ i.0 _ _ i.1 (omega (arith, test, count)) h,
    )) (c.decode_end.ensures.ok c.args.kept (g.W.Write.contents c.args.out.now) i.0 ready)

pub returns-then-branch-clause-stops : goal.returns-then-branch-clause-stops
returns-then-branch-clause-stops g c =
    let i = c.loop-made.invariant in
    let test = c.loop-made-test.true in
    let count = i.2 in
    let e = c.in_ok-decode_read.ensures.ended c.if-branch.true in
    let ready : IsReady g.K.PieceDecoding.decoding c.args.kept i.0 (g.W.Write.contents c.args.out.now)
    (g.W.Write.contents c.decode_read.new.out)
    c.decode_read.new.decoder.kept c.decode_read.new.decoder.failed c.decode_read.new.decoder.inner_sink
    = subst (λ o. IsReady g.K.PieceDecoding.decoding c.args.kept i.0 (g.W.Write.contents c.args.out.now)
    (g.W.Write.contents o) c.decode_read.new.decoder.kept c.decode_read.new.decoder.failed
    c.decode_read.new.decoder.inner_sink) (sym e.3)
    (subst (λ d. IsReady g.K.PieceDecoding.decoding c.args.kept i.0 (g.W.Write.contents c.args.out.now)
    (g.W.Write.contents c.loop-made.out) d.kept d.failed
    d.inner_sink) (sym e.2) i.5) in
    IfErr-weaker c.decode_end.result _ _ (λ r h. (
      i.0 ++ CameToEnd ∷ [],
      MakesReads-on g.R.CountedRead.history g.R.CountedRead.remaining c.args.reader.now c.loop-made.reader
          c.decode_read.new.reader i.0 (CameToEnd ∷ []) i.4 e.0,
      end_stops g.K.PieceDecoding.decoding c.args.kept _ i.0 _ _ _ r i.1 (omega (arith, test, count)) e.1 h,
    )) (c.decode_end.ensures.stops c.args.kept (g.W.Write.contents c.args.out.now) i.0 ready)
