use Rattle.std.proofs.Common.{◌≡◌, ℕ, ◌-◌, ◌+◌, List, ◌++◌, take, drop, sym, ap, subst, ◌∙◌, arith}
use Rattle.std.proofs.Common.{inl, inr, true≢false}
use Rattle.std.proofs.Math.Seq.{take-add}
use Rattle.std.proofs.lemmas.List.{take_all}
use Rattle.std.proofs.lemmas.Result.{IfErr-weaker, IfOk-weaker, err_from_is_err_and}
use Rattle.std.specs.Prelude.{slice_range}
use Rattle.tendril_encoding.proofs.Joins.{after, goes_on, takes}
use Rattle.tendril_encoding.proofs.Outgrown.{stops_at_end, stops_at_piece}
use Rattle.tendril_encoding.specs.StateLaws.{is_decoding_from}
use Rattle.tendril_encoding.specs.States.{decoding_from}
use Rattle.tendril_stream.proofs.Stands.{ends_at, stands_at_nothing, stands_on}
use Rattle.tendril_stream.specs.Compositions.{StandsAt}
use Rattle.tendril_encoding.proofs.text.decode_whole.Goals as goal

cut_more : (bytes piece : List ℕ) (at n : ℕ) → piece ≡ slice_range bytes at (at + n)
    → take at bytes ++ piece ≡ take (at + n) bytes
cut_more bytes piece at n is =
    let same : at + n - at ≡ n = omega arith in
    ap (λ l. take at bytes ++ l) (is ∙ ap (λ k. take k (drop at bytes)) same) ∙ sym (take-add at n bytes)

pub loop-at-init : goal.loop-at-init
loop-at-init c =
    let start = c.args.decoder.decoder.kept in
    record {
      within = omega arith;
      failed = c.requires.failed;
      stands = stands_at_nothing (decoding_from start) (is_decoding_from start c.requires.start) takes after goes_on
          c.args.decoder.decoder.inner_sink c.requires.sink;
    }

pub loop-at-preserved : goal.loop-at-preserved
loop-at-preserved c =
    let start = c.args.decoder.decoder.kept in
    let bytes = c.args.bytes.now in
    let at = c.loop-at.at in
    let end = at + c.min.result in
    let old = c.loop-at.decoder.decoder in
    let new = c.process.new.self.decoder in
    let piece = c.in_ok-piece.piece in
    let h = c.in_ok-process.ensures.ok in
    let cut = cut_more bytes piece.bytes at c.min.result c.in_ok-piece.ensures.1.bytes in
    record {
      within = omega arith;
      failed = h.1;
      stands = subst (StandsAt (decoding_from start) after new.inner_sink new.kept) cut
          (stands_on (decoding_from start) (is_decoding_from start c.requires.start) takes after goes_on old.inner_sink
          new.inner_sink old.kept new.kept (take at bytes) piece c.loop-at.invariant.stands h.2);
    }

pub returns-clause-ok : goal.returns-clause-ok
returns-clause-ok c = IfOk-weaker c.finish.result _ _ (λ out h.
    let start = c.args.decoder.decoder.kept in
    let bytes = c.args.bytes.now in
    let last = c.loop-at.decoder.decoder in
    let all : take c.loop-at.at bytes ≡ bytes = take_all c.loop-at.at bytes c.loop-at-test.false in
    let e = ends_at (decoding_from start) (is_decoding_from start c.requires.start) takes after goes_on
    (λ a o. (o.0.bytes ≡ a.text.bytes) × (o.1 ≡ a.malformed)) last.inner_sink last.kept bytes out
    (subst (StandsAt (decoding_from start) after last.inner_sink last.kept) all c.loop-at.invariant.stands) h.1 in
    (e.2.0 ∙ e.1.0, e.2.1 ∙ e.1.1)) c.finish.ensures.ok

pub returns-in_err-process-clause-err : goal.returns-in_err-process-clause-err
returns-in_err-process-clause-err c =
    let bytes = c.args.bytes.now in
    let at = c.loop-at.at in
    let old = c.loop-at.decoder.decoder in
    let piece = c.in_ok-piece.piece in
    let slice = c.in_ok-piece.ensures.1.bytes in
    let p = err_from_is_err_and c.from_residual-in_err-process.result c.from_residual-in_err-process.ensures.1 in
    rw (p.1, p.2) (stops_at_piece c.args.decoder.decoder.kept c.requires.start old.inner_sink old.kept bytes _ at
    (at + c.min.result) piece c.process.new.self.decoder.inner_sink old.failed c.loop-at.invariant.stands
    (cut_more bytes piece.bytes at c.min.result slice) slice c.loop-at.invariant.failed
    c.in_err-process.ensures.err.1)

pub returns-clause-err : goal.returns-clause-err
returns-clause-err c = IfErr-weaker c.finish.result _ _ (λ r h.
    let start = c.args.decoder.decoder.kept in
    let bytes = c.args.bytes.now in
    let last = c.loop-at.decoder.decoder in
    let all : take c.loop-at.at bytes ≡ bytes = take_all c.loop-at.at bytes c.loop-at-test.false in
    elim h [
      | inl gone ↦ absurd (true≢false (sym gone.0 ∙ c.loop-at.invariant.failed))
      | inr live ↦
          stops_at_end start c.requires.start last.inner_sink last.kept bytes r
          (subst (StandsAt (decoding_from start) after last.inner_sink last.kept) all c.loop-at.invariant.stands) live.1
    ]) c.finish.ensures.err
