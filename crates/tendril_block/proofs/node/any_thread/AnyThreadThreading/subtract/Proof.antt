-- `subtract` is one atomic operation on the count.
use Rattle.std.proofs.Common.{ℕ, ◌^◌, true, List, [], ◌∷◌, refl, lit<, w64}
use Rattle.std.proofs.raw_atomic.Walks.{proved}
use base.Logic.{id⊢, via}
use base.Fml.{Fml}
use mir.Val.{Val, vint, vptr}
use contract.Running.{tables}
use prog.Wp.{WpFn}
use types.Kit.{‵, raw, prop, mean, at_ret, ◌$◌, ◌∵◌, !, qed, done, drop, use1, join, fjoin, feq_i, flt_i, regoal}
use types.Kit.{suffices, group}
use types.Run.{enter, of_opd, lit, first, blocks, exec, Calls-last, returns, no_more, and_then}
use types.Part.{agg}
use types.ByLocal.{alloc_all, pass_all, free_all, look_at, get, sets, lands_last, env}
use denote.Exit.{yes}
use denote.RawPtr.{Ptr, RawPtr, block_ptr, in_a_block, rawptr_vals, rawptr_Tells}
use denote.Signature.{plain}
use denote.Steps.{nothing}
use denote.Triple.Entry.{on_entry}
use denote.Triple.Walked.{Stays, walk_of, stay_dropped, Goes-dropped, ends_at}
use Rattle.core.proofs.atomic.Steps.{tail}
use Rattle.atomic_table.proofs.Calls.{fm, seq_cst, found, finds, subs}
use Rattle.tendril_count.specs.Rule.{Any}
use Rattle.tendril_block.specs.Owned.{limit, content, holds, left}
use Rattle.tendril_block.proofs.Carved.{low}
use Rattle.tendril_count.proofs.Subtracting.{subtracts}
use Rattle.tendril_block.specs.contracts.node.any_thread.AnyThreadThreading.subtract as f
use Rattle.tendril_block.proofs.node.any_thread.AnyThreadThreading.subtract.Statement.{statement}
use Rattle.tendril_block.proofs.node.any_thread.AnyThreadThreading.subtract.Code as code

abbrev stayed : Stays f.ended.signature.params f.ended.kept
stayed = (stay_dropped _ yes, tt)

pub subtract_spec : {M : Type 1} → statement M
subtract_spec 𝓤 𝓛 𝓜 𝓡 wired =
    let c = f.clauses 𝓛 𝓜.mem 𝓡.returns in let W = walk_of 𝓛 f.ended stayed c in let 𝓣 = tables 𝓤 𝓛.H 𝓜 𝓡 𝓡.env in
    proved 𝓛 f.ended stayed c 𝓜 𝓡 (Goes-dropped 𝓛 0 (plain (λ _. RawPtr)) yes (λ κs x w. refl), tt)
    f.Key.name code.function (code.unfolded 𝓤 𝓛.H 𝓜 𝓡 wired)
    (λ κs. (rawptr_vals, tt)) (λ κs. (rawptr_Tells, tt)) (λ κs qs bounds a g are.
    let y : Ptr → W.Ghost = λ p. ((κs, qs, bounds, (p, tt), (rawptr_vals p, tt)), g) in
    qed 𝓛 (raw (on_entry 𝓛 f.signature κs qs a (y a.0).0.4) ∷ ‵ (holds true g a.0) ∷ []) ∵ drop ! $
    in_a_block ! a.0 (holds true g) (id⊢ 𝓤 _) (λ b o e.
    regoal ! (λ p. prop (WpFn 𝓤 𝓛.H 𝓣.C 𝓣.Λ code.function (rawptr_vals p) (W.post (y p)))) e refl $
    let after : ℕ → Fml = left true g (block_ptr b o) in let Post = W.post (y (block_ptr b o)) in
    use1 𝓛 (raw (𝓣.C _ (vptr b o ∷ vint w64 1 ∷ seq_cst ∷ []) (λ r. mean 𝓛 (found after r))))
    (via 𝓤 _ (subtracts 𝓛 Any (limit g.0) (content g.1 g.2 b g.3) b o g.4.0 g.4.1 (low g.0) g.4.2 g.4.3 tt)
    (subs 𝓛 𝓜 𝓡 (code.calls-core::raw_atomic::fetch_sub 𝓡.env wired) (block_ptr b o) 1 (lit< tt) after)) $
    enter ! _ _ _ _ _ $ alloc_all ! (λ l. pass_all ! refl ((tt, tt), tt) $ let Ev = env code.function.locals l in
    first ! $ blocks ! $ sets ! (agg ! (and_then ! (lit ! tt) (no_more !))) refl (tt, (record { fits = lit< tt }, tt)) $
    Calls-last ! (fm 𝓛 𝓜 𝓡) (found after)
    (and_then ! (get ! refl) (and_then ! (lit ! tt) (and_then ! (get ! refl) (no_more !))))
    (λ r. finds ! after (λ n fits.
    lands_last ! refl (tt, record { fits = fits }) $ exec ! 𝓣.C 𝓣.Λ Ev (tail code.function.body) (at_ret Ev Post) $
    sets ! (of_opd ! (get ! refl)) refl (tt, record { fits = fits }) $
    returns ! (look_at ! 0 refl) $ free_all ! refl $
    suffices ! _ (ends_at 𝓛 f.ended stayed c (y (block_ptr b o)) (vint w64 n) n (tt, tt) (tt, tt)) $
    flt_i ! n (2 ^ 64) fits $ feq_i ! (List Val) (vint w64 n ∷ []) (vint w64 n ∷ []) refl $ fjoin ! $
    nothing ! $ nothing ! $ join ! $ nothing ! $ group ! 3 $ done !)))))
