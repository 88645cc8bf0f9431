-- `add` is one atomic operation on the count.
use Rattle.std.proofs.Common.{◌≡◌, ℕ, ◌+◌, ◌<◌, ◌^◌, true, List, [], ◌∷◌, refl, sym, subst, eqb, w64}
use Rattle.std.proofs.raw_atomic.Walks.{proved}
use base.Logic.{ent, id⊢, via}
use base.Fml.{Fml}
use mir.Val.{Val, vint, vptr}
use contract.Monad.{fact}
use contract.Running.{tables}
use prog.Atomic.{either}
use prog.Wp.{WpFn}
use types.Logic.{sem}
use types.Kit.{‵, raw, prop, mean, at_ret, ◌$◌, ◌∵◌, !, qed, done, drop, use1, fjoin, feq_i, flt_i, regoal, suffices}
use types.Kit.{group}
use types.Run.{enter, of_opd, first, blocks, exec, Calls-last, returns, no_more, and_then}
use types.ByLocal.{alloc_all, pass_all, free_all, look_at, get, sets, lands_last, env}
use denote.Builtin.{u64}
use denote.Exit.{yes}
use denote.Plain.{uint_vals, uint_Tells}
use denote.RawPtr.{Ptr, RawPtr, block_ptr, in_a_block, rawptr_vals, rawptr_Tells}
use denote.Signature.{plain}
use denote.Steps.{nothing, heard}
use denote.Triple.Entry.{on_entry}
use denote.Triple.Walked.{Stays, walk_of, stay_dropped, Goes-dropped, ends_at}
use Rattle.core.proofs.atomic.Steps.{tail}
use Rattle.core.specs.Sync.RawAtomic.{asks, always}
use Rattle.atomic_table.proofs.Calls.{fm, found, finds, exchanges}
use Rattle.tendril_count.specs.Rule.{Any}
use Rattle.tendril_block.specs.Owned.{limit, content, joins, by_parts, joined_to}
use Rattle.tendril_block.proofs.Carved.{low}
use Rattle.tendril_count.proofs.Adding.{joins_at}
use Rattle.tendril_block.specs.contracts.node.any_thread.AnyThreadThreading.add as f
use Rattle.tendril_block.proofs.node.any_thread.AnyThreadThreading.add.Statement.{statement}
use Rattle.tendril_block.proofs.node.any_thread.AnyThreadThreading.add.Code as code

abbrev stayed : Stays f.ended.signature.params f.ended.kept
stayed = (stay_dropped _ yes, (stay_dropped _ yes, (stay_dropped _ yes, tt)))

pub add_spec : {M : Type 1} → statement M
add_spec 𝓤 𝓛 𝓜 𝓡 wired =
    let c = f.clauses 𝓛 𝓜.mem 𝓡.returns in let W = walk_of 𝓛 f.ended stayed c in let 𝓣 = tables 𝓤 𝓛.H 𝓜 𝓡 𝓡.env in
    let number = Goes-dropped 𝓛 0 (plain (λ _. u64)) yes (λ κs x w. refl) in
    proved 𝓛 f.ended stayed c 𝓜 𝓡 (Goes-dropped 𝓛 0 (plain (λ _. RawPtr)) yes (λ κs x w. refl), (number, (number, tt)))
    f.Key.name code.function (code.unfolded 𝓤 𝓛.H 𝓜 𝓡 wired)
    (λ κs. (rawptr_vals, (uint_vals w64, (uint_vals w64, tt))))
    (λ κs. (rawptr_Tells, (uint_Tells w64, (uint_Tells w64, tt)))) (λ κs qs bounds a g are.
    let old = a.1.0 in let new = a.1.1.0 in
    let y : Ptr → W.Ghost = λ p. (
      (
        κs,
        qs,
        bounds,
        (p, (old, (new, tt))),
        (rawptr_vals p, (uint_vals w64 old, (uint_vals w64 new, tt))),
      ),
      g,
    ) in
    qed 𝓛 (raw (on_entry 𝓛 f.signature κs qs a (y a.0).0.4) ∷ raw (fact 𝓤 (old < limit g.0.0)) ∷ raw
    (fact 𝓤 (new ≡ old + 1)) ∷ ‵ (joins true g a.0) ∷ []) ∵ drop ! $ heard ! _ (λ below. heard ! _ (λ next.
    in_a_block ! a.0 (joins true g) (id⊢ 𝓤 _) (λ b o e.
    regoal ! (λ p. prop (WpFn 𝓤 𝓛.H 𝓣.C 𝓣.Λ code.function (denote.RawPtr.ptr_val p ∷ vint w64 old ∷ vint w64 new ∷ [])
    (W.post (y p)))) e refl $
    let after : ℕ → Fml = joined_to true g old (block_ptr b o) in let Post = W.post (y (block_ptr b o)) in
    use1 𝓛 (raw (𝓣.C _ (vptr b o ∷ vint w64 old ∷ vint w64 new ∷ []) (λ r. mean 𝓛 (found after r))))
    (via 𝓤 _ (subst (λ (m : ℕ). ent 𝓤 (sem 𝓛 (by_parts true g b o))
    (asks 𝓛 (block_ptr b o) (λ n. either (eqb n old) m n) always after)) (sym next)
    (joins_at 𝓛 Any (limit g.0.0) (content g.0.1 g.0.2 b g.0.3) b o g.0.4.0 g.0.4.1 (low g.0.0) g.0.4.2 g.0.4.3 tt g.2
    g.1 old below))
    (exchanges 𝓛 𝓜 𝓡 (code.calls-atomic_table::exchange 𝓡.env wired) (block_ptr b o) old new are.1.0.1 are.1.1.0.1
    after)) $
    enter ! _ _ _ _ _ $ alloc_all !
    (λ l. pass_all ! refl (
      (tt, tt),
      ((tt, record { fits = are.1.0.1 }), ((tt, record { fits = are.1.1.0.1 }), tt)),
    ) $
    let Ev = env code.function.locals l in
    first ! $ blocks ! $
    Calls-last ! (fm 𝓛 𝓜 𝓡) (found after)
    (and_then ! (get ! refl) (and_then ! (get ! refl) (and_then ! (get ! refl) (no_more !))))
    (λ r. finds ! after (λ n fits.
    lands_last ! refl (tt, record { fits = fits }) $ exec ! 𝓣.C 𝓣.Λ Ev (tail code.function.body) (at_ret Ev Post) $
    sets ! (of_opd ! (get ! refl)) refl (tt, record { fits = fits }) $
    returns ! (look_at ! 0 refl) $ free_all ! refl $
    suffices ! _ (ends_at 𝓛 f.ended stayed c (y (block_ptr b o)) (vint w64 n) n (tt, (tt, (tt, tt)))
    (tt, (tt, (tt, tt)))) $
    flt_i ! n (2 ^ 64) fits $ feq_i ! (List Val) (vint w64 n ∷ []) (vint w64 n ∷ []) refl $ fjoin ! $
    nothing ! $ nothing ! $ fjoin ! $ nothing ! $ fjoin ! $ nothing ! $ fjoin ! $ nothing ! $ group ! 3 $ done !)))))))
