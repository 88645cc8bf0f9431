use Rattle.tendril_stream.proofs.Walks.{refl, [], ◌∷◌, proved, vstruct, vnil, ‵, raw, ◌⊛◌, ◌$◌, ◌∵◌, !, qed, move, keep}
use Rattle.tendril_stream.proofs.Walks.{split, suffices, done, no_more, returns, enter, agg, alloc_all, pass_all}
use Rattle.tendril_stream.proofs.Walks.{free_all, look_at, sets, owns, types_at, pure_i, alive, Stays, says, ends_at}
use Rattle.tendril_stream.specs.contracts.log.Log as made
use Rattle.tendril_stream.specs.contracts.log.Log.new as f
use Rattle.tendril_stream.proofs.log.Log.new.Statement.{statement}
use Rattle.tendril_stream.proofs.log.Log.new.Code as code

abbrev stayed : Stays f.ended.signature.params f.ended.kept
stayed = tt

pub new_spec : {M : Type 1} → statement M
new_spec 𝓤 𝓛 𝓜 𝓡 wired =
    let c = f.clauses 𝓛 𝓜.mem 𝓡.returns in
    proved 𝓛 f.ended stayed c 𝓜 𝓡 tt f.Key.name code.function (code.unfolded 𝓤 𝓛.H 𝓜 𝓡 wired)
    (λ κs. tt) (λ κs. tt) (λ κs qs bounds a g are.
    qed 𝓛 ((raw (alive 𝓛 f.signature κs qs) ⊛ ‵ (owns (types_at f.signature.params κs) a tt)) ∷ raw
    ((c κs a).requires g) ∷ []) ∵
    keep ! (0 ∷ []) $ split ! $
    enter ! _ _ _ _ _ $ alloc_all ! (λ l. pass_all ! refl tt $ sets ! (agg ! (no_more !)) refl (tt, tt) $
    returns ! (look_at ! 0 refl) $ free_all ! refl $
    suffices ! _ (ends_at 𝓛 f.ended stayed c ((κs, qs, bounds, a, tt), g) (vstruct vnil)
    (record { reads = [] }) tt tt) $ says ! refl $
    pure_i ! (made.the_row.own_val (record { reads = [] }) (vstruct vnil ∷ [])) ((λ vss. (tt, tt)), tt)
    ((tt, (refl, tt)), tt) $
    move ! (1 ∷ 2 ∷ 0 ∷ []) $ done !))
