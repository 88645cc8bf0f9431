use Rattle.tendril_stream.proofs.Walks.{refl, [], ◌∷◌, proved, vstruct, vnil, named, ‵, raw, ◌⊛◌, ◌$◌, ◌∵◌, !, qed}
use Rattle.tendril_stream.proofs.Walks.{move, keep, split, fjoin, suffices, done, no_more, returns, enter, agg}
use Rattle.tendril_stream.proofs.Walks.{alloc_all, pass_all, free_all, look_at, sets, usize, yes, owns, shr_vals}
use Rattle.tendril_stream.proofs.Walks.{shr_Tells, types_at, pure_i, plain, nothing, alive, Stays, says, stay_dropped}
use Rattle.tendril_stream.proofs.Walks.{Goes-dropped, ends_at}
use Rattle.std.proofs.Common.{List, ◌++◌}
use denote.Builtin.{RefOf, SliceRefOf, u8}
use denote.Slice.{shr_slice_vals, shr_slice_Tells}
use Rattle.tendril_stream.specs.Reads.{OneRead, read_of}
use denote.RattleType.{RattleType}
use Rattle.std.specs.contracts.result.Result as Answer
use Rattle.tendril_stream.specs.contracts.counted_read.ReadFault as fault
use Rattle.tendril_stream.specs.contracts.log.Log as made
use Rattle.tendril_stream.specs.contracts.log.Log.after as f
use Rattle.tendril_stream.proofs.log.Log.after.Statement.{statement}
use Rattle.tendril_stream.proofs.log.Log.after.Code as code

-- what a read returns
abbrev ReadRow : RattleType
ReadRow = Answer.the_row usize fault.the_row

abbrev stayed : Stays f.ended.signature.params f.ended.kept
stayed = (stay_dropped _ yes, (stay_dropped _ yes, (stay_dropped _ yes, tt)))

pub after_spec : {M : Type 1} → statement M
after_spec 𝓤 𝓛 𝓜 𝓡 wired =
    let c = f.clauses 𝓛 𝓜.mem 𝓡.returns in
    proved 𝓛 f.ended stayed c 𝓜 𝓡 (
      Goes-dropped 𝓛 3 (RefOf (0 ∷ []) tt (plain (λ _. made.the_row)) (λ _. tt)) yes (λ κs x w. refl),
      (
        Goes-dropped 𝓛 3 (RefOf (1 ∷ []) tt (plain (λ _. ReadRow)) (λ _. tt)) yes (λ κs x w. refl),
        (Goes-dropped 𝓛 3 (SliceRefOf (2 ∷ []) tt (plain (λ _. u8)) (λ _. tt)) yes (λ κs x w. refl), tt),
      ),
    ) f.Key.name code.function (code.unfolded 𝓤 𝓛.H 𝓜 𝓡 wired)
    (λ κs. (shr_vals, (shr_vals, (shr_slice_vals, tt))))
    (λ κs. (
      shr_Tells (named 0) κs.0 made.the_row,
      (shr_Tells (named 1) κs.1.0 ReadRow, (shr_slice_Tells (named 2) κs.1.1.0 u8, tt)),
    ))
    (λ κs qs bounds a g are.
    let l : List OneRead = a.0.now.reads ++ read_of a.1.0.now a.1.1.0.now ∷ [] in
    let vss : denote.RattleType.Valss (types_at f.signature.params κs) =
    (shr_vals a.0, (shr_vals a.1.0, (shr_slice_vals a.1.1.0, tt))) in
    qed 𝓛 ((raw (alive 𝓛 f.signature κs qs) ⊛ ‵ (owns (types_at f.signature.params κs) a vss)) ∷ raw
    ((c κs a).requires g) ∷ []) ∵
    keep ! (0 ∷ []) $ split ! $ keep ! (0 ∷ []) $
    enter ! _ _ _ _ _ $ alloc_all !
    (λ x. pass_all ! refl ((tt, tt), ((tt, tt), ((tt, (tt, (record { fits = are.1.1.0.0.1.0 }, tt))), tt))) $
    sets ! (agg ! (no_more !)) refl (tt, tt) $
    returns ! (look_at ! 0 refl) $ free_all ! refl $
    suffices ! _ (ends_at 𝓛 f.ended stayed c ((κs, qs, bounds, a, vss), g) (vstruct vnil) (record { reads = l })
    (tt, (tt, (tt, tt))) (tt, (tt, (tt, tt)))) $ says ! refl $
    pure_i ! (made.the_row.own_val (record { reads = l }) (vstruct vnil ∷ [])) ((λ vss. (tt, tt)), tt)
    ((tt, (refl, tt)), tt) $
    nothing ! $ nothing ! $ fjoin ! $ nothing ! $ fjoin ! $ nothing ! $ fjoin ! $ move ! (2 ∷ 0 ∷ 1 ∷ []) $ done !))
