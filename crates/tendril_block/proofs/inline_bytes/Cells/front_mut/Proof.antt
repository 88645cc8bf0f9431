-- `front_mut` borrows the first bytes of an array: they are split off, and joined with the others when the borrow ends.
use Rattle.std.proofs.Common.{◌≡◌, ℕ, ◌+◌, ◌^◌, ◌<◌, ◌≤◌, List, [], ◌∷◌, ◌++◌, length, take, drop, take-append-drop}
use Rattle.std.proofs.Common.{length-drop, length-append, length-take-le, refl, sym, ap, ◌∙◌, arith, w64}
use Rattle.std.proofs.raw_atomic.Walks.{proved}
use mir.Syntax.{named, w8, ty_int, ty_array, ty_struct}
use mir.Val.{Val, vptr, vint}
use base.Logic.{SProp, ent, sep, ex, guard}
use base.Fml.{Fml, Lft, GName, Share, ftrue, fsep, feq, flft, fleft}
use types.Logic.{Logic, sem}
use types.Mut.{open_ref}
use types.Kit.{Item, ‵, ◌⊛◌, raw, given, some, later, ◌$◌, ◌∵◌, !, qed, by, move, keep, split, split3, join, learn}
use types.Kit.{fsplit, fsplit3, use1, use2, await, pick, suffices, frame, done, updating, group, now, show, rewrite}
use types.Kit.{feq_l}
use types.Kit.{fjoin, feq_i, check}
use types.Kit as Kit
use types.Run.{stop, fld, addr, and_then, no_more, returns, enter}
use types.ByLocal.{alloc_all, pass_all, free_all, look_at, get, through, sets}
use types.Part.{agg}
use types.SemTy.{cells}
use contract.Running.{tables}
use denote.Array.{Array, Array-Lawful}
use denote.ArrayMemory.{Array-apart, Array-whole}
use denote.Builtin.{u8, usize}
use denote.Exit.{yes, no}
use denote.Follow.{follows}
use denote.FollowSlice.{lends_Elements}
use denote.Index.{row, whole_in, whole_out}
use denote.Memory.{mem, part_at}
use denote.Plain.{uint_vals, uint_Tells, uint_Lawful}
use denote.Struct.Members.{Member, parts_at, raw_tys, lawful_Lones}
use denote.Struct.Parts.{Struct-left, left_Struct}
use denote.RattleType.{RattleType, owns}
use denote.Ref.{MutRef, mut_vals, mut_Tells}
use denote.Signature.{plain}
use denote.Slice.{MutSlice, Room, slice_val}
use denote.Steps.{nothing, heard}
use denote.Triple.Entry.{on_entry}
use denote.Triple.Walked.{says, Stays, stay_dropped, walk_of, ends_at, Goes-dropped, Goes-spent_ref}
use base.Fraction.{full_share}
use borrow.Table.Elements.{at, cut_app, join_app}
use lib.Seq.{take_all}
use seplogic.Ra.Ura.{Ura}
use Rattle.tendril_block.specs.contracts.inline_bytes.Cells.front_mut as f
use Rattle.tendril_block.specs.contracts.inline_bytes.Cells as cells_of
use Rattle.tendril_block.specs.declared.inline_bytes.Cells.{Cells}
use Rattle.tendril_block.specs.Cells.{with_front}
use Rattle.std.specs.List.{refill}
use Rattle.tendril_block.proofs.inline_bytes.Cells.front_mut.Statement.{statement}
use Rattle.tendril_block.proofs.inline_bytes.Cells.front_mut.Code as code

abbrev stayed : Stays f.ended.signature.params f.ended.kept
stayed = (stay_dropped _ no, (stay_dropped _ yes, tt))

abbrev S : RattleType
S = cells_of.the_row

abbrev members : List Member
members = record { row = Array u8 40; ty = ty_array (ty_int w8) 40 } ∷ []

-- m bytes ws, then all but the first m of an array, are the array overwritten by ws
whole_again : (m : ℕ) (xs ws : List ℕ) → m ≤ length xs → length ws ≡ m → ws ++ drop m xs ≡ refill (length xs) xs ws
whole_again m xs ws le e =
    sym (take_all (length xs) (ws ++ drop m xs)
    (omega (arith, length-append ws (drop m xs), length-drop m xs, le, e)))
    ∙ ap (λ (k : ℕ). take (length xs) (ws ++ drop k xs)) (sym e)

module _ {M : Type 1} {𝓤 : Ura M} (𝓛 : Logic 𝓤) (κ : Lft) (q : Share) (b o : ℕ) (γ : GName) (d : Cells) (m : ℕ) where
  open 𝓛 use {H, A}

  abbrev xs : List ℕ
  xs = d.bytes

  abbrev first : List ℕ
  first = take m xs

  abbrev back : List ℕ
  back = drop m xs

  abbrev elements : List ℕ → ℕ → Fml
  elements ws = cells (mem u8) ws b

  abbrev past : ℕ → ℕ
  past = at (o + 0) (mem u8).size

  -- what is owned of the struct while its field is borrowed
  abbrev Left : Fml
  Left = fleft full_share (ty_struct [] (raw_tys members)) (raw_tys members) b o

  out : ent 𝓤 (sem 𝓛 ((mem S).own_at d b o))
      (guard 𝓤 (length xs ≡ 40) (sep 𝓤 (sem 𝓛 (elements xs (o + 0))) (sem 𝓛 Left)))
  unfolding denote.Memory.part_of
  out = let lones = lawful_Lones 𝓛 members (Array-Lawful 𝓛 u8 (uint_Lawful 𝓛 w8) 40, tt) in
      qed 𝓛 (‵ (part_at S full_share d b o) ∷ []) ∵
      use1 𝓛 (‵ (parts_at full_share members 0 (xs, tt) b o) ⊛ ‵ Left)
      (Struct-left 𝓛 full_share (cells_of.the_type).name members lones (xs, tt) b o) $ split ! $ fsplit ! $
      move ! (1 ∷ []) $ Kit.drop ! $
      use1 𝓛 (‵ (fsep (feq ℕ (length xs) 40) (row u8 full_share xs b (o + 0))))
      (Array-apart 𝓛 u8 full_share tt 40 xs b (o + 0)) $ fsplit ! $ feq_l ! (λ long.
      use1 𝓛 (‵ (elements xs (o + 0))) (whole_in 𝓛 u8 xs b (o + 0)) $ check ! long $ done !)

  in_again : (c : Cells) → length c.bytes ≡ 40 → ent 𝓤 (sep 𝓤 (sem 𝓛 (elements c.bytes (o + 0))) (sem 𝓛 Left))
      (sem 𝓛 ((mem S).own_at c b o))
  unfolding denote.Memory.part_of
  in_again c long = let ys = c.bytes in qed 𝓛 (‵ (elements ys (o + 0)) ∷ ‵ Left ∷ []) ∵
      use1 𝓛 (‵ (row u8 full_share ys b (o + 0))) (whole_out 𝓛 u8 ys b (o + 0)) $ feq_i ! ℕ (length ys) 40 long $
      fjoin ! $
      use1 𝓛 (‵ (part_at (Array u8 40) full_share ys b (o + 0))) (Array-whole 𝓛 u8 full_share 40 ys b (o + 0)) $
      nothing ! $ move ! (1 ∷ 0 ∷ []) $ fjoin ! $
      use2 𝓛 {i = ‵ (parts_at full_share members 0 (ys, tt) b o)} {j = ‵ Left} (‵ (part_at S full_share c b o))
      (left_Struct 𝓛 full_share (cells_of.the_type).name members (ys, tt) b o) $ done !

  put : m ≤ 40 → length xs ≡ 40 → (ws : List ℕ) → length ws ≡ length first
      → ent 𝓤 (sep 𝓤 (sem 𝓛 (elements ws (o + 0))) (sep 𝓤 (sem 𝓛 (elements back (past (length first)))) (sem 𝓛 Left)))
      (sem 𝓛 ((mem S).own_at (with_front d ws) b o))
  put within long ws e =
      let count : length first ≡ m = length-take-le m xs (omega (arith, within, long)) in
      let same = whole_again m xs ws (omega (arith, within, long)) (e ∙ count) in
      let all : length (with_front d ws).bytes ≡ 40 = ap length (sym same)
      ∙ omega (arith, length-append ws (drop m xs), length-drop m xs, long, within, e, count) in
      qed 𝓛 (‵ (elements ws (o + 0)) ∷ ‵ (elements back (past (length first))) ∷ ‵ Left ∷ []) ∵
      rewrite ! 1 (λ (k : ℕ). ‵ (elements back (past k))) (sym e) refl $
      use2 𝓛 (‵ (elements (ws ++ back) (o + 0))) (join_app 𝓛 (mem u8) ws back b (o + 0)) $
      rewrite ! 0 (λ (l : List ℕ). ‵ (elements l (o + 0))) same refl $ by ! (in_again (with_front d ws) all)

  abbrev Lent : ℕ → GName → SProp 𝓤
  Lent k δ = sep 𝓤 (sem 𝓛 ((MutSlice (named 0) κ u8).own_val
      (record { ref_ptr = (b, o + 0); ghost_name = δ; now = first }) (slice_val (b, o + 0) k ∷ [])))
      (sep 𝓤 (A.lft κ q) (sem 𝓛 (follows S (Array u8 0) γ δ (with_front d))))

  abbrev lent : ℕ → GName → Item 𝓤
  lent k δ = ‵ ((MutSlice (named 0) κ u8).own_val (record { ref_ptr = (b, o + 0); ghost_name = δ; now = first })
      (slice_val (b, o + 0) k ∷ [])) ⊛ ‵ (flft κ q) ⊛ ‵ (follows S (Array u8 0) γ δ (with_front d))

  lends : m ≤ 40 → m < 2 ^ 64 → (vs : List Val)
      → ent 𝓤 (sep 𝓤 (sem 𝓛 ((MutRef (named 0) κ S).own_val (record { ref_ptr = (b, o); ghost_name = γ; now = d })
      vs)) (A.lft κ q)) (H.⇛ (ex 𝓤 (Lent m)))
  lends within small vs = let Rest : SProp 𝓤 = sep 𝓤 (sem 𝓛 (elements back (past (length first)))) (sem 𝓛 Left) in
      qed 𝓛 (‵ ((MutRef (named 0) κ S).own_val (record { ref_ptr = (b, o); ghost_name = γ; now = d }) vs) ∷ ‵
      (flft κ q) ∷ []) ∵
      updating ! $ fsplit3 ! $ Kit.drop ! $ open_ref ! tt (mem S) {b = b} {o = o} $
      use1 𝓛 (given (length xs ≡ 40) (‵ (elements xs (o + 0)) ⊛ ‵ Left)) out $ learn ! (λ long. split ! $
      let count : length first ≡ m = length-take-le m xs (omega (arith, within, long)) in
      let room : Room u8 (length first) = (omega (arith, count, small), omega (arith, count, within)) in
      rewrite ! 0 (λ (l : List ℕ). ‵ (elements l (o + 0))) (sym (take-append-drop m xs)) refl $
      use1 𝓛 (‵ (elements first (o + 0)) ⊛ ‵ (elements back (past (length first))))
      (cut_app 𝓛 (mem u8) first back b (o + 0)) $ split ! $
      move ! (1 ∷ 2 ∷ []) $ join ! $ move ! (2 ∷ 3 ∷ 4 ∷ 1 ∷ 0 ∷ []) $ group ! 5 $
      use1 𝓛 (later (some (lent (length first))))
      (lends_Elements 𝓛 S u8 (with_front d) (named 0) κ q b o b (o + 0) γ first room Rest (put within long)
      (S.coded.code d) (S.coded.code d)) $
      await ! tt $ pick ! (λ δ. rewrite ! 0 (λ (k : ℕ). lent k δ) count refl $ now ! $ show ! (Lent m) δ $ done !))

pub front_mut_spec : {M : Type 1} → statement M
front_mut_spec 𝓤 𝓛 𝓜 𝓡 wired =
    let H = 𝓛.H in let c = f.clauses 𝓛 𝓜.mem 𝓡.returns in let W = walk_of 𝓛 f.ended stayed c in
    let 𝓣 = tables 𝓤 H 𝓜 𝓡 𝓡.env in
    proved 𝓛 f.ended stayed c 𝓜 𝓡 (
      Goes-spent_ref 𝓛 1 (0 ∷ []) tt (plain (λ _. S)),
      (Goes-dropped 𝓛 1 (plain (λ _. usize)) yes (λ κs x w. refl), tt),
    )
    f.Key.name code.function (code.unfolded 𝓤 H 𝓜 𝓡 wired)
    (λ κs. (mut_vals, (uint_vals w64, tt))) (λ κs. (mut_Tells (named 0) κs.0 S, (uint_Tells w64, tt)))
    (λ κs qs bounds a g are.
    let self = a.0 in let m = a.1.0 in let b = self.ref_ptr.0 in let o = self.ref_ptr.1 in
    let bound : W.Ghost = ((κs, qs, bounds, a, (mut_vals self, (vint w64 m ∷ [], tt))), g) in
    qed 𝓛 (raw (on_entry 𝓛 f.signature κs qs a (mut_vals self, (vint w64 m ∷ [], tt))) ∷ raw
    (contract.Monad.fact 𝓤 (m ≤ 40)) ∷ []) ∵ move ! (1 ∷ []) $ heard ! _ (λ within.
    use1 𝓛 ((‵ (flft κs.0 qs.0) ⊛ ‵ ftrue) ⊛ ‵
    (owns (MutRef (named 0) κs.0 S ∷ usize ∷ []) a (mut_vals self, (vint w64 m ∷ [], tt)))) (base.Logic.id⊢ 𝓤 _) $
    split ! $
    enter ! 𝓣.C 𝓣.Λ code.function (vptr b o ∷ vint w64 m ∷ []) _ $
    alloc_all ! (λ l. pass_all ! refl ((tt, tt), ((tt, record { fits = are.1.0.1 }), tt)) $
    sets ! (addr ! (through ! refl (fld ! refl (stop !)))) refl (tt, tt) $
    sets ! (agg ! (and_then ! (get ! refl) (and_then ! (get ! refl) (no_more !)))) refl
    (tt, (tt, (record { fits = are.1.0.1 }, tt))) $
    split ! $ move ! (2 ∷ []) $ fsplit ! $ move ! (0 ∷ 2 ∷ []) $
    use2 𝓛 (later (some (lent 𝓛 κs.0 qs.0 b o self.ghost_name self.now m m)))
    (lends 𝓛 κs.0 qs.0 b o self.ghost_name self.now m within are.1.0.1 (mut_vals self)) $ await ! tt $ pick ! (λ δ.
    returns ! (look_at ! 0 refl) $ free_all ! refl $ keep ! (0 ∷ 2 ∷ []) $ split3 ! $
    suffices ! _ (ends_at 𝓛 f.ended stayed c bound (slice_val (b, o + 0) m)
    (record { ref_ptr = (b, o + 0); ghost_name = δ; now = take m self.now.bytes }) (tt, (tt, tt)) (tt, (tt, tt))) $
    nothing ! $ nothing ! $ fjoin ! $ nothing ! $ fjoin ! $ join ! $ move ! (1 ∷ 3 ∷ []) $ join ! $ join ! $ frame ! $
    says ! refl $ done !))))
