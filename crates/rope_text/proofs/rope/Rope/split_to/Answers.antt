use Rattle.std.proofs.Common.{◌≡◌, ◌+◌, ◌<◌, ◌≤◌, ◌∷◌, [], ◌++◌, length, get_or, set, take, refl, sym, ap, subst, ◌∙◌}
use Rattle.std.proofs.Common.{arith, inl, inr}
use Rattle.std.specs.Str.{IsCharBoundary}
use Rattle.std.proofs.lemmas.Bool.{cases_lt}
use Rattle.std.proofs.lemmas.Str.{IsUtf8-nil}
use Rattle.rope_text.proofs.Shared.{slice_refused}
use Rattle.rope_text.proofs.Split.{cut_as, first_left, front_of_piece, long_front, split_between, split_within}
use Rattle.rope_text.specs.Ropes.{RopeText, piece_at}
use Rattle.rope_text.specs.Splits.{HasLongFront}
use Rattle.tendril_text.specs.TextLists.{bytes_of_all}
use Rattle.tendril_text.specs.Texts.{Text}
use Rattle.rope_text.proofs.rope.Rope.split_to.Goals as goal

pub front_at-requires-clause-valid : goal.front_at-requires-clause-valid
front_at-requires-clause-valid g c =
    let xs = c.self.inside.pieces.items in
    let whole = c.args.whole in
    let within = c.args.within in
    let found = c.requires in
    let place : length (bytes_of_all (take whole xs)) + within ≡ c.args.count =
    subst (λ (r : RopeText). length (bytes_of_all (take whole r.pieces)) + within ≡ c.args.count)
    (sym c.self.view_is) found.place in
    let cut = subst (λ (r : RopeText). IsCharBoundary r.bytes c.args.count) (sym c.self.view_is) c.requires.cut in
    elim (cases_lt 0 within) [
      | inl some ↦
          let h : whole < length xs = subst (λ (r : RopeText). whole < length r.pieces) (sym c.self.view_is)
          (found.next some) in
          let inside : within < length (piece_at xs whole).bytes =
          subst (λ (r : RopeText). within < length (piece_at r.pieces whole).bytes) (sym c.self.view_is)
          (found.within some) in
          (front_of_piece xs whole within c.args.count c.self.invariant.each h inside place cut).0
      | inr none ↦ let zero_within : within ≡ 0 = omega arith in rw zero_within IsUtf8-nil
    ]

pub returns-in-Err : goal.returns-in-Err
returns-in-Err g c =
    let xs = c.self.inside.pieces.items in
    let whole = c.args.whole in
    let within = c.args.within in
    let found = c.requires in
    let place : length (bytes_of_all (take whole xs)) + within ≡ c.args.count =
    subst (λ (r : RopeText). length (bytes_of_all (take whole r.pieces)) + within ≡ c.args.count)
    (sym c.self.view_is) found.place in
    let cut = subst (λ (r : RopeText). IsCharBoundary r.bytes c.args.count) (sym c.self.view_is) c.requires.cut in
    let full = slice_refused (piece_at xs whole).bytes 0 within c.in-Err.error c.in-Err.ensures in
    let long = full.1 in
    let some : 0 < within = omega arith in
    let h : whole < length xs = subst (λ (r : RopeText). whole < length r.pieces) (sym c.self.view_is)
    (found.next some) in
    let inside : within < length (piece_at xs whole).bytes =
    subst (λ (r : RopeText). within < length (piece_at r.pieces whole).bytes) (sym c.self.view_is)
    (found.within some) in
    let both = front_of_piece xs whole within c.args.count c.self.invariant.each h inside place cut in
    let front = long_front xs whole within c.args.count h inside place full.1 in (
      inr (
        tt,
        inl (
          c.from.ensures ∙ full.0,
          subst (λ (r : RopeText). HasLongFront r.pieces c.args.count)
              c.self.view_is front,
        ),
      ),
      refl,
    )

pub pop_front-requires-clause-within : goal.pop_front-requires-clause-within
pop_front-requires-clause-within g c =
    let xs = c.self.inside.pieces.items in
    let whole = c.args.whole in
    let within = c.args.within in
    let found = c.requires in
    let place : length (bytes_of_all (take whole xs)) + within ≡ c.args.count =
    subst (λ (r : RopeText). length (bytes_of_all (take whole r.pieces)) + within ≡ c.args.count)
    (sym c.self.view_is) found.place in
    let cut = subst (λ (r : RopeText). IsCharBoundary r.bytes c.args.count) (sym c.self.view_is) c.requires.cut in
    let some : 0 < within = omega arith in
    let h : whole < length xs = subst (λ (r : RopeText). whole < length r.pieces) (sym c.self.view_is)
    (found.next some) in
    let inside : within < length (piece_at xs whole).bytes =
    subst (λ (r : RopeText). within < length (piece_at r.pieces whole).bytes) (sym c.self.view_is)
    (found.within some) in
    let both = front_of_piece xs whole within c.args.count c.self.invariant.each h inside place cut in
    let read = first_left xs whole c.index_mut.result.now h (c.index_mut.ensures.value
    ∙ ap (λ l. get_or l 0 c.index_mut.result.now) c.move_front.ensures.left) in
    let same = ap (λ (t : Text). length t.bytes) read in
    omega arith

pub pop_front-requires-clause-valid : goal.pop_front-requires-clause-valid
pop_front-requires-clause-valid g c =
    let xs = c.self.inside.pieces.items in
    let whole = c.args.whole in
    let within = c.args.within in
    let found = c.requires in
    let place : length (bytes_of_all (take whole xs)) + within ≡ c.args.count =
    subst (λ (r : RopeText). length (bytes_of_all (take whole r.pieces)) + within ≡ c.args.count)
    (sym c.self.view_is) found.place in
    let cut = subst (λ (r : RopeText). IsCharBoundary r.bytes c.args.count) (sym c.self.view_is) c.requires.cut in
    let some : 0 < within = omega arith in
    let h : whole < length xs = subst (λ (r : RopeText). whole < length r.pieces) (sym c.self.view_is)
    (found.next some) in
    let inside : within < length (piece_at xs whole).bytes =
    subst (λ (r : RopeText). within < length (piece_at r.pieces whole).bytes) (sym c.self.view_is)
    (found.within some) in
    let both = front_of_piece xs whole within c.args.count c.self.invariant.each h inside place cut in
    let read = first_left xs whole c.index_mut.result.now h (c.index_mut.ensures.value
    ∙ ap (λ l. get_or l 0 c.index_mut.result.now) c.move_front.ensures.left) in
    rw read both.1

pub invariant_of-self : goal.invariant_of-self
invariant_of-self g c =
    let xs = c.self.inside.pieces.items in
    let whole = c.args.whole in
    let within = c.args.within in
    let found = c.requires in
    let place : length (bytes_of_all (take whole xs)) + within ≡ c.args.count =
    subst (λ (r : RopeText). length (bytes_of_all (take whole r.pieces)) + within ≡ c.args.count)
    (sym c.self.view_is) found.place in
    let cut = subst (λ (r : RopeText). IsCharBoundary r.bytes c.args.count) (sym c.self.view_is) c.requires.cut in
    let some : 0 < within = omega arith in
    let h : whole < length xs = subst (λ (r : RopeText). whole < length r.pieces) (sym c.self.view_is)
    (found.next some) in
    let inside : within < length (piece_at xs whole).bytes =
    subst (λ (r : RopeText). within < length (piece_at r.pieces whole).bytes) (sym c.self.view_is)
    (found.within some) in
    let both = front_of_piece xs whole within c.args.count c.self.invariant.each h inside place cut in
    let read = first_left xs whole c.index_mut.result.now h (c.index_mut.ensures.value
    ∙ ap (λ l. get_or l 0 c.index_mut.result.now) c.move_front.ensures.left) in
    let split = split_within xs c.self.inside.start whole within c.self.inside.total c.args.count c.in-Ok.part
    c.index_mut.result.now c.pop_front.new.self c.self.inside.ends.items h some inside place both.0 both.1
    c.in-Ok.ensures.1.bytes c.in-Ok.ensures.1.copied read c.pop_front.ensures.bytes c.pop_front.ensures.copied
    c.self.invariant in
    rw (c.move_front.ensures.left, c.move_front-2.ensures.left) split.rest

pub invariant_of-result : goal.invariant_of-result
invariant_of-result g c =
    let xs = c.self.inside.pieces.items in
    let whole = c.args.whole in
    let within = c.args.within in
    let found = c.requires in
    let place : length (bytes_of_all (take whole xs)) + within ≡ c.args.count =
    subst (λ (r : RopeText). length (bytes_of_all (take whole r.pieces)) + within ≡ c.args.count)
    (sym c.self.view_is) found.place in
    let cut = subst (λ (r : RopeText). IsCharBoundary r.bytes c.args.count) (sym c.self.view_is) c.requires.cut in
    let some : 0 < within = omega arith in
    let h : whole < length xs = subst (λ (r : RopeText). whole < length r.pieces) (sym c.self.view_is)
    (found.next some) in
    let inside : within < length (piece_at xs whole).bytes =
    subst (λ (r : RopeText). within < length (piece_at r.pieces whole).bytes) (sym c.self.view_is)
    (found.within some) in
    let both = front_of_piece xs whole within c.args.count c.self.invariant.each h inside place cut in
    let read = first_left xs whole c.index_mut.result.now h (c.index_mut.ensures.value
    ∙ ap (λ l. get_or l 0 c.index_mut.result.now) c.move_front.ensures.left) in
    let split = split_within xs c.self.inside.start whole within c.self.inside.total c.args.count c.in-Ok.part
    c.index_mut.result.now c.pop_front.new.self c.self.inside.ends.items h some inside place both.0 both.1
    c.in-Ok.ensures.1.bytes c.in-Ok.ensures.1.copied read c.pop_front.ensures.bytes c.pop_front.ensures.copied
    c.self.invariant in
    rw (
      c.push_back_reserved.ensures.items,
      c.push_back_reserved-then-within-gt0.ensures.items,
      c.move_front.ensures.moved,
      c.move_front-2.ensures.moved,
    ) split.front

pub returns-then-within-gt0 : goal.returns-then-within-gt0
returns-then-within-gt0 g c =
    let xs = c.self.inside.pieces.items in
    let whole = c.args.whole in
    let within = c.args.within in
    let found = c.requires in
    let place : length (bytes_of_all (take whole xs)) + within ≡ c.args.count =
    subst (λ (r : RopeText). length (bytes_of_all (take whole r.pieces)) + within ≡ c.args.count)
    (sym c.self.view_is) found.place in
    let cut = subst (λ (r : RopeText). IsCharBoundary r.bytes c.args.count) (sym c.self.view_is) c.requires.cut in
    let some : 0 < within = omega arith in
    let h : whole < length xs = subst (λ (r : RopeText). whole < length r.pieces) (sym c.self.view_is)
    (found.next some) in
    let inside : within < length (piece_at xs whole).bytes =
    subst (λ (r : RopeText). within < length (piece_at r.pieces whole).bytes) (sym c.self.view_is)
    (found.within some) in
    let both = front_of_piece xs whole within c.args.count c.self.invariant.each h inside place cut in
    let read = first_left xs whole c.index_mut.result.now h (c.index_mut.ensures.value
    ∙ ap (λ l. get_or l 0 c.index_mut.result.now) c.move_front.ensures.left) in
    let split = split_within xs c.self.inside.start whole within c.self.inside.total c.args.count c.in-Ok.part
    c.index_mut.result.now c.pop_front.new.self c.self.inside.ends.items h some inside place both.0 both.1
    c.in-Ok.ensures.1.bytes c.in-Ok.ensures.1.copied read c.pop_front.ensures.bytes c.pop_front.ensures.copied
    c.self.invariant in (
      tt,
      cut_as c.args.count xs _ _ c.push_back_reserved.new.self.items
          (set c.move_front.new.from.items 0 c.pop_front.new.self) c.args.self.now
          (c.push_back_reserved.ensures.items ∙ ap (λ l. l ++ c.in-Ok.part ∷ []) c.move_front.ensures.moved)
          (ap (λ l. set l 0 c.pop_front.new.self) c.move_front.ensures.left) c.self.view_is split.cut,
    )

pub invariant_of-self-else-within-gt0 : goal.invariant_of-self-else-within-gt0
invariant_of-self-else-within-gt0 g c =
    let xs = c.self.inside.pieces.items in
    let whole = c.args.whole in
    let within = c.args.within in
    let found = c.requires in
    let place : length (bytes_of_all (take whole xs)) + within ≡ c.args.count =
    subst (λ (r : RopeText). length (bytes_of_all (take whole r.pieces)) + within ≡ c.args.count)
    (sym c.self.view_is) found.place in
    let cut = subst (λ (r : RopeText). IsCharBoundary r.bytes c.args.count) (sym c.self.view_is) c.requires.cut in
    let most : whole ≤ length xs = subst (λ (r : RopeText). whole ≤ length r.pieces) (sym c.self.view_is) found.piece in
    let split = split_between xs c.self.inside.start whole c.self.inside.total c.args.count c.self.inside.ends.items
    most (omega arith) c.self.invariant in
    rw (c.move_front.ensures.left, c.move_front-2.ensures.left) split.rest

pub invariant_of-result-2 : goal.invariant_of-result-2
invariant_of-result-2 g c =
    let xs = c.self.inside.pieces.items in
    let whole = c.args.whole in
    let within = c.args.within in
    let found = c.requires in
    let place : length (bytes_of_all (take whole xs)) + within ≡ c.args.count =
    subst (λ (r : RopeText). length (bytes_of_all (take whole r.pieces)) + within ≡ c.args.count)
    (sym c.self.view_is) found.place in
    let cut = subst (λ (r : RopeText). IsCharBoundary r.bytes c.args.count) (sym c.self.view_is) c.requires.cut in
    let most : whole ≤ length xs = subst (λ (r : RopeText). whole ≤ length r.pieces) (sym c.self.view_is) found.piece in
    let split = split_between xs c.self.inside.start whole c.self.inside.total c.args.count c.self.inside.ends.items
    most (omega arith) c.self.invariant in
    rw (c.move_front.ensures.moved, c.move_front-2.ensures.moved) split.front

pub returns : goal.returns
returns g c =
    let xs = c.self.inside.pieces.items in
    let whole = c.args.whole in
    let within = c.args.within in
    let found = c.requires in
    let place : length (bytes_of_all (take whole xs)) + within ≡ c.args.count =
    subst (λ (r : RopeText). length (bytes_of_all (take whole r.pieces)) + within ≡ c.args.count)
    (sym c.self.view_is) found.place in
    let cut = subst (λ (r : RopeText). IsCharBoundary r.bytes c.args.count) (sym c.self.view_is) c.requires.cut in
    let most : whole ≤ length xs = subst (λ (r : RopeText). whole ≤ length r.pieces) (sym c.self.view_is) found.piece in
    let split = split_between xs c.self.inside.start whole c.self.inside.total c.args.count c.self.inside.ends.items
    most (omega arith) c.self.invariant in (
      tt,
      cut_as c.args.count xs _ _ c.move_front.new.to.items c.move_front.new.from.items c.args.self.now
          c.move_front.ensures.moved c.move_front.ensures.left c.self.view_is split.cut,
    )
