-- What the contracts of the calls that build a slice imply.
use Rattle.std.proofs.Common.{◌≡◌, ℕ, ◌+◌, ◌<◌, ◌≤◌, List, [], ◌∷◌, length, take, drop, Result, Ok, Err, Bool, true}
use Rattle.std.proofs.Common.{false, not, refl, sym, ap, ◌∙◌, subst, arith, inl, inr}
use Rattle.std.specs.Prelude.{IsUtf8, All, OnErr, OnOk, is_ok, map}
use Rattle.std.specs.Str.{IsCharBoundary}
use Rattle.std.proofs.lemmas.List.{drop_at, drop-drop}
use Rattle.std.proofs.lemmas.List.Elements.{All-cons, All-nil}
use Rattle.std.proofs.lemmas.Str.{IsUtf8-nil}
use Rattle.tendril_errors.specs.declared.refusal.Refusal.{Refusal}
use Rattle.tendril_errors.specs.declared.refusal.Refusal.TheVariants.{Count}
use Rattle.tendril_errors.specs.Outcomes.{Refused}
use Rattle.rope_text.proofs.Joined.{joined_both}
use Rattle.rope_text.proofs.PartsOf.{shares_of_none, shares_of_past}
use Rattle.rope_text.specs.declared.rope.TheConstants.{MAX_TOTAL}
use Rattle.rope_text.specs.Growth.{Grows, RoomMay, TotalMust}
use Rattle.rope_text.specs.Parts.{PartMay, SharesPart, SubRope}
use Rattle.rope_text.specs.Ropes.{RopeText}
use Rattle.tendril_errors.specs.declared.subtendril_error.SubtendrilError.{SubtendrilError}
use Rattle.tendril_errors.specs.Errors.{refusal_of}
use Rattle.tendril_text.specs.Parts.{Slices}
use Rattle.tendril_text.specs.TextLists.{listed_unless_empty, unless_empty, bytes_of_all}
use Rattle.tendril_text.specs.Texts.{Text, ShareCost}

-- the only error of a slice is Count, for more than 8 bytes
pub slice_refused : (b : List ℕ) (offset count : ℕ) (e : SubtendrilError) → Slices b offset count (Err e)
    → (refusal_of e ≡ Count) × (8 < count)
slice_refused b offset count e (inl x) = absurd x
slice_refused b offset count e (inr y) = y.1

-- if a rope isn't too long for the bytes, the only error is Memory
pub growth_refused : (more : List ℕ) (parts : List Text) (old new : RopeText) (r : Refusal)
    → length old.bytes + length more ≤ MAX_TOTAL → Grows more parts old (Err r) new → RoomMay (length more) r
growth_refused more parts old new r fits h = by h.0
  where
    by : Refused (TotalMust (length old.bytes + length more)) (RoomMay (length more)) r → RoomMay (length more) r
    by (inl (inl x)) = absurd (x.0 fits)
    by (inl (inr x)) = absurd x.1
    by (inr y) = y.1

-- the bytes from an offset in a piece on
pub drop_joined : (xs : List Text) (first from at : ℕ) → length (bytes_of_all (take first xs)) + from ≡ at
    → drop from (bytes_of_all (drop first xs)) ≡ drop at (bytes_of_all xs)
drop_joined xs first from at e =
    sym (ap (λ n. drop n (bytes_of_all xs)) (sym e)
    ∙ sym (drop-drop from (length (bytes_of_all (take first xs))) (bytes_of_all xs))
    ∙ ap (λ l. drop from (drop (length (bytes_of_all (take first xs))) l)) (joined_both xs first)
    ∙ ap (λ l. drop from l) (drop_at (bytes_of_all (take first xs)) (bytes_of_all (drop first xs))
    (length (bytes_of_all (take first xs))) refl))

-- the slice that `share` returns is the slice that `sub_rope` returns
pub sub_rope_from : (rope : RopeText) (first from offset count : ℕ) (result : Result RopeText Refusal) → rope.bytes
    ≡ bytes_of_all rope.pieces → length (bytes_of_all (take first rope.pieces)) + from ≡ offset
    → offset + count ≤ length rope.bytes → IsUtf8 (take count (drop offset rope.bytes))
    → SharesPart rope.pieces first from count result → SubRope rope offset count result
sub_rope_from rope first from offset count (Ok made) is e there valid h = (
  (there, (valid, tt)),
  record {
    bytes = h.1.bytes ∙ ap (λ l. take count l) (drop_joined rope.pieces first from offset e
        ∙ ap (λ l. drop offset l) (sym is));
    cut_so = h.1.cut_so ∙ sym (shares_of_past rope.pieces first from offset count e);
    shares = h.1.shares;
  },
)
sub_rope_from rope first from offset count (Err r) is e there valid (inl x) = absurd x
sub_rope_from rope first from offset count (Err r) is e there valid (inr y) =
    inr ((there, (valid, tt)), subst (λ n. PartMay rope.pieces n count r) e y.1)

shares_listed : (b : List ℕ) (t : Text) → ShareCost t → All ShareCost (listed_unless_empty b t)
shares_listed [] t h = All-nil ShareCost
shares_listed (x ∷ xs) t h = All-cons ShareCost t [] h (All-nil ShareCost)

pub shares_piece : (t : Text) → ShareCost t → All ShareCost (unless_empty t)
shares_piece t h = shares_listed t.bytes t h

true_not_false : true ≡ false → ⊥
true_not_false e = cc

pub not_true : (b : Bool) → not b ≡ true → b ≡ false
not_true true e = cc
not_true false e = refl

pub not_false : (b : Bool) → not b ≡ false → b ≡ true
not_false true e = refl
not_false false e = cc

pub cut_at_end : (b : List ℕ) (at : ℕ) → at ≡ length b → IsCharBoundary b at
cut_at_end b at e = (omega arith, λ h. absurd (omega arith))

-- the clause of a call on errors, if it returned an error, and the clause on Ok, if it didn't
pub where_refused : {T E : Type 0} (r : Result T E) (P : Type 0) (b : Bool) → is_ok r ≡ not b → b ≡ true → OnErr r P → P
where_refused (Ok x) P b e is h = absurd (true_not_false (e ∙ ap not is))
where_refused (Err x) P b e is h = h

pub where_answered : {T E : Type 0} (r : Result T E) (P : Type 0) (b : Bool) → is_ok r ≡ not b → b ≡ false → OnOk r P
    → P
where_answered (Ok x) P b e is h = h
where_answered (Err x) P b e is h = absurd (true_not_false (sym (e ∙ ap not is)))

-- a slice of no bytes, at any offset
sub_rope_nothing : (rope made : RopeText) (offset : ℕ) → offset ≤ length rope.bytes → made.bytes ≡ [] → made.pieces
    ≡ [] → SubRope rope offset 0 (Ok made)
sub_rope_nothing rope made offset there none no_pieces = (
  (omega arith, (IsUtf8-nil, tt)),
  record {
    bytes = none;
    cut_so = ap (λ l. map (λ (t : Text). t.bytes) l) no_pieces ∙ sym (shares_of_none rope.pieces offset);
    shares = subst (λ l. All ShareCost l) (sym no_pieces) (All-nil ShareCost);
  },
)

pub sub_rope_none : (rope made : RopeText) (offset count : ℕ) → count ≡ 0 → offset ≤ length rope.bytes → made.bytes
    ≡ [] → made.pieces ≡ [] → SubRope rope offset count (Ok made)
sub_rope_none rope made offset count is there none no_pieces = subst (λ n. SubRope rope offset n (Ok made)) (sym is)
    (sub_rope_nothing rope made offset there none no_pieces)
