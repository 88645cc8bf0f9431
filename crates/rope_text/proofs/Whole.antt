-- Whole ropes.
use Rattle.std.proofs.Common.{◌≡◌, ℕ, ◌+◌, ◌<◌, List, ◌++◌, length, take, drop, get_or, Result, Ok, Err, Some, sym}
use Rattle.std.proofs.Common.{ap, ◌∙◌, subst, arith, inl, inr}
use Rattle.std.specs.Prelude.{IsUtf8, All}
use Rattle.std.proofs.lemmas.List.{take_all}
use Rattle.tendril_errors.specs.declared.refusal.Refusal.{Refusal}
use Rattle.tendril_errors.specs.declared.refusal.Refusal.TheVariants.{ValidationFailed}
use Rattle.tendril_errors.specs.Outcomes.{Gives, NoneMust, First}
use Rattle.rope_text.proofs.Joined.{pieces_valid}
use Rattle.rope_text.proofs.PartsOf.{shares_of_all}
use Rattle.std.proofs.lemmas.List.{take_more, get_or_read}
use Rattle.rope_text.specs.Parts.{IsCloneOf, PartMay, SubRope}
use Rattle.rope_text.specs.Ropes.{RopeText, IsPiece, piece_at}
use Rattle.tendril_text.proofs.TextLists.{joined_push}
use Rattle.tendril_text.specs.TextLists.{bytes_of_all, no_text}
use Rattle.tendril_text.specs.Texts.{Text}

all_valid : (V : Type 0) (r : Refusal) → V → First V ValidationFailed NoneMust (Some r) → ⊥
all_valid V r v (inl x) = x.0 v
all_valid V r v (inr x) = x.1

whole : (rope : RopeText) (result : Result RopeText Refusal) → All IsPiece rope.pieces → rope.bytes
    ≡ bytes_of_all rope.pieces → SubRope rope 0 (length rope.bytes) result
    → Gives NoneMust (PartMay rope.pieces 0 (length rope.bytes)) (IsCloneOf rope) result
whole rope (Ok made) each is h = (
  tt,
  record {
    bytes = h.1.bytes ∙ take_all (length rope.bytes) rope.bytes (omega arith);
    cut_so = h.1.cut_so ∙ shares_of_all rope.pieces (length rope.bytes) each (ap length is);
    shares = h.1.shares;
  },
)
whole rope (Err r) each is (inl (inl x)) = absurd (x.0 (omega arith))
whole rope (Err r) each is (inl (inr x)) =
    absurd (all_valid (IsUtf8 (take (length rope.bytes) (drop 0 rope.bytes))) r
    (subst IsUtf8 (sym (take_all (length rope.bytes) rope.bytes (omega arith) ∙ is)) (pieces_valid rope.pieces each))
    x.1)
whole rope (Err r) each is (inr y) = inr (tt, y.1)

-- the slice of all bytes is a clone
pub sub_rope_whole : (rope : RopeText) (total : ℕ) (result : Result RopeText Refusal) → total ≡ length rope.bytes
    → All IsPiece rope.pieces → rope.bytes ≡ bytes_of_all rope.pieces → SubRope rope 0 total result
    → Gives NoneMust (PartMay rope.pieces 0 (length rope.bytes)) (IsCloneOf rope) result
sub_rope_whole rope total result e each is h = whole rope result each is (subst (λ n. SubRope rope 0 n result) e h)

-- a rope's bytes are those of its pieces
pub joined_pieces : (xs : List Text) (rope : RopeText) → record { bytes = bytes_of_all xs; pieces = xs } ≡ rope
    → rope.bytes ≡ bytes_of_all rope.pieces
joined_pieces xs rope e = sym (ap (λ r. r.bytes) e) ∙ ap (λ r. bytes_of_all r.pieces) e

-- the bytes of one more piece, which is read at the index
pub joined_read_more : (xs : List Text) (i : ℕ) (t : Text) → i < length xs → t ≡ get_or xs i t
    → bytes_of_all (take (i + 1) xs) ≡ bytes_of_all (take i xs) ++ t.bytes
joined_read_more xs i t h e =
    ap bytes_of_all (take_more xs i no_text h) ∙ joined_push (take i xs) (piece_at xs i)
    ∙ ap (λ (u : Text). bytes_of_all (take i xs) ++ u.bytes) (sym (get_or_read xs i t h e no_text))
