-- Bytes that are searched for in one piece after the other.
use Rattle.std.proofs.Common.{◌≡◌, ℕ, ◌+◌, ◌-◌, ◌<◌, Bool, true, List, length, get_or, take, slice_index, Option, Some}
use Rattle.std.proofs.Common.{None, sym, ap, ◌∙◌, subst, arith, inl, inr}
use Rattle.std.specs.Prelude.{IfSome}
use Rattle.std.specs.Str.{IsCharBoundary}
use Rattle.std.proofs.lemmas.Bool.{cases_lt, eqb-true}
use Rattle.std.proofs.lemmas.List.{get_or_read, take_all}
use Rattle.std.proofs.lemmas.Str.{IsCharBoundary-before_ascii}
use Rattle.memchr.specs.Find.{IsFirstByte, NoneBefore, Nowhere, Passes, is_byte}
use Rattle.rope_text.proofs.Joined.{joined_byte, length_joined_more}
use Rattle.rope_text.proofs.Located.{in_joined}
use Rattle.rope_text.specs.Ropes.{RopeText, piece_at}
use Rattle.tendril_text.specs.TextLists.{bytes_of_all, no_text}
use Rattle.tendril_text.specs.Texts.{Text}

-- the piece that is read at a number
pub piece_is : (xs : List Text) (rope : RopeText) (i : ℕ) (t : Text) → record { bytes = bytes_of_all xs; pieces = xs }
    ≡ rope → i < length xs
    → t ≡ get_or xs i t → (i < length rope.pieces) × (t.bytes ≡ (piece_at rope.pieces i).bytes)
piece_is xs rope i t e h read = (
  subst (λ (r : RopeText). i < length r.pieces) e h,
  ap (λ (u : Text). u.bytes) (get_or_read xs i t h read no_text) ∙ ap (λ (r : RopeText). (piece_at r.pieces i).bytes) e,
)

-- no byte of the first pieces passes the test
abbrev pub NoneIn : (ℕ → Bool) → List Text → ℕ → Type 0
NoneIn test xs index = Nowhere (Passes test (bytes_of_all xs)) 0 (length (bytes_of_all (take index xs)))

pub none_in_more : (test : ℕ → Bool) (xs : List Text) (i : ℕ) (p : List ℕ) → i < length xs → p ≡ (piece_at xs i).bytes
    → Nowhere (Passes test p) 0 (length p) → NoneIn test xs i → NoneIn test xs (i + 1)
none_in_more test xs i p h is none before k low high passes =
    let a = length (bytes_of_all (take i xs)) in
    let more = length_joined_more xs i h in
    let size = ap length is in
    elim (cases_lt k a) [
      | inl l ↦ before k low l passes
      | inr l ↦
          let place : a + (k - a) ≡ k = omega arith in
          let within : k - a < length p = omega arith in
          let here : slice_index (bytes_of_all xs) k ≡ slice_index p (k - a) =
          ap (λ n. slice_index (bytes_of_all xs) n) (sym place) ∙ joined_byte xs i (k - a) h (omega arith)
          ∙ ap (λ b. slice_index b (k - a)) (sym is) in
          none (k - a) (omega arith) within (ap test (sym here) ∙ passes)
    ]

-- the first byte that passes is in this piece
pub found_in : (test : ℕ → Bool) (xs : List Text) (i j at : ℕ) (p : List ℕ) → i < length xs → p ≡ (piece_at xs i).bytes
    → at ≡ length (bytes_of_all (take i xs)) + j
    → NoneBefore (Passes test p) 0 (length p) j → Passes test p j → NoneIn test xs i
    → IsFirstByte test (bytes_of_all xs) (Some at)
found_in test xs i j at p h is place first passes before =
    let a = length (bytes_of_all (take i xs)) in
    let size = ap length is in
    let high = first.high in
    let byte : (k : ℕ) → k < length p → slice_index (bytes_of_all xs) (a + k) ≡ slice_index p k =
    λ k w. joined_byte xs i k h (omega arith) ∙ ap (λ b. slice_index b k) (sym is) in
    let all = in_joined xs i j h (omega arith) in (
      record {
        low = omega arith;
        high = omega arith;
        before = λ k low upto yes.
            elim (cases_lt k a) [
              | inl l ↦ before k low l yes
              | inr l ↦
                  let there : a + (k - a) ≡ k = omega arith in
                  first.before (k - a) (omega arith) (omega arith)
                  (ap test (sym (byte (k - a) (omega arith)) ∙ ap (λ n. slice_index (bytes_of_all xs) n) there)
                  ∙ yes)
            ];
      },
      ap (λ n. test (slice_index (bytes_of_all xs) n)) place ∙ ap test (byte j high) ∙ passes,
    )

-- no byte passes
pub none_in_all : (test : ℕ → Bool) (xs : List Text) (n : ℕ) → n ≡ length xs → NoneIn test xs n
    → IsFirstByte test (bytes_of_all xs) None
none_in_all test xs n is none = subst (λ l. Nowhere (Passes test (bytes_of_all xs)) 0 (length (bytes_of_all l)))
    (take_all n xs (omega arith)) none

-- bytes may be cut before an ASCII byte
pub found_cut : (test : ℕ → Bool) (b : List ℕ) (r : Option ℕ) → ((x : ℕ) → test x ≡ true → x < 128)
    → IsFirstByte test b r → IfSome r (IsCharBoundary b)
found_cut test b None ascii h = tt
found_cut test b (Some k) ascii h = IsCharBoundary-before_ascii b k h.0.high (ascii (slice_index b k) h.1)

pub byte_cut : (byte : ℕ) (b : List ℕ) (r : Option ℕ) → byte < 128 → IsFirstByte (is_byte byte) b r
    → IfSome r (IsCharBoundary b)
byte_cut byte b r small h = found_cut (is_byte byte) b r (λ x is. let e = eqb-true x byte is in omega arith) h
