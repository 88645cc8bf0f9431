-- Where the bytes of code points may be cut: before each byte that isn't a continuation byte, so before each ASCII
-- byte, and after each ASCII byte.
use Rattle.std.proofs.Common.{
  ◌≡◌,
  ◌⊎◌,
  ℕ,
  ◌+◌,
  ◌<◌,
  ◌≤◌,
  List,
  [],
  ◌∷◌,
  ◌++◌,
  length,
  take,
  drop,
  slice_index,
  refl,
  sym,
  ap,
  add-one,
  subst,
  ◌∙◌,
  arith,
  inl,
  inr,
  ⊎_elim,
  length-append,
  take-append-drop,
  take_at,
  drop_at,
  get_or-append-add,
  get_or-drop,
}
use Rattle.std.specs.List.{AllByRecursion}
use Rattle.std.specs.Char.{encode_utf8}
use Rattle.std.specs.Str.{encode_utf8_all}
use Rattle.std.proofs.lemmas.Bool.{cases_lt}
use Rattle.std.proofs.lemmas.Bool.Decides.{nat_tests}
use Rattle.std.proofs.lemmas.List.{nil_from_length, get_or_append_left, take-append-le, drop-append-le}
use Rattle.std.proofs.Math.Seq.{drop-cons}
use Rattle.tendril_fmt.specs.CodePoints.{IsCodePoint, IsContinuation, sequence_len}
use Rattle.tendril_fmt.specs.Wtf8.{IsWtf8}
use Rattle.tendril_fmt.specs.Proved.Encodings.{Shape, of1, of2, of3, of4, point_shape}
use Rattle.tendril_fmt.specs.Proved.Units.{IsWtf8-from_points, points_of}
use Rattle.tendril_fmt.specs.Proved.Unpaired.{AreUnpaired, AreUnpaired-points, AreUnpaired-front, AreUnpaired-end}

-- a byte that starts a sequence, and the continuation bytes that it needs
abbrev pub IsStart : List ℕ → Type 0
IsStart bs = (sequence_len (slice_index bs 0) ≡ length bs)
    × ((k : ℕ) → 0 < k → k < length bs → IsContinuation (slice_index bs k))

-- the bytes of a code point are a start and continuation bytes
pub IsStart-encode : (c : ℕ) → IsCodePoint c → IsStart (encode_utf8 c)
IsStart-encode c top = by (point_shape c top)
  where
    by : Shape c → IsStart (encode_utf8 c)
    by (of1 h e) = subst IsStart (sym e) (grind (arith, nat_tests), λ k p q. absurd (omega arith))
    by (of2 a b l h f t e) = subst IsStart (sym e) (
      grind (arith, nat_tests),
      λ k p q. let is : 1 ≡ k = omega arith in subst (λ n. IsContinuation (slice_index (a ∷ b ∷ []) n)) is f,
    )
    by (of3 a b d l h f g t m e) = subst IsStart (sym e) (
      grind (arith, nat_tests),
      λ k p q. ⊎_elim
          (λ small. let is : 1 ≡ k = omega arith in subst (λ n. IsContinuation (slice_index (a ∷ b ∷ d ∷ []) n)) is f)
          (λ large. let is : 2 ≡ k = omega arith in subst (λ n. IsContinuation (slice_index (a ∷ b ∷ d ∷ []) n)) is g)
          (cases_lt k 2),
    )
    by (of4 a b d w l h f g j t m e) = subst IsStart (sym e) (
      grind (arith, nat_tests),
      λ k p q. ⊎_elim
          (λ small. let is : 1 ≡ k = omega arith in
          subst (λ n. IsContinuation (slice_index (a ∷ b ∷ d ∷ w ∷ []) n)) is f)
          (λ large. ⊎_elim
          (λ small. let is : 2 ≡ k = omega arith in
          subst (λ n. IsContinuation (slice_index (a ∷ b ∷ d ∷ w ∷ []) n)) is g)
          (λ large. let is : 3 ≡ k = omega arith in
          subst (λ n. IsContinuation (slice_index (a ∷ b ∷ d ∷ w ∷ []) n)) is j)
          (cases_lt k 3))
          (cases_lt k 2),
    )

-- the code points cs, split into those of the bytes xs and those of the bytes ys
pub record Cut (cs : List ℕ) (xs ys : List ℕ) : Type 0 where
  pub front : List ℕ
  pub back : List ℕ
  pub split : cs ≡ front ++ back
  pub before : encode_utf8_all front ≡ xs
  pub after : encode_utf8_all back ≡ ys

-- ys begins with no continuation byte
abbrev pub Opens : List ℕ → Type 0
Opens ys = 0 < length ys → ¬ (IsContinuation (slice_index ys 0))

-- a cut through the bytes of code points is between two of them, if no continuation byte follows
pub cut : (cs xs ys : List ℕ) → AllByRecursion IsCodePoint cs → encode_utf8_all cs ≡ xs ++ ys → Opens ys → Cut cs xs ys
cut [] xs ys all e opens =
    let k = ap length e in
    let no_xs = nil_from_length xs (omega (arith, length-append xs ys)) in
    let no_ys = nil_from_length ys (omega (arith, length-append xs ys)) in
    record { front = []; back = []; split = refl; before = sym no_xs; after = sym no_ys }
cut (c ∷ cs) xs ys all e opens =
    by (cases_lt (length xs) (length (encode_utf8 c))) (cases_lt (length xs) 1)
    (cut cs (drop (length (encode_utf8 c)) xs) ys all.1)
  where
    by : (length xs < length (encode_utf8 c)) ⊎ (length (encode_utf8 c) ≤ length xs) → (length xs < 1) ⊎ (1 ≤ length xs)
        → (encode_utf8_all cs ≡ drop (length (encode_utf8 c)) xs ++ ys → Opens ys
        → Cut cs (drop (length (encode_utf8 c)) xs) ys)
        → Cut (c ∷ cs) xs ys
    by (inl short) (inl none) ih =
        let nil = nil_from_length xs (omega arith) in
        record { front = []; back = c ∷ cs; split = refl; before = sym nil; after = e ∙ ap (λ l. l ++ ys) nil }
    by (inl short) (inr some) ih =
        let n = length xs in
        let here : slice_index (encode_utf8 c) n ≡ slice_index ys 0 =
        sym (get_or_append_left (encode_utf8 c) (encode_utf8_all cs) 0 n short) ∙ ap (λ l. slice_index l n) e
        ∙ ap (slice_index (xs ++ ys)) (let k : n ≡ n + 0 = omega arith in k) ∙ get_or-append-add xs ys 0 0 in
        let lengths = length-append (encode_utf8 c) (encode_utf8_all cs) in
        let long : 0 < length ys = omega (arith, ap length e, length-append xs ys, lengths) in
        absurd (opens long (subst IsContinuation here ((IsStart-encode c all.0).1 n some short)))
    by (inr long) _ ih =
        let n = length (encode_utf8 c) in
        let first : take n xs ≡ encode_utf8 c =
        sym (take-append-le n xs ys long) ∙ ap (take n) (sym e) ∙ take_at (encode_utf8 c) (encode_utf8_all cs) n refl in
        let whole : encode_utf8 c ++ drop n xs ≡ xs = ap (λ l. l ++ drop n xs) (sym first) ∙ take-append-drop n xs in
        let rest : encode_utf8_all cs ≡ drop n xs ++ ys =
        sym (drop_at (encode_utf8 c) (encode_utf8_all cs) n refl) ∙ ap (drop n) e ∙ drop-append-le n xs ys long in
        let i = ih rest opens in
        record {
          front = c ∷ i.front;
          back = i.back;
          split = ap (λ l. c ∷ l) i.split;
          before = ap (λ l. encode_utf8 c ++ l) i.before ∙ whole;
          after = i.after;
        }

-- WTF-8 may be cut before an ASCII byte
pub IsWtf8-ascii_cut : (bytes : List ℕ) (n : ℕ) → IsWtf8 bytes → n < length bytes → slice_index bytes n < 128
    → IsWtf8 (take n bytes) × IsWtf8 (drop n bytes)
IsWtf8-ascii_cut bytes n v within ascii =
    let points = points_of bytes v in
    let here : n + 0 ≡ n = omega arith in
    let same = get_or-drop n bytes 0 0 ∙ ap (λ m. slice_index bytes m) here in
    let opens : Opens (drop n bytes) = λ _ h. let l = h.0 in absurd (omega (arith, l, ascii, same)) in
    let whole = points.2 ∙ sym (take-append-drop n bytes) in
    let k = cut points.0 (take n bytes) (drop n bytes) (AreUnpaired-points points.0 points.1) whole opens in
    let apart : AreUnpaired (k.front ++ k.back) = subst AreUnpaired k.split points.1 in (
      subst IsWtf8 k.before (IsWtf8-from_points k.front (AreUnpaired-front k.front k.back apart)),
      subst IsWtf8 k.after (IsWtf8-from_points k.back (AreUnpaired-end k.front k.back apart)),
    )

-- if the first byte is ASCII, the others are WTF-8
after_first : (cs : List ℕ) (x : ℕ) (ys : List ℕ) → AreUnpaired cs → encode_utf8_all cs ≡ x ∷ ys → x < 128 → IsWtf8 ys
after_first [] x ys apart e ascii = cc
after_first (c ∷ cs) x ys apart e ascii =
    let is = IsStart-encode c (AreUnpaired-points (c ∷ cs) apart).0 in
    let starts = is.0 in
    let some : 0 < length (encode_utf8 c) = (point_some c (point_shape c (AreUnpaired-points (c ∷ cs) apart).0)) in
    let first : slice_index (encode_utf8 c) 0 ≡ x =
    sym (get_or_append_left (encode_utf8 c) (encode_utf8_all cs) 0 0 some) ∙ ap (λ l. slice_index l 0) e in
    let one : length (encode_utf8 c) ≡ 1 = sym starts ∙ ap sequence_len first ∙ one_byte x ascii in
    subst IsWtf8 (sym (drop_at (encode_utf8 c) (encode_utf8_all cs) 1 one) ∙ ap (drop 1) e)
    (IsWtf8-from_points cs (AreUnpaired-end (c ∷ []) cs apart))
  where
    one_byte : (b : ℕ) → b < 128 → sequence_len b ≡ 1
    one_byte b h = grind (arith, nat_tests)

    point_some : (d : ℕ) → Shape d → 0 < length (encode_utf8 d)
    point_some d (of1 h e) = omega (arith, ap length e)
    point_some d (of2 a b l h f t e) = omega (arith, ap length e)
    point_some d (of3 a b v l h f g t m e) = omega (arith, ap length e)
    point_some d (of4 a b v w l h f g j t m e) = omega (arith, ap length e)

-- WTF-8 may be cut after an ASCII byte
pub IsWtf8-after_ascii : (bytes : List ℕ) (n : ℕ) → IsWtf8 bytes → n < length bytes → slice_index bytes n < 128
    → IsWtf8 (drop (n + 1) bytes)
IsWtf8-after_ascii bytes n v within ascii =
    let points = points_of (drop n bytes) (IsWtf8-ascii_cut bytes n v within ascii).1 in
    rw add-one (after_first points.0 _ _ points.1 (points.2 ∙ drop-cons bytes n 0 within) ascii)
