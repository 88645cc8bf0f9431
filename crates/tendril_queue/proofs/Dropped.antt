-- Bytes that are removed from the front of texts.
use Rattle.std.proofs.Common.{
  ◌≡◌,
  ℕ,
  ◌+◌,
  ◌-◌,
  ◌<◌,
  ◌≤◌,
  List,
  [],
  ◌∷◌,
  ◌++◌,
  length,
  get_or,
  set,
  take,
  drop,
  refl,
  sym,
  ap,
  ◌∙◌,
  subst,
  arith,
  inr,
  append_assoc,
}
use Rattle.std.specs.Prelude.{IsUtf8}
use Rattle.std.proofs.Math.Seq.{take-append-add}
use Rattle.std.proofs.lemmas.List.{
  length-append,
  length-take-le,
  take-append-drop,
  take-append-le,
  take_at,
  drop_at,
  drop-drop,
}
use Rattle.std.proofs.lemmas.List.Elements.{All-head, All-tail}
use Rattle.std.proofs.lemmas.Str.{IsUtf8-drop, IsCharBoundary-from_take}
use Rattle.tendril_queue.proofs.Fronts.{leaves_some, left_bytes, left_each}
use Rattle.tendril_queue.specs.Queues.{IsQueued, AreQueued}
use Rattle.tendril_text.specs.TextLists.{bytes_of_all, DropsFront}
use Rattle.tendril_text.specs.Texts.{Text, PopCost}

-- what follows a prefix in UTF-8 is UTF-8 if the prefix is
pub valid_after : (xs ys : List ℕ) → IsUtf8 (xs ++ ys) → IsUtf8 xs → IsUtf8 ys
valid_after xs ys valid front =
    let first : take (length xs) (xs ++ ys) ≡ xs = take_at xs ys (length xs) refl in
    let rest : drop (length xs) (xs ++ ys) ≡ ys = drop_at xs ys (length xs) refl in
    let within : length xs ≤ length (xs ++ ys) = omega (arith, length-append xs ys) in
    subst IsUtf8 rest (IsUtf8-drop (xs ++ ys) (length xs) valid (IsCharBoundary-from_take (xs ++ ys)
    (length xs) valid within (subst IsUtf8 (sym first) front)))

-- ys are xs without the first texts; of the `count` bytes to be removed from xs, `left` are still to be removed from ys
pub record IsDropping (xs ys : List Text) (count left : ℕ) : Type 0 where
  pub each : AreQueued ys
  pub bytes : drop left (bytes_of_all ys) ≡ drop count (bytes_of_all xs)
  pub there : left ≤ length (bytes_of_all ys)
  pub valid : IsUtf8 (take left (bytes_of_all ys))
  pub gone : List Text
  pub had : xs ≡ gone ++ ys

-- one more text is removed whole
pub dropping_more : (xs ys : List Text) (t : Text) (count left : ℕ) → 0 < length ys → t ≡ get_or ys 0 t
    → length t.bytes ≤ left → IsDropping xs ys count left → IsDropping xs (drop 1 ys) count (left - length t.bytes)
dropping_more xs [] t count left some is h d = absurd (omega arith)
dropping_more xs (y ∷ rest) t count left some is h d =
    let k = left - length t.bytes in
    let len : length t.bytes ≡ length y.bytes = ap (λ (x : Text). length x.bytes) is in
    let sum : length y.bytes + k ≡ left = omega (arith, len, h) in
    let size : length (bytes_of_all (y ∷ rest)) ≡ length y.bytes + length (bytes_of_all rest) =
    length-append y.bytes (bytes_of_all rest) in
    let front : take left (bytes_of_all (y ∷ rest)) ≡ y.bytes ++ take k (bytes_of_all rest) =
    ap (λ n. take n (bytes_of_all (y ∷ rest))) (sym sum) ∙ take-append-add y.bytes (bytes_of_all rest) k in
    let past : drop left (bytes_of_all (y ∷ rest)) ≡ drop k (bytes_of_all rest) =
    ap (λ n. drop n (bytes_of_all (y ∷ rest))) (sym sum) ∙ sym (drop-drop k (length y.bytes) (bytes_of_all
    (y ∷ rest))) ∙ ap (drop k) (drop_at y.bytes (bytes_of_all rest) (length y.bytes) refl) in
    record {
      each = All-tail IsQueued y rest d.each;
      bytes = sym past ∙ d.bytes;
      there = let all = d.there in omega (arith, all, size, sum);
      valid = valid_after y.bytes (take k (bytes_of_all rest)) (subst IsUtf8 front d.valid)
          (All-head IsQueued y rest d.each).valid;
      gone = d.gone ++ y ∷ [];
      had = d.had ∙ sym (append_assoc d.gone (y ∷ []) rest);
    }

-- the remainder of a text that is cut is UTF-8
pub cuts_valid : (xs ys : List Text) (t : Text) (count left : ℕ) → 0 < length ys → t ≡ get_or ys 0 t
    → left < length t.bytes → IsDropping xs ys count left → IsUtf8 (drop left t.bytes)
cuts_valid xs [] t count left some is h d = absurd (omega arith)
cuts_valid xs (y ∷ rest) t count left some is h d =
    let same : t.bytes ≡ y.bytes = ap (λ (x : Text). x.bytes) is in
    let short : left ≤ length y.bytes = omega (arith, h, ap length same) in
    let front : take left (bytes_of_all (y ∷ rest)) ≡ take left y.bytes =
    take-append-le left y.bytes (bytes_of_all rest) short in
    let valid = (All-head IsQueued y rest d.each).valid in
    subst (λ l. IsUtf8 (drop left l)) (sym same) (IsUtf8-drop y.bytes left valid
    (IsCharBoundary-from_take y.bytes left valid short (subst IsUtf8 front d.valid)))

-- the first text lost the last of these bytes
pub dropped_within : (xs ys : List Text) (t cut : Text) (count left : ℕ) → 0 < length ys → t ≡ get_or ys 0 t
    → left < length t.bytes → IsDropping xs ys count left → cut.bytes ≡ drop left t.bytes → PopCost t cut
    → IsUtf8 cut.bytes
    → AreQueued (set ys 0 cut) × (bytes_of_all (set ys 0 cut) ≡ drop count (bytes_of_all xs))
    × DropsFront xs (set ys 0 cut)
dropped_within xs ys t cut count left some is h d e keeps valid =
    let all : t.bytes ≡ take left t.bytes ++ cut.bytes = sym (take-append-drop left t.bytes)
    ∙ ap (λ l. take left t.bytes ++ l) (sym e) in
    let front : length (take left t.bytes) ≡ left = length-take-le left t.bytes (omega (arith, h)) in
    let size : length t.bytes ≡ length (take left t.bytes) + length cut.bytes = ap length all
    ∙ length-append (take left t.bytes) cut.bytes in
    let l = leaves_some ys t cut some is (omega (arith, size, front, h)) in (
      left_each ys (set ys 0 cut) t cut l d.each valid,
      sym (drop_at (take left t.bytes) (bytes_of_all (set ys 0 cut)) left front)
          ∙ ap (drop left) (sym (left_bytes ys (set ys 0 cut) t cut l (take left t.bytes) all)) ∙ d.bytes,
      record {
        gone = d.gone;
        others = ys;
        had = d.had;
        has =
            inr (record {
              first = t;
              left = cut;
              leaves = l;
              lost = take left t.bytes;
              bytes = all;
              keeps = keeps;
            });
      },
    )
