-- Where a text may be cut, and what holds after an error.
use Rattle.std.proofs.Common.{◌≡◌, ℕ, ◌<◌, ◌+◌, ◌-◌, List, length, take, drop, sym, subst, arith, IsUtf8, slice_index}
use Rattle.std.proofs.Common.{Result, Ok, Err, OnErr}
use Rattle.std.proofs.lemmas.Bool.{eqb-true}
use Rattle.std.proofs.lemmas.Str.{IsCharBoundary-after_ascii, IsCharBoundary-before_ascii, IsUtf8-drop, IsUtf8-take}
use Rattle.tendril.specs.Find.{NoneBefore, Passes, is_byte}
use Rattle.use_tokens.specs.Ends.{EndsAt}

-- UTF-8 that is cut before or after an ASCII byte

pub cut_before : (bs : List ℕ) (n : ℕ) → IsUtf8 bs → n < length bs → slice_index bs n < 128
    → IsUtf8 (take n bs) × IsUtf8 (drop n bs)
cut_before bs n u within ascii = (
  IsUtf8-take bs n u (IsCharBoundary-before_ascii bs n within ascii),
  IsUtf8-drop bs n u
      (IsCharBoundary-before_ascii bs n within ascii),
)

pub cut_behind : (bs : List ℕ) (n : ℕ) → IsUtf8 bs → n < length bs → slice_index bs n < 128 → IsUtf8 (take (n + 1) bs)
    × IsUtf8 (drop (n + 1) bs)
cut_behind bs n u within ascii = (
  IsUtf8-take bs (n + 1) u (IsCharBoundary-after_ascii bs n u within ascii),
  IsUtf8-drop bs (n + 1) u
      (IsCharBoundary-after_ascii bs n u within ascii),
)

pub cut_end : (bs : List ℕ) (start count : ℕ) → IsUtf8 bs → EndsAt bs start count → IsUtf8 (take count bs)
    × IsUtf8 (drop count bs)
cut_end bs start count u ends =
    let same : (count - 1) + 1 ≡ count = omega (arith, ends.some) in
    subst (λ n. IsUtf8 (take n bs) × IsUtf8 (drop n bs)) same
    (cut_behind bs (count - 1) u (omega (arith, ends.some, ends.within))
    (subst (λ b. b < 128) (sym ends.closed) (omega arith)))

-- at the first `<`
pub cut_found : (bs : List ℕ) (n : ℕ) → IsUtf8 bs → NoneBefore (Passes (is_byte 60) bs) 0 (length bs) n
    × Passes (is_byte 60) bs n → IsUtf8 (take n bs) × IsUtf8 (drop n bs)
cut_found bs n u found = cut_before bs n u found.0.high
    (subst (λ b. b < 128) (sym (eqb-true (slice_index bs n) 60 found.1)) (omega arith))

-- what always holds, holds after an error
pub of_err : {T E : Type 0} (result : Result T E) (P : Type 0) → P → OnErr result P
of_err (Ok x) P p = tt
of_err (Err e) P p = p
