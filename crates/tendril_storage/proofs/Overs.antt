use Rattle.std.proofs.Common.{◌≡◌, ℕ, ◌+◌, ◌-◌, ◌≤◌, List, ◌++◌, length, take, drop, sym, ap, subst, ◌∙◌, arith}
use Rattle.std.proofs.Common.{length-append}
use Rattle.std.proofs.lemmas.List.{length-drop, length-take-le}
use Rattle.std.proofs.Math.Seq.{take-append_seam, drop-append_seam}
use borrow.Rule.Slice.PartMut.{post_of}

-- the list b, with w in place of its l bytes from s on
abbrev pub over : ℕ → ℕ → List ℕ → List ℕ → List ℕ
over s l b w = take s b ++ (w ++ post_of s (s + l - s) b)

pub over_length : (s l : ℕ) (b w : List ℕ) → s + l ≤ length b → length w ≡ l → length (over s l b w) ≡ length b
over_length s l b w h e =
    let rest : List ℕ = drop (s + l - s) (drop s b) in
    omega (
      arith,
      h,
      e,
      length-append (take s b) (w ++ rest),
      length-append w rest,
      length-take-le s b
          (omega (arith, h)),
      length-drop (s + l - s) (drop s b),
      length-drop s b,
    )

-- the slice is w
pub over_part : (s l : ℕ) (b w : List ℕ) → s + l ≤ length b → length w ≡ l → take l (drop s (over s l b w)) ≡ w
over_part s l b w h e =
    let rest : List ℕ = w ++ drop (s + l - s) (drop s b) in
    let short : length (take s b) ≡ s = length-take-le s b (omega (arith, h)) in
    ap (take l) (ap (λ n. drop n (take s b ++ rest)) (sym short) ∙ drop-append_seam (take s b) rest)
    ∙ ap (λ n. take n rest) (sym e) ∙ take-append_seam w (drop (s + l - s) (drop s b))

-- a list that replaces one of the same length
pub refilled : (b w : List ℕ) → length w ≡ length b → take (length b) (w ++ drop (length w) b) ≡ w
refilled b w e = ap (λ n. take n (w ++ drop (length w) b)) (sym e) ∙ take-append_seam w (drop (length w) b)

-- A slice of a block's bytes was borrowed and left as w: it is w then, and the block has as many bytes as before. The
-- bytes are b in the borrow, `body` in the borrowed body, `old` before and `new` afterwards.
pub lent_part : (s l : ℕ) (b body old w new : List ℕ) → b ≡ body → body ≡ old → s + l ≤ length old
    → length w ≡ length (take (s + l - s) (drop s b))
    → new ≡ take (length body) (over s l b w ++ drop (length (over s l b w)) body)
    → (take l (drop s new) ≡ w) × (length new ≡ length old) × (take (s + l - s) (drop s b) ≡ take l (drop s old))
lent_part s l b body old w new is_body is_old h count refill =
    let is : b ≡ old = is_body ∙ is_old in
    let within : s + l ≤ length b = subst (λ (xs : List ℕ). s + l ≤ length xs) (sym is) h in
    let exact : s + l - s ≡ l = omega arith in
    let long : length w ≡ l = count ∙ ap (λ n. length (take n (drop s b))) exact
    ∙ length-take-le l (drop s b) (omega (arith, within, length-drop s b)) in
    let same : length (over s l b w) ≡ length b = over_length s l b w within long in
    let whole : new ≡ over s l b w = refill
    ∙ refilled body (over s l b w) (same ∙ ap (λ (xs : List ℕ). length xs) is_body) in (
      ap (λ (xs : List ℕ). take l (drop s xs)) whole ∙ over_part s l b w within long,
      ap (λ (xs : List ℕ). length xs) whole ∙ same ∙ ap (λ (xs : List ℕ). length xs) is,
      ap (λ n. take n (drop s b)) exact ∙ ap (λ (xs : List ℕ). take l (drop s xs)) is,
    )
