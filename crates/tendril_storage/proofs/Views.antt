use Rattle.std.proofs.Common.{◌≡◌, ℕ, ◌+◌, ◌-◌, ◌≤◌, List, ◌++◌, length, take, drop, ap, sym, ◌∙◌, arith, append_assoc}
use Rattle.std.proofs.Common.{length-append, take-add}
use Rattle.std.proofs.lemmas.List.{drop-take, drop-drop, take-take, drop-append-le, length-drop, length-take-le}
use Rattle.std.proofs.Math.Seq.{take-length}

-- inline bytes of length l are l bytes
pub inline_length : (l : ℕ) (buffer : List ℕ) → l ≤ 8 → length buffer ≡ 8 → length (take l buffer) ≡ l
inline_length l buffer h e = length-take-le l buffer (omega arith)

-- a view of length l has l bytes
pub view_length : (o l : ℕ) (xs : List ℕ) → o + l ≤ length xs → length (take l (drop o xs)) ≡ l
view_length o l xs h = length-take-le l (drop o xs) (omega (arith, length-drop o xs))

-- a slice of a view is a view
pub view_part : (o l s c : ℕ) (xs : List ℕ) → s + c ≤ l → take c (drop s (take l (drop o xs)))
    ≡ take c (drop (o + s) xs)
view_part o l s c xs h =
    let e : l ≡ s + (l - s) = omega arith in
    ap (λ n. take c (drop s (take n (drop o xs)))) e ∙ ap (take c) (drop-take s (l - s) (drop o xs))
    ∙ take-take c (l - s) (drop s (drop o xs)) (omega arith) ∙ ap (take c) (drop-drop s o xs)

-- what is left of a view after its first bytes is a view
pub view_rest : (o l c : ℕ) (xs : List ℕ) → c ≤ l → take (l - c) (drop (o + c) xs) ≡ drop c (take l (drop o xs))
view_rest o l c xs h =
    let e : c + (l - c) ≡ l = omega arith in
    ap (take (l - c)) (sym (drop-drop c o xs)) ∙ sym (drop-take c (l - c) (drop o xs))
    ∙ ap (λ n. drop c (take n (drop o xs))) e

-- a view of a block whose end was replaced after the first `keep` bytes of the view
pub view_replaced : (o l keep : ℕ) (xs ys : List ℕ) → o + l ≤ length xs → keep ≤ l
    → take (keep + length ys) (drop o (take (o + keep) xs ++ ys)) ≡ take keep (take l (drop o xs)) ++ ys
view_replaced o l keep xs ys h k =
    let short : length (take (o + keep) xs) ≡ o + keep = length-take-le (o + keep) xs (omega arith) in
    let split : drop o (take (o + keep) xs ++ ys) ≡ take keep (drop o xs) ++ ys =
    drop-append-le o (take (o + keep) xs) ys (omega arith) ∙ ap (λ v. v ++ ys) (drop-take o keep xs) in
    let long : length (take keep (drop o xs) ++ ys) ≡ keep + length ys = length-append (take keep (drop o xs)) ys
    ∙ ap (λ n. n + length ys) (view_length o keep xs (omega arith)) in
    ap (take (keep + length ys)) split ∙ ap (λ n. take n (take keep (drop o xs) ++ ys)) (sym long)
    ∙ take-length (take keep (drop o xs) ++ ys) ∙ ap (λ v. v ++ ys) (sym (take-take keep l (drop o xs) k))

-- a view and the bytes right after it
pub view_grown : (o l n : ℕ) (xs : List ℕ) → take (l + n) (drop o xs) ≡ take l (drop o xs) ++ take n (drop (o + l) xs)
view_grown o l n xs = take-add l n (drop o xs) ∙ ap (λ v. take l (drop o xs) ++ take n v) (drop-drop l o xs)

pub ruleset grows = (inline_length, view_length, view_grown)

pub ruleset slices = (inline_length, view_length, view_part, view_rest)

pub ruleset replaces = (inline_length, view_length, view_replaced, length-append, append_assoc)
