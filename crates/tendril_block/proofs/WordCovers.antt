-- Words of eight elements that cover a list.
use Rattle.std.proofs.Common.{◌≡◌, ℕ, ◌+◌, ◌≤◌, Bool, true, ◌&&◌, List, ◌++◌, length, take, drop, min, append_assoc}
use Rattle.std.proofs.Common.{length-take-le, refl, sym, ap, ◌∙◌, arith, take-add}
use Rattle.std.proofs.lemmas.List.{take-take, take_at}
use Rattle.std.proofs.Math.Seq.{take-length}

-- if ys begins as xs does up to s, zs does so for eight more elements
abbrev Extends : List ℕ → ℕ → List ℕ → List ℕ → Type 0
Extends xs s ys zs = take s ys ≡ take s xs → take (s + 8) zs ≡ take (s + 8) xs

-- a word of xs that is written over ys
pub word_put : (s : ℕ) (xs ys zs : List ℕ) → s + 8 ≤ length xs
    → zs ≡ take s ys ++ (take 8 (drop s xs) ++ drop (s + 8) ys) → Extends xs s ys zs
word_put s xs ys zs h put front =
    let rest : List ℕ = drop (s + 8) ys in
    let whole : zs ≡ take (s + 8) xs ++ rest =
    put ∙ ap (λ v. v ++ (take 8 (drop s xs) ++ rest)) front ∙ sym (append_assoc (take s xs) (take 8 (drop s xs)) rest)
    ∙ ap (λ v. v ++ rest) (sym (take-add s 8 xs)) in
    ap (take (s + 8)) whole ∙ take_at (take (s + 8) xs) rest (s + 8) (length-take-le (s + 8) xs h)

-- a word of ys that is equal to that of xs
pub word_same : (s : ℕ) (xs ys : List ℕ) → take 8 (drop s ys) ≡ take 8 (drop s xs) → Extends xs s ys ys
word_same s xs ys same front =
    take-add s 8 ys ∙ ap (λ v. v ++ take 8 (drop s ys)) front ∙ ap (λ v. take s xs ++ v) same ∙ sym (take-add s 8 xs)

shorter : (s m : ℕ) (xs ys : List ℕ) → s ≤ m → take m ys ≡ take m xs → take s ys ≡ take s xs
shorter s m xs ys h e = sym (take-take s m ys h) ∙ ap (take s) e ∙ take-take s m xs h

-- five words cover up to forty elements
pub words_cover : (n : ℕ) (xs p a b c d e : List ℕ) → n ≤ 32 → n + 8 ≡ length xs → length e ≡ length xs
    → Extends xs 0 p a → Extends xs (min n 8) a b → Extends xs (min n 16) b c → Extends xs (min n 24) c d
    → Extends xs n d e → e ≡ xs
words_cover n xs p a b c d e few whole len first second third fourth last =
    let to_16 : take (min n 8 + 8) b ≡ take (min n 8 + 8) xs =
    second (shorter (min n 8) 8 xs a (omega arith) (first refl)) in
    let to_24 : take (min n 16 + 8) c ≡ take (min n 16 + 8) xs =
    third (shorter (min n 16) (min n 8 + 8) xs b (omega arith) to_16) in
    let to_32 : take (min n 24 + 8) d ≡ take (min n 24 + 8) xs =
    fourth (shorter (min n 24) (min n 16 + 8) xs c (omega arith) to_24) in
    let all : take (n + 8) e ≡ take (n + 8) xs = last (shorter n (min n 24 + 8) xs d (omega arith) to_32) in
    sym (take-length e) ∙ ap (λ k. take k e) (len ∙ sym whole) ∙ all ∙ ap (λ k. take k xs) whole ∙ take-length xs

pub both : (a b : Bool) → (a && b) ≡ true → (a ≡ true) × (b ≡ true)
both a b h = (grind arith, grind arith)

pub both_true : (a b : Bool) → a ≡ true → b ≡ true → (a && b) ≡ true
both_true a b x y = cc
