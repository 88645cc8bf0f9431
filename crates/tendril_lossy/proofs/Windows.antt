-- The longest valid prefix of a stream, found by windows.
use Rattle.std.proofs.Common.{◌≡◌, ℕ, ◌+◌, ◌-◌, ◌≤◌, List, [], ◌∷◌, ◌++◌, length, take, drop, map, Some, None, IsUtf8}
use Rattle.std.proofs.Common.{sym, ap, subst, ◌∙◌, arith, length-drop, length-take-le, take-append-drop, drop-drop}
use Rattle.std.proofs.Common.{take-add}
use Rattle.std.specs.Str.{StartsWithNoChar, IsValidUpTo, chars}
use Rattle.std.specs.Str.Lossy.{utf8_error_len}
use Rattle.std.proofs.lemmas.Str.{IsUtf8-append}
use Rattle.std.proofs.lemmas.List.{take-take, drop-take, length-take}
use Rattle.std.proofs.Math.Seq.{take-length}
use Rattle.tendril_lossy.specs.Lossy.{Keep, Bad, Cut, lossy}
use Rattle.tendril_lossy.proofs.Lossy.{none_after, lossy-cut}
use Rattle.tendril_lossy.proofs.Fronts.{text_front, bad_front}

-- text, then text, is text
pub grow : (bs : List ℕ) (at n : ℕ) → IsUtf8 (take at bs) → IsUtf8 (take n (drop at bs)) → IsUtf8 (take (at + n) bs)
grow bs at n u v = subst IsUtf8 (sym (take-add at n bs)) (IsUtf8-append (take at bs) (take n (drop at bs)) u v)

all_of : (bs : List ℕ) (at : ℕ) → take (length bs - at) (drop at bs) ≡ drop at bs
all_of bs at = ap (λ n. take n (drop at bs)) (sym (length-drop at bs)) ∙ take-length (drop at bs)

-- the last window is all of the remainder

pub whole : (bs : List ℕ) (at : ℕ) → IsUtf8 (take at bs) → IsUtf8 (take (length bs - at) (drop at bs)) → IsUtf8 bs
whole bs at u v = subst IsUtf8 (take-append-drop at bs)
    (IsUtf8-append (take at bs) (drop at bs) u (subst IsUtf8 (all_of bs at) v))

-- text, then the valid prefix of a window, is text
pub grow_front : (bs : List ℕ) (at w n : ℕ) → IsUtf8 (take at bs) → IsValidUpTo (take w (drop at bs)) n
    → IsUtf8 (take (at + n) bs)
grow_front bs at w n u valid =
    let short = valid.short in
    grow bs at n u (subst IsUtf8 (take-take n w (drop at bs) (omega (arith, length-take w (drop at bs)))) valid.front)

items_at : (bs t : List ℕ) (m : ℕ) → IsUtf8 (take m bs) → t ≡ take m bs
    → lossy bs ≡ map Keep (chars t) ++ lossy (drop m bs)
items_at bs t m u e = text_front bs m u ∙ ap (λ l. map Keep (chars l) ++ lossy (drop m bs)) (sym e)

pub bad_at : (bs t : List ℕ) (m k : ℕ) → IsUtf8 (take m bs) → m ≤ length bs → t ≡ take m bs → lossy (drop m bs)
    ≡ Bad k ∷ lossy (drop k (drop m bs)) → lossy bs ≡ map Keep (chars t) ++ Bad k ∷ lossy (drop (length t + k) bs)
bad_at bs t m k u le e bad =
    let long : m ≡ length t = sym (length-take-le m bs le) ∙ ap length (sym e) in
    items_at bs t m u e ∙ ap (λ l. map Keep (chars t) ++ l)
    (bad ∙ ap (λ l. Bad k ∷ lossy l) (drop-drop k m bs ∙ ap (λ j. drop (j + k) bs) long))

-- a broken sequence in a window is one of all the bytes
pub window_bad : (bs t : List ℕ) (at w n k : ℕ) → IsUtf8 (take at bs) → at + w ≤ length bs
    → IsValidUpTo (take w (drop at bs)) n → utf8_error_len (drop n (take w (drop at bs))) ≡ Some k
    → t ≡ take (at + n) bs
    → lossy bs ≡ map Keep (chars t) ++ Bad k ∷ lossy (drop (length t + k) bs)
window_bad bs t at w n k u le valid fault e =
    let short = valid.short in
    let long : length (take w (drop at bs)) ≡ w = length-take-le w (drop at bs) (omega (arith, length-drop at bs)) in
    let parts : w ≡ n + (w - n) = omega (arith, long) in
    let is : drop n (take w (drop at bs)) ≡ take (w - n) (drop (at + n) bs) =
    ap (λ j. drop n (take j (drop at bs))) parts ∙ drop-take n (w - n) (drop at bs)
    ∙ ap (take (w - n)) (drop-drop n at bs) in
    bad_at bs t (at + n) k (grow_front bs at w n u valid) (omega (arith, long)) e
    (bad_front (drop (at + n) bs) (w - n) k (omega (arith, long, length-drop (at + n) bs))
    (subst StartsWithNoChar is (none_after (take w (drop at bs)) n valid)) (ap utf8_error_len (sym is) ∙ fault))

pub rest_cut : (bs t : List ℕ) (at n : ℕ) → IsUtf8 (take at bs) → at ≤ length bs
    → IsValidUpTo (take (length bs - at) (drop at bs)) n
    → utf8_error_len (drop n (take (length bs - at) (drop at bs))) ≡ None → t ≡ take (at + n) bs
    → lossy bs ≡ map Keep (chars t) ++ Cut (drop (length t) bs) ∷ []
rest_cut bs t at n u le valid0 fault e =
    let all = all_of bs at in
    let valid = subst (λ l. IsValidUpTo l n) all valid0 in
    let short = valid.short in
    let is = drop-drop n at bs in
    let long : at + n ≡ length t = sym (length-take-le (at + n) bs (omega (arith, length-drop at bs)))
    ∙ ap length (sym e) in
    items_at bs t (at + n) (grow bs at n u valid.front) e ∙ ap (λ l. map Keep (chars t) ++ l)
    (lossy-cut (drop (at + n) bs) (omega (arith, length-drop at bs, length-drop (at + n) bs))
    (subst StartsWithNoChar is (none_after (drop at bs) n valid))
    (ap utf8_error_len (sym is ∙ ap (drop n) (sym all)) ∙ fault) ∙ ap (λ j. Cut (drop j bs) ∷ []) long)
