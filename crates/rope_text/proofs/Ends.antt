-- The ends of pieces after a push, an append, a pop and a cut.
use Rattle.std.proofs.Common.{◌≡◌, ℕ, zero, suc, ◌+◌, ◌-◌, ◌%◌, ◌^◌, ◌<◌, ◌≤◌, List, [], ◌∷◌, ◌++◌, length, get_or, map}
use Rattle.std.proofs.Common.{take, drop, refl, sym, ap, ◌∙◌, arith, inl, inr}
use Rattle.std.proofs.lemmas.Bool.{cases_lt}
use Rattle.std.proofs.lemmas.List.{length-append, length-map, length-take, length_push, get_or-map, get_or-append-add}
use Rattle.std.proofs.lemmas.List.{get_or_append_left, get_or_push, get_or_read, get_or-take, take-append-le, take-take}
use Rattle.std.proofs.lemmas.List.{take_all}
use Rattle.std.proofs.Math.Seq.{take-append-add}
use Rattle.rope_text.proofs.Joined.{length_joined_both}
use Rattle.rope_text.specs.Ropes.{AreEnds}
use Rattle.tendril_text.proofs.TextLists.{joined-append, joined_push}
use Rattle.tendril_text.specs.TextLists.{bytes_of_all}
use Rattle.tendril_text.specs.Texts.{Text}

pub wrapped_twice : (s n m : ℕ) → ((s + n) % 2 ^ 64 + m) % 2 ^ 64 ≡ (s + (n + m)) % 2 ^ 64
wrapped_twice s n m = omega arith

pub AreEnds-push : (xs : List Text) (t : Text) (s e : ℕ) (ends : List ℕ)
    → e ≡ (s + (length (bytes_of_all xs) + length t.bytes)) % 2 ^ 64 → AreEnds xs s ends
    → AreEnds (xs ++ t ∷ []) s (ends ++ e ∷ [])
AreEnds-push xs t s e ends is h =
    let l = h.len in
    record {
      len = length_push ends e ∙ ap (λ n. n + 1) h.len ∙ sym (length_push xs t);
      at = λ k b. elim (cases_lt k (length xs)) [
        | inl in' ↦ get_or_append_left ends (e ∷ []) 0 k (omega arith) ∙ h.at k in'
            ∙ ap (λ ys. (s + length (bytes_of_all ys)) % 2 ^ 64)
            (sym (take-append-le (k + 1) xs (t ∷ []) (omega arith)))
        | inr past ↦
            let q = length_push xs t in
            let all : take (k + 1) (xs ++ t ∷ []) ≡ xs ++ t ∷ [] = take_all (k + 1) (xs ++ t ∷ []) (omega arith) in
            let here : length ends ≡ k = omega arith in
            get_or_push ends e 0 k here ∙ is
            ∙ ap (λ n. (s + n) % 2 ^ 64) (sym (ap (λ ys. length (bytes_of_all ys)) all
            ∙ ap length (joined_push xs t) ∙ length-append (bytes_of_all xs) t.bytes))
      ];
    }

-- the first piece is removed
pub AreEnds-rest : (x : Text) (rest : List Text) (s n : ℕ) (ends : List ℕ) → n ≡ (s + length x.bytes) % 2 ^ 64
    → AreEnds (x ∷ rest) s ends → AreEnds rest n (drop 1 ends)
AreEnds-rest x rest s n [] is h = absurd (let l = h.len in omega arith)
AreEnds-rest x rest s n (e ∷ ends) is h = record {
  len = let l = h.len in omega arith;
  at = λ k b.
      let size : length (bytes_of_all (take (k + 1 + 1) (x ∷ rest)))
      ≡ length x.bytes + length (bytes_of_all (take (k + 1) rest)) = let j : k + 1 + 1 ≡ suc (k + 1) =
      omega arith in ap (λ m. length (bytes_of_all (take m (x ∷ rest)))) j
      ∙ length-append x.bytes (bytes_of_all (take (k + 1) rest)) in
      let was : get_or (e ∷ ends) (k + 1) 0 ≡ (s + length (bytes_of_all (take (k + 1 + 1) (x ∷ rest)))) % 2 ^ 64 =
      h.at (k + 1) (omega arith) in
      let j : k + 1 ≡ suc k = omega arith in
      let same : get_or (e ∷ ends) (k + 1) 0 ≡ get_or ends k 0 = ap (λ m. get_or (e ∷ ends) m 0) j in
      sym same ∙ was ∙ ap (λ m. (s + m) % 2 ^ 64) size
      ∙ sym (wrapped_twice s (length x.bytes) (length (bytes_of_all (take (k + 1) rest))))
      ∙ ap (λ m. (m + length (bytes_of_all (take (k + 1) rest))) % 2 ^ 64) (sym is);
}

-- the first piece has lost `lost` bytes at its front
pub AreEnds-left : (x left : Text) (rest : List Text) (s n lost : ℕ) (ends : List ℕ) → length x.bytes
    ≡ lost + length left.bytes → n ≡ (s + lost) % 2 ^ 64 → AreEnds (x ∷ rest) s ends → AreEnds (left ∷ rest) n ends
AreEnds-left x left rest s n lost ends e is h = record {
  len = h.len;
  at = λ k b.
      let m = length (bytes_of_all (take k rest)) in
      let one : (y : Text) → length (bytes_of_all (take (k + 1) (y ∷ rest))) ≡ length y.bytes + m = λ y. let i : k + 1
      ≡ suc k = omega arith in ap (λ j. length (bytes_of_all (take j (y ∷ rest)))) i
      ∙ length-append y.bytes (bytes_of_all (take k rest)) in
      let both : length (bytes_of_all (take (k + 1) (x ∷ rest)))
      ≡ lost + length (bytes_of_all (take (k + 1) (left ∷ rest))) = let p = one x in let q = one left in
      omega arith in
      h.at k b ∙ ap (λ j. (s + j) % 2 ^ 64) both
      ∙ sym (wrapped_twice s lost (length (bytes_of_all (take (k + 1) (left ∷ rest)))))
      ∙ ap (λ j. (j + length (bytes_of_all (take (k + 1) (left ∷ rest)))) % 2 ^ 64) (sym is);
}

-- the same offset, from the start of either list
moved_on : (s t by n m : ℕ) → (t + by) % 2 ^ 64 ≡ (s + n) % 2 ^ 64 → ((t + m) % 2 ^ 64 + by) % 2 ^ 64
    ≡ (s + (n + m)) % 2 ^ 64
moved_on s t by n m e = omega arith

-- from one start to another
pub moved_between : (s t m : ℕ) → t < 2 ^ 64 → (t + ((s + m) % 2 ^ 64 + (2 ^ 64 - t)) % 2 ^ 64) % 2 ^ 64
    ≡ (s + m) % 2 ^ 64
moved_between s t m h = omega arith

-- the pieces of another list are appended, and their ends are moved
pub AreEnds-append : (xs ys : List Text) (s t by : ℕ) (ends more : List ℕ) → (t + by) % 2 ^ 64
    ≡ (s + length (bytes_of_all xs)) % 2 ^ 64 → AreEnds xs s ends → AreEnds ys t more
    → AreEnds (xs ++ ys) s (ends ++ map (λ e. (e + by) % 2 ^ 64) more)
AreEnds-append xs ys s t by ends more e h m =
    let moved = map (λ e. (e + by) % 2 ^ 64) more in
    let l = h.len in
    let l' = m.len in
    let n : length moved ≡ length more = length-map more (λ e. (e + by) % 2 ^ 64) in
    let size : length (xs ++ ys) ≡ length xs + length ys = length-append xs ys in
    record {
      len = length-append ends moved ∙ omega arith;
      at = λ k b. elim (cases_lt k (length xs)) [
        | inl in' ↦ get_or_append_left ends moved 0 k (omega arith) ∙ h.at k in'
            ∙ ap (λ zs. (s + length (bytes_of_all zs)) % 2 ^ 64) (sym (take-append-le (k + 1) xs ys (omega arith)))
        | inr past ↦
            let j = k - length xs in
            let is : k ≡ length ends + j = omega arith in
            let is' : k + 1 ≡ length xs + (j + 1) = omega arith in
            let within : j < length ys = omega arith in
            let part : bytes_of_all (take (k + 1) (xs ++ ys)) ≡ bytes_of_all xs ++ bytes_of_all (take (j + 1) ys) =
            ap (λ i. bytes_of_all (take i (xs ++ ys))) is' ∙ ap bytes_of_all (take-append-add xs ys (j + 1))
            ∙ joined-append xs (take (j + 1) ys) in
            ap (λ i. get_or (ends ++ moved) i 0) is ∙ get_or-append-add ends moved j 0
            ∙ get_or-map (λ e. (e + by) % 2 ^ 64) more j 0 0 (omega arith)
            ∙ ap (λ e. (e + by) % 2 ^ 64) (m.at j within)
            ∙ moved_on s t by (length (bytes_of_all xs)) (length (bytes_of_all (take (j + 1) ys))) e
            ∙ ap (λ i. (s + i) % 2 ^ 64) (sym
            (ap length part ∙ length-append (bytes_of_all xs) (bytes_of_all (take (j + 1) ys))))
      ];
    }

-- only the first pieces
pub AreEnds-take : (xs : List Text) (n s : ℕ) (ends : List ℕ) → n ≤ length xs → AreEnds xs s ends
    → AreEnds (take n xs) s (take n ends)
AreEnds-take xs n s ends b h =
    let l = h.len in
    let size : length (take n xs) ≡ n = rw length-take (omega arith) in
    let size' : length (take n ends) ≡ n = rw length-take (omega arith) in
    record {
      len = size' ∙ sym size;
      at = λ k within.
          get_or-take n ends k 0 (omega arith) ∙ h.at k (omega arith)
          ∙ ap (λ zs. (s + length (bytes_of_all zs)) % 2 ^ 64) (sym (take-take (k + 1) n xs (omega arith)));
    }

-- the same start, modulo 2 ^ 64
AreEnds-start : (xs : List Text) (s n : ℕ) (ends : List ℕ) → n ≡ (s + 0) % 2 ^ 64 → AreEnds xs s ends
    → AreEnds xs n ends
AreEnds-start xs s n ends is h = record {
  len = h.len;
  at = λ k b. h.at k b ∙ let m = length (bytes_of_all (take (k + 1) xs)) in
      let e : (s + m) % 2 ^ 64 ≡ (n + m) % 2 ^ 64 = omega arith in e;
}

-- the first pieces are removed
pub AreEnds-drop : (xs : List Text) (k s n : ℕ) (ends : List ℕ) → k ≤ length xs
    → n ≡ (s + length (bytes_of_all (take k xs))) % 2 ^ 64 → AreEnds xs s ends → AreEnds (drop k xs) n (drop k ends)
AreEnds-drop xs zero s n ends b is h = AreEnds-start xs s n ends is h
AreEnds-drop [] (suc k) s n ends b is h = absurd (omega arith)
AreEnds-drop (x ∷ xs) (suc k) s n [] b is h = absurd (let l = h.len in omega arith)
AreEnds-drop (x ∷ xs) (suc k) s n (e ∷ ends) b is h =
    let mid = (s + length x.bytes) % 2 ^ 64 in
    let size : length (bytes_of_all (take (suc k) (x ∷ xs))) ≡ length x.bytes + length (bytes_of_all (take k xs)) =
    length-append x.bytes (bytes_of_all (take k xs)) in
    AreEnds-drop xs k mid n ends (omega arith) (is ∙ ap (λ m. (s + m) % 2 ^ 64) size
    ∙ sym (wrapped_twice s (length x.bytes) (length (bytes_of_all (take k xs)))))
    (AreEnds-rest x xs s mid (e ∷ ends) refl h)

-- the offset where a piece ends, by its end and the start
pub end_is : (xs : List Text) (s k e total : ℕ) (ends : List ℕ) → s < 2 ^ 64 → total < 2 ^ 64
    → total ≡ length (bytes_of_all xs) → k < length xs → e ≡ get_or ends k e → AreEnds xs s ends
    → (e + (2 ^ 64 - s)) % 2 ^ 64 ≡ length (bytes_of_all (take (k + 1) xs))
end_is xs s k e total ends small most size b read h =
    let n = length (bytes_of_all (take (k + 1) xs)) in
    let l = h.len in
    let is : e ≡ (s + n) % 2 ^ 64 = get_or_read ends k e (omega arith) read 0 ∙ h.at k b in
    let both = length_joined_both xs (k + 1) in
    let fits : n < 2 ^ 64 = omega arith in
    let same : (e + (2 ^ 64 - s)) % 2 ^ 64 ≡ n = omega arith in
    same
