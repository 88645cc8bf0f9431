-- Ropes that are created, appended to and cut.
use Rattle.std.proofs.Common.{◌≡◌, ℕ, ◌+◌, ◌%◌, ◌^◌, ◌<◌, ◌≤◌, List, [], ◌∷◌, ◌++◌, length, map, take, drop, ap}
use Rattle.std.proofs.Common.{◌∙◌, arith}
use Rattle.std.proofs.lemmas.List.{length-append}
use Rattle.std.proofs.lemmas.List.Elements.{All-append, All-push, All-drop, All-take}
use Rattle.rope_text.proofs.Ends.{AreEnds-append, AreEnds-push, AreEnds-take, AreEnds-drop}
use Rattle.rope_text.proofs.Joined.{length_joined_both}
use Rattle.rope_text.specs.Ropes.{IsPiece, IsRope}
use Rattle.tendril_text.proofs.TextLists.{joined-append, joined_push}
use Rattle.tendril_text.specs.TextLists.{bytes_of_all}
use Rattle.tendril_text.specs.Texts.{Text}

pub IsRope-append : (xs ys : List Text) (s t by m n total : ℕ) (ends more : List ℕ) → IsRope xs s ends m
    → IsRope ys t more n → total ≡ m + n → total < 2 ^ 64 → (t + by) % 2 ^ 64 ≡ (s + m) % 2 ^ 64
    → IsRope (xs ++ ys) s (ends ++ map (λ e. (e + by) % 2 ^ 64) more) total
IsRope-append xs ys s t by m n total ends more a b e fits moved =
    let p = a.counts in
    record {
      each = All-append IsPiece xs ys a.each b.each;
      counts = let size : length (bytes_of_all (xs ++ ys)) ≡ length (bytes_of_all xs) + length (bytes_of_all ys) =
          ap length (joined-append xs ys) ∙ length-append (bytes_of_all xs) (bytes_of_all ys) in
          let q = b.counts in omega arith;
      fits = fits;
      places = AreEnds-append xs ys s t by ends more (moved ∙ ap (λ i. (s + i) % 2 ^ 64) p) a.places b.places;
    }

pub IsRope-push : (xs : List Text) (t : Text) (s e m total : ℕ) (ends : List ℕ) → IsRope xs s ends m → IsPiece t
    → total ≡ m + length t.bytes → total < 2 ^ 64 → e ≡ (s + total) % 2 ^ 64
    → IsRope (xs ++ t ∷ []) s (ends ++ e ∷ []) total
IsRope-push xs t s e m total ends a b is fits moved =
    let p = a.counts in
    record {
      each = All-push IsPiece xs t a.each b;
      counts = let size : length (bytes_of_all (xs ++ t ∷ [])) ≡ length (bytes_of_all xs) + length t.bytes =
          ap length (joined_push xs t) ∙ length-append (bytes_of_all xs) t.bytes in omega arith;
      fits = fits;
      places = AreEnds-push xs t s e ends (moved ∙ ap (λ i. (s + i) % 2 ^ 64) (omega arith)) a.places;
    }

pub IsRope-take : (xs : List Text) (k s total n : ℕ) (ends : List ℕ) → k ≤ length xs
    → n ≡ length (bytes_of_all (take k xs)) → IsRope xs s ends total → IsRope (take k xs) s (take k ends) n
IsRope-take xs k s total n ends b is h =
    record {
      each = All-take IsPiece k xs h.each;
      counts = is;
      fits = let both = length_joined_both xs k in
          let p = h.counts in let q = h.fits in omega arith;
      places = AreEnds-take xs k s ends b h.places;
    }

pub IsRope-drop : (xs : List Text) (k s t total n : ℕ) (ends : List ℕ) → k ≤ length xs
    → t ≡ (s + length (bytes_of_all (take k xs))) % 2 ^ 64 → n + length (bytes_of_all (take k xs)) ≡ total
    → IsRope xs s ends total → IsRope (drop k xs) t (drop k ends) n
IsRope-drop xs k s t total n ends b is size h = record {
  each = All-drop IsPiece k xs h.each;
  counts = let both = length_joined_both xs k in let p = h.counts in omega arith;
  fits = let q = h.fits in omega arith;
  places = AreEnds-drop xs k s t ends b is h.places;
}
