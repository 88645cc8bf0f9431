-- Texts without the white space at their ends.
use Rattle.std.proofs.Common.{◌≡◌, ◌⊎◌, ℕ, zero, suc, ◌<◌, ◌≤◌, ◌+◌, ◌-◌, true, false, List, ◌++◌, length, take, drop}
use Rattle.std.proofs.Common.{get_or, refl, sym, ap, ◌∙◌, subst, arith, inl, inr, length-take, length-drop}
use Rattle.std.proofs.Common.{get_or-take, get_or-drop}
use Rattle.std.proofs.lemmas.Bool.{cases_lt}
use Rattle.std.proofs.lemmas.Bool.Decides.{nat_tests}
use Rattle.std.proofs.lemmas.List.{take-append-drop}
use Rattle.std.proofs.lemmas.List.Elements.{All-from_get_or}
use Rattle.std.proofs.Math.Seq.{take-length}
use Rattle.std.specs.Char.{is_ascii_whitespace}
use Rattle.std.specs.Str.{IsTrimAsciiStart, IsTrimAsciiEnd}
use Rattle.tendril_fmt.specs.Cuts.{IsTrimOf}

white_ascii : (b : ℕ) → is_ascii_whitespace b ≡ true → b < 128
white_ascii b h = grind (arith, nat_tests)

take_all : (xs : List ℕ) (n : ℕ) → n ≡ length xs → xs ≡ take n xs
take_all xs n e = sym (take-length xs) ∙ ap (λ m. take m xs) (sym e)

module _ (s mid kept : List ℕ) (start : IsTrimAsciiStart s mid) (stop : IsTrimAsciiEnd mid kept) where
  -- where the white space at the start ends, and how many bytes stay
  abbrev from : ℕ
  from = start.0

  abbrev count : ℕ
  count = stop.0

  first_white : (i : ℕ) → i < length (take from s) → is_ascii_whitespace (get_or (take from s) i 0) ≡ true
  first_white i l =
      let within : i < from = omega (arith, l, length-take from s) in
      subst (λ b. is_ascii_whitespace b ≡ true) (sym (get_or-take from s i 0 within)) (start.3 i within)

  last_white : (i : ℕ) → i < length (drop count mid) → is_ascii_whitespace (get_or (drop count mid) i 0) ≡ true
  last_white i l =
      subst (λ b. is_ascii_whitespace b ≡ true) (sym (get_or-drop count mid i 0))
      (stop.4 (count + i) (omega arith) (omega (arith, l, length-drop count mid)))

  begins : 0 < length kept → is_ascii_whitespace (get_or kept 0 0) ≡ false
  begins some =
      let read : get_or kept 0 0 ≡ get_or s from 0 =
      ap (λ l. get_or l 0 0) stop.1 ∙ get_or-take count mid 0 0 (omega (arith, some, stop.2))
      ∙ ap (λ l. get_or l 0 0) start.1 ∙ get_or-drop from s 0 0
      ∙ ap (λ n. get_or s n 0) (let e : from + 0 ≡ from = omega arith in e) in
      subst (λ b. is_ascii_whitespace b ≡ false) (sym read)
      (start.4 (omega (arith, some, start.2, stop.2, stop.3)))

  ends : 0 < length kept → is_ascii_whitespace (get_or kept (length kept - 1) 0) ≡ false
  ends some =
      let read : get_or kept (length kept - 1) 0 ≡ get_or mid (count - 1) 0 =
      ap (λ n. get_or kept (n - 1) 0) stop.2 ∙ ap (λ l. get_or l (count - 1) 0) stop.1
      ∙ get_or-take count mid (count - 1) 0 (omega (arith, some, stop.2)) in
      subst (λ b. is_ascii_whitespace b ≡ false) (sym read) (stop.5 (omega (arith, some, stop.2)))

  trim_of : IsTrimOf s kept
  trim_of = record {
    before = take from s;
    after = drop count mid;
    joined =
        sym (take-append-drop from s)
        ∙ ap (λ r. take from s ++ r)
        (sym start.1 ∙ sym (take-append-drop count mid) ∙ ap (λ k. k ++ drop count mid) (sym stop.1));
    before_white = All-from_get_or (λ b. is_ascii_whitespace b ≡ true) (take from s) 0 first_white;
    after_white = All-from_get_or (λ b. is_ascii_whitespace b ≡ true) (drop count mid) 0 last_white;
    begins = begins;
    ends = ends;
  }

  -- the bytes that stay, by where they begin and how many they are
  kept_is : kept ≡ take (length kept) (drop (length s - length mid) s)
  kept_is =
      let first : from ≡ length s - length mid = omega (arith, start.2) in
      stop.1 ∙ ap (λ n. take n mid) (sym stop.2) ∙ ap (take (length kept)) (start.1 ∙ ap (λ n. drop n s) first)

  pub trimmed_is : IsTrimOf s (take (length kept) (drop (length s - length mid) s))
  trimmed_is = subst (IsTrimOf s) kept_is trim_of

pub trimmed_count : (s mid kept : List ℕ) → IsTrimAsciiStart s mid → IsTrimAsciiEnd mid kept
    → length (take (length kept) (drop (length s - length mid) s)) ≡ length kept
trimmed_count s mid kept start stop = sym (ap length (kept_is s mid kept start stop))

module _ (valid : List ℕ → Type 0)
    (ascii_cut : (bytes : List ℕ) (place : ℕ) → valid bytes → place < length bytes → get_or bytes place 0 < 128
    → valid (take place bytes) × valid (drop place bytes))
    (after_ascii : (bytes : List ℕ) (place : ℕ) → valid bytes → place < length bytes → get_or bytes place 0 < 128
    → valid (drop (place + 1) bytes)) where
  rest_valid : (s mid : List ℕ) (start : IsTrimAsciiStart s mid) (n : ℕ) → n ≡ start.0 → valid s → valid (drop n s)
  rest_valid s mid start zero e v = v
  rest_valid s mid start (suc n) e v =
      let next : n + 1 ≡ suc n = omega arith in
      let within : n < length s = omega (arith, e, start.2) in
      let white : get_or s n 0 < 128 = white_ascii (get_or s n 0) (start.3 n (omega (arith, e))) in
      subst (λ m. valid (drop m s)) next (after_ascii s n v within white)

  front_valid : (mid kept : List ℕ) (stop : IsTrimAsciiEnd mid kept)
      → (stop.0 < length mid) ⊎ (length mid ≤ stop.0) → valid mid → valid kept
  front_valid mid kept stop (inl l) v =
      let white : get_or mid stop.0 0 < 128 = white_ascii (get_or mid stop.0 0) (stop.4 stop.0 (omega arith) l) in
      subst valid (sym stop.1) (ascii_cut mid stop.0 v l white).0
  front_valid mid kept stop (inr l) v = subst valid (take_all mid stop.0 (omega (arith, l, stop.3)) ∙ sym stop.1) v

  pub trimmed_valid : (s mid kept : List ℕ) (start : IsTrimAsciiStart s mid) (stop : IsTrimAsciiEnd mid kept) → valid s
      → valid (take (length kept) (drop (length s - length mid) s))
  trimmed_valid s mid kept start stop v =
      subst valid (kept_is s mid kept start stop)
      (front_valid mid kept stop (cases_lt stop.0 (length mid))
      (subst valid (sym start.1) (rest_valid s mid start start.0 refl v)))
