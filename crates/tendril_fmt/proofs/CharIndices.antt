-- What one call of the iterator of std's `char_indices` does to the remaining characters and their offsets.
use Rattle.std.proofs.Common.{◌≡◌, ℕ, ◌+◌, ◌<◌, List, [], ◌∷◌, length, Option, Some, None, chars, encode_utf8, sym, ap}
use Rattle.std.proofs.Common.{subst, ◌∙◌, arith, length-append}
use Rattle.std.specs.declared.str.CharIndices.{CharIndices}
use Rattle.std.specs.Str.Iter.{char_indices_steps, char_indices_rest, char_indices_offset}
use Rattle.std.specs.Iterator.{YieldsFirst, MakesProgress, item_count}
use Rattle.std.proofs.lemmas.Str.{chars-nil, chars_past_char, IsUtf8-past_char}
use Rattle.tendril_fmt.specs.Chars.{places_from, IsAtUtf8}

-- the remaining characters, with their offsets
abbrev pub places : CharIndices → List (ℕ × ℕ)
places s = places_from encode_utf8 (char_indices_offset s) (chars (char_indices_rest s))

abbrev pub IsAt : CharIndices → Type 0
IsAt s = IsAtUtf8 (char_indices_offset s) (char_indices_rest s)

-- the remaining bytes are still UTF-8
pub IsAt-step : (s t : CharIndices) (r : Option (ℕ × ℕ)) → IsAt s → char_indices_steps s r t → IsAt t
IsAt-step s t None h step = subst IsAt (sym step.1) h
IsAt-step s t (Some p) h step = record {
  utf8 = IsUtf8-past_char (char_indices_rest s) (char_indices_rest t) p.1 h.utf8 step.1;
  fits = omega (arith, h.fits, step.2, ap length step.1, length-append (encode_utf8 p.1) (char_indices_rest t));
}

nothing_left : (bytes : List ℕ) (at : ℕ) → length bytes ≡ 0 → places_from encode_utf8 at (chars bytes) ≡ []
nothing_left [] at e = ap (places_from encode_utf8 at) chars-nil
nothing_left (b ∷ bytes) at e = cc

-- the first of them is returned, and the others remain
pub YieldsFirst-step : (s t : CharIndices) (r : Option (ℕ × ℕ)) → IsAt s → char_indices_steps s r t
    → YieldsFirst (λ rest. rest) (places s) r (places t)
YieldsFirst-step s t None h step =
    let none = nothing_left (char_indices_rest s) (char_indices_offset s) step.0 in
    (none, ap places step.1 ∙ none)
YieldsFirst-step s t (Some p) h step =
    ap (places_from encode_utf8 (char_indices_offset s))
    (chars_past_char (char_indices_rest s) (char_indices_rest t) p.1 h.utf8 step.1)
    ∙ ap (λ k. (k, p.1) ∷ places_from encode_utf8 (char_indices_offset s + length (encode_utf8 p.1))
    (chars (char_indices_rest t))) (sym step.0)
    ∙ ap (λ k. p ∷ places_from encode_utf8 k (chars (char_indices_rest t))) (sym step.2)

-- so their number decreases
pub MakesProgress-first : (can : List (ℕ × ℕ) → Type 0) → ((rest : List (ℕ × ℕ)) → can rest)
    → (old new : List (ℕ × ℕ)) (r : Option (ℕ × ℕ))
    → YieldsFirst (λ rest. rest) old r new → MakesProgress can (item_count (λ rest. rest)) old r new
MakesProgress-first can always old new None h = record { on = λ _. tt; keeps = tt; rests = λ _. tt }
MakesProgress-first can always old new (Some p) h = record {
  on = λ _. (always new, tt, subst (λ l. length new < length l) (sym h) (omega arith));
  keeps = always new;
  rests = λ _. tt;
}
