-- WTF-8: UTF-8 that may have lone surrogates, of three bytes each. It is what an encoder of 16-bit units can return.
use Rattle.std.specs.Prelude.{◌≡◌, ℕ, ◌<◌, ◌&&◌, List, [], ◌∷◌, ◌++◌, if◌then◌else◌, flat_map, chars, encode_utf8_all}
use Rattle.std.specs.List.{AllByRecursion}
use Rattle.std.specs.Char.Utf16.{is_high_surrogate, is_low_surrogate, surrogate_pair_char}
use Rattle.std.specs.Char.Escape.{encode_utf16}

-- a 16-bit unit, as in UTF-16
abbrev pub IsUnit : ℕ → Type 0
IsUnit u = u < 0x1_0000

-- the code points that units spell: a lead and the trail right after it are one, any other unit is one by itself
abbrev pub code_points : List ℕ → List ℕ
code_points [] = []
code_points (u ∷ []) = u ∷ []
code_points (u ∷ v ∷ us) =
    if is_high_surrogate u && is_low_surrogate v then surrogate_pair_char u v ∷ code_points us
    else u ∷ code_points (v ∷ us)

-- the bytes of units: those of their code points, one after another
abbrev pub wtf8 : List ℕ → List ℕ
wtf8 us = encode_utf8_all (code_points us)

-- the bytes are the WTF-8 of some units
abbrev pub IsWtf8 : List ℕ → Type 0
IsWtf8 bs = (us : List ℕ) × AllByRecursion IsUnit us × (wtf8 us ≡ bs)

-- the units that valid bytes spell
abbrev pub units : List ℕ → List ℕ
units bs = flat_map encode_utf16 (chars bs)

-- the join of two valid texts: the WTF-8 of the left one's units, then the right one's
abbrev pub wtf8_join : List ℕ → List ℕ → List ℕ
wtf8_join l r = wtf8 (units l ++ units r)
