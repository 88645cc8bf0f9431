-- A text has at most as many units as bytes.
use Rattle.std.proofs.Common.{ℕ, ◌≤◌, List, [], ◌∷◌, length, flat_map, ap, subst, arith, length-append}
use Rattle.std.specs.Char.{encode_utf8}
use Rattle.std.specs.Char.Escape.{encode_utf16}
use Rattle.std.specs.Str.{encode_utf8_all}
use Rattle.tendril.specs.Fmt.Wtf8.{IsWtf8, units}
use Rattle.tendril.specs.Fmt.Proved.Units.{points_of}
use Rattle.tendril.specs.Proofs.UnitCounts.{utf16_fits}
use Rattle.tendril.specs.Proofs.Wtf8Joins.{units_of}

fits : (cs : List ℕ) → length (flat_map encode_utf16 cs) ≤ length (encode_utf8_all cs)
fits [] = omega arith
fits (c ∷ cs) = omega (
  arith,
  length-append (encode_utf16 c) (flat_map encode_utf16 cs),
  length-append (encode_utf8 c) (encode_utf8_all cs),
  utf16_fits c,
  fits cs,
)

pub length-units : (bytes : List ℕ) → IsWtf8 bytes → length (units bytes) ≤ length bytes
length-units bytes h =
    let p = points_of bytes h in
    subst (λ b. length (units b) ≤ length b) p.2 (omega (arith, ap length (units_of p.0 p.1), fits p.0))
