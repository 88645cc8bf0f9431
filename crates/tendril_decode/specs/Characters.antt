-- Characters that are decoded at once, from a state in which nothing is kept.
use Rattle.std.specs.Prelude.{◌≡◌, ℕ, ◌+◌, ◌*◌, ◌<◌, ◌≤◌, List, [], ◌∷◌, length, drop}
use Rattle.std.specs.Char.{IsScalar, encode_utf8}
use Rattle.tendril_lossy.specs.Lossy.{Char}
use Rattle.tendril_decode.specs.Machines.{Machine, DecodesTo}

-- At an offset, some bytes are one character: from the state s they tell that, and take the machine to s again. The
-- character has at most three bytes of UTF-8 for each of them.
pub record IsCharacter {S : Type 0} (m : Machine S) (s : S) (input : List ℕ) (at code len : ℕ) : Type 0 where
  pub some : 0 < len
  pub within : at + len ≤ length input
  pub scalar : IsScalar code
  pub short : length (encode_utf8 code) ≤ 3 * len
  pub decodes : DecodesTo m s (drop at input) (encode_utf8 code) [] s (drop (at + len) input)

-- in the state s, an ASCII byte tells itself, and keeps nothing
abbrev pub KeepsAscii : {S : Type 0} → Machine S → S → Type 0
KeepsAscii m s = (b : ℕ) → b < 0x80 → (m.tells s b ≡ Char b ∷ []) × (m.step s b ≡ s)
