-- A decoder that takes one byte at a time, and its machine.
use Rattle.std.specs.Prelude.{◌≡◌, ℕ, ◌+◌, ◌<◌, ◌≤◌, [], ◌∷◌, ◌++◌, length}
use Rattle.std.specs.Char.{IsScalar, encode_utf8}
use Rattle.tendril_lossy.specs.Lossy.{Char}
use Rattle.tendril_decode.specs.Machines.{Machine, invalid}
use Rattle.tendril_decode.specs.declared.steps.Step.{Step}
use Rattle.tendril_decode.specs.declared.steps.Step.TheVariants.{Nothing, Scalar, Two, Broken, BrokenBefore, Owed}

-- A byte takes the decoder from the state s to the state t. Where the byte isn't read, t is a state before it. A state
-- that is heavier by one may have written one byte more than three for each byte that was read.
abbrev pub IsStep : {S : Type 0} → Machine S → (S → ℕ) → S → ℕ → S → Step → Type 0
IsStep m weight s b t Nothing = (m.tells s b ≡ []) × (m.step s b ≡ t) × (weight t ≤ weight s + 3)
IsStep m weight s b t (Scalar c) =
    IsScalar c × (m.tells s b ≡ Char c ∷ []) × (m.step s b ≡ t) × (length (encode_utf8 c) + weight t ≤ weight s + 3)
IsStep m weight s b t (Two c d) =
    IsScalar c × IsScalar d × (m.tells s b ≡ Char c ∷ Char d ∷ []) × (m.step s b ≡ t)
    × (length (encode_utf8 c) + length (encode_utf8 d) + weight t ≤ weight s + 3)
IsStep m weight s b t Broken = (m.tells s b ≡ invalid) × (m.step s b ≡ t)
IsStep m weight s b t BrokenBefore =
    (m.tells s b ≡ invalid ++ m.tells t b) × (m.step s b ≡ m.step t b) × (weight t < weight s)
IsStep m weight s b t (Owed c) =
    IsScalar c × (m.tells s b ≡ Char c ∷ m.tells t b) × (m.step s b ≡ m.step t b)
    × (length (encode_utf8 c) + weight t ≤ weight s)
