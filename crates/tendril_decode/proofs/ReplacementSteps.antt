-- Steps of the decoder of `replacement`.
use Rattle.std.proofs.Common.{◌≡◌, ℕ, ◌<◌, true, false, List, [], ◌∷◌, ◌++◌, length, drop, refl, sym, ap, subst, arith}
use Rattle.std.proofs.Math.Seq.{drop-length}
use Rattle.tendril_decode.specs.Machines.{told_from, state_after, DecodesTo, invalid}
use Rattle.tendril_decode.specs.Replacement.{replacement}
use Rattle.tendril_decode.specs.declared.replacement.Replacement.{Replacement}

abbrev after : Replacement
after = record { seen = true }

silent : (bs : List ℕ) → told_from replacement after bs ≡ []
silent [] = refl
silent (b ∷ bs) = silent bs

stays : (bs : List ℕ) → state_after replacement after bs ≡ after
stays [] = refl
stays (b ∷ bs) = stays bs

-- after the first byte, bytes tell nothing
pub all_silent : (s : Replacement) (input : List ℕ) → s.seen ≡ true
    → DecodesTo replacement s input [] [] s (drop (length input) input)
all_silent s input seen =
    let is : s ≡ after = ap (λ b. record { seen = b }) seen in
    subst (λ t. DecodesTo replacement t input [] [] t (drop (length input) input)) (sym is)
    (subst (λ l. DecodesTo replacement after input [] [] after l) (sym (drop-length input))
    (record { characters = []; scalars = refl; written = refl; told = silent input; state = stays input }))

-- the first byte tells the malformed sequence
pub first_told : (s : Replacement) (input : List ℕ) → s.seen ≡ false → 0 < length input
    → DecodesTo replacement s input [] invalid after (drop (length input) input)
first_told s [] seen some = absurd (omega arith)
first_told s (b ∷ bs) seen some =
    let is : s ≡ record { seen = false } = ap (λ b. record { seen = b }) seen in
    subst (λ t. DecodesTo replacement t (b ∷ bs) [] invalid after (drop (length (b ∷ bs)) (b ∷ bs))) (sym is)
    (subst (λ l. DecodesTo replacement (record { seen = false }) (b ∷ bs) [] invalid after l)
    (sym (drop-length (b ∷ bs)))
    (record {
      characters = [];
      scalars = refl;
      written = refl;
      told = ap (λ l. invalid ++ l) (silent bs);
      state = stays bs;
    }))
