-- A machine within another, as an encoding that is chosen at run time: each state of the one is a state of the other.
use Rattle.std.proofs.Common.{◌≡◌, ℕ, List, [], ◌∷◌, ◌++◌, map, refl, sym, ap, ap₂, ◌∙◌}
use Rattle.tendril_lossy.specs.Lossy.{Told, Char}
use Rattle.tendril_decode.specs.Machines.{Machine, state_after, told_from, DecodesTo}

module _ {S T : Type 0} (m : Machine S) (n : Machine T) (h : S → T)
    (steps : (s : S) (b : ℕ) → n.step (h s) b ≡ h (m.step s b))
    (tells : (s : S) (b : ℕ) → n.tells (h s) b ≡ m.tells s b)
  where
    state-embed : (s : S) (bs : List ℕ) → state_after n (h s) bs ≡ h (state_after m s bs)
    state-embed s [] = refl
    state-embed s (b ∷ bs) = ap (λ t. state_after n t bs) (steps s b) ∙ state-embed (m.step s b) bs

    told-embed : (s : S) (bs : List ℕ) → told_from n (h s) bs ≡ told_from m s bs
    told-embed s [] = refl
    told-embed s (b ∷ bs) = ap₂ (λ l t. l ++ told_from n t bs) (tells s b) (steps s b)
        ∙ ap (λ l. m.tells s b ++ l) (told-embed (m.step s b) bs)

    pub DecodesTo-embed : (s t : S) (input text rest : List ℕ) (marks : List Told)
        → DecodesTo m s input text marks t rest
        → DecodesTo n (h s) input text marks (h t) rest
    DecodesTo-embed s t input text rest marks d = record {
      characters = d.characters;
      scalars = d.scalars;
      written = d.written;
      told = told-embed s input ∙ d.told ∙ ap (λ l. map Char d.characters ++ (marks ++ l)) (sym (told-embed t rest));
      state = state-embed s input ∙ ap h d.state ∙ sym (state-embed t rest);
    }
