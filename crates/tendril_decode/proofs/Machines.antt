-- Laws of machines: a stream may be cut anywhere, and parts that are decoded one after another are decoded at once.
use Rattle.std.proofs.Common.{◌≡◌, ℕ, true, List, [], ◌∷◌, ◌++◌, map, refl, sym, ap, ap₂, ◌∙◌, append_assoc, append-nil}
use Rattle.std.specs.Char.{IsScalar, encode_utf8}
use Rattle.std.specs.Str.{all_scalars}
use Rattle.std.proofs.lemmas.List.{map-append}
use Rattle.std.proofs.lemmas.Str.{encodes-append}
use Rattle.std.proofs.lemmas.Bool.{and_parts, and_from}
use Rattle.tendril_lossy.specs.Lossy.{Told, Char}
use Rattle.tendril_decode.specs.Machines.{Machine, state_after, told_from, DecodesTo}

pub scalars-append : (cs ds : List ℕ) → all_scalars cs ≡ true → all_scalars ds ≡ true → all_scalars (cs ++ ds) ≡ true
scalars-append [] ds h k = k
scalars-append (c ∷ cs) ds h k = let both = and_parts _ _ h in and_from _ _ both.0 (scalars-append cs ds both.1 k)

module _ {S : Type 0} (m : Machine S) where
  pub state-append : (s : S) (a b : List ℕ) → state_after m s (a ++ b) ≡ state_after m (state_after m s a) b
  state-append s [] b = refl
  state-append s (x ∷ a) b = state-append (m.step s x) a b

  pub told-append : (s : S) (a b : List ℕ) → told_from m s (a ++ b)
      ≡ told_from m s a ++ told_from m (state_after m s a) b
  told-append s [] b = refl
  told-append s (x ∷ a) b = ap (λ l. m.tells s x ++ l) (told-append (m.step s x) a b)
      ∙ sym (append_assoc (m.tells s x) (told_from m (m.step s x) a) (told_from m (state_after m (m.step s x) a) b))

  pub DecodesTo-none : (s : S) (input : List ℕ) → DecodesTo m s input [] [] s input
  DecodesTo-none s input =
      record { characters = []; scalars = refl; written = refl; told = refl; state = refl }

  pub DecodesTo-more : (s t u : S) (input text rest more last : List ℕ) (marks : List Told)
      → DecodesTo m s input text [] t rest → DecodesTo m t rest more marks u last
      → DecodesTo m s input (text ++ more) marks u last
  DecodesTo-more s t u input text rest more last marks d e = record {
    characters = d.characters ++ e.characters;
    scalars = scalars-append d.characters e.characters d.scalars e.scalars;
    written = ap₂ (λ x y. x ++ y) d.written e.written ∙ sym (encodes-append d.characters e.characters);
    told = d.told ∙ ap (λ l. map Char d.characters ++ l) e.told
        ∙ sym (append_assoc (map Char d.characters) (map Char e.characters) (marks ++ told_from m u last))
        ∙ ap (λ l. l ++ (marks ++ told_from m u last)) (sym (map-append Char d.characters e.characters));
    state = d.state ∙ e.state;
  }

  -- bytes that tell one character
  pub DecodesTo-char : (s t : S) (bytes rest : List ℕ) (c : ℕ) → IsScalar c → told_from m s bytes ≡ Char c ∷ []
      → state_after m s bytes ≡ t → DecodesTo m s (bytes ++ rest) (encode_utf8 c) [] t rest
  DecodesTo-char s t bytes rest c scalar told state = record {
    characters = c ∷ [];
    scalars = and_from _ _ scalar refl;
    written = sym (append-nil (encode_utf8 c));
    told = told-append s bytes rest ∙ ap₂ (λ l u. l ++ told_from m u rest) told state;
    state = state-append s bytes rest ∙ ap (λ u. state_after m u rest) state;
  }

  -- bytes that tell only marks
  pub DecodesTo-marks : (s t : S) (bytes rest : List ℕ) (marks : List Told) → told_from m s bytes ≡ marks
      → state_after m s bytes ≡ t → DecodesTo m s (bytes ++ rest) [] marks t rest
  DecodesTo-marks s t bytes rest marks told state = record {
    characters = [];
    scalars = refl;
    written = refl;
    told = told-append s bytes rest ∙ ap₂ (λ l u. l ++ told_from m u rest) told state;
    state = state-append s bytes rest ∙ ap (λ u. state_after m u rest) state;
  }
