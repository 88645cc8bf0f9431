-- Characters split off a text one by one, in any format that has characters. For code that is generic in the format:
-- the arguments before the bytes are the format's members.
use Rattle.std.proofs.Common.{◌≡◌, ℕ, ◌+◌, List, [], ◌∷◌, ◌++◌, take, drop, refl, sym, ap, ap₂, subst, ◌∙◌, arith}
use Rattle.std.proofs.Common.{append_assoc, append-nil, length-drop}
use Rattle.std.proofs.Math.Seq.{take-add}
use Rattle.std.proofs.lemmas.List.{drop-drop}
use Rattle.std.proofs.lemmas.List.Concat.{flat_map-append}
use Rattle.tendril_fmt.specs.Chars.{encodings, IsFirstChar, AreTextsOf, IsSplitAfter}

module _ (valid : List ℕ → Type 0) (chars : List ℕ → List ℕ) (encodes : ℕ → Type 0) (encoding : ℕ → List ℕ) where
  -- at the beginning no character is split off
  pub IsSplitAfter-start : (bytes : List ℕ) → valid bytes → IsSplitAfter valid chars encoding bytes [] 0
  IsSplitAfter-start bytes v = record { within = omega arith; front = refl; characters = refl; rest_valid = v }

  -- one more character is split off
  pub IsSplitAfter-step : (bytes cs : List ℕ) (n c m : ℕ) → IsSplitAfter valid chars encoding bytes cs n
      → IsFirstChar valid chars encodes encoding (drop n bytes) c m
      → IsSplitAfter valid chars encoding bytes (cs ++ c ∷ []) (n + m)
  IsSplitAfter-step bytes cs n c m s f =
      let rest : drop m (drop n bytes) ≡ drop (n + m) bytes = drop-drop m n bytes in
      let one : encodings encoding (c ∷ []) ≡ encoding c = append-nil (encoding c) in
      record {
        within = omega (arith, f.within, length-drop n bytes, s.within);
        front = take-add n m bytes ∙ ap₂ (λ x y. x ++ y) s.front (f.front ∙ sym one)
            ∙ sym (flat_map-append encoding cs (c ∷ []));
        characters = s.characters ∙ ap (λ l. cs ++ l) (f.characters ∙ ap (λ r. c ∷ chars r) rest)
            ∙ sym (append_assoc cs (c ∷ []) (chars (drop (n + m) bytes)));
        rest_valid = subst valid rest f.rest_valid;
      }

  -- the bytes that were split off are a text with these characters, by the law `cut`
  pub IsSplitAfter-texts : (bytes cs : List ℕ) (n : ℕ) → AreTextsOf valid chars encoding cs (chars (drop n bytes))
      → IsSplitAfter valid chars encoding bytes cs n
      → valid (take n bytes) × (chars (take n bytes) ≡ cs)
  IsSplitAfter-texts bytes cs n t s = (subst valid (sym s.front) t.front_valid, ap chars s.front ∙ t.front_chars)
