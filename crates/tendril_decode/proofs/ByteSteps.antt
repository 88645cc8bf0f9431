-- A byte from any state, read or not, after what was decoded before it.
use Rattle.std.proofs.Common.{◌≡◌, ℕ, ◌+◌, ◌<◌, true, List, [], ◌∷◌, ◌++◌, length, drop, map, slice_index, refl}
use Rattle.std.proofs.Common.{sym, ap, ap₂, subst, ◌∙◌, append_assoc, append-nil}
use Rattle.std.specs.Char.{IsScalar, encode_utf8}
use Rattle.std.specs.Str.{all_scalars, encode_utf8_all}
use Rattle.std.proofs.lemmas.Bool.{and_from}
use Rattle.std.proofs.lemmas.List.{drop_more}
use Rattle.tendril_lossy.specs.Lossy.{Char}
use Rattle.tendril_decode.specs.Machines.{Machine, invalid, told_from, state_after, DecodesTo}
use Rattle.tendril_decode.proofs.Machines.{DecodesTo-more}

module _ {S : Type 0} (m : Machine S) (s t u : S) (input text : List ℕ) (read : ℕ) (lt : read < length input)
    (d : DecodesTo m s input text [] t (drop read input)) where
  abbrev byte : ℕ
  byte = slice_index input read

  abbrev rest : List ℕ
  rest = drop (read + 1) input

  next : drop read input ≡ byte ∷ rest
  next = drop_more input read 0 lt

  -- the byte is read, and tells characters
  after_byte : (cs : List ℕ) → all_scalars cs ≡ true → m.tells t byte ≡ map Char cs → m.step t byte ≡ u
      → DecodesTo m s input (text ++ encode_utf8_all cs) [] u rest
  after_byte cs scalars tells goes =
      DecodesTo-more m s t u input text (drop read input) (encode_utf8_all cs) rest [] d
      (subst (λ l. DecodesTo m t l (encode_utf8_all cs) [] u rest) (sym next)
      (record {
        characters = cs;
        scalars = scalars;
        written = refl;
        told = ap₂ (λ l v. l ++ told_from m v rest) tells goes;
        state = ap (λ v. state_after m v rest) goes;
      }))

  pub scalar_done : (c : ℕ) (out : List ℕ) → out ≡ text ++ encode_utf8 c → IsScalar c
      → m.tells t byte ≡ Char c ∷ [] → m.step t byte ≡ u → DecodesTo m s input out [] u rest
  scalar_done c out written scalar tells goes =
      subst (λ l. DecodesTo m s input l [] u rest)
      (ap (λ l. text ++ l) (append-nil (encode_utf8 c)) ∙ sym written)
      (after_byte (c ∷ []) (and_from _ _ scalar refl) tells goes)

  pub broken_done : m.tells t byte ≡ invalid → m.step t byte ≡ u → DecodesTo m s input text invalid u rest
  broken_done tells goes =
      subst (λ l. DecodesTo m s input l invalid u rest) (append-nil text)
      (DecodesTo-more m s t u input text (drop read input) [] rest invalid d
      (subst (λ l. DecodesTo m t l [] invalid u rest) (sym next)
      (record {
        characters = [];
        scalars = refl;
        written = refl;
        told = ap₂ (λ l v. l ++ told_from m v rest) tells goes;
        state = ap (λ v. state_after m v rest) goes;
      })))

  pub two_done : (c e : ℕ) (middle out : List ℕ) → middle ≡ text ++ encode_utf8 c → out ≡ middle ++ encode_utf8 e
      → IsScalar c → IsScalar e → m.tells t byte ≡ Char c ∷ Char e ∷ [] → m.step t byte ≡ u
      → DecodesTo m s input out [] u rest
  two_done c e middle out one two first second tells goes =
      subst (λ l. DecodesTo m s input l [] u rest)
      (ap (λ l. text ++ (encode_utf8 c ++ l)) (append-nil (encode_utf8 e))
      ∙ sym (append_assoc text (encode_utf8 c) (encode_utf8 e))
      ∙ ap (λ l. l ++ encode_utf8 e) (sym one)
      ∙ sym two)
      (after_byte (c ∷ e ∷ []) (and_from _ _ first (and_from _ _ second refl)) tells goes)

  -- the byte isn't read: a character of the bytes before
  pub owed_done : (c : ℕ) (out : List ℕ) → out ≡ text ++ encode_utf8 c → IsScalar c
      → m.tells t byte ≡ Char c ∷ m.tells u byte → m.step t byte ≡ m.step u byte
      → DecodesTo m s input out [] u (drop read input)
  owed_done c out written scalar tells goes =
      subst (λ l. DecodesTo m s input l [] u (drop read input)) (sym written)
      (DecodesTo-more m s t u input text (drop read input) (encode_utf8 c) (drop read input) [] d
      (subst (λ l. DecodesTo m t l (encode_utf8 c) [] u l) (sym next)
      (record {
        characters = c ∷ [];
        scalars = and_from _ _ scalar refl;
        written = sym (append-nil (encode_utf8 c));
        told = ap₂ (λ l v. l ++ told_from m v rest) tells goes;
        state = ap (λ v. state_after m v rest) goes;
      })))
