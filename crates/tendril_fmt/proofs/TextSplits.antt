-- What a loop over `into_split` or `into_lines` has removed from a text.
use Rattle.std.proofs.Common.{
  ◌≡◌,
  ℕ,
  suc,
  ◌<◌,
  Bool,
  true,
  false,
  List,
  [],
  ◌∷◌,
  ◌++◌,
  length,
  map,
  refl,
  sym,
  ap,
  subst,
  ◌∙◌,
  arith,
  inl,
  inr,
  ⊎_elim,
  append_assoc,
  append-nil,
  length-append,
}
use Rattle.std.specs.Prelude.{All, flat_map}
use Rattle.std.proofs.lemmas.List.{map-append}
use Rattle.std.proofs.lemmas.List.Concat.{flat_map-append}
use Rattle.std.proofs.lemmas.List.Elements.{All-push}
use Rattle.std.specs.List.{join_with_byte}
use Rattle.std.specs.Str.Iter.{LacksByte}
use Rattle.tendril_fmt.specs.Cuts.{AreLines, AreParts, AreTaken, EndsLine, EndsPart, LinesSoFar, SplitsSoFar}
use Rattle.tendril_fmt.specs.Cuts.{TakesEnded, TakesLine, TakesSplit}

-- a piece and its ending, together and the piece alone
abbrev with_ending : List ℕ × List ℕ → List ℕ
with_ending p = p.0 ++ p.1

abbrev piece_of : List ℕ × List ℕ → List ℕ
piece_of p = p.0

module _ (Ends : List ℕ → List ℕ → Type 0) where
  -- nothing is removed at first
  pub AreTaken-nil : (text : List ℕ) → AreTaken Ends [] text text
  AreTaken-nil text = record { ended = []; pieces_are = refl; each = λ k d l. absurd (omega (arith, l)); joined = refl }

  -- one more piece
  pub AreTaken-push : (pieces : List (List ℕ)) (piece text rest rest' : List ℕ) → AreTaken Ends pieces text rest
      → TakesEnded Ends rest piece rest' → AreTaken Ends (pieces ++ piece ∷ []) text rest'
  AreTaken-push pieces piece text rest rest' so takes =
      let ending = takes.0 in
      let before = flat_map with_ending so.ended in
      let last = flat_map-append with_ending so.ended ((piece, ending) ∷ []) in
      let more : flat_map with_ending (so.ended ++ (piece, ending) ∷ []) ++ rest'
      ≡ before ++ (piece ++ (ending ++ rest')) =
      ap (λ l. l ++ rest') (last ∙ ap (λ l. before ++ l) (append-nil (piece ++ ending)))
      ∙ append_assoc before (piece ++ ending) rest' ∙ ap (λ l. before ++ l) (append_assoc piece ending rest') in
      record {
        ended = so.ended ++ (piece, ending) ∷ [];
        pieces_are = map-append piece_of so.ended ((piece, ending) ∷ []) ∙ ap (λ l. l ++ piece ∷ []) so.pieces_are;
        each = All-push (λ (p : List ℕ × List ℕ). Ends p.0 p.1) so.ended (piece, ending) so.each takes.1;
        joined = so.joined ∙ ap (λ l. before ++ l) takes.2 ∙ sym more;
      }

-- no part is removed at first
pub splits_none : (set : ℕ → Bool) (text : List ℕ) → SplitsSoFar set [] text text false
splits_none set text = AreTaken-nil (EndsPart set) text

-- one more part
pub splits_push : (set : ℕ → Bool) (parts : List (List ℕ)) (part text rest rest' : List ℕ) (over : Bool)
    → SplitsSoFar set parts text rest false → TakesSplit set rest part rest' over
    → SplitsSoFar set (parts ++ part ∷ []) text rest' over
splits_push set parts part text rest rest' false so takes =
    AreTaken-push (EndsPart set) parts part text rest rest' so takes
splits_push set parts part text rest rest' true so takes = (
  record {
    others = parts;
    last = part;
    parts_are = refl;
    taken = subst (AreTaken (EndsPart set) parts text) takes.1 so;
    lacks = takes.0;
  },
  takes.2,
)

join_step : (c : ℕ) (part : List ℕ) (parts : List (List ℕ)) → 0 < length parts
    → join_with_byte c (part ∷ parts) ≡ part ++ (c ∷ join_with_byte c parts)
join_step c part [] some = absurd (omega (arith, some))
join_step c part (next ∷ parts) some = refl

join_ended : (c : ℕ) (ended : List (List ℕ × List ℕ)) (last : List ℕ) → All (λ p. p.1 ≡ c ∷ []) ended
    → join_with_byte c (map piece_of ended ++ last ∷ []) ≡ flat_map with_ending ended ++ last
join_ended c [] last all = refl
join_ended c (p ∷ ps) last all =
    let others = map piece_of ps ++ last ∷ [] in
    let after = flat_map with_ending ps in
    let one : p.1 ≡ c ∷ [] = all 0 p (omega arith) in
    let joined =
    append_assoc (p.0 ++ p.1) after last ∙ append_assoc p.0 p.1 (after ++ last)
    ∙ ap (λ l. p.0 ++ (l ++ (after ++ last))) one in
    join_step c p.0 others (omega (arith, length-append (map piece_of ps) (last ∷ [])))
    ∙ ap (λ l. p.0 ++ (c ∷ l)) (join_ended c ps last (λ k d l. all (suc k) d (omega (arith, l)))) ∙ sym joined

-- if the set has one byte, the parts with it between each two are the text
pub parts_joined : (set : ℕ → Bool) (c : ℕ) (parts : List (List ℕ)) (text : List ℕ) → ((b : ℕ) → set b ≡ true → b ≡ c)
    → AreParts set parts text → join_with_byte c parts ≡ text
parts_joined set c parts text one are =
    ap (join_with_byte c) (are.parts_are ∙ ap (λ l. l ++ are.last ∷ []) (sym are.taken.pieces_are))
    ∙ join_ended c are.taken.ended are.last
    (λ k d l. let ends = are.taken.each k d l in ends.1.2 ∙ ap (λ b. b ∷ []) (one ends.1.0 ends.1.1))
    ∙ sym are.taken.joined

-- no line is removed at first
pub lines_none : (text : List ℕ) → LinesSoFar [] text text
lines_none text = inl (AreTaken-nil EndsLine text)

lines_last : (lines : List (List ℕ)) (line text : List ℕ) → 0 < length line → LacksByte 10 line
    → AreTaken EndsLine lines text line → AreLines (lines ++ line ∷ []) text
lines_last lines [] text some lacks so = absurd (omega (arith, some))
lines_last lines (b ∷ bs) text some lacks so =
    record { ended = lines; last = b ∷ bs; lines_are = refl; taken = so; lacks = lacks }

ending_some : (line ending : List ℕ) → EndsLine line ending → 0 < length ending
ending_some line ending ends =
    ⊎_elim (λ two. omega (arith, ap length two)) (λ one. omega (arith, ap length one.0)) ends.1

takes_some : (rest line rest' : List ℕ) → TakesLine rest line rest' → 0 < length rest
takes_some rest line rest' takes = ⊎_elim
    (λ ended. let some = ending_some line ended.0 ended.1 in
    let lengths = length-append line (ended.0 ++ rest') in
    omega (arith, ap length ended.2, lengths, length-append ended.0 rest', some))
    (λ last. omega (arith, ap length last.2, last.1))
    takes

-- one more line
pub lines_push : (lines : List (List ℕ)) (line text rest rest' : List ℕ) → LinesSoFar lines text rest
    → TakesLine rest line rest' → LinesSoFar (lines ++ line ∷ []) text rest'
lines_push lines line text rest rest' so takes = ⊎_elim
    (λ taken. ⊎_elim
    (λ ended. inl (AreTaken-push EndsLine lines line text rest rest' taken ended))
    (λ last. let whole = subst (AreTaken EndsLine lines text) last.2 taken in
    inr (lines_last lines line text last.1 last.0 whole, last.3))
    takes)
    (λ all. absurd (omega (arith, takes_some rest line rest' takes, ap length all.1)))
    so

-- if nothing is left, they are all lines
pub lines_all : (lines : List (List ℕ)) (text rest : List ℕ) → LinesSoFar lines text rest → rest ≡ []
    → AreLines lines text
lines_all lines text rest so none = ⊎_elim
    (λ taken. record {
      ended = lines;
      last = [];
      lines_are = sym (append-nil lines);
      taken = subst (AreTaken EndsLine lines text) none taken;
      lacks = λ k l. absurd (omega (arith, l));
    })
    (λ all. all.0)
    so
