-- A part of the input, or of its end, that is decoded, and what follows it.
use Rattle.std.proofs.Common.{◌≡◌, ℕ, ◌+◌, ◌-◌, ◌≤◌, length, drop, arith, length-drop, List, ◌++◌, map, sym, ap, ap₂}
use Rattle.std.proofs.Common.{◌∙◌, ◌<◌, Bool, true, false, append_assoc, append-nil, length-append}
use Rattle.std.specs.Prelude.{IsUtf8, chars, slice_range}
use Rattle.std.proofs.lemmas.Str.{chars_from_encodes}
use Rattle.std.proofs.lemmas.List.{drop-append-le, drop-drop, length-take}
use Rattle.std.proofs.lemmas.List.Folds.{drop_split}
use Rattle.tendril_lossy.specs.Lossy.{Told, Char}
use Rattle.tendril_decode.specs.Machines.{Machine, told_from, state_after, DecodesTo, EndsTo, broken_marks}
use Rattle.tendril_decode.proofs.Machines.{told-append, state-append}

module _ {S : Type 0} (m : Machine S) (s t : S) (input text rest : List ℕ) (marks : List Told)
    (d : DecodesTo m s input text marks t rest) where
  -- the text is UTF-8, and has the characters
  pub part_utf8 : IsUtf8 text
  part_utf8 = (d.characters, (d.scalars, sym d.written))

  pub part_chars : map Char d.characters ≡ map Char (chars text)
  part_chars = ap (map Char) (chars_from_encodes d.characters text part_utf8 (sym d.written))

  -- what the input and more bytes tell
  pub part_told : (more : List ℕ) → told_from m s (input ++ more)
      ≡ map Char (chars text) ++ (marks ++ told_from m t (rest ++ more))
  part_told more =
      told-append m s input more
      ∙ ap₂ (λ l u. l ++ told_from m u more) d.told d.state
      ∙ append_assoc (map Char d.characters) (marks ++ told_from m t rest) (told_from m (state_after m t rest) more)
      ∙ ap₂ (λ c l. c ++ l) part_chars (append_assoc marks (told_from m t rest)
      (told_from m (state_after m t rest) more)
      ∙ ap (λ l. marks ++ l) (sym (told-append m t rest more)))

  pub part_state : (more : List ℕ) → state_after m s (input ++ more) ≡ state_after m t (rest ++ more)
  part_state more = state-append m s input more ∙ ap (λ u. state_after m u more) d.state
      ∙ sym (state-append m t rest more)

-- a part of the end
module _ {S : Type 0} (m : Machine S) (s t : S) (text : List ℕ) (broken : Bool) (d : EndsTo m s text broken t) where
  end_utf8 : IsUtf8 text
  end_utf8 = (d.characters, (d.scalars, sym d.written))

  pub end_told : m.ends s ≡ (map Char (chars text) ++ broken_marks broken) ++ m.ends t
  end_told =
      d.told
      ∙ ap (λ l. l ++ (broken_marks broken ++ m.ends t))
      (ap (map Char) (chars_from_encodes d.characters text end_utf8 (sym d.written)))
      ∙ sym (append_assoc (map Char (chars text)) (broken_marks broken) (m.ends t))

  -- the last part tells all that is left
  pub end_last : broken ≡ false → m.ends s ≡ map Char (chars text) ++ broken_marks broken
  end_last whole =
      end_told ∙ ap (λ l. (map Char (chars text) ++ broken_marks broken) ++ l) (d.stops whole)
      ∙ append-nil (map Char (chars text) ++ broken_marks broken)

  -- a malformed sequence leaves less to tell
  pub end_shorter : broken ≡ true → length (m.ends t) < length (m.ends s)
  end_shorter is =
      let marks : length (broken_marks broken) ≡ 2 = ap (λ b. length (broken_marks b)) is in
      omega (
        arith,
        marks,
        ap length d.told,
        length-append (map Char d.characters) (broken_marks broken ++ m.ends t),
        length-append (broken_marks broken) (m.ends t),
      )

-- after a part of the input that begins at an offset
after_part : (input : List ℕ) (at end read : ℕ) → at ≤ end → read ≤ length (slice_range input at end)
    → drop read (slice_range input at end) ++ drop end input ≡ drop (at + read) input
after_part input at end read le within =
    sym (drop-append-le read (slice_range input at end) (drop end input) within)
    ∙ ap (drop read) (sym (drop_split input at end le)) ∙ drop-drop read at input

module _ {S : Type 0} (m : Machine S) (s t : S) (input text : List ℕ) (at end read : ℕ) (marks : List Told)
    (le : at ≤ end)
    (within : read ≤ length (slice_range input at end))
    (d : DecodesTo m s (slice_range input at end) text marks t (drop read (slice_range input at end))) where
  pub step_told : told_from m s (drop at input) ≡ (map Char (chars text) ++ marks) ++ told_from m t
      (drop (at + read) input)
  step_told =
      ap (told_from m s) (drop_split input at end le)
      ∙ part_told m s t (slice_range input at end) text (drop read (slice_range input at end)) marks d (drop end input)
      ∙ ap (λ l. map Char (chars text) ++ (marks ++ told_from m t l)) (after_part input at end read le within)
      ∙ sym (append_assoc (map Char (chars text)) marks (told_from m t (drop (at + read) input)))

  pub step_state : state_after m s (drop at input) ≡ state_after m t (drop (at + read) input)
  step_state =
      ap (state_after m s) (drop_split input at end le)
      ∙ part_state m s t (slice_range input at end) text (drop read (slice_range input at end)) marks d (drop end input)
      ∙ ap (state_after m t) (after_part input at end read le within)

pub slice_within : (input : List ℕ) (at end read : ℕ) → at ≤ end → end ≤ length input
    → read ≤ length (slice_range input at end) → at + read ≤ length input
slice_within input at end read le within h =
    omega (arith, length-take (end - at) (drop at input), length-drop at input)
