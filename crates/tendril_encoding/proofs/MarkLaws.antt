-- A byte order mark at the start of a stream decides its decoding.
use Rattle.std.proofs.Common.{◌≡◌, ℕ, Bool, true, false, List, [], ◌∷◌, ◌++◌, length, drop, refl, sym, ap, ap₂}
use Rattle.std.proofs.Common.{◌∙◌, arith, append-nil}
use Rattle.std.proofs.lemmas.Bool.{and_parts, eqb-true}
use Rattle.std.proofs.lemmas.Bool.Decides.{nat_tests}
use Rattle.std.specs.List.{starts_with}
use Rattle.std.specs.Prelude.{◌&&◌, ◌==◌, nat_eq, Option, Some, None, if◌then◌else◌}
use Rattle.tendril_encoding.specs.First.{after_mark}
use Rattle.tendril_encoding.specs.Laws.{MarksDecide, decoded_after, decoded_known, mark_bytes}
use Rattle.tendril_encoding.specs.Marks.{seen_bytes, sniffed}
use Rattle.tendril_encoding.specs.StateLaws.{after_by, after_is, out_by, out_is}
use Rattle.tendril_encoding.specs.States.{decoding_from, ends_state, sniffing_for}
use Rattle.tendril_encoding.specs.declared.kept.State.{State}
use Rattle.tendril_encoding.specs.declared.known.Known.{Known}
use Rattle.tendril_encoding.specs.declared.mark.Mark.{Mark}
use Rattle.tendril_encoding.specs.declared.mark.Mark.TheVariants.{OfUtf8, OfUtf16Le, OfUtf16Be}
use Rattle.tendril_encoding.specs.declared.mark.Marks.{Marks}
use Rattle.tendril_encoding.specs.declared.mark.Seen.{Seen}
use Rattle.tendril_encoding.specs.declared.mark.Seen.TheVariants.{Nothing, Ef, EfBb, Ff, Fe}
use Rattle.tendril_encoding.specs.declared.mark.Sniffed.{Sniffed}
use Rattle.tendril_encoding.specs.declared.mark.Sniffed.TheVariants.{Waits, Marked, Plain}
use Rattle.tendril_lossy.specs.Lossy.{Told}

-- a byte is tested either way round
same_test : (n x : ℕ) → (x == n) ≡ nat_eq n x
same_test n x = grind (arith, nat_tests)

and_true : (t : Bool) → t ≡ (t && true)
and_true true = refl
and_true false = refl

and_false : (t : Bool) → (t && false) ≡ false
and_false true = refl
and_false false = refl

-- the test of a mark's first byte, and of the others
first_and_rest : (u : Bool) (n x : ℕ) (rest : Bool) → ((u && x == n) && rest) ≡ (u && (nat_eq n x && rest))
first_and_rest true n x rest = ap (λ e. e && rest) (same_test n x)
first_and_rest false n x rest = refl

byte_is : (u : Bool) (n x : ℕ) → (u && x == n) ≡ true → x ≡ n
byte_is u n x h = eqb-true x n (and_parts u (x == n) h).1

-- whether the bytes after a mark's first byte are the rest of the mark
abbrev follows_ef : List ℕ → Bool
follows_ef p = starts_with nat_eq p (0xBB ∷ 0xBF ∷ [])

abbrev follows_ff : List ℕ → Bool
follows_ff p = starts_with nat_eq p (0xFE ∷ [])

abbrev follows_fe : List ℕ → Bool
follows_fe p = starts_with nat_eq p (0xFF ∷ [])

-- the mark that a stream begins with, and what its first byte shows, by tests
abbrev chosen_mark : Bool → Bool → Bool → Option Mark
chosen_mark utf8 utf16_le utf16_be =
    if utf8 then Some OfUtf8 else (if utf16_le then Some OfUtf16Le else (if utf16_be then Some OfUtf16Be else None))

abbrev first_shows : Bool → Bool → Bool → Sniffed
first_shows ef ff fe =
    if ef then Waits Ef else (if ff then Waits Ff else (if fe then Waits Fe else Plain))

module _ (marks : Marks) (k : Known) where
  -- the decoding of what follows the bytes that were seen, while a mark is looked for
  abbrev decoded_from : Seen → List ℕ → List Told
  decoded_from seen p = (decoding_from (sniffing_for marks k seen)).decoded p

  -- one byte more, by what it shows
  abbrev decoded_by : Seen → ℕ → List ℕ → Sniffed → List Told
  decoded_by seen x p (Waits more) = decoded_from more p
  decoded_by seen x p (Marked mark) = decoded_known (after_mark mark).chosen p
  decoded_by seen x p Plain = decoded_known k.chosen (seen_bytes seen ++ (x ∷ p))

  decoded_is : (seen : Seen) (x : ℕ) (p : List ℕ)
      → decoded_from seen (x ∷ p) ≡ decoded_by seen x p (sniffed marks seen x)
  decoded_is seen x p =
      ap₂ (λ o (t : State). o ++ ends_state t.known t.sniffing) (out_is marks k seen x p) (after_is marks k seen x p)
      ∙ by (sniffed marks seen x)
    where
      by : (s : Sniffed) → out_by marks k seen x p s
          ++ (let t = after_by marks k seen x p s in ends_state t.known t.sniffing) ≡ decoded_by seen x p s
      by (Waits more) = refl
      by (Marked mark) = refl
      by Plain = refl

  -- the decoding of a stream that begins with this mark if the test is true, and with no mark if it is false
  abbrev decoded_if : Bool → Mark → List ℕ → List Told
  decoded_if t mark b = decoded_after k.chosen b (if t then Some mark else None)

  -- all of a mark but its last byte was seen
  last_byte : (seen : Seen) (mark : Mark) (n : ℕ)
      → ((x : ℕ) → sniffed marks seen x ≡ (if x == n then Marked mark else Plain))
      → ((x : ℕ) (p : List ℕ) → drop (length (mark_bytes mark)) (seen_bytes seen ++ (x ∷ p)) ≡ p)
      → (p : List ℕ) → decoded_from seen p ≡ decoded_if (starts_with nat_eq p (n ∷ [])) mark (seen_bytes seen ++ p)
  last_byte seen mark n is follows [] = ap (decoded_known k.chosen) (sym (append-nil (seen_bytes seen)))
  last_byte seen mark n is follows (x ∷ p) =
      decoded_is seen x p ∙ ap (decoded_by seen x p) (is x) ∙ by (x == n)
      ∙ ap (λ t. decoded_if t mark (seen_bytes seen ++ (x ∷ p))) (same_test n x ∙ and_true (nat_eq n x))
    where
      by : (t : Bool) → decoded_by seen x p (if t then Marked mark else Plain)
          ≡ decoded_if t mark (seen_bytes seen ++ (x ∷ p))
      by true = ap (decoded_known (after_mark mark).chosen) (sym (follows x p))
      by false = refl

  after_ef_bb : (p : List ℕ)
      → decoded_from EfBb p ≡ decoded_if (starts_with nat_eq p (0xBF ∷ [])) OfUtf8 (0xEF ∷ 0xBB ∷ p)
  after_ef_bb = last_byte EfBb OfUtf8 0xBF (λ x. refl) (λ x p. refl)

  after_ef : (p : List ℕ) → decoded_from Ef p ≡ decoded_if (follows_ef p) OfUtf8 (0xEF ∷ p)
  after_ef [] = refl
  after_ef (x ∷ p) =
      decoded_is Ef x p ∙ by (x == 0xBB) refl
      ∙ ap (λ t. decoded_if (t && starts_with nat_eq p (0xBF ∷ [])) OfUtf8 (0xEF ∷ x ∷ p)) (same_test 0xBB x)
    where
      by : (t : Bool) → (x == 0xBB) ≡ t → decoded_by Ef x p (if t then Waits EfBb else Plain)
          ≡ decoded_if (t && starts_with nat_eq p (0xBF ∷ [])) OfUtf8 (0xEF ∷ x ∷ p)
      by true h =
          after_ef_bb p
          ∙ ap (λ y. decoded_if (starts_with nat_eq p (0xBF ∷ [])) OfUtf8 (0xEF ∷ y ∷ p)) (sym (eqb-true x 0xBB h))
      by false h = refl

  after_ff : (p : List ℕ) → decoded_from Ff p ≡ decoded_if (follows_ff p) OfUtf16Le (0xFF ∷ p)
  after_ff = last_byte Ff OfUtf16Le 0xFE (λ x. refl) (λ x p. refl)

  after_fe : (p : List ℕ) → decoded_from Fe p ≡ decoded_if (follows_fe p) OfUtf16Be (0xFE ∷ p)
  after_fe = last_byte Fe OfUtf16Be 0xFF (λ x. refl) (λ x p. refl)

  -- a stream of one byte or more, by the tests of the first
  module _ (x : ℕ) (p : List ℕ) where
    abbrev decoded_chosen : Bool → Bool → Bool → List Told
    decoded_chosen u l b = decoded_after k.chosen (x ∷ p) (chosen_mark u l b)

    at_first : (u l b : Bool) → (u ≡ true → x ≡ 0xEF) → (l ≡ true → x ≡ 0xFF) → (b ≡ true → x ≡ 0xFE)
        → decoded_by Nothing x p (first_shows u l b)
        ≡ decoded_chosen (u && follows_ef p) (l && follows_ff p) (b && follows_fe p)
    at_first true false false ef ff fe =
        after_ef p ∙ ap (λ y. decoded_if (follows_ef p) OfUtf8 (y ∷ p)) (sym (ef refl))
    at_first false true false ef ff fe =
        after_ff p ∙ ap (λ y. decoded_if (follows_ff p) OfUtf16Le (y ∷ p)) (sym (ff refl))
    at_first false false true ef ff fe =
        after_fe p ∙ ap (λ y. decoded_if (follows_fe p) OfUtf16Be (y ∷ p)) (sym (fe refl))
    at_first false false false ef ff fe = refl
    at_first true true b ef ff fe = let e = ef refl in let f = ff refl in absurd (omega arith)
    at_first true false true ef ff fe = let e = ef refl in let f = fe refl in absurd (omega arith)
    at_first false true true ef ff fe = let e = ff refl in let f = fe refl in absurd (omega arith)

    from_first : decoded_from Nothing (x ∷ p)
        ≡ decoded_chosen (marks.utf8 && (nat_eq 0xEF x && follows_ef p))
        (marks.utf16_le && (nat_eq 0xFF x && follows_ff p)) (marks.utf16_be && (nat_eq 0xFE x && follows_fe p))
    from_first =
        decoded_is Nothing x p
        ∙ at_first (marks.utf8 && x == 0xEF) (marks.utf16_le && x == 0xFF) (marks.utf16_be && x == 0xFE)
        (byte_is marks.utf8 0xEF x) (byte_is marks.utf16_le 0xFF x) (byte_is marks.utf16_be 0xFE x)
        ∙ simp first_and_rest

pub marks_decide : MarksDecide
marks_decide marks k [] = simp and_false
marks_decide marks k (x ∷ p) = from_first marks k x p
