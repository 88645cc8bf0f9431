-- What a byte shows of a byte order mark.
use Rattle.std.proofs.Common.{◌≡◌, ◌<◌, ◌≤◌, ◌⊎◌, ℕ, Bool, true, false, List, [], ◌∷◌, ◌++◌, length, refl, sym, ap, ap₂}
use Rattle.std.proofs.Common.{inl, inr, ⊎_elim, ◌∙◌, ◌+◌, take, drop, slice_index, arith, lit≤, append_assoc}
use Rattle.std.proofs.lemmas.Bool.{and_parts, cond-false}
use Rattle.std.proofs.lemmas.Bool.Decides.{nat_tests}
use Rattle.std.proofs.lemmas.List.{drop_more, take-append-drop, take_more}
use Rattle.std.specs.Prelude.{◌&&◌, ◌==◌, if◌then◌else◌}
use Rattle.tendril_encoding.specs.Marks.{seen_bytes, first_byte, sniffed}
use Rattle.tendril_encoding.specs.StateLaws.{after_by, after_is, out_by, out_is}
use Rattle.tendril_encoding.specs.States.{after_sniff, out_sniff}
use Rattle.tendril_encoding.specs.declared.known.Known.{Known}
use Rattle.tendril_encoding.specs.declared.mark.Marks.{Marks}
use Rattle.tendril_encoding.specs.declared.mark.Mark.{Mark}
use Rattle.tendril_encoding.specs.declared.mark.Mark.TheVariants.{OfUtf8, OfUtf16Le, OfUtf16Be}
use Rattle.tendril_encoding.specs.declared.mark.Seen.{Seen}
use Rattle.tendril_encoding.specs.declared.mark.Seen.TheVariants.{Nothing, Ef, EfBb, Ff, Fe}
use Rattle.tendril_encoding.specs.declared.mark.Sniffed.{Sniffed}
use Rattle.tendril_encoding.specs.declared.mark.Sniffed.TheVariants.{Waits, Marked, Plain}

pub seen_few : (s : Seen) → length (seen_bytes s) ≤ 2
seen_few Nothing = lit≤ tt
seen_few Ef = lit≤ tt
seen_few EfBb = lit≤ tt
seen_few Ff = lit≤ tt
seen_few Fe = lit≤ tt

waits_by : (t : Bool) (x more : Seen) (rest : Sniffed) → (if t then Waits x else rest) ≡ Waits more
    → ((t ≡ true) × (x ≡ more)) ⊎ (rest ≡ Waits more)
waits_by true x more rest h = inl (refl, cc)
waits_by false x more rest h = inr h

eq_is : (b n : ℕ) → (b == n) ≡ true → b ≡ n
eq_is b n h = grind (arith, nat_tests)

no_wait : (t : Bool) (m : Mark) (more : Seen) → (if t then Marked m else Plain) ≡ Waits more → ⊥
no_wait true m more h = cc
no_wait false m more h = cc

first_waits : (marks : Marks) (b : ℕ) (more : Seen) → first_byte marks b ≡ Waits more → seen_bytes more ≡ b ∷ []
first_waits marks b more h = ⊎_elim
    (λ w. sym (ap seen_bytes w.1) ∙ ap (λ x. x ∷ []) (sym (eq_is b 0xEF (and_parts _ _ w.0).1)))
    (λ r. ⊎_elim
    (λ w. sym (ap seen_bytes w.1) ∙ ap (λ x. x ∷ []) (sym (eq_is b 0xFF (and_parts _ _ w.0).1)))
    (λ r. ⊎_elim
    (λ w. sym (ap seen_bytes w.1) ∙ ap (λ x. x ∷ []) (sym (eq_is b 0xFE (and_parts _ _ w.0).1)))
    (λ r. let no : ⊥ = cc in absurd no)
    (waits_by (marks.utf16_be && b == 0xFE) Fe more _ r))
    (waits_by (marks.utf16_le && b == 0xFF) Ff more _ r))
    (waits_by (marks.utf8 && b == 0xEF) Ef more _ h)

-- a longer prefix of a mark has one byte more
pub waits_bytes : (marks : Marks) (seen : Seen) (b : ℕ) (more : Seen) → sniffed marks seen b ≡ Waits more
    → seen_bytes more ≡ seen_bytes seen ++ (b ∷ [])
waits_bytes marks Nothing b more h = first_waits marks b more h
waits_bytes marks Ef b more h = ⊎_elim
    (λ w. sym (ap seen_bytes w.1) ∙ ap (λ x. 0xEF ∷ x ∷ []) (sym (eq_is b 0xBB w.0)))
    (λ r. let no : ⊥ = cc in absurd no)
    (waits_by (b == 0xBB) EfBb more Plain h)
waits_bytes marks EfBb b more h = absurd (no_wait (b == 0xBF) OfUtf8 more h)
waits_bytes marks Ff b more h = absurd (no_wait (b == 0xFE) OfUtf16Le more h)
waits_bytes marks Fe b more h = absurd (no_wait (b == 0xFF) OfUtf16Be more h)

no_test : (t : Bool) (b n : ℕ) → b < 128 → 128 ≤ n → (t && b == n) ≡ false
no_test true b n small large = grind (arith, nat_tests)
no_test false b n small large = refl

-- a stream that begins with an ASCII byte begins with no mark
pub ascii_plain : (marks : Marks) (b : ℕ) → b < 128 → sniffed marks Nothing b ≡ Plain
ascii_plain marks b small =
    cond-false _ _ _ (no_test marks.utf8 b 0xEF small (lit≤ tt))
    ∙ cond-false _ _ _ (no_test marks.utf16_le b 0xFF small (lit≤ tt))
    ∙ cond-false _ _ _ (no_test marks.utf16_be b 0xFE small (lit≤ tt))

-- a byte at an offset, by what it shows
module _ (marks : Marks) (k : Known) (seen : Seen) (bytes : List ℕ) (i : ℕ) (s : Sniffed) (lt : i < length bytes)
    (e : s ≡ sniffed marks seen (slice_index bytes i)) where
  pub out_on : out_sniff marks k seen (drop i bytes)
      ≡ out_by marks k seen (slice_index bytes i) (drop (i + 1) bytes) s
  out_on = ap (out_sniff marks k seen) (drop_more bytes i 0 lt)
      ∙ out_is marks k seen (slice_index bytes i) (drop (i + 1) bytes)
      ∙ ap (out_by marks k seen (slice_index bytes i) (drop (i + 1) bytes)) (sym e)

  pub after_on : after_sniff marks k seen (drop i bytes)
      ≡ after_by marks k seen (slice_index bytes i) (drop (i + 1) bytes) s
  after_on = ap (after_sniff marks k seen) (drop_more bytes i 0 lt)
      ∙ after_is marks k seen (slice_index bytes i) (drop (i + 1) bytes)
      ∙ ap (after_by marks k seen (slice_index bytes i) (drop (i + 1) bytes)) (sym e)

-- the bytes that were seen, and those from an offset on
pub seen_all : (start bytes seen : List ℕ) (i : ℕ) → i < length bytes → seen ≡ start ++ take i bytes
    → seen ++ (slice_index bytes i ∷ drop (i + 1) bytes) ≡ start ++ bytes
seen_all start bytes seen i lt e =
    ap₂ (λ x y. x ++ y) e (sym (drop_more bytes i 0 lt)) ∙ append_assoc start (take i bytes) (drop i bytes)
    ∙ ap (λ l. start ++ l) (take-append-drop i bytes)

pub seen_more : (start bytes seen next : List ℕ) (i : ℕ) → i < length bytes → seen ≡ start ++ take i bytes
    → next ≡ seen ++ (slice_index bytes i ∷ []) → next ≡ start ++ take (i + 1) bytes
seen_more start bytes seen next i lt e f =
    f ∙ ap (λ l. l ++ (slice_index bytes i ∷ [])) e ∙ append_assoc start (take i bytes) (slice_index bytes i ∷ [])
    ∙ ap (λ l. start ++ l) (sym (take_more bytes i 0 lt))
