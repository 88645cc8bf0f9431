-- What bytes begin with, whatever follows.
use Rattle.std.proofs.Common.{◌≡◌, ℕ, ◌+◌, ◌<◌, ◌≤◌, List, [], ◌∷◌, ◌++◌, length, take, drop, take_at, map, Some, true}
use Rattle.std.proofs.Common.{IsUtf8, refl, append-nil, sym, ap, subst, ◌∙◌, arith, ⊎_elim, append_assoc, length-append}
use Rattle.std.proofs.Common.{length-take-le, take-append-drop}
use Rattle.std.specs.Char.{encode_utf8}
use Rattle.std.specs.Str.{StartsWithNoChar, chars, encode_utf8_all, all_scalars}
use Rattle.std.specs.Str.Lossy.{utf8_error_len}
use Rattle.std.proofs.lemmas.Bool.{cases_lt, and_parts}
use Rattle.std.proofs.lemmas.List.{take-append-le}
use Rattle.std.proofs.lemmas.Str.{chars_from_encodes, length-encode, len_utf8_bounds}
use Rattle.tendril_lossy.specs.AfterText.{EndsWithin, items_after}
use Rattle.tendril_lossy.specs.Lossy.{Item, Keep, Bad, lossy, IsLossy, IsIncomplete}
use Rattle.tendril_lossy.specs.declared.search.Ending.TheVariants.{Broken}
use Rattle.tendril_lossy.proofs.Lossy.{lossy-front, lossy-bad}
use Rattle.tendril_lossy.proofs.Subparts.{error-append, no_char-append}
use Rattle.tendril_lossy.proofs.Streams.{IsLossy-lossy, IsIncomplete-no_char}

-- a text gives its characters, whatever follows
pub text_first : (t rest : List ℕ) → IsUtf8 t → lossy (t ++ rest) ≡ map Keep (chars t) ++ lossy rest
text_first t rest u =
    ap (λ l. lossy (l ++ rest)) (sym u.1.1) ∙ lossy-front u.0 rest u.1.0
    ∙ ap (λ cs. map Keep cs ++ lossy rest) (chars_from_encodes u.0 t u u.1.1)

pub text_front : (bs : List ℕ) (n : ℕ) → IsUtf8 (take n bs)
    → lossy bs ≡ map Keep (chars (take n bs)) ++ lossy (drop n bs)
text_front bs n u = ap lossy (sym (take-append-drop n bs)) ∙ text_first (take n bs) (drop n bs) u

-- if the kept bytes k and those that follow begin with text, the text is longer than k
pub past_kept : (k p : List ℕ) (n : ℕ) → IsIncomplete k → 0 < n → n ≤ length (k ++ p) → IsUtf8 (take n (k ++ p))
    → length k < n
past_kept k p n o some within u = ⊎_elim
    (λ (h : length k < n). h)
    (λ (h : n ≤ length k). by u.0 u.1.0 u.1.1 h)
    (cases_lt (length k) n)
  where
    by : (cs : List ℕ) → all_scalars cs ≡ true → encode_utf8_all cs ≡ take n (k ++ p) → n ≤ length k → length k < n
    by [] s e h = absurd (omega (arith, ap length e, length-take-le n (k ++ p) within))
    by (c ∷ cs) s e h =
        let parts = and_parts _ _ s in
        let front : take n k ≡ encode_utf8 c ++ encode_utf8_all cs = sym (take-append-le n k p h) ∙ sym e in
        absurd (IsIncomplete-no_char k o c (encode_utf8_all cs ++ drop n k) parts.0 (sym (take-append-drop n k)
        ∙ ap (λ l. l ++ drop n k) front ∙ append_assoc (encode_utf8 c) (encode_utf8_all cs) (drop n k)))

-- a broken sequence within the first bytes is the broken sequence of all
pub bad_front : (bs : List ℕ) (w m : ℕ) → 0 < length bs → StartsWithNoChar (take w bs) → utf8_error_len (take w bs)
    ≡ Some m → lossy bs ≡ Bad m ∷ lossy (drop m bs)
bad_front bs w m some none e =
    let whole = take-append-drop w bs in
    lossy-bad bs m some (subst StartsWithNoChar whole (no_char-append (take w bs) (drop w bs) m none e))
    (ap utf8_error_len (sym whole) ∙ error-append (take w bs) (drop w bs) m e)

-- a broken sequence after text is within the bytes

within_items : (cs bs : List ℕ) (k : ℕ) (items : List Item) → IsLossy bs (map Keep cs ++ Bad k ∷ items)
    → (length (encode_utf8_all cs) + k ≤ length bs) × (0 < k)
within_items [] bs k items h = let w = h.2.within in (omega arith, h.2.some)
within_items (c ∷ cs) bs k items h =
    let ih = within_items cs h.0 k items h.3 in (
      omega (
        arith,
        ih.0,
        ap length h.2,
        length-append (encode_utf8 c) h.0,
        length-append (encode_utf8 c)
            (encode_utf8_all cs),
      ),
      ih.1,
    )

pub ends_within : (bs t : List ℕ) (k : ℕ) → IsUtf8 t
    → lossy bs ≡ map Keep (chars t) ++ items_after bs (length t) (Broken k) → EndsWithin bs (length t) (Broken k)
ends_within bs t k u e =
    let same : encode_utf8_all (chars t) ≡ t = ap encode_utf8_all (sym (chars_from_encodes u.0 t u u.1.1)) ∙ u.1.1 in
    let h = within_items (chars t) bs k (lossy (drop (length t + k) bs)) (subst (IsLossy bs) e (IsLossy-lossy bs)) in
    (h.1, subst (λ l. length l + k ≤ length bs) same h.0)

-- the empty list is a proper prefix of a character's bytes; bytes that begin with text, which isn't empty, aren't

pub IsIncomplete-nil : IsIncomplete []
IsIncomplete-nil = (0x41, encode_utf8 0x41, search, omega (arith, length-encode 0x41, (len_utf8_bounds 0x41).0), refl)

pub text-not_open : (t rest : List ℕ) → IsUtf8 t → 0 < length t → IsIncomplete (t ++ rest) → ⊥
text-not_open t rest u some o =
    let front : take (length t) ((t ++ rest) ++ []) ≡ t = ap (take (length t)) (append-nil (t ++ rest))
    ∙ take_at t rest (length t) refl in
    let within : length t ≤ length ((t ++ rest) ++ []) =
    omega (arith, length-append t rest, length-append (t ++ rest) []) in
    let past = past_kept (t ++ rest) [] (length t) o some within (subst IsUtf8 (sym front) u) in
    absurd (omega (arith, past, length-append t rest))
