-- The items of a stream that comes in pieces, and that they are those of Unicode's practice.
use Rattle.std.proofs.Common.{◌≡◌, ℕ, zero, suc, ◌<◌, ◌≤◌, List, [], ◌∷◌, ◌++◌, length, drop, flat_map, Some, None}
use Rattle.std.proofs.Common.{refl, sym, ap, ap₂, subst, ◌∙◌, arith, ⊎_elim, append_assoc, append-nil, length-append}
use Rattle.std.proofs.Common.{length-drop}
use Rattle.std.specs.Prelude.{Option}
use Rattle.std.specs.Char.{encode_utf8, IsScalar}
use Rattle.std.specs.Str.{StartsWithNoChar}
use Rattle.std.specs.Str.Lossy.{utf8_error_len}
use Rattle.std.proofs.lemmas.Bool.{cases_lt}
use Rattle.std.proofs.lemmas.List.{nil_from_length, drop-append-le}
use Rattle.std.proofs.lemmas.Str.{length-encode, len_utf8_bounds, encode_same}
use Rattle.tendril_lossy.specs.Lossy.{Item, Keep, Bad, Cut, lossy, closed_of, due_of, due, due_open, cut_bytes, kept}
use Rattle.tendril_lossy.specs.Lossy.{IsIncomplete, IsMaximalSubpart, IsLossy}
use Rattle.tendril_lossy.proofs.Lossy.{first_item-cases, lossy-nil, lossy-char, lossy-bad, lossy-cut}
use Rattle.tendril_lossy.proofs.Faults.{error-bounds}
use Rattle.tendril_lossy.proofs.Subparts.{error-append, no_char-append, IsMaximalSubpart-error, IsIncomplete-faultless}
use Rattle.tendril_lossy.proofs.Subparts.{IsIncomplete-from_none}

-- what bytes begin with: nothing, a character, a broken sequence, or a character that is cut off
pub data Front (bs : List ℕ) : Type 0 where
  nothing : bs ≡ [] → Front bs
  char : (c : ℕ) (rest : List ℕ) → IsScalar c → bs ≡ encode_utf8 c ++ rest → length rest < length bs → Front bs
  fault : (k : ℕ) → StartsWithNoChar bs → 0 < length bs → utf8_error_len bs ≡ Some k → k ≤ length bs
      → length (drop k bs) < length bs → Front bs
  cut : StartsWithNoChar bs → 0 < length bs → utf8_error_len bs ≡ None → Front bs

pub front_of : (bs : List ℕ) → Front bs
front_of bs = ⊎_elim
    (λ none. nothing (nil_from_length bs (omega arith)))
    (λ some. ⊎_elim
    (λ w. char w.0 w.1 w.2 w.3 (omega
    (arith, ap length w.3, length-append (encode_utf8 w.0) w.1, length-encode w.0, (len_utf8_bounds w.0).0)))
    (λ w. by some w.0 (utf8_error_len bs) refl)
    (first_item-cases bs))
    (cases_lt (length bs) 1)
  where
    by : 1 ≤ length bs → StartsWithNoChar bs → (o : Option ℕ) → utf8_error_len bs ≡ o → Front bs
    by some none None e = cut none some e
    by some none (Some k) e = let b = error-bounds bs k e in
        fault k none some e b.1 (omega (arith, length-drop k bs, b.0))

-- the items without the last one, if that is cut off
abbrev pub closed_items : List Item → List Item
closed_items [] = []
closed_items (Keep c ∷ items) = Keep c ∷ closed_items items
closed_items (Bad n ∷ items) = Bad n ∷ closed_items items
closed_items (Cut xs ∷ items) = closed_items items

-- the items of b stay, and those of the kept bytes and p follow
abbrev Appends : List ℕ → List ℕ → Type 0
Appends b p = lossy (b ++ p) ≡ closed_items (lossy b) ++ lossy (kept b ++ p)

append_step : (fuel : ℕ) (b p : List ℕ) → length b < suc fuel → ((l : List ℕ) → length l < fuel → Appends l p)
    → Front b → Appends b p
append_step fuel b p le ih (nothing e) =
    subst (λ l. Appends l p) (sym e) (sym (ap₂ (λ x y. closed_items x ++ lossy (cut_bytes y ++ p)) lossy-nil lossy-nil))
append_step fuel b p le ih (char c rest s e less) =
    let is = ap lossy e ∙ lossy-char c rest s in
    ap (λ l. lossy (l ++ p)) e ∙ ap lossy (append_assoc (encode_utf8 c) rest p) ∙ lossy-char c (rest ++ p) s
    ∙ ap (λ l. Keep c ∷ l) (ih rest (omega arith))
    ∙ ap (λ l. closed_items l ++ lossy (cut_bytes l ++ p)) (sym is)
append_step fuel b p le ih (fault k none some e le2 less) =
    let is = lossy-bad b k some none e in
    lossy-bad (b ++ p) k (omega (arith, length-append b p)) (no_char-append b p k none e) (error-append b p k e)
    ∙ ap (λ l. Bad k ∷ lossy l) (drop-append-le k b p le2)
    ∙ ap (λ l. Bad k ∷ l) (ih (drop k b) (omega arith))
    ∙ ap (λ l. closed_items l ++ lossy (cut_bytes l ++ p)) (sym is)
append_step fuel b p le ih (cut none some e) = ap (λ l. closed_items l ++ lossy (cut_bytes l ++ p))
    (sym (lossy-cut b some none e))

append_within : (fuel : ℕ) (b p : List ℕ) → length b < fuel → Appends b p
append_within zero b p le = absurd (omega arith)
append_within (suc fuel) b p le = append_step fuel b p le (λ l h. append_within fuel l p h) (front_of b)

pub lossy-append : (b p : List ℕ) → lossy (b ++ p) ≡ closed_items (lossy b) ++ lossy (kept b ++ p)
lossy-append b p = append_within (suc (length b)) b p (omega arith)

due-closed : (items more : List Item) → flat_map due_of (closed_items items ++ more)
    ≡ flat_map closed_of items ++ flat_map due_of more
due-closed [] more = refl
due-closed (Keep c ∷ items) more = ap (λ l. due_of (Keep c) ++ l) (due-closed items more)
due-closed (Bad n ∷ items) more = ap (λ l. due_of (Bad n) ++ l) (due-closed items more)
    ∙ sym (append_assoc (due_of (Bad n)) (flat_map closed_of items) (flat_map due_of more))
due-closed (Cut xs ∷ items) more = due-closed items more

open-closed : (items more : List Item) → flat_map closed_of (closed_items items ++ more)
    ≡ flat_map closed_of items ++ flat_map closed_of more
open-closed [] more = refl
open-closed (Keep c ∷ items) more = ap (λ l. closed_of (Keep c) ++ l) (open-closed items more)
open-closed (Bad n ∷ items) more = ap (λ l. closed_of (Bad n) ++ l) (open-closed items more)
    ∙ sym (append_assoc (closed_of (Bad n)) (flat_map closed_of items) (flat_map closed_of more))
open-closed (Cut xs ∷ items) more = open-closed items more

cut-closed : (items more : List Item) → cut_bytes (closed_items items ++ more) ≡ cut_bytes more
cut-closed [] more = refl
cut-closed (Keep c ∷ items) more = cut-closed items more
cut-closed (Bad n ∷ items) more = cut-closed items more
cut-closed (Cut xs ∷ items) more = cut-closed items more

-- A decoder that has read b, and then reads p, has sent the output of b ++ p.
pub due_open-append : (b p : List ℕ) → due_open (b ++ p) ≡ due_open b ++ due_open (kept b ++ p)
due_open-append b p = ap (flat_map closed_of) (lossy-append b p) ∙ open-closed (lossy b) (lossy (kept b ++ p))

pub kept-append : (b p : List ℕ) → kept (b ++ p) ≡ kept (kept b ++ p)
kept-append b p = ap cut_bytes (lossy-append b p) ∙ cut-closed (lossy b) (lossy (kept b ++ p))

pub due-append : (b p : List ℕ) → due (b ++ p) ≡ due_open b ++ due (kept b ++ p)
due-append b p = ap (flat_map due_of) (lossy-append b p) ∙ due-closed (lossy b) (lossy (kept b ++ p))

-- The output of a whole stream: what was sent while it could continue, then what is sent at its end.
pub due-end : (b : List ℕ) → due b ≡ due_open b ++ due (kept b)
due-end b = ap due (sym (append-nil b)) ∙ due-append b [] ∙ ap (λ l. due_open b ++ due l) (append-nil (kept b))

-- The items are those of Unicode's practice, and no others are.

is_step : (fuel : ℕ) (b : List ℕ) → length b < suc fuel → ((l : List ℕ) → length l < fuel → IsLossy l (lossy l))
    → Front b → IsLossy b (lossy b)
is_step fuel b le ih (nothing e) = subst (IsLossy b) (sym (ap lossy e ∙ lossy-nil)) e
is_step fuel b le ih (char c rest s e less) = subst (IsLossy b) (sym (ap lossy e ∙ lossy-char c rest s))
    (rest, s, e, ih rest (omega arith))
is_step fuel b le ih (fault k none some e le2 less) = subst (IsLossy b) (sym (lossy-bad b k some none e))
    (none, IsIncomplete-faultless b k e, IsMaximalSubpart-error b k none e, ih (drop k b) (omega arith))
is_step fuel b le ih (cut none some e) =
    subst (IsLossy b) (sym (lossy-cut b some none e)) (some, refl, IsIncomplete-from_none b none e, refl)

is_within : (fuel : ℕ) (b : List ℕ) → length b < fuel → IsLossy b (lossy b)
is_within zero b le = absurd (omega arith)
is_within (suc fuel) b le = is_step fuel b le (is_within fuel) (front_of b)

pub IsLossy-lossy : (b : List ℕ) → IsLossy b (lossy b)
IsLossy-lossy b = is_within (suc (length b)) b (omega arith)

-- a proper prefix of a character's bytes begins with no character
pub IsIncomplete-no_char : (bs : List ℕ) → IsIncomplete bs → StartsWithNoChar bs
IsIncomplete-no_char bs o c rest s e =
    let k = encode_same c o.0 (rest ++ o.1) [] (sym (append_assoc (encode_utf8 c) rest o.1)
    ∙ ap (λ l. l ++ o.1) (sym e) ∙ o.4 ∙ sym (append-nil (encode_utf8 o.0))) in
    absurd (omega (arith, ap length k.1, length-append rest o.1, o.3))

longer_open : (bs : List ℕ) (n k : ℕ) → IsMaximalSubpart bs n → IsMaximalSubpart bs k → n < k → ⊥
longer_open bs n k a b less = let some = a.some in
    ⊎_elim (λ one. absurd (omega arith)) (λ o. a.longest k less b.within o) b.front

one_length : (bs : List ℕ) (n k : ℕ) → IsMaximalSubpart bs n → IsMaximalSubpart bs k → n ≡ k
one_length bs n k a b = ⊎_elim (λ (p : n < k). absurd (longer_open bs n k a b p))
    (λ (p : k ≤ n). ⊎_elim (λ (q : k < n). absurd (longer_open bs k n b a q)) (λ (q : n ≤ k). omega arith)
    (cases_lt k n)) (cases_lt n k)

bad_is : (b : List ℕ) (n : ℕ) (items : List Item) → StartsWithNoChar b → ¬ (IsIncomplete b) → IsMaximalSubpart b n
    → items ≡ lossy (drop n b) → Bad n ∷ items ≡ lossy b
bad_is b n items none closed max rest = by (utf8_error_len b) refl
  where
    by : (o : Option ℕ) → utf8_error_len b ≡ o → Bad n ∷ items ≡ lossy b
    by None e = absurd (closed (IsIncomplete-from_none b none e))
    by (Some k) e =
        let pos = max.some in
        let inside = max.within in
        let same : n ≡ k = one_length b n k max (IsMaximalSubpart-error b k none e) in
        ap₂ (λ m l. Bad m ∷ l) same (rest ∙ ap (λ m. lossy (drop m b)) same) ∙ sym (lossy-bad b k (omega arith) none e)

pub only_lossy : (b : List ℕ) (items : List Item) → IsLossy b items → items ≡ lossy b
only_lossy b [] h = sym (ap lossy h ∙ lossy-nil)
only_lossy b (Keep c ∷ items) h = ap (λ l. Keep c ∷ l) (only_lossy h.0 items h.3)
    ∙ sym (ap lossy h.2 ∙ lossy-char c h.0 h.1)
only_lossy b (Bad n ∷ items) h = bad_is b n items h.0 h.1 h.2 (only_lossy (drop n b) items h.3)
only_lossy b (Cut xs ∷ items) h = by (utf8_error_len b) refl
  where
    by : (o : Option ℕ) → utf8_error_len b ≡ o → Cut xs ∷ items ≡ lossy b
    by (Some k) e = absurd (IsIncomplete-faultless b k e h.2)
    by None e = ap₂ (λ x l. Cut x ∷ l) h.1 h.3 ∙ sym (lossy-cut b h.0 (IsIncomplete-no_char b h.2) e)
