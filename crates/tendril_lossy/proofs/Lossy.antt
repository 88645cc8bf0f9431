-- The items of a stream, step by step.
use Rattle.std.proofs.Common.{◌≡◌, ◌⊎◌, ℕ, zero, suc, ◌+◌, ◌<◌, ◌≤◌, true, cond, List, [], ◌∷◌, ◌++◌, length, take}
use Rattle.std.proofs.Common.{drop, map, slice_index, Some, None, IsUtf8, refl, sym, ap, subst, ◌∙◌, arith, inl, inr}
use Rattle.std.proofs.Common.{⊎_elim, append_assoc, append-nil, length-append, length-drop, take-append-drop, take_at}
use Rattle.std.proofs.Common.{drop_at, take-add, true≢false}
use Rattle.std.specs.Prelude.{Option}
use Rattle.std.specs.Char.{encode_utf8, IsScalar, len_utf8}
use Rattle.std.specs.Str.{StartsWithNoChar, IsValidUpTo, chars, encode_utf8_all, all_scalars}
use Rattle.std.specs.Str.Lossy.{utf8_error_len}
use Rattle.std.proofs.lemmas.Bool.{cases_Bool, cases_lt, cond-true, cond-false, and_parts, and_from}
use Rattle.std.proofs.lemmas.List.{nil_from_length}
use Rattle.std.proofs.lemmas.Str.{length-encode, len_utf8_bounds, IsUtf8-append, IsUtf8-encode, chars_from_encodes}
use lib.Pointwise.{bytes_decides}
use Rattle.tendril_lossy.specs.Lossy.{Keep, Bad, Cut, item_len, begins_with, broken, first_item, items_within, lossy}
use Rattle.tendril_fmt.specs.Proved.Encodings.{chars-front}
use Rattle.tendril_fmt.specs.Proved.Encodings.{IsCodePoint-scalar}
use Rattle.tendril_lossy.proofs.Faults.{error-bounds}

-- with which item bytes begin

begins : (c : ℕ) (rest : List ℕ) → IsScalar c → begins_with (encode_utf8 c ++ rest) c ≡ true
begins c rest s = and_from _ _ s
    ((bytes_decides _ _).1 (sym (take_at (encode_utf8 c) rest (len_utf8 c) (length-encode c))))

pub begins-split : (bs : List ℕ) (c : ℕ) → begins_with bs c ≡ true
    → IsScalar c × (bs ≡ encode_utf8 c ++ drop (len_utf8 c) bs)
begins-split bs c h =
    let parts = and_parts _ _ h in (
      parts.0,
      sym (take-append-drop (len_utf8 c) bs)
          ∙ ap (λ l. l ++ drop (len_utf8 c) bs) (sym ((bytes_decides _ _).0 parts.1)),
    )

first_code : (bs : List ℕ) (c : ℕ) (rest : List ℕ) → IsScalar c → bs ≡ encode_utf8 c ++ rest
    → slice_index (chars bs) 0 ≡ c
first_code bs c rest s e = ap (λ l. slice_index (chars l) 0) e
    ∙ ap (λ l. slice_index l 0) (ap (λ l. chars (l ++ rest)) (sym (append-nil (encode_utf8 c)))
    ∙ chars-front (c ∷ []) rest (IsCodePoint-scalar c s, tt))

pub first_item-char : (c : ℕ) (rest : List ℕ) → IsScalar c → first_item (encode_utf8 c ++ rest) ≡ Keep c
first_item-char c rest s =
    let bs = encode_utf8 c ++ rest in
    let first : slice_index (chars bs) 0 ≡ c = first_code bs c rest s refl in
    ap (λ d. cond (begins_with bs d) (Keep d) (broken (utf8_error_len bs) bs)) first ∙ cond-true _ _ _ (begins c rest s)

pub first_item-none : (bs : List ℕ) → StartsWithNoChar bs → first_item bs ≡ broken (utf8_error_len bs) bs
first_item-none bs none = ⊎_elim
    (λ yes. let k = begins-split bs (slice_index (chars bs) 0) yes in absurd (none _ _ k.0 k.1))
    (λ no. cond-false _ _ _ no)
    (cases_Bool (begins_with bs (slice_index (chars bs) 0)))

-- bytes begin with a character, or with none
pub first_item-cases : (bs : List ℕ) → ((c : ℕ) × (rest : List ℕ) × IsScalar c × (bs ≡ encode_utf8 c ++ rest))
    ⊎ (StartsWithNoChar bs × (first_item bs ≡ broken (utf8_error_len bs) bs))
first_item-cases bs = ⊎_elim
    (λ yes. let k = begins-split bs (slice_index (chars bs) 0) yes in inl (_, _, k.0, k.1))
    (λ no. inr (
      λ c rest s e. true≢false (sym (begins c rest s) ∙ ap (λ l. begins_with l c) (sym e)
          ∙ ap (begins_with bs) (sym (first_code bs c rest s e)) ∙ no),
      cond-false _ _ _ no,
    ))
    (cases_Bool (begins_with bs (slice_index (chars bs) 0)))

-- each item has at least one byte

pub item-pos : (bs : List ℕ) → 0 < length bs → 0 < item_len (first_item bs)
item-pos bs some = ⊎_elim
    (λ w. omega (
      arith,
      ap (λ l. item_len (first_item l)) w.3
          ∙ ap item_len (first_item-char w.0 w.1 w.2),
      (len_utf8_bounds w.0).0,
    ))
    (λ w. subst (λ i. 0 < item_len i) (sym w.1) (by (utf8_error_len bs) refl))
    (first_item-cases bs)
  where
    by : (o : Option ℕ) → utf8_error_len bs ≡ o → 0 < item_len (broken o bs)
    by None e = some
    by (Some k) e = (error-bounds bs k e).0

items-nil : (k : ℕ) → items_within k [] ≡ []
unfolding items_within
items-nil zero = refl
items-nil (suc k) = refl

items-cons : (k : ℕ) (bs : List ℕ) → 0 < length bs → items_within (suc k) bs
    ≡ first_item bs ∷ items_within k (drop (item_len (first_item bs)) bs)
unfolding items_within
items-cons k [] some = absurd (omega arith)
items-cons k (b ∷ bs) some = refl

items-any : (k j : ℕ) (bs : List ℕ) → length bs ≤ k → length bs ≤ j → items_within k bs ≡ items_within j bs
items-any zero j bs p q = let e = nil_from_length bs (omega arith) in ap (items_within zero) e ∙ items-nil zero
    ∙ sym (items-nil j) ∙ ap (items_within j) (sym e)
items-any (suc k) zero bs p q = let e = nil_from_length bs (omega arith) in ap (items_within (suc k)) e
    ∙ items-nil (suc k) ∙ sym (items-nil zero) ∙ ap (items_within zero) (sym e)
items-any (suc k) (suc j) bs p q = ⊎_elim
    (λ none. let e = nil_from_length bs (omega arith) in ap (items_within (suc k)) e ∙ items-nil (suc k)
    ∙ sym (items-nil (suc j)) ∙ ap (items_within (suc j)) (sym e))
    (λ some.
    let item = first_item bs in
    let takes = item-pos bs some in
    let shorter = length-drop (item_len item) bs in
    items-cons k bs some ∙ ap (λ l. item ∷ l) (items-any k j (drop (item_len item) bs) (omega arith) (omega arith))
    ∙ sym (items-cons j bs some))
    (cases_lt (length bs) 1)

pub lossy-nil : lossy [] ≡ []
lossy-nil = items-nil 0

pub lossy-step : (bs : List ℕ) → 0 < length bs → lossy bs ≡ first_item bs ∷ lossy (drop (item_len (first_item bs)) bs)
lossy-step bs some =
    let item = first_item bs in
    let takes = item-pos bs some in
    let shorter = length-drop (item_len item) bs in
    items-any (length bs) (suc (length bs)) bs (omega arith) (omega arith) ∙ items-cons (length bs) bs some
    ∙ ap (λ l. item ∷ l) (items-any (length bs) (length (drop (item_len item) bs)) (drop (item_len item) bs)
    (omega arith) (omega arith))

pub lossy-char : (c : ℕ) (rest : List ℕ) → IsScalar c → lossy (encode_utf8 c ++ rest) ≡ Keep c ∷ lossy rest
lossy-char c rest s =
    let bs = encode_utf8 c ++ rest in
    let some : 0 < length bs = omega
    (arith, length-append (encode_utf8 c) rest, length-encode c, (len_utf8_bounds c).0) in
    let item = first_item-char c rest s in
    lossy-step bs some ∙ ap (λ i. i ∷ lossy (drop (item_len i) bs)) item
    ∙ ap (λ l. Keep c ∷ lossy l) (drop_at (encode_utf8 c) rest (len_utf8 c) (length-encode c))

-- a text that bytes begin with gives its characters, whatever follows
pub lossy-front : (cs rest : List ℕ) → all_scalars cs ≡ true → lossy (encode_utf8_all cs ++ rest)
    ≡ map Keep cs ++ lossy rest
lossy-front [] rest s = refl
lossy-front (c ∷ cs) rest s =
    let both = and_parts _ _ s in
    ap lossy (append_assoc (encode_utf8 c) (encode_utf8_all cs) rest) ∙ lossy-char c (encode_utf8_all cs ++ rest) both.0
    ∙ ap (λ l. Keep c ∷ l) (lossy-front cs rest both.1)

pub lossy-text : (cs : List ℕ) → all_scalars cs ≡ true → lossy (encode_utf8_all cs) ≡ map Keep cs
lossy-text cs s = ap lossy (sym (append-nil (encode_utf8_all cs))) ∙ lossy-front cs [] s
    ∙ ap (λ l. map Keep cs ++ l) lossy-nil ∙ append-nil (map Keep cs)

pub lossy-bad : (bs : List ℕ) (k : ℕ) → 0 < length bs → StartsWithNoChar bs → utf8_error_len bs ≡ Some k
    → lossy bs ≡ Bad k ∷ lossy (drop k bs)
lossy-bad bs k some none e = lossy-step bs some
    ∙ ap (λ i. i ∷ lossy (drop (item_len i) bs)) (first_item-none bs none ∙ ap (λ o. broken o bs) e)

pub lossy-cut : (bs : List ℕ) → 0 < length bs → StartsWithNoChar bs → utf8_error_len bs ≡ None → lossy bs ≡ Cut bs ∷ []
lossy-cut bs some none e =
    lossy-step bs some ∙ ap (λ i. i ∷ lossy (drop (item_len i) bs)) (first_item-none bs none ∙ ap (λ o. broken o bs) e)
    ∙ ap (λ l. Cut bs ∷ l) (ap lossy
    (nil_from_length (drop (length bs) bs) (omega (arith, length-drop (length bs) bs))) ∙ lossy-nil)

-- one step of a decoder: the valid prefix, then the broken sequence, then the remainder

pub none_after : (bs : List ℕ) (n : ℕ) → IsValidUpTo bs n → StartsWithNoChar (drop n bs)
none_after bs n valid c rest s e =
    let short = valid.short in
    let w = len_utf8 c in
    let one : take w (drop n bs) ≡ encode_utf8 c = ap (take w) e ∙ take_at (encode_utf8 c) rest w (length-encode c) in
    valid.longest (n + w) (omega (arith, (len_utf8_bounds c).0))
    (subst IsUtf8 (sym (take-add n w bs ∙ ap (λ l. take n bs ++ l) one))
    (IsUtf8-append (take n bs) (encode_utf8 c) valid.front (IsUtf8-encode c s)))

pub part_whole : (bs t : List ℕ) → IsUtf8 bs → t ≡ bs → lossy bs ≡ map Keep (chars t) ++ []
part_whole bs t u e =
    ap lossy (sym u.1.1) ∙ lossy-text u.0 u.1.0 ∙ ap (map Keep) (chars_from_encodes u.0 bs u u.1.1 ∙ ap chars (sym e))
    ∙ sym (append-nil (map Keep (chars t)))
