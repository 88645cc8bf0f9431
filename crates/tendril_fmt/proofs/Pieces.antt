-- Prefixes of a text: parts up to a byte of a set, and lines.
use Rattle.std.proofs.Common.{
  ◌≡◌,
  ◌↔◌,
  ℕ,
  suc,
  ◌+◌,
  ◌-◌,
  ◌<◌,
  ◌≤◌,
  ◌==◌,
  Bool,
  true,
  false,
  List,
  [],
  ◌∷◌,
  ◌++◌,
  length,
  take,
  drop,
  slice_index,
  IsTrue,
  refl,
  sym,
  ap,
  ap₂,
  subst,
  ◌∙◌,
  arith,
  inl,
  inr,
  ⊎_elim,
  eq-eqb,
  eq-or-lt_of_le,
  add-one,
  length-append,
  length-take,
  length-drop,
  get_or-take,
  get_or-append-add,
  take-append-drop,
  true≢false,
}
use Rattle.std.proofs.Math.Seq.{drop-cons}
use Rattle.std.proofs.lemmas.Bool.{cases_lt, eqb-true}
use Rattle.std.proofs.lemmas.List.{get_or_append_left, nil_from_length, take_all, take_more}
use Rattle.std.proofs.lemmas.Str.{IsCharBoundary-after_ascii, IsUtf8-drop, IsUtf8-take}
use Rattle.std.specs.Prelude.{IsUtf8}
use Rattle.std.specs.Str.Iter.{LacksByte}
use Rattle.memchr.specs.Find.{NoneBefore, Nowhere, Passes, is_byte}
use Rattle.tendril_fmt.specs.Parts.{IsEndOf}
use Rattle.tendril_fmt.specs.Sets.{EndsBefore}
use Rattle.tendril_fmt.specs.Cuts.{EndsFirstLine, IsWholeLine, IsWithoutEnding, LacksSet, TakesLine, TakesSplit}

-- Parts

lacks_front : (set : ℕ → Bool) (text : List ℕ) (n : ℕ) → n ≤ length text → Nowhere (Passes set text) 0 n
    → LacksSet set (take n text)
lacks_front set text n within none k low below passes =
    let less : k < n = omega (arith, below, length-take n text) in
    none k low less (ap set (sym (get_or-take n text k 0 less)) ∙ passes)

takes_split : (set : ℕ → Bool) (text part rest : List ℕ) (n ending : ℕ) → EndsBefore set text n
    → (n < length text → ending ≡ 1) → (n ≡ length text → ending ≡ 0) → part ≡ take n text
    → rest ≡ drop (n + ending) text
    → TakesSplit set text part rest (ending == 0)
takes_split set text part rest n ending ends ended last front end = ⊎_elim
    (λ all. let none = last all in
    let whole : text ≡ part = sym (front ∙ take_all n text (omega (arith, all))) in
    let long = length-drop (n + ending) text in
    let nothing : rest ≡ [] = nil_from_length rest (omega (arith, ap length end, long, all)) in
    subst (λ e. TakesSplit set text part rest (e == 0)) (sym none) (lacks, whole, nothing))
    (λ less. let one = ended less in
    let next : suc n ≡ n + ending = omega arith in
    let after : drop n text ≡ slice_index text n ∷ rest =
    drop-cons text n 0 less ∙ ap (λ l. slice_index text n ∷ l) (ap (λ m. drop m text) next ∙ sym end) in
    let joined : text ≡ part ++ ((slice_index text n ∷ []) ++ rest) =
    sym (take-append-drop n text) ∙ ap₂ (λ a b. a ++ b) (sym front) after in
    subst (λ e. TakesSplit set text part rest (e == 0)) (sym one)
    (slice_index text n ∷ [], (lacks, (slice_index text n, ends.next less, refl)), joined))
    (eq-or-lt_of_le ends.within)
  where
    lacks : LacksSet set part
    lacks = subst (LacksSet set) (sym front) (lacks_front set text n ends.within ends.others)

-- `takes_split`, if the end was found in a slice of the text's bytes
pub split_of : (set : ℕ → Bool) (slice text part rest : List ℕ) (n ending : ℕ) → slice ≡ text → EndsBefore set slice n
    → (n < length slice → ending ≡ 1) → (n ≡ length slice → ending ≡ 0) → part ≡ take n text
    → rest ≡ drop (n + ending) text
    → TakesSplit set text part rest (ending == 0)
split_of set slice text part rest n ending same ends ended last =
    takes_split set text part rest n ending (subst (λ b. EndsBefore set b n) same ends)
    (subst (λ b. n < length b → ending ≡ 1) same ended) (subst (λ b. n ≡ length b → ending ≡ 0) same last)

-- Lines

lacks_feed : (text : List ℕ) (n m : ℕ) → n ≤ m → n ≤ length text → Nowhere (Passes (is_byte 10) text) 0 m
    → LacksByte 10 (take n text)
lacks_feed text n m le within none k below is =
    let less : k < n = omega (arith, below, length-take n text) in
    none k (omega arith) (omega arith) (eq-eqb (slice_index text k) 10 (sym (get_or-take n text k 0 less) ∙ is))

feed_follows : (text : List ℕ) (n : ℕ) → n < length text → Passes (is_byte 10) text n
    → drop n text ≡ 10 ∷ drop (n + 1) text
feed_follows text n less is =
    rw add-one (drop-cons text n 0 less ∙ ap (λ b. b ∷ drop (suc n) text) (eqb-true (slice_index text n) 10 is))

pub lacks-nil : (set : ℕ → Bool) → LacksSet set []
lacks-nil set k low below is = absurd (omega (arith, below))

pub lacks-append : (set : ℕ → Bool) (a b : List ℕ) → LacksSet set a → LacksSet set b → LacksSet set (a ++ b)
lacks-append set a b f g k low below is = ⊎_elim
    (λ less. f k low less (subst (λ x. set x ≡ true) (get_or_append_left a b 0 k less) is))
    (λ (more : length a ≤ k).
    let at : length a + (k - length a) ≡ k = omega (arith, more) in
    let left : k - length a < length b = omega (arith, more, below, length-append a b) in
    g (k - length a) (omega arith) left (subst (λ x. set x ≡ true)
    (ap (λ i. slice_index (a ++ b) i) (sym at) ∙ get_or-append-add a b (k - length a) 0) is))
    (cases_lt k (length a))

-- the first LF is at n
pub ends_first_line : (text : List ℕ) (n : ℕ) → IsUtf8 text → NoneBefore (Passes (is_byte 10) text) 0 (length text) n
    → Passes (is_byte 10) text n → EndsFirstLine text (n + 1)
ends_first_line text n valid found is =
    let less = found.high in
    let byte : slice_index text n ≡ 10 = eqb-true (slice_index text n) 10 is in
    let edge = IsCharBoundary-after_ascii text n valid less (omega (arith, byte)) in
    record {
      words = take n text;
      lacks = lacks_front (is_byte 10) text n (omega (arith, less)) found.before;
      is = take_more text n 0 less ∙ ap (λ b. take n text ++ b ∷ []) byte;
      within = omega (arith, less);
      front_valid = IsUtf8-take text (n + 1) valid edge;
      rest_valid = IsUtf8-drop text (n + 1) valid edge;
    }

-- a first line is a whole line
pub whole_line : (text : List ℕ) (count : ℕ) → EndsFirstLine text count → IsWholeLine (take count text)
whole_line text count ends = (ends.words, 10 ∷ [], (ends.lacks, (10, refl, refl)), ends.is)

pub line_some : (text : List ℕ) (count : ℕ) → EndsFirstLine text count → 0 < count
line_some text count ends = omega (
  arith,
  ap length ends.is,
  length-append ends.words (10 ∷ []),
  length-take count text,
)

-- the first n bytes end with a CR
abbrev pub FollowsCr : Bool → List ℕ → ℕ → Type 0
FollowsCr cr text n = IsTrue cr ↔ ((0 < n) × (slice_index text (n - 1) ≡ 13))

-- if the first n bytes end with a CR, that is the byte before n
cr_before : (text : List ℕ) (n : ℕ) → n < length text → IsEndOf (13 ∷ []) (take n text)
    → (0 < n) × (slice_index text (n - 1) ≡ 13)
cr_before text n less end =
    let front = end.0 in
    let lengths = length-append front (13 ∷ []) in
    let long : n ≡ length front + 1 = omega (arith, ap length end.1, lengths, length-take n text) in
    let place : n - 1 ≡ length front + 0 = omega arith in (
      omega arith,
      sym (get_or-take n text (n - 1) 0 (omega arith)) ∙ ap (λ l. slice_index l (n - 1)) end.1
          ∙ ap (slice_index (front ++ 13 ∷ [])) place ∙ get_or-append-add front (13 ∷ []) 0 0,
    )

pub line_lf : (text : List ℕ) (n : ℕ) (cr : Bool) → n < length text → Nowhere (Passes (is_byte 10) text) 0 n
    → Passes (is_byte 10) text n → FollowsCr cr text n → cr ≡ false → TakesLine text (take n text) (drop (n + 1) text)
line_lf text n cr less none is follows is_no = inl (
  10 ∷ [],
  (
    lacks_feed text n n (omega arith) (omega arith) none,
    inr (refl, λ end. true≢false (sym (follows.1 (cr_before text n less end)) ∙ is_no)),
  ),
  sym (take-append-drop n text) ∙ ap (λ l. take n text ++ l) (feed_follows text n less is),
)

pub line_crlf : (text : List ℕ) (n : ℕ) (cr : Bool) → n < length text → Nowhere (Passes (is_byte 10) text) 0 n
    → Passes (is_byte 10) text n → FollowsCr cr text n → cr ≡ true
    → TakesLine text (take (n - 1) text) (drop (n - 1 + 2) text)
line_crlf text n cr less none is follows is_yes =
    let some = (follows.0 is_yes).0 in
    let byte = (follows.0 is_yes).1 in
    let next : suc (n - 1) ≡ n = omega arith in
    let rest : n + 1 ≡ n - 1 + 2 = omega arith in
    let feed = ap (λ m. drop m text) next ∙ feed_follows text n less is ∙ ap (λ m. 10 ∷ drop m text) rest in
    let after : drop (n - 1) text ≡ 13 ∷ (10 ∷ drop (n - 1 + 2) text) =
    drop-cons text (n - 1) 0 (omega arith) ∙ ap₂ (λ b l. b ∷ l) byte feed in
    inl (
      13 ∷ 10 ∷ [],
      (lacks_feed text (n - 1) n (omega arith) (omega arith) none, inl refl),
      sym (take-append-drop (n - 1) text) ∙ ap (λ l. take (n - 1) text ++ l) after,
    )

-- a line that was found in a slice of the text's bytes
pub line_of : (slice text line rest : List ℕ) (n m : ℕ) → slice ≡ text → TakesLine slice (take n slice) (drop m slice)
    → line ≡ take n text → rest ≡ drop m text → TakesLine text line rest
line_of slice text line rest n m same takes front end =
    subst (λ r. TakesLine text line r) (sym end)
    (subst (λ l. TakesLine text l (drop m text)) (sym front)
    (subst (λ b. TakesLine b (take n b) (drop m b)) same takes))

-- a text that ends with an LF and no CR before it, without the LF
pub without_lf : (text : List ℕ) → 2 ≤ length text → slice_index text (length text - 1) ≡ 10
    → (slice_index text (length text - 2) ≡ 13 → ⊥) → IsWithoutEnding text (take (length text - 1) text)
without_lf text some feed no_cr =
    let n = length text - 1 in
    let less : n < length text = omega arith in
    let place : n - 1 ≡ length text - 2 = omega arith in
    inl (
      10 ∷ [],
      inr (refl, λ end. no_cr (ap (slice_index text) (sym place) ∙ (cr_before text n less end).1)),
      sym (take_all (n + 1) text (omega arith)) ∙ take_more text n 0 less ∙ ap (λ b. take n text ++ b ∷ []) feed,
    )
