-- The first line of a queue.
use Rattle.std.proofs.Common.{
  ◌≡◌,
  ℕ,
  ◌+◌,
  ◌<◌,
  ◌≤◌,
  List,
  [],
  ◌∷◌,
  ◌++◌,
  length,
  get_or,
  take,
  drop,
  refl,
  sym,
  ap,
  ap₂,
  subst,
  ◌∙◌,
  arith,
  inl,
  inr,
  ⊎_elim,
  append_assoc,
  length-append,
  take-append-drop,
}
use Rattle.std.proofs.lemmas.List.{drop_at, get_or_default, length-take-le, take-take, take_at}
use Rattle.std.proofs.lemmas.Bool.{cases_lt}
use Rattle.memchr.specs.Find.{is_byte}
use Rattle.tendril_errors.specs.declared.refusal.Refusal.{Refusal}
use Rattle.tendril_errors.specs.Outcomes.{LengthMust, MemoryMay, Refused}
use Rattle.tendril_queue.proofs.Fronts.{all_bytes, all_some, leaves_first, some_bytes}
use Rattle.tendril_queue.specs.Lines.{HasFirstFeed, IsJoinedLine, JoinedLineMay, LineRefused, PopsLine, TakesFeed}
use Rattle.tendril_queue.specs.Queues.{IsQueue, Queued, all_texts, queued_of}
use Rattle.tendril_text.specs.Partings.{BothLong}
use Rattle.tendril_fmt.proofs.Pieces.{lacks-append}
use Rattle.tendril_text.proofs.TextLists.{joined-append, joined_more}
use Rattle.tendril_fmt.specs.Cuts.{EndsFirstLine, LacksFeed}
use Rattle.tendril_text.specs.TextLists.{DropsFront, bytes_of_all}
use Rattle.tendril_text.specs.Texts.{Text, SplitCost}

-- a push that fails for a prefix of a line may fail for the line
pub may_grow : (count whole : ℕ) (r : Refusal) → count ≤ whole → Refused (LengthMust count) (MemoryMay count) r
    → JoinedLineMay whole r
may_grow count whole r less (inl (inl h)) =
    inl (h.1, ⊎_elim (λ long. long) (λ short. absurd (h.0 (omega (arith, less, short)))) (cases_lt 4294967295 whole))
may_grow count whole r less (inl (inr h)) = absurd h.1
may_grow count whole r less (inr h) = inr (h.1.0, let long = h.1.1 in omega (arith, long, less))

module _ (first : Text) (xs : List Text) (count : ℕ) (ends : EndsFirstLine first.bytes count) where
  -- the first text begins with a line
  takes_first : (left : List ℕ) → left ≡ drop count first.bytes
      → TakesFeed (first.bytes ++ bytes_of_all xs) ends.words (left ++ bytes_of_all xs)
  takes_first left is = (
    10 ∷ [],
    (ends.lacks, (10, refl, refl)),
    ap (λ b. b ++ bytes_of_all xs) (sym (take-append-drop count first.bytes) ∙ ap₂ (λ a b. a ++ b) ends.is (sym is))
        ∙ append_assoc (ends.words ++ 10 ∷ []) left (bytes_of_all xs)
        ∙ append_assoc ends.words (10 ∷ []) (left ++ bytes_of_all xs),
  )

  line_size : length ends.words + 1 ≡ count
  line_size = omega (
    arith,
    ap length ends.is,
    length-append ends.words (10 ∷ []),
    length-take-le count first.bytes ends.within,
  )

  first_some : 0 < length first.bytes
  first_some = omega (arith, line_size, ends.within)

  pub popped_first : (line left : Text) (ys : List Text) (old : Queued) → queued_of first xs ≡ old
      → line.bytes ≡ take count first.bytes → left.bytes ≡ drop count first.bytes → SplitCost first line left
      → ys ≡ all_texts left xs → PopsLine old line (record { bytes = bytes_of_all ys; texts = ys })
  popped_first line left ys old view front rest parts is =
      let new_bytes : bytes_of_all ys ≡ left.bytes ++ bytes_of_all xs = ap bytes_of_all is ∙ all_bytes left xs in
      let old_bytes : bytes_of_all (all_texts first xs) ≡ first.bytes ++ bytes_of_all xs = all_bytes first xs in
      subst (λ q. PopsLine q line (record { bytes = bytes_of_all ys; texts = ys })) view (record {
        words = ends.words;
        taken = subst (λ b. TakesFeed b ends.words (bytes_of_all ys)) (sym old_bytes)
            (subst (TakesFeed (first.bytes ++ bytes_of_all xs) ends.words) (sym new_bytes)
            (takes_first left.bytes rest));
        bytes = old_bytes
            ∙ ap (λ b. b ++ bytes_of_all xs) (sym (take-append-drop count first.bytes)
            ∙ ap₂ (λ a b. a ++ b) (sym front) (sym rest))
            ∙ append_assoc line.bytes left.bytes (bytes_of_all xs) ∙ ap (λ b. line.bytes ++ b) (sym new_bytes);
        texts = inl (record {
          first = first;
          left = left;
          leaves = leaves_first first left xs ys first_some is;
          parts = parts;
        });
      })

  pub refused_first : (old : Queued) (r : Refusal) → queued_of first xs ≡ old
      → BothLong count (length first.bytes) r → LineRefused old r
  refused_first old r view may = subst (λ q. LineRefused q r) view (record {
    words = ends.words;
    rest = drop count first.bytes ++ bytes_of_all xs;
    next = subst (λ b. TakesFeed b ends.words (drop count first.bytes ++ bytes_of_all xs)) (sym (all_bytes first xs))
        (takes_first (drop count first.bytes) refl);
    first = first;
    others = xs;
    had = all_some first xs first_some;
    why = inl (subst (λ n. BothLong n (length first.bytes) r) (sym line_size) may);
  })

-- the bytes of texts, around those of the text at an index
around : (xs : List Text) (index : ℕ) (t : Text) → index < length xs → t ≡ get_or xs index t
    → bytes_of_all xs ≡ bytes_of_all (take index xs) ++ (t.bytes ++ bytes_of_all (drop (index + 1) xs))
around xs index t inside is =
    ap bytes_of_all (sym (take-append-drop (index + 1) xs))
    ∙ joined-append (take (index + 1) xs) (drop (index + 1) xs)
    ∙ ap (λ b. b ++ bytes_of_all (drop (index + 1) xs)) (joined_more xs index t inside is)
    ∙ append_assoc (bytes_of_all (take index xs)) t.bytes (bytes_of_all (drop (index + 1) xs))

-- The line spans a first text, `before`, and the first bytes of a text t. Then come the remainder of t and `others`.
module _ (first t : Text) (before others : List ℕ) (count : ℕ) (ends : EndsFirstLine t.bytes count)
    (first_lacks : LacksFeed first.bytes) (before_lacks : LacksFeed before) where
  abbrev spanning : List ℕ
  spanning = first.bytes ++ (before ++ take count t.bytes)

  abbrev following : List ℕ
  following = drop count t.bytes ++ others

  abbrev spanning_words : List ℕ
  spanning_words = first.bytes ++ (before ++ ends.words)

  spans_all : first.bytes ++ (before ++ (t.bytes ++ others)) ≡ spanning ++ following
  spans_all =
      ap (λ b. first.bytes ++ (before ++ (b ++ others))) (sym (take-append-drop count t.bytes))
      ∙ ap (λ b. first.bytes ++ (before ++ b)) (append_assoc (take count t.bytes) (drop count t.bytes) others)
      ∙ ap (λ b. first.bytes ++ b) (sym (append_assoc before (take count t.bytes) following))
      ∙ sym (append_assoc first.bytes (before ++ take count t.bytes) following)

  spanning_is : spanning ≡ spanning_words ++ 10 ∷ []
  spanning_is =
      ap (λ b. first.bytes ++ (before ++ b)) ends.is
      ∙ ap (λ b. first.bytes ++ b) (sym (append_assoc before ends.words (10 ∷ [])))
      ∙ sym (append_assoc first.bytes (before ++ ends.words) (10 ∷ []))

  takes_spanning : TakesFeed (first.bytes ++ (before ++ (t.bytes ++ others))) spanning_words following
  takes_spanning = (
    10 ∷ [],
    (
      lacks-append (is_byte 10) first.bytes (before ++ ends.words) first_lacks
          (lacks-append (is_byte 10) before ends.words before_lacks ends.lacks),
      (10, refl, refl),
    ),
    spans_all ∙ ap (λ b. b ++ following) spanning_is ∙ append_assoc spanning_words (10 ∷ []) following,
  )

  spanning_size : length spanning_words + 1 ≡ length spanning
  spanning_size = omega (arith, ap length spanning_is, length-append spanning_words (10 ∷ []))

  longer : length first.bytes < length spanning
  longer = omega (
    arith,
    spanning_size,
    length-append first.bytes (before ++ ends.words),
  )

-- the queue has a first text if it has an LF after that
first_there : (first : Text) (xs : List Text) (index count : ℕ) → IsQueue first xs → HasFirstFeed xs index count
    → 0 < length first.bytes
first_there first xs index count q feed = some_bytes first.bytes
    (λ none. let len = ap length (q.alone none) in omega (arith, len, feed.inside))

-- the text at an index
pub text_at : (xs : List Text) (index : ℕ) (d : Text) → index < length xs
    → (t : Text) × (t ≡ get_or xs index t)
text_at xs index d inside = (get_or xs index d, sym (get_or_default xs index (get_or xs index d) d inside))

-- what `drop_front` did to a first text and those after it
pub record DropsLine (first : Text) (xs : List Text) (count : ℕ) (left : Text) (ys : List Text) : Type 0 where
  pub bytes : left.bytes ++ bytes_of_all ys ≡ drop count (first.bytes ++ bytes_of_all xs)
  pub texts : DropsFront (all_texts first xs) (all_texts left ys)

module _ (first : Text) (xs : List Text) (index count : ℕ) (q : IsQueue first xs) (feed : HasFirstFeed xs index count)
    (lacks : LacksFeed first.bytes) (t : Text) (is : t ≡ get_or xs index t) where
  abbrev before : List ℕ
  before = bytes_of_all (take index xs)

  abbrev others : List ℕ
  others = bytes_of_all (drop (index + 1) xs)

  abbrev line_there : List ℕ
  line_there = spanning first t before others count (feed.line t is) lacks feed.lacks

  abbrev after_line : List ℕ
  after_line = following first t before others count (feed.line t is) lacks feed.lacks

  queue_is : first.bytes ++ bytes_of_all xs ≡ first.bytes ++ (before ++ (t.bytes ++ others))
  queue_is = ap (λ b. first.bytes ++ b) (around xs index t feed.inside is)

  line_and_rest : first.bytes ++ bytes_of_all xs ≡ line_there ++ after_line
  line_and_rest = queue_is ∙ spans_all first t before others count (feed.line t is) lacks feed.lacks

  takes_there : TakesFeed (bytes_of_all (all_texts first xs))
      (spanning_words first t before others count (feed.line t is) lacks feed.lacks) after_line
  takes_there = subst (λ b. TakesFeed b (spanning_words first t before others count (feed.line t is) lacks feed.lacks)
      after_line) (sym (all_bytes first xs ∙ queue_is))
      (takes_spanning first t before others count (feed.line t is) lacks feed.lacks)

  pub line_within : (line : List ℕ) → line ≡ line_there → length line ≤ length (first.bytes ++ bytes_of_all xs)
  line_within line same = omega (arith, ap length same, ap length line_and_rest, length-append line_there after_line)

  pub line_first : (line : List ℕ) → line ≡ line_there → take (length line) (first.bytes ++ bytes_of_all xs) ≡ line
  line_first line same =
      ap (take (length line)) (line_and_rest ∙ ap (λ b. b ++ after_line) (sym same)) ∙ take_at line after_line
      (length line) refl

  pub popped_spanning : (line left : Text) (ys : List Text) (old : Queued) → queued_of first xs ≡ old
      → line.bytes ≡ line_there → DropsLine first xs (length line.bytes) left ys
      → PopsLine old line (queued_of left ys)
  popped_spanning line left ys old view same d =
      let new_bytes : bytes_of_all (all_texts left ys) ≡ after_line = all_bytes left ys ∙ d.bytes
      ∙ ap (drop (length line.bytes)) (line_and_rest ∙ ap (λ b. b ++ after_line) (sym same))
      ∙ drop_at line.bytes after_line (length line.bytes) refl in
      subst (λ o. PopsLine o line (queued_of left ys)) view (record {
        words = spanning_words first t before others count (feed.line t is) lacks feed.lacks;
        taken = subst (TakesFeed (bytes_of_all (all_texts first xs))
            (spanning_words first t before others count (feed.line t is) lacks feed.lacks)) (sym new_bytes) takes_there;
        bytes = all_bytes first xs ∙ line_and_rest ∙ ap₂ (λ a b. a ++ b) (sym same) (sym new_bytes);
        texts = inr (record {
          first = first;
          others = xs;
          had = all_some first xs (first_there first xs index count q feed);
          long = subst (λ b. length first.bytes < length b) (sym same)
              (longer first t before others count (feed.line t is) lacks feed.lacks);
          drops = d.texts;
        });
      })

  pub refused_spanning : (old : Queued) (r : Refusal) → queued_of first xs ≡ old
      → ((line : List ℕ) → IsJoinedLine first xs index count line → JoinedLineMay (length line) r) → LineRefused old r
  refused_spanning old r view may = subst (λ o. LineRefused o r) view (record {
    words = spanning_words first t before others count (feed.line t is) lacks feed.lacks;
    rest = after_line;
    next = takes_there;
    first = first;
    others = xs;
    had = all_some first xs (first_there first xs index count q feed);
    why = inr (
      omega (
        arith,
        spanning_size first t before others count (feed.line t is) lacks feed.lacks,
        longer first t before others count (feed.line t is) lacks feed.lacks,
      ),
      subst (λ n. JoinedLineMay n r) (sym (spanning_size first t before others count (feed.line t is) lacks feed.lacks))
          (may line_there all_same),
    );
  })
    where
      all_same : IsJoinedLine first xs index count line_there
      all_same u at = ap (λ (x : Text). first.bytes ++ (before ++ take count x.bytes))
          (is ∙ get_or_default xs index t u feed.inside ∙ sym at)

-- fewer texts have no more bytes
fewer : (xs : List Text) (n m : ℕ) → n ≤ m
    → length (bytes_of_all (take n xs)) ≤ length (bytes_of_all (take m xs))
fewer xs n m less =
    let all = take m xs in
    let front : take n all ≡ take n xs = take-take n m xs less in
    let parts : bytes_of_all all ≡ bytes_of_all (take n all) ++ bytes_of_all (drop n all) =
    ap bytes_of_all (sym (take-append-drop n all)) ∙ joined-append (take n all) (drop n all) in
    let same : length (bytes_of_all (take n all)) ≡ length (bytes_of_all (take n xs)) =
    ap (λ l. length (bytes_of_all l)) front in
    omega (arith, ap length parts, length-append (bytes_of_all (take n all)) (bytes_of_all (drop n all)), same)

module _ (first : Text) (xs : List Text) (index count : ℕ) (inside : index < length xs) where
  -- a push failed for a first text and some of those before the index
  pub may_join : (n z : ℕ) (r : Refusal) → n ≤ index
      → z ≡ length first.bytes + length (bytes_of_all (take n xs)) → Refused (LengthMust z) (MemoryMay z) r
      → (line : List ℕ) → IsJoinedLine first xs index count line → JoinedLineMay (length line) r
  may_join n z r less size h line is =
      let at = text_at xs index first inside in
      let whole = is at.0 at.1 in
      let ends = bytes_of_all (take index xs) ++ take count at.0.bytes in
      may_grow z (length line) r (omega (
        arith,
        size,
        fewer xs n index less,
        ap length whole,
        length-append first.bytes ends,
        length-append (bytes_of_all (take index xs)) (take count at.0.bytes),
      )) h
