-- Kept bytes, filled up to four from the input, and what `first_part` returns for them.
use Rattle.std.proofs.Common.{◌≡◌, ◌⊎◌, ℕ, ◌+◌, ◌-◌, ◌<◌, ◌≤◌, List, [], ◌∷◌, ◌++◌, length, take, drop, map, true}
use Rattle.std.proofs.Common.{IsUtf8, refl, sym, ap, subst, ◌∙◌, arith, append_assoc, length-append, length-drop}
use Rattle.std.proofs.Common.{length-take-le, take-append-drop, take_at, drop_at, drop-drop, ⊎_elim, inl, inr}
use Rattle.std.specs.Char.{encode_utf8}
use Rattle.std.specs.Str.{StartsWithNoChar, chars, encode_utf8_all, all_scalars}
use Rattle.std.proofs.Math.Seq.{take-append-add, take-nil}
use Rattle.std.proofs.lemmas.Bool.{cases_lt, and_parts}
use Rattle.std.proofs.lemmas.List.{nil_from_length, take-take, length-take, drop-append-le, append_cancel_left}
use Rattle.std.proofs.lemmas.List.{take_all}
use Rattle.std.proofs.lemmas.Str.{IsCharBoundary-from_take, IsUtf8-drop, length-encode, len_utf8_bounds}
use Rattle.tendril_lossy.specs.Completions.{IsLongestText, CompletesTo, BreaksAt, StillOpen}
use Rattle.tendril_lossy.specs.AfterText.{EndsWithin, items_after}
use Rattle.tendril_lossy.specs.Lossy.{Keep, lossy, IsIncomplete, IsLossy, IsMaximalSubpart}
use Rattle.tendril_lossy.specs.declared.search.Ending.{Ending}
use Rattle.tendril_lossy.specs.declared.search.Ending.TheVariants.{Whole, Broken, Open}
use Rattle.tendril_lossy.proofs.Fronts.{text_front, past_kept, ends_within}
use Rattle.tendril_lossy.proofs.Streams.{IsLossy-lossy, IsIncomplete-no_char}

-- what `first_part` returns for bs
pub record IsFirstPart (bs front : List ℕ) (ending : Ending) : Type 0 where
  pub front_is : front ≡ take (length front) bs
  pub text : IsUtf8 front
  pub items : lossy bs ≡ map Keep (chars front) ++ items_after bs (length front) ending

-- the items after the longest valid prefix
pub rest_items : (bs front : List ℕ) (ending : Ending) → IsFirstPart bs front ending → lossy (drop (length front) bs)
    ≡ items_after bs (length front) ending
rest_items bs front ending p =
    let n = length front in
    let all : lossy bs ≡ map Keep (chars front) ++ lossy (drop n bs) =
    text_front bs n (subst IsUtf8 p.front_is p.text)
    ∙ ap (λ l. map Keep (chars l) ++ lossy (drop n bs)) (sym p.front_is) in
    append_cancel_left (map Keep (chars front)) (lossy (drop n bs)) (items_after bs n ending) (sym all ∙ p.items)

-- after the longest valid prefix a character is cut off
pub ends_open : (bs front : List ℕ) → IsFirstPart bs front Open → (length front < length bs)
    × IsIncomplete (drop (length front) bs)
ends_open bs front p =
    let h = subst (IsLossy (drop (length front) bs)) (rest_items bs front Open p)
    (IsLossy-lossy (drop (length front) bs)) in
    (omega (arith, h.0, length-drop (length front) bs), h.2)

-- what follows the longest valid prefix
pub ends : (bs front : List ℕ) (ending : Ending) → IsFirstPart bs front ending → EndsWithin bs (length front) ending
ends bs front Whole p = tt
ends bs front (Broken k) p = ends_within bs front k p.text p.items
ends bs front Open p = ends_open bs front p

-- what follows the longest valid prefix is empty or begins with no character
none_follows : (bs front : List ℕ) (ending : Ending) → IsFirstPart bs front ending → (drop (length front) bs ≡ [])
    ⊎ StartsWithNoChar (drop (length front) bs)
none_follows bs front ending p =
    by ending (subst (IsLossy (drop (length front) bs)) (rest_items bs front ending p)
    (IsLossy-lossy (drop (length front) bs)))
  where
    by : (e : Ending) → IsLossy (drop (length front) bs) (items_after bs (length front) e)
        → (drop (length front) bs ≡ []) ⊎ StartsWithNoChar (drop (length front) bs)
    by Whole h = inl h
    by (Broken k) h = inr h.0
    by Open h = inr (IsIncomplete-no_char (drop (length front) bs) h.2)

-- no longer prefix is valid
pub longest : (bs front : List ℕ) (ending : Ending) → IsFirstPart bs front ending → IsLongestText bs front
longest bs front ending p = record {
  front = p.front_is;
  text = p.text;
  longest =
      λ m more within u. refuted m more within (rest m more within u);
}
  where
    n : ℕ
    n = length front

    rest : (m : ℕ) → n < m → m ≤ length bs → IsUtf8 (take m bs) → IsUtf8 (drop n (take m bs))
    rest m more within u =
        let len : length (take m bs) ≡ m = length-take-le m bs within in
        let same : take n (take m bs) ≡ front = take-take n m bs (omega arith) ∙ sym p.front_is in
        IsUtf8-drop (take m bs) n u (IsCharBoundary-from_take (take m bs) n u (omega (arith, len))
        (subst IsUtf8 (sym same) p.text))

    refuted : (m : ℕ) → n < m → m ≤ length bs → IsUtf8 (drop n (take m bs)) → ⊥
    refuted m more within u = ⊎_elim (λ nil. absurd (omega (arith, ap length nil, length-drop n bs)))
        (λ none. by none u.0 u.1.0 u.1.1) (none_follows bs front ending p)
      where
        len : length (take m bs) ≡ m
        len = length-take-le m bs within

        all : drop n bs ≡ drop n (take m bs) ++ drop m bs
        all = ap (drop n) (sym (take-append-drop m bs)) ∙ drop-append-le n (take m bs) (drop m bs) (omega (arith, len))

        by : StartsWithNoChar (drop n bs) → (cs : List ℕ) → all_scalars cs ≡ true → encode_utf8_all cs
            ≡ drop n (take m bs) → ⊥
        by none [] s e = absurd (omega (arith, ap length e, length-drop n (take m bs), len))
        by none (c ∷ cs) s e = none c (encode_utf8_all cs ++ drop m bs) (and_parts _ _ s).0
            (all ∙ ap (λ l. l ++ drop m bs) (sym e) ∙ append_assoc (encode_utf8 c) (encode_utf8_all cs) (drop m bs))

-- a proper prefix of a character's bytes has at most three
pub open_len : (xs : List ℕ) → IsIncomplete xs → length xs ≤ 3
open_len xs o = omega (arith, ap length o.4, length-append xs o.1, o.3, length-encode o.0, (len_utf8_bounds o.0).1)

-- what follows at least all kept bytes
pub past_all_kept : (kept input : List ℕ) (n : ℕ) → length kept ≤ n → drop n (kept ++ input)
    ≡ drop (n - length kept) input
past_all_kept kept input n covers =
    let parts : n ≡ length kept + (n - length kept) = omega arith in
    ap (λ j. drop j (kept ++ input)) parts ∙ sym (drop-drop (n - length kept) (length kept) (kept ++ input))
    ∙ ap (drop (n - length kept)) (drop_at kept input (length kept) refl)

rest_of_input : (kept input front : List ℕ) → front ≡ take (length front) (kept ++ input) → length kept ≤ length front
    → kept ++ input ≡ front ++ drop (length front - length kept) input
rest_of_input kept input front is covers =
    let n = length front in
    sym (take-append-drop n (kept ++ input)) ∙ ap (λ l. l ++ drop n (kept ++ input)) (sym is)
    ∙ ap (λ l. front ++ l) (past_all_kept kept input n covers)

-- If the first four bytes begin with no character, all bytes begin with none.
module _ (all : List ℕ) where
  abbrev four : List ℕ
  four = take 4 all

  no_char : StartsWithNoChar four → StartsWithNoChar all
  no_char none c rest s e = none c (take (4 - length (encode_utf8 c)) rest) s (ap (take 4) e ∙ fits)
    where
      fits : take 4 (encode_utf8 c ++ rest) ≡ encode_utf8 c ++ take (4 - length (encode_utf8 c)) rest
      fits =
          let parts : 4 ≡ length (encode_utf8 c) + (4 - length (encode_utf8 c)) =
          omega (arith, length-encode c, (len_utf8_bounds c).1) in
          ap (λ n. take n (encode_utf8 c ++ rest)) parts
          ∙ take-append-add (encode_utf8 c) rest (4 - length (encode_utf8 c))

  not_open : (IsIncomplete four → ⊥) → IsIncomplete all → ⊥
  not_open closed o = let n = open_len all o in closed (subst IsIncomplete (sym (take_all 4 all (omega arith))) o)

  front_of_four : (m : ℕ) → m ≤ 4 → take m four ≡ take m all
  front_of_four m le = take-take m 4 all le

  maximal : (n : ℕ) → IsMaximalSubpart four n → IsMaximalSubpart all n
  maximal n h =
      let within = h.within in
      let le : n ≤ 4 = omega (arith, length-take 4 all) in record {
        some = h.some;
        within = omega (arith, length-take 4 all);
        front = ⊎_elim inl (λ o. inr (subst IsIncomplete (front_of_four n le) o)) h.front;
        longest = λ m more inside o.
            let short : m ≤ 3 = omega (arith, open_len (take m all) o, length-take-le m all inside) in
            h.longest m more (omega (arith, length-take 4 all))
            (subst IsIncomplete (sym (front_of_four m (omega (arith, short)))) o);
      }

module _ (kept input : List ℕ) (waits : IsIncomplete kept) where
  abbrev pub bytes : List ℕ
  bytes = take 4 (kept ++ input)

  short : length kept ≤ 3
  short = open_len kept waits

  front-kept : take (length kept) bytes ≡ kept
  front-kept = take-take (length kept) 4 (kept ++ input) (omega (arith, short)) ∙ take_at kept input (length kept) refl

  kept-within : length kept ≤ length bytes
  kept-within = omega (arith, short, length-take 4 (kept ++ input), length-append kept input)

  -- the items, if the longest valid prefix is empty
  bare : (front : List ℕ) (ending : Ending) → IsFirstPart bytes front ending → length front ≡ 0
      → IsLossy bytes (items_after bytes 0 ending)
  unfolding chars
  bare front ending p none = subst (IsLossy bytes)
      (p.items ∙ ap (λ l. map Keep (chars l) ++ items_after bytes (length l) ending) (nil_from_length front none))
      (IsLossy-lossy bytes)

  -- if the bytes begin with a text, it has all kept bytes
  pub completes : (front : List ℕ) (ending : Ending) → IsFirstPart bytes front ending → 0 < length front
      → CompletesTo kept input front (drop (length front - length kept) input)
  completes front ending p some =
      let n = length front in
      let within : n ≤ length bytes = omega (arith, ap length p.front_is, length-take n bytes) in
      let is : front ≡ take n (kept ++ input) = p.front_is
      ∙ take-take n 4 (kept ++ input) (omega (arith, within, length-take 4 (kept ++ input))) in
      let past = past_kept kept input n waits some (omega (arith, within, length-take 4 (kept ++ input)))
      (subst IsUtf8 is p.text) in
      record {
        all = rest_of_input kept input front is (omega (arith, past));
        longest =
            longest bytes front ending p;
        covers = omega (arith, past);
        within =
            omega (arith, within, length-take 4 (kept ++ input), length-append kept input);
        left = refl;
        some = inl some;
      }

  -- if there are no bytes, the text is empty
  pub completes_nothing : (front : List ℕ) → IsFirstPart bytes front Whole → length front ≡ 0
      → CompletesTo kept input front (drop (length front - length kept) input)
  completes_nothing front p none =
      let h : bytes ≡ [] = bare front Whole p none in
      let nil : kept ++ input ≡ [] =
      nil_from_length (kept ++ input) (omega (arith, ap length h, length-take 4 (kept ++ input))) in
      let covers : length kept ≤ length front = omega (arith, ap length nil, length-append kept input) in
      record {
        all = rest_of_input kept input front (nil_from_length front none
            ∙ sym (ap (take (length front)) nil ∙ take-nil (length front))) covers;
        longest =
            longest bytes front Whole p;
        covers = covers;
        within = omega (arith, none);
        left = refl;
        some = inr nil;
      }

  pub broken_within : (front : List ℕ) (k : ℕ) → IsFirstPart bytes front (Broken k) → length front ≡ 0
      → k ≤ length bytes
  broken_within front k p none = (bare front (Broken k) p none).2.within

  -- the maximal subpart has all kept bytes
  pub breaks : (front b : List ℕ) (k : ℕ) → IsFirstPart bytes front (Broken k) → length front ≡ 0 → b ≡ take k bytes
      → BreaksAt kept input b (drop (length b - length kept) input)
  breaks front b k p none is =
      let h = bare front (Broken k) p none in
      let within = h.2.within in
      let len : length b ≡ k = ap length is ∙ length-take-le k bytes within in
      let covers : length kept ≤ k =
      ⊎_elim (λ (less : k < length kept). absurd
      (h.2.longest (length kept) less kept-within (subst IsIncomplete (sym front-kept) waits)))
      (λ (more : length kept ≤ k). more) (cases_lt k (length kept)) in
      let front_is : b ≡ take (length b) (kept ++ input) = is
      ∙ take-take k 4 (kept ++ input) (omega (arith, within, length-take 4 (kept ++ input)))
      ∙ ap (λ n. take n (kept ++ input)) (sym len) in
      record {
        all = rest_of_input kept input b front_is (omega (arith, covers, len));
        none = no_char (kept ++ input) h.0;
        closed = not_open (kept ++ input) h.1;
        maximal = subst (IsMaximalSubpart (kept ++ input)) (sym len) (maximal (kept ++ input) k h.2);
        covers = omega (arith, covers, len);
        within = omega (arith, within, len, length-take 4 (kept ++ input), length-append kept input);
        left = refl;
      }

  -- the kept bytes and all of the input are still only the beginning of a character
  pub opens : (front : List ℕ) → IsFirstPart bytes front Open → length front ≡ 0 → StillOpen kept input bytes
  opens front p none =
      let h = bare front Open p none in
      let len = open_len bytes h.2 in
      record {
        all = take_all 4 (kept ++ input) (omega (arith, len, length-take 4 (kept ++ input)));
        waits =
            h.2;
        some = h.0;
      }
