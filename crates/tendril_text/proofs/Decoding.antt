-- What a pop in lossy decoding removes from a piece, and what it leaves.
use Rattle.std.proofs.Common.{◌≡◌, ◌⊎◌, ℕ, ◌+◌, ◌-◌, ◌<◌, ◌≤◌, List, [], ◌∷◌, ◌++◌, length, take, drop, map, Option}
use Rattle.std.proofs.Common.{Some, None, IsUtf8, refl, sym, ap, subst, ◌∙◌, arith, ⊎_elim, inl, inr, length-drop}
use Rattle.std.proofs.Common.{length-take-le, length-take}
use Rattle.std.proofs.lemmas.List.{drop-drop}
use Rattle.std.specs.Prelude.{IfSome, chars}
use Rattle.tendril_errors.specs.declared.refusal.Refusal.{Refusal}
use Rattle.tendril_lossy.proofs.Completions.{IsFirstPart, rest_items, open_len}
use Rattle.tendril_lossy.proofs.Streams.{IsLossy-lossy}
use Rattle.tendril_lossy.specs.AfterText.{EndsWithin, items_after}
use Rattle.tendril_lossy.specs.Lossy.{Keep, Bad, Cut, IsLossy, IsIncomplete, lossy}
use Rattle.tendril_lossy.specs.declared.search.Ending.{Ending}
use Rattle.tendril_lossy.specs.declared.search.Ending.TheVariants.{Whole, Broken, Open}
use Rattle.tendril_text.specs.Decoding.{BothShare, LongPieceMay, LongTextMay, IsHandedOn, IsRest, Leaves, PopsText}
use Rattle.tendril_text.specs.Decoding.{broken_len, bytes_of}
use Rattle.tendril_storage.specs.Partings.{IsFewTaken, IsParted}
use Rattle.tendril_storage.specs.Texts.{Text, PartCost, PopCost}

-- what is left after two pops

pub part-through : (a b c : Text) → IsRest a b → (8 < length c.bytes → length c.bytes ≤ length b.bytes) → PartCost b c
    → PartCost a c
part-through a b c (inl same) within p = subst (λ x. PartCost x c) same p
part-through a b c (inr q) within p = (
  λ long. let w = within long in let first = q.0 in
      ⊎_elim inl (λ e. ⊎_elim (λ z. inl (e ∙ z)) (λ z. inr (e ∙ z)) (first (omega (arith, w, long)))) (p.0 long),
  p.1,
)

pub rest-through : (a b c : Text) → IsRest a b → (8 < length c.bytes → length c.bytes ≤ length b.bytes) → IsRest b c
    → IsRest a c
rest-through a b c q within (inl same) = subst (IsRest a) (sym same) q
rest-through a b c q within (inr p) = inr (part-through a b c q within p)

-- a text is popped
pub rest-popped : (a b c : Text) (text : Option Text) (ending : Ending) → IsRest a b → PopsText b text ending c
    → IsRest a c
rest-popped a b c text ending q h =
    rest-through a b c q (λ _. omega
    (arith, ap length h.rest, length-drop (length (bytes_of text) + broken_len ending) b.bytes)) h.part

pub handed-through : (a b : Text) → IsRest a b → length b.bytes ≤ length a.bytes → (t : Text) → IsHandedOn b t
    → IsHandedOn a t
handed-through a b q less t h =
    let w = h.within in
    record {
      some = h.some;
      text = h.text;
      within = λ long. omega (arith, w long);
      part =
          part-through a b t q w h.part;
    }

-- what is left after a pop that keeps `copied`
pub rest-kept : (old mid new : Text) → IsRest old mid → length new.bytes ≤ length mid.bytes → PopCost mid new
    → IsRest old new
rest-kept old mid new q less k = inr (part-through old mid new q (λ _. less) (λ long. inr (k.0 long), k.1))

-- the text that is removed from the start, and the broken sequence after it

-- the first `count` bytes are removed as a text, if there are any
pub record TakesText (count : ℕ) (old : Text) (text : Option Text) (new : Text) : Type 0 where
  pub front : bytes_of text ≡ take count old.bytes
  pub handed : IfSome text (IsHandedOn old)
  pub rest : new.bytes ≡ drop count old.bytes
  pub part : IsRest old new

pub nothing_taken : (old new : Text) (text : Option Text) (n : ℕ) → n ≡ 0 → new ≡ old → text ≡ None
    → TakesText n old text new
nothing_taken old new text n z same none = record {
  front = ap bytes_of none ∙ ap (λ k. take k old.bytes) (sym z);
  handed = subst (λ o. IfSome o (IsHandedOn old)) (sym none) tt;
  rest = ap (λ t. t.bytes) same ∙ ap (λ k. drop k old.bytes) (sym z);
  part = inl same;
}

pub text_taken : (old new rest t : Text) (text : Option Text) (n : ℕ) → 0 < n → n ≤ length old.bytes
    → IsUtf8 (take n old.bytes) → IsParted n old t rest → new ≡ rest → text ≡ Some t → TakesText n old text new
text_taken old new rest t text n some within u parted same is =
    let len : length t.bytes ≡ n = ap length parted.front_bytes ∙ length-take-le n old.bytes within in
    let handed : IsHandedOn old t =
    record {
      some = omega (arith, len);
      text = subst IsUtf8 (sym parted.front_bytes) u;
      within =
          λ long. omega (arith, len);
      part = parted.copied.0;
    } in
    record {
      front = ap bytes_of is ∙ parted.front_bytes;
      handed = subst (λ o. IfSome o (IsHandedOn old)) (sym is) handed;
      rest = ap (λ r. r.bytes) same ∙ parted.rest_bytes;
      part = subst (IsRest old) (sym same) (inr parted.copied.1);
    }

pub left_alone : (mid new : Text) (ending : Ending) → (ending ≡ Whole) ⊎ (ending ≡ Open) → new ≡ mid → new.bytes
    ≡ drop (broken_len ending) mid.bytes
left_alone mid new ending is same = ap (λ t. t.bytes) same
    ∙ ap (λ n. drop n mid.bytes) (sym (⊎_elim (ap broken_len) (ap broken_len) is))

pub popped : (old mid new : Text) (front : List ℕ) (ending : Ending) (text : Option Text)
    → IsFirstPart old.bytes front ending → EndsWithin old.bytes (length front) ending
    → TakesText (length front) old text mid → new.bytes ≡ drop (broken_len ending) mid.bytes → IsRest old new
    → PopsText old text ending new
popped old mid new front ending text p within taken end part =
    let same : bytes_of text ≡ front = taken.front ∙ sym p.front_is in
    let rest : new.bytes ≡ drop (length front + broken_len ending) old.bytes = end
    ∙ ap (drop (broken_len ending)) taken.rest ∙ drop-drop (broken_len ending) (length front) old.bytes in
    record {
      front = same ∙ p.front_is ∙ ap (λ l. take (length l) old.bytes) (sym same);
      after = items_after old.bytes (length front) ending;
      items = p.items ∙ ap (λ l. map Keep (chars l) ++ items_after old.bytes (length front) ending) (sym same);
      leaves = by ending within (rest_items old.bytes front ending p) rest;
      within = subst (λ l. length l + broken_len ending ≤ length old.bytes) (sym same) (inside ending within);
      rest = rest ∙ ap (λ l. drop (length l + broken_len ending) old.bytes) (sym same);
      handed = taken.handed;
      part = part;
    }
  where
    inside : (e : Ending) → EndsWithin old.bytes (length front) e → length front + broken_len e ≤ length old.bytes
    inside Whole w = omega (arith, ap length p.front_is, length-take (length front) old.bytes)
    inside (Broken k) w = w.1
    inside Open w = omega (arith, ap length p.front_is, length-take (length front) old.bytes)

    none : drop (length front + 0) old.bytes ≡ drop (length front) old.bytes
    none = ap (λ n. drop n old.bytes) (let z : length front + 0 ≡ length front = omega arith in z)

    by : (e : Ending) → EndsWithin old.bytes (length front) e → lossy (drop (length front) old.bytes)
        ≡ items_after old.bytes (length front) e → new.bytes ≡ drop (length front + broken_len e) old.bytes
        → Leaves e (items_after old.bytes (length front) e) new.bytes
    by Whole w items rest = (
      refl,
      rest ∙ none
          ∙ subst (IsLossy (drop (length front) old.bytes)) items (IsLossy-lossy (drop (length front) old.bytes)),
    )
    by (Broken k) w items rest = (ap (λ l. Bad k ∷ lossy l) (sym rest), w.0)
    by Open w items rest =
        let h = subst (IsLossy (drop (length front) old.bytes)) items (IsLossy-lossy (drop (length front) old.bytes)) in
        let is = rest ∙ none in
        (ap (λ l. Cut l ∷ []) (sym is), subst (λ l. 0 < length l) (sym is) h.0, subst IsIncomplete (sym is) h.2)

-- at most 8 bytes of text and the broken sequence after them are removed at once, and more than 8 bytes are left
pub few_popped : (old new t : Text) (front : List ℕ) (k : ℕ) (text : Option Text)
    → IsFirstPart old.bytes front (Broken k) → EndsWithin old.bytes (length front) (Broken k)
    → IsFewTaken (length front) k old t new
    → ((length front ≡ 0) × (text ≡ None)) ⊎ ((0 < length front) × (text ≡ Some t)) → PopsText old text (Broken k) new
few_popped old new t front k text p within few is =
    let count = length front in
    let mid : Text = record { bytes = drop count old.bytes; copied = old.copied } in
    let many = few.many in
    let few_bytes = few.few in
    let inside : count ≤ length old.bytes = omega (arith, many) in
    let len : length t.bytes ≡ count = ap length few.front_bytes ∙ length-take-le count old.bytes inside in
    let left : length mid.bytes ≡ length old.bytes - count = length-drop count old.bytes in
    let handed : 0 < count → IsHandedOn old t = λ some. record {
      some = omega (arith, len, some);
      text = subst IsUtf8 (p.front_is ∙ sym few.front_bytes) p.text;
      within = λ long. omega (arith, len, few_bytes, long);
      part = (
        λ long. absurd (omega (arith, len, few_bytes, long)),
        λ short. omega
            (arith, few.front_copied, few_bytes),
      );
    } in
    let rest : IsRest old mid = inr (λ long. inr refl, λ short. absurd (omega (arith, left, many, short))) in
    let taken : TakesText count old text mid = record {
      front = ⊎_elim (λ h. ap bytes_of h.1 ∙ ap (λ n. take n old.bytes) (sym h.0)) (λ h. ap bytes_of h.1
          ∙ few.front_bytes) is;
      handed = ⊎_elim (λ h. subst (λ o. IfSome o (IsHandedOn old)) (sym h.1) tt)
          (λ h. subst (λ o. IfSome o (IsHandedOn old)) (sym h.1) (handed h.0)) is;
      rest = refl;
      part = rest;
    } in
    let end : new.bytes ≡ drop k mid.bytes = few.rest_bytes ∙ sym (drop-drop k count old.bytes) in
    popped old mid new front (Broken k) text p within taken end
    (inr (
      λ long. inr few.rest_copied,
      λ short. absurd
          (omega (arith, ap length few.rest_bytes, length-drop (count + k) old.bytes, many, short)),
    ))

-- if the first text and the bytes after it have more than 8 bytes each, a broken sequence is between them
pub both_share : (b front : List ℕ) (ending : Ending) → IsFirstPart b front ending → 8 < length front
    → 8 + length front < length b → BothShare b
both_share b front ending p text rest = by ending p
  where
    n : ℕ
    n = length front

    by : (e : Ending) → IsFirstPart b front e → BothShare b
    by Whole q =
        let nil : drop n b ≡ [] = subst (IsLossy (drop n b)) (rest_items b front Whole q) (IsLossy-lossy (drop n b)) in
        absurd (omega (arith, ap length nil, length-drop n b, rest))
    by (Broken k) q = record { front = front; broken = k; is = q.front_is; items = q.items; text = text; rest = rest }
    by Open q =
        let h = subst (IsLossy (drop n b)) (rest_items b front Open q) (IsLossy-lossy (drop n b)) in
        absurd (omega (arith, open_len (drop n b) h.2, length-drop n b, rest))

-- a property of a suffix
pub long-behind : (a b : List ℕ) (n : ℕ) (r : Refusal) → b ≡ drop n a → LongPieceMay b r → LongPieceMay a r
long-behind a b n r is k =
    let at = k.1.0 in
    (k.0, (n + at, subst BothShare (ap (drop at) is ∙ drop-drop at n a) k.1.1))

pub long-text : (a b : List ℕ) (n : ℕ) (r : Refusal) → b ≡ drop n a → LongTextMay b r → LongPieceMay a r
long-text a b n r is k = (k.0, (n, subst BothShare is k.1))

pub long-some : (b : List ℕ) (r : Refusal) → LongPieceMay b r → 17 < length b
long-some b r k =
    let at = k.1.0 in
    let text = k.1.1.text in
    let rest = k.1.1.rest in
    omega (arith, text, rest, length-drop at b)
