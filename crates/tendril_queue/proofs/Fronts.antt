-- Texts one after another, and the first of them when bytes are removed from its front.
use Rattle.std.proofs.Common.{
  ◌≡◌,
  ℕ,
  ◌+◌,
  ◌<◌,
  Bool,
  true,
  false,
  if◌then◌else◌,
  List,
  [],
  ◌∷◌,
  ◌++◌,
  Option,
  Some,
  None,
  length,
  get_or,
  set,
  refl,
  sym,
  ap,
  ◌∙◌,
  subst,
  arith,
  inr,
  append_assoc,
}
use Rattle.std.specs.Prelude.{IsUtf8, IfSome, chars}
use Rattle.std.proofs.lemmas.List.{length-append}
use Rattle.std.proofs.lemmas.List.Elements.{All-append, All-cons, All-head, All-push, All-tail}
use Rattle.std.proofs.lemmas.Str.{IsUtf8-append, chars-append}
use Rattle.tendril_queue.specs.Queues.{IsQueued, AreQueued, all_texts, IsQueue}
use Rattle.tendril_text.proofs.TextLists.{
  joined-append,
  joined_valid,
  unless_empty_bytes,
  unless_empty_none,
  unless_empty_some,
}
use Rattle.tendril_text.specs.TextLists.{bytes_of_all, listed_unless_empty, unless_empty, LeavesOfFirst, DropsFront}
use Rattle.tendril_text.specs.Texts.{Text, PopCost}

pub queued_valid : (xs : List Text) → AreQueued xs → IsUtf8 (bytes_of_all xs)
queued_valid xs each = joined_valid IsQueued (λ t q. q.valid) xs each

none_queued : AreQueued []
none_queued k d h = absurd (omega (arith, h))

listed_queued : (b : List ℕ) (t : Text) → t.bytes ≡ b → IsUtf8 t.bytes → AreQueued (listed_unless_empty b t)
listed_queued [] t e valid = none_queued
listed_queued (x ∷ xs) t e valid = All-cons IsQueued t [] (record {
  some = let len =
      ap length e in omega (arith, len);
  valid = valid;
}) none_queued

unless_empty_queued : (t : Text) → IsUtf8 t.bytes → AreQueued (unless_empty t)
unless_empty_queued t valid = listed_queued t.bytes t refl valid

-- the first text of a list was cut

pub leaves_some : (xs : List Text) (t left : Text) → 0 < length xs → t ≡ get_or xs 0 t → 0 < length left.bytes
    → LeavesOfFirst xs t left (set xs 0 left)
leaves_some [] t left h is some = absurd (omega (arith, h))
leaves_some (x ∷ rest) t left h is some = record {
  rest = rest;
  had = ap (λ y. y ∷ rest) (sym is);
  has = ap (λ l. l ++ rest) (sym (unless_empty_some left some));
}

module _ (xs ys : List Text) (t left : Text) (l : LeavesOfFirst xs t left ys) where
  had_bytes : bytes_of_all xs ≡ t.bytes ++ bytes_of_all l.rest
  had_bytes = ap bytes_of_all l.had

  has_bytes : bytes_of_all ys ≡ left.bytes ++ bytes_of_all l.rest
  has_bytes = ap bytes_of_all l.has ∙ joined-append (unless_empty left) l.rest
      ∙ ap (λ b. b ++ bytes_of_all l.rest) (unless_empty_bytes left)

  pub left_bytes : (front : List ℕ) → t.bytes ≡ front ++ left.bytes → bytes_of_all xs ≡ front ++ bytes_of_all ys
  left_bytes front e =
      had_bytes ∙ ap (λ b. b ++ bytes_of_all l.rest) e ∙ append_assoc front left.bytes (bytes_of_all l.rest)
      ∙ ap (λ b. front ++ b) (sym has_bytes)

  pub left_shorter : length left.bytes < length t.bytes → length (bytes_of_all ys) < length (bytes_of_all xs)
  left_shorter h =
      let had : length (bytes_of_all xs) ≡ length t.bytes + length (bytes_of_all l.rest) = ap length had_bytes
      ∙ length-append t.bytes (bytes_of_all l.rest) in
      let has : length (bytes_of_all ys) ≡ length left.bytes + length (bytes_of_all l.rest) = ap length has_bytes
      ∙ length-append left.bytes (bytes_of_all l.rest) in
      omega (arith, had, has, h)

  pub left_each : AreQueued xs → IsUtf8 left.bytes → AreQueued ys
  left_each each valid =
      let all : AreQueued (t ∷ l.rest) = subst AreQueued l.had each in
      subst AreQueued (sym l.has) (All-append IsQueued (unless_empty left) l.rest (unless_empty_queued left valid)
      (All-tail IsQueued t l.rest all))

  -- nothing was copied for the remainder
  pub loses : (lost : List ℕ) → t.bytes ≡ lost ++ left.bytes → PopCost t left → DropsFront xs ys
  loses lost bytes keeps = record {
    gone = [];
    others = xs;
    had = refl;
    has = inr (record { first = t; left = left; leaves = l; lost = lost; bytes = bytes; keeps = keeps });
  }

-- two reads of the first text return the same text
pub same_first : (xs : List Text) (s t : Text) → 0 < length xs → s ≡ get_or xs 0 s → t ≡ get_or xs 0 t → s ≡ t
same_first [] s t some is is' = absurd (omega arith)
same_first (x ∷ xs) s t some is is' = is ∙ sym is'

-- a first text, and the texts after it

pub all_bytes : (t : Text) (xs : List Text) → bytes_of_all (all_texts t xs) ≡ t.bytes ++ bytes_of_all xs
all_bytes t xs = joined-append (unless_empty t) xs ∙ ap (λ b. b ++ bytes_of_all xs) (unless_empty_bytes t)

pub all_some : (t : Text) (xs : List Text) → 0 < length t.bytes → all_texts t xs ≡ t ∷ xs
all_some t xs some = ap (λ l. l ++ xs) (unless_empty_some t some)

pub all_none : (t : Text) (xs : List Text) → t.bytes ≡ [] → all_texts t xs ≡ xs
all_none t xs none = ap (λ l. l ++ xs) (unless_empty_none t (ap length none))

pub all_valid : (t : Text) (xs : List Text) → IsQueue t xs → IsUtf8 (bytes_of_all (all_texts t xs))
all_valid t xs q = subst IsUtf8 (sym (all_bytes t xs))
    (IsUtf8-append t.bytes (bytes_of_all xs) q.valid (queued_valid xs q.each))

-- a text that has bytes is a first one for each rest
pub first_some : (t : Text) (xs : List Text) → IsUtf8 t.bytes → 0 < length t.bytes → AreQueued xs → IsQueue t xs
first_some t xs valid some each = record {
  valid = valid;
  each = each;
  alone = λ none. let len : length t.bytes ≡ 0 = ap length none in absurd (omega (arith, some, len));
}

pub first_of : (xs : List Text) (t : Text) (ys : List Text) → xs ≡ t ∷ ys → AreQueued xs → IsQueue t ys
first_of xs t ys e each =
    let all : AreQueued (t ∷ ys) = subst AreQueued e each in
    let one = All-head IsQueued t ys all in
    first_some t ys one.valid one.some (All-tail IsQueued t ys all)

pub some_bytes : (b : List ℕ) → (b ≡ [] → ⊥) → 0 < length b
some_bytes [] other = absurd (other refl)
some_bytes (x ∷ xs) other = omega arith

-- a text was put at the end of the rest, or was not
pub back_queue : (b : Bool) (t u : Text) (xs ys : List Text) → ys ≡ (if b then xs ++ u ∷ [] else xs) → IsQueue t xs
    → (t.bytes ≡ [] → ⊥) → IsQueued u → IsQueue t ys
back_queue true t u xs ys e q other one =
    first_some t ys q.valid (some_bytes t.bytes other) (subst AreQueued (sym e) (All-push IsQueued xs u q.each one))
back_queue false t u xs ys e q other one = subst (IsQueue t) (sym e) q

-- a text took the place of the first one, which is now the first of the rest
pub front_queue : (t u : Text) (xs ys : List Text) → ys ≡ t ∷ xs → IsQueue t xs → (t.bytes ≡ [] → ⊥) → IsUtf8 u.bytes
    → 0 < length u.bytes → IsQueue u ys
front_queue t u xs ys e q other valid some =
    first_some u ys valid some (subst AreQueued (sym e) (All-cons IsQueued t xs (record {
      some = some_bytes t.bytes other;
      valid = q.valid;
    }) q.each))

-- the first text was cut, and the queue has what is left
pub leaves_first : (t left : Text) (xs ys : List Text) → 0 < length t.bytes → ys ≡ all_texts left xs
    → LeavesOfFirst (all_texts t xs) t left ys
leaves_first t left xs ys some is = record { rest = xs; had = all_some t xs some; has = is }

-- two facts of what was found
pub both_some : {X : Type 0} {P Q R : X → Type 0} (r : Option X) → IfSome r P → IfSome r Q → ((x : X) → P x → Q x → R x)
    → IfSome r R
both_some (Some x) p q step = step x p q
both_some None p q step = tt

-- the first character of the first text is that of all texts
pub first_char : (t : Text) (xs : List Text) (c : ℕ) → IsQueue t xs
    → (rest : List ℕ) × (chars t.bytes ≡ c ∷ rest)
    → (rest : List ℕ) × (chars (bytes_of_all (all_texts t xs)) ≡ c ∷ rest)
first_char t xs c q h = (
  h.0 ++ chars (bytes_of_all xs),
  ap chars (all_bytes t xs) ∙ chars-append t.bytes (bytes_of_all xs) q.valid
      ∙ ap (λ l. l ++ chars (bytes_of_all xs)) h.1,
)
