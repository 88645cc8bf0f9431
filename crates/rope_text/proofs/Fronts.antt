-- Bytes that are dropped at the front of a rope.
use Rattle.std.proofs.Common.{◌≡◌, ◌⊎◌, ℕ, ◌+◌, ◌<◌, ◌≤◌, List, [], ◌∷◌, ◌++◌, length, drop, slice_index, Option, Some}
use Rattle.std.proofs.Common.{None, sym, ap, ◌∙◌, subst, arith, append_assoc, inl, inr}
use Rattle.std.specs.Prelude.{encode_utf8, IfSome, IfNone, OnSome}
use Rattle.std.proofs.lemmas.Bool.{cases_lt}
use Rattle.std.proofs.lemmas.List.{length-append, length-drop, get_or-drop}
use Rattle.std.proofs.lemmas.Str.{char_from_byte, drop_past_char, len_utf8_ascii}
use Rattle.rope_text.specs.Ropes.{RopeText}
use Rattle.tendril_text.proofs.TextLists.{unless_empty_none, unless_empty_some}
use Rattle.tendril_text.specs.TextLists.{DropsFront, unless_empty, LosesFront}
use Rattle.tendril_text.specs.Texts.{Text, PopCost}

-- what is kept of what was kept
PopCost-PopCost : (a b c : Text) → length c.bytes ≤ length b.bytes → PopCost a b → PopCost b c → PopCost a c
PopCost-PopCost a b c h k k' = (λ long. k'.0 long ∙ k.0 (omega arith), k'.1)

same_head : (x y : Text) (xs ys : List Text) → x ∷ xs ≡ y ∷ ys → x ≡ y
same_head x y xs ys e = cc

same_tail : (x y : Text) (xs ys : List Text) → x ∷ xs ≡ y ∷ ys → xs ≡ ys
same_tail x y xs ys e = cc

-- the first piece lost bytes twice, or was lost and the next one lost some
loses_twice : (gone kept a b c : List Text) → a ≡ gone ++ kept → LosesFront kept b → LosesFront b c → DropsFront a c
loses_twice gone kept a b c had f g = elim (cases_lt 0 (length f.left.bytes)) [
  | inl some ↦
      let m = f.leaves in
      let n = g.leaves in
      let is : b ≡ f.left ∷ m.rest = m.has ∙ ap (λ l. l ++ m.rest) (unless_empty_some f.left some) in
      let first = same_head f.left g.first m.rest n.rest (sym is ∙ n.had) in
      let rest = same_tail f.left g.first m.rest n.rest (sym is ∙ n.had) in
      let size = ap length g.bytes ∙ length-append g.lost g.left.bytes in
      let size' = ap (λ (t : Text). length t.bytes) first in
      record {
        gone = gone;
        others = kept;
        had = had;
        has = inr (record {
          first = f.first;
          left = g.left;
          leaves = record {
            rest = m.rest;
            had = m.had;
            has = n.has ∙ ap (λ l. unless_empty g.left ++ l) (sym rest);
          };
          lost = f.lost ++ g.lost;
          bytes = f.bytes ∙ ap (λ l. f.lost ++ l) (ap (λ (t : Text). t.bytes) first ∙ g.bytes)
              ∙ sym (append_assoc f.lost g.lost g.left.bytes);
          keeps = PopCost-PopCost f.first f.left g.left (omega arith) f.keeps
              (subst (λ t. PopCost t g.left) (sym first) g.keeps);
        });
      }
  | inr none ↦
      let m = f.leaves in
      let is : b ≡ m.rest = m.has ∙ ap (λ l. l ++ m.rest) (unless_empty_none f.left (omega arith)) in
      record {
        gone = gone ++ f.first ∷ [];
        others = m.rest;
        had = had ∙ ap (λ l. gone ++ l) m.had ∙ sym (append_assoc gone (f.first ∷ []) m.rest);
        has = inr (subst (λ l. LosesFront l c) is g);
      }
]

-- more is lost
loses_more : (a b c : List Text) → DropsFront a b → LosesFront b c → DropsFront a c
loses_more a b c h g = by h.has
  where
    by : (b ≡ h.others) ⊎ LosesFront h.others b → DropsFront a c
    by (inl e) = record { gone = h.gone; others = h.others; had = h.had; has = inr (subst (λ l. LosesFront l c) e g) }
    by (inr f) = loses_twice h.gone h.others a b c h.had f g

-- of the bytes b and the pieces ps that a rope had, the first n bytes are dropped
pub record AreDropped (b : List ℕ) (ps : List Text) (n : ℕ) (rope : RopeText) : Type 0 where
  pub bytes : rope.bytes ≡ drop n b
  pub pieces : DropsFront ps rope.pieces

-- one ASCII byte more
pub dropped_more : (b : List ℕ) (ps : List Text) (n : ℕ) (old new : RopeText) (r : Option ℕ) → n < length b
    → slice_index b n < 128
    → IfSome r (λ c. old.bytes ≡ encode_utf8 c ++ new.bytes) → OnSome r (LosesFront old.pieces new.pieces)
    → IfNone r ((old.bytes ≡ []) × (new ≡ old))
    → AreDropped b ps n old → AreDropped b ps (n + 1) new
dropped_more b ps n old new None within ascii some front none h =
    absurd (let size = ap length h.bytes ∙ length-drop n b in let empty = ap length none.0 in omega arith)
dropped_more b ps n old new (Some c) within ascii some front none h =
    let e : drop n b ≡ encode_utf8 c ++ new.bytes = sym h.bytes ∙ some in
    let place : n + 0 ≡ n = omega arith in
    let first : slice_index (drop n b) 0 ≡ slice_index b n = get_or-drop n b 0 0 ∙ ap (λ m. slice_index b m) place in
    let size = length-drop n b in
    let is : c ≡ slice_index (drop n b) 0 = char_from_byte (drop n b) new.bytes c e (omega arith) (omega arith) in
    let one = len_utf8_ascii c (omega arith) in
    record {
      bytes = sym (ap (λ m. drop (n + m) b) (sym one) ∙ drop_past_char b new.bytes n c e);
      pieces = loses_more ps old.pieces new.pieces h.pieces front;
    }
