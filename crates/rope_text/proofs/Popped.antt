-- A character that is popped from the first piece.
use Rattle.std.proofs.Common.{◌≡◌, ℕ, ◌+◌, ◌-◌, ◌%◌, ◌^◌, ◌<◌, ◌≤◌, List, [], ◌∷◌, ◌++◌, length, get_or, set, drop}
use Rattle.std.proofs.Common.{refl, sym, ap, ◌∙◌, subst, arith, append_assoc}
use Rattle.std.specs.Prelude.{All, chars, encode_utf8}
use Rattle.std.specs.Char.{len_utf8}
use Rattle.std.proofs.lemmas.List.{length-append, nil_from_length}
use Rattle.std.proofs.lemmas.List.Elements.{All-cons, All-head, All-tail}
use Rattle.std.proofs.lemmas.Str.{IsUtf8-past_char, chars_past_char, length-encode}
use Rattle.rope_text.proofs.Ends.{AreEnds-left, AreEnds-rest}
use Rattle.rope_text.proofs.Joined.{pieces_valid}
use Rattle.rope_text.specs.Ropes.{AreEnds, IsPiece, IsRope}
use Rattle.tendril_text.proofs.TextLists.{unless_empty_none, unless_empty_some}
use Rattle.tendril_text.specs.TextLists.{LosesFront, bytes_of_all}
use Rattle.tendril_text.specs.Texts.{Text, PopCost}

-- the character c was popped from the pieces xs; ys are left, with this start and these ends
pub record IsPopped (xs ys : List Text) (total c start : ℕ) (ends : List ℕ) : Type 0 where
  pub enough : len_utf8 c ≤ total
  pub rope : IsRope ys start ends (total - len_utf8 c)
  pub bytes : bytes_of_all xs ≡ encode_utf8 c ++ bytes_of_all ys
  pub characters : chars (bytes_of_all xs) ≡ c ∷ chars (bytes_of_all ys)
  pub front : LosesFront xs ys

popped : (xs ys : List Text) (total c s start : ℕ) (had ends : List ℕ) → IsRope xs s had total → All IsPiece ys
    → AreEnds ys start ends → bytes_of_all xs ≡ encode_utf8 c ++ bytes_of_all ys → LosesFront xs ys
    → IsPopped xs ys total c start ends
popped xs ys total c s start had ends r each stand e front =
    let size : length (bytes_of_all xs) ≡ len_utf8 c + length (bytes_of_all ys) = ap length e
    ∙ length-append (encode_utf8 c) (bytes_of_all ys) ∙ ap (λ n. n + length (bytes_of_all ys)) (length-encode c) in
    let t = r.counts in
    record {
      enough = omega arith;
      rope = record { each = each; counts = omega arith; fits = let f = r.fits in omega arith; places = stand };
      bytes = e;
      characters = chars_past_char (bytes_of_all xs) (bytes_of_all ys) c (pieces_valid xs r.each) e;
      front = front;
    }

-- the first piece has more characters
pub IsPopped_some : (xs : List Text) (t left : Text) (total c s start : ℕ) (ends : List ℕ) → 0 < length xs
    → t ≡ get_or xs 0 t → IsRope xs s ends total → t.bytes ≡ encode_utf8 c ++ left.bytes → PopCost t left
    → 0 < length left.bytes → start ≡ (s + len_utf8 c) % 2 ^ 64 → IsPopped xs (set xs 0 left) total c start ends
IsPopped_some [] t left total c s start ends h is r e k some moved = absurd (omega arith)
IsPopped_some (x ∷ rest) t left total c s start ends h is r e k some moved =
    let f : x.bytes ≡ encode_utf8 c ++ left.bytes = subst (λ (y : Text). y.bytes ≡ encode_utf8 c ++ left.bytes) is e in
    let p = All-head IsPiece x rest r.each in
    let size : length x.bytes ≡ len_utf8 c + length left.bytes = ap length f
    ∙ length-append (encode_utf8 c) left.bytes ∙ ap (λ n. n + length left.bytes) (length-encode c) in
    let most = p.short in
    popped (x ∷ rest) (left ∷ rest) total c s start ends ends r
    (All-cons IsPiece left rest (record {
      some = some;
      short = omega arith;
      valid =
          IsUtf8-past_char x.bytes left.bytes c p.valid f;
    }) (All-tail IsPiece x rest r.each))
    (AreEnds-left x left rest s start (len_utf8 c) ends size moved r.places)
    (ap (λ l. l ++ bytes_of_all rest) f ∙ append_assoc (encode_utf8 c) left.bytes (bytes_of_all rest))
    (record {
      first = x;
      left = left;
      leaves = record { rest = rest; had = refl; has = ap (λ l. l ++ rest) (sym (unless_empty_some left some)) };
      lost = encode_utf8 c;
      bytes = f;
      keeps =
          subst (λ y. PopCost y left) is k;
    })

-- it was its last character
pub IsPopped_all : (xs : List Text) (t left : Text) (total c s start : ℕ) (ends : List ℕ) → 0 < length xs
    → t ≡ get_or xs 0 t → IsRope xs s ends total → t.bytes ≡ encode_utf8 c ++ left.bytes → PopCost t left
    → length left.bytes ≡ 0 → start ≡ (s + len_utf8 c) % 2 ^ 64
    → IsPopped xs (drop 1 (set xs 0 left)) total c start (drop 1 ends)
IsPopped_all [] t left total c s start ends h is r e k none moved = absurd (omega arith)
IsPopped_all (x ∷ rest) t left total c s start ends h is r e k none moved =
    let f : x.bytes ≡ encode_utf8 c ++ left.bytes = subst (λ (y : Text). y.bytes ≡ encode_utf8 c ++ left.bytes) is e in
    let size : length x.bytes ≡ len_utf8 c = ap length f ∙ length-append (encode_utf8 c) left.bytes
    ∙ ap (λ n. n + length left.bytes) (length-encode c) ∙ omega arith in
    popped (x ∷ rest) rest total c s start ends (drop 1 ends) r
    (All-tail IsPiece x rest r.each)
    (AreEnds-rest x rest s start ends (moved ∙ ap (λ n. (s + n) % 2 ^ 64) (sym size)) r.places)
    (ap (λ l. l ++ bytes_of_all rest) f ∙ append_assoc (encode_utf8 c) left.bytes (bytes_of_all rest)
    ∙ ap (λ l. encode_utf8 c ++ (l ++ bytes_of_all rest)) (nil_from_length left.bytes none))
    (record {
      first = x;
      left = left;
      leaves = record { rest = rest; had = refl; has = ap (λ l. l ++ rest) (sym (unless_empty_none left none)) };
      lost = encode_utf8 c;
      bytes = f;
      keeps =
          subst (λ y. PopCost y left) is k;
    })
