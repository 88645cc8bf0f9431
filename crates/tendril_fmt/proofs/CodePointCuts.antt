-- Where the bytes of code points may be cut: before and after each of them.
use Rattle.std.proofs.Common.{◌≡◌, ℕ, ◌<◌, List, [], ◌∷◌, ◌++◌, length, refl, sym, ap, ap₂, subst, ◌∙◌, arith}
use Rattle.std.proofs.Common.{append_assoc, append-nil, length-append}
use Rattle.std.specs.List.{AllByRecursion}
use Rattle.std.specs.Char.{encode_utf8}
use Rattle.std.specs.Str.{encode_utf8_all}
use Rattle.std.proofs.lemmas.List.{get_or_append_left}
use Rattle.std.proofs.lemmas.Str.{length-encode, len_utf8_bounds, encode_same, encodes-append}
use Rattle.tendril_fmt.specs.CodePoints.{IsCodePoint, IsContinuation}
use Rattle.tendril_fmt.specs.Proved.Cuts.{IsStart-encode, Cut, Opens, cut}
use Rattle.tendril_fmt.proofs.Sequences.{sequence_len-continuation}

-- the first byte of a code point is no continuation byte
pub first_byte : (c : ℕ) (rest : List ℕ) → IsCodePoint c → Opens (encode_utf8 c ++ rest)
first_byte c rest top some h =
    let is = IsStart-encode c top in
    let long : 0 < length (encode_utf8 c) = omega (arith, length-encode c, (len_utf8_bounds c).0) in
    let same = get_or_append_left (encode_utf8 c) rest 0 0 long in
    let none = sequence_len-continuation _ (subst IsContinuation same h) in
    let l = is.0 in
    absurd (omega arith)

-- code points are also cut after the bytes of one of them
pub cut_after : (cs xs : List ℕ) (c : ℕ) (ys : List ℕ) → AllByRecursion IsCodePoint cs → IsCodePoint c
    → encode_utf8_all cs ≡ (xs ++ encode_utf8 c) ++ ys → Cut cs (xs ++ encode_utf8 c) ys
cut_after cs xs c ys all top e =
    let first = cut cs xs (encode_utf8 c ++ ys) all (e ∙ append_assoc xs (encode_utf8 c) ys) (first_byte c ys top) in
    by first first.back refl
  where
    by : (k : Cut cs xs (encode_utf8 c ++ ys)) (back : List ℕ) → k.back ≡ back → Cut cs (xs ++ encode_utf8 c) ys
    by k [] is = absurd (omega (
      arith,
      ap length (sym k.after ∙ ap encode_utf8_all is),
      length-append
          (encode_utf8 c) ys,
      length-encode c,
      (len_utf8_bounds c).0,
    ))
    by k (d ∷ back) is =
        let same = encode_same d c (encode_utf8_all back) ys (sym (ap encode_utf8_all is) ∙ k.after) in
        record {
          front = k.front ++ (c ∷ []);
          back = back;
          split = k.split ∙ ap (λ l. k.front ++ l) (is ∙ ap (λ x. x ∷ back) same.0)
              ∙ sym (append_assoc k.front (c ∷ []) back);
          before = encodes-append k.front (c ∷ []) ∙ ap₂ (λ x y. x ++ y) k.before (append-nil (encode_utf8 c));
          after = same.1;
        }
