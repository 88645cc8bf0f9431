-- What a join of WTF-8 does to the bytes.
use Rattle.std.proofs.Common.{◌≡◌, ℕ, ◌<◌, ◌≤◌, true, false, ◌&&◌, List, [], ◌∷◌, ◌++◌, flat_map, slice_index, refl}
use Rattle.std.proofs.Common.{sym, ap, ap₂, subst, ◌∙◌, arith, ⊎_elim, append_assoc, append-nil}
use Rattle.std.specs.Char.{encode_utf8}
use Rattle.std.specs.Str.{encode_utf8_all}
use Rattle.std.specs.Char.Utf16.{is_high_surrogate, is_low_surrogate, surrogate_pair_char}
use Rattle.std.specs.Char.Escape.{encode_utf16}
use Rattle.std.proofs.lemmas.Bool.{cases_Bool}
use Rattle.std.proofs.lemmas.Bool.Decides.{nat_tests}
use Rattle.std.proofs.lemmas.Str.{chars-nil, encodes-append, encodes_same, cons_from_encodes}
use Rattle.tendril_fmt.specs.CodePoints.{EndsWithCodePoint, BeginsWithCodePoint}
use Rattle.tendril_fmt.specs.Wtf8.{IsWtf8, wtf8, units, wtf8_join}
use Rattle.tendril_fmt.specs.Proved.Encodings.{chars-code_points}
use Rattle.tendril_fmt.specs.Proved.Units.{code_points-units, pair_units, one_unit, wtf8-units, points_of}
use Rattle.tendril_fmt.specs.Proved.Unpaired.{IsApart, IsApart-nil, AreUnpaired, AreUnpaired-points, AreUnpaired-append}
use Rattle.tendril_fmt.specs.Proved.Cuts.{Opens, cut}
use Rattle.tendril_fmt.proofs.CodePointCuts.{first_byte}
use Rattle.tendril_fmt.proofs.Parts.{last_of}

flat-append : (xs ys : List ℕ) → flat_map encode_utf16 (xs ++ ys) ≡ flat_map encode_utf16 xs ++ flat_map encode_utf16 ys
flat-append [] ys = refl
flat-append (x ∷ xs) ys = ap (λ l. encode_utf16 x ++ l) (flat-append xs ys)
    ∙ sym (append_assoc (encode_utf16 x) (flat_map encode_utf16 xs) (flat_map encode_utf16 ys))

pub units_of : (cs : List ℕ) → AreUnpaired cs → units (encode_utf8_all cs) ≡ flat_map encode_utf16 cs
units_of cs h = ap (flat_map encode_utf16) (chars-code_points cs (AreUnpaired-points cs h))

join_points : (cs ds es : List ℕ) → AreUnpaired cs → AreUnpaired ds → AreUnpaired es
    → flat_map encode_utf16 cs ++ flat_map encode_utf16 ds ≡ flat_map encode_utf16 es
    → wtf8_join (encode_utf8_all cs) (encode_utf8_all ds) ≡ encode_utf8_all es
join_points cs ds es h j k e = ap wtf8 (ap₂ (λ x y. x ++ y) (units_of cs h) (units_of ds j) ∙ e)
    ∙ ap encode_utf8_all (code_points-units es k)

-- if no lead at the end of the left meets a trail at the beginning of the right, the join concatenates
pub join_apart : (front : List ℕ) (c : ℕ) (ds : List ℕ) → AreUnpaired (front ++ c ∷ []) → AreUnpaired ds → IsApart c ds
    → wtf8_join (encode_utf8_all (front ++ c ∷ [])) (encode_utf8_all ds) ≡ encode_utf8_all (front ++ c ∷ [])
    ++ encode_utf8_all ds
join_apart front c ds h j a =
    let same : (front ++ c ∷ []) ++ ds ≡ front ++ c ∷ ds = append_assoc front (c ∷ []) ds in
    join_points (front ++ c ∷ []) ds ((front ++ c ∷ []) ++ ds) h j
    (subst AreUnpaired (sym same) (AreUnpaired-append front c ds h j a)) (sym (flat-append (front ++ c ∷ []) ds))
    ∙ encodes-append (front ++ c ∷ []) ds

pair_high : (u v : ℕ) → 0xD800 ≤ u → u < 0xDC00 → 0xDC00 ≤ v → v < 0xE000 → (surrogate_pair_char u v < 0x11_0000)
    × (is_high_surrogate (surrogate_pair_char u v) ≡ false) × (is_low_surrogate (surrogate_pair_char u v) ≡ false)
pair_high u v a b c d = let k : 0x1_0000 ≤ surrogate_pair_char u v = omega arith in
    let l : surrogate_pair_char u v < 0x11_0000 = omega arith in (l, grind (arith, nat_tests), grind (arith, nat_tests))

and_false : (x y : ℕ) → is_low_surrogate y ≡ false → (is_high_surrogate x && is_low_surrogate y) ≡ false
and_false x y h = grind (arith, nat_tests)

and_false_left : (x y : ℕ) → is_high_surrogate x ≡ false → (is_high_surrogate x && is_low_surrogate y) ≡ false
and_false_left x y h = grind (arith, nat_tests)

AreUnpaired-pair : (front : List ℕ) (u v : ℕ) (ys : List ℕ) → 0xD800 ≤ u → u < 0xDC00 → 0xDC00 ≤ v → v < 0xE000
    → AreUnpaired (front ++ u ∷ []) → AreUnpaired (v ∷ ys) → AreUnpaired (front ++ surrogate_pair_char u v ∷ ys)
AreUnpaired-pair [] u v ys a b c d h j = let k = pair_high u v a b c d in
    (k.0, and_false_left (surrogate_pair_char u v) (slice_index ys 0) k.1, j.2)
AreUnpaired-pair (x ∷ []) u v ys a b c d h j =
    (h.0, and_false x (surrogate_pair_char u v) (pair_high u v a b c d).2, AreUnpaired-pair [] u v ys a b c d h.2 j)
AreUnpaired-pair (x ∷ y ∷ front) u v ys a b c d h j = (h.0, h.1, AreUnpaired-pair (y ∷ front) u v ys a b c d h.2 j)

-- a lead and a trail that meet become their character
pub join_pair : (front : List ℕ) (u v : ℕ) (ys : List ℕ) → 0xD800 ≤ u → u < 0xDC00 → 0xDC00 ≤ v → v < 0xE000
    → AreUnpaired (front ++ u ∷ []) → AreUnpaired (v ∷ ys)
    → wtf8_join (encode_utf8_all front ++ encode_utf8 u) (encode_utf8 v ++ encode_utf8_all ys)
    ≡ encode_utf8_all front ++ (encode_utf8 (surrogate_pair_char u v) ++ encode_utf8_all ys)
join_pair front u v ys a b c d h j =
    let p = surrogate_pair_char u v in
    let left : encode_utf8_all front ++ encode_utf8 u ≡ encode_utf8_all (front ++ u ∷ []) =
    sym (encodes-append front (u ∷ []) ∙ ap (λ l. encode_utf8_all front ++ l) (append-nil (encode_utf8 u))) in
    let pair : encode_utf16 p ≡ u ∷ v ∷ [] = pair_units u v (grind (arith, nat_tests)) in
    let lone : encode_utf16 u ≡ u ∷ [] = one_unit u (omega arith) in
    let trail : encode_utf16 v ≡ v ∷ [] = one_unit v (omega arith) in
    let flat : flat_map encode_utf16 (front ++ u ∷ []) ++ flat_map encode_utf16 (v ∷ ys)
    ≡ flat_map encode_utf16 (front ++ p ∷ ys) =
    ap₂ (λ x y. x ++ y) (flat-append front (u ∷ []) ∙ ap (λ l. flat_map encode_utf16 front ++ (l ++ [])) lone)
    (ap (λ l. l ++ flat_map encode_utf16 ys) trail)
    ∙ append_assoc (flat_map encode_utf16 front) (u ∷ []) (v ∷ flat_map encode_utf16 ys)
    ∙ ap (λ l. flat_map encode_utf16 front ++ (l ++ flat_map encode_utf16 ys)) (sym pair)
    ∙ sym (flat-append front (p ∷ ys)) in
    ap (λ l. wtf8_join l (encode_utf8 v ++ encode_utf8_all ys)) left
    ∙ join_points (front ++ u ∷ []) (v ∷ ys) (front ++ p ∷ ys) h j (AreUnpaired-pair front u v ys a b c d h j) flat
    ∙ encodes-append front (p ∷ ys)

units-nil : units [] ≡ []
units-nil = ap (flat_map encode_utf16) chars-nil

-- joining with the empty text changes nothing
pub join-nil_left : (b : List ℕ) → IsWtf8 b → wtf8_join [] b ≡ b
join-nil_left b w = ap (λ us. wtf8 (us ++ units b)) units-nil ∙ wtf8-units b w

pub join-nil_right : (b : List ℕ) → IsWtf8 b → wtf8_join b [] ≡ b
join-nil_right b w = ap (λ us. wtf8 (units b ++ us)) units-nil ∙ ap wtf8 (append-nil (units b)) ∙ wtf8-units b w

-- a text that is cut into two valid slices is their join
pub join_cut : (l r : List ℕ) → IsWtf8 l → IsWtf8 r → IsWtf8 (l ++ r) → wtf8_join l r ≡ l ++ r
join_cut l r h k w =
    let left = points_of l h in
    let right = points_of r k in
    let whole = points_of (l ++ r) w in
    let bytes : encode_utf8_all (left.0 ++ right.0) ≡ l ++ r = encodes-append left.0 right.0
    ∙ ap₂ (λ x y. x ++ y) left.2 right.2 in
    let same : left.0 ++ right.0 ≡ whole.0 = encodes_same (left.0 ++ right.0) whole.0 (bytes ∙ sym whole.2) in
    ap₂ wtf8_join (sym left.2) (sym right.2)
    ∙ join_points left.0 right.0 (left.0 ++ right.0) left.1 right.1 (subst AreUnpaired (sym same) whole.1)
    (sym (flat-append left.0 right.0))
    ∙ bytes

-- the join, if the bytes of a lead end the left and those of a trail begin the right
pub join_surrogates : (l r front rest : List ℕ) (u v : ℕ) → IsWtf8 l → IsWtf8 r → 0xD800 ≤ u → u < 0xDC00 → 0xDC00 ≤ v
    → v < 0xE000
    → l ≡ front ++ encode_utf8 u → r ≡ encode_utf8 v ++ rest → wtf8_join l r
    ≡ front ++ (encode_utf8 (surrogate_pair_char u v) ++ rest)
join_surrogates l r front rest u v h k a b c d e f =
    let left = points_of l h in
    let right = points_of r k in
    let opens : Opens (encode_utf8 u) = subst Opens (append-nil (encode_utf8 u)) (first_byte u [] (omega arith)) in
    let at = cut left.0 front (encode_utf8 u) (AreUnpaired-points left.0 left.1) (left.2 ∙ e) opens in
    let last : at.back ≡ u ∷ [] = encodes_same at.back (u ∷ []) (at.after ∙ sym (append-nil (encode_utf8 u))) in
    let left_is : left.0 ≡ at.front ++ u ∷ [] = at.split ∙ ap (λ cs. at.front ++ cs) last in
    let head = cons_from_encodes right.0 rest v (right.2 ∙ f) in
    ap₂ wtf8_join (e ∙ ap (λ x. x ++ encode_utf8 u) (sym at.before)) (f ∙ ap (λ x. encode_utf8 v ++ x) (sym head.2))
    ∙ join_pair at.front u v head.0 a b c d (subst AreUnpaired left_is left.1) (subst AreUnpaired head.1 right.1)
    ∙ ap₂ (λ x y. x ++ (encode_utf8 (surrogate_pair_char u v) ++ y)) at.before head.2

-- no lead ends the left, or no trail begins the right
abbrev pub NoneMeet : List ℕ → List ℕ → Type 0
NoneMeet l r = (u v : ℕ) → 0xD800 ≤ u → u < 0xDC00 → 0xDC00 ≤ v → v < 0xE000 → EndsWithCodePoint l u
    → BeginsWithCodePoint r v → ⊥

pub surrogates_of : (u v : ℕ) → (is_high_surrogate u && is_low_surrogate v) ≡ true → (0xD800 ≤ u) × (u < 0xDC00)
    × (0xDC00 ≤ v) × (v < 0xE000)
surrogates_of u v e = (
  grind (arith, nat_tests),
  grind (arith, nat_tests),
  grind (arith, nat_tests),
  grind
      (arith, nat_tests),
)

apart_where_none_meet : (l r : List ℕ) → NoneMeet l r → (front : List ℕ) (d : ℕ) (ds : List ℕ)
    → l ≡ front ++ encode_utf8 d → encode_utf8_all ds ≡ r → IsApart d ds
apart_where_none_meet l r none front d [] e f = IsApart-nil d
apart_where_none_meet l r none front d (v ∷ ds) e f = ⊎_elim
    (λ yes. let s = surrogates_of d v yes in absurd (none d v s.0 s.1 s.2 s.3 (front, e) (encode_utf8_all ds, sym f)))
    (λ no. no)
    (cases_Bool (is_high_surrogate d && is_low_surrogate v))

-- then the join concatenates
pub join_apart_bytes : (l r : List ℕ) → IsWtf8 l → IsWtf8 r → NoneMeet l r → wtf8_join l r ≡ l ++ r
join_apart_bytes l r h k none = let left = points_of l h in by left.0 left.1 left.2
  where
    by : (cs : List ℕ) → AreUnpaired cs → encode_utf8_all cs ≡ l → wtf8_join l r ≡ l ++ r
    by [] p e = ap (λ x. wtf8_join x r) (sym e) ∙ join-nil_left r k ∙ ap (λ x. x ++ r) e
    by (c ∷ cs) p e =
        let right = points_of r k in
        let last = last_of c cs in
        let front = last.0 in
        let d = last.1 in
        let spelt : encode_utf8_all (front ++ d ∷ []) ≡ l = ap encode_utf8_all (sym last.2) ∙ e in
        let is : l ≡ encode_utf8_all front ++ encode_utf8 d = sym spelt ∙ encodes-append front (d ∷ [])
        ∙ ap (λ x. encode_utf8_all front ++ x) (append-nil (encode_utf8 d)) in
        ap₂ wtf8_join (sym spelt) (sym right.2)
        ∙ join_apart front d right.0 (subst AreUnpaired last.2 p) right.1
        (apart_where_none_meet l r none (encode_utf8_all front) d right.0 is right.2)
        ∙ ap₂ (λ x y. x ++ y) spelt right.2
