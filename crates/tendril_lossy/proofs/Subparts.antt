-- Bytes without an error can be completed to a character, and an error's length is that of a maximal subpart.
use Rattle.std.proofs.Common.{◌≡◌, ◌⊎◌, ℕ, ◌+◌, ◌-◌, ◌*◌, ◌<◌, ◌≤◌, true, List, [], ◌∷◌, ◌++◌, length, take, drop}
use Rattle.std.proofs.Common.{slice_index, Some, None, refl, sym, ap, ap₂, subst, ◌∙◌, arith, inl, inr, ⊎_elim}
use Rattle.std.proofs.Common.{append_assoc, append-nil, length-append, length-drop, length-take-le, get_or-take}
use Rattle.std.proofs.Common.{take-append-drop, take_at}
use Rattle.std.specs.Prelude.{Option}
use Rattle.std.specs.Char.{encode_utf8, IsScalar}
use Rattle.std.specs.Str.{StartsWithNoChar}
use Rattle.std.specs.Str.Lossy.{utf8_error_len, second_byte_min}
use Rattle.std.proofs.lemmas.Bool.{cases_lt}
use Rattle.std.proofs.lemmas.Bool.Decides.{nat_tests}
use Rattle.std.proofs.lemmas.List.{get_or_append_left, nil_from_length, take-append-le}
use lib.Utf8.{scalar_cases}
use Rattle.tendril_lossy.specs.Lossy.{IsIncomplete, IsMaximalSubpart}
use Rattle.tendril_fmt.specs.Proved.Encodings.{Shape, of1, of2, of3, of4, encode_utf8_1, point_shape}
use Rattle.tendril_fmt.specs.CodePoints.{IsContinuation}
use Rattle.tendril_fmt.proofs.Decodings.{spelt_2, spelt_3, spelt_4}
use Rattle.tendril_fmt.specs.Proved.Encodings.{IsCodePoint-scalar}
use Rattle.tendril_lossy.proofs.Faults.{lead, second, later, empty, no_start, after_one, no_second, after_two, no_third}
use Rattle.tendril_lossy.proofs.Faults.{after_three, no_fourth, FaultOf, fault, error-bounds, none_by, same_error}

-- A proper prefix of a character has no error.

scalar_ranges : (c : ℕ) → IsScalar c → (c < 0xD800) ⊎ ((0xE000 ≤ c) × (c < 0x11_0000))
scalar_ranges = scalar_cases

pub second_3 : (c a b d : ℕ) → IsScalar c → 224 ≤ a → a < 240 → IsContinuation b → IsContinuation d → c + 925824
    ≡ a * 4096 + b * 64 + d → 2048 ≤ c → second a b ≡ true
second_3 c a b d s l h f g e m =
    let fl = f.0 in let fh = f.1 in let gl = g.0 in let gh = g.1 in
    let low : a ≡ 224 → 160 ≤ b = λ i. omega arith in
    let high : a ≡ 237 → b ≤ 159 = λ i. ⊎_elim (λ p. omega arith) (λ p. let q = p.0 in omega arith)
    (scalar_cases c s) in
    grind (arith, nat_tests)

pub second_4 : (c a b d w : ℕ) → IsScalar c → 240 ≤ a → a < 245 → IsContinuation b → IsContinuation d
    → IsContinuation w → c + 63447168 ≡ a * 262144 + b * 4096 + d * 64 + w → 65536 ≤ c → second a b ≡ true
second_4 c a b d w s l h f g j e m =
    let fl = f.0 in let fh = f.1 in let gl = g.0 in let gh = g.1 in let jl = j.0 in let jh = j.1 in
    let top = IsCodePoint-scalar c s in
    let low : a ≡ 240 → 144 ≤ b = λ i. omega arith in
    let high : a ≡ 244 → b ≤ 143 = λ i. omega arith in
    grind (arith, nat_tests)

front_at : (xs more bs : List ℕ) (i : ℕ) → xs ++ more ≡ bs → i < length xs → slice_index xs i ≡ slice_index bs i
front_at xs more bs i e lt = sym (get_or_append_left xs more 0 i lt) ∙ ap (λ l. slice_index l i) e

pub IsIncomplete-none : (xs : List ℕ) → IsIncomplete xs → utf8_error_len xs ≡ None
IsIncomplete-none xs o = by (point_shape o.0 (IsCodePoint-scalar o.0 o.2))
  where
    by : Shape o.0 → utf8_error_len xs ≡ None
    by (of1 h e) =
        let none : length xs ≡ 0 = omega (arith, ap length (o.4 ∙ e), length-append xs o.1, o.3) in
        none_by _ _ _ _ _ (fault xs) (λ p. absurd (omega arith)) (λ p. absurd (omega arith))
        (λ p. absurd (omega arith)) (omega arith)
    by (of2 a b l h f t e) =
        let all = o.4 ∙ e in
        let short : length xs ≤ 1 = omega (arith, ap length all, length-append xs o.1, o.3) in
        let start : lead a ≡ true = grind (arith, nat_tests) in
        none_by _ _ _ _ _ (fault xs) (λ p. ap lead (front_at xs o.1 _ 0 all p) ∙ start) (λ p. absurd (omega arith))
        (λ p. absurd (omega arith)) (omega arith)
    by (of3 a b d l h f g t m e) =
        let all = o.4 ∙ e in
        let short : length xs ≤ 2 = omega (arith, ap length all, length-append xs o.1, o.3) in
        let start : lead a ≡ true = grind (arith, nat_tests) in
        let next = second_3 o.0 a b d o.2 l h f g t m in
        none_by _ _ _ _ _ (fault xs) (λ p. ap lead (front_at xs o.1 _ 0 all p) ∙ start)
        (λ p. ap₂ second (front_at xs o.1 _ 0 all (omega arith)) (front_at xs o.1 _ 1 all p) ∙ next)
        (λ p. absurd (omega arith)) (omega arith)
    by (of4 a b d w l h f g j t m e) =
        let all = o.4 ∙ e in
        let short : length xs ≤ 3 = omega (arith, ap length all, length-append xs o.1, o.3) in
        let start : lead a ≡ true = grind (arith, nat_tests) in
        let next = second_4 o.0 a b d w o.2 l h f g j t m in
        let third : later d ≡ true = let gl = g.0 in let gh = g.1 in grind (arith, nat_tests) in
        none_by _ _ _ _ _ (fault xs) (λ p. ap lead (front_at xs o.1 _ 0 all p) ∙ start)
        (λ p. ap₂ second (front_at xs o.1 _ 0 all (omega arith)) (front_at xs o.1 _ 1 all p) ∙ next)
        (λ p. ap later (front_at xs o.1 _ 2 all p) ∙ third) (omega arith)

-- Bytes without an error, which begin with no character, can be completed to one.

lead_bounds : (x : ℕ) → lead x ≡ true → (194 ≤ x) × (x < 245)
lead_bounds x h = (grind (arith, nat_tests), grind (arith, nat_tests))

pub later_bounds : (z : ℕ) → later z ≡ true → IsContinuation z
later_bounds z h = (grind (arith, nat_tests), grind (arith, nat_tests))

pub second_bounds : (x y : ℕ) → second x y ≡ true → IsContinuation y × (x ≡ 224 → 160 ≤ y) × (x ≡ 237 → y < 160)
    × (x ≡ 240 → 144 ≤ y) × (x ≡ 244 → y < 144)
second_bounds x y h = (
  (grind (arith, nat_tests), grind (arith, nat_tests)),
  (λ e. grind (arith, nat_tests)),
  (λ e. grind (arith, nat_tests)),
  (λ e. grind (arith, nat_tests)),
  (λ e. grind (arith, nat_tests)),
)

pub is_scalar : (c : ℕ) → (c < 0xD800) ⊎ ((0xE000 ≤ c) × (c < 0x11_0000)) → IsScalar c
is_scalar c r = ⊎_elim (λ p. grind (arith, nat_tests)) (λ p. let q = p.0 in let t = p.1 in grind (arith, nat_tests)) r

abbrev pub Completes : List ℕ → Type 0
Completes bs = (c : ℕ) × IsScalar c × (bs ≡ encode_utf8 c)

pub spells_2 : (x y : ℕ) → lead x ≡ true → x < 224 → IsContinuation y → Completes (x ∷ y ∷ [])
spells_2 x y h lt f =
    let b = lead_bounds x h in
    let fl = f.0 in let fh = f.1 in
    let c = (x - 192) * 64 + (y - 128) in
    (c, is_scalar c (inl (omega arith)), sym (spelt_2 x y b.0 lt f))

pub spells_3 : (x y z : ℕ) → lead x ≡ true → 224 ≤ x → x < 240 → second x y ≡ true → later z ≡ true
    → Completes (x ∷ y ∷ z ∷ [])
spells_3 x y z h l lt s t =
    let k = second_bounds x y s in
    let f = k.0 in let g = later_bounds z t in
    let fl = f.0 in let fh = f.1 in let gl = g.0 in let gh = g.1 in
    let k1 = k.1 in let k2 = k.2 in
    let c = (x - 224) * 4096 + (y - 128) * 64 + (z - 128) in
    let range : (c < 0xD800) ⊎ ((0xE000 ≤ c) × (c < 0x11_0000)) = ⊎_elim
    (λ (p : x < 237). inl (omega arith))
    (λ (p : 237 ≤ x). ⊎_elim (λ (q : x < 238). inl (omega arith)) (λ (q : 238 ≤ x). inr (omega arith, omega arith))
    (cases_lt x 238))
    (cases_lt x 237) in
    let least : 2048 ≤ c = ⊎_elim (λ (p : x < 225). omega arith) (λ (p : 225 ≤ x). omega arith) (cases_lt x 225) in
    (c, is_scalar c range, sym (spelt_3 x y z l lt f g least))

pub spells_4 : (x y z w : ℕ) → lead x ≡ true → 240 ≤ x → second x y ≡ true → later z ≡ true → IsContinuation w
    → Completes (x ∷ y ∷ z ∷ w ∷ [])
spells_4 x y z w h l s t j =
    let k = second_bounds x y s in
    let b = lead_bounds x h in
    let f = k.0 in let g = later_bounds z t in
    let fl = f.0 in let fh = f.1 in let gl = g.0 in let gh = g.1 in let jl = j.0 in let jh = j.1 in let bh = b.1 in
    let k3 = k.3 in let k4 = k.4 in
    let c = (x - 240) * 262144 + (y - 128) * 4096 + (z - 128) * 64 + (w - 128) in
    let least : 65536 ≤ c = ⊎_elim (λ (p : x < 241). omega arith) (λ (p : 241 ≤ x). omega arith) (cases_lt x 241) in
    let most : c < 0x11_0000 = ⊎_elim (λ (p : x < 244). omega arith) (λ (p : 244 ≤ x). omega arith) (cases_lt x 244) in
    (c, is_scalar c (inr (omega arith, most)), sym (spelt_4 x y z w l f g j least))

list_1 : (bs : List ℕ) → length bs ≡ 1 → bs ≡ slice_index bs 0 ∷ []
list_1 [] e = absurd (omega arith)
list_1 (x ∷ []) e = refl
list_1 (x ∷ y ∷ bs) e = absurd (omega arith)

list_2 : (bs : List ℕ) → length bs ≡ 2 → bs ≡ slice_index bs 0 ∷ slice_index bs 1 ∷ []
list_2 [] e = absurd (omega arith)
list_2 (x ∷ bs) e = ap (λ l. x ∷ l) (list_1 bs (omega arith))

list_3 : (bs : List ℕ) → length bs ≡ 3 → bs ≡ slice_index bs 0 ∷ slice_index bs 1 ∷ slice_index bs 2 ∷ []
list_3 [] e = absurd (omega arith)
list_3 (x ∷ bs) e = ap (λ l. x ∷ l) (list_2 bs (omega arith))

-- a second byte that fits
seconds : (x : ℕ) → lead x ≡ true → second x (second_byte_min x) ≡ true
seconds x h = grind (arith, nat_tests)

pub IsIncomplete-from_none : (bs : List ℕ) → StartsWithNoChar bs → utf8_error_len bs ≡ None → IsIncomplete bs
IsIncomplete-from_none bs none e = by (utf8_error_len bs) (fault bs) e
  where
    some_more : (more : List ℕ) → 0 < length more → (k : Completes (bs ++ more)) → IsIncomplete bs
    some_more more p k = (k.0, more, k.1, p, k.2)

    three_more : (x y : ℕ) (l : List ℕ) → lead x ≡ true → second x y ≡ true → 224 ≤ x → l ≡ x ∷ y ∷ []
        → (more : List ℕ) × (0 < length more) × Completes (l ++ more)
    three_more x y l h s wide is = ⊎_elim
        (λ (p : x < 240). (
          128 ∷ [],
          omega arith,
          subst (λ t. Completes (t ++ (128 ∷ []))) (sym is)
              (spells_3 x y 128 h wide p s refl),
        ))
        (λ (p : 240 ≤ x). (
          128 ∷ 128 ∷ [],
          omega arith,
          subst (λ t. Completes (t ++ (128 ∷ 128 ∷ []))) (sym is)
              (spells_4 x y 128 128 h p s refl (omega arith, omega arith)),
        ))
        (cases_lt x 240)

    by : (r : Option ℕ) → FaultOf bs r → r ≡ None → IsIncomplete bs
    by r (empty p _) i = (
      0,
      0 ∷ [],
      refl,
      omega arith,
      ap (λ l. l ++ (0 ∷ [])) (nil_from_length bs p)
          ∙ sym (encode_utf8_1 0 (omega arith)),
    )
    by r (no_start _ _ e) i = cc
    by r (after_one p h _) i = ⊎_elim
        (λ (q : slice_index bs 0 < 224). some_more (128 ∷ []) (omega arith)
        (subst (λ t. Completes (t ++ (128 ∷ []))) (sym (list_1 bs p))
        (spells_2 _ 128 h q (omega arith, omega arith))))
        (λ (q : 224 ≤ slice_index bs 0).
        let x = slice_index bs 0 in
        let y = second_byte_min x in
        let m = three_more x y (x ∷ y ∷ []) h (seconds x h) q refl in
        some_more (y ∷ m.0) (omega arith) (subst (λ t. Completes (t ++ (y ∷ m.0))) (sym (list_1 bs p)) m.2))
        (cases_lt (slice_index bs 0) 224)
    by r (no_second _ _ _ e) i = cc
    by r (after_two p h s _) i = ⊎_elim
        (λ (q : slice_index bs 0 < 224). let k = spells_2 (slice_index bs 0) (slice_index bs 1) h q
        (second_bounds (slice_index bs 0) (slice_index bs 1) s).0 in
        absurd (none k.0 [] k.1 (list_2 bs p ∙ k.2 ∙ sym (append-nil (encode_utf8 k.0)))))
        (λ (q : 224 ≤ slice_index bs 0). let m = three_more _ _ bs h s q (list_2 bs p) in some_more m.0 m.1 m.2)
        (cases_lt (slice_index bs 0) 224)
    by r (no_third _ _ _ _ e) i = cc
    by r (after_three p h s t _) i =
        let x = slice_index bs 0 in
        let y = slice_index bs 1 in
        let z = slice_index bs 2 in
        ⊎_elim
        (λ (q : x < 224). let k = spells_2 x y h q (second_bounds x y s).0 in
        absurd (none k.0 (z ∷ []) k.1 (list_3 bs p ∙ ap (λ l. l ++ (z ∷ [])) k.2)))
        (λ (q : 224 ≤ x). ⊎_elim
        (λ (v : x < 240). let k = spells_3 x y z h q v s t in
        absurd (none k.0 [] k.1 (list_3 bs p ∙ k.2 ∙ sym (append-nil (encode_utf8 k.0)))))
        (λ (v : 240 ≤ x). some_more (128 ∷ []) (omega arith)
        (subst (λ l. Completes (l ++ (128 ∷ []))) (sym (list_3 bs p))
        (spells_4 x y z 128 h v s t (omega arith, omega arith))))
        (cases_lt x 240))
        (cases_lt x 224)
    by r (no_fourth _ _ _ _ e) i = cc

-- The length of an error is that of the maximal subpart.

no_char-take : (bs : List ℕ) (k : ℕ) → StartsWithNoChar bs → StartsWithNoChar (take k bs)
no_char-take bs k none c rest s e =
    none c (rest ++ drop k bs) s (sym (take-append-drop k bs) ∙ ap (λ l. l ++ drop k bs) e
    ∙ append_assoc (encode_utf8 c) rest (drop k bs))

take_at-below : (bs : List ℕ) (m i : ℕ) → i < length (take m bs) → m ≤ length bs → slice_index (take m bs) i
    ≡ slice_index bs i
take_at-below bs m i lt le = get_or-take m bs i 0 (omega (arith, length-take-le m bs le))

-- the bytes of a broken sequence have no error by themselves, if there is more than one
broken_front : (bs : List ℕ) (k : ℕ) → utf8_error_len bs ≡ Some k → (k ≡ 1) ⊎ (utf8_error_len (take k bs) ≡ None)
broken_front bs k i = by (utf8_error_len bs) (fault bs) i
  where
    front : (j : ℕ) → j ≤ length bs → j < 4 → (0 < j → lead (slice_index bs 0) ≡ true)
        → (1 < j → second (slice_index bs 0) (slice_index bs 1) ≡ true) → (2 < j → later (slice_index bs 2) ≡ true)
        → utf8_error_len (take j bs) ≡ None
    front j le few a b d =
        let long = length-take-le j bs le in
        none_by _ _ _ _ _ (fault (take j bs))
        (λ p. ap lead (take_at-below bs j 0 p le) ∙ a (omega arith))
        (λ p. ap₂ second (take_at-below bs j 0 (omega arith) le) (take_at-below bs j 1 p le) ∙ b (omega arith))
        (λ p. ap later (take_at-below bs j 2 p le) ∙ d (omega arith)) (omega arith)

    by : (r : Option ℕ) → FaultOf bs r → r ≡ Some k → (k ≡ 1) ⊎ (utf8_error_len (take k bs) ≡ None)
    by r (empty _ e) i = cc
    by r (no_start p h e) i = inl (cc)
    by r (after_one _ _ e) i = cc
    by r (no_second p h s e) i = inl (cc)
    by r (after_two _ _ _ e) i = cc
    by r (no_third p h s t e) i = let is : k ≡ 2 = cc in
        inr (front k (omega arith) (omega arith) (λ _. h) (λ _. s) (λ q. absurd (omega arith)))
    by r (after_three _ _ _ _ e) i = cc
    by r (no_fourth p h s t e) i = let is : k ≡ 3 = cc in
        inr (front k (omega arith) (omega arith) (λ _. h) (λ _. s) (λ _. t))

some_none : (r : Option ℕ) (k : ℕ) → r ≡ Some k → r ≡ None → ⊥
some_none r k e f = cc

pub IsIncomplete-faultless : (bs : List ℕ) (k : ℕ) → utf8_error_len bs ≡ Some k → ¬ (IsIncomplete bs)
IsIncomplete-faultless bs k e o = some_none _ k e (IsIncomplete-none bs o)

pub IsMaximalSubpart-error : (bs : List ℕ) (k : ℕ) → StartsWithNoChar bs → utf8_error_len bs ≡ Some k
    → IsMaximalSubpart bs k
IsMaximalSubpart-error bs k none e =
    let b = error-bounds bs k e in
    record {
      some = b.0;
      within = b.1;
      front = ⊎_elim (λ one. inl one)
          (λ faultless. inr (IsIncomplete-from_none (take k bs) (no_char-take bs k none) faultless))
          (broken_front bs k e);
      longest = λ m more le o.
          let long = length-take-le m bs le in
          IsIncomplete-faultless (take m bs) k
          (same_error bs (take m bs) k e (omega arith) (λ i p q. sym (take_at-below bs m i q le))) o;
    }

-- An error stays the same if more bytes follow.

pub error-append : (bs more : List ℕ) (k : ℕ) → utf8_error_len bs ≡ Some k → utf8_error_len (bs ++ more) ≡ Some k
error-append bs more k e = same_error bs (bs ++ more) k e (omega (arith, length-append bs more))
    (λ i p q. sym (get_or_append_left bs more 0 i p))

pub no_char-append : (bs more : List ℕ) (k : ℕ) → StartsWithNoChar bs → utf8_error_len bs ≡ Some k
    → StartsWithNoChar (bs ++ more)
no_char-append bs more k none e c rest s is = ⊎_elim
    (λ (short : length bs < length (encode_utf8 c)).
    let n = length bs in
    let front : bs ≡ take n (encode_utf8 c) = sym (take_at bs more n refl) ∙ ap (take n) is
    ∙ take-append-le n (encode_utf8 c) rest (omega arith) in
    let split : bs ++ drop n (encode_utf8 c) ≡ encode_utf8 c = ap (λ l. l ++ drop n (encode_utf8 c)) front
    ∙ take-append-drop n (encode_utf8 c) in
    IsIncomplete-faultless bs k e (c, drop n (encode_utf8 c), s, omega (arith, length-drop n (encode_utf8 c)), split))
    (λ (long : length (encode_utf8 c) ≤ length bs).
    let n = length (encode_utf8 c) in
    let front : take n bs ≡ encode_utf8 c = sym (take-append-le n bs more long) ∙ ap (take n) is
    ∙ take_at (encode_utf8 c) rest n refl in
    none c (drop n bs) s (sym (take-append-drop n bs) ∙ ap (λ l. l ++ drop n bs) front))
    (cases_lt (length bs) (length (encode_utf8 c)))
