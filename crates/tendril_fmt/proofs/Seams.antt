-- A lead surrogate at the end of bytes, and a trail at their beginning.
use Rattle.std.proofs.Common.{◌≡◌, ◌≢◌, ℕ, ◌+◌, ◌-◌, ◌<◌, ◌≤◌, List, [], ◌++◌, length, take, drop, refl, sym, ap, ap₂}
use Rattle.std.proofs.Common.{subst, ◌∙◌, arith, append_assoc, append-nil, length-append, take_at, drop_at, take_all}
use Rattle.std.proofs.Common.{take-append-drop, length-drop}
use Rattle.std.specs.Char.{encode_utf8}
use Rattle.std.specs.Char.Utf16.{surrogate_pair_char}
use Rattle.std.proofs.lemmas.Str.{encode_same}
use Rattle.tendril_fmt.specs.declared.futf.Meaning.{Meaning}
use Rattle.tendril_fmt.specs.declared.futf.Meaning.TheVariants.{LeadSurrogate, TrailSurrogate}
use Rattle.tendril_fmt.specs.CodePoints.{EncodeNone, Encode}
use Rattle.tendril_fmt.specs.declared.fmt.fixup.Fixup.{Fixup}
use Rattle.tendril_fmt.specs.Joins.{joined_by}
use Rattle.tendril_fmt.specs.CodePoints.{EndsWithCodePoint, BeginsWithCodePoint}
use Rattle.tendril_fmt.specs.Proved.Encodings.{encode_utf8_3, encode_utf8_4}
use Rattle.tendril_fmt.proofs.Unique.{one_meaning}
use Rattle.tendril_fmt.proofs.Wtf8Joins.{NoneMeet}

-- a surrogate has three bytes
pub surrogate_len : (u : ℕ) → 0xD800 ≤ u → u < 0xE000 → length (encode_utf8 u) ≡ 3
surrogate_len u low high = ap length (encode_utf8_3 u (omega arith) (omega arith))

lead_len : (i : ℕ) → i < 0x400 → length (encode_utf8 (0xD800 + i)) ≡ 3
lead_len i small = surrogate_len (0xD800 + i) (omega arith) (omega arith)

trail_len : (i : ℕ) → i < 0x400 → length (encode_utf8 (0xDC00 + i)) ≡ 3
trail_len i small = surrogate_len (0xDC00 + i) (omega arith) (omega arith)

same_code : (c d : ℕ) → encode_utf8 c ≡ encode_utf8 d → c ≡ d
same_code c d e = (encode_same c d [] [] (ap (λ l. l ++ []) e)).0

-- the last three bytes, if a lead ends them
last_three : (bytes : List ℕ) (start i : ℕ) → start + 3 ≡ length bytes → i < 0x400
    → EndsWithCodePoint bytes (0xD800 + i) → drop start bytes ≡ encode_utf8 (0xD800 + i)
last_three bytes start i long small h =
    let place : start ≡ length h.0 =
    omega (arith, ap length h.1, length-append h.0 (encode_utf8 (0xD800 + i)), lead_len i small) in
    ap₂ drop place h.1 ∙ drop_at h.0 (encode_utf8 (0xD800 + i)) (length h.0) refl

-- no lead ends fewer than three bytes, or bytes of which the last three encode no code point, or one that isn't a lead
pub no_lead_short : (bytes : List ℕ) → length bytes < 3 → (i : ℕ) → i < 0x400 → ¬ (EndsWithCodePoint bytes (0xD800 + i))
no_lead_short bytes short i small h =
    omega (arith, ap length h.1, length-append h.0 (encode_utf8 (0xD800 + i)), lead_len i small)

pub no_lead_encoded : (bytes : List ℕ) (start : ℕ) → start + 3 ≡ length bytes → EncodeNone (drop start bytes)
    → (i : ℕ) → i < 0x400 → ¬ (EndsWithCodePoint bytes (0xD800 + i))
no_lead_encoded bytes start long none i small h =
    none (0xD800 + i) (omega arith) (last_three bytes start i long small h)

pub no_lead_other : (bytes : List ℕ) (start : ℕ) (m : Meaning) → start + 3 ≡ length bytes
    → Encode (drop start bytes) m → ((i : ℕ) → m ≢ LeadSurrogate i)
    → (i : ℕ) → i < 0x400 → ¬ (EndsWithCodePoint bytes (0xD800 + i))
no_lead_other bytes start m long is other i small h =
    let same = same_code is.0 (0xD800 + i) (sym is.2 ∙ last_three bytes start i long small h) in
    other i (one_meaning is.0 m (LeadSurrogate i) is.3 (small, same))

-- a lead that the last three bytes encode ends the bytes
pub lead_found : (bytes : List ℕ) (start i : ℕ) → Encode (drop start bytes) (LeadSurrogate i)
    → (i < 0x400) × EndsWithCodePoint bytes (0xD800 + i)
lead_found bytes start i is = (
  is.3.0,
  (
    take start bytes,
    sym (take-append-drop start bytes)
        ∙ ap (λ l. take start bytes ++ l) (is.2 ∙ ap encode_utf8 is.3.1),
  ),
)

-- the first three bytes, if a trail begins them
first_three : (bytes : List ℕ) (i : ℕ) → i < 0x400 → BeginsWithCodePoint bytes (0xDC00 + i) → take 3 bytes
    ≡ encode_utf8 (0xDC00 + i)
first_three bytes i small h = ap (take 3) h.1 ∙ take_at (encode_utf8 (0xDC00 + i)) h.0 3 (trail_len i small)

-- no trail begins fewer than three bytes, or bytes of which the first three encode no code point, or one that isn't a
-- trail
pub no_trail_short : (bytes : List ℕ) → length bytes < 3 → (i : ℕ) → i < 0x400
    → ¬ (BeginsWithCodePoint bytes (0xDC00 + i))
no_trail_short bytes short i small h =
    omega (arith, ap length h.1, length-append (encode_utf8 (0xDC00 + i)) h.0, trail_len i small)

pub no_trail_encoded : (bytes : List ℕ) → EncodeNone (take 3 bytes) → (i : ℕ) → i < 0x400
    → ¬ (BeginsWithCodePoint bytes (0xDC00 + i))
no_trail_encoded bytes none i small h = none (0xDC00 + i) (omega arith) (first_three bytes i small h)

pub no_trail_other : (bytes : List ℕ) (m : Meaning) → Encode (take 3 bytes) m → ((i : ℕ) → m ≢ TrailSurrogate i)
    → (i : ℕ) → i < 0x400 → ¬ (BeginsWithCodePoint bytes (0xDC00 + i))
no_trail_other bytes m is other i small h =
    let same = same_code is.0 (0xDC00 + i) (sym is.2 ∙ first_three bytes i small h) in
    other i (one_meaning is.0 m (TrailSurrogate i) is.3 (small, same))

-- a trail that the first three bytes encode begins the bytes
pub trail_found : (bytes : List ℕ) (i : ℕ) → Encode (take 3 bytes) (TrailSurrogate i)
    → (i < 0x400) × BeginsWithCodePoint bytes (0xDC00 + i)
trail_found bytes i is = (
  is.3.0,
  (drop 3 bytes, sym (take-append-drop 3 bytes) ∙ ap (λ l. l ++ drop 3 bytes) (is.2 ∙ ap encode_utf8 is.3.1)),
)

-- a suffix of bytes, as a slice
pub rest_slice : (bytes : List ℕ) (start : ℕ) → take (length bytes - start) (drop start bytes) ≡ drop start bytes
rest_slice bytes start = take_all (length bytes - start) (drop start bytes) (omega (arith, length-drop start bytes))

pair_len : (u v : ℕ) → length (encode_utf8 (surrogate_pair_char u v)) ≡ 4
pair_len u v = ap length (encode_utf8_4 (surrogate_pair_char u v) (omega arith))

-- both sides without the surrogates that meet, with the bytes of their character between
pub joined_pair : (f : Fixup) (l r front rest : List ℕ) (u v : ℕ) → 0xD800 ≤ u → u < 0xE000 → 0xD800 ≤ v → v < 0xE000
    → f.drop_left ≡ 3 → f.drop_right ≡ 3 → f.insert_len ≡ 4 → f.insert_bytes ≡ encode_utf8 (surrogate_pair_char u v)
    → l ≡ front ++ encode_utf8 u → r ≡ encode_utf8 v ++ rest
    → front ++ (encode_utf8 (surrogate_pair_char u v) ++ rest) ≡ joined_by f l r
joined_pair f l r front rest u v a b c d drop_l drop_r ins_len ins_bytes e g =
    let pair = encode_utf8 (surrogate_pair_char u v) in
    let long : length l - f.drop_left ≡ length front =
    omega (arith, drop_l, ap length e, length-append front (encode_utf8 u), surrogate_len u a b) in
    let left : take (length l - f.drop_left) l ≡ front = ap₂ take long e
    ∙ take_at front (encode_utf8 u) (length front) refl in
    let right : drop f.drop_right r ≡ rest = ap₂ drop drop_r g ∙ drop_at (encode_utf8 v) rest 3 (surrogate_len v c d) in
    let between : take f.insert_len f.insert_bytes ≡ pair = ap₂ take ins_len ins_bytes
    ∙ take_all 4 pair (omega (arith, pair_len u v)) in
    sym (append_assoc front pair rest) ∙ ap₂ (λ x y. x ++ y) (ap₂ (λ x y. x ++ y) (sym left) (sym between)) (sym right)

-- a fixup that drops and inserts nothing
pub joined_nothing : (f : Fixup) (l r : List ℕ) → f.drop_left ≡ 0 → f.drop_right ≡ 0 → f.insert_len ≡ 0
    → l ++ r ≡ joined_by f l r
joined_nothing f l r drop_l drop_r ins_len =
    let left : take (length l - f.drop_left) l ≡ l = take_all (length l - f.drop_left) l (omega arith) in
    let right : drop f.drop_right r ≡ r = ap (λ k. drop k r) drop_r in
    let between : take f.insert_len f.insert_bytes ≡ [] = ap (λ k. take k f.insert_bytes) ins_len in
    sym (ap₂ (λ x y. x ++ y) (ap₂ (λ x y. x ++ y) left between ∙ append-nil l) right)

-- bytes that a surrogate ends or begins are three or more
pub ends_long : (bytes : List ℕ) (u : ℕ) → 0xD800 ≤ u → u < 0xE000 → EndsWithCodePoint bytes u → 3 ≤ length bytes
ends_long bytes u a b h = omega (arith, ap length h.1, length-append h.0 (encode_utf8 u), surrogate_len u a b)

pub begins_long : (bytes : List ℕ) (v : ℕ) → 0xD800 ≤ v → v < 0xE000 → BeginsWithCodePoint bytes v → 3 ≤ length bytes
begins_long bytes v a b h = omega (arith, ap length h.1, length-append (encode_utf8 v) h.0, surrogate_len v a b)

-- if no lead ends the left, or no trail begins the right, no surrogates meet
pub none_meet_left : (l r : List ℕ) → ((i : ℕ) → i < 0x400 → ¬ (EndsWithCodePoint l (0xD800 + i))) → NoneMeet l r
none_meet_left l r none u v a b c d h k =
    let same : u ≡ 0xD800 + (u - 0xD800) = omega arith in
    none (u - 0xD800) (omega arith) (subst (EndsWithCodePoint l) same h)

pub none_meet_right : (l r : List ℕ) → ((i : ℕ) → i < 0x400 → ¬ (BeginsWithCodePoint r (0xDC00 + i))) → NoneMeet l r
none_meet_right l r none u v a b c d h k =
    let same : v ≡ 0xDC00 + (v - 0xDC00) = omega arith in
    none (v - 0xDC00) (omega arith) (subst (BeginsWithCodePoint r) same k)
