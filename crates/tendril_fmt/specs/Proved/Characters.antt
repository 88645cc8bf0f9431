-- The laws of `CharFormat`, in formats of one byte per character and in UTF-8.
use Rattle.std.proofs.Common.{
  ◌≡◌,
  ℕ,
  zero,
  suc,
  ◌-◌,
  ◌<◌,
  ◌≤◌,
  true,
  ◌&&◌,
  List,
  [],
  ◌∷◌,
  ◌++◌,
  length,
  take,
  drop,
  replicate,
  slice_get,
  Some,
  IsAscii,
  refl,
  sym,
  ap,
  ap₂,
  subst,
  ◌∙◌,
  arith,
  length-take-le,
}
use Rattle.std.specs.Str.{IsUtf8, chars, encode_utf8_all, all_scalars}
use Rattle.std.specs.Char.{encode_utf8, IsScalar}
use Rattle.std.proofs.Math.Seq.{take-append_seam, drop-append_seam}
use Rattle.std.proofs.lemmas.List.{take-append-drop, length-append}
use Rattle.std.proofs.lemmas.Bool.{and_parts}
use Rattle.std.specs.List.{All, AllByRecursion}
use Rattle.std.proofs.lemmas.List.Elements.{All-from_recursion}
use Rattle.std.proofs.lemmas.Str.{
  encodes-chars,
  scalars-chars,
  chars-encodes,
  length-encode,
  len_utf8_bounds,
  encode_ascii,
  cons_from_encodes,
  IsUtf8-encode,
  IsUtf8-past_char,
  chars_past_char,
  IsAscii-take,
  IsAscii-drop,
}
use Rattle.tendril_fmt.specs.Bytes.{AreBytes}
use Rattle.tendril_fmt.specs.Proved.Bytes.{AreBytes-nil, AreBytes-cons, AreBytes-front, AreBytes-end}
use Rattle.tendril_fmt.specs.Chars.{encodings, one_byte, IsFirstChar, AreTextsOf, ArePadded, padded}

-- The four bytes of an `Encoded`

-- padding the used bytes gives all four
pub padded-meant : (bytes : List ℕ) (len : ℕ) → ArePadded bytes len → padded (take len bytes) ≡ bytes
padded-meant bytes len h =
    let n : length (take len bytes) ≡ len = length-take-le len bytes h.within in
    ap (λ k. take len bytes ++ replicate (4 - k) 0) n ∙ ap (λ r. take len bytes ++ r)
    (sym h.zeros) ∙ take-append-drop len bytes

-- the number of the used bytes
pub length-meant : (bytes : List ℕ) (len : ℕ) → ArePadded bytes len → length (take len bytes) ≡ len
length-meant bytes len h = length-take-le len bytes h.within

-- Any format

-- bytes that are split after the encoding of a character begin with that character
pub IsFirstChar-from_split : (valid : List ℕ → Type 0) (chars : List ℕ → List ℕ) (encodes : ℕ → Type 0)
    (encoding : ℕ → List ℕ) (bytes rest : List ℕ) (c n : ℕ)
    → bytes ≡ encoding c ++ rest → n ≡ length (encoding c) → encodes c → valid (encoding c) → valid rest
    → chars bytes ≡ c ∷ chars rest
    → IsFirstChar valid chars encodes encoding bytes c n
IsFirstChar-from_split valid chars encodes encoding bytes rest c n split len encoded one others characters =
    let front : take n bytes ≡ encoding c =
    ap (λ k. take k bytes) len ∙ ap (take (length (encoding c))) split ∙ take-append_seam (encoding c) rest in
    let after : drop n bytes ≡ rest =
    ap (λ k. drop k bytes) len ∙ ap (drop (length (encoding c))) split ∙ drop-append_seam (encoding c) rest in
    let within : n ≤ length bytes = omega (arith, ap length split, length-append (encoding c) rest) in
    record {
      encoded = encoded;
      len = len;
      within = within;
      front = front;
      characters = characters ∙ ap (λ r. c ∷ chars r) (sym after);
      front_valid = subst valid (sym front) one;
      rest_valid = subst valid (sym after) others;
    }

-- One byte per character

-- the encodings of characters are those characters
pub encodings-one_byte : (cs : List ℕ) → encodings one_byte cs ≡ cs
encodings-one_byte [] = refl
encodings-one_byte (c ∷ cs) = ap (λ l. c ∷ l) (encodings-one_byte cs)

-- if each byte is a character, valid lists are the texts of their characters
pub AreTextsOf-one_byte : (valid : List ℕ → Type 0) (cs ds : List ℕ) → valid cs → valid ds
    → AreTextsOf valid (λ bytes. bytes) one_byte cs ds
AreTextsOf-one_byte valid cs ds v w = record {
  front_valid = subst valid (sym (encodings-one_byte cs)) v;
  rest_valid = subst valid (sym (encodings-one_byte ds)) w;
  front_chars = encodings-one_byte cs;
  rest_chars = encodings-one_byte ds;
}

-- slices of ASCII are ASCII
IsAscii-left : (cs ds : List ℕ) → IsAscii (cs ++ ds) → IsAscii cs
IsAscii-left cs ds h = subst IsAscii (take-append_seam cs ds) (IsAscii-take (cs ++ ds) (length cs) h)

IsAscii-right : (cs ds : List ℕ) → IsAscii (cs ++ ds) → IsAscii ds
IsAscii-right cs ds h = subst IsAscii (drop-append_seam cs ds) (IsAscii-drop (cs ++ ds) (length cs) h)

pub AreTextsOf-ascii : (bytes cs ds : List ℕ) → IsAscii bytes → bytes ≡ cs ++ ds
    → AreTextsOf IsAscii (λ bytes. bytes) one_byte cs ds
AreTextsOf-ascii bytes cs ds v e =
    let w = subst IsAscii e v in
    AreTextsOf-one_byte IsAscii cs ds (IsAscii-left cs ds w) (IsAscii-right cs ds w)

-- a byte below 128 is ASCII
pub IsAscii-one_byte : (c : ℕ) → c < 128 → IsAscii (one_byte c)
IsAscii-one_byte c h zero = h
IsAscii-one_byte c h (suc i) = omega arith

-- two slices that any bytes are split into are the texts of their characters
pub AreTextsOf-latin1 : (bytes cs ds : List ℕ) → AreBytes bytes → bytes ≡ cs ++ ds
    → AreTextsOf AreBytes (λ bytes. bytes) one_byte cs ds
AreTextsOf-latin1 bytes cs ds v e =
    AreTextsOf-one_byte AreBytes cs ds (AreBytes-front cs bytes v (ds, e)) (AreBytes-end ds bytes v (cs, e))

pub AreBytes-one_byte : (c : ℕ) → c < 256 → AreBytes (one_byte c)
AreBytes-one_byte c h = AreBytes-cons c [] h AreBytes-nil

-- UTF-8

-- the encodings of characters, as std defines them
pub encodings-encode_utf8 : (cs : List ℕ) → encodings encode_utf8 cs ≡ encode_utf8_all cs
encodings-encode_utf8 [] = refl
encodings-encode_utf8 (c ∷ cs) = ap (λ l. encode_utf8 c ++ l) (encodings-encode_utf8 cs)

-- a text is the encodings of its characters
pub encodings-chars : (bytes : List ℕ) → IsUtf8 bytes → bytes ≡ encodings encode_utf8 (chars bytes)
encodings-chars bytes v = sym (encodings-encode_utf8 (chars bytes) ∙ encodes-chars bytes v)

AllByRecursion-scalars : (cs : List ℕ) → all_scalars cs ≡ true → AllByRecursion IsScalar cs
AllByRecursion-scalars [] h = tt
AllByRecursion-scalars (c ∷ cs) h = let b = and_parts _ _ h in (b.0, AllByRecursion-scalars cs b.1)

-- its characters are scalars
pub All-scalars : (bytes : List ℕ) → IsUtf8 bytes → All IsScalar (chars bytes)
All-scalars bytes v =
    All-from_recursion IsScalar (chars bytes) (AllByRecursion-scalars (chars bytes) (scalars-chars bytes v))

all_scalars-parts : (cs ds : List ℕ) → all_scalars (cs ++ ds) ≡ true → (all_scalars cs ≡ true) × (all_scalars ds ≡ true)
all_scalars-parts [] ds h = (refl, h)
all_scalars-parts (c ∷ cs) ds h =
    let b = and_parts _ _ h in
    let k = all_scalars-parts cs ds b.1 in
    (ap₂ (λ x y. x && y) b.0 k.0, k.1)

pub AreTextsOf-utf8 : (bytes cs ds : List ℕ) → IsUtf8 bytes → chars bytes ≡ cs ++ ds
    → AreTextsOf IsUtf8 chars encode_utf8 cs ds
AreTextsOf-utf8 bytes cs ds v e =
    let s = all_scalars-parts cs ds (ap all_scalars (sym e) ∙ scalars-chars bytes v) in
    record {
      front_valid = (cs, (s.0, sym (encodings-encode_utf8 cs)));
      rest_valid = (ds, (s.1, sym (encodings-encode_utf8 ds)));
      front_chars = ap chars (encodings-encode_utf8 cs) ∙ chars-encodes cs s.0;
      rest_chars = ap chars (encodings-encode_utf8 ds) ∙ chars-encodes ds s.1;
    }

pub encode_utf8-bounds : (c : ℕ) → (1 ≤ length (encode_utf8 c)) × (length (encode_utf8 c) ≤ 4)
encode_utf8-bounds c =
    let k = len_utf8_bounds c in (omega (arith, length-encode c, k.0), omega (arith, length-encode c, k.1))

-- a text that begins with the encoding of c begins with the character c
pub IsFirstChar-utf8 : (bytes rest : List ℕ) (c n : ℕ) → IsUtf8 bytes → bytes ≡ encode_utf8 c ++ rest
    → n ≡ length (encode_utf8 c) → IsFirstChar IsUtf8 chars IsScalar encode_utf8 bytes c n
IsFirstChar-utf8 bytes rest c n v split len =
    let k = cons_from_encodes v.0 rest c (v.1.1 ∙ split) in
    let s : IsScalar c = (and_parts _ _ (ap all_scalars (sym k.1) ∙ v.1.0)).0 in
    IsFirstChar-from_split IsUtf8 chars IsScalar encode_utf8 bytes rest c n split len s (IsUtf8-encode c s)
    (IsUtf8-past_char bytes rest c v split) (chars_past_char bytes rest c v split)

-- a text that begins with the ASCII byte c begins with the character c
pub IsFirstChar-utf8_ascii : (bytes : List ℕ) (c : ℕ) → IsUtf8 bytes → Some c ≡ slice_get bytes 0 → c < 128
    → IsFirstChar IsUtf8 chars IsScalar encode_utf8 bytes c 1
IsFirstChar-utf8_ascii [] c v first h = cc
IsFirstChar-utf8_ascii (b ∷ bytes) c v first h =
    let e : b ∷ bytes ≡ encode_utf8 c ++ bytes =
    (let same : b ≡ c = cc in ap (λ d. d ∷ bytes) same ∙ ap (λ l. l ++ bytes) (sym (encode_ascii c h))) in
    IsFirstChar-utf8 (b ∷ bytes) bytes c 1 v e (sym (ap length (encode_ascii c h)))
