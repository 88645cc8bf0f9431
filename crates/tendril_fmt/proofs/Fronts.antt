-- Bytes that begin with those of a code point.
use Rattle.std.proofs.Common.{◌≡◌, ℕ, ◌<◌, ◌≤◌, List, ◌++◌, length, take, drop, slice_index, sym, ap, ◌∙◌, arith}
use Rattle.std.proofs.Common.{take_at, take-append-drop, length-append, refl}
use Rattle.std.specs.Char.{encode_utf8}
use Rattle.std.proofs.lemmas.List.{get_or_append_left}
use Rattle.std.proofs.lemmas.Str.{length-encode, len_utf8_bounds}
use Rattle.tendril_fmt.specs.declared.futf.Meaning.{Meaning}
use Rattle.tendril_fmt.specs.CodePoints.{IsCodePoint, sequence_len, EncodeNone, Encode, SplitsIntoNone, SplitsInto}
use Rattle.tendril_fmt.specs.Proved.Cuts.{IsStart-encode}

-- a code point has at least one byte
pub encode_some : (c : ℕ) → 0 < length (encode_utf8 c)
encode_some c = omega (arith, length-encode c, (len_utf8_bounds c).0)

-- the first byte determines how many bytes the code point has
pub front_len : (bytes rest : List ℕ) (c : ℕ) → IsCodePoint c → bytes ≡ encode_utf8 c ++ rest
    → sequence_len (slice_index bytes 0) ≡ length (encode_utf8 c)
front_len bytes rest c top e =
    ap (λ l. sequence_len (slice_index l 0)) e
    ∙ ap sequence_len (get_or_append_left (encode_utf8 c) rest 0 0 (encode_some c)) ∙ (IsStart-encode c top).0

-- the code point has no more bytes than there are
pub front_fits : (bytes rest : List ℕ) (c : ℕ) → bytes ≡ encode_utf8 c ++ rest → length (encode_utf8 c) ≤ length bytes
front_fits bytes rest c e = omega (arith, ap length e, length-append (encode_utf8 c) rest)

-- bytes begin with no code point if there are none, or fewer than the first byte needs
pub none_in_empty : (bytes : List ℕ) → length bytes ≡ 0 → SplitsIntoNone bytes
none_in_empty bytes none c rest top e = let fits = front_fits bytes rest c e in let some = encode_some c in omega arith

pub none_in_short : (bytes : List ℕ) → length bytes < sequence_len (slice_index bytes 0) → SplitsIntoNone bytes
none_in_short bytes short c rest top e = let fits = front_fits bytes rest c e in
    let len = front_len bytes rest c top e in omega arith

-- bytes begin with no code point if the first byte needs n bytes, and the first n encode no code point
pub none_in_front : (bytes : List ℕ) (n : ℕ) → n ≡ sequence_len (slice_index bytes 0) → EncodeNone (take n bytes)
    → SplitsIntoNone bytes
none_in_front bytes n is none c rest top e =
    none c top (ap (λ k. take k bytes) (is ∙ front_len bytes rest c top e) ∙ ap (take (length (encode_utf8 c))) e
    ∙ take_at (encode_utf8 c) rest (length (encode_utf8 c)) refl)

-- bytes begin with the code point that the first n bytes encode, and the others follow
pub begin_front : (bytes : List ℕ) (n : ℕ) (m : Meaning) → Encode (take n bytes) m → SplitsInto bytes m (drop n bytes)
begin_front bytes n m h = (h.0, h.1, sym (take-append-drop n bytes) ∙ ap (λ l. l ++ drop n bytes) h.2, h.3)
