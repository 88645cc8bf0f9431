-- Decodings of a stream that comes in pieces, and UTF-8 as one.
use Rattle.std.specs.Prelude.{◌≡◌, ℕ, List, [], ◌++◌}
use Rattle.tendril_errors.specs.declared.refusal.Refusal.{Refusal}
use Rattle.tendril_lossy.specs.Lossy.{Told, due, due_open, kept}
use Rattle.tendril_stream.specs.Sinks.{Sent, IsSent, IsSentOf}
use Rattle.tendril_text.specs.Decoding.{LongPieceMay}
use Rattle.tendril_text.specs.Texts.{Text}

-- A decoding. What bytes output depends on the state that the bytes before them led to, and while the stream may
-- continue; the end of the stream may output more. `decoded` is the output of a whole stream.
pub record Decoding (K : Type 0) : Type 1 where
  pub start : K
  pub out : K → List ℕ → List Told
  pub after : K → List ℕ → K
  pub ends : K → List Told
  pub decoded : List ℕ → List Told
  -- which calls a decoder may make of its sink for a piece, after a state
  pub fit : K → Text → Sent → Type 0
  -- which errors it may return of itself for a piece, while this list is still to be sent
  pub may : Text → List Told → Refusal → Type 0

-- the output of a stream doesn't depend on where it is cut, and only texts in UTF-8 that aren't empty are sent
pub record IsDecoding {K : Type 0} (decoding : Decoding K) : Type 0 where
  pub out_none : decoding.out decoding.start [] ≡ []
  pub after_none : decoding.after decoding.start [] ≡ decoding.start
  pub out_both : (k : K) (a b : List ℕ) → decoding.out k (a ++ b)
      ≡ decoding.out k a ++ decoding.out (decoding.after k a) b
  pub after_both : (k : K) (a b : List ℕ) → decoding.after k (a ++ b) ≡ decoding.after (decoding.after k a) b
  pub whole : (b : List ℕ) → decoding.decoded b ≡ decoding.out decoding.start b ++ decoding.ends
      (decoding.after decoding.start b)
  pub sends : (k : K) (piece : Text) (e : Sent) → decoding.fit k piece e → IsSent e

-- the error that the decoder of UTF-8 may return of itself: a text of a long piece can't share its block
abbrev pub PieceMay : Text → List Told → Refusal → Type 0
PieceMay piece told r = LongPieceMay piece.bytes r

-- UTF-8. The state is the list of kept bytes, those of a character that the pieces so far cut off.
abbrev pub utf8 : Decoding (List ℕ)
utf8 = record {
  start = [];
  out = λ k p. due_open (k ++ p);
  after = λ k p. kept (k ++ p);
  ends = due;
  decoded = due;
  fit = λ k piece. IsSentOf piece;
  may = PieceMay;
}
