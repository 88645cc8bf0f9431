-- UTF-8 doesn't depend on where a stream is cut.
use Rattle.std.proofs.Common.{◌++◌, flat_map, sym, ap, ◌∙◌, append_assoc}
use Rattle.tendril_lossy.proofs.Lossy.{lossy-nil}
use Rattle.tendril_lossy.proofs.Streams.{due_open-append, kept-append, due-end}
use Rattle.tendril_lossy.specs.Lossy.{due_open, kept, closed_of, cut_bytes}
use Rattle.tendril_stream.specs.Decodings.{IsDecoding, utf8}
use Rattle.tendril_stream.specs.Sinks.{Sent, Piece, Fault, IsSent, IsSentOf}
use Rattle.tendril_text.specs.Texts.{Text}

is_sent : (piece : Text) (e : Sent) → IsSentOf piece e → IsSent e
is_sent piece (Piece t) h = (h.some, h.text)
is_sent piece (Fault words) h = tt

pub is_utf8 : IsDecoding utf8
is_utf8 = record {
  out_none = ap (flat_map closed_of) lossy-nil;
  after_none = ap cut_bytes lossy-nil;
  out_both = λ k a b. ap due_open (sym (append_assoc k a b)) ∙ due_open-append (k ++ a) b;
  after_both = λ k a b. ap kept (sym (append_assoc k a b)) ∙ kept-append (k ++ a) b;
  whole = due-end;
  sends = λ k. is_sent;
}
