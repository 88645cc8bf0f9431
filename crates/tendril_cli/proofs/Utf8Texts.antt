-- What the decoding of UTF-8 writes, in the words of lossy decoding.
use Rattle.std.proofs.Common.{◌≡◌, ℕ, List, [], Option, None, Some, ⊎_elim, ap, arith, inl, inr, subst, sym}
use Rattle.std.specs.Io.KnownBytes.{Consumes}
use Rattle.tendril_errors.specs.declared.refusal.Refusal.{Refusal}
use Rattle.tendril_lossy.proofs.Streams.{due-end}
use Rattle.tendril_lossy.specs.Lossy.{characters, due}
use Rattle.tendril_stream.specs.Decodings.{utf8}
use Rattle.tendril_stream.specs.Reads.{OneRead, given}
use Rattle.tendril_text.proofs.Decoding.{long-some}
use Rattle.tendril_text.specs.Decoding.{LongPieceMay}
use Rattle.tendril_transcode.specs.Transcodings.{TranscodeStops, TranscodesAll, WritesFrontOfText, WritesText}
use Rattle.tendril_transcode.specs.Transcodings.{chars_of_all}
use Rattle.tendril_cli.specs.Decodings.{DecodeStops, DecodesAll, WritesBefore}

all_is_due : (b : List ℕ) → chars_of_all utf8 [] b ≡ characters (due b)
all_is_due b = ap characters (sym (due-end b))

pub decodes_all : (input before after : Option (List ℕ)) → TranscodesAll utf8 [] input before after
    → DecodesAll input before after
decodes_all None before after h = tt
decodes_all (Some bytes) before after h = subst (λ cs. WritesText cs before after) (all_is_due bytes) h

pub decode_stops : (max_reads : ℕ) (these : List OneRead) (left before after : Option (List ℕ)) (r : Refusal)
    → TranscodeStops utf8 [] max_reads these left before after r → DecodeStops max_reads these left before after r
decode_stops max_reads these left before after r (inl h) = ⊎_elim
    (λ k. subst (DecodeStops max_reads these left before after) (sym k.0) (h.0, k.1, k.2))
    (λ k. ⊎_elim
    (λ m. subst (DecodeStops max_reads these left before after) (sym m.0) (h.0, m.1, m.2))
    (λ m. subst (DecodeStops max_reads these left before after) (sym m.0) (h.0, m.1, m.2)) k) h.1
decode_stops max_reads these left before after r (inr (inl h)) =
    subst (DecodeStops max_reads these left before after) (sym h.may.0) (
      record {
        read = h.read;
        piece = h.piece.bytes;
        is = h.is;
        long = subst (LongPieceMay h.piece.bytes) h.may.0 h.may;
        writes = h.writes;
      },
      h.on,
      h.within,
    )
decode_stops max_reads these left before after r (inr (inr (inl h))) =
    subst (DecodeStops max_reads these left before after) (sym h.0) (
      ⊎_elim (λ k. inl k) (λ k. inr (
        subst (λ cs. WritesFrontOfText cs before after) (all_is_due (given these)) k.0,
        k.1,
        k.2,
      )) h.1,
      h.2,
    )
decode_stops max_reads these left before after r (inr (inr (inr h))) = absurd (omega (arith, long-some [] r h.may))
