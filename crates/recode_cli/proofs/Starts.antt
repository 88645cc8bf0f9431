-- What a decoder keeps at the start of a stream: no bytes.
use Rattle.std.proofs.Common.{Option, None, Some, refl}
use Rattle.tendril_encoding.specs.Choices.{start_for, start_in}
use Rattle.tendril_encoding.specs.First.{first_chosen}
use Rattle.tendril_encoding.specs.Known.{IsStartKnown}
use Rattle.tendril_encoding.specs.Marks.{marks_for}
use Rattle.tendril_encoding.specs.StateLaws.{IsStreamStart, is_decoding_from}
use Rattle.tendril_encoding.specs.States.{any}
use Rattle.tendril_encoding.specs.declared.known.Known.{Known}
use Rattle.tendril_encoding.specs.declared.mark.BomHandling.{BomHandling}
use Rattle.tendril_encoding.specs.declared.mark.Marks.{Marks}
use Rattle.tendril_labels.specs.declared.encoding.Encoding.{Encoding}
use Rattle.tendril_labels.specs.declared.encoding.Encoding.TheVariants.{Utf8}
use Rattle.tendril_transcode.specs.Transcodings.{BeginsStream}

first_starts : (e : Encoding) → IsStartKnown (first_chosen e)
first_starts Utf8 = refl
first_starts _ = tt

in_starts : (marks : Option Marks) (k : Known) → IsStartKnown k.chosen → IsStreamStart (start_in marks k)
in_starts None k h = h
in_starts (Some marks) k h = h

pub begins : (e : Encoding) (bom : BomHandling) → BeginsStream any (start_for e bom)
begins e bom =
    let h : IsStreamStart (start_for e bom) =
    in_starts (marks_for e bom) (record { encoding = e; chosen = first_chosen e }) (first_starts e) in
    let law = is_decoding_from (start_for e bom) h in
    record { out_none = law.out_none; after_none = law.after_none }
