-- What a decoder keeps at the start of a stream, by its encoding and what becomes of a byte order mark.
use Rattle.std.specs.Prelude.{Option, Some, None}
use Rattle.tendril_encoding.specs.First.{first_chosen}
use Rattle.tendril_encoding.specs.Marks.{marks_for}
use Rattle.tendril_encoding.specs.States.{decided, sniffing_for}
use Rattle.tendril_encoding.specs.declared.kept.State.{State}
use Rattle.tendril_encoding.specs.declared.known.Known.{Known}
use Rattle.tendril_encoding.specs.declared.mark.BomHandling.{BomHandling}
use Rattle.tendril_encoding.specs.declared.mark.BomHandling.TheVariants.{Sniff, Keep}
use Rattle.tendril_encoding.specs.declared.mark.Marks.{Marks}
use Rattle.tendril_encoding.specs.declared.mark.Seen.TheVariants.{Nothing}
use Rattle.tendril_labels.specs.declared.encoding.Encoding.{Encoding}
use Rattle.tendril_labels.specs.declared.encoding.Encoding.TheVariants.{Utf8}

abbrev pub start_in : Option Marks → Known → State
start_in None k = decided k
start_in (Some marks) k = sniffing_for marks k Nothing

-- the state at the start
abbrev pub start_for : Encoding → BomHandling → State
start_for encoding bom =
    start_in (marks_for encoding bom) (record { encoding = encoding; chosen = first_chosen encoding })

-- the state at the start, if the mark of UTF-8, UTF-16LE or UTF-16BE decides the encoding of a stream that isn't UTF-8
abbrev pub start_encoding : Encoding → State
start_encoding Utf8 = start_for Utf8 Keep
start_encoding other = start_for other Sniff
