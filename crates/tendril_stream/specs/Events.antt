-- The events of a stream.
use Rattle.std.specs.Prelude.{List, map}
use Rattle.std.specs.Cow.{cow_str_bytes}
use Rattle.tendril_stream.specs.Sinks.{Sent, Piece, Fault}
use Rattle.tendril_stream.specs.declared.accumulate.Event.{Event}
use Rattle.tendril_stream.specs.declared.accumulate.Event.TheVariants.{Text, Error}

abbrev pub sent_of : {A B : _} → Event A B → Sent
sent_of (Text t) = Piece t
sent_of (Error words) = Fault (cow_str_bytes words)

-- the calls that stored these events
abbrev pub sent : {A B : _} → List (Event A B) → List Sent
sent events = map sent_of events
