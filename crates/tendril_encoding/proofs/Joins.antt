-- A sink that joins what it is sent.
use Rattle.std.proofs.Common.{◌≡◌, List, ◌++◌}
use Rattle.std.specs.Prelude.{◌||◌, encode_utf8_all}
use Rattle.tendril_encoding.specs.HasMarks.{is_error, whole_on}
use Rattle.tendril_encoding.specs.declared.whole.Whole.{Whole}
use Rattle.tendril_lossy.specs.Lossy.{Told, characters, has_marks}
use Rattle.tendril_stream.specs.Compositions.{FollowsCalls}
use Rattle.tendril_stream.specs.SentBytes.{sent_bytes}
use Rattle.tendril_stream.specs.Sinks.{Sent}

abbrev pub takes : Whole → Sent → Whole → Type 0
takes a e b = (b.text.bytes ≡ a.text.bytes ++ sent_bytes e) × (b.malformed ≡ (a.malformed || is_error e))

abbrev pub after : Whole → List Told → Type 0
after a t = (a.text.bytes ≡ encode_utf8_all (characters t)) × (a.malformed ≡ has_marks t)

pub goes_on : FollowsCalls takes after
goes_on t a e b is h c = whole_on a.text.bytes b.text.bytes a.malformed b.malformed e t is h.0 h.1 c.0 c.1
