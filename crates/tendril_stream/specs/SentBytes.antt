-- The bytes of what is sent to a sink.
use Rattle.std.proofs.Common.{◌≡◌, ℕ, List, [], refl, ap, ◌∙◌}
use Rattle.std.proofs.lemmas.Str.{encodes-chars}
use Rattle.std.specs.Prelude.{chars, encode_utf8_all}
use Rattle.tendril_lossy.proofs.Told.{characters-map}
use Rattle.tendril_lossy.specs.Lossy.{characters}
use Rattle.tendril_stream.specs.Sinks.{Sent, Piece, Fault, IsSent, told_of}

-- the bytes that a call sends: those of a text, none for an error
abbrev pub sent_bytes : Sent → List ℕ
sent_bytes (Piece t) = t.bytes
sent_bytes (Fault words) = []

-- the characters that a call sends have its bytes as their UTF-8
pub told_bytes : (e : Sent) → IsSent e → encode_utf8_all (characters (told_of e)) ≡ sent_bytes e
told_bytes (Piece t) is = ap encode_utf8_all (characters-map (chars t.bytes)) ∙ encodes-chars t.bytes is.1
told_bytes (Fault words) is = refl
