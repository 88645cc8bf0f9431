-- Decoding in an encoding that a byte order mark may decide.
use Rattle.std.specs.Prelude.{◌≡◌, ◌<◌, ℕ, Bool, true, ◌&&◌, List, [], ◌∷◌, ◌++◌, length, Option, Some}
use Rattle.std.specs.Prelude.{None, IsAscii}
use Rattle.tendril_encoding.specs.First.{after_mark}
use Rattle.tendril_encoding.specs.Known.{FitsKnown, IsStartKnown, after_known, ends_known, keeps_nothing_known}
use Rattle.tendril_encoding.specs.Known.{out_known, passes_known}
use Rattle.tendril_encoding.specs.Marks.{seen_bytes, is_nothing, sniffed}
use Rattle.tendril_encoding.specs.Sends.{IsSentIn, MayFail}
use Rattle.tendril_encoding.specs.declared.kept.Sniffing.{Sniffing}
use Rattle.tendril_encoding.specs.declared.kept.State.{State}
use Rattle.tendril_encoding.specs.declared.known.Known.{Known}
use Rattle.tendril_encoding.specs.declared.known.Chosen.{Chosen}
use Rattle.tendril_encoding.specs.declared.mark.Mark.TheVariants.{OfUtf8}
use Rattle.tendril_encoding.specs.declared.mark.Marks.{Marks}
use Rattle.tendril_encoding.specs.declared.mark.Seen.{Seen}
use Rattle.tendril_encoding.specs.declared.mark.Sniffed.TheVariants.{Waits, Marked, Plain}
use Rattle.tendril_lossy.specs.Lossy.{Told}
use Rattle.tendril_stream.specs.Decodings.{Decoding}
use Rattle.tendril_stream.specs.Sinks.{Sent, Piece}
use Rattle.tendril_text.specs.Texts.{Text}

-- the state of a stream whose encoding is decided
abbrev pub decided : Known → State
decided k = record { known = k; sniffing = None }

abbrev pub sniffing_for : Marks → Known → Seen → State
sniffing_for marks k seen = record { known = k; sniffing = Some (record { marks = marks; seen = seen }) }

-- the same encoding, after more bytes
abbrev pub known_after : Known → List ℕ → Known
known_after k p = record { encoding = k.encoding; chosen = after_known k.chosen p }

-- While a mark is looked for: what bytes output after the bytes that were seen, and the state after them. Without a
-- mark the bytes that were seen are decoded too.
abbrev pub out_sniff : Marks → Known → Seen → List ℕ → List Told
out_sniff marks k seen [] = []
out_sniff marks k seen (b ∷ p) = elim (sniffed marks seen b) [
  | Waits more ↦ out_sniff marks k more p
  | Marked mark ↦ out_known (after_mark mark).chosen p
  | Plain ↦ out_known k.chosen (seen_bytes seen ++ (b ∷ p))
]

abbrev pub after_sniff : Marks → Known → Seen → List ℕ → State
after_sniff marks k seen [] = sniffing_for marks k seen
after_sniff marks k seen (b ∷ p) = elim (sniffed marks seen b) [
  | Waits more ↦ after_sniff marks k more p
  | Marked mark ↦ decided (known_after (after_mark mark) p)
  | Plain ↦ decided (known_after k (seen_bytes seen ++ (b ∷ p)))
]

abbrev pub out_state : Known → Option Sniffing → List ℕ → List Told
out_state k None p = out_known k.chosen p
out_state k (Some s) p = out_sniff s.marks k s.seen p

abbrev pub after_state : Known → Option Sniffing → List ℕ → State
after_state k None p = decided (known_after k p)
after_state k (Some s) p = after_sniff s.marks k s.seen p

-- the end of a stream: the bytes that were seen begin no mark
abbrev pub ends_state : Known → Option Sniffing → List Told
ends_state k None = ends_known k.chosen
ends_state k (Some s) =
    out_known k.chosen (seen_bytes s.seen) ++ ends_known (after_known k.chosen (seen_bytes s.seen))

-- whether a piece of ASCII is passed on as it is
abbrev pub passes_sniffing : Option Sniffing → Bool
passes_sniffing None = true
passes_sniffing (Some s) = is_nothing s.seen

abbrev pub passes : State → Bool
passes s = passes_sniffing s.sniffing && passes_known s.known.chosen

-- whether no byte of an unfinished sequence or mark is kept
abbrev pub keeps_nothing : State → Bool
keeps_nothing s = passes_sniffing s.sniffing && keeps_nothing_known s.known.chosen

-- what is sent of a piece: of one that is all ASCII, where that is passed on, the piece itself
abbrev pub FitState : State → Text → Sent → Type 0
FitState s piece e =
    IsSentIn piece e × (passes s ≡ true → 0 < length piece.bytes → IsAscii piece.bytes → e ≡ Piece piece)

-- the decoding that starts in a state
abbrev pub decoding_from : State → Decoding State
decoding_from start = record {
  start = start;
  out = λ s p. out_state s.known s.sniffing p;
  after = λ s p. after_state s.known s.sniffing p;
  ends = λ s. ends_state s.known s.sniffing;
  decoded = λ b. out_state start.known start.sniffing b
      ++ (let t = after_state start.known start.sniffing b in ends_state t.known t.sniffing);
  fit = FitState;
  may = MayFail;
}

-- Where a decoding starts changes nothing of what follows a state. This one starts in UTF-8.
abbrev pub any : Decoding State
any = decoding_from (decided (after_mark OfUtf8))

-- the states that occur: while a mark is looked for, nothing is decoded
abbrev pub FitsSniffing : Option Sniffing → Chosen → Type 0
FitsSniffing None c = Unit {0}
FitsSniffing (Some s) c = IsStartKnown c

abbrev pub FitsState : State → Type 0
FitsState s = FitsKnown s.known.chosen × FitsSniffing s.sniffing s.known.chosen
