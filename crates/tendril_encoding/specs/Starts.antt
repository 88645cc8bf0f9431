-- What is looked for at the start of a piece: a byte order mark.
use Rattle.std.specs.Prelude.{◌≡◌, ◌≤◌, ℕ, List, [], ◌++◌, length, drop, Option, Some, None, IsAscii}
use Rattle.tendril_encoding.specs.First.{after_mark}
use Rattle.tendril_encoding.specs.Known.{out_known}
use Rattle.tendril_encoding.specs.Marks.{seen_bytes}
use Rattle.tendril_encoding.specs.Sends.{FeedsNew}
use Rattle.tendril_encoding.specs.States.{after_sniff, decided, known_after, out_sniff, sniffing_for}
use Rattle.tendril_encoding.specs.declared.kept.Sniffing.{Sniffing}
use Rattle.tendril_encoding.specs.declared.known.Known.{Known}
use Rattle.tendril_encoding.specs.declared.mark.Marks.{Marks}
use Rattle.tendril_encoding.specs.declared.mark.Seen.{Seen}
use Rattle.tendril_encoding.specs.declared.mark.Seen.TheVariants.{Nothing}
use Rattle.tendril_encoding.specs.declared.search.Found.{Found}
use Rattle.tendril_encoding.specs.declared.search.Found.TheVariants.{Waits, Marked, Plain}
use Rattle.tendril_lossy.specs.Lossy.{Told}
use Rattle.tendril_stream.specs.Sinks.{Sent}
use Rattle.tendril_text.specs.Decoding.{IsRest}
use Rattle.tendril_text.specs.Texts.{Text}

-- bytes after those that were seen, whatever the encoding is without a mark: they end within a mark, a mark ends after
-- n of them, or they begin none
abbrev pub Finds : Marks → Seen → List ℕ → Found → Type 0
Finds marks seen bytes (Waits more) = (k : Known)
    → (out_sniff marks k seen bytes ≡ []) × (after_sniff marks k seen bytes ≡ sniffing_for marks k more)
Finds marks seen bytes (Marked mark n) =
    (n ≤ length bytes) × (seen ≡ Nothing → IsAscii bytes → ⊥)
    × ((k : Known) → (out_sniff marks k seen bytes ≡ out_known (after_mark mark).chosen (drop n bytes))
    × (after_sniff marks k seen bytes ≡ decided (known_after (after_mark mark) (drop n bytes))))
Finds marks seen bytes Plain = (k : Known)
    → (out_sniff marks k seen bytes ≡ out_known k.chosen (seen_bytes seen ++ bytes))
    × (after_sniff marks k seen bytes ≡ decided (known_after k (seen_bytes seen ++ bytes)))

-- What `begin` does with a piece: it ends within a mark and nothing is sent; or the encoding is decided, what was seen
-- before is sent if it is no mark, and what follows a mark is left.
abbrev pub Begins : {S : Type 0} → (S → Sent → S → Type 0) → S → Known → Sniffing → Text → Option Sniffing → S → Known
    → Text → Type 0
Begins takes old k s piece (Some more) new next rest =
    (new ≡ old) × (next ≡ k) × (out_sniff s.marks k s.seen piece.bytes ≡ [])
    × (after_sniff s.marks k s.seen piece.bytes ≡ sniffing_for more.marks k more.seen)
Begins takes old k s piece None new next rest =
    (told : List Told) × FeedsNew takes old told new
    × (out_sniff s.marks k s.seen piece.bytes ≡ told ++ out_known next.chosen rest.bytes)
    × (after_sniff s.marks k s.seen piece.bytes ≡ decided (known_after next rest.bytes))
    × IsRest piece rest × ((n : ℕ) × (rest.bytes ≡ drop n piece.bytes))
    × (s.seen ≡ Nothing → IsAscii piece.bytes → (rest ≡ piece) × (next ≡ k) × (told ≡ []))
