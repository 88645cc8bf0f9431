-- The start of a stream, where a byte order mark may decide the encoding.
use Rattle.std.proofs.Common.{◌≡◌, ◌≤◌, ℕ, List, [], ◌++◌, length, drop, refl, sym, ap, subst, inl, ◌∙◌}
use Rattle.std.specs.Prelude.{None}
use Rattle.tendril_errors.specs.declared.refusal.Refusal.{Refusal}
use Rattle.tendril_encoding.proofs.New.{few_memory, known_new, no_memory_grows}
use Rattle.tendril_encoding.specs.First.{after_mark}
use Rattle.tendril_encoding.specs.Known.{FeedsKnown, FitKnown, IsStartKnown, StopsInKnown, after_known, out_known}
use Rattle.tendril_encoding.specs.Marks.{seen_bytes}
use Rattle.tendril_encoding.specs.Sends.{FeedsNew, IsShortOrNew, MayFail, NewStops, NoMemory}
use Rattle.tendril_encoding.specs.Starts.{Begins, Finds}
use Rattle.tendril_encoding.specs.StateLaws.{after_known-none, known_after-append, out_known-append, out_known-none}
use Rattle.tendril_encoding.specs.States.{decided, known_after, out_sniff}
use Rattle.tendril_encoding.specs.declared.kept.Sniffing.{Sniffing}
use Rattle.tendril_encoding.specs.declared.known.Chosen.{Chosen}
use Rattle.tendril_encoding.specs.declared.known.Known.{Known}
use Rattle.tendril_encoding.specs.declared.mark.Mark.{Mark}
use Rattle.tendril_encoding.specs.declared.search.Found.TheVariants.{Marked, Plain}
use Rattle.tendril_text.proofs.Feeds.{Feeds-none, Feeds-weaker, Stops-more, Stops-weaker}
use Rattle.tendril_stream.proofs.Remainders.{rest_kept}
use Rattle.tendril_stream.specs.Sinks.{Sent}
use Rattle.tendril_text.specs.Texts.{Text, PopCost}

module _ {S : Type 0} (takes : S → Sent → S → Type 0) (refuses : S → Sent → Refusal → S → Type 0) where
  -- a short text of what was seen
  module _ (c : Chosen) (t : Text) (seen : List ℕ) (is : t.bytes ≡ seen) (few : length t.bytes ≤ 8)
      (copied : t.copied ≡ length t.bytes) where
    pub seen_feeds : (a b : S) → FeedsKnown takes a c t b → FeedsNew takes a (out_known c seen) b
    seen_feeds a b h =
        subst (λ l. FeedsNew takes a (out_known c l) b) is
        (Feeds-weaker takes IsShortOrNew (FitKnown c t) (λ e h. known_new t few copied e h.0) a b
        (out_known c t.bytes) h)

    pub seen_stops : (a b : S) (r : Refusal) → StopsInKnown takes refuses a c t r b
        → NewStops takes refuses a (out_known c seen) r b
    seen_stops a b r h =
        subst (λ l. NewStops takes refuses a (out_known c l) r b) is
        (Stops-weaker takes refuses IsShortOrNew NoMemory (FitKnown c t) (MayFail t)
        (λ e h. known_new t few copied e h.0)
        (few_memory t few) a b (out_known c t.bytes) r h)

  -- a mark
  pub marked : (a : S) (k next : Known) (s : Sniffing) (piece rest : Text) (mark : Mark) (n : ℕ)
      → Finds s.marks s.seen piece.bytes (Marked mark n) → next ≡ after_mark mark → rest.bytes ≡ drop n piece.bytes
      → PopCost piece rest → Begins takes a k s piece None a next rest
  marked a k next s piece rest mark n found is left keeps =
      let f = found.2 k in (
        [],
        Feeds-none takes IsShortOrNew a,
        f.0 ∙ ap (λ l. out_known (after_mark mark).chosen l) (sym left)
            ∙ ap (λ (x : Known). out_known x.chosen rest.bytes) (sym is),
        f.1 ∙ ap (λ l. decided (known_after (after_mark mark) l)) (sym left)
            ∙ ap (λ x. decided (known_after x rest.bytes)) (sym is),
        rest_kept piece rest keeps,
        (n, left),
        λ nothing ascii. absurd (found.1 nothing ascii),
      )

  -- no mark
  pub plain : (a b : S) (k : Known) (chosen : Chosen) (s : Sniffing) (piece : Text) → IsStartKnown k.chosen
      → Finds s.marks s.seen piece.bytes Plain
      → FeedsNew takes a (out_known k.chosen (seen_bytes s.seen)) b
      × (chosen ≡ after_known k.chosen (seen_bytes s.seen))
      → Begins takes a k s piece None b (record { encoding = k.encoding; chosen = chosen }) piece
  plain a b k chosen s piece start found fed =
      let f = found k in
      let seen = seen_bytes s.seen in (
        out_known k.chosen seen,
        fed.0,
        f.0 ∙ out_known-append k.chosen seen piece.bytes
            ∙ ap (λ c. out_known k.chosen seen ++ out_known c piece.bytes) (sym fed.1),
        f.1 ∙ ap decided (known_after-append k seen piece.bytes)
            ∙ ap (λ c. decided (known_after (record { encoding = k.encoding; chosen = c }) piece.bytes)) (sym fed.1),
        inl refl,
        (0, refl),
        λ nothing ascii. (
          refl,
          ap (λ c. let x : Known = record { encoding = k.encoding; chosen = c } in x)
              (fed.1 ∙ ap (λ s. after_known k.chosen (seen_bytes s)) nothing ∙ after_known-none k.chosen start),
          ap (λ s. out_known k.chosen (seen_bytes s)) nothing ∙ out_known-none k.chosen start,
        ),
      )

  pub plain_stops : (a b : S) (k : Known) (s : Sniffing) (piece : Text) (r : Refusal)
      → Finds s.marks s.seen piece.bytes Plain → NewStops takes refuses a (out_known k.chosen (seen_bytes s.seen)) r b
      → NewStops takes refuses a (out_sniff s.marks k s.seen piece.bytes) r b
  plain_stops a b k s piece r found h =
      Stops-more takes refuses IsShortOrNew NoMemory no_memory_grows a b (out_known k.chosen (seen_bytes s.seen))
      (out_known (after_known k.chosen (seen_bytes s.seen)) piece.bytes) (out_sniff s.marks k s.seen piece.bytes) r h
      (sym ((found k).0 ∙ out_known-append k.chosen (seen_bytes s.seen) piece.bytes))
