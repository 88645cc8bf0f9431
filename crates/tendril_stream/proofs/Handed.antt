-- What a decoder sent of the pieces of a stream.
use Rattle.std.proofs.Common.{◌≡◌, ℕ, Bool, false, List, [], ◌∷◌, ◌++◌, refl, sym, ap, subst, ◌∙◌}
use Rattle.std.proofs.Common.{ap₂, arith, append_assoc, append-nil, inl, inr, ⊎_elim}
use Rattle.std.proofs.lemmas.List.Elements.{All-cons, All-nil, Contains-append_right}
use Rattle.std.specs.List.{FoldsTo}
use Rattle.std.specs.Prelude.{All}
use Rattle.tendril_lossy.specs.Lossy.{Told}
use Rattle.tendril_text.proofs.Feeds.{Feeds-append, Feeds-none, Feeds-same, Feeds-weaker}
use Rattle.tendril_stream.proofs.Refused.{DecoderTakes}
use Rattle.tendril_stream.proofs.Stands.{bytes_of}
use Rattle.tendril_stream.specs.Compositions.{IsSentOfOne}
use Rattle.tendril_stream.specs.Decoders.{Decodes, Ends}
use Rattle.tendril_stream.specs.Decodings.{Decoding, IsDecoding}
use Rattle.tendril_stream.specs.Readings.{AreReadPieces, Hears, IsReadPiece, Receives}
use Rattle.tendril_stream.specs.Reads.{OneRead, Gave, WasInterrupted, HasFailed, CameToEnd, given}
use Rattle.tendril_stream.specs.Sinks.{Sent, Piece, Feeds}
use Rattle.tendril_text.specs.TextLists.{no_text}
use Rattle.tendril_text.specs.Texts.{Text}

module _ {K : Type 0} (decoding : Decoding K) where
  first_sends : (p : Text) (pieces : List Text) (k : K) (e : Sent) → decoding.fit k p e
      → IsSentOfOne decoding (p ∷ pieces) e
  first_sends p pieces k e fit = (k, inl (p, (0, omega arith, refl), fit))

  later_sends : (p : Text) (pieces : List Text) (e : Sent) → IsSentOfOne decoding pieces e
      → IsSentOfOne decoding (p ∷ pieces) e
  later_sends p pieces e h = (
    h.0,
    ⊎_elim (λ of. inl (of.0, Contains-append_right (p ∷ []) pieces of.0 of.1, of.2)) inr h.1,
  )

module _ {K S D : Type 0} (decoding : Decoding K) (is : IsDecoding decoding) (takes : S → Sent → S → Type 0)
    (inner : D → S) (held : D → K) (failed : D → Bool) where
  -- the output of these pieces was sent, after that of the bytes b
  record Handed (b : List ℕ) (pieces : List Text) (d last : D) : Type 0 where
    told : List Told
    feeds : Feeds takes (IsSentOfOne decoding pieces) (inner d) told (inner last)
    out : decoding.out decoding.start b ++ told ≡ decoding.out decoding.start (b ++ bytes_of pieces)
    keeps : held last ≡ decoding.after decoding.start (b ++ bytes_of pieces)

  handed_on : (pieces : List Text) (d last : D) (b : List ℕ) → held d ≡ decoding.after decoding.start b
      → FoldsTo (λ s x t. (failed s ≡ false) × (failed t ≡ false)
      × Decodes decoding takes (inner s) (held s) (Piece x) (inner t) (held t)) d pieces last
      → Handed b pieces d last
  handed_on [] d last b keeps h = record {
    told = [];
    feeds = subst (λ x. Feeds takes (IsSentOfOne decoding []) (inner d) [] (inner x)) h
        (Feeds-none takes (IsSentOfOne decoding []) (inner d));
    out = append-nil (decoding.out decoding.start b) ∙ ap (decoding.out decoding.start) (sym (append-nil b));
    keeps = ap held (sym h) ∙ keeps ∙ ap (decoding.after decoding.start) (sym (append-nil b));
  }
  handed_on (p ∷ pieces) d last b keeps h =
      let mid = h.0 in
      let one = h.1.2 in
      let so_far = b ++ p.bytes in
      let then : held mid ≡ decoding.after decoding.start so_far = one.1 ∙ ap (λ k. decoding.after k p.bytes) keeps
      ∙ sym (is.after_both decoding.start b p.bytes) in
      let rest = handed_on pieces mid last so_far then h.2 in
      let first = decoding.out (held d) p.bytes in
      let outs : decoding.out decoding.start b ++ first ≡ decoding.out decoding.start so_far =
      ap (λ k. decoding.out decoding.start b ++ decoding.out k p.bytes) keeps
      ∙ sym (is.out_both decoding.start b p.bytes) in
      record {
        told = first ++ rest.told;
        feeds = Feeds-append takes (IsSentOfOne decoding (p ∷ pieces)) (inner d) (inner mid) (inner last) first
            rest.told
            (Feeds-weaker takes (IsSentOfOne decoding (p ∷ pieces)) (decoding.fit (held d) p)
            (first_sends decoding p pieces (held d)) (inner d) (inner mid) first one.0)
            (Feeds-weaker takes (IsSentOfOne decoding (p ∷ pieces)) (IsSentOfOne decoding pieces)
            (later_sends decoding p pieces) (inner mid) (inner last) rest.told rest.feeds);
        out = sym (append_assoc (decoding.out decoding.start b) first rest.told) ∙ ap (λ l. l ++ rest.told) outs
            ∙ rest.out
            ∙ ap (decoding.out decoding.start) (append_assoc b p.bytes (bytes_of pieces));
        keeps = rest.keeps ∙ ap (decoding.after decoding.start) (append_assoc b p.bytes (bytes_of pieces));
      }

  -- a new decoder sent all that its pieces decode to, and what the end adds
  pub handed_all : {O : Type 0} (finishes : S → O → Type 0) (pieces : List Text) (d last : D) (sink : S) (out : O)
      → inner d ≡ sink → held d ≡ decoding.start
      → FoldsTo (λ s x t. (failed s ≡ false) × (failed t ≡ false)
      × Decodes decoding takes (inner s) (held s) (Piece x) (inner t) (held t)) d pieces last
      → Ends decoding takes finishes (inner last) (held last) out
      → (end : S) × finishes end out
      × Feeds takes (IsSentOfOne decoding pieces) sink (decoding.decoded (bytes_of pieces)) end
  handed_all finishes pieces d last sink out is_sink none h ends =
      let all = handed_on pieces d last [] (none ∙ sym is.after_none) h in
      let told : all.told ≡ decoding.out decoding.start (bytes_of pieces) =
      ap (λ l. l ++ all.told) (sym is.out_none) ∙ all.out in
      let whole : all.told ++ decoding.ends (held last) ≡ decoding.decoded (bytes_of pieces) =
      ap (λ l. l ++ decoding.ends (held last)) told
      ∙ ap (λ k. decoding.out decoding.start (bytes_of pieces) ++ decoding.ends k) all.keeps
      ∙ sym (is.whole (bytes_of pieces)) in (
        ends.0,
        ends.2,
        subst (λ s. Feeds takes (IsSentOfOne decoding pieces) s (decoding.decoded (bytes_of pieces)) ends.0) is_sink
            (Feeds-same takes (IsSentOfOne decoding pieces) (inner d) ends.0 (all.told ++ decoding.ends (held last))
            (decoding.decoded (bytes_of pieces)) whole
            (Feeds-append takes (IsSentOfOne decoding pieces) (inner d) (inner last) ends.0 all.told
            (decoding.ends (held last)) all.feeds
            (Feeds-weaker takes (IsSentOfOne decoding pieces) (decoding.fit (held last) no_text)
            (λ e fit. (held last, inr fit)) (inner last) ends.0 (decoding.ends (held last)) ends.1))),
      )

-- a sink that stores each call has those that it accepted
pub stored_calls : {S : Type 0} (stored : S → List Sent) (calls : List Sent) (a b : S)
    → FoldsTo (λ a e b. stored b ≡ stored a ++ e ∷ []) a calls b → stored b ≡ stored a ++ calls
stored_calls stored [] a b h = ap stored (sym h) ∙ sym (append-nil (stored a))
stored_calls stored (e ∷ calls) a b h = stored_calls stored calls h.0 b h.2 ∙ ap (λ l. l ++ calls) h.1
    ∙ append_assoc (stored a) (e ∷ []) calls

-- each of them is what may be sent, if the sink had stored none
pub each_stored : {S : Type 0} (fit : Sent → Type 0) (stored : S → List Sent) (calls : List Sent) (a b : S)
    → stored a ≡ [] → FoldsTo (λ a e b. stored b ≡ stored a ++ e ∷ []) a calls b → All fit calls → (out : List Sent)
    → out ≡ stored b → All fit out
each_stored fit stored calls a b none h each out is =
    subst (All fit) (sym (is ∙ stored_calls stored calls a b h ∙ ap (λ l. l ++ calls) none)) each

-- the pieces that a sink accepted are those that were read
pub received_each : {S : Type 0} (takes : S → Sent → S → Type 0) (these : List OneRead) (old new : S)
    → Receives takes old these new → (pieces : List Text) × FoldsTo (λ s p t. takes s (Piece p) t) old pieces new
    × (bytes_of pieces ≡ given these) × AreReadPieces these pieces
received_each takes [] old new h = ([], h, refl, record { bytes = refl; each = All-nil IsReadPiece })
received_each takes (Gave b ∷ these) old new h =
    let r = received_each takes these h.0 new h.2 in (
      h.1.0 ∷ r.0,
      (h.0, h.1.3, r.1),
      ap₂ (λ l m. l ++ m) h.1.1 r.2,
      record {
        bytes = ap₂ (λ x l. x ∷ l) h.1.1 r.3.bytes;
        each = All-cons IsReadPiece h.1.0 r.0 h.1.2 r.3.each;
      },
    )
received_each takes (WasInterrupted ∷ these) old new h =
    let r = received_each takes these old new (subst (λ s. FoldsTo (Hears takes) s these new) h.1 h.2) in
    (r.0, r.1, r.2, record { bytes = r.3.bytes; each = r.3.each })
received_each takes (HasFailed ∷ these) old new h =
    let r = received_each takes these old new (subst (λ s. FoldsTo (Hears takes) s these new) h.1 h.2) in
    (r.0, r.1, r.2, record { bytes = r.3.bytes; each = r.3.each })
received_each takes (CameToEnd ∷ these) old new h =
    let r = received_each takes these old new (subst (λ s. FoldsTo (Hears takes) s these new) h.1 h.2) in
    (r.0, r.1, r.2, record { bytes = r.3.bytes; each = r.3.each })

module _ {K S D : Type 0} (decoding : Decoding K) (is : IsDecoding decoding) (takes : S → Sent → S → Type 0)
    (inner : D → S) (held : D → K) (failed : D → Bool) where
  -- a new decoder sent all that was read, and what the end adds
  pub handed_read : {O : Type 0} (finishes : S → O → Type 0) (these : List OneRead) (d last : D) (sink : S) (out : O)
      → inner d ≡ sink → held d ≡ decoding.start → Receives (DecoderTakes decoding takes inner held failed) d these last
      → Ends decoding takes finishes (inner last) (held last) out
      → (pieces : List Text) × AreReadPieces these pieces × ((end : S) × finishes end out
      × Feeds takes (IsSentOfOne decoding pieces) sink (decoding.decoded (bytes_of pieces)) end)
  handed_read finishes these d last sink out is_sink none h ends =
      let read = received_each (DecoderTakes decoding takes inner held failed) these d last h in (
        read.0,
        read.3,
        handed_all decoding is takes inner held failed finishes read.0 d last sink out is_sink none read.1 ends,
      )
