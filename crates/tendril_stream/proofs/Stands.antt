-- A decoder over a sink with a property that follows from what it was sent.
use Rattle.std.proofs.Common.{◌≡◌, ℕ, Bool, false, List, [], ◌∷◌, ◌++◌, flat_map, sym, ap, subst, ◌∙◌, append_assoc}
use Rattle.std.proofs.Common.{append-nil}
use Rattle.std.proofs.lemmas.List.Elements.{All-head, All-tail}
use Rattle.std.specs.Prelude.{All}
use Rattle.std.specs.List.{FoldsTo}
use Rattle.tendril_text.specs.Texts.{Text}
use Rattle.tendril_lossy.specs.Lossy.{Told}
use Rattle.tendril_stream.specs.Compositions.{FollowsCalls, StandsAt}
use Rattle.tendril_stream.specs.Decoders.{Decodes, Ends}
use Rattle.tendril_stream.specs.Decodings.{Decoding, IsDecoding}
use Rattle.tendril_stream.specs.Sinks.{Sent, Piece, IsSent, told, told_of, Feeds}
use Rattle.tendril_text.specs.TextLists.{no_text}

abbrev pub bytes_of : List Text → List ℕ
bytes_of pieces = flat_map (λ p. p.bytes) pieces

module _ {S : Type 0} (takes : S → Sent → S → Type 0) (after : S → List Told → Type 0)
    (goes : FollowsCalls takes after) (fit : Sent → Type 0) (sends : (e : Sent) → fit e → IsSent e) where
  pub sent_on : (t : List Told) (a : S) (es : List Sent) (b : S) → All fit es → after a t → FoldsTo takes a es b
      → after b (t ++ told es)
  sent_on t a [] b each h f = subst (after b) (sym (append-nil t)) (subst (λ s. after s t) f h)
  sent_on t a (e ∷ es) b each h f =
      let goes_one = goes t a e f.0 (sends e (All-head fit e es each)) h f.1 in
      subst (after b) (append_assoc t (told_of e) (told es))
      (sent_on (t ++ told_of e) f.0 es b (All-tail fit e es each) goes_one f.2)

  pub fed : (t due : List Told) (a b : S) → after a t → Feeds takes fit a due b → after b (t ++ due)
  fed t due a b h f = subst (λ l. after b (t ++ l)) f.tells (sent_on t a f.sent b f.each h f.calls)

module _ {K S : Type 0} (decoding : Decoding K) (is : IsDecoding decoding) (takes : S → Sent → S → Type 0)
    (after : S → List Told → Type 0) (goes : FollowsCalls takes after) where
  pub stands_at_nothing : (sink : S) → after sink [] → StandsAt decoding after sink decoding.start []
  stands_at_nothing sink h = record { tells = subst (after sink) (sym is.out_none) h; keeps = sym is.after_none }

  pub stands_on : (sink next : S) (k l : K) (b : List ℕ) (piece : Text) → StandsAt decoding after sink k b
      → Decodes decoding takes sink k (Piece piece) next l → StandsAt decoding after next l (b ++ piece.bytes)
  stands_on sink next k l b piece s h = record {
    tells = subst (after next) (ap (λ x. decoding.out decoding.start b ++ decoding.out x piece.bytes) s.keeps
        ∙ sym (is.out_both decoding.start b piece.bytes))
        (fed takes after goes (decoding.fit k piece) (is.sends k piece) (decoding.out decoding.start b)
        (decoding.out k piece.bytes) sink next s.tells h.0);
    keeps = h.1 ∙ ap (λ x. decoding.after x piece.bytes) s.keeps ∙ sym (is.after_both decoding.start b piece.bytes);
  }

  pub ends_at : {O : Type 0} (finishes : S → O → Type 0) (sink : S) (k : K) (b : List ℕ) (out : O)
      → StandsAt decoding after sink k b → Ends decoding takes finishes sink k out
      → (last : S) × after last (decoding.decoded b) × finishes last out
  ends_at finishes sink k b out s h = (
    h.0,
    subst (after h.0) (ap (λ x. decoding.out decoding.start b ++ decoding.ends x) s.keeps ∙ sym (is.whole b))
        (fed takes after goes (decoding.fit k no_text) (is.sends k no_text) (decoding.out decoding.start b)
        (decoding.ends k) sink h.0 s.tells h.1),
    h.2,
  )

  -- after many pieces
  module _ {D : Type 0} (inner : D → S) (held : D → K) (failed : D → Bool) where
    pub stands_after : (pieces : List Text) (d last : D) (b : List ℕ) → StandsAt decoding after (inner d) (held d) b
        → FoldsTo (λ s x t. (failed s ≡ false) × (failed t ≡ false)
        × Decodes decoding takes (inner s) (held s) (Piece x)
        (inner t) (held t)) d pieces last
        → StandsAt decoding after (inner last) (held last) (b ++ bytes_of pieces)
    stands_after [] d last b s h = subst (StandsAt decoding after (inner last) (held last)) (sym (append-nil b))
        (subst (λ e. StandsAt decoding after (inner e) (held e) b) h s)
    stands_after (x ∷ pieces) d last b s h =
        subst (StandsAt decoding after (inner last) (held last)) (append_assoc b x.bytes (bytes_of pieces))
        (stands_after pieces h.0 last (b ++ x.bytes) (stands_on (inner d) (inner h.0) (held d) (held h.0) b x s h.1.2)
        h.2)

    -- from a new decoder
    pub stands_from_nothing : (pieces : List Text) (d last : D) (sink : S) → inner d ≡ sink → held d ≡ decoding.start
        → after sink []
        → FoldsTo (λ s x t. (failed s ≡ false) × (failed t ≡ false)
        × Decodes decoding takes (inner s) (held s) (Piece x)
        (inner t) (held t)) d pieces last
        → StandsAt decoding after (inner last) (held last) (bytes_of pieces)
    stands_from_nothing pieces d last sink is_sink none h f =
        stands_after pieces d last [] (subst (λ k. StandsAt decoding after (inner d) k []) (sym none)
        (stands_at_nothing (inner d) (subst (λ s. after s []) (sym is_sink) h))) f
