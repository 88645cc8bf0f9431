-- A rope to which a decoder sends texts.
use Rattle.std.proofs.Common.{◌≡◌, ℕ, List, [], ◌∷◌, sym, ap, subst, ◌∙◌}
use Rattle.std.specs.List.{FoldsTo}
use Rattle.std.specs.Prelude.{All, chars}
use Rattle.std.proofs.lemmas.List.Elements.{All-append, All-cons, All-head, All-nil, All-tail}
use Rattle.std.proofs.lemmas.Str.{IsUtf8-nil, chars-nil}
use Rattle.rope_text.specs.Ropes.{RopeText}
use Rattle.rope_text.specs.Sink.{HasCharacters, TakesSent}
use Rattle.tendril_stream.specs.Sinks.{Sent, Piece, Fault}
use Rattle.tendril_text.specs.TextLists.{listed_unless_empty, unless_empty}
use Rattle.tendril_text.specs.Texts.{Text}

pub new_has : (rope : RopeText) → rope.bytes ≡ [] → HasCharacters rope []
new_has rope e = (rw e IsUtf8-nil, ap chars e ∙ chars-nil)

module _ (fit : Sent → Type 0) where
  abbrev PieceFits : Text → Type 0
  PieceFits t = fit (Piece t)

  piece_fits : (bytes : List ℕ) (t : Text) → fit (Piece t) → All PieceFits (listed_unless_empty bytes t)
  piece_fits [] t h = All-nil PieceFits
  piece_fits (b ∷ bytes) t h = All-cons PieceFits t [] h (All-nil PieceFits)

  -- each piece of a rope is one of the texts that it was sent
  pub pieces_fit : (calls : List Sent) (a b : RopeText) → All fit calls → FoldsTo TakesSent a calls b
      → All PieceFits a.pieces → All PieceFits b.pieces
  pieces_fit [] a b each h all = subst (λ (r : RopeText). All PieceFits r.pieces) h all
  pieces_fit (Piece t ∷ calls) a b each h all =
      pieces_fit calls h.0 b (All-tail fit (Piece t) calls each) h.2
      (subst (All PieceFits) (sym h.1.pieces) (All-append PieceFits a.pieces (unless_empty t) all
      (piece_fits t.bytes t (All-head fit (Piece t) calls each))))
  pieces_fit (Fault words ∷ calls) a b each h all =
      pieces_fit calls h.0 b (All-tail fit (Fault words) calls each) h.2
      (subst (λ (r : RopeText). All PieceFits r.pieces) (sym h.1) all)

  -- from a rope without pieces
  pub new_pieces_fit : (calls : List Sent) (a b out : RopeText) → a.pieces ≡ [] → All fit calls
      → FoldsTo TakesSent a calls b → out ≡ b → All PieceFits out.pieces
  new_pieces_fit calls a b out none each h is = subst (λ (r : RopeText). All PieceFits r.pieces) (sym is)
      (pieces_fit calls a b each h (subst (All PieceFits) (sym none) (All-nil PieceFits)))
