-- The lines that a sink is sent don't depend on where a stream is cut.
use Rattle.std.proofs.Common.{
  ◌≡◌,
  ℕ,
  ◌<◌,
  List,
  [],
  ◌∷◌,
  ◌++◌,
  length,
  map,
  refl,
  sym,
  ap,
  subst,
  ◌∙◌,
  arith,
  append_assoc,
  append-nil,
  length-append,
}
use Rattle.std.proofs.lemmas.List.Concat.{flat_map-append}
use Rattle.std.proofs.lemmas.List.Elements.{All-append, All-cons, All-head, All-nil, All-push, All-tail}
use Rattle.std.proofs.lemmas.Fn.{FoldsTo-push}
use Rattle.std.specs.List.{FoldsTo}
use Rattle.std.specs.Prelude.{All, IsUtf8}
use Rattle.tendril_lossy.specs.Lossy.{Told}
use Rattle.tendril_text.proofs.Feeds.{FoldsTo-append}
use Rattle.tendril_stream.proofs.Stands.{sent_on}
use Rattle.tendril_stream.specs.Compositions.{FollowsCalls}
use Rattle.tendril_stream.specs.Lines.{
  AreWholeLines,
  ComposesLines,
  HasAllLines,
  HasLines,
  SendsLast,
  SendsLines,
  text_of_call,
  texts_of_calls,
}
use Rattle.tendril_stream.specs.Sinks.{Sent, Piece, Fault, IsSent}
use Rattle.memchr.specs.Find.{is_byte}
use Rattle.tendril_fmt.proofs.Pieces.{lacks-nil}
use Rattle.tendril_fmt.specs.Cuts.{IsWholeLine}
use Rattle.tendril_text.specs.TextLists.{bytes_of_all, listed_unless_empty}
use Rattle.tendril_text.specs.Texts.{Text}

line_some : (line : List ℕ) → IsWholeLine line → 0 < length line
line_some line (words, ending, ends, is) =
    omega (arith, ap length is, length-append words ending, ap length ends.1.2)

texts-pieces : (lines : List Text) → texts_of_calls (map Piece lines) ≡ lines
texts-pieces [] = refl
texts-pieces (l ∷ lines) = ap (λ ls. l ∷ ls) (texts-pieces lines)

texts-append : (a b : List Sent) → texts_of_calls (a ++ b) ≡ texts_of_calls a ++ texts_of_calls b
texts-append a b = flat_map-append text_of_call a b

pieces_fit : (lines : List Text) → All (λ l. IsWholeLine l.bytes) lines → All (λ l. IsUtf8 l.bytes) lines
    → All IsSent (map Piece lines)
pieces_fit [] each valid = All-nil IsSent
pieces_fit (l ∷ lines) each valid = All-cons IsSent (Piece l) (map Piece lines) (
  line_some l.bytes (All-head (λ (l : Text). IsWholeLine l.bytes) l lines each),
  All-head (λ (l : Text). IsUtf8 l.bytes) l lines valid,
)
    (pieces_fit lines (All-tail (λ (l : Text). IsWholeLine l.bytes) l lines each)
    (All-tail (λ (l : Text). IsUtf8 l.bytes) l lines valid))

-- more whole lines follow those that were sent
lines-append : (bytes text : List ℕ) (first more : List Text) (kept rest : List ℕ) → AreWholeLines bytes first kept
    → AreWholeLines (kept ++ text) more rest → AreWholeLines (bytes ++ text) (first ++ more) rest
lines-append bytes text first more kept rest h k = record {
  each = All-append (λ (l : Text). IsWholeLine l.bytes) first more h.each k.each;
  lacks = k.lacks;
  whole = ap (λ b. b ++ text) h.whole ∙ append_assoc (bytes_of_all first) kept text
      ∙ ap (λ b. bytes_of_all first ++ b) k.whole ∙ sym (append_assoc (bytes_of_all first) (bytes_of_all more) rest)
      ∙ ap (λ b. b ++ rest) (sym (flat_map-append (λ t. t.bytes) first more));
}

module _ {S : Type 0} (takes : S → Sent → S → Type 0) where
  pieces_made : (lines : List Text) (a b : S) → FoldsTo (λ s l t. takes s (Piece l) t) a lines b
      → FoldsTo takes a (map Piece lines) b
  pieces_made [] a b h = h
  pieces_made (l ∷ lines) a b h = (h.0, h.1, pieces_made lines h.0 b h.2)

  lines_begin : (sink : S) → HasLines takes sink [] sink []
  lines_begin sink = record {
    calls = [];
    made = refl;
    fit = All-nil IsSent;
    are = record { each = All-nil (λ (l : Text). IsWholeLine l.bytes); lacks = lacks-nil (is_byte 10); whole = refl };
  }

  lines_go_on : (old sink next : S) (bytes : List ℕ) (kept text line : Text) → HasLines takes old bytes sink kept.bytes
      → SendsLines takes sink kept text next line → HasLines takes old (bytes ++ text.bytes) next line.bytes
  lines_go_on old sink next bytes kept text line h s = record {
    calls = h.calls ++ map Piece s.lines;
    made = FoldsTo-append takes old h.calls sink (map Piece s.lines) next h.made
        (pieces_made s.lines sink next s.sent);
    fit = All-append IsSent h.calls (map Piece s.lines) h.fit (pieces_fit s.lines s.are.each s.valid);
    are = subst (λ ls. AreWholeLines (bytes ++ text.bytes) ls line.bytes)
        (sym (texts-append h.calls (map Piece s.lines)
        ∙ ap (λ ls. texts_of_calls h.calls ++ ls) (texts-pieces s.lines)))
        (lines-append bytes text.bytes (texts_of_calls h.calls) s.lines kept.bytes line.bytes h.are s.are);
  }

  error_passes : (old sink next : S) (bytes rest words : List ℕ) → HasLines takes old bytes sink rest
      → takes sink (Fault words) next → HasLines takes old bytes next rest
  error_passes old sink next bytes rest words h s = record {
    calls = h.calls ++ Fault words ∷ [];
    made = FoldsTo-push takes old h.calls sink (Fault words) next h.made s;
    fit = All-push IsSent h.calls (Fault words) h.fit tt;
    are = subst (λ ls. AreWholeLines bytes ls rest)
        (sym (texts-append h.calls (Fault words ∷ []) ∙ append-nil (texts_of_calls h.calls))) h.are;
  }

  -- `line` are the bytes that are kept
  last_sent : (line : List ℕ) (old sink last : S) (bytes : List ℕ) (kept : Text) → line ≡ kept.bytes
      → IsUtf8 kept.bytes → HasLines takes old bytes sink kept.bytes → SendsLast takes sink line kept last
      → HasAllLines takes old bytes last
  last_sent [] old sink last bytes kept is valid h s = record {
    calls = h.calls;
    made = subst (λ x. FoldsTo takes old h.calls x) (sym s) h.made;
    fit = h.fit;
    are = record {
      ended = texts_of_calls h.calls;
      last = kept;
      lines_are = sym (append-nil (texts_of_calls h.calls))
          ∙ ap (λ l. texts_of_calls h.calls ++ listed_unless_empty l kept) is;
      are = h.are;
    };
  }
  last_sent (b ∷ line) old sink last bytes kept is valid h s = record {
    calls = h.calls ++ Piece kept ∷ [];
    made = FoldsTo-push takes old h.calls sink (Piece kept) last h.made s;
    fit = All-push IsSent h.calls (Piece kept) h.fit (subst (λ l. 0 < length l) is (omega arith), valid);
    are = record {
      ended = texts_of_calls h.calls;
      last = kept;
      lines_are = texts-append h.calls (Piece kept ∷ [])
          ∙ ap (λ l. texts_of_calls h.calls ++ listed_unless_empty l kept) is;
      are = h.are;
    };
  }

  pub lines_compose : (after : S → List Told → Type 0) → FollowsCalls takes after → ComposesLines takes after
  lines_compose after goes = record {
    begins = lines_begin;
    goes_on = lines_go_on;
    passes = error_passes;
    ends = λ old sink last bytes kept. last_sent kept.bytes old sink last bytes kept refl;
    tells = λ old now bytes t h all.
        sent_on takes after goes IsSent (λ e is. is) t old all.calls now all.fit h all.made;
  }
