-- The lines that a text completes, sent one after another.
use Rattle.std.proofs.Common.{
  ◌≡◌,
  ℕ,
  ◌<◌,
  ◌≤◌,
  ◌⊎◌,
  List,
  [],
  ◌∷◌,
  ◌++◌,
  length,
  refl,
  sym,
  ap,
  subst,
  ◌∙◌,
  arith,
  inl,
  inr,
  append_assoc,
  append-nil,
  length-append,
}
use Rattle.std.proofs.lemmas.Fn.{FoldsTo-push}
use Rattle.std.proofs.lemmas.List.Concat.{flat_map-append}
use Rattle.std.proofs.lemmas.List.Elements.{All-nil, All-push}
use Rattle.std.specs.List.{FoldsTo}
use Rattle.std.specs.Prelude.{All, IsUtf8}
use Rattle.tendril_errors.specs.declared.refusal.Refusal.{Refusal}
use Rattle.tendril_fmt.specs.Parts.{IsEndOf}
use Rattle.tendril_stream.specs.LineStarts.{CompletesLine, CompletionStops}
use Rattle.tendril_stream.specs.Lines.{JoinStops, StopsInLines, in_one_text}
use Rattle.tendril_stream.specs.Sinks.{Sent, Piece, RefusesCall}
use Rattle.tendril_text.proofs.Decoding.{part-through, rest-through}
use Rattle.tendril_text.specs.Decoding.{IsRest}
use Rattle.tendril_fmt.specs.Cuts.{IsWholeLine}
use Rattle.tendril_text.specs.TextLists.{bytes_of_all}
use Rattle.tendril_text.specs.Texts.{Text, PartCost}

pub joined-push : (lines : List Text) (l : Text) → bytes_of_all (lines ++ l ∷ []) ≡ bytes_of_all lines ++ l.bytes
joined-push lines l = flat_map-append (λ t. t.bytes) lines (l ∷ []) ∙ ap (λ b. bytes_of_all lines ++ b)
    (append-nil l.bytes)

some-push : (lines : List Text) (l : Text) → 0 < length (lines ++ l ∷ [])
some-push lines l = omega (arith, length-append lines (l ∷ []))

-- one more line that shares the text's block, if nothing was kept or a line was sent
one_text-push : (text : Text) (kept : List ℕ) (lines : List Text) (l : Text)
    → All (PartCost text) (in_one_text kept lines) → ((kept ≡ []) ⊎ (0 < length lines) → PartCost text l)
    → All (PartCost text) (in_one_text kept (lines ++ l ∷ []))
one_text-push text [] lines l all part = All-push (PartCost text) lines l all (part (inl refl))
one_text-push text (b ∷ kept) [] l all part = All-nil (PartCost text)
one_text-push text (b ∷ kept) (x ∷ lines) l all part =
    All-push (PartCost text) lines l all (part (inr (omega (arith))))

module _ {S : Type 0} (takes : S → Sent → S → Type 0) (kept text : Text) (old : S) where
  -- the lines sent so far, what is kept, and what is left of the text
  pub record LinesSoFar (now : S) (line rest : Text) : Type 0 where
    pub lines : List Text
    pub sent : FoldsTo (λ s l t. takes s (Piece l) t) old lines now
    pub each : All (λ l. IsWholeLine l.bytes) lines
    pub valid : All (λ l. IsUtf8 l.bytes) lines
    pub whole : kept.bytes ++ text.bytes ≡ bytes_of_all lines ++ (line.bytes ++ rest.bytes)
    pub share : All (PartCost text) (in_one_text kept.bytes lines)
    pub none : lines ≡ [] → line ≡ kept
    pub some : 0 < length lines → line.bytes ≡ []
    pub behind : IsEndOf rest.bytes text.bytes
    pub part : IsRest text rest

  pub no_line : LinesSoFar old kept text
  no_line = record {
    lines = [];
    sent = refl;
    each = All-nil (λ (l : Text). IsWholeLine l.bytes);
    valid = All-nil (λ (l : Text). IsUtf8 l.bytes);
    whole = refl;
    share = none kept.bytes;
    none = λ _. refl;
    some = λ h. absurd (omega (arith, h));
    behind = ([], refl);
    part = inl refl;
  }
    where
      none : (bytes : List ℕ) → All (PartCost text) (in_one_text bytes [])
      none [] = All-nil (PartCost text)
      none (b ∷ bytes) = All-nil (PartCost text)

  -- nothing is kept any more, or never was
  nothing_kept : (now : S) (line rest : Text) (so : LinesSoFar now line rest)
      → (kept.bytes ≡ []) ⊎ (0 < length so.lines) → line.bytes ≡ []
  nothing_kept now line rest so (inr h) = so.some h
  nothing_kept now line rest so (inl h) = by_lines so.lines so.none so.some
    where
      by_lines : (lines : List Text) → (lines ≡ [] → line ≡ kept) → (0 < length lines → line.bytes ≡ [])
          → line.bytes ≡ []
      by_lines [] none some = ap (λ (t : Text). t.bytes) (none refl) ∙ h
      by_lines (x ∷ lines) none some = some (omega arith)

  -- one more line is sent
  pub line_sent : (now next : S) (line after rest left l : Text) → LinesSoFar now line rest
      → CompletesLine line rest l left → after.bytes ≡ [] → takes now (Piece l) next → LinesSoFar next after left
  line_sent now next line after rest left l so h empty takes_it = record {
    lines = so.lines ++ l ∷ [];
    sent = FoldsTo-push (λ s l t. takes s (Piece l) t) old so.lines now l next so.sent takes_it;
    each = All-push (λ (l : Text). IsWholeLine l.bytes) so.lines l so.each h.is;
    valid = All-push (λ (l : Text). IsUtf8 l.bytes) so.lines l so.valid h.valid;
    whole = so.whole ∙ ap (λ b. bytes_of_all so.lines ++ b) h.whole
        ∙ sym (append_assoc (bytes_of_all so.lines) l.bytes left.bytes)
        ∙ ap (λ b. b ++ left.bytes) (sym (joined-push so.lines l))
        ∙ ap (λ b. bytes_of_all (so.lines ++ l ∷ []) ++ (b ++ left.bytes)) (sym empty);
    share = one_text-push text kept.bytes so.lines l so.share
        (λ nothing. part-through text rest l so.part (λ long. less_line (nothing_kept now line rest so nothing))
        (h.share (nothing_kept now line rest so nothing)));
    none = λ nil. absurd (omega (arith, ap length nil, some-push so.lines l));
    some = λ _. empty;
    behind = (
      so.behind.0 ++ h.behind.0,
      so.behind.1 ∙ ap (λ b. so.behind.0 ++ b) h.behind.1
          ∙ sym (append_assoc so.behind.0 h.behind.0 left.bytes),
    );
    part = rest-through text rest left so.part (λ _. omega (arith, h.shorter)) (inr h.rest_shares);
  }
    where
      less_line : line.bytes ≡ [] → length l.bytes ≤ length rest.bytes
      less_line nil = omega (
        arith,
        ap length h.whole,
        ap length nil,
        length-append line.bytes rest.bytes,
        length-append l.bytes left.bytes,
      )

  module _ (refuses : S → Sent → Refusal → S → Type 0) where
    -- the sink returned an error for a line
    pub line_refused : (now next : S) (line rest left l : Text) (r : Refusal) → LinesSoFar now line rest
        → CompletesLine line rest l left → RefusesCall refuses now (Piece l) r next
        → StopsInLines takes refuses old kept text r next
    line_refused now next line rest left l r so h refused = record {
      lines = so.lines;
      each = so.each;
      mid = now;
      sent = so.sent;
      rest = line.bytes ++ rest.bytes;
      front = so.whole;
      stop = inl (l, h.is, (left.bytes, h.whole), refused);
    }

    -- a line couldn't be joined
    unjoined : (now : S) (line rest : Text) (r : Refusal) → LinesSoFar now line rest
        → JoinStops line.bytes (line.bytes ++ rest.bytes) r → StopsInLines takes refuses old kept text r now
    unjoined now line rest r so h = record {
      lines = so.lines;
      each = so.each;
      mid = now;
      sent = so.sent;
      rest = line.bytes ++ rest.bytes;
      front = so.whole;
      stop = inr (
        refl,
        inr (nil, subst (λ (t : Text). JoinStops t.bytes (line.bytes ++ rest.bytes) r) (so.none nil) h),
      );
    }
      where
        by_lines : (lines : List Text) → (0 < length lines → line.bytes ≡ []) → lines ≡ []
        by_lines [] some = refl
        by_lines (x ∷ lines) some = absurd (omega (arith, h.some, ap length (some (omega arith))))

        nil : so.lines ≡ []
        nil = by_lines so.lines so.some

    -- a line couldn't be taken from the text
    pub line_stops : (now : S) (line rest : Text) (r : Refusal) → LinesSoFar now line rest
        → CompletionStops line.bytes rest.bytes r → StopsInLines takes refuses old kept text r now
    line_stops now line rest r so (inl h) = record {
      lines = so.lines;
      each = so.each;
      mid = now;
      sent = so.sent;
      rest = rest.bytes;
      front = so.whole ∙ ap (λ b. bytes_of_all so.lines ++ (b ++ rest.bytes)) h.0;
      stop = inr (
        refl,
        inl (record {
          line = h.1.line;
          after = h.1.after;
          is = h.1.is;
          front = h.1.front;
          behind = so.behind;
          refusal = h.1.refusal;
          long = h.1.long;
          many = h.1.many;
        }),
      );
    }
    line_stops now line rest r so (inr h) = unjoined now line rest r so h

    -- what follows the last line couldn't be kept
    pub rest_stops : (now : S) (line rest : Text) (r : Refusal) → LinesSoFar now line rest
        → JoinStops line.bytes (line.bytes ++ rest.bytes) r → StopsInLines takes refuses old kept text r now
    rest_stops = unjoined
