use Rattle.std.proofs.Common.{◌≡◌, ℕ, ◌<◌, ◌+◌, List, [], ◌∷◌, ◌++◌, Option, Some, refl, sym, ◌∙◌, ap, subst}
use Rattle.std.proofs.Common.{append_assoc, length, take, map, get_or}
use Rattle.std.proofs.KnownBytes.{Appends-nil, Appends-trans}
use Rattle.std.proofs.lemmas.List.{append-nil, get_or-map, map_more, take-map}
use Rattle.tendril_errors.specs.declared.refusal.Refusal.{Refusal}
use Rattle.tendril_errors.specs.declared.refusal.Refusal.TheVariants.{Memory, Io}
use Rattle.tendril_script.specs.HeldBack.{Passes, PrintsLines, PrintsSome}
use Rattle.tendril_script.specs.Sessions.{LineStops, WritesLine}
use Rattle.tendril_script.specs.Writing.{AppendsFront}
use Rattle.tendril_script.proofs.SessionLemmas.{session_more}

-- nothing is written, and all stays held back
pub all_held : (known : Option (List ℕ)) (held : List ℕ) → Passes known known held [] held
all_held known held = record { taken = []; appends = Appends-nil known; splits = append-nil held }

-- a prefix of it is written
pub front_written : (before after : Option (List ℕ)) (held : List ℕ) (h : AppendsFront before after held)
    → Passes before after held [] h.rest
front_written before after held h = record { taken = h.taken; appends = h.appends; splits = append-nil held ∙ h.splits }

-- lines that are printed from one state on, after what was held back
module _ {S : Type 0} (answers : S → List ℕ → List ℕ → S → Type 0) (old : S) (before : Option (List ℕ))
    (held : List ℕ) where
  abbrev Prints : List (List ℕ) → S → Option (List ℕ) → List ℕ → Type 0
  Prints lines new after left = PrintsLines answers old lines new before after held left

  -- no lines print nothing
  pub nothing_printed : PrintsLines answers old [] old before before held held
  nothing_printed = record { bytes = []; session = (refl, refl); passes = all_held before held }

  -- what one more line prints is held back
  line_printed : (lines : List (List ℕ)) (line : List ℕ) (mid new : S) (after : Option (List ℕ)) (mine next : List ℕ)
      → Prints lines mid after mine → WritesLine answers mid line new (Some mine) (Some next)
      → Prints (lines ++ line ∷ []) new after next
  line_printed lines line mid new after mine next h w = record {
    bytes = h.bytes ++ w.bytes;
    session = session_more answers old mid new lines line h.bytes w.bytes h.session w.writes;
    passes = record {
      taken = h.passes.taken;
      appends = h.passes.appends;
      splits = sym (append_assoc held h.bytes w.bytes) ∙ ap (λ b. b ++ w.bytes) h.passes.splits
          ∙ append_assoc h.passes.taken mine w.bytes ∙ ap (λ b. h.passes.taken ++ b) (sym w.appends);
    };
  }

  -- what is held back is written, or a prefix of it
  passed_on : (lines : List (List ℕ)) (new : S) (mid after : Option (List ℕ)) (mine left : List ℕ)
      → Prints lines new mid mine → Passes mid after mine [] left → Prints lines new after left
  passed_on lines new mid after mine left h p = record {
    bytes = h.bytes;
    session = h.session;
    passes = record {
      taken = h.passes.taken ++ p.taken;
      appends = Appends-trans before mid after h.passes.taken p.taken h.passes.appends p.appends;
      splits = h.passes.splits ∙ ap (λ b. h.passes.taken ++ b) (sym (append-nil mine) ∙ p.splits)
          ∙ sym (append_assoc h.passes.taken p.taken left);
    };
  }

  -- after the first i lines, when `mine` is held back
  module _ {X : Type 0} (f : X → List ℕ) (xs : List X) (i : ℕ) (mid : S) (between : Option (List ℕ)) (mine : List ℕ)
      (h : Prints (map f (take i xs)) mid between mine) where
    -- the next line
    pub next_line : (d : X) (new : S) (after : Option (List ℕ)) (next left : List ℕ) → i < length xs
        → WritesLine answers mid (f (get_or xs i d)) new (Some mine) (Some next) → Passes between after next [] left
        → Prints (map f (take (i + 1) xs)) new after left
    next_line d new after next left within w p =
        let so_far : List (List ℕ) = map f (take i xs) in
        let line : List ℕ = f (get_or xs i d) in
        subst (λ lines. Prints lines new after left) (sym (map_more f xs i d within))
        (passed_on (so_far ++ line ∷ []) new between after next left
        (line_printed so_far line mid new between mine next h w) p)

    -- the next line returns Memory
    pub line_refused : (d : X) (new : S) (left : List ℕ) (refusal : Refusal) → refusal ≡ Memory → left ≡ mine
        → i < length xs → LineStops answers mid (f (get_or xs i d)) new
        → PrintsSome answers old (map f xs) new before between held left refusal
    line_refused d new left refusal e same within stops =
        let some = subst (λ lines. Prints lines mid between mine) (sym (take-map f i xs)) h in
        let at = subst (λ line. LineStops answers mid line new) (sym (get_or-map f xs i d [] within)) stops in
        subst (PrintsSome answers old (map f xs) new before between held left) (sym e)
        (i, (mid, (subst (Prints (take i (map f xs)) mid between) (sym same) some, at)))

    -- a write fails after the next line
    pub write_refused : (d : X) (new : S) (after : Option (List ℕ)) (next left : List ℕ) (refusal : Refusal)
        → refusal ≡ Io → left ≡ [] → i < length xs
        → WritesLine answers mid (f (get_or xs i d)) new (Some mine) (Some next) → AppendsFront between after next
        → PrintsSome answers old (map f xs) new before after held left refusal
    write_refused d new after next left refusal e none within w k =
        let more = next_line d new after next k.rest within w (front_written between after next k) in
        let some = subst (λ lines. Prints lines new after k.rest) (sym (take-map f (i + 1) xs)) more in
        subst (PrintsSome answers old (map f xs) new before after held left) (sym e) (none, (i + 1, (k.rest, some)))
