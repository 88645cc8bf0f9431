-- Decoding continues after the kept bytes were completed.
use Rattle.std.proofs.Common.{◌≡◌, ℕ, List, [], ◌∷◌, ◌++◌, length, drop, map, flat_map, refl, sym, ap, ◌∙◌, codes}
use Rattle.std.proofs.Common.{drop_at}
use Rattle.std.specs.Str.{chars}
use Rattle.tendril_lossy.specs.Completions.{CompletesTo, BreaksAt, StillOpen}
use Rattle.tendril_lossy.specs.Lossy.{Item, Keep, Bad, Cut, Char, lossy, closed_of, due_open, cut_bytes, kept, replaced}
use Rattle.tendril_lossy.proofs.Fronts.{text_first}
use Rattle.tendril_lossy.proofs.Streams.{IsLossy-lossy, only_lossy}

-- the output of a text that bytes begin with is its characters

pub closed-keeps : (cs : List ℕ) (items : List Item) → flat_map closed_of (map Keep cs ++ items)
    ≡ map Char cs ++ flat_map closed_of items
closed-keeps [] items = refl
closed-keeps (c ∷ cs) items = ap (λ l. Char c ∷ l) (closed-keeps cs items)

pub cut-keeps : (cs : List ℕ) (items : List Item) → cut_bytes (map Keep cs ++ items) ≡ cut_bytes items
cut-keeps [] items = refl
cut-keeps (c ∷ cs) items = cut-keeps cs items

pub after_text : (k input t rest : List ℕ) → CompletesTo k input t rest
    → (due_open (k ++ input) ≡ map Char (chars t) ++ due_open rest) × (kept (k ++ input) ≡ kept rest)
after_text k input t rest h =
    let items : lossy (k ++ input) ≡ map Keep (chars t) ++ lossy rest = ap lossy h.all
    ∙ text_first t rest h.longest.text in (
      ap (flat_map closed_of) items ∙ closed-keeps (chars t) (lossy rest),
      ap cut_bytes items
          ∙ cut-keeps (chars t) (lossy rest),
    )

pub after_broken : (k input b rest : List ℕ) → BreaksAt k input b rest
    → (due_open (k ++ input) ≡ replaced (codes "invalid byte sequence") ++ due_open rest)
    × (kept (k ++ input) ≡ kept rest)
after_broken k input b rest h =
    let left : drop (length b) (k ++ input) ≡ rest = ap (drop (length b)) h.all ∙ drop_at b rest (length b) refl in
    let items : lossy (k ++ input) ≡ Bad (length b) ∷ lossy rest =
    sym (only_lossy (k ++ input) (Bad (length b) ∷ lossy (drop (length b) (k ++ input)))
    (h.none, h.closed, h.maximal, IsLossy-lossy (drop (length b) (k ++ input))))
    ∙ ap (λ l. Bad (length b) ∷ lossy l) left in
    (ap (flat_map closed_of) items, ap cut_bytes items)

pub still_open : (k input held : List ℕ) → StillOpen k input held → (due_open (k ++ input) ≡ [])
    × (kept (k ++ input) ≡ held)
still_open k input held h =
    let items : lossy held ≡ Cut held ∷ [] = sym (only_lossy held (Cut held ∷ []) (h.some, refl, h.waits, refl)) in
    (ap due_open (sym h.all) ∙ ap (flat_map closed_of) items, ap kept (sym h.all) ∙ ap cut_bytes items)
