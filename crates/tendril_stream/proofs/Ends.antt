-- The decoding of kept bytes that a stream ends with.
use Rattle.std.proofs.Common.{◌≡◌, ℕ, ◌<◌, List, [], ◌∷◌, length, flat_map, refl, sym, ap, ◌∙◌, codes}
use Rattle.std.proofs.lemmas.List.{nil_from_length}
use Rattle.tendril_lossy.proofs.Lossy.{lossy-nil}
use Rattle.tendril_lossy.proofs.Streams.{only_lossy}
use Rattle.tendril_lossy.specs.Lossy.{Cut, IsIncomplete, due, due_of, replaced}

pub due_held : (k : List ℕ) → IsIncomplete k → 0 < length k
    → due k ≡ replaced (codes "incomplete byte sequence at end of stream")
due_held k waits some = ap (flat_map due_of) (sym (only_lossy k (Cut k ∷ []) (some, refl, waits, refl)))

pub due_none : (k : List ℕ) → length k ≡ 0 → due k ≡ []
due_none k none = ap due (nil_from_length k none) ∙ ap (flat_map due_of) lossy-nil
