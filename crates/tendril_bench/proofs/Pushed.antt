-- The characters of texts after pushes.
use Rattle.std.proofs.Common.{◌≡◌, ◌∙◌, ℕ, List, [], ◌∷◌, ◌++◌, map, flat_map, refl, sym, ap, Option, Some, None}
use Rattle.std.proofs.Common.{Result, Ok, Err, IsUtf8, append-nil, append_assoc}
use Rattle.std.specs.Prelude.{MatchOption, chars, OnOk, encode_utf8}
use Rattle.std.proofs.lemmas.Str.{chars-append, IsUtf8-encode, chars_from_encodes}
use Rattle.tendril.specs.Refusal.{Refusal}
use Rattle.tendril.specs.Texts.{Text}
use Rattle.tendril.specs.Pushes.{Joins}
use Rattle.tendril.specs.Decoding.{PopsText, bytes_of}
use Rattle.tendril.specs.Lossy.{IsIncomplete, Item, Keep, Bad, Cut, lossy, closed_of, characters, due_open, kept}
use Rattle.tendril.specs.Lossy.{cut_bytes}
use Rattle.tendril.specs.Ending.TheVariants.{Whole, Broken, Open}

-- r is what `IncompleteUtf8::new` returns for xs
abbrev pub Takes : List ℕ → Option (List ℕ) → Type 0
Takes xs r = MatchOption r (IsIncomplete xs → ⊥) (λ k. IsIncomplete xs × (k ≡ xs))

cut_after : (cs : List ℕ) (items : List Item) → cut_bytes (map Keep cs ++ items) ≡ cut_bytes items
cut_after [] items = refl
cut_after (c ∷ cs) items = cut_after cs items

pub pushed : (r : Result (Unit {0}) Refusal) (old new : Text) (more : List ℕ) → IsUtf8 old.bytes
    → Joins (λ a b. a ++ b) more old r new → OnOk r (chars new.bytes ≡ chars old.bytes ++ chars more)
pushed (Ok r) old new more u h = ap chars h.outcome.1 ∙ chars-append old.bytes more u
pushed (Err e) old new more u h = tt

pub replacement : chars (encode_utf8 0xFFFD) ≡ 0xFFFD ∷ []
replacement = sym (chars_from_encodes (0xFFFD ∷ []) (encode_utf8 0xFFFD) (IsUtf8-encode 0xFFFD refl)
    (append-nil (encode_utf8 0xFFFD)))

tell_front : (cs : List ℕ) (items : List Item) → characters (flat_map closed_of (map Keep cs ++ items))
    ≡ cs ++ characters (flat_map closed_of items)
tell_front [] items = refl
tell_front (c ∷ cs) items = ap (λ l. c ∷ l) (tell_front cs items)

-- the decoding of bytes that begin with a text
pub due_front : (bs cs : List ℕ) (items : List Item) → lossy bs ≡ map Keep cs ++ items → characters (due_open bs)
    ≡ cs ++ characters (flat_map closed_of items)
due_front bs cs items e = ap (λ l. characters (flat_map closed_of l)) e ∙ tell_front cs items

-- the decoding of bytes from which a text was popped

pub pops_whole : (old new : Text) (part : Option Text) → PopsText old part Whole new
    → (characters (due_open old.bytes) ≡ chars (bytes_of part)) × (kept old.bytes ≡ [])
pops_whole old new part h =
    let cs = chars (bytes_of part) in
    let items : lossy old.bytes ≡ map Keep cs ++ [] = h.items ∙ ap (λ l. map Keep cs ++ l) h.leaves.0 in
    (due_front old.bytes cs [] items ∙ append-nil cs, ap cut_bytes items ∙ cut_after cs [])

pub pops_open : (old new : Text) (part : Option Text) → PopsText old part Open new
    → (characters (due_open old.bytes) ≡ chars (bytes_of part)) × (kept old.bytes ≡ new.bytes) × IsIncomplete new.bytes
pops_open old new part h =
    let cs = chars (bytes_of part) in
    let items : lossy old.bytes ≡ map Keep cs ++ Cut new.bytes ∷ [] =
    h.items ∙ ap (λ l. map Keep cs ++ l) h.leaves.0 in (
      due_front old.bytes cs (Cut new.bytes ∷ []) items ∙ append-nil cs,
      ap cut_bytes items ∙ cut_after cs (Cut new.bytes ∷ []),
      h.leaves.2,
    )

pub pops_broken : (old new : Text) (part : Option Text) (k : ℕ) → PopsText old part (Broken k) new
    → (characters (due_open old.bytes) ≡ chars (bytes_of part) ++ 0xFFFD ∷ characters (due_open new.bytes))
    × (kept old.bytes ≡ kept new.bytes)
pops_broken old new part k h =
    let cs = chars (bytes_of part) in
    let items : lossy old.bytes ≡ map Keep cs ++ Bad k ∷ lossy new.bytes = h.items
    ∙ ap (λ l. map Keep cs ++ l) h.leaves.0 in (
      due_front old.bytes cs (Bad k ∷ lossy new.bytes) items,
      ap cut_bytes items
          ∙ cut_after cs (Bad k ∷ lossy new.bytes),
    )

-- the pushes of one iteration
pub turn : (now mid new cs more all due : List ℕ) → mid ≡ now ++ cs → new ≡ mid ++ 0xFFFD ∷ []
    → due ≡ cs ++ 0xFFFD ∷ more → now ++ due ≡ all → new ++ more ≡ all
turn now mid new cs more all due p q d so =
    ap (λ l. l ++ more) (q ∙ ap (λ l. l ++ 0xFFFD ∷ []) p) ∙ append_assoc (now ++ cs) (0xFFFD ∷ []) more
    ∙ append_assoc now cs (0xFFFD ∷ more) ∙ ap (λ l. now ++ l) (sym d) ∙ so

pub held : (bs ks : List ℕ) (r : Option (List ℕ)) → ks ≡ bs → IsIncomplete bs → Takes bs r
    → MatchOption r (ks ≡ []) (λ k. k ≡ ks)
held bs ks None e o h = absurd (h o)
held bs ks (Some k) e o h = h.1 ∙ sym e
