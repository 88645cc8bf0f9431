-- The search of a table, row by row.
use Rattle.std.proofs.Common.{
  ◌≡◌,
  ℕ,
  suc,
  ◌+◌,
  ◌<◌,
  ◌↔◌,
  IsTrue,
  Bool,
  true,
  false,
  cond,
  List,
  ◌∷◌,
  length,
  get_or,
  drop,
  map,
  Some,
  sym,
  ap,
  refl,
  add-one,
  drop-cons,
}
use Rattle.std.specs.Prelude.{option_map, bytes_eq}
use Rattle.std.specs.List.{find}
use Rattle.std.proofs.lemmas.Slice.Eq.{bytes_eq-Decides}
use Rattle.tendril_labels.specs.Labels.{lookup, row_of}
use Rattle.tendril_labels.specs.declared.label.Label.{Label}

-- a test of equality gives what `bytes_eq` does
same_test : (b : Bool) (xs ys : List ℕ) → IsTrue b ↔ (xs ≡ ys) → bytes_eq xs ys ≡ b
same_test true xs ys s = (bytes_eq-Decides xs ys).1 (s.0 refl)
same_test false xs ys s =
    elim (bytes_eq xs ys) as (λ t. (t ≡ true → xs ≡ ys) → t ≡ false) [
      | true ↦ λ eq. sym (s.1 (eq refl))
      | false ↦ λ eq. refl
    ] (bytes_eq-Decides xs ys).0

-- the search, once the test of the first row is known
at_first : (row : Label) (rows : List Label) (label : List ℕ) (b : Bool) → bytes_eq label row.label.now ≡ b
    → lookup (map row_of (row ∷ rows)) label ≡ cond b (Some row.encoding) (lookup (map row_of rows) label)
at_first row rows label true e =
    ap (λ t. option_map (λ r. r.1) (cond t (Some (row_of row)) (find (λ r. bytes_eq label r.0) (map row_of rows)))) e
at_first row rows label false e =
    ap (λ t. option_map (λ r. r.1) (cond t (Some (row_of row)) (find (λ r. bytes_eq label r.0) (map row_of rows)))) e

-- the search from the row i on, once the test of that row is known
pub at_row : (rows : List Label) (label : List ℕ) (i : ℕ) (d : Label) (b : Bool) → i < length rows
    → IsTrue b ↔ (label ≡ (get_or rows i d).label.now)
    → lookup (map row_of (drop i rows)) label
    ≡ cond b (Some (get_or rows i d).encoding) (lookup (map row_of (drop (i + 1) rows)) label)
at_row rows label i d b within s =
    rw (drop-cons rows i d within, add-one)
    (at_first (get_or rows i d) (drop (suc i) rows) label b (same_test b label (get_or rows i d).label.now s))
