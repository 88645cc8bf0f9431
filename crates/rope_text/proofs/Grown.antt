-- Ropes that grow.
use Rattle.std.proofs.Common.{◌≡◌, ◌<◌, List, [], ◌∷◌, ◌++◌, length, sym, ap, ◌∙◌}
use Rattle.rope_text.specs.Growth.{IsLonger}
use Rattle.rope_text.specs.Ropes.{RopeText}
use Rattle.tendril_text.proofs.TextLists.{joined-append, joined_push, unless_empty_some}
use Rattle.tendril_text.specs.TextLists.{unless_empty, bytes_of_all}
use Rattle.tendril_text.specs.Texts.{Text}

-- a text that isn't empty is appended
pub longer_by : (xs zs : List Text) (t : Text) (rope : RopeText) → zs ≡ xs ++ t ∷ [] → 0 < length t.bytes
    → record { bytes = bytes_of_all xs; pieces = xs } ≡ rope
    → IsLonger rope t.bytes (unless_empty t) (record { bytes = bytes_of_all zs; pieces = zs })
longer_by xs zs t rope e some is = record {
  bytes = ap bytes_of_all e ∙ joined_push xs t ∙ ap (λ (r : RopeText). r.bytes ++ t.bytes) is;
  pieces = e ∙ ap (λ (r : RopeText). r.pieces ++ t ∷ []) is
      ∙ ap (λ l. rope.pieces ++ l) (sym (unless_empty_some t some));
}

-- the pieces of another rope are appended
pub longer_all : (xs ys zs : List Text) (rope more : RopeText) → zs ≡ xs ++ ys
    → record { bytes = bytes_of_all xs; pieces = xs } ≡ rope → record { bytes = bytes_of_all ys; pieces = ys } ≡ more
    → IsLonger rope more.bytes more.pieces (record { bytes = bytes_of_all zs; pieces = zs })
longer_all xs ys zs rope more e is is' = record {
  bytes = ap bytes_of_all e ∙ joined-append xs ys ∙ ap (λ (r : RopeText). r.bytes ++ bytes_of_all ys) is
      ∙ ap (λ (r : RopeText). rope.bytes ++ r.bytes) is';
  pieces = e ∙ ap (λ (r : RopeText). r.pieces ++ ys) is ∙ ap (λ (r : RopeText). rope.pieces ++ r.pieces) is';
}
