-- The end of a stream.
use Rattle.std.proofs.Common.{◌≡◌, ℕ, Bool, true, List, [], ◌++◌, map, sym, ap, ◌∙◌, append-nil}
use Rattle.std.specs.Str.{all_scalars, encode_utf8_all}
use Rattle.tendril_lossy.specs.Lossy.{Char}
use Rattle.tendril_decode.specs.Machines.{Machine, EndsTo, broken_marks}

-- characters and then perhaps a malformed sequence, after which the end tells nothing
pub EndsTo-last : {S : Type 0} (m : Machine S) (s t : S) (cs text : List ℕ) (broken : Bool) → all_scalars cs ≡ true
    → text ≡ encode_utf8_all cs → m.ends s ≡ map Char cs ++ broken_marks broken → m.ends t ≡ []
    → EndsTo m s text broken t
EndsTo-last m s t cs text broken scalars written told last = record {
  characters = cs;
  scalars = scalars;
  written = written;
  told = told ∙ ap (λ l. map Char cs ++ l)
      (sym (append-nil (broken_marks broken)) ∙ ap (λ l. broken_marks broken ++ l) (sym last));
  stops = λ _. last;
}
