use Rattle.std.proofs.Common.{◌≡◌, IsUtf8, map, rules, subst, sym}
use Rattle.std.specs.Char.{to_ascii_lowercase}
use Rattle.tendril_text.proofs.Cases.{IsUtf8-lower}
use Rattle.tendril_text.proofs.tendril.write.Tendril+UTF8+A.make_ascii_lowercase.Goals as goal

pub invariant_of-self : goal.invariant_of-self
invariant_of-self g c = subst (λ s. IsUtf8 s.bytes) (sym c.in_err-write_over.ensures.err.0) c.self.invariant

pub invariant_of-self-2 : goal.invariant_of-self-2
invariant_of-self-2 g c =
    let lower : c.write_over.new.self.bytes ≡ map to_ascii_lowercase c.self.inside.storage.bytes = search rules in
    subst IsUtf8 (sym lower) (IsUtf8-lower c.self.inside.storage.bytes c.self.invariant)
