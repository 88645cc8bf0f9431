use Rattle.std.proofs.Common.{rules, ◌≡◌, ℕ, List, refl}
use Rattle.std.proofs.lemmas.Str.Ascii.{trim_ascii_is}
use Rattle.std.specs.Str.{IsTrimAscii}
use Rattle.tendril_labels.specs.Labels.{trimmed, trimmed_start}
use Rattle.tendril_labels.proofs.label.trim.Goals as goal

-- what std says of trimming, as an equation
trim_is : (s r : List ℕ) → IsTrimAscii s r → r ≡ trimmed s
trim_is s r t = trim_ascii_is s r (trimmed_start s) refl t

pub returns : goal.returns
returns c = search (rules, trim_is)
