-- The errors of slices, pops and splits.
use Rattle.tendril_errors.specs.declared.refusal.Refusal.{Refusal}
use Rattle.tendril_errors.specs.declared.refusal.Refusal.TheVariants as refusal
use Rattle.tendril_errors.specs.declared.subtendril_error.SubtendrilError.{SubtendrilError}
use Rattle.tendril_errors.specs.declared.subtendril_error.SubtendrilError.TheVariants.{
  OutOfBounds,
  ValidationFailed,
  Count,
}

-- the `Refusal` of the same name
abbrev pub refusal_of : SubtendrilError → Refusal
refusal_of OutOfBounds = refusal.OutOfBounds
refusal_of ValidationFailed = refusal.ValidationFailed
refusal_of Count = refusal.Count
