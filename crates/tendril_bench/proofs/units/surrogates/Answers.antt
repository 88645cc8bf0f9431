use Rattle.std.proofs.Common.{◌||◌, arith}
use Rattle.std.proofs.lemmas.List.Sums.{count_by-le-length}
use Rattle.std.proofs.lemmas.Grind.{common_steps}
use Rattle.std.specs.Char.Utf16.{is_high_surrogate, is_low_surrogate}
use Rattle.tendril.specs.Fmt.Wtf8.{units}
use Rattle.tendril_bench.proofs.UnitLengths.{length-units}
use Rattle.tendril_bench.proofs.units.surrogates.Goals as goal

pub overflow_add-count : goal.overflow_add-count
overflow_add-count c =
    let bytes = c.args.text.now.bytes in
    let few = count_by-le-length (λ u. is_high_surrogate u || is_low_surrogate u) (units bytes) in
    let fits = length-units bytes c.as_byte_slice.ensures.valid in
    let short = c.as_byte_slice.ensures.short in
    grind (arith, common_steps, few, fits, short)
