use Rattle.std.proofs.Common.{◌<◌, ◌∙◌, ap, arith, get_or, subst, sym}
use Rattle.tendril_fmt.proofs.Lanes.{lanes_divide}
use Rattle.tendril_fmt.proofs.UnitPlaces.{digits, row_below, row_places}
use Rattle.tendril_fmt.proofs.fmt.unit_blocks.places_of.Goals as goal

pub nonzero_rem-even : goal.nonzero_rem-even
nonzero_rem-even c = lanes_divide 4 16 c.to_le_bytes-packed.result (omega arith)

pub nonzero_div-odd : goal.nonzero_div-odd
nonzero_div-odd c = lanes_divide 4 16 c.to_le_bytes-packed.result (omega arith)

pub returns-clause-places : goal.returns-clause-places
returns-clause-places c bytes k long mark within =
    ap (λ l. get_or (digits l) k 0) c.to_le_bytes-packed.ensures ∙ row_places bytes c.args.marks k long mark within

pub returns-clause-below : goal.returns-clause-below
returns-clause-below c k lt =
    subst (λ l. get_or (digits l) k 0 < 8) (sym c.to_le_bytes-packed.ensures) (row_below c.args.marks k c.requires)
