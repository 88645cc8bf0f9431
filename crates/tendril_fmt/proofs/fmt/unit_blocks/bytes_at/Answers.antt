use Rattle.tendril_fmt.proofs.UnitLanes.{places_fit, bytes_found}
use Rattle.tendril_fmt.proofs.fmt.unit_blocks.bytes_at.Goals as goal

pub swizzle : goal.swizzle
swizzle c = places_fit c.args.block c.args.places c.fits-block.0 c.fits-places.0 c.requires

pub returns : goal.returns
returns c k lt = bytes_found c.args.block c.args.places c.fits-block.0 c.fits-places.0 c.requires k lt
