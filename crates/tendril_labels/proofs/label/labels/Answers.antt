use Rattle.std.proofs.Common.{refl}
use Rattle.tendril_labels.specs.Table.{labels as table}
use Rattle.tendril_labels.proofs.label.labels.Goals as goal

pub returns : goal.returns
unfolding table
returns c = refl
