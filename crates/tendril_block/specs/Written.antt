-- A handle after its body was overwritten.
use Rattle.tendril_block.specs.declared.node.handle.Handle.{Handle}
use Rattle.tendril_block.specs.Owned.{BodyIn}

abbrev pub with_body : {K : Type 0} → Handle K → BodyIn → Handle K
with_body d w = record { node = d.node; alloc = d.alloc; kind = d.kind; limit = d.limit; inner = w }
