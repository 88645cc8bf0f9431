-- The lines of replies of a table with ropes.
use Rattle.std.specs.Prelude.{ℕ, List, ◌++◌, codes}
use Rattle.std.specs.Fmt.{decimal}
use Rattle.rope_run.specs.declared.command.RopeReply.{RopeReply}
use Rattle.rope_run.specs.declared.command.RopeReply.TheVariants.{Plain, MadeRope, Length}
use Rattle.tendril_lines.specs.Printed.{printed}

-- a reply's line
abbrev pub rope_printed : RopeReply → List ℕ
rope_printed (Plain reply) = printed reply
rope_printed (MadeRope rope) = codes "rope " ++ decimal rope
rope_printed (Length count) = codes "length " ++ decimal count
