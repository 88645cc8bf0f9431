-- Lines of commands on ropes: the verb of each command, and the values of the words after it.
use Rattle.std.specs.Prelude.{ℕ, List, codes}
use Rattle.rope_run.specs.declared.command.RopeCommand.{RopeCommand}
use Rattle.rope_run.specs.declared.command.RopeCommand.TheVariants.{
  OnSlots,
  RopeNew,
  RopePush,
  RopeAppend,
  RopeLen,
  RopePopChar,
  RopeSub,
  RopeTake,
  RopeDrop,
}
use Rattle.tendril_lines.specs.Lines.{words_of}
use Rattle.tendril_lines.specs.Shapes.{AreVerbAndWords}
use Rattle.tendril_lines.specs.Words.{words}
use Rattle.tendril_lines.specs.declared.shape.Value.TheVariants.{Long, Slot}
use Rattle.tendril_lines.specs.declared.shape.Values.{Values}
use Rattle.tendril_lines.specs.declared.shape.Values.TheVariants.{Empty, One, Two, Three}

-- the verb of a command, and the values of the words after it; a command on slots has those of its own line
abbrev pub rope_words_of : RopeCommand → List ℕ × Values
rope_words_of (OnSlots command) = words_of command
rope_words_of RopeNew = (codes "rope", Empty)
rope_words_of (RopePush rope slot) = (codes "rpush", Two (Slot rope) (Slot slot))
rope_words_of (RopeAppend to from) = (codes "rjoin", Two (Slot to) (Slot from))
rope_words_of (RopeLen rope) = (codes "rlen", One (Slot rope))
rope_words_of (RopePopChar rope) = (codes "rpop", One (Slot rope))
rope_words_of (RopeSub rope offset count) = (codes "rsub", Three (Slot rope) (Long offset) (Long count))
rope_words_of (RopeTake rope) = (codes "rtake", One (Slot rope))
rope_words_of (RopeDrop rope) = (codes "rdrop", One (Slot rope))

-- this is a command on ropes
abbrev pub OnRopes : RopeCommand → Type 0
OnRopes (OnSlots command) = ⊥
OnRopes RopeNew = Unit {0}
OnRopes (RopePush rope slot) = Unit {0}
OnRopes (RopeAppend to from) = Unit {0}
OnRopes (RopeLen rope) = Unit {0}
OnRopes (RopePopChar rope) = Unit {0}
OnRopes (RopeSub rope offset count) = Unit {0}
OnRopes (RopeTake rope) = Unit {0}
OnRopes (RopeDrop rope) = Unit {0}

-- this is the line of the command
abbrev pub IsRopeLine : RopeCommand → List ℕ → Type 0
IsRopeLine command line = AreVerbAndWords (rope_words_of command) (words line)
