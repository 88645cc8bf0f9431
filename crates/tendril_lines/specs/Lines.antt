-- Lines of commands: the verb of each command, and the values of the words after it.
use Rattle.std.specs.Prelude.{ℕ, List, codes}
use Rattle.tendril_lines.specs.Shapes.{AreVerbAndWords}
use Rattle.tendril_lines.specs.Words.{words}
use Rattle.tendril_lines.specs.declared.change.ByteEdit.TheVariants as byte_edit
use Rattle.tendril_lines.specs.declared.change.Change.TheVariants as change
use Rattle.tendril_lines.specs.declared.change.Conversion.TheVariants as conversion
use Rattle.tendril_lines.specs.declared.change.Edit.TheVariants as edit
use Rattle.tendril_lines.specs.declared.command.Command.{Command}
use Rattle.tendril_lines.specs.declared.command.Command.TheVariants.{
  New,
  FromBytes,
  PushBytes,
  PushTendril,
  Change,
  Slice,
  PopChar,
  PopRun,
  Clone,
  Compare,
  Text,
  FromUnits,
  Units,
}
use Rattle.tendril_lines.specs.declared.shape.Value.TheVariants.{
  Slot,
  Number,
  Character,
  Format,
  Bytes,
  Byte,
  Units16,
}
use Rattle.tendril_lines.specs.declared.shape.Values.{Values}
use Rattle.tendril_lines.specs.declared.shape.Values.TheVariants.{One, Two, Three}

-- the verb of a command, and the values of the words after it
abbrev pub words_of : Command → List ℕ × Values
words_of (New kind) = (codes "new", One (Format kind))
words_of (FromBytes kind b) = (codes "from", Two (Format kind) (Bytes b))
words_of (PushBytes slot b) = (codes "push", Two (Slot slot) (Bytes b))
words_of (PushTendril to from) = (codes "join", Two (Slot to) (Slot from))
words_of (Change slot (change.PushChar c)) = (codes "char", Two (Slot slot) (Character c))
words_of (Change slot (change.EditBytes (byte_edit.PushZeros count))) = (codes "zeros", Two (Slot slot) (Number count))
words_of (Slice slot offset length) = (codes "slice", Three (Slot slot) (Number offset) (Number length))
words_of (Change slot (change.Edit (edit.PopFront count))) = (codes "front", Two (Slot slot) (Number count))
words_of (Change slot (change.Edit (edit.PopBack count))) = (codes "back", Two (Slot slot) (Number count))
words_of (PopChar slot) = (codes "pop", One (Slot slot))
words_of (PopRun slot) = (codes "run", One (Slot slot))
words_of (Clone slot) = (codes "clone", One (Slot slot))
words_of (Change slot (change.Edit edit.Clear)) = (codes "clear", One (Slot slot))
words_of (Change slot (change.Edit (edit.Reserve more))) = (codes "reserve", Two (Slot slot) (Number more))
words_of (Change slot (change.Convert (conversion.Reinterpret kind))) = (codes "as", Two (Slot slot) (Format kind))
words_of (Change slot (change.Convert (conversion.ToSuperset kind))) = (codes "up", Two (Slot slot) (Format kind))
words_of (Change slot (change.Convert (conversion.ToSubset kind))) = (codes "down", Two (Slot slot) (Format kind))
words_of (Change slot (change.EditBytes (byte_edit.WriteByte index b))) =
    (codes "set", Three (Slot slot) (Number index) (Byte b))
words_of (Compare first second) = (codes "cmp", Two (Slot first) (Slot second))
words_of (Text slot) = (codes "text", One (Slot slot))
words_of (Change slot change.ThroughSend) = (codes "send", One (Slot slot))
words_of (Change slot change.Drop) = (codes "drop", One (Slot slot))
words_of (FromUnits us) = (codes "from16", One (Units16 us))
words_of (Units slot) = (codes "units", One (Slot slot))

-- this is the line of the command
abbrev pub IsLine : Command → List ℕ → Type 0
IsLine command line = AreVerbAndWords (words_of command) (words line)
