-- The lines of replies.
use Rattle.std.specs.Prelude.{ℕ, List, ◌++◌, codes, Some, None}
use Rattle.std.specs.Fmt.{decimal}
use Rattle.tendril_errors.specs.Refusals.{refusal_text}
use Rattle.tendril_lines.specs.Names.{kind_name, comparison_name}
use Rattle.tendril_lines.specs.declared.command.Reply.{Reply}
use Rattle.tendril_lines.specs.declared.command.Reply.TheVariants.{
  Done,
  Made,
  Char,
  Run,
  Compared,
  Text,
  Units,
  Refused,
}
use Rattle.tendril_lines.specs.Words.{hex_text, big_endian}

-- a reply's line
abbrev pub printed : Reply → List ℕ
printed Done = codes "ok"
printed (Made slot) = codes "slot " ++ decimal slot
printed (Char None) = codes "none"
printed (Char (Some c)) = codes "char " ++ decimal c
printed (Run None) = codes "none"
printed (Run (Some (slot, class))) = codes "run " ++ decimal slot ++ codes " " ++ decimal class
printed (Compared comparison) = comparison_name comparison
printed (Text kind b) = kind_name kind ++ codes " " ++ hex_text b
printed (Units us) = codes "units " ++ hex_text (big_endian us)
printed (Refused r) = codes "refused " ++ refusal_text r
