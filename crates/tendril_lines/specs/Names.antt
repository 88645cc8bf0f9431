-- The names of formats and of comparisons in lines.
use Rattle.std.specs.Prelude.{ℕ, List, codes}
use Rattle.tendril_lines.specs.declared.command.Comparison.{Comparison}
use Rattle.tendril_lines.specs.declared.command.Comparison.TheVariants.{Less, Equal, Greater, Differ}
use Rattle.tendril_lines.specs.declared.kind.Kind.{Kind}
use Rattle.tendril_lines.specs.declared.kind.Kind.TheVariants.{Bytes, Ascii, Utf8, Wtf8, Latin1}

-- the name of a format
abbrev pub kind_name : Kind → List ℕ
kind_name Bytes = codes "bytes"
kind_name Ascii = codes "ascii"
kind_name Utf8 = codes "utf8"
kind_name Wtf8 = codes "wtf8"
kind_name Latin1 = codes "latin1"

-- the name of a comparison
abbrev pub comparison_name : Comparison → List ℕ
comparison_name Less = codes "less"
comparison_name Equal = codes "equal"
comparison_name Greater = codes "greater"
comparison_name Differ = codes "differ"
