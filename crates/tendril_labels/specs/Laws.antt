-- Laws of labels.
use Rattle.std.specs.Prelude.{◌≡◌, map, Some}
use Rattle.tendril_labels.specs.Encodings.{encoding_name}
use Rattle.tendril_labels.specs.Labels.{encoding_of}
use Rattle.tendril_labels.specs.Table.{labels}
use Rattle.tendril_labels.specs.declared.encoding.Encoding.{Encoding}

-- each encoding's name is one of its labels
abbrev pub NamesAreLabels : Type 0
NamesAreLabels = (e : Encoding) → encoding_of (encoding_name e) ≡ Some e

-- each label of the table names the encoding of its row
abbrev pub RowsAreFound : Type 0
RowsAreFound = map (λ row. encoding_of row.0) labels ≡ map (λ row. Some row.1) labels
