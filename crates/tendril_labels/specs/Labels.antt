-- The encoding of a label.
use Rattle.std.specs.Prelude.{ℕ, ◌-◌, List, length, take, drop, map, Option, option_map, bytes_eq}
use Rattle.std.specs.Char.{is_ascii_whitespace, to_ascii_lowercase}
use Rattle.std.specs.List.{find, prefix_len, suffix_len}
use Rattle.tendril_labels.specs.declared.encoding.Encoding.{Encoding}
use Rattle.tendril_labels.specs.declared.label.Label.{Label}
use Rattle.tendril_labels.specs.Table.{labels}

-- bytes without the white space before them, and without that after them: 09, 0A, 0C, 0D and 20
abbrev pub trimmed_start : List ℕ → List ℕ
trimmed_start bytes = drop (prefix_len is_ascii_whitespace bytes) bytes

abbrev pub trimmed_end : List ℕ → List ℕ
trimmed_end bytes = take (length bytes - suffix_len is_ascii_whitespace bytes) bytes

abbrev pub trimmed : List ℕ → List ℕ
trimmed bytes = trimmed_end (trimmed_start bytes)

-- the label that bytes are: without the white space around it, letters of ASCII in lower case
abbrev pub label_of : List ℕ → List ℕ
label_of bytes = map to_ascii_lowercase (trimmed bytes)

-- the encoding of the first row with the label
abbrev pub lookup : List (List ℕ × Encoding) → List ℕ → Option Encoding
lookup rows label = option_map (λ row. row.1) (find (λ row. bytes_eq label row.0) rows)

-- the encoding that bytes name
unfoldable pub encoding_of : List ℕ → Option Encoding
encoding_of bytes = lookup labels (label_of bytes)

-- a row as a label and its encoding
abbrev pub row_of : Label → List ℕ × Encoding
row_of row = (row.label.now, row.encoding)
