-- The bytes that records spell, and the bytes of a text that they don't.
use Rattle.std.specs.Prelude.{ℕ, ◌≡◌, ◌<◌, ◌⊎◌, Bool, true, ◌==◌, ◌||◌, not, List, [], ◌∷◌, ◌++◌, length, map, flat_map}
use Rattle.std.specs.Prelude.{Result, OnOk, OnErr}
use Rattle.std.specs.List.{filter, join_with_byte}
use Rattle.tendril.specs.Texts.{Text}
use Rattle.use_csv.specs.declared.partial.PartialRecord.{PartialRecord}
use Rattle.use_csv.specs.declared.record.Record.{Record}

-- the bytes of fields, with a comma between each two
abbrev pub joined_fields : List Text → List ℕ
joined_fields fields = join_with_byte 44 (map (λ f. f.bytes) fields)

-- what an incomplete record spells: its fields, and the bytes of one more
abbrev pub partial_bytes : PartialRecord → List ℕ
partial_bytes row = join_with_byte 44 (map (λ f. f.bytes) row.fields.items ++ row.field.bytes ∷ [])

-- what records spell, one after another
abbrev pub record_bytes : List Record → List ℕ
record_bytes records = flat_map (λ r. joined_fields r.fields.items) records

-- what records and an incomplete one spell
abbrev pub spelled_so_far : List Record → PartialRecord → List ℕ
spelled_so_far records partial = record_bytes records ++ partial_bytes partial

-- whether a byte is a quote or part of a line end
abbrev pub is_mark : ℕ → Bool
is_mark b = b == 34 || b == 13 || b == 10

-- bytes without quotes and line ends
abbrev pub unmarked : List ℕ → List ℕ
unmarked bytes = filter (λ b. not (is_mark b)) bytes

-- bytes move from what is left to what is spelled, or one quote or byte of a line end is dropped from what is left
abbrev pub TakesCsv : List ℕ → List ℕ → List ℕ → List ℕ → Type 0
TakesCsv spelled left spelled' left' =
    (spelled' ++ left' ≡ spelled ++ left)
    ⊎ ((spelled' ≡ spelled) × ((b : ℕ) × (is_mark b ≡ true) × (left ≡ b ∷ left')))

-- What a step of the reader takes from the bytes left of a text: at least one. After an error the sink has the records
-- that it had.
pub record ReaderStep {T E : Type 0} (records : List Record) (partial : PartialRecord) (left : List ℕ)
    (result : Result T E) (records' : List Record) (partial' : PartialRecord) (left' : List ℕ) : Type 0 where
  pub ok : OnOk result (TakesCsv (spelled_so_far records partial) left (spelled_so_far records' partial') left')
  pub shorter : OnOk result (length left' < length left)
  pub err : OnErr result (records' ≡ records)
