-- The numbers and the names of errors.
use Rattle.std.specs.Prelude.{ℕ, List, ◌++◌, codes}
use Rattle.std.specs.Fmt.{decimal}
use Rattle.tendril_errors.specs.declared.refusal.Refusal.{Refusal}
use Rattle.tendril_errors.specs.declared.refusal.Refusal.TheVariants as refusal

-- an error's number
abbrev pub number_of : Refusal → ℕ
number_of refusal.TooLong = 1
number_of refusal.Memory = 2
number_of refusal.Count = 3
number_of refusal.Invalid = 4
number_of refusal.OutOfBounds = 5
number_of refusal.ValidationFailed = 6
number_of refusal.NotInFormat = 7
number_of refusal.TooManyReads = 8
number_of refusal.Io = 9
number_of refusal.SinkRefused = 10
number_of refusal.Failed = 11
number_of refusal.NotStarted = 12
number_of refusal.NoSuchSlot = 13
number_of refusal.WrongFormat = 14

-- an error's name
abbrev pub name_of : Refusal → List ℕ
name_of refusal.TooLong = codes "TooLong"
name_of refusal.Memory = codes "Memory"
name_of refusal.Count = codes "Count"
name_of refusal.Invalid = codes "Invalid"
name_of refusal.OutOfBounds = codes "OutOfBounds"
name_of refusal.ValidationFailed = codes "ValidationFailed"
name_of refusal.NotInFormat = codes "NotInFormat"
name_of refusal.TooManyReads = codes "TooManyReads"
name_of refusal.Io = codes "Io"
name_of refusal.SinkRefused = codes "SinkRefused"
name_of refusal.Failed = codes "Failed"
name_of refusal.NotStarted = codes "NotStarted"
name_of refusal.NoSuchSlot = codes "NoSuchSlot"
name_of refusal.WrongFormat = codes "WrongFormat"

-- an error as it is printed
abbrev pub refusal_text : Refusal → List ℕ
refusal_text r = decimal (number_of r) ++ codes " " ++ name_of r
