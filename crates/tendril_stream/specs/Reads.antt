-- Reads, one after another, and the bytes that they return.
use Rattle.std.specs.Prelude.{◌≡◌, ℕ, zero, suc, ◌<◌, List, [], ◌∷◌, ◌++◌, length, take, flat_map, All, Result, Ok, Err}
use Rattle.tendril_stream.specs.declared.counted_read.ReadFault.{ReadFault}
use Rattle.tendril_stream.specs.declared.counted_read.ReadFault.TheVariants.{Interrupted, Failed}

-- a read: it returned bytes, was interrupted, failed, or reached the end
pub data OneRead : Type 0 where
  Gave : List ℕ → OneRead
  WasInterrupted : OneRead
  HasFailed : OneRead
  CameToEnd : OneRead

abbrev pub given_by : OneRead → List ℕ
given_by (Gave bytes) = bytes
given_by WasInterrupted = []
given_by HasFailed = []
given_by CameToEnd = []

-- the bytes that these reads returned
abbrev pub given : List OneRead → List ℕ
given these = flat_map given_by these

-- a read after which another may be made: it returned at least one byte, or was interrupted
abbrev pub MayReadOn : OneRead → Type 0
MayReadOn (Gave bytes) = 0 < length bytes
MayReadOn WasInterrupted = Unit {0}
MayReadOn HasFailed = ⊥
MayReadOn CameToEnd = ⊥

-- this read is the last, and another may be made after each before it
pub record StopsWith (last : OneRead) (these : List OneRead) : Type 0 where
  pub before : List OneRead
  pub on : All MayReadOn before
  pub is : these ≡ before ++ last ∷ []

-- the read that returned this, and left these bytes in the buffer
abbrev pub read_of : Result ℕ ReadFault → List ℕ → OneRead
read_of (Ok zero) buffer = CameToEnd
read_of (Ok (suc n)) buffer = Gave (take (suc n) buffer)
read_of (Err Interrupted) buffer = WasInterrupted
read_of (Err Failed) buffer = HasFailed
