-- What is sent to a sink.
use Rattle.std.specs.Prelude.{◌<◌, ◌⊎◌, List, length, Option, Some, None, IsUtf8}
use Rattle.std.specs.List.{FoldsTo}
use Rattle.std.specs.Iterator.{YieldsThen}
use Rattle.tendril_text.specs.Texts.{Text}
use Rattle.tendril_errors.specs.declared.refusal.Refusal.{Refusal}
pub use Rattle.tendril_text.specs.Receivers.{Sent, Piece, Fault, told_of, told, IsSentOf, Feeds, RefusesCall}
pub use Rattle.tendril_text.specs.Receivers.{SinkRefuses, IsStop, Stops}

-- what a decoder sends: an error, or a text in UTF-8 that isn't empty
abbrev pub IsSent : Sent → Type 0
IsSent (Piece t) = (0 < length t.bytes) × IsUtf8 t.bytes
IsSent (Fault words) = Unit {0}

-- The texts of an iterator, sent one after another.
module _ {I It T S : Type 0} (becomes : I → It → Type 0) (steps : It → Option T → It → Type 0) (text : T → Text)
    (takes : S → Sent → S → Type 0) where
  -- each of them is accepted
  pub record AcceptsAll (old : S) (texts : I) (new : S) : Type 0 where
    pub iterator : It
    pub made : becomes texts iterator
    pub sent : List T
    pub last : It
    pub yields : YieldsThen steps iterator sent None last
    pub calls : FoldsTo (λ s x t. takes s (Piece (text x)) t) old sent new

  -- some are accepted, then the sink returns an error for one, which is the last that is sent
  pub record AcceptsUpTo (refuses : S → Sent → Refusal → S → Type 0) (old : S) (texts : I) (refusal : Refusal)
      (new : S) : Type 0 where
    pub iterator : It
    pub made : becomes texts iterator
    pub sent : List T
    pub next : T
    pub last : It
    pub yields : YieldsThen steps iterator sent (Some next) last
    pub sunk : S
    pub calls : FoldsTo (λ s x t. takes s (Piece (text x)) t) old sent sunk
    pub refused : refuses sunk (Piece (text next)) refusal new

  -- each of them is accepted, and `finish` returns Ok
  abbrev pub SendsAll : {O : Type 0} → (S → O → Type 0) → S → I → O → Type 0
  SendsAll finishes sink texts out = (sunk : S) × AcceptsAll sink texts sunk × finishes sunk out

  -- the sink returns an error for one of them, or from `finish`
  abbrev pub SendsSome : (S → Sent → Refusal → S → Type 0) → (S → Refusal → Type 0) → S → I → Refusal → Type 0
  SendsSome refuses ends sink texts refusal =
      ((new : S) × AcceptsUpTo refuses sink texts refusal new)
      ⊎ ((sunk : S) × AcceptsAll sink texts sunk × ends sunk refusal)
