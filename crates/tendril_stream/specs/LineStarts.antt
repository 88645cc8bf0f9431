-- The start of a line that is completed by a text.
use Rattle.std.specs.Prelude.{◌≡◌, ◌<◌, ℕ, ◌⊎◌, List, [], ◌++◌, length, IsUtf8}
use Rattle.tendril_errors.specs.declared.refusal.Refusal.{Refusal}
use Rattle.tendril_fmt.specs.Parts.{IsEndOf}
use Rattle.tendril_stream.specs.Lines.{HasLongNextLine, JoinStops}
use Rattle.tendril_fmt.specs.Cuts.{IsWholeLine, LacksFeed}
use Rattle.tendril_text.specs.Texts.{Text, PartCost}

-- The first line was removed from a text, and joined to what was kept. It shares the text's block if nothing was kept.
pub record CompletesLine (kept text line rest : Text) : Type 0 where
  pub is : IsWholeLine line.bytes
  pub valid : IsUtf8 line.bytes
  pub whole : kept.bytes ++ text.bytes ≡ line.bytes ++ rest.bytes
  pub behind : IsEndOf rest.bytes text.bytes
  pub shorter : length rest.bytes < length text.bytes
  pub share : kept.bytes ≡ [] → PartCost text line
  pub rest_shares : PartCost text rest

-- it couldn't be removed, or not be joined
abbrev pub CompletionStops : List ℕ → List ℕ → Refusal → Type 0
CompletionStops kept text r = ((kept ≡ []) × HasLongNextLine text text r) ⊎ JoinStops kept (kept ++ text) r

-- a text without an LF was kept too
pub record KeepsMore (old more new : Text) : Type 0 where
  pub bytes : new.bytes ≡ old.bytes ++ more.bytes
  pub lacks : LacksFeed new.bytes
  pub same : old.bytes ≡ [] → new ≡ more
