-- Where markup ends.
use Rattle.std.specs.Prelude.{ℕ, ◌≡◌, ◌<◌, ◌≤◌, ◌-◌, List, length, slice_index}

-- markup ends after the first `count` bytes, the last of which is `>`; `count` is greater than `start`
pub record EndsAt (bytes : List ℕ) (start count : ℕ) : Type 0 where
  pub some : start < count
  pub within : count ≤ length bytes
  pub closed : slice_index bytes (count - 1) ≡ 62
