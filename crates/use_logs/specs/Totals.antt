-- What a tally has counted.
use Rattle.std.specs.Prelude.{ℕ, ◌+◌, sum_by}
use Rattle.std.specs.HashMap.{values}
use Rattle.use_logs.specs.declared.tally.Tally.{Tally}
use Rattle.use_logs.specs.declared.traffic.Traffic.{Traffic}

-- the requests of all paths
abbrev pub requests_of : Tally → ℕ
requests_of t = sum_by (λ (x : Traffic). x.requests) (values t.paths)

-- the bytes of all paths
abbrev pub sizes_of : Tally → ℕ
sizes_of t = sum_by (λ (x : Traffic). x.bytes) (values t.paths)

-- the lines, malformed ones too
abbrev pub lines_of : Tally → ℕ
lines_of t = t.malformed + requests_of t
