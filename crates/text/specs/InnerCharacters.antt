-- For the proofs: counts added.
use Rattle.std.specs.Prelude.{ℕ, ◌+◌}
use Rattle.std.proofs.Math.Option.{Option, none, some}

-- m more
abbrev pub plus : ℕ → Option ℕ → Option ℕ
plus m none = none
plus m (some n) = some (m + n)
