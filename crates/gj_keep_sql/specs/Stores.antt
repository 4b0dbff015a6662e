-- What the stores in files tell: where their keeper is, and how often a call failed.
use Rattle.std.specs.Prelude.{ℕ, ◌+◌, ◌-◌, ◌^◌, min, Bool}

-- whether the keeper is at home, the failed calls on the stores, and those of their keeper as it was last at home
pub record Stores : Type 0 where
  pub home : Bool
  pub own : ℕ
  pub kept : ℕ

-- all failed calls, up to the last value of a u64
abbrev pub faults_of : Stores → ℕ
faults_of stores = min (stores.own + stores.kept) (2 ^ 64 - 1)
