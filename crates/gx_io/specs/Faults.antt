-- Counts of faults.
use Rattle.std.specs.Prelude.{◌≡◌, ℕ, ◌+◌, ◌≤◌, min}

-- a count of faults rose: at its last value it stays
abbrev pub HasRisen : ℕ → ℕ → Type 0
HasRisen before now = min (before + 1) 18446744073709551615 ≤ now

-- a call's count of faults never falls, rises where the call failed, and stays where it succeeded
pub record Counts (before now : ℕ) (failed succeeded : Type 0) : Type 0 where
  pub never_falls : before ≤ now
  pub risen : failed → HasRisen before now
  pub kept : succeeded → now ≡ before
