-- What writing means, where it is told.
use Rattle.std.specs.Prelude.{◌≡◌, ℕ, ◌≤◌, Bool, true, false, List, ◌++◌, length, take, Option, Some, IfSome, IsSomeAnd}

-- what was written, and whether a flush has succeeded since the last write
pub record Written : Type 0 where
  pub bytes : List ℕ
  pub flushed : Bool

-- a write added these bytes
abbrev pub Adds : Option Written → Option Written → List ℕ → Type 0
Adds before now bytes = IfSome before (λ was. now ≡ Some (record { bytes = was.bytes ++ bytes; flushed = false }))

-- a flush succeeded, and left what was written
abbrev pub Flushes : Option Written → Option Written → Type 0
Flushes before now = IfSome before (λ was. now ≡ Some (record { bytes = was.bytes; flushed = true }))

-- these bytes were added, and a flush has succeeded since
abbrev pub AddsWhole : Option Written → Option Written → List ℕ → Type 0
AddsWhole before now bytes = IfSome before (λ was. now ≡ Some (record { bytes = was.bytes ++ bytes; flushed = true }))

-- these bytes were added, and maybe a flush has succeeded since
abbrev pub HasAdded : Option Written → Option Written → List ℕ → Type 0
HasAdded before now bytes = IfSome before (λ was. IsSomeAnd now (λ is. is.bytes ≡ was.bytes ++ bytes))

-- some front of these bytes was added
abbrev pub AddsFront : Option Written → Option Written → List ℕ → Type 0
AddsFront before now bytes = (n : ℕ) × (n ≤ length bytes) × HasAdded before now (take n bytes)
