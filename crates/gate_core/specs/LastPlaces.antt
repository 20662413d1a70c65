-- Where the last entry of an iteration stands.
use Rattle.std.specs.Prelude.{◌≡◌, ℕ, ◌<◌, false, Option, Some, None, List, length, slice_get, remove}
use Rattle.gx_base.specs.declared.acts.Entry.{Entry}
use Rattle.gate_core.specs.Entries.{has_entry, last_of, without_last}

abbrev pub IsLastPlace : ℕ → ℕ → List Entry → Option ℕ → Type 0
IsLastPlace worker iter es None = has_entry worker iter es ≡ false
IsLastPlace worker iter es (Some place) = (place < length es) × (last_of worker iter es ≡ slice_get es place) × (without_last worker iter es ≡ remove es place)
