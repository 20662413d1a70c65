-- What the plain scan of the live entries evaluates.
use Rattle.std.specs.Prelude.{◌≡◌, ℕ, pos, Bool, false, ◌||◌}
use Rattle.gx_base.specs.declared.acts.Entry.{Entry}
use Rattle.gx_base.specs.declared.conditions.Side.TheVariants.{Second}
use Rattle.gx_base.specs.Conditions.{holds}
use Rattle.gx_base.specs.Below.{names_state}
use Rattle.gx_base.specs.Tables.{Rows}
use Rattle.gate_core.specs.Entries.{same_iteration, made_of}

-- no row names the state function at the later call
abbrev pub SeesFirstAlone : Rows → Type 0
SeesFirstAlone rows = (first second : ℕ) → names_state Second (rows first second) ≡ false

-- whether two entries may both be live, by what the earlier one saw
abbrev pub log_ok : Rows → Entry → Entry → Bool
log_ok rows held asked = same_iteration held asked || holds (rows held.call.method asked.call.method) (made_of held) (made_of asked) (record { first = held.seen; second = pos 0 })
