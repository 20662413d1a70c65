-- The entries of a gate's log, as calls with their replies.
use Rattle.std.specs.Prelude.{ℕ, ◌==◌, List, filter, map}
use Rattle.std.specs.Coded.{Coded}
use Rattle.gx_base.specs.declared.calls.Made.{Made}
use Rattle.gx_base.specs.declared.acts.Entry.{Entry}
use Rattle.gx_base.specs.contracts.acts.Entry as entry

-- the call of an entry, with its reply
abbrev pub made_of : Entry → Made
made_of e = record { call = e.call; reply = e.reply }

abbrev pub mades_of : List Entry → List Made
mades_of es = map made_of es

-- the entries of a worker, in their order
abbrev pub entries_by : ℕ → List Entry → List Entry
entries_by worker es = filter (λ e. e.worker == worker) es

-- how an entry is stored
abbrev pub entry_code : Coded Entry
entry_code = (entry.the_row).coded
