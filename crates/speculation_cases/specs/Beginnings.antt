-- Machines before their first turn.
use Rattle.std.specs.Prelude.{◌≡◌, ℕ, ℤ, pos, Bool, List, [], ◌∷◌}
use Rattle.std.specs.FinMap as finite
use Rattle.gx_base.specs.declared.items.Item.{Item}
use Rattle.gx_base.specs.declared.kinds.Kind.{Kind}
use Rattle.gx_base.specs.declared.kinds.Choice.TheVariants.{Precise}
use Rattle.gx_base.specs.Kinds.{kind_number}
use Rattle.gx_base.specs.ShippedTables.{KindTables, rows_chosen}
use Rattle.gx_base.specs.States.{State, with_number}
use Rattle.gx_base.specs.Outcomes.{nothing_done}
use Rattle.gx_base.specs.TableRows.{RowMap, row_of}
use Rattle.gate_core.specs.Views.{GateView}
use Rattle.commit_book.specs.BookViews.{new_book}
use Rattle.speculation.specs.Events.{Event, Turn}
use Rattle.speculation.specs.Sessions.{Session, Idle}
use Rattle.speculation.specs.Machines.{Machine}

-- numbers in the rows of a state, the last one written first
abbrev pub WrittenNumbers : Type 0
WrittenNumbers = List ((ℕ × ℤ) × ℤ)

abbrev pub written : Kind → WrittenNumbers → State
written kind [] = record { kind = kind_number kind; rows = finite.empty }
written kind (w ∷ ws) = with_number (written kind ws) w.0 w.1

-- the table has the precise ones of these rows
abbrev pub HasPreciseRows : KindTables → RowMap → Type 0
HasPreciseRows tables table = (first second : ℕ) → row_of table first second ≡ rows_chosen tables Precise first second

abbrev pub written_gate : Kind → RowMap → WrittenNumbers → GateView
written_gate kind table ws = record { kind = kind_number kind; table = table; state = written kind ws; done = []; live = []; mark = 0 }

abbrev pub at_rest : Session
at_rest = record { phase = Idle; iter = 0; item = record { k0 = pos 0; k1 = pos 0; k2 = pos 0; k3 = pos 0 }; outcome = nothing_done; next_iter = 0 }

-- all workers are idle, nothing is held, and nothing has committed
abbrev pub starting : (ℕ → GateView) → Bool → List Item → Machine
starting gates ordered ready = record { gates = gates; book = new_book ordered ready; sessions = λ worker. at_rest }

-- turns of workers 0 and 1
abbrev pub turn_0 : ℕ → Event → Turn
turn_0 number event = record { number = number; worker = 0; event = event }

abbrev pub turn_1 : ℕ → Event → Turn
turn_1 number event = record { number = number; worker = 1; event = event }
