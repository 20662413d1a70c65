-- What contracts see of a gate, when it is lawful, and what its calls make of it.
use Rattle.std.specs.Prelude.{◌≡◌, ℕ, zero, suc, ◌+◌, if◌then◌else◌, Option, Some, None, List, [], ◌∷◌, ◌++◌, refl}
use Rattle.std.specs.Coded.{Coded, code_by, coded×, coded_ℕ, coded_list}
use Rattle.gx_base.specs.declared.calls.Call.{Call}
use Rattle.gx_base.specs.declared.items.Item.{Item}
use Rattle.gx_base.specs.declared.acts.Entry.{Entry}
use Rattle.gx_base.specs.Entries.{entry_code}
use Rattle.gx_base.specs.States.{State, state_code}
use Rattle.gx_base.specs.Steps.{next_state, reply_to, inverse, observed}
use Rattle.gx_base.specs.TableRows.{RowMap, row_map_code, row_of}
use Rattle.gx_base.specs.Tables.{Rows, KeepsToKind, IsValid}
use Rattle.gate_core.specs.Entries.{Each, entries_of, others_than, has_entry, last_of, without_last, done_under, mark_of, NumbersRise}
use Rattle.gate_core.specs.Replays.{LegalEntries, start_of, AllCalls, PairsFit, AllSawRight, first_failing, Stands}

-- a gate as plain data: the number of its kind, its table, the state of its object, its entries, and its mark
pub record GateView : Type 0 where
  pub kind : ℕ
  pub table : RowMap
  pub state : State
  pub done : List Entry
  pub live : List Entry
  pub mark : ℕ

-- a view is stored as its fields
abbrev pub view_code : Coded GateView
view_code =
    code_by (ℕ × (RowMap × (State × (List Entry × (List Entry × ℕ)))))
    (coded× coded_ℕ (coded× row_map_code (coded× state_code (coded× (coded_list entry_code) (coded× (coded_list entry_code) coded_ℕ)))))
    (λ g. (g.kind, (g.table, (g.state, (g.done, (g.live, g.mark))))))
    (λ p. record { kind = p.0; table = p.1.0; state = p.1.1.0; done = p.1.1.1.0; live = p.1.1.1.1.0; mark = p.1.1.1.1.1 })
    (λ _. refl)

abbrev pub gate_rows : GateView → Rows
gate_rows g = row_of g.table

-- the state before the live entries, and the one that the gate began with
abbrev pub live_start : GateView → State
live_start g = start_of g.state g.live

abbrev pub start : GateView → State
start g = start_of (live_start g) g.done

-- a lawful gate. The arrangement is the done entries and then the live ones
pub record IsLawfulGate (g : GateView) : Type 0 where
  pub valid : IsValid g.kind (gate_rows g)
  pub keeps_to_kind : KeepsToKind g.kind (gate_rows g)
  -- the arrangement replays legally from the start and ends in the object's state
  pub stands : Stands g.kind (start g)
  pub done_calls : AllCalls g.done
  pub live_calls : AllCalls g.live
  pub done_legal : LegalEntries (start g) g.done (live_start g)
  pub live_legal : LegalEntries (live_start g) g.live g.state
  -- two live entries of different iterations have a true row, and what a row may use of what a live entry saw is right
  pub pairs : PairsFit (gate_rows g) (live_start g) g.live
  pub saw : AllSawRight (gate_rows g) (live_start g) g.live
  -- the numbers of done entries never fall, the mark is one more than the last of them, and live entries have none
  pub numbers : NumbersRise 0 g.done
  pub mark : g.mark ≡ mark_of 0 g.done
  pub uncommitted : Each (λ e. e.done ≡ None) g.live

-- what a call's entry would be
abbrev pub asked_entry : ℕ → ℕ → Item → Call → State → Entry
asked_entry worker iter item call s =
    record { worker = worker; iter = iter; item = item; call = call; reply = reply_to s call; seen = observed s call.a; done = None }

-- the place of the first live entry that is in the way of an entry
abbrev pub in_way : GateView → Entry → Option ℕ
in_way g asked = first_failing (gate_rows g) (live_start g) g.live asked

-- the call is done, and is the last live entry
abbrev pub admit : GateView → ℕ → ℕ → Item → Call → GateView
admit g worker iter item call = record g { state = next_state g.state call; live = g.live ++ asked_entry worker iter item call g.state ∷ [] }

-- the last entry of the iteration is gone, and its call taken back
abbrev pub undo_entry : GateView → ℕ → ℕ → Option Entry → GateView
undo_entry g worker iter None = g
undo_entry g worker iter (Some e) = record g { state = inverse g.state e.call e.reply; live = without_last worker iter g.live }

abbrev pub undo_last : GateView → ℕ → ℕ → GateView
undo_last g worker iter = undo_entry g worker iter (last_of worker iter g.live)

-- the live entries of the iteration are done under a number
abbrev pub release : GateView → ℕ → ℕ → ℕ → GateView
release g worker iter number = record g {
  done = g.done ++ done_under number (entries_of worker iter g.live);
  live = others_than worker iter g.live;
  mark = if has_entry worker iter g.live then number + 1 else g.mark;
}

-- the last entries of the iteration are taken back, as many as this
abbrev pub undo_times : ℕ → GateView → ℕ → ℕ → GateView
undo_times zero g worker iter = g
undo_times (suc times) g worker iter = undo_times times (undo_last g worker iter) worker iter
