-- The machines of the cases are new ones.
use Rattle.std.specs.Prelude.{◌≡◌, ℕ, zero, suc, ℤ, List, [], ◌∷◌, FitsSigned, refl, ⊤}
use Rattle.std.proofs.Common.{sym, subst, arith}
use Rattle.std.specs.FinMap as finite
use Rattle.std.specs.Int.{w64}
use Rattle.gx_base.specs.declared.kinds.Kind.{Kind}
use Rattle.gx_base.specs.declared.kinds.Kind.TheVariants.{Cells, Flow}
use Rattle.gx_base.specs.declared.kinds.Choice.TheVariants.{Precise}
use Rattle.gx_base.specs.Kinds.{kind_number}
use Rattle.gx_base.specs.States.{row_cmp, IsNumberRow, HoldsNumbers}
use Rattle.gx_base.specs.Steps.{Holds}
use Rattle.gx_base.specs.TableRows.{RowMap, row_of}
use Rattle.gx_base.specs.Tables.{KeepsToKind, IsValid}
use Rattle.gx_base.specs.Worklists.{item_cmp, has_item, with_item, with_items, is_least}
use Rattle.gx_base.proofs.CallerLemmas.{with_number-HoldsNumbers}
use Rattle.gx_base.specs.ShippedTables.{KindTables, SuitKind, rows_chosen}
use Rattle.kind_tables.specs.FlowTables.{flow_tables}
use Rattle.kind_tables.proofs.CallerLemmas.{tables_of-SuitKind}
use Rattle.shared_sets.specs.CellsTables.{cells_tables}
use Rattle.shared_sets.specs.SuitedTables.{cells_tables-SuitKind}
use Rattle.preflow_push.specs.Discharge.{discharge_operator}
use Rattle.speculation.specs.Premises.{IsNewGate, IsNew}
use Rattle.speculation_cases.specs.Beginnings.{WrittenNumbers, written, HasPreciseRows, written_gate}
use Rattle.speculation_cases.specs.Diamond.{net, first_numbers, diamond}
use Rattle.speculation_cases.specs.SmallConflict.{setters, two_setters}
use Rattle.speculation_cases.specs.NamedReader.{setter_and_reader, one_setter}

-- the numbers have 64 bits
abbrev pub HaveBits : WrittenNumbers → Type 0
HaveBits [] = ⊤
HaveBits (w ∷ ws) = FitsSigned w64 w.1 × HaveBits ws

holds_numbers : (kind : Kind) (ws : WrittenNumbers) → HaveBits ws → HoldsNumbers (written kind ws)
holds_numbers kind [] h = λ key. subst IsNumberRow (sym (finite.get-empty {X = List ℤ} row_cmp key)) tt
holds_numbers kind (w ∷ ws) h = with_number-HoldsNumbers (written kind ws) w.0 w.1 h.0 (holds_numbers kind ws h.1)

kind_is : (kind : Kind) (ws : WrittenNumbers) → (written kind ws).kind ≡ kind_number kind
kind_is kind [] = refl
kind_is kind (w ∷ ws) = kind_is kind ws

begins : (kind : Kind) (tables : KindTables) (table : RowMap) (ws : WrittenNumbers) → SuitKind (kind_number kind) tables → HasPreciseRows tables table → Holds (kind_number kind) (written kind ws) → IsNewGate (written_gate kind table ws)
begins kind tables table ws suit h s =
    let rows : row_of table ≡ rows_chosen tables Precise = λ i first second. h first second i in
    record {
      lawful = record {
        valid = subst (IsValid (kind_number kind)) (sym rows) (suit.valid Precise);
        keeps_to_kind = subst (KeepsToKind (kind_number kind)) (sym rows) (suit.keeps_to_kind Precise);
        stands = record { of_kind = kind_is kind ws; is_state = subst (λ number. Holds number (written kind ws)) (sym (kind_is kind ws)) s };
        done_calls = tt;
        live_calls = tt;
        done_legal = refl;
        live_legal = refl;
        pairs = tt;
        saw = tt;
        numbers = tt;
        mark = refl;
        uncommitted = tt;
      };
      no_done = refl;
      no_live = refl;
    }

first_fit : (room : ℕ) → HaveBits (first_numbers room)
first_fit zero = tt
first_fit (suc zero) = (omega arith, (omega arith, (omega arith, tt)))
first_fit (suc (suc zero)) = (omega arith, (omega arith, tt))
first_fit (suc (suc (suc zero))) = (omega arith, tt)
first_fit (suc (suc (suc (suc room)))) = tt

pub diamond_is_new : (table : RowMap) → HasPreciseRows flow_tables table → IsNew (discharge_operator net) (diamond table)
unfolding item_cmp has_item with_item with_items is_least
diamond_is_new table h = record {
  gates = λ room. begins Flow flow_tables table (first_numbers room) (tables_of-SuitKind Flow) h (holds_numbers Flow (first_numbers room) (first_fit room));
  ordered = refl;
  in_order = (refl, (refl, tt));
  no_holds = refl;
  no_commits = refl;
  idle = λ worker. refl;
  nothing_done = λ worker. refl;
}

pub setters_are_new : (table : RowMap) → HasPreciseRows cells_tables table → IsNew setters (two_setters table)
unfolding item_cmp has_item with_item with_items is_least
setters_are_new table h = record {
  gates = λ room. begins Cells cells_tables table [] (cells_tables-SuitKind Cells refl) h (holds_numbers Cells [] tt);
  ordered = refl;
  in_order = (refl, (refl, tt));
  no_holds = refl;
  no_commits = refl;
  idle = λ worker. refl;
  nothing_done = λ worker. refl;
}

pub reader_is_new : (table : RowMap) → HasPreciseRows cells_tables table → IsNew setter_and_reader (one_setter table)
unfolding item_cmp has_item with_item with_items is_least
reader_is_new table h = record {
  gates = λ room. begins Cells cells_tables table [] (cells_tables-SuitKind Cells refl) h (holds_numbers Cells [] tt);
  ordered = refl;
  in_order = (refl, (refl, tt));
  no_holds = refl;
  no_commits = refl;
  idle = λ worker. refl;
  nothing_done = λ worker. refl;
}
