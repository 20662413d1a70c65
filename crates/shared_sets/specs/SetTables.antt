-- The tables that sets ship.
use Rattle.gx_base.specs.Conditions.{Condition, True, False, Or, And}
use Rattle.gx_base.specs.SetKind.{SetDeed, Add, Remove, Contains, Nothing, set_deed}
use Rattle.gx_base.specs.ShippedTables.{KindTables}
use Rattle.kind_tables.specs.PairConditions.{rows_by, different_numbers, first_changed_nothing, second_changed_nothing}

-- the precise row of two methods
abbrev pub precise_set : SetDeed → SetDeed → Condition
precise_set Add Add = Or different_numbers (And first_changed_nothing second_changed_nothing)
precise_set Add Remove = different_numbers
precise_set Add Contains = Or different_numbers first_changed_nothing
precise_set Remove Add = different_numbers
precise_set Remove Remove = Or different_numbers (And first_changed_nothing second_changed_nothing)
precise_set Remove Contains = Or different_numbers first_changed_nothing
precise_set Contains Add = Or different_numbers second_changed_nothing
precise_set Contains Remove = Or different_numbers second_changed_nothing
precise_set Contains Contains = True
precise_set first second = False

-- two who look may go together, and else the numbers differ. Readers and writers have these rows too
abbrev pub simple_set : SetDeed → SetDeed → Condition
simple_set Nothing second = False
simple_set first Nothing = False
simple_set Contains Contains = True
simple_set first second = different_numbers

abbrev pub set_tables : KindTables
set_tables = record { precise = rows_by set_deed precise_set; simple = rows_by set_deed simple_set; reader_writer = rows_by set_deed simple_set }
