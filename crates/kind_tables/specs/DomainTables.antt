-- The tables that domain books ship.
use Rattle.std.specs.Prelude.{Bool, true, false, ◌&&◌, if◌then◌else◌}
use Rattle.gx_base.specs.declared.conditions.Side.TheVariants.{First, Second}
use Rattle.gx_base.specs.declared.conditions.Term.TheVariants.{Value, State}
use Rattle.gx_base.specs.Conditions.{Condition, True, False, Ne, Or, And}
use Rattle.gx_base.specs.DomainKind.{DomainDeed, Weigh, Total, Move, Credit, Sum, Nothing, domain_deed}
use Rattle.gx_base.specs.ShippedTables.{KindTables}
use Rattle.kind_tables.specs.PairConditions.{rows_by, different_numbers, first_adds_nothing, second_adds_nothing, first_writes_the_same, second_writes_the_same}

-- the precise row of two methods
abbrev pub precise_domain : DomainDeed → DomainDeed → Condition
precise_domain Weigh Weigh = True
precise_domain Weigh Total = Or first_adds_nothing (Ne (State First) (State Second))
precise_domain Weigh Move = second_writes_the_same
precise_domain Weigh Credit = True
precise_domain Weigh Sum = Or first_adds_nothing (Ne (State First) (Value Second 0))
precise_domain Total Weigh = Or second_adds_nothing (Ne (State First) (State Second))
precise_domain Total Total = True
precise_domain Total Move = second_writes_the_same
precise_domain Total Credit = Or second_adds_nothing (Ne (State First) (Value Second 0))
precise_domain Total Sum = True
precise_domain Move Weigh = first_writes_the_same
precise_domain Move Total = first_writes_the_same
precise_domain Move Move = Or different_numbers (And first_writes_the_same second_writes_the_same)
precise_domain Move Credit = first_writes_the_same
precise_domain Move Sum = first_writes_the_same
precise_domain Credit Weigh = True
precise_domain Credit Total = Or first_adds_nothing (Ne (Value First 0) (State Second))
precise_domain Credit Move = second_writes_the_same
precise_domain Credit Credit = True
precise_domain Credit Sum = Or different_numbers first_adds_nothing
precise_domain Sum Weigh = Or second_adds_nothing (Ne (Value First 0) (State Second))
precise_domain Sum Total = True
precise_domain Sum Move = second_writes_the_same
precise_domain Sum Credit = Or different_numbers second_adds_nothing
precise_domain Sum Sum = True
precise_domain first second = False

-- the simple one
abbrev pub simple_domain : DomainDeed → DomainDeed → Condition
simple_domain Nothing second = False
simple_domain first Nothing = False
simple_domain Move Move = different_numbers
simple_domain Move second = False
simple_domain first Move = False
simple_domain Weigh Total = False
simple_domain Weigh Sum = False
simple_domain Total Weigh = False
simple_domain Sum Weigh = False
simple_domain Total Credit = False
simple_domain Credit Total = False
simple_domain Credit Sum = different_numbers
simple_domain Sum Credit = different_numbers
simple_domain first second = True

-- the method reads a sum
abbrev pub reads_a_sum : DomainDeed → Bool
reads_a_sum Total = true
reads_a_sum Sum = true
reads_a_sum deed = false

-- readers of sums go together, and all else goes alone
abbrev pub reader_writer_domain : DomainDeed → DomainDeed → Condition
reader_writer_domain first second = if reads_a_sum first && reads_a_sum second then True else False

abbrev pub domain_tables : KindTables
domain_tables = record { precise = rows_by domain_deed precise_domain; simple = rows_by domain_deed simple_domain; reader_writer = rows_by domain_deed reader_writer_domain }
