-- The tables that cells and flow shards ship, whose methods each use one number.
use Rattle.std.specs.Prelude.{ℕ, ◌==◌, if◌then◌else◌}
use Rattle.gx_base.specs.declared.conditions.Side.TheVariants.{First, Second}
use Rattle.gx_base.specs.declared.conditions.Term.TheVariants.{Value}
use Rattle.gx_base.specs.Conditions.{Condition, True, False, Eq, Or, And}
use Rattle.gx_base.specs.RegisterDeeds.{Deed, Reads, Adds, Sets, Use, Nothing, On}
use Rattle.gx_base.specs.ShippedTables.{KindTables}
use Rattle.kind_tables.specs.PairConditions.{rows_by, different_numbers, first_adds_nothing, second_adds_nothing, first_writes_the_same}

-- the precise row of two deeds with numbers of one sort
abbrev pub precise_deeds : Deed → Deed → Condition
precise_deeds Reads Reads = True
precise_deeds Reads Adds = Or different_numbers second_adds_nothing
precise_deeds Reads Sets = Or different_numbers (Eq (Value First 4) (Value Second 1))
precise_deeds Adds Reads = Or different_numbers first_adds_nothing
precise_deeds Adds Adds = True
precise_deeds Adds Sets = Or different_numbers first_adds_nothing
precise_deeds Sets Reads = Or different_numbers first_writes_the_same
precise_deeds Sets Adds = Or different_numbers second_adds_nothing
precise_deeds Sets Sets = Or different_numbers (And (Eq (Value First 1) (Value Second 1)) first_writes_the_same)

-- the simple one
abbrev pub simple_deeds : Deed → Deed → Condition
simple_deeds Reads Reads = True
simple_deeds Adds Adds = True
simple_deeds first second = different_numbers

-- that of readers and writers
abbrev pub reader_writer_deeds : Deed → Deed → Condition
reader_writer_deeds Reads Reads = True
reader_writer_deeds first second = different_numbers

-- two methods on different sorts of numbers never meet
abbrev pub use_by : (Deed → Deed → Condition) → Use → Use → Condition
use_by deeds Nothing second = False
use_by deeds (On i d) Nothing = False
use_by deeds (On i d) (On j e) = if i == j then deeds d e else True

-- the tables of a kind whose methods use numbers like this
abbrev pub register_tables : (ℕ → Use) → KindTables
register_tables use_of = record { precise = rows_by use_of (use_by precise_deeds); simple = rows_by use_of (use_by simple_deeds); reader_writer = rows_by use_of (use_by reader_writer_deeds) }
