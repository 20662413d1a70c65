-- The tables that points ship.
use Rattle.std.specs.Prelude.{ℤ, pos, negsuc}
use Rattle.gx_base.specs.declared.conditions.Side.TheVariants.{First, Second}
use Rattle.gx_base.specs.declared.conditions.Part.TheVariants.{ArgFirst, ArgSecond, RepFirst, RepSecond}
use Rattle.gx_base.specs.declared.conditions.Term.TheVariants.{Const, Value, Beyond}
use Rattle.gx_base.specs.Conditions.{Condition, True, False, Eq, Ne, Or, And}
use Rattle.gx_base.specs.PointKind.{PointDeed, Add, Remove, At, Nearest, Nothing, point_deed}
use Rattle.gx_base.specs.ShippedTables.{KindTables}
use Rattle.kind_tables.specs.PairConditions.{rows_by, different_numbers, same_number, first_changed_nothing, second_changed_nothing}

-- the number that nearest replies where there is no other point
abbrev pub no_point : ℤ
no_point = negsuc 0

-- the precise row of two methods
abbrev pub precise_point : PointDeed → PointDeed → Condition
precise_point Add Add = Or different_numbers (And first_changed_nothing second_changed_nothing)
precise_point Add Remove = Or different_numbers (And first_changed_nothing second_changed_nothing)
precise_point Add At = Or different_numbers first_changed_nothing
precise_point Add Nearest = Or first_changed_nothing (Ne (Value First 0) (Value Second 4))
precise_point Remove Add = Or different_numbers (And first_changed_nothing second_changed_nothing)
precise_point Remove Remove = Or different_numbers (And first_changed_nothing second_changed_nothing)
precise_point Remove At = Or different_numbers first_changed_nothing
precise_point Remove Nearest = Or (Or first_changed_nothing same_number) (And (Ne (Value Second 4) (Const no_point)) (Eq (Beyond ArgSecond ArgFirst RepSecond) (Const (pos 1))))
precise_point At Add = Or different_numbers second_changed_nothing
precise_point At Remove = Or different_numbers second_changed_nothing
precise_point At At = True
precise_point At Nearest = True
precise_point Nearest Add = Or (Or second_changed_nothing same_number) (And (Ne (Value First 4) (Const no_point)) (Eq (Beyond ArgFirst ArgSecond RepFirst) (Const (pos 1))))
precise_point Nearest Remove = Or second_changed_nothing (Ne (Value First 4) (Value Second 0))
precise_point Nearest At = True
precise_point Nearest Nearest = True
precise_point first second = False

-- the simple one
abbrev pub simple_point : PointDeed → PointDeed → Condition
simple_point Nothing second = False
simple_point first Nothing = False
simple_point At At = True
simple_point At Nearest = True
simple_point Nearest At = True
simple_point Nearest Nearest = True
simple_point Nearest Add = False
simple_point Nearest Remove = Ne (Value First 4) (Value Second 0)
simple_point Add Nearest = Ne (Value First 0) (Value Second 4)
simple_point Remove Nearest = False
simple_point first second = different_numbers

-- that of readers and writers
abbrev pub reader_writer_point : PointDeed → PointDeed → Condition
reader_writer_point Nothing second = False
reader_writer_point first Nothing = False
reader_writer_point At At = True
reader_writer_point At Nearest = True
reader_writer_point Nearest At = True
reader_writer_point Nearest Nearest = True
reader_writer_point Nearest second = False
reader_writer_point first Nearest = False
reader_writer_point first second = different_numbers

abbrev pub point_tables : KindTables
point_tables = record { precise = rows_by point_deed precise_point; simple = rows_by point_deed simple_point; reader_writer = rows_by point_deed reader_writer_point }
