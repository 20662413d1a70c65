use Rattle.std.proofs.Common.{◌≡◌, ◌++◌, ◌-◌, drop, string_bytes}
use Rattle.std.specs.List.{flat_map}
use Rattle.gx_base.specs.Kinds.{kind_number}
use Rattle.gx_base.specs.Methods.{most_methods, methods_of}
use Rattle.gx_base.specs.TableRows.{row_of}
use Rattle.cond_syntax.specs.Printing.{row_line, first_lines}
use Rattle.cond_print.proofs.tables.put_rows_of.Given as goal

-- with the lines of the rest of the methods it comes to the whole text
abbrev pub invariant-loop-second : goal.invariant-loop-second
invariant-loop-second l =
    string_bytes l.text ++ flat_map (row_line (row_of l.table) l.first) (drop l.place (methods_of (kind_number l.kind)))
    ≡ string_bytes l.fn.text ++ first_lines l.kind (row_of l.table) l.first

abbrev pub decreases-loop-second : goal.decreases-loop-second
decreases-loop-second l = most_methods - l.place
