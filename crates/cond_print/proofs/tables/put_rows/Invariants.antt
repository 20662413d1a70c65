use Rattle.std.proofs.Common.{◌≡◌, ◌++◌, ◌-◌, drop, string_bytes}
use Rattle.std.specs.List.{flat_map}
use Rattle.gx_base.specs.Kinds.{kind_number}
use Rattle.gx_base.specs.Methods.{most_methods, methods_of}
use Rattle.gx_base.specs.TableRows.{row_of}
use Rattle.cond_syntax.specs.Printing.{first_lines}
use Rattle.cond_print.proofs.tables.put_rows.Given as goal

-- with the lines of the rest of the methods it comes to the whole text
abbrev pub invariant-loop-first : goal.invariant-loop-first
invariant-loop-first l =
    string_bytes l.text ++ flat_map (first_lines l.kind (row_of l.table)) (drop l.place (methods_of (kind_number l.kind)))
    ≡ string_bytes l.fn.text ++ flat_map (first_lines l.kind (row_of l.table)) (methods_of (kind_number l.kind))

abbrev pub decreases-loop-first : goal.decreases-loop-first
decreases-loop-first l = most_methods - l.place
