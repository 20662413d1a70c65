use Rattle.std.proofs.Common.{◌≡◌, ◌++◌, ◌-◌, drop}
use Rattle.std.specs.List.{flat_map}
use Rattle.gx_base.specs.Kinds.{kind_number}
use Rattle.gx_base.specs.Methods.{most_methods, methods_of}
use Rattle.gx_base.specs.TableRows.{row_of}
use Rattle.run_commands.specs.commands.Classify.{class_lines, rows_text}
use Rattle.run_commands.proofs.commands.classify.row_lines.Given as goal

-- with the lines of the rest of the methods it comes to the whole text
abbrev pub invariant-loop-first : goal.invariant-loop-first
invariant-loop-first l =
    l.text.items ++ flat_map (class_lines l.kind (row_of l.table)) (drop l.place (methods_of (kind_number l.kind)))
    ≡ rows_text l.kind (row_of l.table)

abbrev pub decreases-loop-first : goal.decreases-loop-first
decreases-loop-first l = most_methods - l.place
