use Rattle.std.proofs.Common.{◌≡◌, ◌++◌, ◌-◌, drop}
use Rattle.std.specs.List.{flat_map}
use Rattle.gx_base.specs.Kinds.{kind_number}
use Rattle.gx_base.specs.Methods.{most_methods, methods_of}
use Rattle.gx_base.specs.TableRows.{row_of}
use Rattle.run_commands.specs.commands.Classify.{class_line, class_lines}
use Rattle.run_commands.proofs.commands.classify.put_first.Given as goal

-- with the lines of the rest of the methods it comes to the whole text
abbrev pub invariant-loop-second : goal.invariant-loop-second
invariant-loop-second l =
    l.text.items ++ flat_map (class_line (row_of l.table) l.first) (drop l.place (methods_of (kind_number l.kind)))
    ≡ l.fn.text.items ++ class_lines l.kind (row_of l.table) l.first

abbrev pub decreases-loop-second : goal.decreases-loop-second
decreases-loop-second l = most_methods - l.place
