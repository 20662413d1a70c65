use Rattle.std.proofs.Common.{◌≡◌, ◌-◌, drop}
use Rattle.gx_base.specs.Kinds.{kind_number}
use Rattle.gx_base.specs.Methods.{most_methods, methods_of}
use Rattle.gx_base.specs.TableRows.{row_of}
use Rattle.lock_compiler.specs.Compiled.{with_methods, locked_numbers}
use Rattle.lock_compiler.proofs.members.locked_numbers.Given as goal

-- with those of the methods that are left it comes to all
abbrev pub invariant-others : goal.invariant-others
invariant-others l = with_methods (row_of l.table) l.method (drop l.place (methods_of (kind_number l.kind))) l.numbers.items ≡ locked_numbers (kind_number l.kind) (row_of l.table) l.method

abbrev pub decreases-others : goal.decreases-others
decreases-others l = most_methods - l.place
