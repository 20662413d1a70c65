use Rattle.std.proofs.Common.{◌≡◌, ◌++◌, ◌-◌, drop}
use Rattle.std.specs.List.{flat_map}
use Rattle.gx_base.specs.Kinds.{kind_number}
use Rattle.gx_base.specs.Methods.{most_methods, methods_of}
use Rattle.gx_base.specs.TableRows.{row_of}
use Rattle.lock_compiler.specs.Compiled.{method_members, members_of}
use Rattle.lock_compiler.proofs.members.all_members.Given as goal

-- with those of the methods that are left it comes to all
abbrev pub invariant-methods : goal.invariant-methods
invariant-methods l = l.members.items ++ flat_map (method_members (kind_number l.kind) (row_of l.table)) (drop l.place (methods_of (kind_number l.kind))) ≡ members_of (kind_number l.kind) (row_of l.table)

abbrev pub decreases-methods : goal.decreases-methods
decreases-methods l = most_methods - l.place
