use Rattle.std.proofs.Common.{sym, ◌∙◌}
use Rattle.gx_base.specs.Kinds.{kind_number}
use Rattle.gx_base.specs.TableRows.{row_of}
use Rattle.lock_compiler.specs.Compiled.{members_of}
use Rattle.lock_compiler.proofs.collecting.Steps.{next_members, no_members_left}
use Rattle.lock_compiler.proofs.members.all_members.Goals as goal

pub methods-preserved : goal.methods-preserved
methods-preserved c =
    next_members (kind_number c.args.kind) (row_of c.args.table.now) c.methods.place c.in-Some.method c.deref.result.now c.methods.members.items c.add_members.new.members.items
    (members_of (kind_number c.args.kind) (row_of c.args.table.now)) (sym c.in-Some.ensures) (c.deref.ensures.value ∙ c.in_ok-numbers.ensures) c.in_ok-add_members.ensures c.methods.invariant

pub returns : goal.returns
returns c =
    no_members_left (kind_number c.args.kind) (row_of c.args.table.now) c.methods.place c.methods.members.items (members_of (kind_number c.args.kind) (row_of c.args.table.now)) (sym c.in_default.ensures) c.methods.invariant
