use Rattle.std.proofs.Common.{sym}
use Rattle.gx_base.specs.Conditions.{condition_of}
use Rattle.gx_base.specs.Kinds.{kind_number}
use Rattle.gx_base.specs.TableRows.{row_of}
use Rattle.lock_compiler.specs.Compiled.{locked_numbers}
use Rattle.lock_compiler.proofs.collecting.Steps.{next_other, no_other_left}
use Rattle.lock_compiler.proofs.members.locked_numbers.Goals as goal

pub others-preserved : goal.others-preserved
others-preserved c =
    next_other (kind_number c.args.kind) (row_of c.args.table.now) c.args.method c.others.place c.in-Some.other (condition_of c.row.result.now) (condition_of c.row-in-Some.result.now) c.others.numbers.items
    c.add_condition.new.numbers.items c.add_condition-in-Some.new.numbers.items (locked_numbers (kind_number c.args.kind) (row_of c.args.table.now) c.args.method)
    (sym c.in-Some.ensures) c.row.ensures c.in_ok-add_condition.ensures c.row-in-Some.ensures c.in_ok-add_condition-2.ensures c.others.invariant

pub returns : goal.returns
returns c =
    no_other_left (kind_number c.args.kind) (row_of c.args.table.now) c.args.method c.others.place c.others.numbers.items (locked_numbers (kind_number c.args.kind) (row_of c.args.table.now) c.args.method)
    (sym c.in_default.ensures) c.others.invariant
