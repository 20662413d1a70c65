use Rattle.std.proofs.Common.{rules, ◌≡◌, ◌+◌, ◌≤◌, false, arith, sym, ◌∙◌}
use Rattle.gx_base.specs.Conditions.{condition_of}
use Rattle.cond_lattice.specs.AnswerRows.{parts_of, upper_answer_of}
use Rattle.cond_lattice.proofs.answer_rows.Lists.{some_parts, sides_parts, rest_room, AreMade, first_answer, second_answer, row_made}
use Rattle.cond_lattice.proofs.answer_rows.Steps.{unit_step}
use Rattle.cond_lattice.proofs.answers.+put_unit_row.Goals as goal

pub put_unit_row-left-requires : goal.put_unit_row-left-requires
put_unit_row-left-requires t c =
    let parts : parts_of (condition_of c.args.d.now) ≡ parts_of (condition_of c.in-Some.x.now) + parts_of (condition_of c.in-Some.y.now) + 1 = sides_parts _ _ _ c.in-Some.ensures.sides in
    (omega arith, (c.requires.unit, omega arith))

pub put_unit_row-requires : goal.put_unit_row-requires
put_unit_row-requires t c =
    let parts : parts_of (condition_of c.args.d.now) ≡ parts_of (condition_of c.in-Some.x.now) + parts_of (condition_of c.in-Some.y.now) + 1 = sides_parts _ _ _ c.in-Some.ensures.sides in
    (omega arith, (c.requires.unit, rest_room c.put_unit_row-left.new.row c.args.row.now c.put_unit_row-left.result _ (search rules) (omega arith)))

pub overflow_sub-left : goal.overflow_sub-left
overflow_sub-left t c =
    let some : 1 ≤ parts_of (condition_of c.in-Some.x.now) = some_parts (condition_of c.in-Some.x.now) in
    omega arith

pub overflow_sub-place : goal.overflow_sub-place
overflow_sub-place t c =
    let some : 1 ≤ parts_of (condition_of c.in-Some.x.now) = some_parts (condition_of c.in-Some.x.now) in
    omega arith

pub returns-clause-row : goal.returns-clause-row
returns-clause-row t c =
    let parts : parts_of (condition_of c.args.d.now) ≡ parts_of (condition_of c.in-Some.x.now) + parts_of (condition_of c.in-Some.y.now) + 1 = sides_parts _ _ _ c.in-Some.ensures.sides in
    let made : AreMade (condition_of c.args.c.now) (condition_of c.in-Some.x.now) (condition_of c.in-Some.y.now) c.args.row.now c.put_unit_row-left.new.row c.put_unit_row.new.row c.put_unit_row-left.result c.put_unit_row.result =
    record { first = c.put_unit_row-left.ensures.count; second = c.put_unit_row.ensures.count; room = omega arith; is_before = c.put_unit_row-left.ensures.row; is_after = c.put_unit_row.ensures.row } in
    row_made _ _ _ _ _ _ _ _ _ c.in-Some.ensures.sides made c.upper_answer.result
    (c.upper_answer.ensures
    ∙ (λ k. upper_answer_of (c.is_and.ensures k) (first_answer _ _ _ _ _ _ _ _ _ c.in-Some.ensures.sides made k) (second_answer _ _ _ _ _ _ _ _ _ c.in-Some.ensures.sides made k) false)
    ∙ sym (unit_step (condition_of c.args.c.now) (condition_of c.args.d.now) _ _ c.requires.unit c.in-Some.ensures.sides))
