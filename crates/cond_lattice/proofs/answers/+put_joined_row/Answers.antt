use Rattle.std.proofs.Common.{rules, ◌≡◌, ◌+◌, ◌≤◌, refl, arith, sym, ◌∙◌}
use Rattle.gx_base.specs.Conditions.{condition_of}
use Rattle.cond_lattice.specs.Derivations.{is_derived}
use Rattle.cond_lattice.specs.AnswerRows.{parts_of, is_and, heavy_of, light_of, lower_answer_of, upper_answer_of}
use Rattle.cond_lattice.proofs.answer_rows.Lists.{some_parts, sides_parts, rest_room, rest_whole, rest_kept, begins_first, begins_second, leaf_first, leaf_made, other_answer, AreMade, first_answer, second_answer, own_answer, row_made}
use Rattle.cond_lattice.proofs.answer_rows.Steps.{row_step, row_leaf}
use Rattle.cond_lattice.proofs.answers.+put_joined_row.Goals as goal

pub returns-in_default-clause-row : goal.returns-in_default-clause-row
returns-in_default-clause-row t c =
    let leaf = c.in_default.ensures.joined in
    leaf_made (condition_of c.args.c.now) (condition_of c.args.d.now) c.args.row.now c.lower_answer.result leaf c.requires.room
    (c.lower_answer.ensures
    ∙ (λ k. lower_answer_of (c.is_and.ensures k)
    (leaf_first (heavy_of (condition_of c.args.c.now)) (condition_of c.args.d.now) c.args.row.now leaf c.requires.heavy k)
    (leaf_first (light_of (condition_of c.args.c.now)) (condition_of c.args.d.now) c.args.other.now leaf c.requires.light k))
    ∙ sym (row_leaf (condition_of c.args.c.now) (condition_of c.args.d.now) c.requires.joined leaf))

pub put_joined_row-left-requires : goal.put_joined_row-left-requires
put_joined_row-left-requires t c =
    let parts : parts_of (condition_of c.args.d.now) ≡ parts_of (condition_of c.in-Some.x.now) + parts_of (condition_of c.in-Some.y.now) + 1 = sides_parts _ _ _ c.in-Some.ensures.sides in (
      omega arith,
      (
        c.requires.joined,
        (omega arith, (begins_first (heavy_of (condition_of c.args.c.now)) _ _ _ _ c.in-Some.ensures.sides c.requires.heavy, (omega arith, begins_first (light_of (condition_of c.args.c.now)) _ _ _ _ c.in-Some.ensures.sides c.requires.light))),
      ),
    )

pub put_joined_row-requires : goal.put_joined_row-requires
put_joined_row-requires t c =
    let parts : parts_of (condition_of c.args.d.now) ≡ parts_of (condition_of c.in-Some.x.now) + parts_of (condition_of c.in-Some.y.now) + 1 = sides_parts _ _ _ c.in-Some.ensures.sides in (
      omega arith,
      (
        c.requires.joined,
        (
          rest_room c.put_joined_row-left.new.row c.args.row.now c.put_joined_row-left.result _ (search rules) (omega arith),
          (
            begins_second (heavy_of (condition_of c.args.c.now)) _ _ _ c.args.row.now _ c.put_joined_row-left.result c.in-Some.ensures.sides c.requires.heavy c.put_joined_row-left.ensures.count
                (rest_kept (condition_of c.args.c.now) (condition_of c.in-Some.x.now) c.args.row.now c.put_joined_row-left.new.row c.put_joined_row-left.result c.put_joined_row-left.ensures.count c.put_joined_row-left.ensures.row),
            (
              rest_room c.args.other.now c.args.other.now c.put_joined_row-left.result _ refl (omega arith),
              begins_second (light_of (condition_of c.args.c.now)) _ _ _ c.args.other.now _ c.put_joined_row-left.result c.in-Some.ensures.sides c.requires.light c.put_joined_row-left.ensures.count
                  (rest_whole c.args.other.now c.put_joined_row-left.result),
            ),
          ),
        ),
      ),
    )

pub overflow_sub-left : goal.overflow_sub-left
overflow_sub-left t c =
    let some : 1 ≤ parts_of (condition_of c.in-Some.x.now) = some_parts (condition_of c.in-Some.x.now) in
    omega arith

pub overflow_sub-place : goal.overflow_sub-place
overflow_sub-place t c =
    let some : 1 ≤ parts_of (condition_of c.in-Some.x.now) = some_parts (condition_of c.in-Some.x.now) in
    omega arith

pub returns-clause-row : goal.returns-clause-row
returns-clause-row t c =
    let parts : parts_of (condition_of c.args.d.now) ≡ parts_of (condition_of c.in-Some.x.now) + parts_of (condition_of c.in-Some.y.now) + 1 = sides_parts _ _ _ c.in-Some.ensures.sides in
    let made : AreMade (condition_of c.args.c.now) (condition_of c.in-Some.x.now) (condition_of c.in-Some.y.now) c.args.row.now c.put_joined_row-left.new.row c.put_joined_row.new.row c.put_joined_row-left.result c.put_joined_row.result =
    record { first = c.put_joined_row-left.ensures.count; second = c.put_joined_row.ensures.count; room = omega arith; is_before = c.put_joined_row-left.ensures.row; is_after = c.put_joined_row.ensures.row } in
    let own : c.lower_answer-own.result ≡ lower_answer_of (is_and (condition_of c.args.c.now)) (is_derived (heavy_of (condition_of c.args.c.now)) (condition_of c.args.d.now)) (is_derived (light_of (condition_of c.args.c.now)) (condition_of c.args.d.now)) =
    c.lower_answer-own.ensures
    ∙ (λ k. lower_answer_of (c.is_and-2.ensures k) (own_answer _ _ _ _ _ _ _ _ _ c.in-Some.ensures.sides made (heavy_of (condition_of c.args.c.now)) c.requires.heavy k)
    (other_answer (light_of (condition_of c.args.c.now)) (condition_of c.args.d.now) c.args.other.now (c.put_joined_row-left.result + c.put_joined_row.result) (omega arith) c.requires.light k)) in
    row_made _ _ _ _ _ _ _ _ _ c.in-Some.ensures.sides made c.upper_answer.result
    (c.upper_answer.ensures
    ∙ (λ k. upper_answer_of (c.is_and-3.ensures k) (first_answer _ _ _ _ _ _ _ _ _ c.in-Some.ensures.sides made k) (second_answer _ _ _ _ _ _ _ _ _ c.in-Some.ensures.sides made k) (own k))
    ∙ sym (row_step (condition_of c.args.c.now) (condition_of c.args.d.now) _ _ c.requires.joined c.in-Some.ensures.sides))
