use Rattle.std.proofs.Common.{◌≡◌, ◌-◌, true, false, get_or, arith, sym, ◌∙◌}
use Rattle.std.specs.Char.{is_ascii_digit}
use Rattle.text_lines.specs.Numbers.{all_digits, value_from}
use Rattle.std.proofs.lemmas.List.{at_drop_all}
use Rattle.text_lines.proofs.lemmas.NumberLemmas.{other_sign, only_digits, digits_more, digits_end, value_more, room, small_value, small_more, digit_small}
use Rattle.text_lines.proofs.numbers.digits_value.Goals as goal

pub returns-then-not-is_ascii_digit-clause-value : goal.returns-then-not-is_ascii_digit-clause-value
returns-then-not-is_ascii_digit-clause-value c =
    let other : is_ascii_digit (get_or c.args.field.now c.loop-byte.byte-index 0) ≡ false = sym c.is_ascii_digit.ensures.value ∙ c.if-not-is_ascii_digit.true in
    other_sign c.args.field.now (c.loop-byte.invariant.digits ∙ digits_end c.args.field.now c.loop-byte.byte-index c.loop-byte-test.true other)

pub overflow_mul-value : goal.overflow_mul-value
overflow_mul-value c = omega (arith, room c.loop-byte.value c.loop-byte.byte-index (omega arith) c.loop-byte.invariant.small)

pub overflow_add-value : goal.overflow_add-value
overflow_add-value c =
    let digit = digit_small (get_or c.args.field.now c.loop-byte.byte-index 0) (sym c.is_ascii_digit.ensures.value ∙ c.if-not-is_ascii_digit.false) in
    omega (arith, room c.loop-byte.value c.loop-byte.byte-index (omega arith) c.loop-byte.invariant.small, digit, c.from.ensures)

pub loop-byte-preserved : goal.loop-byte-preserved
loop-byte-preserved c =
    let field = c.args.field.now in
    let n = c.loop-byte.byte-index in
    let is = sym c.is_ascii_digit.ensures.value ∙ c.if-not-is_ascii_digit.false in
    let d = digit_small (get_or field n 0) is in
    let e : c.from.result ≡ get_or field n 0 - 48 = c.from.ensures in
    record {
      digits = c.loop-byte.invariant.digits ∙ digits_more field n c.loop-byte-test.true is;
      value = c.loop-byte.invariant.value ∙ rw e (value_more c.loop-byte.value field n c.loop-byte-test.true);
      small = small_more c.loop-byte.value c.from.result n (omega (arith, e, d)) c.loop-byte.invariant.small;
    }

pub returns-clause-value : goal.returns-clause-value
returns-clause-value c =
    let field = c.args.field.now in
    let n = c.loop-byte.byte-index in
    let digits : all_digits field ≡ true = c.loop-byte.invariant.digits ∙ at_drop_all all_digits field n c.loop-byte-test.false in
    let value = c.loop-byte.invariant.value ∙ at_drop_all (value_from c.loop-byte.value) field n c.loop-byte-test.false in
    rw (← value) (only_digits field digits)

pub returns-clause-small : goal.returns-clause-small
returns-clause-small c = small_value c.loop-byte.value c.loop-byte.byte-index (omega arith) c.loop-byte.invariant.small
