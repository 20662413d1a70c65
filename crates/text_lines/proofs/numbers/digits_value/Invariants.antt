use Rattle.std.proofs.Common.{◌≡◌, ◌<◌, ◌^◌, drop}
use Rattle.text_lines.specs.Numbers.{all_digits, value_from}
use Rattle.text_lines.proofs.numbers.digits_value.Given as goal

abbrev pub invariant-loop-byte : goal.invariant-loop-byte
invariant-loop-byte l = record {
  digits : all_digits l.field ≡ all_digits (drop l.byte-index l.field);
  value : value_from 0 l.field ≡ value_from l.value (drop l.byte-index l.field);
  small : l.value < 10 ^ l.byte-index;
}
