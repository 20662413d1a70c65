use Rattle.std.proofs.Common.{◌≡◌, length, map, string_bytes}
use Rattle.run_words.specs.RunOptions.{option_value}
use Rattle.run_words.proofs.options.option_value.Given as goal

-- the names passed so far are others
abbrev pub invariant-names : goal.invariant-names
invariant-names l = option_value (map string_bytes l.rest) l.name ≡ option_value (map string_bytes l.words) l.name

abbrev pub decreases-names : goal.decreases-names
decreases-names l = length l.rest
