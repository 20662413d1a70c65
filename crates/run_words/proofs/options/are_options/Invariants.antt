use Rattle.std.proofs.Common.{◌≡◌, length, map, string_bytes}
use Rattle.run_words.specs.RunOptions.{are_options}
use Rattle.run_words.proofs.options.are_options.Given as goal

-- the options passed so far may stand before the others
abbrev pub invariant-options : goal.invariant-options
invariant-options l = are_options (map string_bytes l.rest) ≡ are_options (map string_bytes l.words)

abbrev pub decreases-options : goal.decreases-options
decreases-options l = length l.rest
