-- The grammar is unambiguous: the machine that reads what it spells is in one state after the same tokens.
use Rattle.std.specs.Prelude.{◌≡◌, List, [], Some}
use Rattle.std.proofs.Common.{sym, ◌∙◌, ap}
use Rattle.cond_syntax.specs.Tokens.{Token}
use Rattle.cond_syntax.specs.WrittenConditions.{WrittenCondition}
use Rattle.cond_syntax.specs.Grammar.{IsCondition}
use Rattle.cond_syntax.proofs.machine.Machine.{whole}
use Rattle.cond_syntax.proofs.machine.GrammarToMachine.{spelled_runs}

-- tokens spell one condition at most
pub one_tree : (ts : List Token) (c d : WrittenCondition) → IsCondition ts [] c → IsCondition ts [] d → c ≡ d
one_tree ts c d first second =
    let one = spelled_runs first in
    let other = spelled_runs second in
    let same : Some one.0 ≡ Some other.0 = sym one.1 ∙ other.1 in
    let read : one.0 ≡ other.0 = cc in
    let both : Some c ≡ Some d = sym one.2 ∙ ap whole read ∙ other.2 in
    cc
