use Rattle.std.proofs.Common.{rules, ◌≡◌, List, ℕ, string_bytes, sym, subst}
use Rattle.gx_base.specs.Conditions.{condition_of}
use Rattle.cond_syntax.specs.Tokens.{tokens_in}
use Rattle.cond_syntax.specs.TableTexts.{Spells}
use Rattle.cond_syntax.specs.Printing.{condition_text}
use Rattle.cond_syntax.proofs.CallerLemmas.{printed_condition}
use Rattle.cond_print.proofs.conditions.print_cond.Goals as goal

pub returns-clause-reads_back : goal.returns-clause-reads_back
returns-clause-reads_back c = λ kind printable.
    let printed : string_bytes c.put_condition.new.text ≡ condition_text (condition_of c.args.cond.now) = search rules in
    subst (λ (text : List ℕ). Spells kind (tokens_in text) (condition_of c.args.cond.now)) (sym printed)
    (printed_condition kind (condition_of c.args.cond.now) printable)
