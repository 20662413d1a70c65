use Rattle.std.proofs.lemmas.Result.{err_from_is_err_and}
use Rattle.cond_syntax.specs.Tokens.{tokens_in}
use Rattle.cond_text.specs.Found.{IsFound}
use Rattle.cond_text.specs.declared.conditions.Found.TheVariants.{Malformed, UnknownWord, TooDeep, Known}
use Rattle.cond_text.proofs.texts.RowFaults.{malformed_row, unknown_methods, unknown_words, too_deep_row, no_place, next_row}
use Rattle.cond_text.proofs.tables.row_lines.RowLines.read.Goals as goal

pub returns-in_err-methods_named-in-UnknownWord-clause-fault : goal.returns-in_err-methods_named-in-UnknownWord-clause-fault
returns-in_err-methods_named-in-UnknownWord-clause-fault c =
    let found : IsFound c.args.self.now.kind (tokens_in c.args.text.now) UnknownWord = rw c.in-UnknownWord.is at c.in_ok-read_condition.ensures in
    let returned = c.from_residual-in_err-methods_named-in-UnknownWord in
    let p = err_from_is_err_and returned.result returned.ensures.1 in
    rw (p.1, p.2, c.in_err-methods_named-in-UnknownWord.ensures.fault)
    (λ wanted ts. unknown_methods wanted _ _ ts _ _ _ found.0 c.in_err-methods_named-in-UnknownWord.ensures.none)

pub returns-in_err-place-in-TooDeep-clause-fault : goal.returns-in_err-place-in-TooDeep-clause-fault
returns-in_err-place-in-TooDeep-clause-fault c =
    let found : IsFound c.args.self.now.kind (tokens_in c.args.text.now) TooDeep = rw c.in-TooDeep.is at c.in_ok-read_condition.ensures in
    let returned = c.from_residual-in_err-place-in-TooDeep in
    let p = err_from_is_err_and returned.result returned.ensures.1 in
    rw (p.1, p.2) (λ wanted ts. no_place wanted _ _ ts _ _ _ _ found.0 found.1 c.in_err-place-in-TooDeep.ensures.fault)

pub returns-in_err-first-in-Known-clause-fault : goal.returns-in_err-first-in-Known-clause-fault
returns-in_err-first-in-Known-clause-fault c =
    let found : IsFound c.args.self.now.kind (tokens_in c.args.text.now) (Known c.in-Known.cond) = rw c.in-Known.is at c.in_ok-read_condition.ensures in
    let returned = c.from_residual-in_err-first-in-Known in
    let p = err_from_is_err_and returned.result returned.ensures.1 in
    rw (p.1, p.2) (λ wanted ts. no_place wanted _ _ ts _ _ _ _ found.0 found.1 c.in_err-first-in-Known.ensures.fault)

pub returns-in-Malformed-clause-fault : goal.returns-in-Malformed-clause-fault
returns-in-Malformed-clause-fault c =
    let found : IsFound c.args.self.now.kind (tokens_in c.args.text.now) Malformed = rw c.in-Malformed.is at c.in_ok-read_condition.ensures in
    λ wanted ts. malformed_row wanted _ _ ts _ _ _ found

pub returns-in_ok-methods_named-in-UnknownWord-clause-fault : goal.returns-in_ok-methods_named-in-UnknownWord-clause-fault
returns-in_ok-methods_named-in-UnknownWord-clause-fault c =
    let found : IsFound c.args.self.now.kind (tokens_in c.args.text.now) UnknownWord = rw c.in-UnknownWord.is at c.in_ok-read_condition.ensures in
    λ wanted ts. unknown_words wanted _ _ ts _ _ _ _ _ found.0 found.1 c.in_ok-methods_named-in-UnknownWord.ensures.methods

pub returns-in_ok-place-in-TooDeep-clause-fault : goal.returns-in_ok-place-in-TooDeep-clause-fault
returns-in_ok-place-in-TooDeep-clause-fault c =
    let found : IsFound c.args.self.now.kind (tokens_in c.args.text.now) TooDeep = rw c.in-TooDeep.is at c.in_ok-read_condition.ensures in
    λ wanted ts. too_deep_row wanted _ _ ts _ _ _ _ _ found.0 found.1 found.2 c.in_ok-place-in-TooDeep.ensures.methods c.in_ok-place-in-TooDeep.ensures.free

pub returns-in_ok-add-in-Known-clause-read : goal.returns-in_ok-add-in-Known-clause-read
returns-in_ok-add-in-Known-clause-read c =
    let found : IsFound c.args.self.now.kind (tokens_in c.args.text.now) (Known c.in-Known.cond) = rw c.in-Known.is at c.in_ok-read_condition.ensures in
    rw (c.in_ok-add-in-Known.ensures.kind, c.in_ok-add-in-Known.ensures.ok)
    (λ wanted line. next_row wanted _ _ line _ _ _ _ _ _ c.in_ok-first-in-Known.ensures.methods found.2 c.in_ok-first-in-Known.ensures.free)
