use Rattle.std.proofs.Common.{◌≡◌, length, arith}
use Rattle.std.proofs.lemmas.Grind.{common_steps}
use Rattle.cond_text.proofs.texts.LineSteps.{one_more, one_line_more, refused_next, all_read, all_counted}
use Rattle.cond_text.proofs.tables.read_lines.Goals as goal

pub returns-in-Err-clause-fault : goal.returns-in-Err-clause-fault
returns-in-Err-clause-fault c =
    rw c.at.ensures
    (refused_next _ _ _ _ _ c.first_line.result.1.now _ c.in-Err.fault c.loop-rest.invariant.have c.first_line.ensures.lines c.in-Err.ensures.skipped c.in-Err.ensures.fault)

pub loop-rest-preserved : goal.loop-rest-preserved
loop-rest-preserved c = record {
  have = one_more _ _ _ _ _ c.first_line.result.1.now _ _ c.loop-rest.invariant.have c.first_line.ensures.lines c.in_default.ensures.read;
  within = one_line_more _ _ _ _ _ c.first_line.result.1.now _ c.loop-rest.invariant.have c.first_line.ensures.lines;
  short = omega arith;
}

pub returns-clause-read : goal.returns-clause-read
returns-clause-read c =
    let none : length c.loop-rest.rest.now ≡ 0 = grind (arith, common_steps) in
    all_read _ _ _ _ _ c.loop-rest.invariant.have none

pub returns-clause-count : goal.returns-clause-count
returns-clause-count c =
    let none : length c.loop-rest.rest.now ≡ 0 = grind (arith, common_steps) in
    all_counted _ _ _ _ _ c.loop-rest.invariant.have c.loop-rest.invariant.within none
