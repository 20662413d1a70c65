use Rattle.std.proofs.Common.{rules, ◌≡◌, [], ◌∙◌, ap, length, map, arith}
use Rattle.gx_base.specs.Replays.{in_rooms}
use Rattle.gx_base.specs.Worklists.{with_items}
use Rattle.commit_book.specs.Commits.{outcome_of}
use Rattle.commit_book.specs.SerialRuns.{operator_of}
use Rattle.commit_book.proofs.runs.SerialSteps.{none_yet, commits_one, unfinished_of}
use Rattle.commit_book.proofs.serial.run_serially.Goals as goal

pub loop-item-init : goal.loop-item-init
loop-item-init g c = record {
  rooms = search rules;
  within = omega (arith, ap length c.new-commits.ensures.items);
  so_far = none_yet (operator_of g.O.Operator c.args.op.now) (in_rooms (map g.T.SeqType.state c.args.rooms.now)) (with_items [] c.args.ready.now) c.insert_all.new.self c.new-commits.result.items
      c.new-commits.ensures.items (c.in_ok-insert_all.ensures.ok ∙ ap (λ list. with_items list c.args.ready.now) c.new-worklist.ensures);
}

pub returns-then-len-eq-MOST_COMMITS-clause-spent : goal.returns-then-len-eq-MOST_COMMITS-clause-spent
returns-then-len-eq-MOST_COMMITS-clause-spent g c = λ _.
    unfinished_of (operator_of g.O.Operator c.args.op.now) (in_rooms (map g.T.SeqType.state c.args.rooms.now)) (in_rooms (map g.T.SeqType.state c.loop-item.rooms)) (with_items [] c.args.ready.now)
    c.loop-item.worklist c.loop-item.commits.items c.in-Some.item c.loop-item.invariant.so_far (omega (arith, c.len.ensures, c.if-len-eq-MOST_COMMITS.true, c.loop-item.commits.ok)) c.in-Some.ensures.ready

pub loop-item-preserved : goal.loop-item-preserved
loop-item-preserved g c =
    let count : c.len-in-Some.result ≡ length c.loop-item.commits.items = omega (arith, c.len-in-Some.ensures, c.loop-item.commits.ok) in
    record {
      rooms = search rules;
      within = omega (arith, c.in_ok-push.ensures.len, c.loop-item.commits.ok, c.push.new.self.ok, c.len.ensures, c.if-len-eq-MOST_COMMITS.false, c.loop-item.invariant.within);
      so_far = commits_one (operator_of g.O.Operator c.args.op.now) (in_rooms (map g.T.SeqType.state c.args.rooms.now)) (in_rooms (map g.T.SeqType.state c.loop-item.rooms)) (in_rooms (map g.T.SeqType.state c.commit_item.new.rooms)) (with_items [] c.args.ready.now)
          c.loop-item.worklist c.commit_item.new.worklist c.loop-item.commits.items c.push.new.self.items c.in-Some.item _ c.len-in-Some.result (outcome_of c.commit_item.new.outcome)
          c.loop-item.invariant.so_far c.in-Some.ensures.ready c.in-Some.ensures.least c.in_ok-commit_item.ensures.ran c.in_ok-commit_item.ensures.ready count (omega (arith, c.len-in-Some-2.ensures, c.commit_item.new.outcome.steps.ok)) c.in_ok-push.ensures.items;
    }
