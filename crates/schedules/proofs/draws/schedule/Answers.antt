use Rattle.std.proofs.Common.{ℕ, ◌<◌, refl, subst, sym, rules}
use Rattle.std.proofs.lemmas.List.Elements.{All-push}
use Rattle.std.specs.List.{All}
use Rattle.schedules.specs.Draws.{state_after}
use Rattle.schedules.proofs.states.Turns.{state_next, turn_worker, more_turns}
use Rattle.schedules.proofs.draws.schedule.Goals as goal

pub loop-turn-init : goal.loop-turn-init
unfolding state_after
loop-turn-init c = record { state = refl; turns = c.new-all.ensures.items; within = search rules }

pub loop-turn-preserved : goal.loop-turn-preserved
loop-turn-preserved c =
    let seed : ℕ = c.args.seed in
    let k : ℕ = c.loop-turn.turn in
    let here = c.loop-turn.invariant in
    let pushed = c.in_ok-push.ensures.items in
    record {
      state = state_next seed k c.loop-turn.state c.next_draw_state-state.result here.state c.next_draw_state-state.ensures;
      turns = more_turns seed c.args.workers k c.worker_of.result c.loop-turn.all.items c.push.new.self.items here.turns
          (turn_worker seed k c.args.workers c.loop-turn.state c.next_draw_state-state.result c.worker_of.result here.state c.next_draw_state-state.ensures c.worker_of.ensures.turn) pushed;
      within = subst (All (λ (worker : ℕ). worker < c.args.workers)) (sym pushed) (All-push (λ (worker : ℕ). worker < c.args.workers) c.loop-turn.all.items c.worker_of.result here.within c.worker_of.ensures.within);
    }
