use Rattle.std.proofs.Common.{◌≡◌, ◌+◌, ◌-◌, false, drop, arith, sym, ◌∙◌, ap}
use Rattle.gate_core.specs.Entries.{has_entry}
use Rattle.gate_core.proofs.lists.Walking.{found_last}
use Rattle.gate_core.proofs.entries.last_place.Goals as goal

pub returns-then-is_entry_of : goal.returns-then-is_entry_of
returns-then-is_entry_of c =
    let place : c.loop-place.place - 1 + 1 ≡ c.loop-place.place = omega arith in
    let none : has_entry c.args.worker c.args.iter (drop (c.loop-place.place - 1 + 1) c.args.entries.now) ≡ false = ap (λ k. has_entry c.args.worker c.args.iter (drop k c.args.entries.now)) place ∙ c.loop-place.invariant in
    found_last c.args.worker c.args.iter c.args.entries.now (c.loop-place.place - 1) _ (omega arith) none (sym c.is_entry_of.ensures ∙ c.if-is_entry_of.true)
