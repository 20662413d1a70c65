use Rattle.std.proofs.Common.{◌-◌, ◌++◌, take, drop, arith, sym, ◌∙◌}
use Rattle.gate_core.specs.Entries.{others_than}
use Rattle.gate_core.proofs.lists.Walking.{leaves_before}
use Rattle.gate_core.proofs.gates.leave.Goals as goal

pub left-requires : goal.left-requires
left-requires g c = (
  take c.loop-place.place c.args.live.now ++ others_than c.args.worker c.args.iter (drop c.loop-place.place c.args.live.now),
  take (c.loop-place.place - 1) c.args.live.now ++ others_than c.args.worker c.args.iter (drop (c.loop-place.place - 1) c.args.live.now),
  c.loop-place.invariant.entries,
  leaves_before c.args.worker c.args.iter c.args.live.now c.loop-place.place _ (omega arith) (omega arith) (sym c.is_entry_of.ensures ∙ c.if-is_entry_of.true),
)

pub loop-place-preserved-then-is_entry_of : goal.loop-place-preserved-then-is_entry_of
loop-place-preserved-then-is_entry_of g c = record {
  entries = c.left.ensures.entries _ _ c.loop-place.invariant.entries (leaves_before c.args.worker c.args.iter c.args.live.now c.loop-place.place _ (omega arith) (omega arith) (sym c.is_entry_of.ensures ∙ c.if-is_entry_of.true));
  same = λ kind table. (
    (λ h. (c.left.ensures.same kind table).0 ((c.loop-place.invariant.same kind table).0 h)),
    (λ h. (c.loop-place.invariant.same kind table).1 ((c.left.ensures.same kind table).1 h)),
  );
}
