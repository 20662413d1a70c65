use Rattle.std.proofs.Common.{◌+◌, ◌++◌, ◌∷◌, [], arith, sym, ◌∙◌, ap, vec_len, vec_capacity}
use Rattle.gate_core.proofs.lists.Walking.{Numbered, numbered_one, numbered_past}
use Rattle.gate_core.proofs.entries.append_done.Goals as goal
use Rattle.gate_core.proofs.entries.append_done.Goals.{then-is_entry_of, else-is_entry_of}

pub loop-entry-preserved : goal.loop-entry-preserved
loop-entry-preserved c =
    elim c.if-is_entry_of.branch [
      | then-is_entry_of w ↦
          let n : Numbered c.args.worker c.args.iter c.args.number c.args.mark c.args.done.now.items c.args.live.now (c.loop-entry.entry-index + 1) c.if-is_entry_of.done.items c.if-is_entry_of.mark =
          numbered_one c.args.worker c.args.iter c.args.number c.args.mark c.args.done.now.items c.args.live.now c.loop-entry.entry-index _ c.loop-entry.done.items c.if-is_entry_of.done.items c.loop-entry.mark c.if-is_entry_of.mark
          c.loop-entry-test.true (record { items = c.loop-entry.invariant.items; left = c.loop-entry.invariant.left }) (sym c.is_entry_of.ensures ∙ w.if-is_entry_of.true) (ap (λ v. v.items) w.done-is ∙ w.push_reserved.ensures.items ∙ ap (λ e. c.loop-entry.done.items ++ e ∷ []) w.done_as.ensures) w.mark-is in
          record { items = n.items; left = n.left; capacity = ap vec_capacity w.done-is ∙ w.push_reserved.ensures.capacity ∙ c.loop-entry.invariant.capacity; room = omega (arith, ap vec_len w.done-is, ap vec_capacity w.done-is, w.push_reserved.ensures.len, w.push_reserved.ensures.capacity, c.loop-entry.invariant.room, c.loop-entry-test.true) }
      | else-is_entry_of w ↦
          let n : Numbered c.args.worker c.args.iter c.args.number c.args.mark c.args.done.now.items c.args.live.now (c.loop-entry.entry-index + 1) c.if-is_entry_of.done.items c.if-is_entry_of.mark =
          numbered_past c.args.worker c.args.iter c.args.number c.args.mark c.args.done.now.items c.args.live.now c.loop-entry.entry-index _ c.loop-entry.done.items c.if-is_entry_of.done.items c.loop-entry.mark c.if-is_entry_of.mark
          c.loop-entry-test.true (record { items = c.loop-entry.invariant.items; left = c.loop-entry.invariant.left }) (sym c.is_entry_of.ensures ∙ w.if-is_entry_of.false) (ap (λ v. v.items) w.done-is) w.mark-is in
          record { items = n.items; left = n.left; capacity = ap vec_capacity w.done-is ∙ c.loop-entry.invariant.capacity; room = omega (arith, ap vec_len w.done-is, ap vec_capacity w.done-is, c.loop-entry.invariant.room, c.loop-entry-test.true) }
    ]
