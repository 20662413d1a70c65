use Rattle.std.proofs.Common.{◌≡◌, ℕ, suc, ◌-◌, ◌<◌, List, length, get_or, drop, sym, ◌∙◌, ap, arith}
use Rattle.std.proofs.Math.Seq.{drop-cons}
use Rattle.std.specs.Ordering.{nat_cmp}
use Rattle.std.specs.BTreeSet.{insert_key}
use Rattle.gx_base.specs.declared.acts.Step.{Step}
use Rattle.sessions.specs.RoomLists.{rooms_of}
use Rattle.sessions.proofs.releases.Releases.of.Goals as goal

-- the room of a step is noted with those of the steps after it
noted : (log : List Step) (n k : ℕ) (d : Step) (keys now : List ℕ) → suc k ≡ n → k < length log → keys ≡ rooms_of (drop n log) → now ≡ insert_key nat_cmp keys (get_or log k d).room
    → now ≡ rooms_of (drop k log)
noted log n k d keys now e h was is =
    is ∙ ap (λ (ks : List ℕ). insert_key nat_cmp ks (get_or log k d).room) (was ∙ ap (λ m. rooms_of (drop m log)) (sym e)) ∙ sym (ap rooms_of (drop-cons log k d h))

pub loop-place-preserved : goal.loop-place-preserved
loop-place-preserved c =
    noted c.args.log.now c.loop-place.place (c.loop-place.place - 1) _ c.loop-place.rooms.items c.put_room.new.rooms.items (omega arith) (omega arith) c.loop-place.invariant c.in_ok-put_room.ensures
