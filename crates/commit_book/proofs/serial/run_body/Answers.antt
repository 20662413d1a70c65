use Rattle.std.proofs.Common.{rules, length, map, ◌<◌, ap, arith, slice_index_or, slice_set}
use Rattle.gx_base.specs.Outcomes.{Outcome}
use Rattle.gx_base.specs.Replays.{in_rooms}
use Rattle.commit_book.proofs.states.Rooms.{in_rooms-object, in_rooms-set_object}
use Rattle.commit_book.proofs.runs.BodySteps.{begins, calls, push, ends}
use Rattle.commit_book.proofs.serial.run_body.Goals as goal

pub loop-room-init : goal.loop-room-init
loop-room-init g c = record {
  rooms = search rules;
  under_way = begins (g.O.Operator.plan c.args.op.now c.args.item) _ (in_rooms (map g.T.SeqType.state c.args.rooms.now)) c.clear.new.self.steps.items c.clear.new.self.pushes.items c.begin-state.ensures
      (ap (λ (o : Outcome). o.steps) c.clear.ensures) (ap (λ (o : Outcome). o.pushes) c.clear.ensures);
}

pub loop-room-preserved-in-Call : goal.loop-room-preserved-in-Call
loop-room-preserved-in-Call g c =
    let within : c.in-Call.room < length c.loop-room.rooms = omega (arith, c.in-Call.ensures.room) in
    record {
      rooms = search rules;
      under_way = calls (g.O.Operator.plan c.args.op.now c.args.item) (g.O.Operator.rest c.args.op.now c.loop-room.state c.loop-room.last) (g.O.Operator.rest c.args.op.now c.next.new.st)
          (in_rooms (map g.T.SeqType.state c.args.rooms.now)) (in_rooms (map g.T.SeqType.state c.loop-room.rooms)) (in_rooms (map g.T.SeqType.state (slice_set c.loop-room.rooms c.in-Call.room c.apply.new.self)))
          c.loop-room.outcome.steps.items c.push.new.self.items c.loop-room.outcome.pushes.items c.in-Call.room c.in-Call.call c.in_ok-reply-in-Call.reply
          (g.T.SeqType.state (slice_index_or c.loop-room.rooms c.in-Call.room c.index-rooms-room.result)) (g.T.SeqType.state c.apply.new.self)
          c.loop-room.invariant.under_way c.in-Call.ensures.follows
          (in_rooms-object g.T.SeqType.state c.loop-room.rooms c.in-Call.room c.index-rooms-room.result within)
          c.in_ok-reply-in-Call.ensures.reply c.in_ok-reply-in-Call.ensures.ok
          (in_rooms-set_object g.T.SeqType.state c.loop-room.rooms c.in-Call.room c.apply.new.self within)
          c.in_ok-push-in-Call.ensures.items;
    }

pub loop-room-preserved : goal.loop-room-preserved
loop-room-preserved g c = record {
  rooms = search rules;
  under_way = push (g.O.Operator.plan c.args.op.now c.args.item) (g.O.Operator.rest c.args.op.now c.loop-room.state c.loop-room.last) (g.O.Operator.rest c.args.op.now c.next.new.st)
      (in_rooms (map g.T.SeqType.state c.args.rooms.now)) (in_rooms (map g.T.SeqType.state c.loop-room.rooms)) c.loop-room.outcome.steps.items c.loop-room.outcome.pushes.items c.push-in-Push.new.self.items c.in-Push.item
      c.loop-room.invariant.under_way c.in-Push.ensures.follows c.in_ok-push-in-Push.ensures.items;
}

pub returns-in-Done : goal.returns-in-Done
returns-in-Done g c =
    ends (g.O.Operator.plan c.args.op.now c.args.item) (g.O.Operator.rest c.args.op.now c.loop-room.state c.loop-room.last) (g.O.Operator.rest c.args.op.now c.next.new.st)
    (in_rooms (map g.T.SeqType.state c.args.rooms.now)) (in_rooms (map g.T.SeqType.state c.loop-room.rooms)) c.loop-room.outcome.steps.items c.loop-room.outcome.pushes.items
    c.loop-room.invariant.under_way c.in-Done.ensures.follows
