use Rattle.lock_compiler.specs.Wants.{wanted_in}
use Rattle.lock_compiler.proofs.keeping.Lists.{next_member, no_member_left}
use Rattle.lock_compiler.proofs.wants.add_mode.Goals as goal

pub loop-member-preserved : goal.loop-member-preserved
loop-member-preserved c = λ m.
    next_member c.args.mode m c.args.members.now c.loop-member.member-index _ (wanted_in c.loop-member.lists.items m) (wanted_in c.add_want.new.lists.items m) _
    c.loop-member-test.true (c.in_ok-add_want.ensures m) (c.loop-member.invariant m)

pub returns : goal.returns
returns c = λ m.
    no_member_left c.args.mode m c.args.members.now c.loop-member.member-index (wanted_in c.loop-member.lists.items m) _ c.loop-member-test.false (c.loop-member.invariant m)
