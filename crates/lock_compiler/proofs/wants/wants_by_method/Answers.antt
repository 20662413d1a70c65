use Rattle.std.proofs.Common.{◌++◌, ap, List}
use Rattle.lock_compiler.specs.declared.wants.MethodWants.{MethodWants}
use Rattle.lock_compiler.specs.LockModes.{wants_from, wants_of}
use Rattle.lock_compiler.specs.Wants.{modes_of, wanted_in}
use Rattle.lock_compiler.proofs.keeping.Lists.{next_mode, no_mode_left}
use Rattle.lock_compiler.proofs.wants.wants_by_method.Goals as goal

pub loop-number-init : goal.loop-number-init
loop-number-init c = λ m. ap (λ (lists : List MethodWants). wanted_in lists m ++ wants_from 0 (modes_of c.args.modes.now) m) c.new-lists.ensures.items

pub loop-number-preserved : goal.loop-number-preserved
loop-number-preserved c = λ m.
    next_mode c.loop-number.number m c.args.modes.now c.index-modes-number.result c.deref.result.now (wanted_in c.loop-number.lists.items m) (wanted_in c.add_mode.new.lists.items m)
    (wants_of (modes_of c.args.modes.now) m) c.loop-number-test.true c.index-modes-number.is c.deref.ensures.value (c.in_ok-add_mode.ensures m) (c.loop-number.invariant m)

pub returns : goal.returns
returns c = λ m.
    no_mode_left c.loop-number.number m c.args.modes.now (wanted_in c.loop-number.lists.items m) (wants_of (modes_of c.args.modes.now) m) c.loop-number-test.false (c.loop-number.invariant m)
