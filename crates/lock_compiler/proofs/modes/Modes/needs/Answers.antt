use Rattle.std.proofs.Common.{◌<◌, ◌^◌, length, map, List, ap, ◌∙◌, subst}
use Rattle.std.specs.Prelude.{slice_get}
use Rattle.gx_base.specs.declared.calls.Made.{Made}
use Rattle.lock_compiler.specs.declared.wants.MethodWants.{MethodWants}
use Rattle.lock_compiler.specs.LockModes.{LockModes, need_of, needs_of}
use Rattle.lock_compiler.specs.Wants.{modes_of, wanted_in}
use Rattle.lock_compiler.proofs.clashing.Needs.{need_below}
use Rattle.lock_compiler.proofs.keeping.Lists.{few_needs, needs_kept}
use Rattle.lock_compiler.proofs.modes.Modes.needs.Goals as goal

pub returns-clause-need : goal.returns-clause-need
returns-clause-need c =
    let made : Made = record { call = c.args.call; reply = c.args.reply } in
    c.need_at.ensures ∙ ap (λ (lists : List MethodWants). slice_get (map (need_of made) (wanted_in lists c.args.call.method)) c.args.i) c.deref.ensures.value
    ∙ needs_kept (modes_of c.self.inside.modes.items) c.self.inside.wants.items made c.args.i c.self.invariant ∙ ap (λ (modes : LockModes). slice_get (needs_of modes made) c.args.i) c.self.view_is

pub returns-clause-mode : goal.returns-clause-mode
returns-clause-mode c =
    let made : Made = record { call = c.args.call; reply = c.args.reply } in
    need_below c.args.self.now made c.args.i c.need_at.result (
    c.need_at.ensures ∙ ap (λ (lists : List MethodWants). slice_get (map (need_of made) (wanted_in lists c.args.call.method)) c.args.i) c.deref.ensures.value
    ∙ needs_kept (modes_of c.self.inside.modes.items) c.self.inside.wants.items made c.args.i c.self.invariant ∙ ap (λ (modes : LockModes). slice_get (needs_of modes made) c.args.i) c.self.view_is)

pub returns-clause-few : goal.returns-clause-few
returns-clause-few c =
    let made : Made = record { call = c.args.call; reply = c.args.reply } in
    subst (λ (modes : LockModes). length (needs_of modes made) < 2 ^ 32) c.self.view_is (few_needs (modes_of c.self.inside.modes.items) c.self.inside.wants.items made c.self.invariant)
