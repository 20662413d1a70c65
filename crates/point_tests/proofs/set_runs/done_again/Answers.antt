use Rattle.std.proofs.Common.{◌≡◌, ◌∙◌, ap, sym, rules}
use Rattle.gx_base.specs.declared.calls.Call.{Call}
use Rattle.gx_base.specs.declared.calls.Reply.{Reply}
use Rattle.gx_base.specs.States.{State}
use Rattle.gx_base.specs.Steps.{next_state, reply_to, inverse, IsState, IsCall}
use Rattle.gx_base.proofs.CallerLemmas.{undoes}
use Rattle.point_tests.proofs.set_runs.done_again.Goals as goal

-- a call that was made and taken back leaves the state before it
back : (s t u : State) (c : Call) (r : Reply) → IsState s → IsCall c → r ≡ reply_to s c → t ≡ next_state s c → u ≡ inverse t c r → u ≡ s
back s t u c r h f e n i = i ∙ ap (λ x. inverse x c r) n ∙ ap (inverse (next_state s c) c) e ∙ undoes s c h f

pub redo-requires-clause-reply : goal.redo-requires-clause-reply
redo-requires-clause-reply g c =
    let fits : IsCall c.args.call = search rules in
    ap (λ s. reply_to s c.args.call) (back (g.T.SeqType.state c.args.object.now) (g.T.SeqType.state c.apply.new.self) (g.T.SeqType.state c.undo.new.self) c.args.call c.in_ok-reply.reply
    (g.T.SeqType.known c.args.object.now) fits c.in_ok-reply.ensures.reply c.in_ok-reply.ensures.ok c.undo.ensures.state)
    ∙ sym c.in_ok-reply.ensures.reply

pub returns-clause-state : goal.returns-clause-state
returns-clause-state g c =
    let fits : IsCall c.args.call = search rules in
    c.redo.ensures.state
    ∙ ap (λ s. next_state s c.args.call) (back (g.T.SeqType.state c.args.object.now) (g.T.SeqType.state c.apply.new.self) (g.T.SeqType.state c.undo.new.self) c.args.call c.in_ok-reply.reply
    (g.T.SeqType.known c.args.object.now) fits c.in_ok-reply.ensures.reply c.in_ok-reply.ensures.ok c.undo.ensures.state)
