-- Turns whose answers are given: which entry is in the way of a call, and the call's reply.
use Rattle.std.specs.Prelude.{◌≡◌, ℕ, false, if◌then◌else◌, Option, Some, None, List, [], ◌∷◌, ◌++◌, map, ⊤}
use Rattle.std.proofs.Common.{sym, ◌∙◌, ap, subst}
use Rattle.gx_base.specs.declared.calls.Call.{Call as CallOf}
use Rattle.gx_base.specs.declared.calls.Reply.{Reply}
use Rattle.gx_base.specs.declared.acts.Entry.{Entry}
use Rattle.gx_base.specs.Plans.{Plan, Operator}
use Rattle.gx_base.specs.Replays.{put}
use Rattle.gx_base.specs.Tables.{Rows}
use Rattle.gate_core.specs.Replays.{first_failing}
use Rattle.gx_base.specs.Steps.{next_state, observed}
use Rattle.gate_core.specs.Views.{GateView, gate_rows, live_start, in_way}
use Rattle.commit_book.specs.BookViews.{free_item}
use Rattle.speculation.specs.Events as event
use Rattle.speculation.specs.Sessions.{Session, Phase, Idle, Running, Finished, Undoing, with_call, Ahead, Asks, Ends, ahead}
use Rattle.speculation.specs.Machines.{Place, place_of, reply_in, Turned, take, conflict, live_at, answer, entry_of, undo, finish, go, turn_in, turn_at}
use Rattle.speculation.specs.ScheduledRuns.{is_empty, Run, then_turned, scheduled}
use Rattle.speculation.specs.Premises.{AsksCall, ScheduledAsk}

-- a worker's turn, with the place of the first entry in the way of its call, and the reply to it
pub record Given : Type 0 where
  pub worker : ℕ
  pub way : Option ℕ
  pub reply : Reply

-- the gate with one more uncommitted entry, of a call with this reply
abbrev pub admitted : GateView → ℕ → Session → CallOf → Reply → GateView
admitted g worker s call reply = record g {
  state = next_state g.state call;
  live = g.live ++ record { worker = worker; iter = s.iter; item = s.item; call = call; reply = reply; seen = observed g.state call.a; done = None } ∷ [];
}

abbrev pub answer_given : Place → ℕ → Session → ℕ → CallOf → (Reply → Plan) → Entry → Option ℕ → Reply → Turned
answer_given p worker s room call goes_on asked None reply = record {
  event = event.Call room call reply;
  place = record { gates = put p.gates room (admitted (p.gates room) worker s call reply); book = p.book; session = with_call s room call goes_on reply };
}
answer_given p worker s room call goes_on asked (Some place) reply = record (conflict p worker s room call (live_at (p.gates room) place asked)) { event = event.Conflict room (live_at (p.gates room) place asked) call reply }

abbrev pub go_given : Place → ℕ → Ahead → Option ℕ → Reply → Turned
go_given p worker (Asks s room call goes_on) way reply = answer_given p worker s room call goes_on (entry_of p worker s room call) way reply
go_given p worker (Ends s) way reply = finish p worker s

abbrev pub phase_given : Operator → Place → ℕ → Phase → Option ℕ → Reply → Turned
phase_given op p worker Idle way reply = take op p worker (free_item p.book)
phase_given op p worker (Running plan) way reply = go_given p worker (ahead p.session plan p.session.outcome.pushes) way reply
phase_given op p worker Finished way reply = finish p worker p.session
phase_given op p worker Undoing way reply = undo p worker p.session

abbrev pub turn_given : Operator → Run → Given → Turned
turn_given op r g = phase_given op (place_of r.machine g.worker) g.worker (r.machine.sessions g.worker).phase g.way g.reply

abbrev pub run_given : Operator → Run → List Given → Run
run_given op r [] = r
run_given op r (g ∷ gs) = run_given op (then_turned r g.worker (turn_given op r g)) gs

-- ---- the answers are right

-- the gate has these rows, and by them the entry that is given is in the way, and the reply is that of the room's state
pub record IsRight (rows : Rows) (p : Place) (worker : ℕ) (s : Session) (room : ℕ) (call : CallOf) (way : Option ℕ) (reply : Reply) : Type 0 where
  pub has_rows : gate_rows (p.gates room) ≡ rows
  pub first : first_failing rows (live_start (p.gates room)) (p.gates room).live (entry_of p worker s room call) ≡ way
  pub replies : reply_in p room call ≡ reply

abbrev pub AheadRight : Rows → Place → ℕ → Ahead → Option ℕ → Reply → Type 0
AheadRight rows p worker (Asks s room call goes_on) way reply = IsRight rows p worker s room call way reply
AheadRight rows p worker (Ends s) way reply = ⊤

abbrev pub PhaseRight : Rows → Place → ℕ → Phase → Option ℕ → Reply → Type 0
PhaseRight rows p worker Idle way reply = ⊤
PhaseRight rows p worker (Running plan) way reply = AheadRight rows p worker (ahead p.session plan p.session.outcome.pushes) way reply
PhaseRight rows p worker Finished way reply = ⊤
PhaseRight rows p worker Undoing way reply = ⊤

abbrev pub TurnRight : Rows → Run → Given → Type 0
TurnRight rows r g = (is_empty r.machine.book.ready ≡ false) × PhaseRight rows (place_of r.machine g.worker) g.worker (r.machine.sessions g.worker).phase g.way g.reply

abbrev pub AllRight : Rows → Operator → Run → List Given → Type 0
AllRight rows op r [] = ⊤
AllRight rows op r (g ∷ gs) = TurnRight rows r g × AllRight rows op (then_turned r g.worker (turn_given op r g)) gs

-- each call that such a turn asks has numbers of 64 bits
abbrev pub AllAsk : Operator → Run → List Given → Type 0
AllAsk op r [] = ⊤
AllAsk op r (g ∷ gs) = AsksCall (r.machine.sessions g.worker).phase × AllAsk op (then_turned r g.worker (turn_given op r g)) gs

-- ---- such turns are the machine's

module _ (rows : Rows) (op : Operator) where
  answers : (p : Place) (worker : ℕ) (s : Session) (room : ℕ) (call : CallOf) (goes_on : Reply → Plan) (way : Option ℕ) (reply : Reply) → reply_in p room call ≡ reply
      → answer p worker s room call goes_on (entry_of p worker s room call) way ≡ answer_given p worker s room call goes_on (entry_of p worker s room call) way reply
  answers p worker s room call goes_on None reply r = λ i. record {
    event = event.Call room call (r i);
    place = record { gates = put p.gates room (admitted (p.gates room) worker s call (r i)); book = p.book; session = with_call s room call goes_on (r i) };
  }
  answers p worker s room call goes_on (Some place) reply r = λ i. record (conflict p worker s room call (live_at (p.gates room) place (entry_of p worker s room call))) {
    event = event.Conflict room (live_at (p.gates room) place (entry_of p worker s room call)) call (r i);
  }

  goes : (p : Place) (worker : ℕ) (a : Ahead) (way : Option ℕ) (reply : Reply) → AheadRight rows p worker a way reply → go p worker a ≡ go_given p worker a way reply
  goes p worker (Asks s room call goes_on) way reply h =
      let asked : Entry = entry_of p worker s room call in
      let found : in_way (p.gates room) asked ≡ way = ap (λ (rs : Rows). first_failing rs (live_start (p.gates room)) (p.gates room).live asked) h.has_rows ∙ h.first in
      ap (answer p worker s room call goes_on asked) found ∙ answers p worker s room call goes_on way reply h.replies
  goes p worker (Ends s) way reply h = λ i. finish p worker s

  phases : (p : Place) (worker : ℕ) (phase : Phase) (way : Option ℕ) (reply : Reply) → PhaseRight rows p worker phase way reply → turn_in op p worker phase ≡ phase_given op p worker phase way reply
  phases p worker Idle way reply h = λ i. take op p worker (free_item p.book)
  phases p worker (Running plan) way reply h = goes p worker (ahead p.session plan p.session.outcome.pushes) way reply h
  phases p worker Finished way reply h = λ i. finish p worker p.session
  phases p worker Undoing way reply h = λ i. undo p worker p.session

  -- the scheduled turns go on after those whose answers are given
  pub given_run : (gs : List Given) (rest : List ℕ) (r : Run) → AllRight rows op r gs → scheduled op r (map (λ (g : Given). g.worker) gs ++ rest) ≡ scheduled op (run_given op r gs) rest
  unfolding scheduled turn_at
  given_run [] rest r h = λ i. scheduled op r rest
  given_run (g ∷ gs) rest r h =
      (λ i. if (h.0).0 i then r else scheduled op (then_turned r g.worker (phases (place_of r.machine g.worker) g.worker (r.machine.sessions g.worker).phase g.way g.reply (h.0).1 i)) (map (λ (x : Given). x.worker) gs ++ rest))
      ∙ given_run gs rest (then_turned r g.worker (turn_given op r g)) h.1

  -- where the calls of those have numbers of 64 bits, and those of the turns after them, all have
  pub given_ask : (gs : List Given) (rest : List ℕ) (r : Run) → AllRight rows op r gs → AllAsk op r gs → ScheduledAsk op (run_given op r gs) rest → ScheduledAsk op r (map (λ (g : Given). g.worker) gs ++ rest)
  unfolding turn_at
  given_ask [] rest r h a later = later
  given_ask (g ∷ gs) rest r h a later =
      λ e. (
        a.0,
        subst (λ t. ScheduledAsk op (then_turned r g.worker t) (map (λ (x : Given). x.worker) gs ++ rest)) (sym (phases (place_of r.machine g.worker) g.worker (r.machine.sessions g.worker).phase g.way g.reply (h.0).1))
            (given_ask gs rest (then_turned r g.worker (turn_given op r g)) h.1 a.1 later),
      )
