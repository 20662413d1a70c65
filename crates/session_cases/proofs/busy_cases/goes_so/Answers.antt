use Rattle.std.proofs.Common.{sym, subst, refl}
use Rattle.sessions.specs.Places.{IsFit}
use Rattle.session_cases.proofs.Beginning.{fit_at_first}
use Rattle.session_cases.proofs.busy_cases.goes_so.Goals as goal

pub answers_so-requires-clause-fit : goal.answers_so-requires-clause-fit
answers_so-requires-clause-fit c = fit_at_first _ _ _ (c.new-session.ensures c.in_ok-op.op) (c.in_ok-rooms.ensures _ c.in_ok-op.ensures refl)
