use Rattle.std.proofs.Common.{◌++◌, ◌∷◌, [], Some, sym, subst}
use Rattle.gx_base.specs.declared.calls.Seen.{Seen}
use Rattle.gx_base.specs.States.{State}
use Rattle.gx_base.specs.TableRows.{row_of}
use Rattle.gate_core.specs.Replays.{start_of, AllSawRight, IsFirstFailing}
use Rattle.gate_core.specs.Scans.{SeesFirstAlone}
use Rattle.gate_core.proofs.CallerLemmas.{sees_first_alone, saw_front, first_found, none_found}
use Rattle.forward_gate.proofs.forward.ForwardScreenScreen.first_failing.Goals as goal

pub returns-in_err-place-clause-first : goal.returns-in_err-place-clause-first
returns-in_err-place-clause-first g c =
    let s : State = start_of (g.T.SeqType.state c.args._object.now) (c.args.live.now ++ c.args.asked.now ∷ []) in
    subst (IsFirstFailing (row_of c.args.table.now) s c.args.live.now c.args.asked.now) (sym c.from_residual.ensures)
    (none_found (row_of c.args.table.now) (sees_first_alone c.requires.fits.0 (row_of c.args.table.now) c.requires.fits.1 c.requires.fits.2) c.args.asked.now s c.args.live.now c.in_err-place.ensures
    (saw_front (row_of c.args.table.now) s c.args.live.now (c.args.asked.now ∷ []) c.requires.replays.saw))

pub returns-clause-first : goal.returns-clause-first
returns-clause-first g c =
    let s : State = start_of (g.T.SeqType.state c.args._object.now) (c.args.live.now ++ c.args.asked.now ∷ []) in
    subst (λ (seen : Seen). IsFirstFailing (row_of c.args.table.now) s c.args.live.now c.args.asked.now (Some (c.in_ok-place.place, seen))) (sym c.seen_by.ensures)
    (first_found (row_of c.args.table.now) (sees_first_alone c.requires.fits.0 (row_of c.args.table.now) c.requires.fits.1 c.requires.fits.2) c.args.asked.now s c.args.live.now c.in_ok-place.place _ c.in_ok-place.ensures
    (saw_front (row_of c.args.table.now) s c.args.live.now (c.args.asked.now ∷ []) c.requires.replays.saw))
