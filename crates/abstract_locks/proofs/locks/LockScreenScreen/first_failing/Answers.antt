use Rattle.std.proofs.Common.{◌≡◌, ℕ, ◌++◌, ◌∷◌, [], Some, None, sym, subst}
use Rattle.std.specs.Prelude.{not, position}
use Rattle.gx_base.specs.declared.calls.Seen.{Seen}
use Rattle.gx_base.specs.States.{State}
use Rattle.gx_base.specs.TableRows.{RowMap, row_of}
use Rattle.gx_base.specs.Tables.{Rows}
use Rattle.cond_lattice.specs.Grades.{AreSimple}
use Rattle.gate_core.specs.Replays.{start_of, IsFirstFailing}
use Rattle.gate_core.specs.Scans.{log_ok}
use Rattle.gate_core.proofs.CallerLemmas.{saw_front, first_found, none_found}
use Rattle.lock_compiler.specs.LockModes.{LockModes}
use Rattle.abstract_locks.specs.LockScreens.{Locks, AreModesOf, Serves}
use Rattle.abstract_locks.proofs.tables.SimpleTables.{simple_sees_alone}
use Rattle.abstract_locks.proofs.locks.LockScreenScreen.first_failing.Goals as goal

-- the table that is handed in has the rows of the screen's own
same_rows : (locks : Locks) (kind : ℕ) (table : RowMap) → Serves locks kind table → row_of locks.table ≡ row_of table
same_rows locks kind table serves = λ k first second. sym (serves.same_rows first second) k

simple_rows : (locks : Locks) (modes : LockModes) (kind : ℕ) (table : RowMap) → AreModesOf locks modes → Serves locks kind table → AreSimple kind (row_of table)
simple_rows locks modes kind table are serves =
    subst (λ (k : ℕ). AreSimple k (row_of table)) (sym serves.same_kind) (subst (λ (rows : Rows). AreSimple locks.kind rows) (same_rows locks kind table serves) are.simple)

pub returns-in_err-place-clause-first : goal.returns-in_err-place-clause-first
returns-in_err-place-clause-first g c =
    let kind : ℕ = c.requires.fits.0 in
    let rows : Rows = row_of c.args._table.now in
    let s : State = start_of (g.T.SeqType.state c.args._object.now) (c.args.live.now ++ c.args.asked.now ∷ []) in
    let are : AreModesOf c.args.self.now c.self.inside.modes = subst (λ (l : Locks). AreModesOf l c.self.inside.modes) c.self.view_is c.self.invariant in
    subst (IsFirstFailing rows s c.args.live.now c.args.asked.now) (sym c.from_residual.ensures)
    (none_found rows (simple_sees_alone kind rows (simple_rows c.args.self.now c.self.inside.modes kind c.args._table.now are c.requires.fits.1) c.requires.fits.2) c.args.asked.now s c.args.live.now
    (subst (λ (r : Rows). None ≡ position (λ held. not (log_ok r held c.args.asked.now)) c.args.live.now) (same_rows c.args.self.now kind c.args._table.now c.requires.fits.1) c.in_err-place.ensures)
    (saw_front rows s c.args.live.now (c.args.asked.now ∷ []) c.requires.replays.saw))

pub returns-clause-first : goal.returns-clause-first
returns-clause-first g c =
    let kind : ℕ = c.requires.fits.0 in
    let rows : Rows = row_of c.args._table.now in
    let s : State = start_of (g.T.SeqType.state c.args._object.now) (c.args.live.now ++ c.args.asked.now ∷ []) in
    let are : AreModesOf c.args.self.now c.self.inside.modes = subst (λ (l : Locks). AreModesOf l c.self.inside.modes) c.self.view_is c.self.invariant in
    subst (λ (seen : Seen). IsFirstFailing rows s c.args.live.now c.args.asked.now (Some (c.in_ok-place.place, seen))) (sym c.seen_by.ensures)
    (first_found rows (simple_sees_alone kind rows (simple_rows c.args.self.now c.self.inside.modes kind c.args._table.now are c.requires.fits.1) c.requires.fits.2) c.args.asked.now s c.args.live.now c.in_ok-place.place _
    (subst (λ (r : Rows). Some c.in_ok-place.place ≡ position (λ held. not (log_ok r held c.args.asked.now)) c.args.live.now) (same_rows c.args.self.now kind c.args._table.now c.requires.fits.1) c.in_ok-place.ensures)
    (saw_front rows s c.args.live.now (c.args.asked.now ∷ []) c.requires.replays.saw))
