use Rattle.std.proofs.Common.{◌++◌, ◌∷◌, []}
use Rattle.gx_base.specs.TableRows.{row_of}
use Rattle.gate_core.specs.Replays.{start_of}
use Rattle.gate_core.proofs.scans.PlainTables.{sees_first_alone}
use Rattle.gate_core.proofs.scans.ScanLemmas.{saw_front}
use Rattle.gate_core.proofs.scanning.ScanScreenScreen.first_failing.Goals as goal

pub scan-requires : goal.scan-requires
scan-requires g c = sees_first_alone c.requires.fits.0 (row_of c.args.table.now) c.requires.fits.1 c.requires.fits.2

pub returns-clause-first : goal.returns-clause-first
returns-clause-first g c =
    c.scan.ensures (start_of (g.T.SeqType.state c.args._object.now) (c.args.live.now ++ c.args.asked.now ∷ []))
    (saw_front (row_of c.args.table.now) (start_of (g.T.SeqType.state c.args._object.now) (c.args.live.now ++ c.args.asked.now ∷ [])) c.args.live.now (c.args.asked.now ∷ []) c.requires.replays.saw)
