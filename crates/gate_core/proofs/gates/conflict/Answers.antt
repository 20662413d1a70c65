use Rattle.std.proofs.Common.{◌++◌, ◌∷◌, [], List, refl, subst}
use Rattle.std.specs.Prelude.{Some}
use Rattle.gx_base.specs.TableRows.{row_of}
use Rattle.gx_base.specs.declared.acts.Entry.{Entry}
use Rattle.gate_core.specs.Replays.{start_of}
use Rattle.gate_core.specs.CallAnswers.{TellsOf}
use Rattle.gate_core.proofs.replays.Failing.{fails_at, tells}
use Rattle.gate_core.proofs.lists.Others.{none_in_way}
use Rattle.gate_core.proofs.gates.conflict.Goals as goal

pub returns-then-are_all_of-clause-told : goal.returns-then-are_all_of-clause-told
returns-then-are_all_of-clause-told g c =
    none_in_way (row_of c.args.table.now) c.args.asked.now (start_of (g.T.SeqType.state c.args.object.now) (c.args.live.now.entries.items ++ c.args.asked.now ∷ [])) c.args.live.now.entries.items (c.if-are_all_of.ensures.0 refl)

pub tell-requires : goal.tell-requires
tell-requires g c =
    (fails_at (row_of c.args.table.now) c.args.asked.now (start_of (g.T.SeqType.state c.args.object.now) (c.as_slice-entries.result.now ++ c.args.asked.now ∷ [])) c.as_slice-entries.result.now c.in_ok-place.place c.in_ok-place.ensures.first.0).within

pub returns-clause-told : goal.returns-clause-told
returns-clause-told g c =
    subst (λ (es : List Entry). TellsOf (row_of c.args.table.now) (start_of (g.T.SeqType.state c.args.object.now) (es ++ c.args.asked.now ∷ [])) es c.args.asked.now (Some c.tell.result)) c.as_slice-entries.ensures.value (
      c.in_ok-place.place,
      tells (row_of c.args.table.now) (start_of (g.T.SeqType.state c.args.object.now) (c.as_slice-entries.result.now ++ c.args.asked.now ∷ [])) c.as_slice-entries.result.now c.args.asked.now c.tell.result c.in_ok-place.place c.in_ok-place.seen
          c.in_ok-place.ensures.first c.tell.ensures.held c.tell.ensures.asked c.tell.ensures.would c.tell.ensures.seen,
    )
