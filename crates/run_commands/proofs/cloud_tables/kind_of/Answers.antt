use Rattle.std.proofs.Common.{Result, IfOk, Err, sym, ap, subst, ◌∙◌}
use Rattle.gx_base.specs.declared.kinds.Kind.{Kind}
use Rattle.run_commands.specs.declared.run_faults.RunFault.{RunFault}
use Rattle.run_commands.specs.declared.run_faults.RunFault.TheVariants.{BadTable}
use Rattle.run_commands.specs.RunFaults.{FaultsWhere}
use Rattle.run_commands.specs.commands.Cluster.{IsTextOf, IsBadText}
use Rattle.run_commands.proofs.meanings.ClusterTables.{read_text, refused_text}
use Rattle.run_commands.proofs.cloud_tables.kind_of.Goals.{in-Ok, in-Err}
use Rattle.run_commands.proofs.cloud_tables.kind_of.Goals as goal

pub returns-clause-kind : goal.returns-clause-kind
returns-clause-kind c =
    elim c.match-read_table.branch [
      | in-Ok w ↦ subst (λ (r : Result Kind RunFault). IfOk r (IsTextOf c.args.conditions.now)) (sym w.result-is) (record { rows = w.in-Ok.field-0-1; is_table = w.in-Ok.ensures.table })
      | in-Err w ↦ subst (λ (r : Result Kind RunFault). IfOk r (IsTextOf c.args.conditions.now)) (sym w.result-is) tt
    ]

pub returns-clause-bad_table : goal.returns-clause-bad_table
returns-clause-bad_table c = λ why.
    elim c.match-read_table.branch [
      | in-Ok w ↦ subst (λ (r : Result Kind RunFault). FaultsWhere (IsBadText c.args.conditions.now why) (BadTable why) r) (sym w.result-is) (read_text c.args.conditions.now why w.in-Ok.kind w.in-Ok.ensures.only_fault)
      | in-Err w ↦
          subst (λ (r : Result Kind RunFault). FaultsWhere (IsBadText c.args.conditions.now why) (BadTable why) r) (sym (w.result-is ∙ ap (λ (f : RunFault). Err f) w.bad_text.ensures))
          (refused_text c.args.conditions.now w.in-Err.fault why w.in-Err.ensures.fault w.in-Err.ensures.only_fault)
    ]
