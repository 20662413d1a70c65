use Rattle.gx_base.specs.declared.kinds.Kind.TheVariants.{Flow}
use Rattle.run_commands.proofs.commands.flow.flow_table.Goals as goal

pub run_table-requires-clause-scanned : goal.run_table-requires-clause-scanned
run_table-requires-clause-scanned c = λ shipped. c.only_precise_domains_are_general.ensures.class Flow shipped (λ e. absurd (cc))
