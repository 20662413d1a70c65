-- The tables of flow shards: the precise one is valid, and the others are as they should be.
use Rattle.gx_base.proofs.CallerLemmas.{flow_use-foreign}
use Rattle.gx_base.specs.declared.kinds.Kind.TheVariants.{Flow}
use Rattle.gx_base.specs.FlowKind.{flow_use}
use Rattle.gx_base.specs.Kinds.{kind_number}
use Rattle.kind_tables.specs.FlowTables.{flow_tables}
use Rattle.kind_tables.proofs.kinds.TableFacts.{TableFacts, IsSilent}
use Rattle.kind_tables.proofs.kinds.RegisterLaws.{register_table, register_facts, register_silent}

pub flow_facts : TableFacts (kind_number Flow) flow_tables
flow_facts = register_facts flow_use (kind_number Flow) (register_table flow_use) flow_use-foreign

pub flow_tables-silent : IsSilent flow_tables.precise
flow_tables-silent = register_silent flow_use
