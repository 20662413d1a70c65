-- The facts of the tables of every kind.
use Rattle.std.specs.Prelude.{◌≢◌, refl}
use Rattle.gx_base.specs.declared.kinds.Kind.{Kind}
use Rattle.gx_base.specs.declared.kinds.Kind.TheVariants.{Set, Cells, Flow, Points, Domains}
use Rattle.gx_base.specs.Kinds.{kind_number}
use Rattle.gx_base.specs.ShippedTables.{SuitKind}
use Rattle.kind_tables.specs.TablesOfKinds.{tables_of}
use Rattle.kind_tables.proofs.kinds.TableFacts.{TableFacts, IsSilent, tables-SuitKind, false_facts}
use Rattle.kind_tables.proofs.kinds.FlowLaws.{flow_facts, flow_tables-silent}
use Rattle.kind_tables.proofs.kinds.DomainLaws.{domain_facts}

pub facts_of : (kind : Kind) → TableFacts (kind_number kind) (tables_of kind)
facts_of Set = false_facts (kind_number Set)
facts_of Cells = false_facts (kind_number Cells)
facts_of Flow = flow_facts
facts_of Points = false_facts (kind_number Points)
facts_of Domains = domain_facts

pub tables_of-SuitKind : (kind : Kind) → SuitKind (kind_number kind) (tables_of kind)
tables_of-SuitKind kind = tables-SuitKind (kind_number kind) (tables_of kind) (facts_of kind)

-- but for domain books, whose state function is looked at, the precise rows name none of the later call
pub precise-silent : (kind : Kind) → kind ≢ Domains → IsSilent (tables_of kind).precise
precise-silent Set n first second = refl
precise-silent Cells n first second = refl
precise-silent Flow n first second = flow_tables-silent first second
precise-silent Points n first second = refl
precise-silent Domains n first second = absurd (n refl)
