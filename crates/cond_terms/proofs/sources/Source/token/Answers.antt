use Rattle.cond_terms.proofs.reading.SourceLemmas.{reading-next, reading-end, reading-cut}
use Rattle.cond_terms.proofs.sources.Source.token.Goals as goal

pub returns-in-Read-clause-leads : goal.returns-in-Read-clause-leads
returns-in-Read-clause-leads c = reading-next _ _ _ c.in-Read.ensures.later c.in-Read.ensures.next

pub returns-in-End-clause-leads : goal.returns-in-End-clause-leads
returns-in-End-clause-leads c = reading-end _ c.in-End.ensures.next.0 c.in-End.ensures.next.1

pub returns-in-Cut-clause-leads : goal.returns-in-Cut-clause-leads
returns-in-Cut-clause-leads c = reading-cut _ c.in-Cut.ensures.next.0 c.in-Cut.ensures.next.1
