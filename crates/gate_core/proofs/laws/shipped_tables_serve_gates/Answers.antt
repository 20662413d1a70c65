use Rattle.gx_base.specs.Kinds.{kind_number}
use Rattle.gx_base.proofs.CallerLemmas.{shipped_serves}
use Rattle.gate_core.proofs.laws.shipped_tables_serve_gates.Goals as goal

pub returns-clause-valid : goal.returns-clause-valid
returns-clause-valid g c = λ kind choice table h.
    (shipped_serves (g.T.SeqType.holds_kind kind) (kind_number kind) (g.T.SeqType.tables kind) choice table (g.T.SeqType.tables_suit kind) h).valid

pub returns-clause-keeps_to_kind : goal.returns-clause-keeps_to_kind
returns-clause-keeps_to_kind g c = λ kind choice table h.
    (shipped_serves (g.T.SeqType.holds_kind kind) (kind_number kind) (g.T.SeqType.tables kind) choice table (g.T.SeqType.tables_suit kind) h).keeps_to_kind
