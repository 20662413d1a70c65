use Rattle.std.proofs.Common.{◌∙◌, sym, ap}
use Rattle.gx_base.specs.ShippedTables.{rows_shipped}
use Rattle.gx_base.specs.TableRows.{row_of}
use Rattle.gx_base.proofs.CallerLemmas.{row_of-empty}
use Rattle.clustering.specs.CloudState.{holds_clouds, cloud_tables}
use Rattle.clustering.proofs.cloud.CloudSeqType.shipped.Goals as goal

pub returns-in-Set : goal.returns-in-Set
returns-in-Set c = λ m n.
    ap (λ t. row_of t m n) c.blank.ensures ∙ row_of-empty m n ∙ sym (ap (λ kind. rows_shipped (holds_clouds kind) (cloud_tables kind) c.args.choice m n) c.in-Set.is)

pub returns-in-Flow : goal.returns-in-Flow
returns-in-Flow c = λ m n.
    ap (λ t. row_of t m n) c.blank-in-Flow.ensures ∙ row_of-empty m n ∙ sym (ap (λ kind. rows_shipped (holds_clouds kind) (cloud_tables kind) c.args.choice m n) c.in-Flow.is)

pub returns-in-Domains : goal.returns-in-Domains
returns-in-Domains c = λ m n.
    ap (λ t. row_of t m n) c.blank-in-Domains.ensures ∙ row_of-empty m n ∙ sym (ap (λ kind. rows_shipped (holds_clouds kind) (cloud_tables kind) c.args.choice m n) c.in-Domains.is)
