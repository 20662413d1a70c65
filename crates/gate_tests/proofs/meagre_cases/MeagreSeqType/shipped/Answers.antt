use Rattle.std.proofs.Common.{◌∙◌, ap}
use Rattle.gx_base.specs.TableRows.{RowMap, row_of}
use Rattle.gx_base.proofs.CallerLemmas.{row_of-empty}
use Rattle.gate_tests.proofs.meagre_cases.MeagreSeqType.shipped.Goals as goal

pub returns : goal.returns
returns c = λ first second. ap (λ (rows : RowMap). row_of rows first second) c.blank.ensures ∙ row_of-empty first second
