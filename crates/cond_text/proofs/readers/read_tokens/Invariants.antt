use Rattle.std.proofs.Common.{◌≡◌, [], Some, length}
use Rattle.gx_base.specs.Kinds.{kind_number}
use Rattle.cond_terms.specs.Machine.{ReadingState, Operand}
use Rattle.cond_terms.specs.Sources.{IsLater, reading}
use Rattle.cond_text.specs.Readers.{HasReached}
use Rattle.cond_text.proofs.readers.read_tokens.Given as goal

abbrev pub invariant-loop-token : goal.invariant-loop-token
invariant-loop-token l = IsLater l.initial.source l.source × ((state : ReadingState) × HasReached (kind_number l.initial.source.kind) l.reader state × (reading (Some (Operand [])) l.initial.source ≡ reading (Some state) l.source))

abbrev pub decreases-loop-token : goal.decreases-loop-token
decreases-loop-token l = length l.source.rest.now
