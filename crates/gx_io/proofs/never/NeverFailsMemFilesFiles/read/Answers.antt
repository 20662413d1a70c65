use Rattle.std.proofs.Common.{ap}
use Rattle.gx_io.specs.NeverFails.{or_nothing}
use Rattle.gx_io.proofs.never.NeverFailsMemFilesFiles.read.Goals as goal

pub returns-clause-holds : goal.returns-clause-holds
returns-clause-holds c = ap or_nothing c.give.ensures.holds
