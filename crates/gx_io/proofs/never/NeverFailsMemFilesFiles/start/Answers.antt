use Rattle.std.proofs.Common.{ap, ◌∙◌}
use Rattle.gx_io.specs.NeverFails.{or_nothing}
use Rattle.gx_io.proofs.never.NeverFailsMemFilesFiles.start.Goals as goal

pub returns-then-not-go_to-clause-holds : goal.returns-then-not-go_to-clause-holds
returns-then-not-go_to-clause-holds c = ap or_nothing (c.go_to_nothing.ensures.holds ∙ c.go_to.ensures.holds)

pub returns-else-not-go_to-clause-holds : goal.returns-else-not-go_to-clause-holds
returns-else-not-go_to-clause-holds c = ap or_nothing c.go_to.ensures.holds
