use Rattle.std.proofs.Common.{◌≡◌, ◌++◌, take}
use Rattle.std.specs.List.{flat_map}
use Rattle.commit_book.specs.Commits.{items_of}
use Rattle.clustering.specs.ClusterReports.{commit_line}
use Rattle.clustering.proofs.reports.put_commits.Given as goal

abbrev pub invariant-loop-commit : goal.invariant-loop-commit
invariant-loop-commit l = l.text.items ≡ l.fn.text.items ++ flat_map commit_line (items_of (take l.commit-index l.order))
