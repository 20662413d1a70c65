use Rattle.std.proofs.Common.{[], sym, ◌∙◌, ap, subst}
use Rattle.commit_book.specs.BookViews.{BookView}
use Rattle.rooms.specs.Values.{tells}
use Rattle.rooms.specs.Visits.{Visits, view_of}
use Rattle.session_cases.specs.Beginnings.{MayBeginHere}
use Rattle.session_cases.proofs.Beginning.{three_begin_as}
use Rattle.session_cases.proofs.busy_cases.three_rooms.Goals as goal

pub returns : goal.returns
returns c = three_begin_as c.in_ok-free.free c.in_ok-blocked.blocked c.in_ok-book.book c.in_ok-free.ensures c.in_ok-blocked.ensures c.new-3.result c.in_ok-values.values.items c.new-3.ensures c.in_ok-values.ensures.items (ap (λ (b : BookView). b.ordered) c.in_ok-book.ensures)
