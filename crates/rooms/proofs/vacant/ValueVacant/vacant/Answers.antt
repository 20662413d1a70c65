use Rattle.std.proofs.Common.{◌≡◌, [], false, ap, ◌∙◌, refl}
use Rattle.gx_base.specs.RoomViews.{RoomView, OfBook}
use Rattle.gx_base.specs.Worklists.{with_items}
use Rattle.commit_book.specs.Homes.{room_view}
use Rattle.rooms.proofs.vacant.ValueVacant.vacant.Goals as goal

no_items : with_items [] [] ≡ []
unfolding with_items
no_items = refl

pub returns : goal.returns
returns g c = ap room_view c.empty.ensures ∙ ap (λ items. let told : RoomView = record { live = []; done = []; commits = []; mark = 0; origin = OfBook items false } in told) no_items
