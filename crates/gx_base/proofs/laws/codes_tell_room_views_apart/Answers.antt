use Rattle.gx_base.specs.RoomViews.{room_view_code}
use Rattle.gx_base.proofs.laws.codes_tell_room_views_apart.Goals as goal

pub returns : goal.returns
returns c = room_view_code.inj
