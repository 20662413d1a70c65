use Rattle.session_cases.proofs.NewRooms.{new_rooms_begin_as, gates_and_book_as}
use Rattle.session_cases.proofs.networks.with_book.Goals as goal

pub new-requires-2-clause-rooms : goal.new-requires-2-clause-rooms
new-requires-2-clause-rooms g c = gates_and_book_as c.args.gates.items c.push.new.self.items c.in_ok-book.book c.requires.new c.in_ok-push.ensures.items

pub returns : goal.returns
returns g c =
    new_rooms_begin_as c.args.gates.items c.push.new.self.items c.args.ready.now c.in_ok-book.book c.new-2.result c.requires.new c.requires.few
    c.in_ok-book.ensures c.in_ok-push.ensures.items c.new-2.ensures
