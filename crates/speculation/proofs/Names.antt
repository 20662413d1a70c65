-- A conflict names the iteration of the entry in the way, where that holds a greater item.
use Rattle.std.specs.Prelude.{◌≡◌, ℕ, Bool, true, ◌&&◌, ◌||◌, if◌then◌else◌, List, ◌∷◌, [], ◌++◌, refl}
use Rattle.std.proofs.Common.{sym, ◌∙◌, ap}
use Rattle.gx_base.specs.declared.calls.Call.{Call as CallOf}
use Rattle.gx_base.specs.declared.calls.Reply.{Reply}
use Rattle.gx_base.specs.declared.items.Item.{Item}
use Rattle.gx_base.specs.declared.acts.Entry.{Entry}
use Rattle.gx_base.specs.Plans.{Plan, Call, Push, Done, Operator}
use Rattle.gx_base.specs.Worklists.{is_before}
use Rattle.commit_book.specs.BookViews.{with_name, can_name, is_named, is_named_in}
use Rattle.commit_book.proofs.books.HoldLists.{named-with_name}
use Rattle.speculation.specs.EventRows.{Happens}
use Rattle.speculation.specs.Events as event
use Rattle.speculation.specs.Machines.{Machine, Place, place_of, named_off, given_up}
use Rattle.speculation.specs.Sessions.{Session, Ahead, Asks, Ends, ahead}
use Rattle.speculation.proofs.Putting.{both_are}

item_of : Ahead → Item
item_of (Asks s room call goes_on) = s.item
item_of (Ends s) = s.item

ahead_item : (s : Session) (plan : Plan) (pushes : List Item) → item_of (ahead s plan pushes) ≡ s.item
unfolding item_of
ahead_item s (Call room call goes_on) pushes = refl
ahead_item s (Push item rest) pushes = ahead_item s rest (pushes ++ item ∷ [])
ahead_item s Done pushes = refl

pub conflict_names : (op : Operator) (m : Machine) (worker room : ℕ) (held : Entry) (call : CallOf) (would : Reply) (next : Machine) → Happens op m worker (event.Conflict room held call would) next
    → m.book.ordered ≡ true → is_before (m.sessions worker).item held.item ≡ true → can_name m.book held.worker held.iter (m.sessions worker).item ≡ true
    → is_named next.book held.worker held.iter ≡ true
unfolding item_of
conflict_names op m worker room held call would next h o b n =
    let t : Session = h.0 in
    let own : Item = (m.sessions worker).item in
    let same : t.item ≡ own = sym (ap item_of h.2.2) ∙ ahead_item (m.sessions worker) h.2.0 (m.sessions worker).outcome.pushes in
    let greater : (m.book.ordered && is_before t.item held.item) ≡ true = both_are m.book.ordered (is_before t.item held.item) o (ap (λ y. is_before y held.item) same ∙ b) in
    ap (λ (k : Machine). is_named k.book held.worker held.iter) h.5
    ∙ ap (λ (c : Bool). is_named (Place.book (if c then named_off (place_of m worker) t held else given_up (place_of m worker) worker t)) held.worker held.iter) greater
    ∙ ap (λ y. is_named_in (with_name m.book.holds held.worker held.iter y) held.worker held.iter) same
    ∙ named-with_name m.book.holds held.worker held.iter own
    ∙ ap (λ (c : Bool). c || is_named_in m.book.holds held.worker held.iter) n
