-- What a room tells of a book that it holds.
use Rattle.std.specs.Prelude.{◌≡◌, ℕ, false, []}
use Rattle.gx_base.specs.RoomViews.{RoomView, OfBook, is_book, ReplaysAlone}
use Rattle.commit_book.specs.BookViews.{BookView}

-- a book's commits. It began with its first ready set, and has no entries
abbrev pub room_view : BookView → RoomView
room_view b = record { live = []; done = []; commits = b.commits; mark = 0; origin = OfBook b.first_ready b.ordered }

-- what is asked of a gate's live entries is asked of no book
pub book_alone : (b : BookView) (worker : ℕ) → is_book (room_view b).origin ≡ false → ReplaysAlone (room_view b) worker
book_alone b worker no_book = absurd (cc)
