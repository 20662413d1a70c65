-- Worker 0 may begin in the rooms of worked cases.
use Rattle.std.specs.Prelude.{◌≡◌, ℕ, zero, suc, Bool, true, false, ◌==◌, ◌&&◌, if◌then◌else◌, Option, Some, None, List, [], ◌∷◌, slice_get, length, Result, Ok, Err, IfOk, ⊤, refl}
use Rattle.std.proofs.Common.{sym, ◌∙◌, ap, subst}
use Rattle.std.proofs.lemmas.Option.{same_Some}
use Rattle.gx_base.specs.declared.acts.Entry.{Entry}
use Rattle.gx_base.specs.declared.items.Item.{Item}
use Rattle.gx_base.specs.Plans.{Operator}
use Rattle.gate_core.specs.Entries.{Each, made_of, mades_of, entries_of, is_of}
use Rattle.gate_core.specs.Views.{GateView}
use Rattle.commit_book.specs.BookViews.{BookView}
use Rattle.rooms.specs.RoomsViews.{RoomsView, entries_for}
use Rattle.rooms.specs.Values.{tells}
use Rattle.rooms.specs.Visits.{Visits, everyone, live_in, view_of}
use Rattle.rooms.specs.declared.values.Value.{Value}
use Rattle.rooms.specs.declared.values.Value.TheVariants.{Object, Book}
use Rattle.sessions.specs.Places.{IsLogIn, IsLogOf, IfTold, gate_of, IsFit}
use Rattle.sessions.specs.SessionViews.{SessionView, begun_view}
use Rattle.session_cases.specs.Beginnings.{IsBegunGate, MayBeginHere}
use Rattle.session_cases.specs.LostTakes.{lossy_view}

no_bool : (b : Bool) → b ≡ true → b ≡ false → ⊥
no_bool true e f = absurd (cc)
no_bool false e f = absurd (cc)

abbrev Others : List Entry → Type 0
Others es = Each (λ e. (e.worker == 0) ≡ false) es

-- entries of other workers are no log of worker 0
others_current : (iter : ℕ) (item : Item) (es : List Entry) → Others es → Each (λ e. (e.worker == 0) ≡ true → (e.iter ≡ iter) × (e.item ≡ item)) es
others_current iter item [] o = o
others_current iter item (e ∷ es) o = ((λ h. absurd (no_bool (e.worker == 0) h o.0)), others_current iter item es o.1)

none_by : (e : Entry) (es : List Entry) (b : Bool) → b ≡ false → mades_of (entries_of 0 0 es) ≡ [] → mades_of (if b && (e.iter == 0) then e ∷ entries_of 0 0 es else entries_of 0 0 es) ≡ []
none_by e es true h n = absurd (cc)
none_by e es false h n = n

others_none : (es : List Entry) → Others es → mades_of (entries_of 0 0 es) ≡ []
others_none [] o = refl
others_none (e ∷ es) o = none_by e es (e.worker == 0) o.0 (others_none es o.1)

others_all : (es : List Entry) → Others es → Others (entries_for everyone es)
others_all [] o = o
others_all (e ∷ es) o = (o.0, others_all es o.1)

no_others : Others []
no_others = tt

no_log : (room : ℕ) (item : Item) (es : List Entry) → Others es → IsLogIn room 0 0 item [] es
no_log room item es o = record { current = others_current 0 item es o; entries = others_none es o }

module _ (T S : Type 0) (free blocked : GateView) (book : BookView) (f : IsBegunGate free) (b : IsBegunGate blocked) where
  abbrev values : List (Value T S)
  values = Object free ∷ Object blocked ∷ Book book ∷ []

  others_in : (room : ℕ) → Others (live_in tells (slice_get values room))
  others_in zero = f.others
  others_in (suc zero) = b.others
  others_in (suc (suc zero)) = tt
  others_in (suc (suc (suc room))) = tt

  told_logs : (room : ℕ) → IfTold (slice_get values room) (λ value. IsLogOf room (begun_view 0) (gate_of value).live)
  told_logs zero = no_log 0 (begun_view 0).at.item free.live f.others
  told_logs (suc zero) = no_log 1 (begun_view 0).at.item blocked.live b.others
  told_logs (suc (suc zero)) = no_log 2 (begun_view 0).at.item [] no_others
  told_logs (suc (suc (suc room))) = tt

  pub three_begin : book.ordered ≡ false → MayBeginHere (view_of tells (record { values = values; moves = [] }))
  three_begin o op rooms ordered = record {
    acts = refl;
    book = sym rooms;
    ordered = o ∙ sym ordered;
    ordered_told = refl;
    live = λ room below. no_log room (begun_view 0).at.item (entries_for everyone (live_in tells (slice_get values room))) (others_all (live_in tells (slice_get values room)) (others_in room));
    live_told = λ room below. told_logs room;
    within = tt;
    doing = ((λ room. refl), refl);
  }

-- nor do they need to tell their values for that, and lost takes change nothing of it
pub lossy_begin : {T S : Type 0} (visits : Visits (Value T S)) (lost : List ℕ) → MayBeginHere (view_of tells visits) → MayBeginHere (lossy_view tells visits lost)
lossy_begin visits lost begun op rooms ordered =
    let fit = begun op rooms ordered in
    record { acts = fit.acts; book = fit.book; ordered = fit.ordered; ordered_told = tt; live = fit.live; live_told = λ room below. tt; within = fit.within; doing = fit.doing }

pub three_begin_as : {T S : Type 0} (free blocked : GateView) (book : BookView) → IsBegunGate free → IsBegunGate blocked → (visits : Visits (Value T S)) (items : List (Value T S)) → visits ≡ record { values = items; moves = [] } → items ≡ Object free ∷ Object blocked ∷ Book book ∷ [] → book.ordered ≡ false → MayBeginHere (view_of tells visits)
three_begin_as {T} {S} free blocked book f b visits items new made o =
    subst (λ v. MayBeginHere (view_of tells v)) (sym new) (subst (λ (vs : List (Value T S)). let v : Visits (Value T S) = record { values = vs; moves = [] } in MayBeginHere (view_of tells v)) (sym made) (three_begin T S free blocked book f b o))

-- the same of what may be made of the rooms
pub lossy_begin_if : {T S L E : Type 0} (rooms_of : L → Visits (Value T S)) (lost_of : L → List ℕ) (visits : Visits (Value T S)) (made : Result L E) → MayBeginHere (view_of tells visits) → IfOk made (λ lossy. rooms_of lossy ≡ visits) → IfOk made (λ lossy. MayBeginHere (lossy_view tells (rooms_of lossy) (lost_of lossy)))
lossy_begin_if rooms_of lost_of visits (Ok lossy) begun same = lossy_begin (rooms_of lossy) (lost_of lossy) (subst (λ v. MayBeginHere (view_of tells v)) (sym same) begun)
lossy_begin_if rooms_of lost_of visits (Err e) begun same = tt

pub fit_at_first : {T S : Type 0} (op : Operator) (rooms : RoomsView (Value T S)) (session : SessionView) → session ≡ begun_view 0 → IsFit op rooms (begun_view 0) → IsFit op rooms session
fit_at_first op rooms session new fit = subst (λ s. IsFit op rooms s) (sym new) fit
