-- Laws of all kinds.
use Rattle.std.specs.Prelude.{◌≡◌, ℕ, zero, suc, false, List, [], ◌∷◌, refl}
use Rattle.std.proofs.Common.{sym, ◌∙◌, ap, subst}
use Rattle.gx_base.specs.declared.calls.Call.{Call}
use Rattle.gx_base.specs.States.{State}
use Rattle.gx_base.specs.Meanings.{Meaning, IsCall}
use Rattle.gx_base.specs.ObjectKinds.{ObjectKind, no_kind}
use Rattle.gx_base.specs.KnownKinds.{known_kinds, said_among, said_of}
use Rattle.gx_base.specs.Steps.{meaning_of, Holds, next_state, reply_to, inverse, IsState}
use Rattle.gx_base.specs.Methods.{first_method, words_of, is_method}
use Rattle.gx_base.specs.ForeignMethods.{ChangesNothing}
use Rattle.gx_base.proofs.object_kinds.MeaningLaws.{MeaningLaws, LawsOf, IsIdle}
use Rattle.gx_base.proofs.object_kinds.SetLaws.{set_laws}
use Rattle.gx_base.proofs.object_kinds.CellsLaws.{cells_laws}
use Rattle.gx_base.proofs.object_kinds.FlowLaws.{flow_laws}
use Rattle.gx_base.proofs.object_kinds.PointLaws.{point_laws}
use Rattle.gx_base.proofs.object_kinds.DomainLaws.{domain_laws}

-- the laws of each of these kinds
abbrev AllLaws : List ObjectKind → Type 0
AllLaws [] = Unit {0}
AllLaws (kind ∷ kinds) = LawsOf kind × AllLaws kinds

-- in the order of the known kinds
known_laws : AllLaws known_kinds
known_laws = (set_laws, (cells_laws, (flow_laws, (point_laws, (domain_laws, tt)))))

no_laws : LawsOf no_kind
no_laws = record {
  keeps_kind = λ s c. refl;
  keeps_state = λ s c h f. h;
  undone = λ s c h f. refl;
  foreign = λ s c h. record { next = refl; reply = refl; undone = λ r. refl };
  unseen = λ e s x. refl;
}

laws_among : (kinds : List ObjectKind) → AllLaws kinds → (place : ℕ)
    → MeaningLaws (said_among (λ kind. kind.first) kinds place) (said_among (λ kind. kind.words) kinds place) (said_among (λ kind. kind.meaning) kinds place)
    (λ s. said_among (λ kind. kind.may_hold s) kinds place) (said_among (λ kind. kind.has_state_function) kinds place)
laws_among [] laws place = no_laws
laws_among (kind ∷ kinds) laws zero = laws.0
laws_among (kind ∷ kinds) laws (suc place) = laws_among kinds laws.1 place

pub laws_of : (kind : ℕ) → MeaningLaws (first_method kind) (words_of kind) (meaning_of kind) (Holds kind) (said_of (λ known. known.has_state_function) kind)
laws_of kind = laws_among known_kinds known_laws kind

pub kind-next_state : (s : State) (c : Call) → (next_state s c).kind ≡ s.kind
unfolding next_state
kind-next_state s c = (laws_of s.kind).keeps_kind s c

-- a call leaves a state that an object may have
pub next_state-IsState : (s : State) (c : Call) → IsState s → IsCall c → IsState (next_state s c)
unfolding next_state
next_state-IsState s c h f = subst (λ k. Holds k ((meaning_of s.kind).next s c)) (sym ((laws_of s.kind).keeps_kind s c)) ((laws_of s.kind).keeps_state s c h f)

-- the inverse of a call gives the state before it
pub undoes : (s : State) (c : Call) → IsState s → IsCall c → inverse (next_state s c) c (reply_to s c) ≡ s
unfolding next_state reply_to inverse
undoes s c h f =
    let m : Meaning = meaning_of s.kind in
    ap (λ k. (meaning_of k).inverse (m.next s c) c (m.reply s c)) ((laws_of s.kind).keeps_kind s c) ∙ (laws_of s.kind).undone s c h f

-- a method that is none of the kind's changes nothing
pub foreign-ChangesNothing : (s : State) (c : Call) → is_method s.kind c.method ≡ false → ChangesNothing s c
unfolding next_state reply_to inverse
foreign-ChangesNothing s c h =
    let idle : IsIdle (meaning_of s.kind) s c = (laws_of s.kind).foreign s c h in
    record { next = idle.next; reply = idle.reply; undone = idle.undone }
