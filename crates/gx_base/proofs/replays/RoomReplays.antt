-- Replays of steps over all rooms: rooms are independent, and a replay splits at each prefix.
use Rattle.std.specs.Prelude.{◌≡◌, ℕ, Bool, true, false, ◌==◌, if◌then◌else◌, List, [], ◌∷◌, ◌++◌, refl}
use Rattle.std.proofs.Common.{sym, ◌∙◌, ap, subst}
use Rattle.std.specs.Cmp.{unsigned_Decides}
use Rattle.gx_base.specs.declared.calls.Made.{Made}
use Rattle.gx_base.specs.declared.acts.Step.{Step}
use Rattle.gx_base.specs.States.{State}
use Rattle.gx_base.specs.Steps.{next_state, reply_to}
use Rattle.gx_base.specs.Replays.{put, made_by, part, Legal, Replays}

-- the states after a step
abbrev pub states_after : (ℕ → State) → Step → ℕ → State
states_after states step = put states step.room (next_state (states step.room) step.call)

-- ---- rooms are independent

apart_by : (states ends : ℕ → State) (x : Step) (xs : List Step) (room : ℕ) (b : Bool) → (x.room == room) ≡ b → reply_to (states x.room) x.call ≡ x.reply
    → Legal (if b then next_state (states x.room) x.call else states room) (part room xs) (ends room)
    → Legal (states room) (if b then made_by x ∷ part room xs else part room xs) (ends room)
apart_by states ends x xs room true e r l =
    let same : x.room ≡ room = (unsigned_Decides x.room room).0 e in
    (subst (λ k. reply_to (states k) x.call ≡ x.reply) same r, subst (λ k. Legal (next_state (states k) x.call) (part room xs) (ends room)) same l)
apart_by states ends x xs room false e r l = l

-- steps that replay, replay in each room
pub Replays-apart : (states ends : ℕ → State) (steps : List Step) → Replays states steps ends → (room : ℕ) → Legal (states room) (part room steps) (ends room)
Replays-apart states ends [] r room = ap (λ s. s room) r
Replays-apart states ends (x ∷ xs) r room = apart_by states ends x xs room (x.room == room) refl r.0 (Replays-apart (states_after states x) ends xs r.1 room)

-- the first step, in its own room
own_room : (states : ℕ → State) (x : Step) (xs : List Step) (t : State) → Legal (states x.room) (part x.room (x ∷ xs)) t → Legal (states x.room) (made_by x ∷ part x.room xs) t
own_room states x xs t l = subst (λ (b : Bool). Legal (states x.room) (if b then made_by x ∷ part x.room xs else part x.room xs) t) ((unsigned_Decides x.room x.room).1 refl) l

rest_by : (states : ℕ → State) (x : Step) (xs : List Step) (room : ℕ) (t : State) (b : Bool) → (x.room == room) ≡ b
    → Legal (states room) (if b then made_by x ∷ part room xs else part room xs) t
    → Legal (if b then next_state (states x.room) x.call else states room) (part room xs) t
rest_by states x xs room t true e l = subst (λ r. Legal (next_state (states r) x.call) (part room xs) t) (sym ((unsigned_Decides x.room room).0 e)) l.1
rest_by states x xs room t false e l = l

-- steps that replay in each room, replay
pub Replays-merged : (states ends : ℕ → State) (steps : List Step) → ((room : ℕ) → Legal (states room) (part room steps) (ends room)) → Replays states steps ends
Replays-merged states ends [] l = λ i room. l room i
Replays-merged states ends (x ∷ xs) l =
    let here : Legal (states x.room) (made_by x ∷ part x.room xs) (ends x.room) = own_room states x xs (ends x.room) (l x.room) in
    (here.0, Replays-merged (states_after states x) ends xs (λ room. rest_by states x xs room (ends room) (x.room == room) refl (l room)))

-- ---- prefixes and ends

-- a replay determines its ends
pub Replays-ends : (states ends others : ℕ → State) (steps : List Step) → Replays states steps ends → Replays states steps others → ends ≡ others
Replays-ends states ends others [] r q = sym r ∙ q
Replays-ends states ends others (x ∷ xs) r q = Replays-ends (states_after states x) ends others xs r.1 q.1

-- a replay splits at each prefix
pub Replays-split : (states ends : ℕ → State) (xs ys : List Step) → Replays states (xs ++ ys) ends → (between : ℕ → State) × Replays states xs between × Replays between ys ends
Replays-split states ends [] ys r = (states, refl, r)
Replays-split states ends (x ∷ xs) ys r =
    let rest : (between : ℕ → State) × Replays (states_after states x) xs between × Replays between ys ends = Replays-split (states_after states x) ends xs ys r.1 in
    (rest.0, (r.0, rest.1), rest.2)

-- replays join where the first ends
pub Replays-append : (states between ends : ℕ → State) (xs ys : List Step) → Replays states xs between → Replays between ys ends → Replays states (xs ++ ys) ends
Replays-append states between ends [] ys r q = subst (λ s. Replays s ys ends) (sym r) q
Replays-append states between ends (x ∷ xs) ys r q = (r.0, Replays-append (states_after states x) between ends xs ys r.1 q)

part_by : (x : Step) (ms ns : List Made) (b : Bool) → (if b then made_by x ∷ (ms ++ ns) else ms ++ ns) ≡ (if b then made_by x ∷ ms else ms) ++ ns
part_by x ms ns true = refl
part_by x ms ns false = refl

pub part-append : (room : ℕ) (xs ys : List Step) → part room (xs ++ ys) ≡ part room xs ++ part room ys
part-append room [] ys = refl
part-append room (x ∷ xs) ys =
    ap (λ (ms : List Made). if x.room == room then made_by x ∷ ms else ms) (part-append room xs ys) ∙ part_by x (part room xs) (part room ys) (x.room == room)
