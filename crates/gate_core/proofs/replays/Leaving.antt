-- Entries leave a list of live ones: an undone one vanishes, and a released one moves before those of other iterations.
use Rattle.std.specs.Prelude.{◌≡◌, ℕ, Bool, true, false, not, if◌then◌else◌, Some, None, List, [], ◌∷◌, filter, refl}
use Rattle.std.proofs.Common.{sym, ◌∙◌, ap, subst}
use Rattle.gx_base.specs.States.{State}
use Rattle.gx_base.specs.Steps.{next_state, reply_to, inverse, IsCall}
use Rattle.gx_base.specs.Tables.{Rows, IsValid}
use Rattle.gx_base.proofs.CallerLemmas.{undoes}
use Rattle.gx_base.specs.declared.acts.Entry.{Entry}
use Rattle.gate_core.specs.Entries.{same_iteration, is_of, has_entry, last_of, without_last, Each}
use Rattle.gate_core.specs.Replays.{after, LegalEntries, AllCalls, pair_ok, PairsFit, SawRight, AllSawRight, Stands}
use Rattle.gate_core.proofs.lists.EntryLists.{some_same, neither, of_same, same_turn, each_filter, each_without, each_same}
use Rattle.gate_core.specs.Swaps.{Swapped}
use Rattle.gate_core.proofs.replays.EntryReplays.{calls_filter}
use Rattle.gate_core.proofs.replays.Swapping.{stands_next, swapped}

-- none of the entries is of the entry's iteration
abbrev pub NoneOf : Entry → List Entry → Type 0
NoneOf e es = Each (λ m. same_iteration e m ≡ false) es

none_after : (worker iter : ℕ) (e : Entry) (es : List Entry) → is_of worker iter e ≡ true → has_entry worker iter es ≡ false → NoneOf e es
none_after worker iter e [] q n = tt
none_after worker iter e (x ∷ es) q n =
    let b : (is_of worker iter x ≡ false) × (has_entry worker iter es ≡ false) = neither (is_of worker iter x) (has_entry worker iter es) n in
    (same_turn e x ∙ of_same worker iter x e q ∙ b.0, none_after worker iter e es q b.1)

-- the entries lead from s to t, may be live together, and saw what was right
pub record AreLive (rows : Rows) (s : State) (es : List Entry) (t : State) : Type 0 where
  pub legal : LegalEntries s es t
  pub pairs : PairsFit rows s es
  pub saw : AllSawRight rows s es

pub live_next : (rows : Rows) (s t : State) (e : Entry) (es : List Entry) → AreLive rows s (e ∷ es) t → AreLive rows (next_state s e.call) es t
live_next rows s t e es h = record { legal = h.legal.1; pairs = h.pairs.1; saw = h.saw.1 }

pub live_before : (rows : Rows) (s t : State) (e : Entry) (es : List Entry) → reply_to s e.call ≡ e.reply → Each (λ g. pair_ok rows s e g ≡ true) es → SawRight rows s e → AreLive rows (next_state s e.call) es t
    → AreLive rows s (e ∷ es) t
live_before rows s t e es r p w h = record { legal = (r, h.legal); pairs = (p, h.pairs); saw = (w, h.saw) }

module _ (kind : ℕ) (rows : Rows) (valid : IsValid kind rows) where
  -- an entry that was made first is undone after all later ones, which are of other iterations
  pub vanish : (s t : State) (e : Entry) (es : List Entry) → Stands kind s → IsCall e.call → AllCalls es → AreLive rows s (e ∷ es) t → NoneOf e es → AreLive rows s es (inverse t e.call e.reply)
  vanish s t e [] h c cs l n = record {
    legal = sym (ap (λ u. inverse u e.call e.reply) (sym l.legal.1) ∙ ap (inverse (next_state s e.call) e.call) (sym l.legal.0) ∙ undoes s e.call h.is_state c);
    pairs = tt;
    saw = tt;
  }
  vanish s t e (g ∷ gs) h c cs l n =
      let w : Swapped rows s e g = swapped kind rows valid s e g h c cs.0 l.legal.0 l.legal.1.0 n.0 l.pairs.0.0 in
      let s' : State = next_state s g.call in
      let rest : AreLive rows (next_state s' e.call) gs t = subst (λ u. AreLive rows u gs t) (sym w.end) (live_next rows (next_state s e.call) t g gs (live_next rows s t e (g ∷ gs) l)) in
      let before : AreLive rows s' (e ∷ gs) t = live_before rows s' t e gs w.earlier (each_same (λ x. pair_ok rows s e x ≡ true) (λ x. pair_ok rows s' e x ≡ true) gs w.earlier_rows l.pairs.0.1) (w.earlier_saw l.saw.0) rest in
      live_before rows s (inverse t e.call e.reply) g gs w.later (each_same (λ x. pair_ok rows (next_state s e.call) g x ≡ true) (λ x. pair_ok rows s g x ≡ true) gs w.later_rows l.pairs.1.0) (w.later_saw l.saw.1.0)
      (vanish s' t e gs (stands_next kind s g.call h cs.0) c cs.1 before n.1)

  -- some entries first, and then the others, which are live as before
  pub record Parted (s t : State) (ms os : List Entry) : Type 0 where
    pub first : LegalEntries s ms (after s ms)
    pub rest : AreLive rows (after s ms) os t

  -- an entry that was made first stands after entries of other iterations
  jump : (s t : State) (e : Entry) (ms os : List Entry) → Stands kind s → IsCall e.call → AllCalls ms → reply_to s e.call ≡ e.reply → SawRight rows s e
      → Each (λ g. pair_ok rows s e g ≡ true) ms → Each (λ g. pair_ok rows s e g ≡ true) os → NoneOf e ms → Parted (next_state s e.call) t ms os → Parted s t ms (e ∷ os)
  jump s t e [] os h c cs r w f g n p = record { first = refl; rest = live_before rows s t e os r g w p.rest }
  jump s t e (m ∷ ms) os h c cs r w f g n p =
      let x : Swapped rows s e m = swapped kind rows valid s e m h c cs.0 r p.first.0 n.0 f.0 in
      let s' : State = next_state s m.call in
      let later : Parted (next_state s' e.call) t ms os = subst (λ u. Parted u t ms os) (sym x.end) (record { first = p.first.1; rest = p.rest }) in
      let j : Parted s' t ms (e ∷ os) =
      jump s' t e ms os (stands_next kind s m.call h cs.0) c cs.1 x.earlier (x.earlier_saw w) (each_same (λ y. pair_ok rows s e y ≡ true) (λ y. pair_ok rows s' e y ≡ true) ms x.earlier_rows f.1)
      (each_same (λ y. pair_ok rows s e y ≡ true) (λ y. pair_ok rows s' e y ≡ true) os x.earlier_rows g) n.1 later in
      record { first = (x.later, j.first); rest = j.rest }

  -- a choice of entries that takes whole iterations
  module _ (chosen : Entry → Bool) (whole : (e m : Entry) → chosen e ≡ false → chosen m ≡ true → same_iteration e m ≡ false) where
    none_by : (e x : Entry) (ms : List Entry) (b : Bool) → chosen x ≡ b → chosen e ≡ false → NoneOf e ms → NoneOf e (if b then x ∷ ms else ms)
    none_by e x ms true q n h = (whole e x n q, h)
    none_by e x ms false q n h = h

    none_chosen : (e : Entry) (es : List Entry) → chosen e ≡ false → NoneOf e (filter chosen es)
    none_chosen e [] n = tt
    none_chosen e (x ∷ es) n = none_by e x (filter chosen es) (chosen x) refl n (none_chosen e es n)

    parted_by : (s t : State) (e : Entry) (es : List Entry) (b : Bool) → chosen e ≡ b → Stands kind s → IsCall e.call → AllCalls es → AreLive rows s (e ∷ es) t
        → Parted (next_state s e.call) t (filter chosen es) (filter (λ x. not (chosen x)) es)
        → Parted s t (if b then e ∷ filter chosen es else filter chosen es) (if not b then e ∷ filter (λ x. not (chosen x)) es else filter (λ x. not (chosen x)) es)
    parted_by s t e es true q h c cs l r = record { first = (l.legal.0, r.first); rest = r.rest }
    parted_by s t e es false q h c cs l r =
        jump s t e (filter chosen es) (filter (λ x. not (chosen x)) es) h c (calls_filter chosen es cs) l.legal.0 l.saw.0
        (each_filter (λ x. pair_ok rows s e x ≡ true) chosen es l.pairs.0) (each_filter (λ x. pair_ok rows s e x ≡ true) (λ x. not (chosen x)) es l.pairs.0) (none_chosen e es q) r

    -- the chosen entries may be made first
    pub parted : (s t : State) (es : List Entry) → Stands kind s → AllCalls es → AreLive rows s es t → Parted s t (filter chosen es) (filter (λ x. not (chosen x)) es)
    parted s t [] h cs l = record { first = refl; rest = l }
    parted s t (e ∷ es) h cs l = parted_by s t e es (chosen e) refl h cs.0 cs.1 l (parted (next_state s e.call) t es (stands_next kind s e.call h cs.0) cs.1 (live_next rows s t e es l))

  undone_here : (s t : State) (worker iter : ℕ) (e u : Entry) (es : List Entry) (b : Bool) → is_of worker iter e ≡ b → has_entry worker iter es ≡ false → Stands kind s → IsCall e.call → AllCalls es → AreLive rows s (e ∷ es) t
      → (if b then Some e else None) ≡ Some u → AreLive rows s (if b then es else e ∷ es) (inverse t u.call u.reply)
  undone_here s t worker iter e u es true q n h c cs l k =
      subst (λ (x : Entry). AreLive rows s es (inverse t x.call x.reply)) (some_same k) (vanish s t e es h c cs l (none_after worker iter e es q n))
  undone_here s t worker iter e u es false q n h c cs l k = absurd (cc)

  undone_by : (s t : State) (worker iter : ℕ) (e u : Entry) (es : List Entry) (b : Bool) → has_entry worker iter es ≡ b → Stands kind s → IsCall e.call → AllCalls es → AreLive rows s (e ∷ es) t
      → (last_of worker iter es ≡ Some u → AreLive rows (next_state s e.call) (without_last worker iter es) (inverse t u.call u.reply))
      → (if b then last_of worker iter es else (if is_of worker iter e then Some e else None)) ≡ Some u
      → AreLive rows s (if b then e ∷ without_last worker iter es else (if is_of worker iter e then es else e ∷ es)) (inverse t u.call u.reply)
  undone_by s t worker iter e u es true q h c cs l r k =
      live_before rows s (inverse t u.call u.reply) e (without_last worker iter es) l.legal.0 (each_without (λ x. pair_ok rows s e x ≡ true) worker iter es l.pairs.0) l.saw.0 (r k)
  undone_by s t worker iter e u es false q h c cs l r k = undone_here s t worker iter e u es (is_of worker iter e) refl q h c cs l k

  -- the last entry of an iteration vanishes
  pub undone : (s t : State) (worker iter : ℕ) (u : Entry) (es : List Entry) → Stands kind s → AllCalls es → AreLive rows s es t → last_of worker iter es ≡ Some u → AreLive rows s (without_last worker iter es) (inverse t u.call u.reply)
  undone s t worker iter u [] h cs l k = absurd (cc)
  undone s t worker iter u (e ∷ es) h cs l k =
      undone_by s t worker iter e u es (has_entry worker iter es) refl h cs.0 cs.1 l (undone (next_state s e.call) t worker iter u es (stands_next kind s e.call h cs.0) cs.1 (live_next rows s t e es l)) k
