-- What a gate owes where it takes calls back or releases them.
use Rattle.std.specs.Prelude.{◌≡◌, ℕ, ◌+◌, ◌≤◌, Bool, true, false, not, if◌then◌else◌, Some, None, List, [], ◌∷◌, ◌++◌, length, IsTrue, refl}
use Rattle.std.proofs.Common.{sym, ◌∙◌, ap, subst, arith, get_or, length-append}
use Rattle.std.proofs.lemmas.Option.{slice_get_read}
use Rattle.gx_base.specs.declared.calls.Made.{Made}
use Rattle.gx_base.specs.declared.acts.Entry.{Entry}
use Rattle.gx_base.specs.TableRows.{RowMap}
use Rattle.gx_base.specs.States.{State}
use Rattle.gx_base.specs.Steps.{inverse}
use Rattle.gate_core.specs.Entries.{made_of, is_of, entries_of, others_than, has_entry, last_of, without_last, done_under}
use Rattle.gate_core.specs.LastPlaces.{IsLastPlace}
use Rattle.gate_core.specs.Views.{GateView, undo_entry, undo_last, release}
use Rattle.gate_core.specs.CallAnswers.{AllRoomed, IsGate, call_of}
use Rattle.gate_core.proofs.lists.EntryLists.{neither, each_at, each_same, each_filter, each_without}
use Rattle.gate_core.proofs.lawful.KeptLawful.{undo_entry_keeps, release_keeps}

-- the entries that leave are those of a list, under whichever name it goes
pub appended : (worker iter number : ℕ) (done now xs ys : List Entry) → now ≡ done ++ done_under number (entries_of worker iter xs) → xs ≡ ys → now ≡ done ++ done_under number (entries_of worker iter ys)
appended worker iter number done now xs ys e same = subst (λ (zs : List Entry). now ≡ done ++ done_under number (entries_of worker iter zs)) same e

pub marked : (worker iter number was now : ℕ) (xs ys : List Entry) → now ≡ (if has_entry worker iter xs then number + 1 else was) → xs ≡ ys → now ≡ (if has_entry worker iter ys then number + 1 else was)
marked worker iter number was now xs ys e same = subst (λ (zs : List Entry). now ≡ (if has_entry worker iter zs then number + 1 else was)) same e

-- what is taken out of the place is the last entry
pub last_at : (worker iter : ℕ) (es : List Entry) (place : ℕ) (e : Entry) → IsLastPlace worker iter es (Some place) → e ≡ get_or es place e → last_of worker iter es ≡ Some e
last_at worker iter es place e h g = h.1 ∙ slice_get_read es (length es) place e refl h.0 g

-- it can be undone
pub roomed_last : (roomed : Made → Bool) (worker iter : ℕ) (es : List Entry) (place : ℕ) (e : Entry) → IsLastPlace worker iter es (Some place) → e ≡ get_or es place e → AllRoomed roomed es → IsTrue (roomed (made_of e))
roomed_last roomed worker iter es place e h g r = each_at (λ x. IsTrue (roomed (made_of x))) es place e r (slice_get_read es (length es) place e refl h.0 g)

-- the view with the last entry undone
pub undone_view : (g : GateView) (worker iter : ℕ) (e : Entry) (s : State) (live : List Entry) → last_of worker iter g.live ≡ Some e → s ≡ inverse g.state e.call e.reply → live ≡ without_last worker iter g.live
    → ◌≡◌ {A = GateView} (record g { state = s; live = live }) (undo_last g worker iter)
undone_view g worker iter e s live k p l = (λ i. record g { state = p i; live = l i }) ∙ ap (undo_entry g worker iter) (sym k)

-- where the iteration has no entry, nothing changes
none_of : (worker iter : ℕ) (es : List Entry) → has_entry worker iter es ≡ false → last_of worker iter es ≡ None
none_of worker iter [] n = refl
none_of worker iter (e ∷ es) n =
    let p : (is_of worker iter e ≡ false) × (has_entry worker iter es ≡ false) = neither (is_of worker iter e) (has_entry worker iter es) n in
    ap (λ (b : Bool). if b then last_of worker iter es else (if is_of worker iter e then Some e else None)) p.1 ∙ ap (λ (b : Bool). if b then Some e else None) p.0

pub same_undone : (g : GateView) (worker iter : ℕ) → has_entry worker iter g.live ≡ false → g ≡ undo_last g worker iter
same_undone g worker iter n = ap (undo_entry g worker iter) (sym (none_of worker iter g.live n))

pub none_back : (worker iter : ℕ) (es : List Entry) → has_entry worker iter es ≡ false → None ≡ call_of (last_of worker iter es)
none_back worker iter es n = ap call_of (sym (none_of worker iter es n))

shorter : (e : Entry) (es ws : List Entry) (b c : Bool) → length ws ≤ length es → length (if b then e ∷ ws else (if c then es else e ∷ es)) ≤ length (e ∷ es)
shorter e es ws true c h = omega arith
shorter e es ws false true h = omega arith
shorter e es ws false false h = omega arith

length_without : (worker iter : ℕ) (es : List Entry) → length (without_last worker iter es) ≤ length es
length_without worker iter [] = omega arith
length_without worker iter (e ∷ es) = shorter e es (without_last worker iter es) (has_entry worker iter es) (is_of worker iter e) (length_without worker iter es)

parts_by : (number : ℕ) (e : Entry) (ms os es : List Entry) (b : Bool) → length (done_under number ms) + length os ≡ length es
    → length (done_under number (if b then e ∷ ms else ms)) + length (if not b then e ∷ os else os) ≡ length (e ∷ es)
parts_by number e ms os es true h = omega arith
parts_by number e ms os es false h = omega arith

length_parts : (worker iter number : ℕ) (es : List Entry) → length (done_under number (entries_of worker iter es)) + length (others_than worker iter es) ≡ length es
length_parts worker iter number [] = refl
length_parts worker iter number (e ∷ es) = parts_by number e (entries_of worker iter es) (others_than worker iter es) es (is_of worker iter e) (length_parts worker iter number es)

module _ (g : GateView) (roomed roomed' : Made → Bool) (Stands Stands' : List Entry → Type 0) (Suits Suits' : ℕ → RowMap → Type 0) (capacity capacity' : ℕ) (h : IsGate g roomed Stands Suits capacity) where
  -- a gate with its last call of an iteration undone
  pub gate_undoes : (worker iter : ℕ) (e : Entry) (s : State) (live : List Entry) → last_of worker iter g.live ≡ Some e → s ≡ inverse g.state e.call e.reply → live ≡ without_last worker iter g.live
      → ((made : Made) → IsTrue (roomed made) → IsTrue (roomed' made)) → (Stands g.live → Stands' (without_last worker iter g.live)) → (Suits g.kind g.table → Suits' g.kind g.table) → capacity ≤ capacity'
      → IsGate (record g { state = s; live = live }) roomed' Stands' Suits' capacity'
  gate_undoes worker iter e s live k p l r t f c =
      let whole : IsGate (undo_entry g worker iter (Some e)) roomed' Stands' Suits' capacity' = record {
        lawful = (undo_entry_keeps g worker iter e h.lawful k).lawful;
        roomed_live = each_without (λ x. IsTrue (roomed' (made_of x))) worker iter g.live (each_same (λ x. IsTrue (roomed (made_of x))) (λ x. IsTrue (roomed' (made_of x))) g.live (λ x. r (made_of x)) h.roomed_live);
        screened = t h.screened;
        suited = f h.suited;
        room = (let a : length g.done + length g.live ≤ capacity = h.room in let b : length (without_last worker iter g.live) ≤ length g.live = length_without worker iter g.live in omega arith);
      } in
      let same : ◌≡◌ {A = GateView} (undo_entry g worker iter (Some e)) (record g { state = s; live = live }) = λ i. record g { state = sym p i; live = sym l i } in
      subst (λ x. IsGate x roomed' Stands' Suits' capacity') same whole

  -- a gate with the entries of an iteration released
  pub gate_releases : (worker iter number : ℕ) (done live : List Entry) (mark : ℕ) → g.mark ≤ number → done ≡ g.done ++ done_under number (entries_of worker iter g.live) → live ≡ others_than worker iter g.live
      → mark ≡ (if has_entry worker iter g.live then number + 1 else g.mark)
      → ((made : Made) → IsTrue (roomed made) → IsTrue (roomed' made)) → (Stands g.live → Stands' (others_than worker iter g.live)) → (Suits g.kind g.table → Suits' g.kind g.table) → capacity ≤ capacity'
      → IsGate (record g { done = done; live = live; mark = mark }) roomed' Stands' Suits' capacity'
  gate_releases worker iter number done live mark below d l m r t f c =
      let whole : IsGate (release g worker iter number) roomed' Stands' Suits' capacity' = record {
        lawful = (release_keeps g worker iter number h.lawful below).lawful;
        roomed_live = each_filter (λ x. IsTrue (roomed' (made_of x))) (λ x. not (is_of worker iter x)) g.live (each_same (λ x. IsTrue (roomed (made_of x))) (λ x. IsTrue (roomed' (made_of x))) g.live (λ x. r (made_of x)) h.roomed_live);
        screened = t h.screened;
        suited = f h.suited;
        room = (let a : length g.done + length g.live ≤ capacity = h.room in let b : length (done_under number (entries_of worker iter g.live)) + length (others_than worker iter g.live) ≡ length g.live = length_parts worker iter number g.live in omega (arith, length-append {A = Entry}));
      } in
      let same : ◌≡◌ {A = GateView} (release g worker iter number) (record g { done = done; live = live; mark = mark }) = λ i. record g { done = sym d i; live = sym l i; mark = sym m i } in
      subst (λ x. IsGate x roomed' Stands' Suits' capacity') same whole
