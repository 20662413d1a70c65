-- How a body that is written down moves from act to act.
use Rattle.std.specs.Prelude.{◌≡◌, ℕ, zero, suc, ◌+◌, ◌-◌, ◌<◌, ◌≤◌, min, Bool, true, false, nat_lt, if◌then◌else◌, Option, Some, List, [], ◌∷◌, length, drop, slice_get, refl}
use Rattle.std.proofs.Common.{sym, ◌∙◌, ap, subst, arith, get_or}
use Rattle.std.proofs.lemmas.Option.{same_Some, slice_get_read}
use Rattle.std.proofs.lemmas.Bool.{ltb-true}
use Rattle.gx_base.specs.declared.acts.Act.{Act}
use Rattle.gx_base.specs.declared.acts.Act.TheVariants as acts
use Rattle.gx_base.specs.declared.calls.Call.{Call as CallOf}
use Rattle.gx_base.specs.declared.calls.Reply.{Reply}
use Rattle.gx_base.specs.Plans.{Plan, Follows, IsInRoom, FallsUnlessDone}
use Rattle.gx_base.specs.Plans as plans
use Rattle.commit_book.specs.Moves.{Moves}
use Rattle.session_cases.specs.declared.scripts.ScriptPlace.{ScriptPlace}
use Rattle.session_cases.specs.Scripts.{script_plan, act_within, act_of, script_rest, script_acts_left}

-- the act at a place begins the acts from there on
pub act_from : (rooms : ℕ) (xs : List Act) (at : ℕ) (x : Act) → slice_get xs at ≡ Some x → act_within rooms x ≡ act_of rooms (drop at xs)
act_from rooms [] at x e = absurd (cc)
act_from rooms (y ∷ ys) zero x e = ap (act_within rooms) (sym (same_Some y x e))
act_from rooms (y ∷ ys) (suc at) x e = act_from rooms ys at x e

-- the acts after the one at a place
onward : (xs : List Act) (at : ℕ) (y : Act) (ys : List Act) → drop at xs ≡ y ∷ ys → (drop (suc at) xs ≡ ys) × (at < length xs)
onward [] at y ys e = absurd (no_list at e) where
  no_list : (n : ℕ) → drop n [] ≡ y ∷ ys → ⊥
  no_list zero f = absurd (cc)
  no_list (suc n) f = absurd (cc)
onward (x ∷ xs) zero y ys e = (ap tail e, omega arith) where
  tail : List Act → List Act
  tail [] = []
  tail (a ∷ rest) = rest
onward (x ∷ xs) (suc at) y ys e = let on = onward xs at y ys e in (on.0, omega arith)

pub act_read : (rooms : ℕ) (ys xs : List Act) (at : ℕ) (x : Act) → ys ≡ xs → at < length ys → x ≡ get_or ys at x → act_within rooms x ≡ act_of rooms (drop at xs)
act_read rooms ys xs at x same inside read =
    act_from rooms xs at x (subst (λ zs. slice_get zs at ≡ Some x) same (slice_get_read ys (length ys) at x refl inside read))

module _ (rooms : ℕ) (xs : List Act) (at now : ℕ) (few : length xs ≤ 18446744073709551615) (is : now ≡ min (at + 1) 18446744073709551615) where
  abbrev rests : ScriptPlace → Option Reply → Plan
  rests place last = script_rest rooms xs place.at last

  abbrev go : ScriptPlace → ℕ
  go place = script_acts_left xs place.at

  abbrev there : ScriptPlace
  there = record { at = now }

  moved : (y : Act) (ys : List Act) → drop at xs ≡ y ∷ ys → (drop now xs ≡ ys) × (length xs - now < length xs - at)
  moved y ys e =
      let on = onward xs at y ys e in
      let inside : at < length xs = on.1 in
      let next : now ≡ suc at = omega arith in
      (ap (λ n. drop n xs) next ∙ on.0, omega arith)

  called : (room : ℕ) (call : CallOf) (ys : List Act) (b : Bool) → nat_lt room rooms ≡ b → drop at xs ≡ acts.Call room call ∷ ys
      → Moves rooms rests go (if b then plans.Call room call (λ reply. script_plan rooms ys) else plans.Done) (script_acts_left xs at) (if b then acts.Call room call else acts.Done) there
  called room call ys true e h = let m = moved (acts.Call room call) ys h in record { follows = (refl, λ reply. ap (script_plan rooms) m.0); room = ltb-true room rooms e; falls = m.1 }
  called room call ys false e h = record { follows = refl; room = tt; falls = tt }

  moves_by : (zs : List Act) → drop at xs ≡ zs → Moves rooms rests go (script_plan rooms zs) (script_acts_left xs at) (act_of rooms zs) there
  moves_by [] e = record { follows = refl; room = tt; falls = tt }
  moves_by (acts.Call room call ∷ ys) e = called room call ys (nat_lt room rooms) refl e
  moves_by (acts.Push item ∷ ys) e = let m = moved (acts.Push item) ys e in record { follows = (refl, ap (script_plan rooms) m.0); room = tt; falls = m.1 }
  moves_by (acts.Done ∷ ys) e = record { follows = refl; room = tt; falls = tt }

pub script_moves : (rooms : ℕ) (xs : List Act) (at now : ℕ) (act : Act) (last : Option Reply) → length xs ≤ 18446744073709551615 → act ≡ act_of rooms (drop at xs) → now ≡ min (at + 1) 18446744073709551615
    → Moves rooms (λ (place : ScriptPlace) reply. script_rest rooms xs place.at reply) (λ (place : ScriptPlace). script_acts_left xs place.at) (script_rest rooms xs at last) (script_acts_left xs at) act (record { at = now })
script_moves rooms xs at now act last few begins is =
    subst (λ a. Moves rooms (rests rooms xs at now few is) (go rooms xs at now few is) (script_plan rooms (drop at xs)) (script_acts_left xs at) a (record { at = now })) (sym begins) (moves_by rooms xs at now few is (drop at xs) refl)
