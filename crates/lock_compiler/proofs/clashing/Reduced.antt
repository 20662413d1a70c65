-- The same calls clash under modes and under what they are reduced to.
use Rattle.std.specs.Prelude.{◌≡◌, ℕ, ◌<◌, true, false, List, length, Contains}
use Rattle.std.proofs.Common.{sym, ap, ◌∙◌, subst, arith, get_or}
use Rattle.std.proofs.lemmas.List.{length-map, get_or-map, get_or_default}
use Rattle.gx_base.specs.declared.calls.Made.{Made}
use Rattle.gx_base.specs.declared.calls.Seen.{Seen}
use Rattle.gx_base.specs.Conditions.{holds}
use Rattle.gx_base.specs.Methods.{is_method}
use Rattle.gx_base.specs.Tables.{Rows}
use Rattle.cond_lattice.specs.Grades.{AreSimple}
use Rattle.lock_compiler.specs.LockModes.{Member, LockMode, LockModes, no_mode, members_at, incompatible, Clash}
use Rattle.lock_compiler.specs.Compiled.{compiled}
use Rattle.lock_compiler.specs.Reduced.{mode_stays, staying, members_like, merged_mode, reduced, are_alike}
use Rattle.lock_compiler.proofs.reduction.Below.{passing_in, all_numbers_below}
use Rattle.lock_compiler.proofs.reduction.Alike.{AlikeAt, alike_at, held_not_idle, asked_not_idle, HasStaying, has_staying, into_like, IsLike, in_like}
use Rattle.lock_compiler.proofs.clashing.Needs.{ClashAt, clash_parts, clash_from}
use Rattle.lock_compiler.proofs.clashing.Compiled.{compiled_clash}

-- the mode that stands at a place among those that stay
abbrev pub mode_at : LockModes → ℕ → ℕ
mode_at modes place = get_or (staying modes) place 0

pub merged_members : (modes : LockModes) (place : ℕ) → place < length (staying modes) → members_at (reduced modes) place ≡ members_like modes (mode_at modes place) (length modes)
merged_members modes place h = ap (λ (mode : LockMode). mode.members) (get_or-map (merged_mode modes) (staying modes) place 0 no_mode h)

pub merged_refuses : (modes : LockModes) (held asked : ℕ) → held < length (staying modes) → asked < length (staying modes) → incompatible (reduced modes) held asked ≡ incompatible modes (mode_at modes held) (mode_at modes asked)
merged_refuses modes held asked h a =
    ap (λ (mode : LockMode). get_or mode.refuses asked false) (get_or-map (merged_mode modes) (staying modes) held 0 no_mode h)
    ∙ get_or-map (incompatible modes (mode_at modes held)) (staying modes) asked 0 false a

-- modes that are like two others are as incompatible
pub alike_refuse : (modes : LockModes) (x y u v : ℕ) → are_alike modes x u ≡ true → are_alike modes y v ≡ true → y < length modes → u < length modes → incompatible modes x y ≡ incompatible modes u v
alike_refuse modes x y u v p q y_below u_below =
    let a : AlikeAt modes x u y = alike_at modes x u y p y_below in
    let b : AlikeAt modes y v u = alike_at modes y v u q u_below in
    a.held ∙ b.asked

down : (modes : LockModes) (first second : Made) → ClashAt (reduced modes) first second → ClashAt modes first second
down modes first second c =
    let held_below : c.held < length (staying modes) = omega (arith, length-map (staying modes) (merged_mode modes), c.held_below) in
    let asked_below : c.asked < length (staying modes) = omega (arith, length-map (staying modes) (merged_mode modes), c.asked_below) in
    let held : IsLike modes (mode_at modes c.held) (length modes) (first.call.method, c.held_place) =
    in_like modes (mode_at modes c.held) (length modes) (first.call.method, c.held_place)
    (subst (λ (ms : List Member). Contains ms (first.call.method, c.held_place)) (merged_members modes c.held held_below) c.held_member) in
    let asked : IsLike modes (mode_at modes c.asked) (length modes) (second.call.method, c.asked_place) =
    in_like modes (mode_at modes c.asked) (length modes) (second.call.method, c.asked_place)
    (subst (λ (ms : List Member). Contains ms (second.call.method, c.asked_place)) (merged_members modes c.asked asked_below) c.asked_member) in
    let below : mode_at modes c.asked < length modes = all_numbers_below (mode_stays modes) (length modes) c.asked 0 asked_below in
    record {
      held = held.number;
      asked = asked.number;
      held_place = c.held_place;
      asked_place = c.asked_place;
      held_below = held.below;
      asked_below = asked.below;
      held_member = held.member;
      asked_member = asked.member;
      equal_values = c.equal_values;
      refused = sym (alike_refuse modes (mode_at modes c.held) (mode_at modes c.asked) held.number asked.number held.alike asked.alike below held.below)
          ∙ sym (merged_refuses modes c.held c.asked held_below asked_below) ∙ c.refused;
    }

-- where a mode that stays stands
pub record StandsAt (modes : LockModes) (mode : ℕ) : Type 0 where
  pub place : ℕ
  pub below : place < length (staying modes)
  pub is : mode_at modes place ≡ mode

pub stands_at : (modes : LockModes) (mode : ℕ) → Contains (staying modes) mode → StandsAt modes mode
stands_at modes mode (k, lt, e) = record { place = k; below = lt; is = get_or_default (staying modes) k 0 mode lt ∙ e }

up : (modes : LockModes) (first second : Made) → ClashAt modes first second → ClashAt (reduced modes) first second
up modes first second c =
    let h : HasStaying modes c.held = has_staying modes c.held c.held_below (held_not_idle modes c.held c.asked c.asked_below c.refused) in
    let a : HasStaying modes c.asked = has_staying modes c.asked c.asked_below (asked_not_idle modes c.held c.asked c.held_below c.refused) in
    let x : StandsAt modes h.first = stands_at modes h.first (passing_in (mode_stays modes) (length modes) h.first h.below h.it_stays) in
    let y : StandsAt modes a.first = stands_at modes a.first (passing_in (mode_stays modes) (length modes) a.first a.below a.it_stays) in
    record {
      held = x.place;
      asked = y.place;
      held_place = c.held_place;
      asked_place = c.asked_place;
      held_below = omega (arith, length-map (staying modes) (merged_mode modes), x.below);
      asked_below = omega (arith, length-map (staying modes) (merged_mode modes), y.below);
      held_member = subst (λ (ms : List Member). Contains ms (first.call.method, c.held_place))
          (sym (merged_members modes x.place x.below ∙ ap (λ mode. members_like modes mode (length modes)) x.is))
          (into_like modes h.first (length modes) c.held (first.call.method, c.held_place) c.held_below h.alike c.held_member);
      asked_member = subst (λ (ms : List Member). Contains ms (second.call.method, c.asked_place))
          (sym (merged_members modes y.place y.below ∙ ap (λ mode. members_like modes mode (length modes)) y.is))
          (into_like modes a.first (length modes) c.asked (second.call.method, c.asked_place) c.asked_below a.alike c.asked_member);
      equal_values = c.equal_values;
      refused = merged_refuses modes x.place y.place x.below y.below ∙ (λ k. incompatible modes (x.is k) (y.is k))
          ∙ alike_refuse modes h.first a.first c.held c.asked h.alike a.alike a.below c.held_below ∙ c.refused;
    }

pub reduced_clash : (modes : LockModes) (first second : Made) → (Clash (reduced modes) first second → Clash modes first second) × (Clash modes first second → Clash (reduced modes) first second)
reduced_clash modes first second = (
  λ c. clash_from modes first second (down modes first second (clash_parts (reduced modes) first second c)),
  λ c. clash_from (reduced modes) first second (up modes first second (clash_parts modes first second c)),
)

pub reduced_compiled_clash : (kind : ℕ) (rows : Rows) (first second : Made) (seen : Seen) → AreSimple kind rows → is_method kind first.call.method ≡ true → is_method kind second.call.method ≡ true
    → (Clash (reduced (compiled kind rows)) first second → holds (rows first.call.method second.call.method) first second seen ≡ false)
    × (holds (rows first.call.method second.call.method) first second seen ≡ false → Clash (reduced (compiled kind rows)) first second)
reduced_compiled_clash kind rows first second seen simple m n = (
  λ c. (compiled_clash kind rows first second seen simple m n).0 ((reduced_clash (compiled kind rows) first second).0 c),
  λ e. (reduced_clash (compiled kind rows) first second).1 ((compiled_clash kind rows first second seen simple m n).1 e),
)
