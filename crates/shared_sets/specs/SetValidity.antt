-- The tables of sets: the precise one is valid, and the others are as they should be. These laws stand here since sets
-- say of what they ship that it suits them, and that takes nothing from this crate's proofs.
use Rattle.std.specs.Prelude.{◌≡◌, pos, true, false, Some, None, [], refl}
use Rattle.std.proofs.Common.{inr}
use Rattle.gx_base.specs.declared.calls.Call.{Call}
use Rattle.gx_base.specs.declared.calls.Seen.{Seen}
use Rattle.gx_base.specs.declared.kinds.Kind.TheVariants.{Set}
use Rattle.gx_base.specs.Kinds.{kind_number}
use Rattle.gx_base.proofs.CallerLemmas.{IsBelow-itself, set_deed-foreign}
use Rattle.gx_base.specs.Conditions.{holds}
use Rattle.gx_base.specs.States.{State}
use Rattle.gx_base.specs.RowActions.{action_next, action_reply}
use Rattle.gx_base.specs.SetKind.{SetDeed, Add, Remove, Contains, Nothing, set_deed, set_action, set_meaning, HoldsMarks}
use Rattle.cond_lattice.specs.Simple.{strengthened}
use Rattle.shared_sets.specs.SetTables.{precise_set, simple_set, set_tables}
use Rattle.kind_tables.proofs.CallerLemmas.{SwapsBy, effect_in, IsNear, Pair, two_apart_rows, two_turns, turn_first, turn_second, pair_swaps, TableLaws, valid_from, TableFacts, NoneIsFalse, keeps}

set_near : (d : SetDeed) → IsNear (set_action d)
set_near Add = tt
set_near Remove = tt
set_near Contains = tt
set_near Nothing = tt

set_means : (d e : SetDeed) (s : State) (a b : Call) (seen : Seen)
    → holds (precise_set d e) (record { call = a; reply = action_reply (set_action d) s a.a }) (record { call = b; reply = action_reply (set_action e) (action_next (set_action d) s a.a) b.a }) seen ≡ true
    → Pair s a.a b.a (set_action d) (set_action e)
set_means Add Add s a b seen t = two_turns s a.a b.a true true None (Some []) None (Some []) t
set_means Add Remove s a b seen t = two_apart_rows s a.a b.a (set_action Add) (set_action Remove) t
set_means Add Contains s a b seen t = turn_first s a.a b.a true None (Some []) (set_action Contains) refl t
set_means Add Nothing s a b seen t = absurd (cc)
set_means Remove Add s a b seen t = two_apart_rows s a.a b.a (set_action Remove) (set_action Add) t
set_means Remove Remove s a b seen t = two_turns s a.a b.a true true (Some []) None (Some []) None t
set_means Remove Contains s a b seen t = turn_first s a.a b.a true (Some []) None (set_action Contains) refl t
set_means Remove Nothing s a b seen t = absurd (cc)
set_means Contains Add s a b seen t = turn_second s a.a b.a (set_action Contains) true None (Some []) refl t
set_means Contains Remove s a b seen t = turn_second s a.a b.a (set_action Contains) true (Some []) None refl t
set_means Contains Contains s a b seen t = inr (refl, refl)
set_means Contains Nothing s a b seen t = absurd (cc)
set_means Nothing e s a b seen t = absurd (cc)

-- where a row is true, its calls may be swapped
pub set_swaps : (s : State) (a b : Call) (seen : Seen)
    → holds (set_tables.precise a.method b.method) (record { call = a; reply = set_meaning.reply s a }) (record { call = b; reply = set_meaning.reply (set_meaning.next s a) b }) seen ≡ true
    → SwapsBy (effect_in set_meaning a) (effect_in set_meaning b) s
set_swaps s a b seen t =
    let d : SetDeed = set_deed a.method in
    let e : SetDeed = set_deed b.method in
    pair_swaps s a.a b.a (set_action d) (set_action e) (set_near d) (set_near e) (set_means d e s a b seen t)

-- the precise table of sets is valid
pub set_table : TableLaws set_meaning HoldsMarks set_tables.precise
set_table = record {
  swaps = λ s a b h fa fb t. set_swaps s a b (record { first = pos 0; second = pos 0 }) t;
  sees_first = λ s a b h fa fb t l x. refl;
  sees_second = λ s a b h fa fb t l x. refl;
}

set_none : NoneIsFalse Nothing precise_set
set_none = record { left = λ d. refl; right = elim [ Add ↦ refl | Remove ↦ refl | Contains ↦ refl | Nothing ↦ refl ] }

simple_set_none : NoneIsFalse Nothing simple_set
simple_set_none = record { left = λ d. refl; right = elim [ Add ↦ refl | Remove ↦ refl | Contains ↦ refl | Nothing ↦ refl ] }

set_strengthened : (d e : SetDeed) → simple_set d e ≡ strengthened (precise_set d e)
set_strengthened Add Add = refl
set_strengthened Remove Add = refl
set_strengthened Contains Add = refl
set_strengthened Nothing e = refl
set_strengthened d e = refl

pub set_facts : TableFacts (kind_number Set) set_tables
set_facts = record {
  valid = valid_from (kind_number Set) set_tables.precise set_table;
  keeps_to_kind = keeps (kind_number Set) Nothing set_deed set_deed-foreign precise_set set_none;
  strengthened = λ first second. set_strengthened (set_deed first) (set_deed second);
  readers_below = λ first second. IsBelow-itself _;
  readers_keep_to_kind = keeps (kind_number Set) Nothing set_deed set_deed-foreign simple_set simple_set_none;
}
