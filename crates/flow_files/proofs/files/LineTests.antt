-- What the tests of a line say.
use Rattle.std.proofs.Common.{◌≡◌, ℕ, ◌<◌, Bool, true, false, not, ◌&&◌, eqb, leb, ltb, Option, Some, None, refl, sym, ◌∙◌, arith}
use Rattle.std.proofs.lemmas.Bool.{lt-ltb, le-leb, ltb-true, leb-true, eqb-false}
use Rattle.std.proofs.lemmas.Bool.Decides.{nat_tests}
use Rattle.flow_files.specs.FlowReading.{is_node_number, is_other_than, may_be_terminal, may_go}
use Rattle.flow_files.specs.FlowFiles.{most_capacity, IsNode, Joins}

and_true : (x y : Bool) → (x && y) ≡ true → (x ≡ true) × (y ≡ true)
and_true true y h = (refl, h)
and_true false y h = absurd cc

not_true : (x : Bool) → not x ≡ true → x ≡ false
not_true true h = absurd cc
not_true false h = refl

pub node_is : (n id : ℕ) → is_node_number n id ≡ true → IsNode n id
node_is n id h = let p = and_true (leb 1 id) (leb id n) h in record { from_one = leb-true _ _ p.0; within = leb-true _ _ p.1 }

pub node_so : (n id : ℕ) → IsNode n id → is_node_number n id ≡ true
node_so n id h = let a : leb 1 id ≡ true = le-leb _ _ h.from_one in let b : leb id n ≡ true = le-leb _ _ h.within in rw (a, b) refl

differs : (a b : ℕ) → (a ≡ b → ⊥) → eqb a b ≡ false
differs a b h = grind (arith, nat_tests)

-- what a source or sink is that may stand
pub record Stands (n : ℕ) (this other : Option ℕ) (id : ℕ) : Type 0 where
  pub first : this ≡ None
  pub node : IsNode n id
  pub free : (y : ℕ) → other ≡ Some y → id ≡ y → ⊥

free_is : (id : ℕ) (other : Option ℕ) → is_other_than id other ≡ true → (y : ℕ) → other ≡ Some y → id ≡ y → ⊥
free_is id None h y e f = absurd cc
free_is id (Some x) h y e f = let ne = eqb-false id x (not_true (eqb id x) h) in let same : x ≡ y = cc in ne (f ∙ sym same)

pub free_so : (id : ℕ) (other : Option ℕ) → ((y : ℕ) → other ≡ Some y → id ≡ y → ⊥) → is_other_than id other ≡ true
free_so id None h = refl
free_so id (Some x) h = let e : eqb id x ≡ false = differs id x (h x refl) in rw e refl

pub stand_is : (n m : ℕ) (this other : Option ℕ) (id : ℕ) → may_be_terminal (Some (n, m)) this other id ≡ true → Stands n this other id
stand_is n m None other id h = let p = and_true (is_node_number n id) (is_other_than id other) h in record { first = refl; node = node_is n id p.0; free = free_is id other p.1 }
stand_is n m (Some x) other id h = absurd cc

pub stand_so : (n m : ℕ) (other : Option ℕ) (id : ℕ) → IsNode n id → is_other_than id other ≡ true → may_be_terminal (Some (n, m)) None other id ≡ true
stand_so n m other id node free = let e = node_so n id node in rw (e, free) refl

-- what an arc is that may go
pub record Goes (n m before from to cap : ℕ) : Type 0 where
  pub fewer : before < m
  pub joins : Joins n from to cap

pub go_is : (n m before from to cap : ℕ) → may_go (Some (n, m)) before from to cap ≡ true → Goes n m before from to cap
go_is n m before from to cap h =
    let d = and_true (((ltb before m && is_node_number n from) && is_node_number n to) && not (eqb from to)) (leb cap most_capacity) h in
    let c = and_true ((ltb before m && is_node_number n from) && is_node_number n to) (not (eqb from to)) d.0 in
    let b = and_true (ltb before m && is_node_number n from) (is_node_number n to) c.0 in
    let a = and_true (ltb before m) (is_node_number n from) b.0 in
    record {
      fewer = ltb-true _ _ a.0;
      joins = record { start = node_is n from a.1; end = node_is n to b.1; differ = eqb-false from to (not_true (eqb from to) c.1); small = leb-true _ _ d.1 };
    }

pub go_so : (n m before from to cap : ℕ) → Goes n m before from to cap → may_go (Some (n, m)) before from to cap ≡ true
go_so n m before from to cap g =
    let a : ltb before m ≡ true = lt-ltb _ _ g.fewer in
    let b = node_so n from g.joins.start in
    let c = node_so n to g.joins.end in
    let d : eqb from to ≡ false = differs from to g.joins.differ in
    let e : leb cap most_capacity ≡ true = le-leb _ _ g.joins.small in
    rw (a, b, c, d, e) refl

pub eq_so : (a b : ℕ) → a ≡ b → eqb a b ≡ true
eq_so a b h = grind (arith, nat_tests)
