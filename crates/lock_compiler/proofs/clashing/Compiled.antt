-- Calls clash under the modes of a table of simple rows exactly where their row is false.
use Rattle.std.specs.Prelude.{◌≡◌, ℕ, ◌<◌, ◌==◌, ℤ, Bool, true, false, not, ◌&&◌, Option, Some, None, List, [], ◌∷◌, map, length, Contains, refl}
use Rattle.std.specs.Ordering.{int_eq}
use Rattle.std.proofs.Common.{sym, ap, ◌∙◌, subst, inl, inr, arith, get_or}
use Rattle.std.proofs.lemmas.Bool.{and_parts, and_cases, or_left, or_right, not-false}
use Rattle.std.proofs.lemmas.Bool.Decides.{Decides-int_eq}
use Rattle.std.proofs.lemmas.List.{length-map, get_or-map, get_or_default}
use Rattle.gx_base.specs.declared.calls.Made.{Made}
use Rattle.gx_base.specs.declared.calls.Seen.{Seen}
use Rattle.gx_base.specs.declared.conditions.Side.TheVariants.{First, Second}
use Rattle.gx_base.specs.declared.conditions.Term.{Term}
use Rattle.gx_base.specs.declared.conditions.Term.TheVariants.{Const, Value, Beyond, State}
use Rattle.gx_base.specs.Conditions.{Condition, True, False, Ne, And, holds, is_false, value_of}
use Rattle.gx_base.specs.Methods.{is_method}
use Rattle.gx_base.specs.Tables.{Rows}
use Rattle.cond_lattice.specs.Grades.{are_across, is_conjunction, is_simple, AreSimple}
use Rattle.cond_lattice.specs.Simple.{stands_in}
use Rattle.cond_lattice.proofs.CallerLemmas.{stands_true}
use Rattle.lock_compiler.specs.LockModes.{Member, LockMode, no_mode, members_at, incompatible, locked_value, Clash}
use Rattle.lock_compiler.specs.Compiled.{members_of, members_refuse, single_mode, compiled}
use Rattle.lock_compiler.proofs.containing.Members.{first_in, only_in}
use Rattle.lock_compiler.proofs.collecting.LockedNumbers.{itself, first_locked, second_locked, whole_in, value_in}
use Rattle.lock_compiler.proofs.clashing.Needs.{ClashAt, clash_parts, clash_from}

equal_true : (x y : ℤ) → x ≡ y → int_eq x y ≡ true
equal_true x y e = (Decides-int_eq x y).1 e

equal_is : (x y : ℤ) → int_eq x y ≡ true → x ≡ y
equal_is x y e = (Decides-int_eq x y).0 e

false_by : (b : Bool) → (b ≡ true → ⊥) → b ≡ false
false_by true never = absurd (never refl)
false_by false never = refl

-- a condition with an inequality of equal values is false
stands_false : (i j : ℕ) (c : Condition) (first second : Made) (seen : Seen) → stands_in (Value First i) (Value Second j) c ≡ true → value_of first i ≡ value_of second j
    → holds c first second seen ≡ false
stands_false i j c first second seen s e = false_by (holds c first second seen) (λ t.
    let apart : int_eq (value_of first i) (value_of second j) ≡ false = stands_true (Value First i) (Value Second j) c first second seen s t in
    let never : true ≡ false = sym (equal_true (value_of first i) (value_of second j) e) ∙ apart in
    cc)

-- a conjunction that is false has an inequality of equal values

record Fails (c : Condition) (first second : Made) : Type 0 where
  i : ℕ
  j : ℕ
  stands : stands_in (Value First i) (Value Second j) c ≡ true
  equal : value_of first i ≡ value_of second j

ne_fails : (x y : Term) (first second : Made) (seen : Seen) → are_across x y ≡ true → holds (Ne x y) first second seen ≡ false → Fails (Ne x y) first second
ne_fails (Value First k) (Value Second l) first second seen h e = record {
  i = k;
  j = l;
  stands = or_left ((k == k) && (l == l)) false (itself k l);
  equal = equal_is (value_of first k) (value_of second l) (not-false (int_eq (value_of first k) (value_of second l)) e);
}
ne_fails (Value Second l) (Value First k) first second seen h e = record {
  i = k;
  j = l;
  stands = itself k l;
  equal = sym (equal_is (value_of second l) (value_of first k) (not-false (int_eq (value_of second l) (value_of first k)) e));
}
ne_fails (Value First k) (Value First l) first second seen h e = absurd (cc)
ne_fails (Value Second k) (Value Second l) first second seen h e = absurd (cc)
ne_fails (Value First k) (Const n) first second seen h e = absurd (cc)
ne_fails (Value First k) (Beyond x y z) first second seen h e = absurd (cc)
ne_fails (Value First k) (State s) first second seen h e = absurd (cc)
ne_fails (Value Second k) (Const n) first second seen h e = absurd (cc)
ne_fails (Value Second k) (Beyond x y z) first second seen h e = absurd (cc)
ne_fails (Value Second k) (State s) first second seen h e = absurd (cc)
ne_fails (Const n) y first second seen h e = absurd (cc)
ne_fails (Beyond a b c) y first second seen h e = absurd (cc)
ne_fails (State s) y first second seen h e = absurd (cc)

fails : (c : Condition) (first second : Made) (seen : Seen) → is_conjunction c ≡ true → holds c first second seen ≡ false → Fails c first second
fails (Ne x y) first second seen h e = ne_fails x y first second seen h e
fails (And a b) first second seen h e =
    let p = and_parts (is_conjunction a) (is_conjunction b) h in
    elim (and_cases (holds a first second seen) (holds b first second seen) e) [
      | inl left ↦
          let f : Fails a first second = fails a first second seen p.0 left in
          record { i = f.i; j = f.j; stands = or_left (stands_in (Value First f.i) (Value Second f.j) a) (stands_in (Value First f.i) (Value Second f.j) b) f.stands; equal = f.equal }
      | inr right ↦
          let f : Fails b first second = fails b first second seen p.1 right in
          record { i = f.i; j = f.j; stands = or_right (stands_in (Value First f.i) (Value Second f.j) a) (stands_in (Value First f.i) (Value Second f.j) b) f.stands; equal = f.equal }
    ]
fails _ first second seen h e = absurd (cc)

-- the modes of members, one for each

no_member : Member
no_member = (0, None)

pub single_members : (rows : Rows) (all xs : List Member) (k : ℕ) (d : Member) → k < length xs → members_at (map (single_mode rows all) xs) k ≡ get_or xs k d ∷ []
single_members rows all xs k d h = ap (λ (mode : LockMode). mode.members) (get_or-map (single_mode rows all) xs k d no_mode h)

single_refuses : (rows : Rows) (all : List Member) (h a : ℕ) (d : Member) → h < length all → a < length all
    → incompatible (map (single_mode rows all) all) h a ≡ members_refuse rows (get_or all h d) (get_or all a d)
single_refuses rows all h a d held asked =
    ap (λ (mode : LockMode). get_or mode.refuses a false) (get_or-map (single_mode rows all) all h d no_mode held)
    ∙ get_or-map (members_refuse rows (get_or all h d)) all a d false asked

-- two members that refuse each other at equal values

pub simple_stands : (i j : ℕ) (c : Condition) → is_simple c ≡ true → stands_in (Value First i) (Value Second j) c ≡ true → is_conjunction c ≡ true
simple_stands i j True s e = absurd (cc)
simple_stands i j False s e = absurd (cc)
simple_stands i j _ s e = s

is_false_holds : (c : Condition) (first second : Made) (seen : Seen) → is_false c ≡ true → holds c first second seen ≡ false
is_false_holds False first second seen e = refl
is_false_holds _ first second seen e = absurd (cc)

refused_false : (rows : Rows) (m n : ℕ) (p q : Option ℕ) (first second : Made) (seen : Seen) → members_refuse rows (m, p) (n, q) ≡ true
    → locked_value first p ≡ locked_value second q → holds (rows m n) first second seen ≡ false
refused_false rows m n None None first second seen r e = is_false_holds (rows m n) first second seen r
refused_false rows m n (Some i) (Some j) first second seen r e = stands_false i j (rows m n) first second seen r e
refused_false rows m n None (Some j) first second seen r e = absurd (cc)
refused_false rows m n (Some i) None first second seen r e = absurd (cc)

clash_false : (kind : ℕ) (rows : Rows) (first second : Made) (seen : Seen)
    → ClashAt (compiled kind rows) first second → holds (rows first.call.method second.call.method) first second seen ≡ false
clash_false kind rows first second seen c =
    let all : List Member = members_of kind rows in
    let held_below : c.held < length (members_of kind rows) = omega (arith, length-map (members_of kind rows) (single_mode rows (members_of kind rows)), c.held_below) in
    let asked_below : c.asked < length (members_of kind rows) = omega (arith, length-map (members_of kind rows) (single_mode rows (members_of kind rows)), c.asked_below) in
    let held : get_or (members_of kind rows) c.held no_member ≡ (first.call.method, c.held_place) =
    only_in (get_or (members_of kind rows) c.held no_member) (first.call.method, c.held_place)
    (subst (λ (ms : List Member). Contains ms (first.call.method, c.held_place)) (single_members rows (members_of kind rows) (members_of kind rows) c.held no_member held_below) c.held_member) in
    let asked : get_or (members_of kind rows) c.asked no_member ≡ (second.call.method, c.asked_place) =
    only_in (get_or (members_of kind rows) c.asked no_member) (second.call.method, c.asked_place)
    (subst (λ (ms : List Member). Contains ms (second.call.method, c.asked_place)) (single_members rows (members_of kind rows) (members_of kind rows) c.asked no_member asked_below) c.asked_member) in
    let refused : members_refuse rows (first.call.method, c.held_place) (second.call.method, c.asked_place) ≡ true =
    (λ k. members_refuse rows (sym held k) (sym asked k)) ∙ sym (single_refuses rows (members_of kind rows) c.held c.asked no_member held_below asked_below) ∙ c.refused in
    refused_false rows first.call.method second.call.method c.held_place c.asked_place first second seen refused c.equal_values

-- members that are locked clash
members_clash : (kind : ℕ) (rows : Rows) (first second : Made) (p q : Option ℕ) → Contains (members_of kind rows) (first.call.method, p) → Contains (members_of kind rows) (second.call.method, q)
    → locked_value first p ≡ locked_value second q → members_refuse rows (first.call.method, p) (second.call.method, q) ≡ true → ClashAt (compiled kind rows) first second
members_clash kind rows first second p q (h, held_below, held) (a, asked_below, asked) equal refused = record {
  held = h;
  asked = a;
  held_place = p;
  asked_place = q;
  held_below = omega (arith, length-map (members_of kind rows) (single_mode rows (members_of kind rows)));
  asked_below = omega (arith, length-map (members_of kind rows) (single_mode rows (members_of kind rows)));
  held_member = subst (λ (ms : List Member). Contains ms (first.call.method, p)) (sym (single_members rows (members_of kind rows) (members_of kind rows) h (first.call.method, p) held_below ∙ ap (λ (m : Member). m ∷ []) held)) (first_in (first.call.method, p) []);
  asked_member = subst (λ (ms : List Member). Contains ms (second.call.method, q)) (sym (single_members rows (members_of kind rows) (members_of kind rows) a (second.call.method, q) asked_below ∙ ap (λ (m : Member). m ∷ []) asked)) (first_in (second.call.method, q) []);
  equal_values = equal;
  refused = single_refuses rows (members_of kind rows) h a no_member held_below asked_below
      ∙ (λ k. members_refuse rows (there h (first.call.method, p) held_below held k) (there a (second.call.method, q) asked_below asked k)) ∙ refused;
}
  where
    there : (k : ℕ) (m : Member) → k < length (members_of kind rows) → get_or (members_of kind rows) k m ≡ m → get_or (members_of kind rows) k no_member ≡ m
    there k m within e = get_or_default (members_of kind rows) k no_member m within ∙ e

clash_by : (kind : ℕ) (rows : Rows) (first second : Made) (seen : Seen) (c : Condition) → rows first.call.method second.call.method ≡ c → is_simple c ≡ true
    → is_method kind first.call.method ≡ true → is_method kind second.call.method ≡ true → holds c first second seen ≡ false → ClashAt (compiled kind rows) first second
clash_by kind rows first second seen True r s m n e = absurd (cc)
clash_by kind rows first second seen False r s m n e =
    members_clash kind rows first second None None (whole_in kind rows first.call.method m) (whole_in kind rows second.call.method n) refl (ap is_false r)
clash_by kind rows first second seen c r s m n e =
    let f : Fails c first second = fails c first second seen s e in
    let conjunction : is_conjunction (rows first.call.method second.call.method) ≡ true = ap is_conjunction r ∙ s in
    let stands : stands_in (Value First f.i) (Value Second f.j) (rows first.call.method second.call.method) ≡ true = ap (stands_in (Value First f.i) (Value Second f.j)) r ∙ f.stands in
    members_clash kind rows first second (Some f.i) (Some f.j)
    (value_in kind rows first.call.method f.i m (first_locked kind rows first.call.method second.call.method f.i f.j n conjunction stands))
    (value_in kind rows second.call.method f.j n (second_locked kind rows first.call.method second.call.method f.i f.j m conjunction stands))
    f.equal stands

pub compiled_clash : (kind : ℕ) (rows : Rows) (first second : Made) (seen : Seen) → AreSimple kind rows → is_method kind first.call.method ≡ true → is_method kind second.call.method ≡ true
    → (Clash (compiled kind rows) first second → holds (rows first.call.method second.call.method) first second seen ≡ false)
    × (holds (rows first.call.method second.call.method) first second seen ≡ false → Clash (compiled kind rows) first second)
compiled_clash kind rows first second seen simple m n = (
  λ c. clash_false kind rows first second seen (clash_parts (compiled kind rows) first second c),
  λ e. clash_from (compiled kind rows) first second (clash_by kind rows first second seen (rows first.call.method second.call.method) refl (simple first.call.method second.call.method m n) m n e),
)
