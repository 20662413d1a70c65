-- Domain books: the domain of each element, and the sum of each domain.
use Rattle.std.specs.Prelude.{ℕ, ◌+◌, ℤ, true, ◌==◌, if◌then◌else◌, [], ◌∷◌, codes}
use Rattle.gx_base.specs.declared.calls.Call.{Call}
use Rattle.gx_base.specs.States.{State, number_at, HoldsNumbers}
use Rattle.gx_base.specs.Meanings.{Meaning}
use Rattle.gx_base.specs.ObjectKinds.{ObjectKind}
use Rattle.gx_base.specs.RegisterDeeds.{Use, Nothing as NoUse, On, Reads, Adds, Sets, next_by, reply_by, inverse_by}

-- the number of the first method of domain books
abbrev pub domain_first : ℕ
domain_first = 48

-- the methods of domain books
pub data DomainDeed : Type 0 where
  Weigh : DomainDeed
  Total : DomainDeed
  Move : DomainDeed
  Credit : DomainDeed
  Sum : DomainDeed
  Nothing : DomainDeed

-- the method of a number
abbrev pub domain_deed : ℕ → DomainDeed
domain_deed method =
    if method == domain_first then Weigh
    else if method == domain_first + 1 then Total
    else if method == domain_first + 2 then Move
    else if method == domain_first + 3 then Credit
    else if method == domain_first + 4 then Sum
    else Nothing

-- the domain of an element
abbrev pub dom : State → ℤ → ℤ
dom s x = number_at s (0, x)

-- domains stand in the rows of sort 0, sums in those of sort 1
abbrev pub domain_use : DomainDeed → Use
domain_use Weigh = On 1 Adds
domain_use Total = On 1 Reads
domain_use Move = On 0 Sets
domain_use Credit = On 1 Adds
domain_use Sum = On 1 Reads
domain_use Nothing = NoUse

-- the call with the number of the row that it uses
abbrev pub aimed : DomainDeed → State → Call → Call
aimed Weigh s c = record c { a = dom s c.a }
aimed Total s c = record c { a = dom s c.a }
aimed _ s c = c

-- the state after a call
abbrev pub domain_next : DomainDeed → State → Call → State
domain_next d s c = next_by (domain_use d) s (aimed d s c)

-- the meaning of domain books. The state function is the domain of an element
abbrev pub domain_meaning : Meaning
domain_meaning = record {
  next = λ s c. domain_next (domain_deed c.method) s c;
  reply = λ s c. reply_by (domain_use (domain_deed c.method)) s (aimed (domain_deed c.method) s c);
  inverse = λ s c r. inverse_by (domain_use (domain_deed c.method)) s (aimed (domain_deed c.method) s c) r;
  observed = dom;
}

-- the kind of domain books
abbrev pub domain_kind : ObjectKind
domain_kind = record {
  word = codes "domains";
  first = domain_first;
  words = codes "weigh" ∷ codes "total" ∷ codes "move" ∷ codes "credit" ∷ codes "sum" ∷ [];
  meaning = domain_meaning;
  may_hold = HoldsNumbers;
  has_state_function = true;
}
