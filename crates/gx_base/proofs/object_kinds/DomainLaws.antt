-- Laws of the kind `domains`.
use Rattle.std.specs.Prelude.{◌≡◌, ℕ, ◌+◌, ℤ, pos, false, if◌then◌else◌, refl}
use Rattle.std.proofs.Common.{◌∙◌, ap}
use Rattle.std.specs.Int.{w64, int_wrapping_add}
use Rattle.gx_base.specs.declared.calls.Call.{Call}
use Rattle.gx_base.specs.States.{State, number_at, HoldsNumbers}
use Rattle.gx_base.specs.Meanings.{IsCall, number_reply}
use Rattle.gx_base.specs.RegisterDeeds.{Deed, Reads, Adds, Sets, On, next_by, reply_by, inverse_by}
use Rattle.gx_base.specs.ObjectKinds.{is_among}
use Rattle.gx_base.specs.DomainKind.{DomainDeed, Weigh, Total, Move, Credit, Sum, Nothing, domain_first, domain_deed, dom, domain_use, aimed, domain_next, domain_kind}
use Rattle.gx_base.proofs.states.Registers.{number_at-other, number_at-fits}
use Rattle.gx_base.proofs.object_kinds.MeaningLaws.{LawsOf, differs}
use Rattle.gx_base.proofs.object_kinds.RegisterLaws.{kind-next_by, state_by, undone_by}

pub domain_deed-foreign : (m : ℕ) → is_among domain_kind.first domain_kind.words m ≡ false → domain_deed m ≡ Nothing
domain_deed-foreign m h = λ i.
    if differs domain_kind m domain_first refl h i then Weigh else if differs domain_kind m (domain_first + 1) refl h i then Total
    else if differs domain_kind m (domain_first + 2) refl h i then Move else if differs domain_kind m (domain_first + 3) refl h i then Credit
    else if differs domain_kind m (domain_first + 4) refl h i then Sum else Nothing

-- the deeds on sums
abbrev pub IsSum : DomainDeed → Type 0
IsSum Move = ⊥
IsSum Nothing = ⊥
IsSum _ = Unit {0}

-- a deed on a sum leaves all domains
dom_by : (deed : Deed) (s : State) (c : Call) (x : ℤ) → dom (next_by (On 1 deed) s c) x ≡ dom s x
dom_by Reads s c x = refl
dom_by Adds s c x = number_at-other s (1, c.a) (0, x) (int_wrapping_add w64 (number_at s (1, c.a)) c.b) refl
dom_by Sets s c x = number_at-other s (1, c.a) (0, x) c.b refl

pub dom_stays : (d : DomainDeed) → IsSum d → (s : State) (c : Call) (x : ℤ) → dom (domain_next d s c) x ≡ dom s x
dom_stays Weigh i s c x = dom_by Adds s (aimed Weigh s c) x
dom_stays Total i s c x = refl
dom_stays Move i s c x = absurd i
dom_stays Credit i s c x = dom_by Adds s c x
dom_stays Sum i s c x = refl
dom_stays Nothing i s c x = absurd i

pub aimed-same : (d : DomainDeed) (s t : State) (c : Call) → dom t c.a ≡ dom s c.a → aimed d t c ≡ aimed d s c
aimed-same Weigh s t c e = ap (λ x. record c { a = x }) e
aimed-same Total s t c e = ap (λ x. record c { a = x }) e
aimed-same Move s t c e = refl
aimed-same Credit s t c e = refl
aimed-same Sum s t c e = refl
aimed-same Nothing s t c e = refl

pub aimed-IsCall : (d : DomainDeed) (s : State) (c : Call) → HoldsNumbers s → IsCall c → IsCall (aimed d s c)
aimed-IsCall Weigh s c h f = (number_at-fits s (0, c.a) h, f.1, f.2, f.3)
aimed-IsCall Total s c h f = (number_at-fits s (0, c.a) h, f.1, f.2, f.3)
aimed-IsCall Move s c h f = f
aimed-IsCall Credit s c h f = f
aimed-IsCall Sum s c h f = f
aimed-IsCall Nothing s c h f = f

pub domain_next-HoldsNumbers : (d : DomainDeed) (s : State) (c : Call) → HoldsNumbers s → IsCall c → HoldsNumbers (domain_next d s c)
domain_next-HoldsNumbers d s c h f = state_by (domain_use d) s (aimed d s c) h (aimed-IsCall d s c h f)

domain_undone : (d : DomainDeed) (s : State) (c : Call) → HoldsNumbers s → IsCall c
    → inverse_by (domain_use d) (domain_next d s c) (aimed d (domain_next d s c) c) (reply_by (domain_use d) s (aimed d s c)) ≡ s
domain_undone Weigh s c h f =
    ap (λ k. inverse_by (On 1 Adds) (domain_next Weigh s c) k (number_reply (pos 0))) (aimed-same Weigh s (domain_next Weigh s c) c (dom_stays Weigh tt s c c.a))
    ∙ undone_by (On 1 Adds) s (aimed Weigh s c) h (aimed-IsCall Weigh s c h f)
domain_undone Total s c h f = refl
domain_undone Move s c h f = undone_by (On 0 Sets) s c h f
domain_undone Credit s c h f = undone_by (On 1 Adds) s c h f
domain_undone Sum s c h f = refl
domain_undone Nothing s c h f = refl

pub domain_laws : LawsOf domain_kind
domain_laws = record {
  keeps_kind = λ s c. kind-next_by (domain_use (domain_deed c.method)) s (aimed (domain_deed c.method) s c);
  keeps_state = λ s c h f. domain_next-HoldsNumbers (domain_deed c.method) s c h f;
  undone = λ s c h f. domain_undone (domain_deed c.method) s c h f;
  foreign = λ s c h.
      let e : domain_deed c.method ≡ Nothing = domain_deed-foreign c.method h in
      record {
        next = ap (λ d. domain_next d s c) e;
        reply = ap (λ d. reply_by (domain_use d) s (aimed d s c)) e;
        undone = λ r. ap (λ d. inverse_by (domain_use d) s (aimed d s c) r) e;
      };
  unseen = λ e s x. absurd (cc);
}
