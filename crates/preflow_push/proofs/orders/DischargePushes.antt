-- Ready at the start, and pushed by bodies, are just items of nodes.
use Rattle.std.specs.Prelude.{ℕ, suc, ℤ, pos, Bool, true, false, if◌then◌else◌, Option, Some, None, List, [], ◌∷◌, ◌++◌, FitsSigned, int_le, refl}
use Rattle.std.specs.Int.{w64, int_min, int_wrapping_sub}
use Rattle.std.specs.List.{AllByRecursion}
use Rattle.std.specs.Option.{option_to_list}
use Rattle.std.specs.Ordering.{int_eq}
use Rattle.gx_base.specs.declared.calls.Reply.{Reply}
use Rattle.gx_base.specs.declared.items.Item.{Item}
use Rattle.gx_base.specs.Plans.{Plan, Done}
use Rattle.flow_files.specs.declared.network.Arc.{Arc}
use Rattle.preflow_push.specs.declared.touches.Touch.{Touch}
use Rattle.flow_files.specs.Networks.{Net}
use Rattle.preflow_push.specs.Touching.{touching_from}
use Rattle.preflow_push.specs.Discharge as discharge
use Rattle.preflow_push.specs.Discharge.{Terminals, Onward, node_item, names_node, terminals, residual, is_just_above, is_terminal, lesser, rise, push_unless, unless_spent, along, node_plan, with_excess, discharge_plan}
use Rattle.told_orders.proofs.Lines.{IsOfNumber}
use Rattle.told_orders.proofs.Orders.{PushesOnly}

pub of_node : (u : ℤ) → FitsSigned w64 u → IsOfNumber (node_item u)
of_node u fits = record { is = refl; fits = fits }

abbrev PushesNodes : Plan → Type 0
PushesNodes plan = PushesOnly IsOfNumber plan

abbrev Goes : Onward → Type 0
Goes onward = (e : ℤ) (least : Option ℤ) → PushesNodes (onward e least)

either : (b : Bool) (x y : Plan) → PushesNodes x → PushesNodes y → PushesNodes (if b then x else y)
either true x y p q = p
either false x y p q = q

unless : (b : Bool) (v : ℤ) (rest : Plan) → FitsSigned w64 v → PushesNodes rest → PushesNodes (push_unless b v rest)
unless true v rest fits p = p
unless false v rest fits p = (of_node v fits, p)

rises : (u : ℤ) (least : Option ℤ) → FitsSigned w64 u → PushesNodes (rise u least)
rises u None fits = tt
rises u (Some least) fits = λ reply. (of_node u fits, tt)

-- the other end of an arc has 64 bits
abbrev HasEnd : Touch → Type 0
HasEnd arc = FitsSigned w64 arc.other

after_gains : (ends : Terminals) (u h : ℤ) (arc : Touch) (x e : ℤ) (least : Option ℤ) (onward : Onward) → HasEnd arc → Goes onward → PushesNodes (discharge.after_gains ends u h arc x e least onward)
after_gains ends u h arc x e least onward fits goes =
    let left : ℤ = int_wrapping_sub w64 e x in
    unless (is_terminal ends arc.other) arc.other (unless_spent left least onward) fits (either (int_eq left (pos 0)) Done (onward left least) tt (goes left least))

after_height : (ends : Terminals) (u h : ℤ) (arc : Touch) (r k e : ℤ) (least : Option ℤ) (onward : Onward) → HasEnd arc → Goes onward → PushesNodes (discharge.after_height ends u h arc r k e least onward)
after_height ends u h arc r k e least onward fits goes =
    either (is_just_above h k) (discharge.sending ends u h arc (int_min e r) e least onward) (onward e (Some (lesser least k))) (λ a b c. after_gains ends u h arc (int_min e r) e least onward fits goes)
    (goes e (Some (lesser least k)))

after_flow : (ends : Terminals) (u h : ℤ) (arc : Touch) (f e : ℤ) (least : Option ℤ) (onward : Onward) → HasEnd arc → Goes onward → PushesNodes (discharge.after_flow ends u h arc f e least onward)
after_flow ends u h arc f e least onward fits goes =
    either (int_le (residual arc f) (pos 0)) (onward e least) _ (goes e least) (λ (reply : Reply). after_height ends u h arc (residual arc f) reply.p e least onward fits goes)

goes_along : (ends : Terminals) (u h : ℤ) (arcs : List Touch) → FitsSigned w64 u → AllByRecursion HasEnd arcs → Goes (along ends u h arcs)
goes_along ends u h [] fits all e least = rises u least fits
goes_along ends u h (arc ∷ arcs) fits all e least = λ (reply : Reply). after_flow ends u h arc reply.p e least (along ends u h arcs) all.0 (goes_along ends u h arcs fits all.1)

node_pushes : (ends : Terminals) (u : ℤ) (arcs : List Touch) → FitsSigned w64 u → AllByRecursion HasEnd arcs → PushesNodes (node_plan ends u arcs)
node_pushes ends u arcs fits all =
    λ (first : Reply). either (int_le first.p (pos 0)) Done _ tt (λ (reply : Reply). goes_along ends u reply.p arcs fits all first.p None)

-- ---- the arcs of a node

abbrev pub HasEnds : Arc → Type 0
HasEnds arc = FitsSigned w64 arc.from × FitsSigned w64 arc.to

touch_by : (b c : Bool) (out back : Touch) (rest : List Touch) → HasEnd out → HasEnd back → AllByRecursion HasEnd rest
    → AllByRecursion HasEnd (option_to_list (if b then Some out else if c then Some back else None) ++ rest)
touch_by true c out back rest p q all = (p, all)
touch_by false true out back rest p q all = (q, all)
touch_by false false out back rest p q all = all

touches_fit : (arcs : List Arc) (n : ℕ) (node : ℤ) → AllByRecursion HasEnds arcs → AllByRecursion HasEnd (touching_from n node arcs)
touches_fit [] n node all = tt
touches_fit (arc ∷ arcs) n node all =
    touch_by (int_eq arc.from node) (int_eq arc.to node) (record { number = pos n; other = arc.to; cap = arc.cap; leaves = true }) (record { number = pos n; other = arc.from; cap = arc.cap; leaves = false })
    (touching_from (suc n) node arcs) all.0.1 all.0.0 (touches_fit arcs (suc n) node all.1)

pub discharge_pushes : (net : Net) → AllByRecursion HasEnds net.arcs → (item : Item) → IsOfNumber item → PushesOnly IsOfNumber (discharge_plan net item)
discharge_pushes net ends item is = either (names_node net.nodes item) _ Done (node_pushes (terminals net) item.k0 _ is.fits (touches_fit net.arcs 1 item.k0 ends)) tt
