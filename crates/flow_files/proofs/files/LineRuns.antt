-- Reading gives the network exactly where the lines are a flow file of it.
use Rattle.std.proofs.Common.{◌≡◌, ℕ, suc, ◌+◌, ◌<◌, ◌≤◌, ◌⊎◌, Bool, true, false, cond, eqb, leb, List, [], ◌∷◌, ◌++◌, length, Option, Some, None, Ok, refl, sym, ap, subst, ◌∙◌, inl, inr, arith, append_assoc, length-append}
use Rattle.std.specs.Prelude.{pos}
use Rattle.std.specs.List.{AllByRecursion}
use Rattle.std.proofs.lemmas.Bool.{le-leb, leb-true, eqb-true}
use Rattle.std.proofs.lemmas.List.{append-nil}
use Rattle.flow_files.specs.declared.flow_lines.Said.{Said}
use Rattle.flow_files.specs.declared.flow_lines.Said.TheVariants.{Nothing, Problem, Source, Sink, Arc, Wrong}
use Rattle.flow_files.specs.declared.network.Arc as arcs
use Rattle.flow_files.specs.FlowReading.{FileState, at_first, may_be_terminal, may_go, with_line, whole, whole_of, read_to_end, then_read, read_from}
use Rattle.flow_files.specs.Networks.{Net}
use Rattle.flow_files.specs.FlowFiles.{new_arc, spoken, sources, sinks, arcs_of, IsNode, IsOf, IsFlowOf}
use Rattle.flow_files.proofs.files.LineTests.{stand_is, stand_so, go_is, go_so, free_so, eq_so, Stands}

-- ---- the state after some lines

abbrev pub then_after : Option FileState → (FileState → Option FileState) → Option FileState
then_after None go_on = None
then_after (Some s) go_on = go_on s

abbrev pub after : List Said → FileState → Option FileState
after [] s = Some s
after (said ∷ saids) s = then_after (with_line said s) (after saids)

-- a step that was taken
went : (b : Bool) (s t : FileState) (xs : List Said) → then_after (cond b (Some s) None) (after xs) ≡ Some t → (b ≡ true) × (after xs s ≡ Some t)
went true s t xs h = (refl, h)
went false s t xs h = absurd cc

-- ---- reading, by the state after the lines

whole_step : (o : Option FileState) (xs : List Said) (k : ℕ) (t : FileState) (net : Net) → ((u : FileState) → after xs u ≡ Some t → read_from xs (k + 1) u ≡ Ok net) → then_after o (after xs) ≡ Some t → then_read o k (read_from xs (k + 1)) ≡ Ok net
whole_step None xs k t net others h = absurd cc
whole_step (Some u) xs k t net others h = others u h

pub whole_read : (xs : List Said) (k : ℕ) (s t : FileState) (net : Net) → after xs s ≡ Some t → whole t ≡ Some net → read_from xs k s ≡ Ok net
whole_read [] k s t net h w = let e : s ≡ t = cc in ap (λ (u : FileState). read_to_end (whole u) k) e ∙ rw w refl
whole_read (x ∷ xs) k s t net h w = whole_step (with_line x s) xs k t net (λ u g. whole_read xs (k + 1) u t net g w) h

-- the lines lead to a state with the whole network
abbrev pub Reads : Option FileState → Net → Type 0
Reads o net = (t : FileState) × (o ≡ Some t) × (whole t ≡ Some net)

ended_ok : (o : Option Net) (k : ℕ) (net : Net) → read_to_end o k ≡ Ok net → o ≡ Some net
ended_ok None k net h = absurd cc
ended_ok (Some n) k net h = cc

read_step : (o : Option FileState) (xs : List Said) (k : ℕ) (net : Net) → ((u : FileState) → read_from xs (k + 1) u ≡ Ok net → Reads (after xs u) net) → then_read o k (read_from xs (k + 1)) ≡ Ok net → Reads (then_after o (after xs)) net
read_step None xs k net others h = absurd cc
read_step (Some u) xs k net others h = others u h

pub read_is : (xs : List Said) (k : ℕ) (s : FileState) (net : Net) → read_from xs k s ≡ Ok net → Reads (after xs s) net
read_is [] k s net h = (s, refl, ended_ok (whole s) k net h)
read_is (x ∷ xs) k s net h = read_step (with_line x s) xs k net (λ u g. read_is xs (k + 1) u net g) h

-- ---- what lines say that lead somewhere

abbrev pub listed : Option ℕ → List ℕ
listed None = []
listed (Some id) = id ∷ []

abbrev pub st : ℕ → ℕ → Option ℕ → Option ℕ → List arcs.Arc → FileState
st n m a b l = record { problem = Some (n, m); source = a; sink = b; arcs = l }

pub record Good (n m : ℕ) (a b : Option ℕ) (l : List arcs.Arc) : Type 0 where
  pub enough : 2 ≤ n
  pub source : (i : ℕ) → a ≡ Some i → IsNode n i
  pub sink : (j : ℕ) → b ≡ Some j → IsNode n j
  pub differ : (i j : ℕ) → a ≡ Some i → b ≡ Some j → i ≡ j → ⊥
  pub room : length l ≤ m

pub record Ran (n m : ℕ) (a b : Option ℕ) (l : List arcs.Arc) (xs : List Said) (t : FileState) : Type 0 where
  pub source : Option ℕ
  pub sink : Option ℕ
  pub arcs : List arcs.Arc
  pub is : t ≡ st n m source sink arcs
  pub each : AllByRecursion (IsOf n) (spoken xs)
  pub sources_are : listed a ++ sources xs ≡ listed source
  pub sinks_are : listed b ++ sinks xs ≡ listed sink
  pub arcs_are : l ++ arcs_of xs ≡ arcs
  pub good : Good n m source sink arcs

node_along : (n : ℕ) (i j : ℕ) → i ≡ j → IsNode n i → IsNode n j
node_along n i j e h = subst (IsNode n) e h

pub good_source : (n m : ℕ) (a b : Option ℕ) (l : List arcs.Arc) (id : ℕ) → Good n m a b l → Stands n a b id → Good n m (Some id) b l
good_source n m a b l id g s = record {
  enough = g.enough;
  source = λ i e. let same : id ≡ i = cc in node_along n id i same s.node;
  sink = g.sink;
  differ = λ i j e f eq. let same : id ≡ j = cc in s.free j f same;
  room = g.room;
}

pub good_sink : (n m : ℕ) (a b : Option ℕ) (l : List arcs.Arc) (id : ℕ) → Good n m a b l → Stands n b a id → Good n m a (Some id) l
good_sink n m a b l id g s = record {
  enough = g.enough;
  source = g.source;
  sink = λ i e. let same : id ≡ i = cc in node_along n id i same s.node;
  differ = λ i j e f eq. let same : id ≡ i = cc in s.free i e same;
  room = g.room;
}

pub good_arc : (n m : ℕ) (a b : Option ℕ) (l : List arcs.Arc) (x : arcs.Arc) → Good n m a b l → length l < m → Good n m a b (l ++ x ∷ [])
good_arc n m a b l x g lt = record { enough = g.enough; source = g.source; sink = g.sink; differ = g.differ; room = omega (arith, length-append l (x ∷ [])) }

pub runs : (n m : ℕ) (a b : Option ℕ) (l : List arcs.Arc) (xs : List Said) (t : FileState) → Good n m a b l → after xs (st n m a b l) ≡ Some t → Ran n m a b l xs t
runs n m a b l [] t g h = record { source = a; sink = b; arcs = l; is = cc; each = tt; sources_are = append-nil (listed a); sinks_are = append-nil (listed b); arcs_are = append-nil l; good = g }
runs n m a b l (Nothing ∷ xs) t g h =
    let r = runs n m a b l xs t g h in
    record { source = r.source; sink = r.sink; arcs = r.arcs; is = r.is; each = r.each; sources_are = r.sources_are; sinks_are = r.sinks_are; arcs_are = r.arcs_are; good = r.good }
runs n m a b l (Problem p q ∷ xs) t g h = absurd cc
runs n m a b l (Source id ∷ xs) t g h =
    let w = went (may_be_terminal (Some (n, m)) a b id) (st n m (Some id) b l) t xs h in
    let s = stand_is n m a b id w.0 in
    let r = runs n m (Some id) b l xs t (good_source n m a b l id g s) w.1 in
    record { source = r.source; sink = r.sink; arcs = r.arcs; is = r.is; each = (s.node, r.each); sources_are = ap (λ (o : Option ℕ). listed o ++ (id ∷ sources xs)) s.first ∙ r.sources_are; sinks_are = r.sinks_are; arcs_are = r.arcs_are; good = r.good }
runs n m a b l (Sink id ∷ xs) t g h =
    let w = went (may_be_terminal (Some (n, m)) b a id) (st n m a (Some id) l) t xs h in
    let s = stand_is n m b a id w.0 in
    let r = runs n m a (Some id) l xs t (good_sink n m a b l id g s) w.1 in
    record { source = r.source; sink = r.sink; arcs = r.arcs; is = r.is; each = (s.node, r.each); sources_are = r.sources_are; sinks_are = ap (λ (o : Option ℕ). listed o ++ (id ∷ sinks xs)) s.first ∙ r.sinks_are; arcs_are = r.arcs_are; good = r.good }
runs n m a b l (Arc from to c ∷ xs) t g h =
    let w = went (may_go (Some (n, m)) (length l) from to c) (st n m a b (l ++ new_arc from to c ∷ [])) t xs h in
    let s = go_is n m (length l) from to c w.0 in
    let r = runs n m a b (l ++ new_arc from to c ∷ []) xs t (good_arc n m a b l (new_arc from to c) g s.fewer) w.1 in
    record { source = r.source; sink = r.sink; arcs = r.arcs; is = r.is; each = (s.joins, r.each); sources_are = r.sources_are; sinks_are = r.sinks_are; arcs_are = sym (append_assoc l (new_arc from to c ∷ []) (arcs_of xs)) ∙ r.arcs_are; good = r.good }
runs n m a b l (Wrong ∷ xs) t g h = absurd cc

-- lines that lead somewhere from the first: nothing so far, or a problem and what follows it
pub record Begun (xs : List Said) (t : FileState) : Type 0 where
  pub nodes : ℕ
  pub count : ℕ
  pub rest : List Said
  pub problem : spoken xs ≡ Problem nodes count ∷ spoken rest
  pub enough : 2 ≤ nodes
  pub ran : Ran nodes count None None [] rest t

good_first : (n m : ℕ) → 2 ≤ n → Good n m None None []
good_first n m h = record { enough = h; source = λ i e. absurd cc; sink = λ i e. absurd cc; differ = λ i j e f same. cc; room = omega arith }

pub begins : (xs : List Said) (t : FileState) → after xs at_first ≡ Some t → (t ≡ at_first) ⊎ Begun xs t
begins [] t h = inl cc
begins (Nothing ∷ xs) t h = elim (begins xs t h) [
  | inl e ↦ inl e
  | inr b ↦ inr (record { nodes = b.nodes; count = b.count; rest = b.rest; problem = b.problem; enough = b.enough; ran = b.ran })
]
begins (Problem n m ∷ xs) t h =
    let w = went (leb 2 n) (st n m None None []) t xs h in
    let enough = leb-true 2 n w.0 in
    inr (record { nodes = n; count = m; rest = xs; problem = refl; enough = enough; ran = runs n m None None [] xs t (good_first n m enough) w.1 })
begins (Source id ∷ xs) t h = absurd cc
begins (Sink id ∷ xs) t h = absurd cc
begins (Arc from to c ∷ xs) t h = absurd cc
begins (Wrong ∷ xs) t h = absurd cc

-- ---- what is skipped says nothing

sources_spoken : (xs : List Said) → sources (spoken xs) ≡ sources xs
sources_spoken [] = refl
sources_spoken (Nothing ∷ xs) = sources_spoken xs
sources_spoken (Problem p q ∷ xs) = sources_spoken xs
sources_spoken (Source id ∷ xs) = ap (λ (r : List ℕ). id ∷ r) (sources_spoken xs)
sources_spoken (Sink id ∷ xs) = sources_spoken xs
sources_spoken (Arc from to c ∷ xs) = sources_spoken xs
sources_spoken (Wrong ∷ xs) = sources_spoken xs

sinks_spoken : (xs : List Said) → sinks (spoken xs) ≡ sinks xs
sinks_spoken [] = refl
sinks_spoken (Nothing ∷ xs) = sinks_spoken xs
sinks_spoken (Problem p q ∷ xs) = sinks_spoken xs
sinks_spoken (Source id ∷ xs) = sinks_spoken xs
sinks_spoken (Sink id ∷ xs) = ap (λ (r : List ℕ). id ∷ r) (sinks_spoken xs)
sinks_spoken (Arc from to c ∷ xs) = sinks_spoken xs
sinks_spoken (Wrong ∷ xs) = sinks_spoken xs

arcs_spoken : (xs : List Said) → arcs_of (spoken xs) ≡ arcs_of xs
arcs_spoken [] = refl
arcs_spoken (Nothing ∷ xs) = arcs_spoken xs
arcs_spoken (Problem p q ∷ xs) = arcs_spoken xs
arcs_spoken (Source id ∷ xs) = arcs_spoken xs
arcs_spoken (Sink id ∷ xs) = arcs_spoken xs
arcs_spoken (Arc from to c ∷ xs) = ap (λ (r : List arcs.Arc). new_arc from to c ∷ r) (arcs_spoken xs)
arcs_spoken (Wrong ∷ xs) = arcs_spoken xs

-- ---- what is read is a flow file

pub record WholeOf (n m : ℕ) (a b : Option ℕ) (l : List arcs.Arc) (net : Net) : Type 0 where
  pub source : ℕ
  pub sink : ℕ
  pub source_is : a ≡ Some source
  pub sink_is : b ≡ Some sink
  pub count : length l ≡ m
  pub is : net ≡ record { nodes = pos n; source = pos source; sink = pos sink; arcs = l }

counted : (t : Bool) (net made : Net) → cond t (Some made) None ≡ Some net → (t ≡ true) × (net ≡ made)
counted true net made h = (refl, cc)
counted false net made h = absurd cc

whole_is : (n m : ℕ) (a b : Option ℕ) (l : List arcs.Arc) (net : Net) → whole_of (Some (n, m)) a b l ≡ Some net → WholeOf n m a b l net
whole_is n m None b l net h = absurd cc
whole_is n m (Some i) None l net h = absurd cc
whole_is n m (Some i) (Some j) l net h =
    let c = counted (eqb (length l) m) net (record { nodes = pos n; source = pos i; sink = pos j; arcs = l }) h in
    record { source = i; sink = j; source_is = refl; sink_is = refl; count = eqb-true _ _ c.0; is = c.1 }

pub is_flow : (xs : List Said) (net : Net) → Reads (after xs at_first) net → IsFlowOf xs net
is_flow xs net r = elim (begins xs r.0 r.1) [
  | inl e ↦ absurd (let w : whole at_first ≡ Some net = ap whole (sym e) ∙ r.2 in cc)
  | inr b ↦
      let ran = b.ran in
      let w : whole (st b.nodes b.count ran.source ran.sink ran.arcs) ≡ Some net = ap whole (sym ran.is) ∙ r.2 in
      let all = whole_is b.nodes b.count ran.source ran.sink ran.arcs net w in
      let arcs_are : arcs_of (spoken b.rest) ≡ ran.arcs = arcs_spoken b.rest ∙ ran.arcs_are in
      record {
        nodes = b.nodes;
        count = b.count;
        source = all.source;
        sink = all.sink;
        rest = spoken b.rest;
        problem = b.problem;
        enough = b.enough;
        each = ran.each;
        one_source = sources_spoken b.rest ∙ ran.sources_are ∙ ap listed all.source_is;
        one_sink = sinks_spoken b.rest ∙ ran.sinks_are ∙ ap listed all.sink_is;
        differ = ran.good.differ all.source all.sink all.source_is all.sink_is;
        all_arcs = ap length arcs_are ∙ all.count;
        is = all.is ∙ ap (λ (l : List arcs.Arc). record { nodes = pos b.nodes; source = pos all.source; sink = pos all.sink; arcs = l }) (sym arcs_are);
      }
]

-- ---- a flow file is read

arcs_room : (l : List arcs.Arc) (x : arcs.Arc) (more m : ℕ) → length l + suc more ≤ m → length (l ++ x ∷ []) + more ≤ m
arcs_room l x more m h = omega (arith, length-append l (x ∷ []))

-- of two lists with at most one item, the front one has the item or nothing
none_yet : (a z : Option ℕ) (id : ℕ) (ids : List ℕ) → listed a ++ id ∷ ids ≡ listed z → (a ≡ None) × (z ≡ Some id)
none_yet None None id ids h = absurd cc
none_yet None (Some y) id ids h = let e : id ≡ y = cc in (refl, ap (λ (i : ℕ). Some i) (sym e))
none_yet (Some x) None id ids h = absurd cc
none_yet (Some x) (Some y) id ids h = absurd (let e : id ∷ ids ≡ [] = cc in cc)

-- what stands already stands in the end
stays : (a z : Option ℕ) (ids : List ℕ) (x : ℕ) → listed a ++ ids ≡ listed z → a ≡ Some x → z ≡ Some x
stays None z ids x h e = absurd cc
stays (Some y) None ids x h e = absurd cc
stays (Some y) (Some w) ids x h e = cc

abbrev Apart : Option ℕ → Option ℕ → Type 0
Apart a b = (i j : ℕ) → a ≡ Some i → b ≡ Some j → i ≡ j → ⊥

same_listed : (a z : Option ℕ) → listed a ++ [] ≡ listed z → a ≡ z
same_listed None None h = refl
same_listed None (Some y) h = absurd cc
same_listed (Some x) None h = absurd cc
same_listed (Some x) (Some y) h = let e : x ≡ y = cc in ap (λ (i : ℕ). Some i) e

taken : (b : Bool) (s : FileState) (xs : List Said) → b ≡ true → then_after (cond b (Some s) None) (after xs) ≡ after xs s
taken b s xs e = rw e refl

pub leads : (n m : ℕ) (a b y z : Option ℕ) (l : List arcs.Arc) (xs : List Said) → AllByRecursion (IsOf n) (spoken xs) → listed a ++ sources xs ≡ listed y → listed b ++ sinks xs ≡ listed z → Apart y z → length l + length (arcs_of xs) ≤ m
    → after xs (st n m a b l) ≡ Some (st n m y z (l ++ arcs_of xs))
leads n m a b y z l [] each hy hz apart room =
    let ea = same_listed a y hy in let eb = same_listed b z hz in
    let el : l ≡ l ++ [] = sym (append-nil l) in
    rw (ea, eb) (ap (λ (k : List arcs.Arc). Some (st n m y z k)) el)
leads n m a b y z l (Nothing ∷ xs) each hy hz apart room = leads n m a b y z l xs each hy hz apart room
leads n m a b y z l (Problem p q ∷ xs) each hy hz apart room = absurd each.0
leads n m a b y z l (Source id ∷ xs) each hy hz apart room =
    let e = none_yet a y id (sources xs) hy in
    let free = free_so id b (λ j eb same. apart id j e.1 (stays b z (sinks xs) j hz eb) same) in
    let stand : may_be_terminal (Some (n, m)) a b id ≡ true = ap (λ (o : Option ℕ). may_be_terminal (Some (n, m)) o b id) e.0 ∙ stand_so n m b id each.0 free in
    let hy2 : listed (Some id) ++ sources xs ≡ listed y = sym (ap (λ (o : Option ℕ). listed o ++ (id ∷ sources xs)) e.0) ∙ hy in
    taken (may_be_terminal (Some (n, m)) a b id) (st n m (Some id) b l) xs stand ∙ leads n m (Some id) b y z l xs each.1 hy2 hz apart room
leads n m a b y z l (Sink id ∷ xs) each hy hz apart room =
    let e = none_yet b z id (sinks xs) hz in
    let free = free_so id a (λ j ea same. apart j id (stays a y (sources xs) j hy ea) e.1 (sym same)) in
    let stand : may_be_terminal (Some (n, m)) b a id ≡ true = ap (λ (o : Option ℕ). may_be_terminal (Some (n, m)) o a id) e.0 ∙ stand_so n m a id each.0 free in
    let hz2 : listed (Some id) ++ sinks xs ≡ listed z = sym (ap (λ (o : Option ℕ). listed o ++ (id ∷ sinks xs)) e.0) ∙ hz in
    taken (may_be_terminal (Some (n, m)) b a id) (st n m a (Some id) l) xs stand ∙ leads n m a (Some id) y z l xs each.1 hy hz2 apart room
leads n m a b y z l (Arc from to c ∷ xs) each hy hz apart room =
    let go = go_so n m (length l) from to c (record { fewer = omega (arith, room); joins = each.0 }) in
    let more = leads n m a b y z (l ++ new_arc from to c ∷ []) xs each.1 hy hz apart (arcs_room l (new_arc from to c) (length (arcs_of xs)) m room) in
    taken (may_go (Some (n, m)) (length l) from to c) (st n m a b (l ++ new_arc from to c ∷ [])) xs go ∙ more
    ∙ ap (λ (k : List arcs.Arc). Some (st n m y z k)) (append_assoc l (new_arc from to c ∷ []) (arcs_of xs))
leads n m a b y z l (Wrong ∷ xs) each hy hz apart room = absurd each.0

-- up to the problem, and what follows it
pub record Starts (xs : List Said) (n m : ℕ) (rest : List Said) : Type 0 where
  pub others : List Said
  pub spoken_is : spoken others ≡ rest
  pub leads : after xs at_first ≡ after others (st n m None None [])

starts : (xs : List Said) (n m : ℕ) (rest : List Said) → spoken xs ≡ Problem n m ∷ rest → 2 ≤ n → Starts xs n m rest
starts [] n m rest h enough = absurd cc
starts (Nothing ∷ xs) n m rest h enough = let s = starts xs n m rest h enough in record { others = s.others; spoken_is = s.spoken_is; leads = s.leads }
starts (Problem p q ∷ xs) n m rest h enough =
    let ep : p ≡ n = cc in
    let eq : q ≡ m = cc in
    let er : spoken xs ≡ rest = cc in
    let t : leb 2 p ≡ true = le-leb 2 p (rw ep enough) in
    record { others = xs; spoken_is = er; leads = taken (leb 2 p) (st p q None None []) xs t ∙ ap (λ (s : FileState). after xs s) (ap (λ (x : ℕ). st x q None None []) ep ∙ ap (λ (x : ℕ). st n x None None []) eq) }
starts (Source id ∷ xs) n m rest h enough = absurd cc
starts (Sink id ∷ xs) n m rest h enough = absurd cc
starts (Arc from to c ∷ xs) n m rest h enough = absurd cc
starts (Wrong ∷ xs) n m rest h enough = absurd cc

pub flow_read : (xs : List Said) (net : Net) → IsFlowOf xs net → Reads (after xs at_first) net
flow_read xs net f =
    let s = starts xs f.nodes f.count f.rest f.problem f.enough in
    let ys = s.others in
    let so : sources ys ≡ f.source ∷ [] = sym (sources_spoken ys) ∙ ap sources s.spoken_is ∙ f.one_source in
    let si : sinks ys ≡ f.sink ∷ [] = sym (sinks_spoken ys) ∙ ap sinks s.spoken_is ∙ f.one_sink in
    let ar : arcs_of ys ≡ arcs_of f.rest = sym (arcs_spoken ys) ∙ ap arcs_of s.spoken_is in
    let each : AllByRecursion (IsOf f.nodes) (spoken ys) = subst (AllByRecursion (IsOf f.nodes)) (sym s.spoken_is) f.each in
    let count : length (arcs_of ys) ≡ f.count = ap length ar ∙ f.all_arcs in
    let to = leads f.nodes f.count None None (Some f.source) (Some f.sink) [] ys each so si (λ i j e g same. f.differ (cc)) (omega arith) in
    let t = st f.nodes f.count (Some f.source) (Some f.sink) (arcs_of ys) in
    let test : eqb (length (arcs_of ys)) f.count ≡ true = eq_so (length (arcs_of ys)) f.count count in
    let made : whole t ≡ Some (record { nodes = pos f.nodes; source = pos f.source; sink = pos f.sink; arcs = arcs_of ys }) = rw test refl in
    let net_is : record { nodes = pos f.nodes; source = pos f.source; sink = pos f.sink; arcs = arcs_of ys } ≡ net = ap (λ (l : List arcs.Arc). record { nodes = pos f.nodes; source = pos f.source; sink = pos f.sink; arcs = l }) ar ∙ sym f.is in
    (t, s.leads ∙ to, made ∙ ap (λ (x : Net). Some x) net_is)
