-- With the lines before the first faulty one a flow file can begin, and with that one no more.
use Rattle.std.proofs.Common.{◌≡◌, ℕ, zero, suc, ◌+◌, ◌-◌, ◌<◌, ◌≤◌, ◌⊎◌, true, eqb, List, [], ◌∷◌, ◌++◌, length, map, take, drop, Option, Some, None, Ok, Err, refl, sym, ap, subst, ◌∙◌, inl, inr, arith, append_assoc, length-append, codes}
use Rattle.std.specs.Prelude.{pos}
use Rattle.std.proofs.lemmas.Bool.{cases_eq, cases_lt}
use Rattle.std.proofs.lemmas.List.{append-nil, map-append, take-map, length-map, take_all, take-take, take-append-drop}
use Rattle.flow_files.specs.declared.flow_lines.Said.{Said}
use Rattle.flow_files.specs.declared.flow_lines.Said.TheVariants.{Problem, Source, Sink, Arc}
use Rattle.flow_files.specs.declared.network.Arc as arcs
use Rattle.text_lines.specs.Lines.{lines_of}
use Rattle.text_lines.specs.Numbers.{number_of, digits_value_of}
use Rattle.flow_files.specs.FlowLines.{said_by}
use Rattle.flow_files.specs.FlowReading.{FileState, at_first, may_be_terminal, with_line, whole, read_to_end, then_read, read_from, flow_of}
use Rattle.flow_files.specs.Networks.{Net}
use Rattle.flow_files.specs.FlowFiles.{new_arc, AreFlow, CanGoOn, IsFirstBadLine}
use Rattle.flow_files.proofs.files.LineTests.{stand_so, go_so, free_so, eq_so, Stands}
use Rattle.flow_files.proofs.files.LineRuns.{then_after, after, st, Good, good_source, good_sink, good_arc, begins, is_flow, flow_read, read_is, whole_read}

after_append : (xs ys : List Said) (s : FileState) → after (xs ++ ys) s ≡ then_after (after xs s) (after ys)
after_append [] ys s = refl
after_append (x ∷ xs) ys s = over (with_line x s) xs ys (λ u. after_append xs ys u)
  where
    over : (o : Option FileState) (xs ys : List Said) → ((u : FileState) → after (xs ++ ys) u ≡ then_after (after xs u) (after ys)) → then_after o (after (xs ++ ys)) ≡ then_after (then_after o (after xs)) (after ys)
    over None xs ys h = refl
    over (Some u) xs ys h = h u

-- some lines lead from one state to the other
record Reach (s t : FileState) : Type 0 where
  lines : List (List ℕ)
  leads : after (map said_by lines) s ≡ Some t

reach_then : (s t u : FileState) → Reach s t → Reach t u → Reach s u
reach_then s t u p q = record {
  lines = p.lines ++ q.lines;
  leads = ap (λ (xs : List Said). after xs s) (map-append said_by p.lines q.lines) ∙ after_append (map said_by p.lines) (map said_by q.lines) s ∙ ap (λ (o : Option FileState). then_after o (after (map said_by q.lines))) p.leads ∙ q.leads;
}

stay : (s : FileState) → Reach s s
stay s = record { lines = []; leads = refl }

one_line : (line : List ℕ) (said : Said) (s t : FileState) → said_by line ≡ said → with_line said s ≡ Some t → Reach s t
one_line line said s t e h = record { lines = line ∷ []; leads = ap (λ (x : Said). then_after (with_line x s) (after [])) e ∙ ap (λ (o : Option FileState). then_after o (after [])) h }

first_problem : said_by (codes "p max 2 0") ≡ Problem 2 0
unfolding number_of digits_value_of
first_problem = refl

source_1 : said_by (codes "n 1 s") ≡ Source 1
unfolding number_of digits_value_of
source_1 = refl

source_2 : said_by (codes "n 2 s") ≡ Source 2
unfolding number_of digits_value_of
source_2 = refl

sink_1 : said_by (codes "n 1 t") ≡ Sink 1
unfolding number_of digits_value_of
sink_1 = refl

sink_2 : said_by (codes "n 2 t") ≡ Sink 2
unfolding number_of digits_value_of
sink_2 = refl

some_arc : said_by (codes "a 1 2 0") ≡ Arc 1 2 0
unfolding number_of digits_value_of
some_arc = refl

-- a node of two that isn't the other terminal
record Free (n : ℕ) (other : Option ℕ) : Type 0 where
  id : ℕ
  which : (id ≡ 1) ⊎ (id ≡ 2)
  stands : Stands n None other id

free_node : (n : ℕ) (other : Option ℕ) → 2 ≤ n → Free n other
free_node n None h = record { id = 1; which = inl refl; stands = record { first = refl; node = record { from_one = omega arith; within = h1 }; free = λ y e same. absurd cc } }
  where
    h1 : 1 ≤ n
    h1 = omega arith
free_node n (Some y) h = elim (cases_eq y 1) [
  | inl e ↦ record { id = 2; which = inr refl; stands = record { first = refl; node = record { from_one = omega arith; within = h }; free = λ z ez same. let f : y ≡ z = cc in omega (arith, e, f, same) } }
  | inr ne ↦ record { id = 1; which = inl refl; stands = record { first = refl; node = record { from_one = omega arith; within = omega arith }; free = λ z ez same. let f : y ≡ z = cc in ne (f ∙ sym same) } }
]

-- to a state with a source, and to one with a sink
with_source : (n m : ℕ) (a b : Option ℕ) (l : List arcs.Arc) → Good n m a b l → (i : ℕ) × Reach (st n m a b l) (st n m (Some i) b l) × Good n m (Some i) b l
with_source n m (Some i) b l g = (i, stay (st n m (Some i) b l), g)
with_source n m None b l g =
    let f = free_node n b g.enough in
    let t : may_be_terminal (Some (n, m)) None b f.id ≡ true = stand_so n m b f.id f.stands.node (free_so f.id b f.stands.free) in
    let h : with_line (Source f.id) (st n m None b l) ≡ Some (st n m (Some f.id) b l) = rw t refl in (
      f.id,
      elim f.which [
        | inl e ↦ one_line (codes "n 1 s") (Source f.id) (st n m None b l) (st n m (Some f.id) b l) (source_1 ∙ ap (λ (x : ℕ). Source x) (sym e)) h
        | inr e ↦ one_line (codes "n 2 s") (Source f.id) (st n m None b l) (st n m (Some f.id) b l) (source_2 ∙ ap (λ (x : ℕ). Source x) (sym e)) h
      ],
      good_source n m None b l f.id g f.stands,
    )

with_sink : (n m : ℕ) (a b : Option ℕ) (l : List arcs.Arc) → Good n m a b l → (i : ℕ) × Reach (st n m a b l) (st n m a (Some i) l) × Good n m a (Some i) l
with_sink n m a (Some i) l g = (i, stay (st n m a (Some i) l), g)
with_sink n m a None l g =
    let f = free_node n a g.enough in
    let t : may_be_terminal (Some (n, m)) None a f.id ≡ true = stand_so n m a f.id f.stands.node (free_so f.id a f.stands.free) in
    let h : with_line (Sink f.id) (st n m a None l) ≡ Some (st n m a (Some f.id) l) = rw t refl in (
      f.id,
      elim f.which [
        | inl e ↦ one_line (codes "n 1 t") (Sink f.id) (st n m a None l) (st n m a (Some f.id) l) (sink_1 ∙ ap (λ (x : ℕ). Sink x) (sym e)) h
        | inr e ↦ one_line (codes "n 2 t") (Sink f.id) (st n m a None l) (st n m a (Some f.id) l) (sink_2 ∙ ap (λ (x : ℕ). Sink x) (sym e)) h
      ],
      good_sink n m a None l f.id g f.stands,
    )

with_arcs : (k n m : ℕ) (a b : Option ℕ) (l : List arcs.Arc) → length l + k ≡ m → Good n m a b l → (all : List arcs.Arc) × Reach (st n m a b l) (st n m a b all) × (length all ≡ m)
with_arcs zero n m a b l e g = (l, stay (st n m a b l), omega arith)
with_arcs (suc k) n m a b l e g =
    let two : 2 ≤ n = g.enough in
    let fewer : length l < m = omega arith in
    let t = go_so n m (length l) 1 2 0 (record { fewer = fewer; joins = record { start = record { from_one = omega arith; within = omega arith }; end = record { from_one = omega arith; within = two }; differ = λ x. absurd (omega (arith, x)); small = omega arith } }) in
    let l2 = l ++ new_arc 1 2 0 ∷ [] in
    let h : with_line (Arc 1 2 0) (st n m a b l) ≡ Some (st n m a b l2) = rw t refl in
    let rest = with_arcs k n m a b l2 (omega (arith, length-append l (new_arc 1 2 0 ∷ []))) (good_arc n m a b l (new_arc 1 2 0) g fewer) in
    (rest.0, reach_then (st n m a b l) (st n m a b l2) (st n m a b rest.0) (one_line (codes "a 1 2 0") (Arc 1 2 0) (st n m a b l) (st n m a b l2) some_arc h) rest.1, rest.2)

-- from each state that was reached, to a whole network
record Ends (s : FileState) : Type 0 where
  last : FileState
  net : Net
  reach : Reach s last
  is_whole : whole last ≡ Some net

ends_from : (n m : ℕ) (a b : Option ℕ) (l : List arcs.Arc) → Good n m a b l → Ends (st n m a b l)
ends_from n m a b l g =
    let p = with_source n m a b l g in
    let q = with_sink n m (Some p.0) b l p.2 in
    let room : length l + (m - length l) ≡ m = omega (arith, g.room) in
    let r = with_arcs (m - length l) n m (Some p.0) (Some q.0) l room q.2 in
    let last = st n m (Some p.0) (Some q.0) r.0 in
    let test : eqb (length r.0) m ≡ true = eq_so (length r.0) m r.2 in
    record {
      last = last;
      net = record { nodes = pos n; source = pos p.0; sink = pos q.0; arcs = r.0 };
      reach = reach_then (st n m a b l) (st n m (Some p.0) b l) last p.1 (reach_then (st n m (Some p.0) b l) (st n m (Some p.0) (Some q.0) l) last q.1 r.1);
      is_whole = rw test refl;
    }

good_two : Good 2 0 None None []
good_two = record { enough = omega arith; source = λ i e. absurd cc; sink = λ i e. absurd cc; differ = λ i j e f same. cc; room = omega arith }

ends_first : Ends at_first
ends_first =
    let e = ends_from 2 0 None None [] good_two in
    record { last = e.last; net = e.net; reach = reach_then at_first (st 2 0 None None []) e.last (one_line (codes "p max 2 0") (Problem 2 0) at_first (st 2 0 None None []) first_problem refl) e.reach; is_whole = e.is_whole }

ends_at : (xs : List Said) (t : FileState) → after xs at_first ≡ Some t → Ends t
ends_at xs t h = elim (begins xs t h) [
  | inl e ↦ subst Ends (sym e) ends_first
  | inr b ↦ subst Ends (sym b.ran.is) (ends_from b.nodes b.count b.ran.source b.ran.sink b.ran.arcs b.ran.good)
]

pub can_go_on : (lines : List (List ℕ)) (t : FileState) → after (map said_by lines) at_first ≡ Some t → CanGoOn lines
can_go_on lines t h =
    let e = ends_at (map said_by lines) t h in
    let all : after (map said_by (lines ++ e.reach.lines)) at_first ≡ Some e.last =
    ap (λ (xs : List Said). after xs at_first) (map-append said_by lines e.reach.lines) ∙ after_append (map said_by lines) (map said_by e.reach.lines) at_first
    ∙ ap (λ (o : Option FileState). then_after o (after (map said_by e.reach.lines))) h ∙ e.reach.leads in
    (e.reach.lines, e.net, is_flow (map said_by (lines ++ e.reach.lines)) e.net (e.last, all, e.is_whole))

came : (o : Option FileState) (ys : List Said) (t : FileState) → then_after o (after ys) ≡ Some t → o ≡ None → ⊥
came None ys t h e = cc
came (Some s) ys t h e = cc

pub cannot_go_on : (lines : List (List ℕ)) → after (map said_by lines) at_first ≡ None → CanGoOn lines → ⊥
cannot_go_on lines h c =
    let r = flow_read (map said_by (lines ++ c.0)) c.1 c.2 in
    let all : then_after (after (map said_by lines) at_first) (after (map said_by c.0)) ≡ Some r.0 =
    sym (after_append (map said_by lines) (map said_by c.0) at_first) ∙ sym (ap (λ (xs : List Said). after xs at_first) (map-append said_by lines c.0)) ∙ r.1 in
    came (after (map said_by lines) at_first) (map said_by c.0) r.0 all h

-- ---- where reading stops

record Stops (xs : List Said) (s : FileState) (k j : ℕ) : Type 0 where
  n : ℕ
  place : j ≡ k + n
  within : n ≤ length xs
  before : (t : FileState) × (after (take n xs) s ≡ Some t)
  here : n < length xs → after (take (suc n) xs) s ≡ None
  missing : n ≡ length xs → (t : FileState) × (after xs s ≡ Some t) × (whole t ≡ None)

ended_err : (o : Option Net) (k j : ℕ) → read_to_end o k ≡ Err j → (o ≡ None) × (k ≡ j)
ended_err None k j h = (refl, cc)
ended_err (Some net) k j h = absurd cc

stops_step : (o : Option FileState) (x : Said) (xs : List Said) (s : FileState) (k j : ℕ) → with_line x s ≡ o → ((u : FileState) → read_from xs (k + 1) u ≡ Err j → Stops xs u (k + 1) j) → then_read o k (read_from xs (k + 1)) ≡ Err j → Stops (x ∷ xs) s k j
stops_step None x xs s k j e others h =
    let same : k ≡ j = cc in
    record { n = 0; place = omega arith; within = omega arith; before = (s, refl); here = λ lt. ap (λ (o : Option FileState). then_after o (after [])) e; missing = λ z. absurd (omega (arith, z)) }
stops_step (Some u) x xs s k j e others h =
    let r = others u h in
    let go = λ (ys : List Said). ap (λ (o : Option FileState). then_after o (after ys)) e in
    record {
      n = suc r.n;
      place = omega (arith, r.place);
      within = omega (arith, r.within);
      before = (r.before.0, go (take r.n xs) ∙ r.before.1);
      here = λ lt. go (take (suc r.n) xs) ∙ r.here (omega arith);
      missing = λ z. let m = r.missing (omega arith) in (m.0, go xs ∙ m.1, m.2);
    }

stops : (xs : List Said) (k : ℕ) (s : FileState) (j : ℕ) → read_from xs k s ≡ Err j → Stops xs s k j
stops [] k s j h =
    let e = ended_err (whole s) k j h in
    record { n = 0; place = omega (arith, e.1); within = omega arith; before = (s, refl); here = λ lt. absurd (omega (arith, lt)); missing = λ z. (s, refl, e.0) }
stops (x ∷ xs) k s j h = stops_step (with_line x s) x xs s k j refl (λ u g. stops xs (k + 1) u j g) h

-- ---- the laws of the reader's answer

pub read_flow : (bytes : List ℕ) (net : Net) → flow_of bytes ≡ Ok net → AreFlow (lines_of bytes) net
read_flow bytes net h = let xs = map said_by (lines_of bytes) in is_flow xs net (read_is xs 1 at_first net h)

pub flow_is_read : (bytes : List ℕ) (net : Net) → AreFlow (lines_of bytes) net → flow_of bytes ≡ Ok net
flow_is_read bytes net f = let xs = map said_by (lines_of bytes) in let r = flow_read xs net f in whole_read xs 1 at_first r.0 net r.1 r.2

not_whole : (o : Option FileState) (t u : FileState) (net : Net) → o ≡ Some t → whole t ≡ None → o ≡ Some u → whole u ≡ Some net → ⊥
not_whole o t u net a b c d = let e : t ≡ u = cc in let f : whole u ≡ None = sym (ap whole e) ∙ b in cc

pub first_fault : (bytes : List ℕ) (k : ℕ) → flow_of bytes ≡ Err k → IsFirstBadLine (lines_of bytes) k
first_fault bytes k h =
    let lines = lines_of bytes in
    let s = stops (map said_by lines) 1 at_first k h in
    let n = s.n in
    let long : length (map said_by lines) ≡ length lines = length-map lines said_by in
    let one : k - 1 ≡ n = omega (arith, s.place) in
    let next : k ≡ suc n = omega (arith, s.place) in
    let before : after (map said_by (take n lines)) at_first ≡ Some s.before.0 = sym (ap (λ (xs : List Said). after xs at_first) (take-map said_by n lines)) ∙ s.before.1 in
    record {
      from_one = omega (arith, s.place);
      within = omega (arith, s.place, s.within, long);
      before = rw one (can_go_on (take n lines) s.before.0 before);
      here = λ le c. cannot_go_on (take (suc n) lines) (sym (ap (λ (xs : List Said). after xs at_first) (take-map said_by (suc n) lines)) ∙ s.here (omega (arith, le, s.place, long))) (subst (λ (i : ℕ). CanGoOn (take i lines)) next c);
      missing = λ e net f. let m = s.missing (omega (arith, e, s.place, long)) in let r = flow_read (map said_by lines) net f in not_whole (after (map said_by lines) at_first) m.0 r.0 net m.1 m.2 r.1 r.2;
    }

-- ---- at most one answer fits a file

can_earlier : (lines : List (List ℕ)) (i j : ℕ) → i ≤ j → CanGoOn (take j lines) → CanGoOn (take i lines)
can_earlier lines i j le c =
    let front = take j lines in
    let whole : take i front ++ drop i front ≡ front = take-append-drop i front in
    let same : take i front ≡ take i lines = take-take i j lines le in
    let parts : take i lines ++ (drop i front ++ c.0) ≡ front ++ c.0 =
    ap (λ (l : List (List ℕ)). l ++ (drop i front ++ c.0)) (sym same) ∙ sym (append_assoc (take i front) (drop i front) c.0) ∙ ap (λ (l : List (List ℕ)). l ++ c.0) whole in
    (drop i front ++ c.0, c.1, subst (λ (l : List (List ℕ)). AreFlow l c.1) (sym parts) c.2)

not_before : (lines : List (List ℕ)) (a b : ℕ) → IsFirstBadLine lines a → IsFirstBadLine lines b → a < b → ⊥
not_before lines a b p q lt = p.here (omega (arith, q.within)) (can_earlier lines a (b - 1) (omega arith) q.before)

pub one_fault : (lines : List (List ℕ)) (a b : ℕ) → IsFirstBadLine lines a → IsFirstBadLine lines b → a ≡ b
one_fault lines a b p q = elim (cases_lt a b) [
  | inl lt ↦ absurd (not_before lines a b p q lt)
  | inr le ↦ elim (cases_lt b a) [
    | inl lt ↦ absurd (not_before lines b a q p lt)
    | inr ge ↦ omega arith
  ]
]

pub no_fault : (lines : List (List ℕ)) (net : Net) (k : ℕ) → AreFlow lines net → IsFirstBadLine lines k → ⊥
no_fault lines net k f p = elim (cases_lt (length lines) k) [
  | inl lt ↦ p.missing (omega (arith, p.within)) net f
  | inr le ↦
      let all : CanGoOn (take (length lines) lines) = ([], net, subst (λ (l : List (List ℕ)). AreFlow l net) (sym (append-nil (take (length lines) lines) ∙ take_all (length lines) lines (omega arith))) f) in
      p.here le (can_earlier lines k (length lines) le all)
]
