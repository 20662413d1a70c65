use Rattle.std.proofs.Common.{◌≡◌, ◌≤◌, ℤ, false, Option, Some, None, length, is_some, refl, sym, ap, ◌∙◌, arith}
use Rattle.std.proofs.lemmas.Int.{to_z-of_z}
use Rattle.std.proofs.lemmas.Option.{slice_get_past}
use Rattle.std.proofs.lemmas.Map.Entries.{length-values_of}
use Rattle.std.specs.Int.{w64}
use Rattle.indexmap.specs.IndexMap.{values}
use Rattle.preflow_push.specs.TouchLists.{touches_of, items_or_none}
use Rattle.preflow_push.proofs.touches.Touches.list_of.Goals as goal

none_found : {X : Type 0} (found : Option X) → false ≡ is_some found → found ≡ None
none_found None e = refl
none_found (Some x) e = absurd (cc)

pub returns-in-Some : goal.returns-in-Some
returns-in-Some c =
    ap items_or_none c.in-Some.ensures.value ∙ ap (λ (node : ℤ). touches_of c.args.self.now node) (to_z-of_z w64 c.args.node c.ranges.node)

pub returns-in-None : goal.returns-in-None
returns-in-None c =
    let past : length (values c.args.self.now.lists) ≤ c.len.result = omega (arith, length-values_of c.args.self.now.lists.entries) in
    ap items_or_none (slice_get_past (values c.args.self.now.lists) c.len.result past)
    ∙ ap items_or_none (sym (none_found _ c.in-None.ensures.found))
    ∙ ap (λ (node : ℤ). touches_of c.args.self.now node) (to_z-of_z w64 c.args.node c.ranges.node)
