use Rattle.std.proofs.Common.{rules, ap, sym, ◌∙◌, subst, ◌≡◌}
use Rattle.std.specs.FinMap as map
use Rattle.indexmap.proofs.CallerLemmas.{filter-RetainsPairs}
use Rattle.number_rows.specs.Entries.{FitAll, dead_in}
use Rattle.number_rows.specs.NumbersAsRows.{number_in}
use Rattle.number_rows.proofs.entries.DeadRows.{live_entries, number_in-live, FitAll-live, dead_in-live}
use Rattle.number_rows.proofs.rows.NumberRows.drop_dead_rows.Goals as goal

pub returns-clause-numbers : goal.returns-clause-numbers
returns-clause-numbers c = λ key.
    let e : c.shrink_to_fit.new.self.entries ≡ live_entries c.args.self.now.numbers.entries = c.shrink_to_fit.ensures.entries ∙ filter-RetainsPairs _ _ _ (λ k v b w g call. search rules) _ _ c.retain.ensures.filtered in
    ap (λ es. number_in (map.from_entries es) key) e ∙ number_in-live c.args.self.now.numbers.entries c.requires key

pub invariant_of-self : goal.invariant_of-self
invariant_of-self c =
    let e : c.shrink_to_fit.new.self.entries ≡ live_entries c.args.self.now.numbers.entries = c.shrink_to_fit.ensures.entries ∙ filter-RetainsPairs _ _ _ (λ k v b w g call. search rules) _ _ c.retain.ensures.filtered in
    record {
      fit = subst FitAll (sym e) (FitAll-live c.args.self.now.numbers.entries c.requires c.args.self.now.fit);
      counted = sym (ap dead_in e ∙ dead_in-live c.args.self.now.numbers.entries);
    }
