use Rattle.std.proofs.Common.{◌≡◌, ◌∙◌, ap, sym, refl, false}
use Rattle.gx_base.specs.declared.kinds.Kind.{Kind}
use Rattle.gx_base.specs.declared.kinds.Kind.TheVariants.{Set}
use Rattle.gx_base.specs.ShippedTables.{rows_shipped}
use Rattle.gx_base.specs.TableRows.{row_of}
use Rattle.gx_base.proofs.CallerLemmas.{row_of-empty}
use Rattle.shared_sets.specs.SetState.{holds_sets}
use Rattle.shared_sets.specs.SetTables.{set_tables}
use Rattle.shared_sets.proofs.marked_set.SharedSetSeqType.shipped.Goals as goal

not_held : (kind : Kind) → (kind ≡ Set → ⊥) → holds_sets kind ≡ false
not_held Set n = absurd (n refl)
not_held kind n = refl

pub returns-in_default : goal.returns-in_default
returns-in_default c = λ m n.
    ap (λ t. row_of t m n) c.blank.ensures ∙ row_of-empty m n ∙ sym (ap (λ b. rows_shipped b set_tables c.args.choice m n) (not_held c.args.kind c.in_default.not-Set))
