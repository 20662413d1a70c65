use Rattle.std.proofs.Common.{◌≡◌, ◌∙◌, ap, sym, refl, false}
use Rattle.gx_base.specs.declared.kinds.Kind.{Kind}
use Rattle.gx_base.specs.declared.kinds.Kind.TheVariants.{Points}
use Rattle.gx_base.specs.ShippedTables.{rows_shipped}
use Rattle.gx_base.specs.TableRows.{row_of}
use Rattle.gx_base.proofs.CallerLemmas.{row_of-empty}
use Rattle.kd_points.specs.PointsState.{holds_points}
use Rattle.kd_points.specs.PointTables.{point_tables}
use Rattle.kd_points.proofs.point_set.KdPointsSeqType.shipped.Goals as goal

not_held : (kind : Kind) → (kind ≡ Points → ⊥) → holds_points kind ≡ false
not_held Points n = absurd (n refl)
not_held kind n = refl

pub returns-in_default : goal.returns-in_default
returns-in_default c = λ m n.
    ap (λ t. row_of t m n) c.blank.ensures ∙ row_of-empty m n ∙ sym (ap (λ b. rows_shipped b point_tables c.args.choice m n) (not_held c.args.kind c.in_default.not-Points))
