-- Laws of the kind `flow`.
use Rattle.std.specs.Prelude.{◌≡◌, ℕ, false, if◌then◌else◌, refl}
use Rattle.gx_base.specs.RegisterDeeds.{Reads, Adds, Sets, Nothing, On}
use Rattle.gx_base.specs.ObjectKinds.{is_among}
use Rattle.gx_base.specs.FlowKind.{flow_first, height_method, relabel_method, excess_method, gain_method, flow_method, send_method, height_sort, excess_sort, flow_sort, flow_use, flow_kind}
use Rattle.gx_base.proofs.object_kinds.MeaningLaws.{LawsOf, differs}
use Rattle.gx_base.proofs.object_kinds.RegisterLaws.{register_laws}

pub flow_use-foreign : (m : ℕ) → is_among flow_kind.first flow_kind.words m ≡ false → flow_use m ≡ Nothing
flow_use-foreign m h = λ i.
    if differs flow_kind m height_method refl h i then On height_sort Reads else if differs flow_kind m relabel_method refl h i then On height_sort Sets
    else if differs flow_kind m excess_method refl h i then On excess_sort Reads else if differs flow_kind m gain_method refl h i then On excess_sort Adds
    else if differs flow_kind m flow_method refl h i then On flow_sort Reads else if differs flow_kind m send_method refl h i then On flow_sort Adds else Nothing

pub flow_laws : LawsOf flow_kind
flow_laws = register_laws flow_first flow_kind.words flow_use flow_use-foreign
