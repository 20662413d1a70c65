-- Laws of the kind `cells`.
use Rattle.std.specs.Prelude.{◌≡◌, ℕ, ◌+◌, false, if◌then◌else◌, refl}
use Rattle.gx_base.specs.RegisterDeeds.{Reads, Adds, Sets, Nothing, On}
use Rattle.gx_base.specs.ObjectKinds.{is_among}
use Rattle.gx_base.specs.CellsKind.{cells_first, cells_use, cells_kind}
use Rattle.gx_base.proofs.object_kinds.MeaningLaws.{LawsOf, differs}
use Rattle.gx_base.proofs.object_kinds.RegisterLaws.{register_laws}

pub cells_use-foreign : (m : ℕ) → is_among cells_kind.first cells_kind.words m ≡ false → cells_use m ≡ Nothing
cells_use-foreign m h = λ i.
    if differs cells_kind m cells_first refl h i then On 0 Reads else if differs cells_kind m (cells_first + 1) refl h i then On 0 Adds
    else if differs cells_kind m (cells_first + 2) refl h i then On 0 Sets else Nothing

pub cells_laws : LawsOf cells_kind
cells_laws = register_laws cells_first cells_kind.words cells_use cells_use-foreign
