-- What the methods of sets do, as the meanings of calls name it.
use Rattle.std.specs.Prelude.{Option, Some, None}
use Rattle.gx_base.specs.SetKind as meaning
use Rattle.shared_sets.specs.declared.set_methods.SetDeed.{SetDeed}
use Rattle.shared_sets.specs.declared.set_methods.SetDeed.TheVariants.{Add, Remove, Contains}

abbrev pub deed_in : SetDeed → meaning.SetDeed
deed_in Add = meaning.Add
deed_in Remove = meaning.Remove
deed_in Contains = meaning.Contains

abbrev pub deed_from : Option SetDeed → meaning.SetDeed
deed_from None = meaning.Nothing
deed_from (Some deed) = deed_in deed
