-- What the methods of cells do, as the meanings of calls name it.
use Rattle.std.specs.Prelude.{Option, Some, None}
use Rattle.gx_base.specs.RegisterDeeds as meaning
use Rattle.kind_tables.specs.declared.register_rows.Deed.{Deed}
use Rattle.kind_tables.specs.Deeds.{deed_of}

abbrev pub use_from : Option Deed → meaning.Use
use_from None = meaning.Nothing
use_from (Some deed) = meaning.On 0 (deed_of deed)
