-- What a method does with a number, as the meanings of calls name it.
use Rattle.gx_base.specs.RegisterDeeds as meaning
use Rattle.kind_tables.specs.declared.register_rows.Deed.{Deed}
use Rattle.kind_tables.specs.declared.register_rows.Deed.TheVariants.{Reads, Adds, Sets}

abbrev pub deed_of : Deed → meaning.Deed
deed_of Reads = meaning.Reads
deed_of Adds = meaning.Adds
deed_of Sets = meaning.Sets
