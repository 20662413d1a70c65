use Rattle.std.proofs.Common.{◌∙◌}
use Rattle.csv.specs.Records.{fields_of}
use Rattle.point_files.proofs.files.RowFields.{no_first, no_second, just_two, third}
use Rattle.point_files.proofs.coordinates.place.Goals as goal

pub returns-in-None : goal.returns-in-None
returns-in-None c = no_first (fields_of c.args.row.now) c.in-None.ensures.value

pub returns-in-None-get : goal.returns-in-None-get
returns-in-None-get c = no_second (fields_of c.args.row.now) c.in-None-get.ensures.value

pub returns-in-None-get-2 : goal.returns-in-None-get-2
returns-in-None-get-2 c =
    c.both.ensures ∙ just_two (fields_of c.args.row.now) c.in-Some.first.now c.in-Some-get.second.now c.in-Some.ensures.value c.in-Some-get.ensures.value c.in-None-get-2.ensures.value

pub returns-in-Some-get-2 : goal.returns-in-Some-get-2
returns-in-Some-get-2 c = third (fields_of c.args.row.now) c.in-Some-get-2.field-0.now c.in-Some-get-2.ensures.value
