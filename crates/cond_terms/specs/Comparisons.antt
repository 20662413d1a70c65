-- Comparisons as they are written.
use Rattle.std.specs.Prelude.{Option, Some, None, List}
use Rattle.cond_syntax.specs.Tokens as plain
use Rattle.cond_syntax.specs.WrittenConditions.{WrittenTerm, Fixed, Named, Far, IsEqual, IsOther, IsLess, IsAtMost, WrittenCondition, Compare}
use Rattle.cond_syntax.specs.WrittenConditions as written
use Rattle.cond_terms.specs.Machine.{Frame, Due, ReadingState, OpenDue, term_done}
use Rattle.cond_terms.specs.declared.terms.Spelled.{Spelled}
use Rattle.cond_terms.specs.declared.terms.Spelled.TheVariants.{Number, Word, Beyond}
use Rattle.cond_terms.specs.declared.terms.Relation.{Relation}
use Rattle.cond_terms.specs.declared.terms.Relation.TheVariants.{Equal, Differ, Less, AtMost}
use Rattle.cond_terms.specs.declared.terms.Comparison.{Comparison}

abbrev pub term_spelled : Spelled → WrittenTerm
term_spelled (Number number) = Fixed number
term_spelled (Word word) = Named word.now
term_spelled (Beyond x y z) = Far x.now y.now z.now

abbrev pub relation_spelled : Relation → written.Comparison
relation_spelled Equal = IsEqual
relation_spelled Differ = IsOther
relation_spelled Less = IsLess
relation_spelled AtMost = IsAtMost

abbrev pub comparison_spelled : Comparison → WrittenCondition
comparison_spelled c = Compare (relation_spelled c.relation) (term_spelled c.left) (term_spelled c.right)

-- the state after the token that begins a term
abbrev pub term_begun : Due → List Frame → plain.Token → Option ReadingState
term_begun due frames (plain.Number number) = Some (term_done (Fixed number) due frames)
term_begun due frames (plain.Word word) = Some (term_done (Named word) due frames)
term_begun due frames plain.BeyondKey = Some (OpenDue due frames)
term_begun due frames _ = None
