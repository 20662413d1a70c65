use Rattle.std.proofs.Common.{sym, ◌∙◌}
use Rattle.std.proofs.lemmas.Bool.{false≢true}
use Rattle.cond_text.proofs.texts.RowFaults.{unnamed_kind, unwanted_kind, second_kind, first_kind}
use Rattle.cond_text.proofs.tables.reader.Reader.read_type.Goals as goal

pub returns-in_default-clause-fault : goal.returns-in_default-clause-fault
returns-in_default-clause-fault c = λ ts. unnamed_kind _ _ ts _ (sym c.in_default.is ∙ c.kind_named.ensures)

pub returns-then-not-is_wanted-clause-fault : goal.returns-then-not-is_wanted-clause-fault
returns-then-not-is_wanted-clause-fault c =
    λ ts. unwanted_kind _ _ ts _ c.in-Some.kind (sym c.in-Some.is ∙ c.kind_named.ensures) (λ has. false≢true (sym c.if-not-is_wanted.true ∙ c.is_wanted.ensures.1 has))

pub returns-in-Untyped-clause-read : goal.returns-in-Untyped-clause-read
returns-in-Untyped-clause-read c =
    rw (c.in-Untyped.is, c.new.ensures.kind, c.new.ensures.none)
    (λ line. first_kind _ c.in-Some.kind line _ (sym c.in-Some.is ∙ c.kind_named.ensures) (c.is_wanted.ensures.0 c.if-not-is_wanted.false))

pub returns-in-Typed-clause-fault : goal.returns-in-Typed-clause-fault
returns-in-Typed-clause-fault c =
    rw c.in-Typed.is (λ ts. second_kind _ _ c.in-Some.kind _ ts _ (sym c.in-Some.is ∙ c.kind_named.ensures) (c.is_wanted.ensures.0 c.if-not-is_wanted.false))
