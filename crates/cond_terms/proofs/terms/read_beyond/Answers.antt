use Rattle.std.proofs.Common.{◌∙◌, refl}
use Rattle.std.proofs.lemmas.Result.{err_from_is_err_and}
use Rattle.cond_syntax.specs.WrittenConditions.{Far}
use Rattle.cond_terms.specs.Machine.{OpenDue, FirstDue, FirstDone, SecondDue, SecondDone, ThirdDue, ThirdDone, term_done}
use Rattle.cond_terms.proofs.reading.SourceLemmas.{part_stops}
use Rattle.cond_terms.proofs.terms.read_beyond.Goals as goal

pub returns-in_err-opening-clause-leads : goal.returns-in_err-opening-clause-leads
returns-in_err-opening-clause-leads c due frames =
    let p = err_from_is_err_and c.from_residual.result c.from_residual.ensures.1 in
    rw (p.1, p.2) (c.in_err-opening.ensures.leads (OpenDue due frames) (FirstDue due frames) refl (λ t. refl))

pub returns-in_err-x-clause-leads : goal.returns-in_err-x-clause-leads
returns-in_err-x-clause-leads c due frames =
    let read1 = c.in_ok-opening.ensures.leads (OpenDue due frames) (FirstDue due frames) refl (λ t. refl) in
    let p = err_from_is_err_and c.from_residual-in_err-x.result c.from_residual-in_err-x.ensures.1 in
    rw (p.1, p.2) (part_stops c.args.source.now c.opening.new.self _ _ c.in_err-x.field-0.0 (read1) (c.in_err-x.ensures.leads (FirstDue due frames) (λ x. FirstDone x due frames) refl (λ t. refl)))

pub returns-in_err-comma-clause-leads : goal.returns-in_err-comma-clause-leads
returns-in_err-comma-clause-leads c due frames =
    let read1 = c.in_ok-opening.ensures.leads (OpenDue due frames) (FirstDue due frames) refl (λ t. refl) in
    let read2 = c.in_ok-x.ensures.leads (FirstDue due frames) (λ x. FirstDone x due frames) refl (λ t. refl) in
    let x = c.in_ok-x.x.now in
    let p = err_from_is_err_and c.from_residual-in_err-comma.result c.from_residual-in_err-comma.ensures.1 in
    rw (p.1, p.2) (part_stops c.args.source.now c.word.new.self _ _ c.in_err-comma.field-0.0 (read1 ∙ read2) (c.in_err-comma.ensures.leads (FirstDone x due frames) (SecondDue x due frames) refl (λ t. refl)))

pub returns-in_err-y-clause-leads : goal.returns-in_err-y-clause-leads
returns-in_err-y-clause-leads c due frames =
    let read1 = c.in_ok-opening.ensures.leads (OpenDue due frames) (FirstDue due frames) refl (λ t. refl) in
    let read2 = c.in_ok-x.ensures.leads (FirstDue due frames) (λ x. FirstDone x due frames) refl (λ t. refl) in
    let x = c.in_ok-x.x.now in
    let read3 = c.in_ok-comma.ensures.leads (FirstDone x due frames) (SecondDue x due frames) refl (λ t. refl) in
    let p = err_from_is_err_and c.from_residual-in_err-y.result c.from_residual-in_err-y.ensures.1 in
    rw (p.1, p.2) (part_stops c.args.source.now c.comma.new.self _ _ c.in_err-y.field-0.0 (read1 ∙ read2 ∙ read3) (c.in_err-y.ensures.leads (SecondDue x due frames) (λ y. SecondDone x y due frames) refl (λ t. refl)))

pub returns-in_err-comma-2-clause-leads : goal.returns-in_err-comma-2-clause-leads
returns-in_err-comma-2-clause-leads c due frames =
    let read1 = c.in_ok-opening.ensures.leads (OpenDue due frames) (FirstDue due frames) refl (λ t. refl) in
    let read2 = c.in_ok-x.ensures.leads (FirstDue due frames) (λ x. FirstDone x due frames) refl (λ t. refl) in
    let x = c.in_ok-x.x.now in
    let read3 = c.in_ok-comma.ensures.leads (FirstDone x due frames) (SecondDue x due frames) refl (λ t. refl) in
    let read4 = c.in_ok-y.ensures.leads (SecondDue x due frames) (λ y. SecondDone x y due frames) refl (λ t. refl) in
    let y = c.in_ok-y.y.now in
    let p = err_from_is_err_and c.from_residual-in_err-comma-2.result c.from_residual-in_err-comma-2.ensures.1 in
    rw (p.1, p.2) (part_stops c.args.source.now c.word-2.new.self _ _ c.in_err-comma-2.field-0.0 (read1 ∙ read2 ∙ read3 ∙ read4) (c.in_err-comma-2.ensures.leads (SecondDone x y due frames) (ThirdDue x y due frames) refl (λ t. refl)))

pub returns-in_err-z-clause-leads : goal.returns-in_err-z-clause-leads
returns-in_err-z-clause-leads c due frames =
    let read1 = c.in_ok-opening.ensures.leads (OpenDue due frames) (FirstDue due frames) refl (λ t. refl) in
    let read2 = c.in_ok-x.ensures.leads (FirstDue due frames) (λ x. FirstDone x due frames) refl (λ t. refl) in
    let x = c.in_ok-x.x.now in
    let read3 = c.in_ok-comma.ensures.leads (FirstDone x due frames) (SecondDue x due frames) refl (λ t. refl) in
    let read4 = c.in_ok-y.ensures.leads (SecondDue x due frames) (λ y. SecondDone x y due frames) refl (λ t. refl) in
    let y = c.in_ok-y.y.now in
    let read5 = c.in_ok-comma-2.ensures.leads (SecondDone x y due frames) (ThirdDue x y due frames) refl (λ t. refl) in
    let p = err_from_is_err_and c.from_residual-in_err-z.result c.from_residual-in_err-z.ensures.1 in
    rw (p.1, p.2) (part_stops c.args.source.now c.comma-2.new.self _ _ c.in_err-z.field-0.0 (read1 ∙ read2 ∙ read3 ∙ read4 ∙ read5) (c.in_err-z.ensures.leads (ThirdDue x y due frames) (λ z. ThirdDone x y z due frames) refl (λ t. refl)))

pub returns-in_err-closing-clause-leads : goal.returns-in_err-closing-clause-leads
returns-in_err-closing-clause-leads c due frames =
    let read1 = c.in_ok-opening.ensures.leads (OpenDue due frames) (FirstDue due frames) refl (λ t. refl) in
    let read2 = c.in_ok-x.ensures.leads (FirstDue due frames) (λ x. FirstDone x due frames) refl (λ t. refl) in
    let x = c.in_ok-x.x.now in
    let read3 = c.in_ok-comma.ensures.leads (FirstDone x due frames) (SecondDue x due frames) refl (λ t. refl) in
    let read4 = c.in_ok-y.ensures.leads (SecondDue x due frames) (λ y. SecondDone x y due frames) refl (λ t. refl) in
    let y = c.in_ok-y.y.now in
    let read5 = c.in_ok-comma-2.ensures.leads (SecondDone x y due frames) (ThirdDue x y due frames) refl (λ t. refl) in
    let read6 = c.in_ok-z.ensures.leads (ThirdDue x y due frames) (λ z. ThirdDone x y z due frames) refl (λ t. refl) in
    let z = c.in_ok-z.z.now in
    let p = err_from_is_err_and c.from_residual-in_err-closing.result c.from_residual-in_err-closing.ensures.1 in
    rw (p.1, p.2) (part_stops c.args.source.now c.word-3.new.self _ _ c.in_err-closing.field-0.0 (read1 ∙ read2 ∙ read3 ∙ read4 ∙ read5 ∙ read6) (c.in_err-closing.ensures.leads (ThirdDone x y z due frames) (term_done (Far x y z) due frames) refl (λ t. refl)))

pub returns-clause-leads : goal.returns-clause-leads
returns-clause-leads c due frames =
    let read1 = c.in_ok-opening.ensures.leads (OpenDue due frames) (FirstDue due frames) refl (λ t. refl) in
    let read2 = c.in_ok-x.ensures.leads (FirstDue due frames) (λ x. FirstDone x due frames) refl (λ t. refl) in
    let x = c.in_ok-x.x.now in
    let read3 = c.in_ok-comma.ensures.leads (FirstDone x due frames) (SecondDue x due frames) refl (λ t. refl) in
    let read4 = c.in_ok-y.ensures.leads (SecondDue x due frames) (λ y. SecondDone x y due frames) refl (λ t. refl) in
    let y = c.in_ok-y.y.now in
    let read5 = c.in_ok-comma-2.ensures.leads (SecondDone x y due frames) (ThirdDue x y due frames) refl (λ t. refl) in
    let read6 = c.in_ok-z.ensures.leads (ThirdDue x y due frames) (λ z. ThirdDone x y z due frames) refl (λ t. refl) in
    let z = c.in_ok-z.z.now in
    let read7 = c.in_ok-closing.ensures.leads (ThirdDone x y z due frames) (term_done (Far x y z) due frames) refl (λ t. refl) in
    read1 ∙ read2 ∙ read3 ∙ read4 ∙ read5 ∙ read6 ∙ read7
