use Rattle.std.proofs.Common.{◌≡◌, ◌&&◌, refl, sym, arith}
use Rattle.gx_base.specs.Kinds.{kind_number}
use Rattle.cond_terms.specs.CodeTokens.{token_seen}
use Rattle.cond_terms.specs.TokenSteps.{knows}
use Rattle.cond_terms.proofs.reading.SourceLemmas.{IsLater-after, IsRead-after, tokens_ahead-end, is_cut-end, tokens_ahead-cut, is_cut-cut}
use Rattle.cond_terms.proofs.sources.Source.next.Goals as goal
use Rattle.cond_terms.proofs.sources.Source.next.Goals.{then-knows, else-knows}

pub returns-in_default-clause-next : goal.returns-in_default-clause-next
returns-in_default-clause-next c =
    let none = c.in_default.ensures.tokens in
    let ahead = tokens_ahead-end c.args.self.now none in
    (is_cut-end c.args.self.now none, ahead, ahead)

pub returns-in_default-opened_after-clause-next : goal.returns-in_default-opened_after-clause-next
returns-in_default-opened_after-clause-next c =
    let none = sym c.in_default-opened_after.ensures.next in
    let tokens = c.in-Some.ensures.tokens in
    let ahead = tokens_ahead-cut c.args.self.now _ _ tokens none in
    (is_cut-cut c.args.self.now _ _ tokens none, ahead, ahead)

pub returns-clause-later : goal.returns-clause-later
returns-clause-later c =
    let before = c.args.self.now in
    let known : c.if-knows.self ≡ knows (kind_number before.kind) before.inside (token_seen c.in-Some.token) && before.all_known =
    elim c.if-knows.branch [ then-knows w ↦ grind arith | else-knows w ↦ grind arith ] in
    IsLater-after _ _ (token_seen c.in-Some.token)
    record {
      token = c.in-Some.ensures.tokens;
      opened = sym c.in-Some-opened_after.ensures.next;
      kind = refl;
      inside = c.inside_after-self.ensures;
      all_known = known;
    }
    c.in-Some.ensures.shorter

pub returns-clause-next : goal.returns-clause-next
returns-clause-next c =
    let before = c.args.self.now in
    let known : c.if-knows.self ≡ knows (kind_number before.kind) before.inside (token_seen c.in-Some.token) && before.all_known =
    elim c.if-knows.branch [ then-knows w ↦ grind arith | else-knows w ↦ grind arith ] in
    IsRead-after _ _ (token_seen c.in-Some.token)
    record {
      token = c.in-Some.ensures.tokens;
      opened = sym c.in-Some-opened_after.ensures.next;
      kind = refl;
      inside = c.inside_after-self.ensures;
      all_known = known;
    }
    c.in-Some.ensures.shorter
