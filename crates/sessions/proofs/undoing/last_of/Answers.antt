use Rattle.std.proofs.Common.{◌≡◌, ℕ, ◌-◌, suc, List, [], ◌∷◌, length, Some, get_or, ap, ◌∙◌, arith}
use Rattle.gx_base.specs.declared.acts.Step.{Step}
use Rattle.speculation.specs.Sessions.{last_step}
use Rattle.sessions.proofs.undoing.last_of.Goals as goal

-- the last of some steps stands at the last place
last_at : (log : List Step) (d : Step) (n : ℕ) → length log ≡ suc n → Some (get_or log n d) ≡ last_step log
last_at [] d n e = absurd (omega arith)
last_at (x ∷ []) d n e = let z : n ≡ 0 = omega arith in ap (λ k. Some (get_or (x ∷ []) k d)) z
last_at (x ∷ y ∷ ys) d n e =
    let z : n ≡ suc (n - 1) = omega arith in
    ap (λ k. Some (get_or (x ∷ y ∷ ys) k d)) z ∙ last_at (y ∷ ys) d (n - 1) (omega arith)

pub returns : goal.returns
returns c = last_at c.args.log.now _ (length c.args.log.now - 1) (omega arith)
