use Rattle.std.proofs.Common.{◌≡◌, Bool, true, false, subst, sym, ◌∙◌, refl, IsTrue}
use Rattle.std.proofs.lemmas.Bool.{and_parts}
use Rattle.std.specs.Prelude.{not}
use Rattle.gx_base.specs.declared.calls.Made.{Made}
use Rattle.gx_base.specs.declared.calls.Seen.{Seen}
use Rattle.gx_base.specs.Conditions.{holds}
use Rattle.gx_base.specs.Methods.{is_method}
use Rattle.gx_base.specs.TableRows.{row_of}
use Rattle.lock_compiler.specs.LockModes.{LockModes, Clash}
use Rattle.lock_compiler.proofs.CallerLemmas.{reduced_compiled_clash}
use Rattle.abstract_locks.specs.LockScreens.{Locks, AreModesOf}
use Rattle.abstract_locks.proofs.locks.LockScreen.exclude.Goals as goal

-- an answer that is true exactly where another isn't
negated : (r h : Bool) → (IsTrue r → h ≡ false) → (h ≡ false → IsTrue r) → r ≡ not h
negated true true p q = absurd (let e : true ≡ false = p refl in cc)
negated true false p q = refl
negated false true p q = refl
negated false false p q = absurd (let e : false ≡ true = q refl in cc)

-- calls of the kind clash under the screen's modes exactly where their row is false
excluded : (locks : Locks) (modes : LockModes) → AreModesOf locks modes → (held asked : Made) (seen : Seen) (r : Bool) → is_method locks.kind held.call.method ≡ true → is_method locks.kind asked.call.method ≡ true
    → (IsTrue r → Clash modes held asked) × (Clash modes held asked → IsTrue r) → r ≡ not (holds (row_of locks.table held.call.method asked.call.method) held asked seen)
excluded locks modes are held asked seen r m n decides =
    let law = reduced_compiled_clash locks.kind (row_of locks.table) held asked seen are.simple m n in
    negated r (holds (row_of locks.table held.call.method asked.call.method) held asked seen)
    (λ yes. law.0 (subst (λ (ms : LockModes). Clash ms held asked) are.compiled (decides.0 yes)))
    (λ no. decides.1 (subst (λ (ms : LockModes). Clash ms held asked) (sym are.compiled) (law.1 no)))

pub returns-else-not-are_methods_of : goal.returns-else-not-are_methods_of
returns-else-not-are_methods_of c = λ seen.
    let methods = and_parts _ _ (sym c.are_methods_of.ensures ∙ c.if-not-are_methods_of.false) in
    excluded c.args.self.now c.self.inside.modes
    (subst (λ (locks : Locks). AreModesOf locks c.self.inside.modes) c.self.view_is c.self.invariant) c.args.held.now c.args.asked.now seen c.calls_clash.result
    (subst (λ (locks : Locks). is_method locks.kind c.args.held.now.call.method ≡ true) c.self.view_is methods.0)
    (subst (λ (locks : Locks). is_method locks.kind c.args.asked.now.call.method ≡ true) c.self.view_is methods.1)
    c.calls_clash.ensures
