-- A walk over the methods of a kind, one step on, and what is collected on it.
use Rattle.std.specs.Prelude.{◌≡◌, ℕ, ◌+◌, Some, None, List, ◌∷◌, ◌++◌, map, drop}
use Rattle.std.specs.List.{flat_map}
use Rattle.std.proofs.Common.{sym, ap, ◌∙◌, append_assoc}
use Rattle.std.proofs.lemmas.List.{append-nil}
use Rattle.gx_base.specs.declared.conditions.Side.TheVariants.{First, Second}
use Rattle.gx_base.specs.Conditions.{Condition}
use Rattle.gx_base.specs.Methods.{methods_of, method_at}
use Rattle.gx_base.specs.Tables.{Rows}
use Rattle.gx_base.proofs.CallerLemmas.{methods_from, methods_end}
use Rattle.lock_compiler.specs.LockModes.{Member}
use Rattle.lock_compiler.specs.Compiled.{with_condition, with_methods, locked_numbers, method_members}

pub next_other : (kind : ℕ) (rows : Rows) (method place other : ℕ) (c d : Condition) (old middle new all : List ℕ) → method_at kind place ≡ Some other → c ≡ rows method other → middle ≡ with_condition First c old
    → d ≡ rows other method → new ≡ with_condition Second d middle → with_methods rows method (drop place (methods_of kind)) old ≡ all → with_methods rows method (drop (place + 1) (methods_of kind)) new ≡ all
next_other kind rows method place other c d old middle new all here row_first by_first row_second by_second before =
    ap (with_methods rows method (drop (place + 1) (methods_of kind)))
    (by_second ∙ (λ k. with_condition Second (row_second k) ((by_first ∙ ap (λ r. with_condition First r old) row_first) k)))
    ∙ ap (λ others. with_methods rows method others old) (sym (methods_from kind place other here)) ∙ before

pub no_other_left : (kind : ℕ) (rows : Rows) (method place : ℕ) (old all : List ℕ) → method_at kind place ≡ None → with_methods rows method (drop place (methods_of kind)) old ≡ all → old ≡ all
no_other_left kind rows method place old all end before = ap (λ others. with_methods rows method others old) (sym (methods_end kind place end)) ∙ before

pub next_members : (kind : ℕ) (rows : Rows) (place method : ℕ) (numbers : List ℕ) (old new all : List Member) → method_at kind place ≡ Some method → numbers ≡ locked_numbers kind rows method
    → new ≡ old ++ (method, None) ∷ map (λ n. (method, Some n)) numbers → old ++ flat_map (method_members kind rows) (drop place (methods_of kind)) ≡ all
    → new ++ flat_map (method_members kind rows) (drop (place + 1) (methods_of kind)) ≡ all
next_members kind rows place method numbers old new all here found more before =
    ap (λ ms. ms ++ flat_map (method_members kind rows) (drop (place + 1) (methods_of kind))) (more ∙ ap (λ (ns : List ℕ). old ++ (method, None) ∷ map (λ n. (method, Some n)) ns) found)
    ∙ append_assoc old (method_members kind rows method) (flat_map (method_members kind rows) (drop (place + 1) (methods_of kind)))
    ∙ ap (λ methods. old ++ flat_map (method_members kind rows) methods) (sym (methods_from kind place method here)) ∙ before

pub no_members_left : (kind : ℕ) (rows : Rows) (place : ℕ) (old all : List Member) → method_at kind place ≡ None → old ++ flat_map (method_members kind rows) (drop place (methods_of kind)) ≡ all → old ≡ all
no_members_left kind rows place old all end before =
    sym (append-nil old) ∙ ap (λ methods. old ++ flat_map (method_members kind rows) methods) (sym (methods_end kind place end)) ∙ before
