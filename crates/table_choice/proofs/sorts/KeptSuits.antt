-- A screen of locks suits the same tables as before, where its locks do.
use Rattle.std.proofs.Common.{◌≡◌, ℕ, sym, subst}
use Rattle.std.specs.Global.{Box}
use Rattle.gx_base.specs.TableRows.{RowMap}
use Rattle.abstract_locks.specs.LockScreens.{Locks, Serves}
use Rattle.table_choice.specs.declared.screens.AnyScreen.{AnyScreen}
use Rattle.table_choice.specs.declared.screens.AnyScreen.TheVariants.{Lock}
use Rattle.table_choice.specs.AnyScreens.{Suits}

pub kept : (screen : AnyScreen) (boxed : Box Locks) (before after : Locks) → screen ≡ Lock boxed → before ≡ boxed.value → ((kind : ℕ) (table : RowMap) → (Serves before kind table → Serves after kind table) × (Serves after kind table → Serves before kind table))
    → (kind : ℕ) (table : RowMap) → (Suits screen kind table → Serves after kind table) × (Serves after kind table → Suits screen kind table)
kept screen boxed before after is e same kind table =
    subst (λ (s : AnyScreen). (Suits s kind table → Serves after kind table) × (Serves after kind table → Suits s kind table)) (sym is)
    (subst (λ (locks : Locks). (Serves locks kind table → Serves after kind table) × (Serves after kind table → Serves locks kind table)) e (same kind table))
