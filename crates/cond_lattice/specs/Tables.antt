-- When a table is below another by the rules.
use Rattle.std.specs.Prelude.{◌≡◌, ℕ, ◌<◌, true}
use Rattle.gx_base.specs.Conditions.{Condition}
use Rattle.gx_base.specs.Methods.{is_method}
use Rattle.gx_base.specs.Tables.{Rows}
use Rattle.cond_lattice.specs.Derivations.{IsRowBelow}

-- each row of the kind's methods is below the other table's
abbrev pub AreRowsBelow : ℕ → Rows → Rows → Type 0
AreRowsBelow kind lower upper = (first second : ℕ) → is_method kind first ≡ true → is_method kind second ≡ true → IsRowBelow (lower first second) (upper first second)

-- among the rows with one method first, one that isn't below the other table's, where each earlier one is
pub record IsFirstSecond (kind : ℕ) (lower upper : ℕ → Condition) (second : ℕ) : Type 0 where
  pub method : is_method kind second ≡ true
  pub not_below : IsRowBelow (lower second) (upper second) → ⊥
  pub earlier : (n : ℕ) → is_method kind n ≡ true → n < second → IsRowBelow (lower n) (upper n)

-- a row of the kind's methods that isn't below the other table's, where each row of earlier methods is
pub record IsFirstNotBelow (kind : ℕ) (lower upper : Rows) (first second : ℕ) : Type 0 where
  pub first_method : is_method kind first ≡ true
  pub second_method : is_method kind second ≡ true
  pub not_below : IsRowBelow (lower first second) (upper first second) → ⊥
  pub earlier_first : (m n : ℕ) → is_method kind m ≡ true → is_method kind n ≡ true → m < first → IsRowBelow (lower m n) (upper m n)
  pub earlier_second : (n : ℕ) → is_method kind n ≡ true → n < second → IsRowBelow (lower first n) (upper first n)
