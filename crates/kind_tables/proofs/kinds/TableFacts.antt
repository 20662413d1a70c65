-- What each kind shows of its tables, and what follows for all of its choices.
use Rattle.std.specs.Prelude.{◌≡◌, ℕ, Bool, true, false, ◌&&◌, ◌⊎◌, refl}
use Rattle.std.proofs.Common.{◌∙◌, ap, inl, inr}
use Rattle.gx_base.specs.declared.conditions.Side.TheVariants.{Second}
use Rattle.gx_base.specs.declared.kinds.Choice.{Choice}
use Rattle.gx_base.specs.declared.kinds.Choice.TheVariants.{Precise, Simple, Rw, Global}
use Rattle.gx_base.specs.Below.{names_state, IsBelow, AreBelow}
use Rattle.gx_base.proofs.CallerLemmas.{IsBelow-itself, False-IsBelow, below-IsValid}
use Rattle.gx_base.specs.Conditions.{Condition, False}
use Rattle.gx_base.specs.Methods.{is_method}
use Rattle.gx_base.specs.ShippedTables.{KindTables, rows_chosen, SuitKind}
use Rattle.gx_base.specs.Tables.{Rows, IsValid, KeepsToKind}
use Rattle.cond_lattice.specs.Simple.{strengthened}
use Rattle.cond_lattice.proofs.CallerLemmas.{is_strengthened}
use Rattle.kind_tables.specs.PairConditions.{rows_by}
use Rattle.kind_tables.specs.TablesOfKinds.{false_tables}

-- what a kind shows of its tables, by its number
pub record TableFacts (kind : ℕ) (tables : KindTables) : Type 0 where
  pub valid : IsValid kind tables.precise
  pub keeps_to_kind : KeepsToKind kind tables.precise
  pub strengthened : (first second : ℕ) → tables.simple first second ≡ strengthened (tables.precise first second)
  pub readers_below : AreBelow tables.reader_writer tables.simple
  pub readers_keep_to_kind : KeepsToKind kind tables.reader_writer

-- false rows are in order for every kind
pub false_facts : (kind : ℕ) → TableFacts kind false_tables
false_facts kind = record {
  valid = record { swaps = λ s a b e h fa fb t. absurd (cc); sees_first = λ s a b e h fa fb t l. absurd (cc); sees_second = λ s a b e h fa fb t l. absurd (cc) };
  keeps_to_kind = λ first second f. refl;
  strengthened = λ first second. refl;
  readers_below = λ first second. False-IsBelow _;
  readers_keep_to_kind = λ first second f. refl;
}

-- no row names the state function of the later call
abbrev pub IsSilent : Rows → Type 0
IsSilent rows = (first second : ℕ) → names_state Second (rows first second) ≡ false

-- a row is false where either deed is none
pub record NoneIsFalse {D : Type 0} (none : D) (row : D → D → Condition) : Type 0 where
  pub left : (d : D) → row none d ≡ False
  pub right : (d : D) → row d none ≡ False

one_false : (a b : Bool) → (a && b) ≡ false → (a ≡ false) ⊎ (b ≡ false)
one_false true b e = inr e
one_false false b e = inl refl

module _ {D : Type 0} (kind : ℕ) (none : D) (deed : ℕ → D) (foreign : (m : ℕ) → is_method kind m ≡ false → deed m ≡ none) where
  -- where a method of another kind does none of the deeds, the rows are false for it
  pub keeps : (row : D → D → Condition) → NoneIsFalse none row → KeepsToKind kind (rows_by deed row)
  keeps row h first second f = elim (one_false (is_method kind first) (is_method kind second) f) [
    | inl n ↦ ap (λ d. row d (deed second)) (foreign first n) ∙ h.left (deed second)
    | inr n ↦ ap (λ d. row (deed first) d) (foreign second n) ∙ h.right (deed first)
  ]

below_through : (c d e : Condition) → IsBelow c d → IsBelow d e → IsBelow c e
below_through c d e h k = record { truth = λ first second seen t. k.truth first second seen (h.truth first second seen t); terms = λ side n. k.terms side (h.terms side n) }

module _ (kind : ℕ) (tables : KindTables) (facts : TableFacts kind tables) where
  -- locks let no more calls go together than commute
  pub simple-below : AreBelow tables.simple tables.precise
  simple-below first second = is_strengthened (tables.precise first second) (tables.simple first second) (facts.strengthened first second)

  -- each shipped table is below the precise one
  pub chosen-below : (choice : Choice) → AreBelow (rows_chosen tables choice) tables.precise
  chosen-below Precise first second = IsBelow-itself _
  chosen-below Simple first second = simple-below first second
  chosen-below Rw first second = below_through _ _ _ (facts.readers_below first second) (simple-below first second)
  chosen-below Global first second = False-IsBelow _

  chosen-keeps : (choice : Choice) → KeepsToKind kind (rows_chosen tables choice)
  chosen-keeps Precise = facts.keeps_to_kind
  chosen-keeps Simple = λ first second f. facts.strengthened first second ∙ ap strengthened (facts.keeps_to_kind first second f)
  chosen-keeps Rw = facts.readers_keep_to_kind
  chosen-keeps Global = λ first second f. refl

  -- so the objects of the kind may use what it ships
  pub tables-SuitKind : SuitKind kind tables
  tables-SuitKind = record {
    valid = λ choice. below-IsValid kind (rows_chosen tables choice) tables.precise (chosen-below choice) facts.valid;
    keeps_to_kind = chosen-keeps;
  }
