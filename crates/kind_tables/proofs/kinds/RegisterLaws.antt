-- The tables of cells and flow shards, over what their methods do with numbers: the precise one is valid, and the others are as they should be.
use Rattle.std.specs.Prelude.{◌≡◌, ℕ, pos, Bool, true, false, ◌==◌, if◌then◌else◌, refl}
use Rattle.gx_base.specs.declared.conditions.Side.TheVariants.{Second}
use Rattle.gx_base.specs.Below.{names_state, IsBelow}
use Rattle.gx_base.proofs.CallerLemmas.{IsBelow-itself, False-IsBelow, IsBelow-True}
use Rattle.gx_base.specs.Conditions.{Condition, True}
use Rattle.gx_base.specs.RegisterDeeds.{Deed, Reads, Adds, Sets, Use, Nothing, On, register_meaning}
use Rattle.cond_lattice.specs.Simple.{strengthened}
use Rattle.kind_tables.specs.PairConditions.{different_numbers}
use Rattle.kind_tables.specs.RegisterTables.{precise_deeds, simple_deeds, reader_writer_deeds, use_by, register_tables}
use Rattle.gx_base.specs.States.{HoldsNumbers}
use Rattle.gx_base.specs.Methods.{is_method}
use Rattle.gx_base.specs.Steps.{Holds, meaning_of}
use Rattle.kind_tables.proofs.swapping.UseSwaps.{swap_uses}
use Rattle.kind_tables.proofs.swapping.Validity.{TableLaws, valid_from}
use Rattle.kind_tables.proofs.kinds.TableFacts.{TableFacts, NoneIsFalse, keeps, IsSilent}

use_by_none : (deeds : Deed → Deed → Condition) → NoneIsFalse Nothing (use_by deeds)
use_by_none deeds = record { left = λ d. refl; right = elim [ Nothing ↦ refl | On i d ↦ refl ] }

deeds_strengthened : (d e : Deed) → simple_deeds d e ≡ strengthened (precise_deeds d e)
deeds_strengthened Reads Reads = refl
deeds_strengthened Adds Reads = refl
deeds_strengthened Sets Reads = refl
deeds_strengthened d e = refl

sorts_strengthened : (same : Bool) (c d : Condition) → c ≡ strengthened d → (if same then c else True) ≡ strengthened (if same then d else True)
sorts_strengthened true c d h = h
sorts_strengthened false c d h = refl

use_strengthened : (u v : Use) → use_by simple_deeds u v ≡ strengthened (use_by precise_deeds u v)
use_strengthened Nothing v = refl
use_strengthened (On i d) Nothing = refl
use_strengthened (On i d) (On j e) = sorts_strengthened (i == j) (simple_deeds d e) (precise_deeds d e) (deeds_strengthened d e)

deeds_below : (d e : Deed) → IsBelow (reader_writer_deeds d e) (simple_deeds d e)
deeds_below Adds Adds = IsBelow-True different_numbers (λ side. refl)
deeds_below Adds Reads = IsBelow-itself _
deeds_below Adds Sets = IsBelow-itself _
deeds_below Reads Reads = IsBelow-itself _
deeds_below Reads Adds = IsBelow-itself _
deeds_below Reads Sets = IsBelow-itself _
deeds_below Sets e = IsBelow-itself _

sorts_below : (same : Bool) (c d : Condition) → IsBelow c d → IsBelow (if same then c else True) (if same then d else True)
sorts_below true c d h = h
sorts_below false c d h = IsBelow-itself True

use_below : (u v : Use) → IsBelow (use_by reader_writer_deeds u v) (use_by simple_deeds u v)
use_below Nothing v = False-IsBelow _
use_below (On i d) Nothing = False-IsBelow _
use_below (On i d) (On j e) = sorts_below (i == j) (reader_writer_deeds d e) (simple_deeds d e) (deeds_below d e)

deeds_silent : (d e : Deed) → names_state Second (precise_deeds d e) ≡ false
deeds_silent Reads Reads = refl
deeds_silent Adds Reads = refl
deeds_silent Sets Reads = refl
deeds_silent d e = refl

sorts_silent : (same : Bool) (c : Condition) → names_state Second c ≡ false → names_state Second (if same then c else True) ≡ false
sorts_silent true c h = h
sorts_silent false c h = refl

use_silent : (u v : Use) → names_state Second (use_by precise_deeds u v) ≡ false
use_silent Nothing v = refl
use_silent (On i d) Nothing = refl
use_silent (On i d) (On j e) = sorts_silent (i == j) (precise_deeds d e) (deeds_silent d e)

module _ (use_of : ℕ → Use) where
  pub register_table : TableLaws (register_meaning use_of) HoldsNumbers (register_tables use_of).precise
  register_table = record {
    swaps = λ s a b h fa fb t. swap_uses (use_of a.method) (use_of b.method) s a b _ (record { first = pos 0; second = pos 0 }) h fa fb t;
    sees_first = λ s a b h fa fb t l x. refl;
    sees_second = λ s a b h fa fb t l x. refl;
  }

  pub register_facts : (kind : ℕ) → TableLaws (meaning_of kind) (Holds kind) (register_tables use_of).precise → ((m : ℕ) → is_method kind m ≡ false → use_of m ≡ Nothing) → TableFacts kind (register_tables use_of)
  register_facts kind laws use-foreign = record {
    valid = valid_from kind (register_tables use_of).precise laws;
    keeps_to_kind = keeps kind Nothing use_of use-foreign (use_by precise_deeds) (use_by_none precise_deeds);
    strengthened = λ first second. use_strengthened (use_of first) (use_of second);
    readers_below = λ first second. use_below (use_of first) (use_of second);
    readers_keep_to_kind = keeps kind Nothing use_of use-foreign (use_by reader_writer_deeds) (use_by_none reader_writer_deeds);
  }

  pub register_silent : IsSilent (register_tables use_of).precise
  register_silent first second = use_silent (use_of first) (use_of second)
