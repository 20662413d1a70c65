-- Which methods the object of this crate's tests, an empty set, can always undo: a lemma, which stands here since an impl's law may
-- cite no proof of its own crate.
use Rattle.std.specs.Prelude.{◌≡◌, ℕ, true, false, nat_lt}
use Rattle.std.proofs.Common.{arith}
use Rattle.std.proofs.lemmas.Bool.Decides.{nat_tests}
use Rattle.gx_base.specs.Methods.{is_method}

-- a method that sets don't have comes after the two that change them
pub foreign_high : (m : ℕ) → is_method 0 m ≡ false → nat_lt 1 m ≡ true
foreign_high m h = grind (arith, nat_tests)
