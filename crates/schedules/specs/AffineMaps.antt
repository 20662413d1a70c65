-- Affine maps in 64 bits.
use Rattle.std.specs.Prelude.{ℕ, ◌+◌, ◌*◌, ◌%◌, ◌^◌}
use Rattle.schedules.specs.declared.affine.Affine.{Affine}

unfoldable pub map_value_at : Affine → ℕ → ℕ
map_value_at map x = (map.factor * x + map.term) % 2 ^ 64
