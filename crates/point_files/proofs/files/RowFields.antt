-- What a row says, by its fields.
use Rattle.std.proofs.Common.{◌≡◌, ℕ, List, [], ◌∷◌, Some, None, refl, sym, ap, ◌∙◌}
use Rattle.csv.specs.Records.{field_at}
use Rattle.point_files.specs.PointRows.{FileRow, coordinates_in, both_coordinates, coordinate_of}

pub no_first : (fields : FileRow) → None ≡ field_at fields 0 → None ≡ coordinates_in fields
unfolding field_at
no_first [] e = refl
no_first (x ∷ fields) e = absurd (cc)

pub no_second : (fields : FileRow) → None ≡ field_at fields 1 → None ≡ coordinates_in fields
unfolding field_at
no_second [] e = refl
no_second (x ∷ []) e = refl
no_second (x ∷ y ∷ fields) e = absurd (cc)

pub just_two : (fields : FileRow) (x y : List ℕ) → Some x ≡ field_at fields 0 → Some y ≡ field_at fields 1 → None ≡ field_at fields 2 → both_coordinates (coordinate_of x) (coordinate_of y) ≡ coordinates_in fields
unfolding field_at
just_two [] x y e f g = absurd (cc)
just_two (a ∷ []) x y e f g = absurd (cc)
just_two (a ∷ b ∷ []) x y e f g =
    let p : x ≡ a = cc in
    let q : y ≡ b = cc in
    ap (λ (z : List ℕ). both_coordinates (coordinate_of z) (coordinate_of y)) p ∙ ap (λ (z : List ℕ). both_coordinates (coordinate_of a) (coordinate_of z)) q
just_two (a ∷ b ∷ c ∷ fields) x y e f g = absurd (cc)

pub third : (fields : FileRow) (z : List ℕ) → Some z ≡ field_at fields 2 → None ≡ coordinates_in fields
unfolding field_at
third [] z e = absurd (cc)
third (a ∷ []) z e = absurd (cc)
third (a ∷ b ∷ []) z e = absurd (cc)
third (a ∷ b ∷ c ∷ fields) z e = refl
