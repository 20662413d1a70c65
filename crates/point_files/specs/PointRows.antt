-- What a row of a file of points says.
use Rattle.std.specs.Prelude.{ℕ, ℤ, pos, neg_ℤ, Bool, ◌==◌, nat_le, if◌then◌else◌, List, [], ◌∷◌, length, Option, Some, None}
use Rattle.text_lines.specs.Numbers.{number_of}

-- the fields of a row, as bytes
abbrev pub FileRow : Type 0
FileRow = List (List ℕ)

-- the two coordinates of a point
abbrev pub Coordinates : Type 0
Coordinates = ℤ × ℤ

-- the largest coordinate: a thousand million
abbrev pub most_coordinate : ℕ
most_coordinate = 1000000000

abbrev pub bounded : Option ℕ → Option ℕ
bounded None = None
bounded (Some n) = if nat_le n most_coordinate then Some n else None

-- a number of 1 to 10 digits, of at most that size
abbrev pub size_of : List ℕ → Option ℕ
size_of digits = if nat_le (length digits) 10 then bounded (number_of digits) else None

abbrev pub signed : Bool → Option ℕ → Option ℤ
signed negative None = None
signed negative (Some n) = Some (if negative then neg_ℤ (pos n) else pos n)

-- a field of a coordinate: digits, after an optional minus sign (45)
abbrev pub coordinate_of : List ℕ → Option ℤ
coordinate_of [] = None
coordinate_of (b ∷ bs) = signed (b == 45) (if b == 45 then size_of bs else size_of (b ∷ bs))

abbrev pub both_coordinates : Option ℤ → Option ℤ → Option Coordinates
both_coordinates (Some x) (Some y) = Some (x, y)
both_coordinates (Some x) None = None
both_coordinates None y = None

-- a row of a point has two fields and no more
abbrev pub coordinates_in : FileRow → Option Coordinates
coordinates_in [] = None
coordinates_in (x ∷ []) = None
coordinates_in (x ∷ y ∷ []) = both_coordinates (coordinate_of x) (coordinate_of y)
coordinates_in (x ∷ y ∷ z ∷ fields) = None
