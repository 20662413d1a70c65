-- Rows of answers, and how many of them are kept at once.
use Rattle.std.specs.Prelude.{◌≡◌, ◌⊎◌, ℕ, ◌+◌, ◌-◌, ◌^◌, ◌==◌, Bool, true, false, ◌&&◌, ◌||◌, min, max, nat_lt, List, [], ◌∷◌, ◌++◌, length, drop, if◌then◌else◌}
use Rattle.gx_base.specs.Conditions.{Condition, And, Or}
use Rattle.cond_lattice.specs.Derivations.{is_derived}

-- the number of parts of a condition, itself among them
abbrev pub parts_of : Condition → ℕ
parts_of (And x y) = parts_of x + parts_of y + 1
parts_of (Or x y) = parts_of x + parts_of y + 1
parts_of _ = 1

-- a condition is an `and` or an `or` of these two
abbrev pub AreSides : Condition → Condition → Condition → Type 0
AreSides c x y = (c ≡ And x y) ⊎ (c ≡ Or x y)

abbrev pub is_joined : Condition → Bool
is_joined (And x y) = true
is_joined (Or x y) = true
is_joined _ = false

-- the answers of a test for all parts of a condition, those for its sides before its own
abbrev pub answers : (Condition → Bool) → Condition → List Bool
answers test (And x y) = answers test x ++ answers test y ++ test (And x y) ∷ []
answers test (Or x y) = answers test x ++ answers test y ++ test (Or x y) ∷ []
answers test c = test c ∷ []

-- the row of c and d: whether c is below d, and before this the same for its sides
abbrev pub row_for : Condition → Condition → List Bool
row_for c d = answers (is_derived c) d

-- a list begins with another
abbrev pub Begins : List Bool → List Bool → Type 0
Begins front row = row ≡ front ++ drop (length front) row

abbrev pub is_and : Condition → Bool
is_and (And x y) = true
is_and _ = false

-- Whether a condition is below another, by whether its sides are: an `and` is where one of them is, and an `or` where
-- both are.
abbrev pub lower_answer_of : Bool → Bool → Bool → Bool
lower_answer_of is_and first second = if is_and then first || second else (first && second)

-- Whether a condition is below another, by whether it is below its sides: below an `and` where it is below both, and
-- below an `or` where it is below one of them, or is by its own sides.
abbrev pub upper_answer_of : Bool → Bool → Bool → Bool → Bool
upper_answer_of is_and first second own = if is_and then first && second else (first || second || own)

-- how many rows are kept at once for sides that want so many: where both want as many, one more than they do. It
-- goes up to the greatest number of 64 bits
abbrev pub more_rows : ℕ → ℕ → ℕ
more_rows m n = if m == n then min (m + 1) (2 ^ 64 - 1) else max m n

abbrev pub rows_of : Condition → ℕ
rows_of (And x y) = more_rows (rows_of x) (rows_of y)
rows_of (Or x y) = more_rows (rows_of x) (rows_of y)
rows_of _ = 1

-- the side that wants more rows, and the other one
abbrev pub heavier : Condition → Condition → Condition
heavier x y = if nat_lt (rows_of x) (rows_of y) then y else x

abbrev pub lighter : Condition → Condition → Condition
lighter x y = if nat_lt (rows_of x) (rows_of y) then x else y

abbrev pub heavy_of : Condition → Condition
heavy_of (And x y) = heavier x y
heavy_of (Or x y) = heavier x y
heavy_of c = c

abbrev pub light_of : Condition → Condition
light_of (And x y) = lighter x y
light_of (Or x y) = lighter x y
light_of c = c
