-- What the lines of a flow file say.
use Rattle.std.specs.Prelude.{ℕ, ◌<◌, ◌^◌, if◌then◌else◌, List, [], ◌∷◌, Option, Some, None, codes, bytes_eq, ⊤}
use Rattle.text_lines.specs.Lines.{begins_with}
use Rattle.text_lines.specs.Fields.{fields_of}
use Rattle.text_lines.specs.Numbers.{number_of}
use Rattle.flow_files.specs.declared.flow_lines.Said.{Said}
use Rattle.flow_files.specs.declared.flow_lines.Said.TheVariants.{Nothing, Problem, Source, Sink, Arc, Wrong}

-- three fields and no more
abbrev pub three_of : List (List ℕ) → Option (List ℕ × List ℕ × List ℕ)
three_of [] = None
three_of (a ∷ []) = None
three_of (a ∷ b ∷ []) = None
three_of (a ∷ b ∷ c ∷ []) = Some (a, b, c)
three_of (a ∷ b ∷ c ∷ d ∷ fields) = None

-- two fields and no more
abbrev pub two_of : List (List ℕ) → Option (List ℕ × List ℕ)
two_of [] = None
two_of (a ∷ []) = None
two_of (a ∷ b ∷ []) = Some (a, b)
two_of (a ∷ b ∷ c ∷ fields) = None

-- p max NODES ARCS
abbrev pub problem_with : Option ℕ → Option ℕ → Said
problem_with (Some nodes) (Some arcs) = Problem nodes arcs
problem_with (Some nodes) None = Wrong
problem_with None arcs = Wrong

abbrev pub problem_of : Option (List ℕ × List ℕ × List ℕ) → Said
problem_of (Some f) = if bytes_eq f.0 (codes "max") then problem_with (number_of f.1) (number_of f.2) else Wrong
problem_of None = Wrong

-- n ID s, or n ID t
abbrev pub terminal_with : Option ℕ → List ℕ → Said
terminal_with (Some id) word =
    if bytes_eq word (codes "s") then Source id
    else if bytes_eq word (codes "t") then Sink id
    else Wrong
terminal_with None word = Wrong

abbrev pub terminal_of : Option (List ℕ × List ℕ) → Said
terminal_of (Some f) = terminal_with (number_of f.0) f.1
terminal_of None = Wrong

-- a FROM TO CAP
abbrev pub arc_with : Option ℕ → Option ℕ → Option ℕ → Said
arc_with (Some from) (Some to) (Some cap) = Arc from to cap
arc_with (Some from) (Some to) None = Wrong
arc_with (Some from) None cap = Wrong
arc_with None to cap = Wrong

abbrev pub arc_of : Option (List ℕ × List ℕ × List ℕ) → Said
arc_of (Some f) = arc_with (number_of f.0) (number_of f.1) (number_of f.2)
arc_of None = Wrong

-- by its fields: a line is skipped where it has none or the first begins with c (99)
abbrev pub fields_say : List (List ℕ) → Said
fields_say [] = Nothing
fields_say (kind ∷ fields) =
    if begins_with 99 kind then Nothing
    else if bytes_eq kind (codes "p") then problem_of (three_of fields)
    else if bytes_eq kind (codes "n") then terminal_of (two_of fields)
    else if bytes_eq kind (codes "a") then arc_of (three_of fields)
    else Wrong

abbrev pub said_by : List ℕ → Said
said_by line = fields_say (fields_of line)

-- the numbers of a line have at most 18 digits
abbrev pub IsSmall : Said → Type 0
IsSmall (Problem nodes arcs) = (nodes < 10 ^ 18) × (arcs < 10 ^ 18)
IsSmall (Source id) = id < 10 ^ 18
IsSmall (Sink id) = id < 10 ^ 18
IsSmall (Arc from to cap) = (from < 10 ^ 18) × (to < 10 ^ 18) × (cap < 10 ^ 18)
IsSmall said = ⊤
