-- How many different items a list has.
use Rattle.std.specs.Prelude.{ℕ, ◌+◌, Bool, false, cond, ◌||◌, List, [], ◌∷◌}
use Rattle.std.specs.Str.{bytes_eq}

-- whether x is one of the items
abbrev pub among : List ℕ → List (List ℕ) → Bool
among x [] = false
among x (y ∷ ys) = bytes_eq x y || among x ys

-- each item counts unless it comes again
abbrev pub distinct_of : List (List ℕ) → ℕ
distinct_of [] = 0
distinct_of (x ∷ xs) = cond (among x xs) 0 1 + distinct_of xs
