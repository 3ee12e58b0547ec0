-- What is done to loads, told by their counts alone: a list with one count for each resource.
-- The lists that are compared or combined have one length each; where they have not, `within` and `alike` say no.
use Rattle.std.specs.Prelude.{ℕ, ◌+◌, ◌-◌, max, Bool, true, false, cond, ◌&&◌, ◌||◌, List, [], ◌∷◌, Some, None, Option, ◌==◌, nat_le, nat_lt}

-- at each resource, f of the two counts
abbrev pub by_each : (ℕ → ℕ → ℕ) → List ℕ → List ℕ → List ℕ
by_each f [] ys = []
by_each f (x ∷ xs) [] = []
by_each f (x ∷ xs) (y ∷ ys) = f x y ∷ by_each f xs ys

abbrev pub sums : List ℕ → List ℕ → List ℕ
sums = by_each (λ x y. x + y)

abbrev pub differences : List ℕ → List ℕ → List ℕ
differences = by_each (λ x y. x - y)

abbrev pub greater : List ℕ → List ℕ → List ℕ
greater = by_each max

-- each count of the first is at most the second's
abbrev pub within : List ℕ → List ℕ → Bool
within [] [] = true
within [] (y ∷ ys) = false
within (x ∷ xs) [] = false
within (x ∷ xs) (y ∷ ys) = nat_le x y && within xs ys

-- all counts are equal
abbrev pub alike : List ℕ → List ℕ → Bool
alike [] [] = true
alike [] (y ∷ ys) = false
alike (x ∷ xs) [] = false
alike (x ∷ xs) (y ∷ ys) = x == y && alike xs ys

-- every count is 0
abbrev pub empty : List ℕ → Bool
empty [] = true
empty (x ∷ xs) = x == 0 && empty xs

-- the sums, unless some sum passes its ceiling
abbrev pub add_counts : List ℕ → List ℕ → List ℕ → Option (List ℕ)
add_counts ceilings xs ys = cond (within (sums xs ys) ceilings) (Some (sums xs ys)) None

-- the differences, unless one count of the second is greater than the first's
abbrev pub take_counts : List ℕ → List ℕ → Option (List ℕ)
take_counts xs ys = cond (within ys xs) (Some (differences xs ys)) None

-- the demand fits beside the load within the capacity, at each resource
abbrev pub fits_counts : List ℕ → List ℕ → List ℕ → Bool
fits_counts load demand capacity = within (sums load demand) capacity

-- at some resource the total is above the capacity, and the part's count is above 0
abbrev pub part_of_excess : List ℕ → List ℕ → List ℕ → Bool
part_of_excess [] cs ps = false
part_of_excess (t ∷ ts) [] ps = false
part_of_excess (t ∷ ts) (c ∷ cs) [] = false
part_of_excess (t ∷ ts) (c ∷ cs) (p ∷ ps) = (nat_lt c t && nat_lt 0 p) || part_of_excess ts cs ps

-- a booking's load has a share in what does not fit
abbrev pub in_the_way : List ℕ → List ℕ → List ℕ → List ℕ → Bool
in_the_way load demand capacity booking = part_of_excess (sums load demand) capacity booking
