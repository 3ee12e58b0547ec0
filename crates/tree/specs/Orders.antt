-- Entries in the order of their keys. Assumes nothing.
use Rattle.std.specs.Prelude.{Bool, List}
use Rattle.std.specs.List.Sorted.{IsStrictlySortedBy}
use Rattle.std.specs.Ordering.{is_lt, is_eq, on}
use Rattle.std.specs.declared.cmp.Ordering.{Ordering}

-- the key of each entry, and how two keys compare
pub record Order (A K : Type 0) : Type 0 where
  pub key : A → K
  pub cmp : K → K → Ordering

abbrev pub order_by : {A K : Type 0} → (A → K) → (K → K → Ordering) → Order A K
order_by key cmp = record { key = key; cmp = cmp }

-- the entry stands past the key k
abbrev pub past : {A K : Type 0} → Order A K → K → A → Bool
past O k e = is_lt (O.cmp k (O.key e))

-- the entry has the key k: the two compare as equal
abbrev pub at_key : {A K : Type 0} → Order A K → K → A → Bool
at_key O k e = is_eq (O.cmp k (O.key e))

-- strictly rising: each entry stands before all later ones
abbrev pub Rising : {A K : Type 0} → Order A K → List A → Type 0
Rising O es = IsStrictlySortedBy (on O.key O.cmp) es
