-- A binary tree of entries, each at a slot of a table of records, and how the records hold it. Assumes nothing.
use Rattle.std.specs.Prelude.{◌≡◌, ℕ, ◌+◌, ◌<◌, ◌≤◌, max, ◌⊎◌, List, [], ◌∷◌, ◌++◌, map, length, slice_get, slice_index_or, Some, None, Option}
use Rattle.std.specs.Option.{option_map, option_and_then, unwrap_or}
use Rattle.tree.specs.declared.fork.Fork.{Fork}
use Rattle.tree.specs.declared.node.Node.{Node}
use Rattle.tree.specs.Orders.{Order}
use Rattle.tree.specs.Sides.{pick}

-- an empty tree, or a left subtree, the slot and the entry of the root, and a right subtree
pub data Shape (E : Type 0) : Type 0 where
  leaf : Shape E
  node : Shape E → ℕ → E → Shape E → Shape E

abbrev pub link : {E : Type 0} → Shape E → Option ℕ
link leaf = None
link (node l s e r) = Some s

abbrev pub tall : {E : Type 0} → Shape E → ℕ
tall leaf = 0
tall (node l s e r) = max (tall l) (tall r) + 1

-- the tree of a fork with a subtree on its side, and one on the other
abbrev pub over : {E : Type 0} → Fork E → Shape E → Shape E → Shape E
over f near far = node (pick f.side near far) f.at f.entry (pick f.side far near)

-- each slot with its entry, in order
abbrev pub row : {E : Type 0} → Shape E → List (ℕ × E)
row leaf = []
row (node l s e r) = row l ++ ((s, e) ∷ row r)

abbrev pub ents : {E : Type 0} → List (ℕ × E) → List E
ents ps = map (λ p. p.1) ps

-- slots with entries, in the order of the entries
abbrev pub by_entry : {E K : Type 0} → Order E K → Order (ℕ × E) K
by_entry O = record { key = λ p. O.key p.1; cmp = O.cmp }

-- the slot k stands in the row
abbrev pub In : {E : Type 0} → ℕ → List (ℕ × E) → Type 0
In k [] = ⊥
In k (p ∷ ps) = (k ≡ p.0) ⊎ In k ps

-- no slot stands twice
abbrev pub Distinct : {E : Type 0} → List (ℕ × E) → Type 0
Distinct [] = Unit {0}
Distinct (p ∷ ps) = (In p.0 ps → ⊥) × Distinct ps

-- at each node the heights of the two subtrees differ by at most 1
abbrev pub Balanced : {E : Type 0} → (Shape E → ℕ) → Shape E → Type 0
Balanced height leaf = Unit {0}
Balanced height (node l s e r) = (height l ≤ height r + 1) × (height r ≤ height l + 1) × Balanced height l × Balanced height r

-- the record of a root with these subtrees and this summary
abbrev pub record_over : {E Z : Type 0} → E → Shape E → Shape E → Z → Node E Z
record_over e l r z = record { entry = e; left = link l; right = link r; height = max (tall l) (tall r) + 1; summary = z }

-- the table has at s the record of the entry e over l and r, with a summary that is right for all three
pub record Recorded {E Z : Type 0} (M : Z → List E → Type 0) (xs : List (Node E Z)) (s : ℕ) (e : E) (l r : Shape E) : Type 0 where
  pub within : s < length xs
  pub sum : Z
  pub is : record_over e l r sum ≡ slice_index_or xs s (record_over e l r sum)
  pub right : M sum (ents (row (node l s e r)))

-- the table has the records of all nodes
abbrev pub Linked : {E Z : Type 0} → (Z → List E → Type 0) → List (Node E Z) → Shape E → Type 0
Linked M xs leaf = Unit {0}
Linked M xs (node l s e r) = Recorded M xs s e l r × Linked M xs l × Linked M xs r

-- the tree t stands at the link k
abbrev pub Stands : {E Z : Type 0} → (Z → List E → Type 0) → List (Node E Z) → Option ℕ → Shape E → Type 0
Stands M xs k t = (k ≡ link t) × Linked M xs t

-- the record at a link, none also where that is no slot
abbrev pub stored : {E Z : Type 0} → List (Node E Z) → Option ℕ → Option (Node E Z)
stored xs k = option_and_then (slice_get xs) k

-- the height that is stored at a link, 0 where there is no node
abbrev pub stored_height : {E Z : Type 0} → List (Node E Z) → Option ℕ → ℕ
stored_height xs k = unwrap_or (option_map (λ n. n.height) (stored xs k)) 0
