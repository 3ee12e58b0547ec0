-- What a write and a balancing ask and give.
use Rattle.std.specs.Prelude.{◌≡◌, ℕ, ◌+◌, ◌^◌, ◌<◌, ◌≤◌, max, List, length, slice_index_or, slice_set, Some, Option, IfSome}
use Rattle.tree.specs.declared.fork.Fork.{Fork}
use Rattle.tree.specs.declared.node.Node.{Node}
use Rattle.tree.specs.Sides.{left_of, right_of}
use Rattle.tree.specs.Shape.{Shape, node, over, tall, row, ents, In, Distinct, Balanced, Stands, stored_height}

-- the record of a fork with this summary, over the heights that are stored
abbrev pub record_of : {E Z : Type 0} → List (Node E Z) → Fork E → Z → Node E Z
record_of xs f z = record { entry = f.entry; left = left_of f; right = right_of f; height = max (stored_height xs (left_of f)) (stored_height xs (right_of f)) + 1; summary = z }

-- the slot of a link, where it has one, is one of the table's
abbrev pub Reaches : {E Z : Type 0} → List (Node E Z) → Option ℕ → Type 0
Reaches xs k = IfSome k (λ s. s < length xs)

-- so is that of a fork, and those of its links
abbrev pub Within : {E Z : Type 0} → List (Node E Z) → Fork E → Type 0
Within xs f = (f.at < length xs) × Reaches xs f.near × Reaches xs f.far

-- the table was xs, and is ys after the record of a fork was written at its slot
pub record Putted {E Z : Type 0} (M : Z → List E → Type 0) (xs : List (Node E Z)) (f : Fork E) (ys : List (Node E Z)) : Type 0 where
  pub sum : Z
  -- so heights fit a byte
  pub small : length xs < 2 ^ 64
  pub long : length ys ≡ length xs
  pub is : f.at < length xs → stored_height xs f.near < 255 → stored_height xs f.far < 255 → ys ≡ slice_set xs f.at (record_of xs f sum)
  pub sums : (l r : Shape E) → Stands M xs (left_of f) l → Stands M xs (right_of f) r → M sum (ents (row (node l f.at f.entry r)))

-- the table ys is as xs but at the slots of a row
pub record Frame {E Z : Type 0} (xs : List (Node E Z)) (changed : List (ℕ × E)) (ys : List (Node E Z)) : Type 0 where
  pub long : length ys ≡ length xs
  pub same : (k : ℕ) (n : Node E Z) → (In k changed → ⊥) → slice_index_or ys k n ≡ slice_index_or xs k n

-- a fork, and two AVL trees that are to be joined over it
pub record Ready {E Z : Type 0} (M : Z → List E → Type 0) (xs : List (Node E Z)) (f : Fork E) (a b : Shape E) : Type 0 where
  pub within : f.at < length xs
  pub nears : Stands M xs f.near a
  pub fars : Stands M xs f.far b
  pub once : Distinct (row (over f a b))
  pub avl_near : Balanced tall a
  pub avl_far : Balanced tall b
  pub close_near : tall a ≤ tall b + 2
  pub close_far : tall b ≤ tall a + 2

-- the AVL tree t has come of the tree `whole`, whose two subtrees alone are AVL: the table was xs and is ys
pub record Joins {E Z : Type 0} (M : Z → List E → Type 0) (xs : List (Node E Z)) (whole : Shape E) (ys : List (Node E Z)) (root : ℕ) (t : Shape E) : Type 0 where
  pub stands : Stands M ys (Some root) t
  pub avl : Balanced tall t
  pub order : row t ≡ row whole
  pub frame : Frame xs (row t) ys
  pub taller : tall whole ≤ tall t + 1
  pub lower : tall t ≤ tall whole
  pub even : Balanced tall whole → tall t ≡ tall whole
