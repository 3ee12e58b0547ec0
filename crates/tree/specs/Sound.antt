-- Sound trees, and their entries as read off the table. Assumes nothing.
use Rattle.std.specs.Prelude.{◌≡◌, ℕ, zero, suc, ◌<◌, ◌≤◌, List, length, slice_get, Some, None, Option}
use Rattle.std.specs.Option.{option_map, unwrap_or}
use Rattle.tree.specs.declared.node.Node.{Node}
use Rattle.tree.specs.Orders.{Order, Rising}
use Rattle.tree.specs.Shape.{Shape, leaf, node, link, tall, row, ents, by_entry, In, Distinct, Balanced, Stands, stored_height}

-- an AVL tree t stands at `root`, each slot once
pub record Fit {E Z : Type 0} (M : Z → List E → Type 0) (xs : List (Node E Z)) (root : Option ℕ) (t : Shape E) : Type 0 where
  pub stands : Stands M xs root t
  pub avl : Balanced tall t
  pub once : Distinct (row t)

-- and its keys rise
pub record Sound {E K Z : Type 0} (M : Z → List E → Type 0) (O : Order E K) (xs : List (Node E Z)) (root : Option ℕ) (t : Shape E) : Type 0 where
  pub fit : Fit M xs root t
  pub rising : Rising (by_entry O) (row t)

-- the tree at a link, followed so many levels down
abbrev pub followed : {E Z : Type 0} → ℕ → List (Node E Z) → Option ℕ → Shape E
followed zero xs k = leaf
followed (suc levels) xs None = leaf
followed (suc levels) xs (Some k) = unwrap_or (option_map (λ n. node (followed levels xs n.left) k n.entry (followed levels xs n.right)) (slice_get xs k)) leaf

-- the tree at a link, followed as many levels down as the height that is stored there
abbrev pub shape_at : {E Z : Type 0} → List (Node E Z) → Option ℕ → Shape E
shape_at xs k = followed (stored_height xs k) xs k

-- the entries of the tree at a link, in the order in which they stand
abbrev pub entries_at : {E Z : Type 0} → List (Node E Z) → Option ℕ → List E
entries_at xs k = ents (row (shape_at xs k))

-- what a tree is to its callers: its entries in order, and how many there are places for
pub record Contents (E : Type 0) : Type 0 where
  pub entries : List E
  pub places : ℕ

-- what is true of each tree, of its table, its root and its count
pub record SoundTree {E K Z : Type 0} (M : Z → List E → Type 0) (O : Order E K) (xs : List (Node E Z)) (root : Option ℕ) (count : ℕ) : Type 0 where
  -- the records from the root on are one tree, with right heights and summaries; each slot once; AVL; the keys rise
  pub sound : Sound M O xs root (shape_at xs root)
  -- AVL by the heights that are stored, too
  pub balanced : Balanced (λ s. stored_height xs (link s)) (shape_at xs root)
  -- the first `count` slots are those in use, and all others are free
  pub used : (k : ℕ) → In k (row (shape_at xs root)) → k < count
  pub counted : length (entries_at xs root) ≡ count
  pub room : count ≤ length xs
