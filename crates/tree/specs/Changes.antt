-- What the changes of a tree ask and give.
use Rattle.std.specs.Prelude.{◌≡◌, ℕ, ◌+◌, ◌<◌, ◌≤◌, max, List, [], ◌∷◌, ◌++◌, length, Some, None, Option, IfSome}
use Rattle.std.specs.List.{find}
use Rattle.std.specs.Option.{unwrap_or}
use Rattle.tree.specs.declared.node.Node.{Node}
use Rattle.tree.specs.Joins.{Frame}
use Rattle.tree.specs.Lists.{edited}
use Rattle.tree.specs.Orders.{Order, at_key}
use Rattle.tree.specs.Shape.{Shape, tall, row, ents, by_entry, In, Distinct, Balanced, Stands}
use Rattle.tree.specs.Sound.{Sound}

-- the AVL tree u has come of t, and is at most one lower or higher: the table was xs and is ys
pub record Changed {E Z : Type 0} (M : Z → List E → Type 0) (xs : List (Node E Z)) (t : Shape E) (ys : List (Node E Z)) (root : Option ℕ) (u : Shape E) : Type 0 where
  pub stands : Stands M ys root u
  pub avl : Balanced tall u
  pub frame : Frame xs (row u) ys
  pub lower : tall u ≤ tall t + 1
  pub taller : tall t ≤ tall u + 1

-- the slot is not in use, and the entry's key is not there
pub record Free {E K Z : Type 0} (O : Order E K) (xs : List (Node E Z)) (slot : ℕ) (e : E) (t : Shape E) : Type 0 where
  pub within : slot < length xs
  pub new : In slot (row t) → ⊥
  pub absent : find (at_key (by_entry O) (O.key e)) (row t) ≡ None

-- a slot that is given is one of the table's, and not in use
abbrev pub Unused : {E Z : Type 0} → List (Node E Z) → Option ℕ → List (ℕ × E) → Type 0
Unused xs to ps = IfSome to (λ s. (s < length xs) × (In s ps → ⊥))

-- p has the key of e, and the slot that is given for e is not in use
pub record Vacant {E K Z : Type 0} (O : Order E K) (xs : List (Node E Z)) (to : Option ℕ) (e : E) (p : ℕ × E) (t : Shape E) : Type 0 where
  pub there : find (at_key (by_entry O) (O.key e)) (row t) ≡ Some p
  pub unused : Unused xs to (row t)

-- e in place of the entry of its key, in the slot that is given or else in that one's
abbrev pub reseated : {E K : Type 0} → Order E K → Option ℕ → E → List (ℕ × E) → List (ℕ × E)
reseated O to e ps = edited (at_key (by_entry O) (O.key e)) (λ p. (unwrap_or to p.0, e) ∷ []) ps

-- two AVL trees side by side
pub record Pair {E Z : Type 0} (M : Z → List E → Type 0) (xs : List (Node E Z)) (left right : Option ℕ) (l r : Shape E) : Type 0 where
  pub lefts : Stands M xs left l
  pub rights : Stands M xs right r
  pub once : Distinct (row l ++ row r)
  pub avl_left : Balanced tall l
  pub avl_right : Balanced tall r
  pub close_left : tall l ≤ tall r + 1
  pub close_right : tall r ≤ tall l + 1

-- u is the two as one
pub record Glued {E Z : Type 0} (M : Z → List E → Type 0) (xs : List (Node E Z)) (l r : Shape E) (ys : List (Node E Z)) (root : Option ℕ) (u : Shape E) : Type 0 where
  pub stands : Stands M ys root u
  pub avl : Balanced tall u
  pub order : row u ≡ row l ++ row r
  pub frame : Frame xs (row u) ys
  pub lower : tall u ≤ max (tall l) (tall r) + 2
  pub taller : max (tall l) (tall r) ≤ tall u

-- no slot past `last` is in use, and `slot` is not
pub record Gap {E Z : Type 0} (xs : List (Node E Z)) (slot last : ℕ) (t : Shape E) : Type 0 where
  pub before : slot ≤ last
  pub within : last < length xs
  pub free : In slot (row t) → ⊥
  pub used : (k : ℕ) → In k (row t) → k ≤ last
  pub there : slot < last → In last (row t)

-- the same entries, in slots below `last`
pub record Filled {E K Z : Type 0} (M : Z → List E → Type 0) (O : Order E K) (xs : List (Node E Z)) (last : ℕ) (t : Shape E) (ys : List (Node E Z)) (root : Option ℕ) (u : Shape E) : Type 0 where
  pub sound : Sound M O ys root u
  pub long : length ys ≡ length xs
  pub same : ents (row u) ≡ ents (row t)
  pub used : (k : ℕ) → In k (row u) → k < last
