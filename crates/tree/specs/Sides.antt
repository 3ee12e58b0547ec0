-- The two sides of a node. Assumes nothing.
use Rattle.std.specs.Prelude.{ℕ, List, ◌∷◌, ◌++◌, Some, None, Option}
use Rattle.std.specs.declared.cmp.Ordering.{Ordering}
use Rattle.std.specs.declared.cmp.Ordering.TheVariants.{Less, Equal, Greater}
use Rattle.tree.specs.declared.fork.Fork.{Fork}
use Rattle.tree.specs.declared.node.Node.{Node}
use Rattle.tree.specs.declared.side.Side.{Side}
use Rattle.tree.specs.declared.side.Side.TheVariants.{Left, Right}

abbrev pub opposite : Side → Side
opposite Left = Right
opposite Right = Left

-- of what belongs on the side and on the other, that on the left
abbrev pub pick : {A : Type 0} → Side → A → A → A
pick Left near far = near
pick Right near far = far

-- the node at a slot, seen from a side
abbrev pub fork_of : {E Z : Type 0} → ℕ → Side → Node E Z → Fork E
fork_of at side n = record { at = at; entry = n.entry; side = side; near = pick side n.left n.right; far = pick side n.right n.left }

abbrev pub left_of : {E : Type 0} → Fork E → Option ℕ
left_of f = pick f.side f.near f.far

abbrev pub right_of : {E : Type 0} → Fork E → Option ℕ
right_of f = pick f.side f.far f.near

-- the same, seen from the other side
abbrev pub mirrored : {E : Type 0} → Fork E → Fork E
mirrored f = record f { side = opposite f.side; near = f.far; far = f.near }

-- p between the list on the side and that on the other
abbrev pub between : {A : Type 0} → Side → List A → A → List A → List A
between side near p far = pick side near far ++ (p ∷ pick side far near)

-- the side on which a key belongs that compares so with a node's
abbrev pub side_of : Ordering → Option Side
side_of Less = Some Left
side_of Equal = None
side_of Greater = Some Right
