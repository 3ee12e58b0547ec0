-- What holds of one side of a node and of the other as its mirror image.
use Rattle.std.proofs.Common.{◌≡◌, ℕ, ◌+◌, ◌<◌, ◌≤◌, max, List, ◌∷◌, length, get_or, set, Some, Option, sym, refl, ap, ◌∙◌, subst, inr, append_assoc, arith, get_or-set_same}
use Rattle.tree.specs.declared.fork.Fork.{Fork}
use Rattle.tree.specs.declared.node.Node.{Node}
use Rattle.tree.specs.declared.side.Side.{Side}
use Rattle.tree.specs.declared.side.Side.TheVariants.{Left, Right}
use Rattle.tree.specs.Joins.{record_of, Within, Putted, Frame}
use Rattle.tree.specs.Shape.{Shape, node, over, tall, row, In, Distinct, Balanced, record_over, Stands, stored_height}
use Rattle.tree.specs.Sides.{pick, opposite, fork_of, left_of, right_of, mirrored, between}
use Rattle.tree.proofs.Slots.{in_left, in_right, in_mid, Parts, parts}
use Rattle.tree.proofs.Trees.{opened, stands_within, stands_reaches, height_stands, stands_other, putted_long, put_frame}

-- a relation that ties two on the side, and two on the other, ties those on the left
pub pick_both : {A B : Type 0} (R : A → B → Type 0) (side : Side) (a a' : A) (b b' : B) → R a b → R a' b' → R (pick side a a') (pick side b b')
pick_both R Left a a' b b' h i = h
pick_both R Right a a' b b' h i = i

pub pick_one : {A : Type 0} (P : A → Type 0) (side : Side) (a b : A) → P a → P b → P (pick side a b)
pick_one P Left a b h i = h
pick_one P Right a b h i = i

-- ---- rows
pub row_sided : {E : Type 0} (side : Side) (a : Shape E) (s : ℕ) (e : E) (b : Shape E) → row (node (pick side a b) s e (pick side b a)) ≡ between side (row a) (s, e) (row b)
row_sided Left a s e b = refl
row_sided Right a s e b = refl

pub between_assoc : {A : Type 0} (side : Side) (xs : List A) (p : A) (ys : List A) (q : A) (zs : List A) → between side xs p (between side ys q zs) ≡ between side (between side xs p ys) q zs
between_assoc Left xs p ys q zs = sym (append_assoc xs (p ∷ ys) (q ∷ zs))
between_assoc Right xs p ys q zs = append_assoc zs (q ∷ ys) (p ∷ xs)

pub in_near : {E : Type 0} (side : Side) (k : ℕ) (xs : List (ℕ × E)) (p : ℕ × E) (ys : List (ℕ × E)) → In k xs → In k (between side xs p ys)
in_near Left k xs p ys h = in_left k xs (p ∷ ys) h
in_near Right k xs p ys h = in_right k ys (p ∷ xs) (inr h)

pub in_far : {E : Type 0} (side : Side) (k : ℕ) (xs : List (ℕ × E)) (p : ℕ × E) (ys : List (ℕ × E)) → In k ys → In k (between side xs p ys)
in_far Left k xs p ys h = in_right k xs (p ∷ ys) (inr h)
in_far Right k xs p ys h = in_left k ys (p ∷ xs) h

pub parts_between : {E : Type 0} (side : Side) (xs : List (ℕ × E)) (p : ℕ × E) (ys : List (ℕ × E)) → Distinct (between side xs p ys) → Parts xs p.0 ys
parts_between Left xs p ys d = parts xs p ys d
parts_between Right xs p ys d =
    let c = parts ys p xs d in
    record { new_left = c.new_right; new_right = c.new_left; apart = λ k h i. c.apart k i h; lefts = c.rights; rights = c.lefts }

-- ---- the tree of a fork
pub row_over : {E : Type 0} (f : Fork E) (a b : Shape E) → row (over f a b) ≡ between f.side (row a) (f.at, f.entry) (row b)
row_over f a b = row_sided f.side a f.at f.entry b

tall_sided : {E : Type 0} (side : Side) (a : Shape E) (s : ℕ) (e : E) (b : Shape E) → tall (node (pick side a b) s e (pick side b a)) ≡ max (tall a) (tall b) + 1
tall_sided Left a s e b = refl
tall_sided Right a s e b = omega arith

pub tall_over : {E : Type 0} (f : Fork E) (a b : Shape E) → tall (over f a b) ≡ max (tall a) (tall b) + 1
tall_over f a b = tall_sided f.side a f.at f.entry b

avl_sided : {E : Type 0} (side : Side) (a : Shape E) (s : ℕ) (e : E) (b : Shape E) → tall a ≤ tall b + 1 → tall b ≤ tall a + 1 → Balanced tall a → Balanced tall b → Balanced tall (node (pick side a b) s e (pick side b a))
avl_sided Left a s e b h i va vb = (h, i, va, vb)
avl_sided Right a s e b h i va vb = (i, h, vb, va)

pub avl_over : {E : Type 0} (f : Fork E) (a b : Shape E) → tall a ≤ tall b + 1 → tall b ≤ tall a + 1 → Balanced tall a → Balanced tall b → Balanced tall (over f a b)
avl_over f a b = avl_sided f.side a f.at f.entry b

pub record Level {E : Type 0} (a b : Shape E) : Type 0 where
  pub near : tall a ≤ tall b + 1
  pub far : tall b ≤ tall a + 1
  pub avl_near : Balanced tall a
  pub avl_far : Balanced tall b

level_sided : {E : Type 0} (side : Side) (a : Shape E) (s : ℕ) (e : E) (b : Shape E) → Balanced tall (node (pick side a b) s e (pick side b a)) → Level a b
level_sided Left a s e b v = record { near = v.0; far = v.1; avl_near = v.2; avl_far = v.3 }
level_sided Right a s e b v = record { near = v.1; far = v.0; avl_near = v.3; avl_far = v.2 }

pub level : {E : Type 0} (f : Fork E) (a b : Shape E) → Balanced tall (over f a b) → Level a b
level f a b = level_sided f.side a f.at f.entry b

flip_sided : {E : Type 0} (side : Side) (a : Shape E) (s : ℕ) (e : E) (b : Shape E) → node (pick (opposite side) b a) s e (pick (opposite side) a b) ≡ node (pick side a b) s e (pick side b a)
flip_sided Left a s e b = refl
flip_sided Right a s e b = refl

pub over_mirrored : {E : Type 0} (f : Fork E) (a b : Shape E) → over (mirrored f) b a ≡ over f a b
over_mirrored f a b = flip_sided f.side a f.at f.entry b

-- what distinct slots say of the tree of a fork
pub parts_over : {E : Type 0} (f : Fork E) (a b : Shape E) → Distinct (row (over f a b)) → Parts (row a) f.at (row b)
parts_over f a b d = parts_between f.side (row a) (f.at, f.entry) (row b) (subst Distinct (row_over f a b) d)

pub over_near : {E : Type 0} (f : Fork E) (a b : Shape E) (k : ℕ) → In k (row a) → In k (row (over f a b))
over_near f a b k h = subst (In k) (sym (row_over f a b)) (in_near f.side k (row a) (f.at, f.entry) (row b) h)

pub over_far : {E : Type 0} (f : Fork E) (a b : Shape E) (k : ℕ) → In k (row b) → In k (row (over f a b))
over_far f a b k h = subst (In k) (sym (row_over f a b)) (in_far f.side k (row a) (f.at, f.entry) (row b) h)

pub over_here : {E : Type 0} (f : Fork E) (a b : Shape E) → In f.at (row (over f a b))
over_here f a b = in_mid (row (pick f.side a b)) f.at f.entry (row (pick f.side b a))

-- ---- trees in a table
-- the heights that are stored on the two sides are those on the left and on the right
pub put_heights : {E Z : Type 0} (xs : List (Node E Z)) (f : Fork E) → stored_height xs f.near < 255 → stored_height xs f.far < 255 → (stored_height xs (left_of f) < 255) × (stored_height xs (right_of f) < 255)
put_heights xs f hn hf = (pick_one (λ (k : Option ℕ). stored_height xs k < 255) f.side f.near f.far hn hf, pick_one (λ (k : Option ℕ). stored_height xs k < 255) f.side f.far f.near hf hn)

module _ {E Z : Type 0} (M : Z → List E → Type 0) where
  -- the tree at the slot of a fork, and its subtrees
  pub record Parted (xs : List (Node E Z)) (f : Fork E) (t : Shape E) : Type 0 where
    pub within : f.at < length xs
    pub a : Shape E
    pub b : Shape E
    pub is : t ≡ over f a b
    pub nears : Stands M xs f.near a
    pub fars : Stands M xs f.far b

  pub parted : (side : Side) (xs : List (Node E Z)) (k : ℕ) (n : Node E Z) (t : Shape E) → n ≡ get_or xs k n → Stands M xs (Some k) t → Parted xs (fork_of k side n) t
  parted Left xs k n t read s = let o = opened M xs k n t read s in record { within = stands_within M xs k t s; a = o.l; b = o.r; is = o.is; nears = o.lefts; fars = o.rights }
  parted Right xs k n t read s = let o = opened M xs k n t read s in record { within = stands_within M xs k t s; a = o.r; b = o.l; is = o.is; nears = o.rights; fars = o.lefts }

  pub parted_within : {xs : List (Node E Z)} {f : Fork E} {t : Shape E} → Parted xs f t → Within xs f
  parted_within {xs} {f} o = (o.within, stands_reaches M xs f.near o.a o.nears, stands_reaches M xs f.far o.b o.fars)

  -- what a write makes, and leaves
  pub record Put (xs ys : List (Node E Z)) (f : Fork E) (a b : Shape E) : Type 0 where
    pub stands : Stands M ys (Some f.at) (over f a b)
    pub long : length ys ≡ length xs
    pub others : (k : Option ℕ) (t : Shape E) → (In f.at (row t) → ⊥) → Stands M xs k t → Stands M ys k t
    pub frame : (w : List (ℕ × E)) → In f.at w → Frame xs w ys

  pub put_over : (xs ys : List (Node E Z)) (f : Fork E) (a b : Shape E) → Putted M xs f ys → f.at < length xs → Stands M xs f.near a → Stands M xs f.far b → tall a < 255 → tall b < 255 → (In f.at (row a) → ⊥) → (In f.at (row b) → ⊥) → Put xs ys f a b
  put_over xs ys f a b q within sa sb la lb na nb =
      let l = pick f.side a b in
      let r = pick f.side b a in
      let sl : Stands M xs (left_of f) l = pick_both (Stands M xs) f.side f.near f.far a b sa sb in
      let sr : Stands M xs (right_of f) r = pick_both (Stands M xs) f.side f.far f.near b a sb sa in
      let nl : In f.at (row l) → ⊥ = pick_one (λ (x : Shape E). In f.at (row x) → ⊥) f.side a b na nb in
      let nr : In f.at (row r) → ⊥ = pick_one (λ (x : Shape E). In f.at (row x) → ⊥) f.side b a nb na in
      let ha = height_stands M xs f.near a sa in
      let hb = height_stands M xs f.far b sb in
      let hl = height_stands M xs (left_of f) l sl in
      let hr = height_stands M xs (right_of f) r sr in
      let z = q.sum in
      let m : Node E Z = record_of xs f z in
      let w : ys ≡ set xs f.at m = q.is within (omega arith) (omega arith) in
      let i : m ≡ record_over f.entry l r z = cc (sl.0, sr.0, hl, hr) in
      let long : length ys ≡ length xs = putted_long xs ys f.at m w in
      let g : record_over f.entry l r z ≡ get_or ys f.at (record_over f.entry l r z) = sym (ap (λ (zs : List (Node E Z)). get_or zs f.at (record_over f.entry l r z)) w ∙ get_or-set_same xs f.at m (record_over f.entry l r z) within ∙ i) in
      let o : (k : Option ℕ) (t : Shape E) → (In f.at (row t) → ⊥) → Stands M xs k t → Stands M ys k t = λ k t new s. stands_other M xs ys f.at f.entry m k t w new s in
      record {
        stands = (refl, (record { within = omega arith; sum = z; is = g; right = q.sums l r sl sr }, (o (left_of f) l nl sl).1, (o (right_of f) r nr sr).1));
        long = long;
        others = o;
        frame = λ v h. put_frame xs ys f.at m v w h;
      }
