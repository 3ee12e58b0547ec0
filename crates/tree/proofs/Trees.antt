-- Trees in a table of records: heights, what a change elsewhere leaves, and what a write makes.
use Rattle.std.proofs.Common.{◌≡◌, ℕ, zero, suc, ◌+◌, ◌^◌, ◌<◌, ◌≢◌, List, [], ◌∷◌, ◌++◌, length, get_or, set, Some, None, Option, IfSome, unwrap_or, sym, refl, ap, ◌∙◌, subst, inl, inr, arith, length-set, get_or-set_other}
use Rattle.std.proofs.lemmas.List.{get_or_default, map-append}
use Rattle.std.proofs.lemmas.Option.{none-some, same_Some, slice_get_read}
use Rattle.std.specs.Option.{option_map}
use Rattle.tree.specs.declared.node.Node.{Node}
use Rattle.tree.specs.Shape.{Shape, leaf, node, tall, row, ents, In, record_over, Linked, Stands, stored_height}
use Rattle.tree.specs.Joins.{Reaches, Frame}
use Rattle.tree.proofs.Slots.{in_left, in_right, in_mid, in_parts}

pub stored_is : {E Z : Type 0} (xs : List (Node E Z)) (k : ℕ) (n : Node E Z) → k < length xs → n ≡ get_or xs k n → stored_height xs (Some k) ≡ n.height
stored_is {E} {Z} xs k n h e = ap (λ (o : Option (Node E Z)). unwrap_or (option_map (λ m. m.height) o) 0) (slice_get_read xs (length xs) k n refl h e)

-- where a height is stored there is a record
pub height_within : {E Z : Type 0} (xs : List (Node E Z)) (k : ℕ) → 0 < stored_height xs (Some k) → k < length xs
height_within [] k h = absurd (omega arith)
height_within (x ∷ xs) zero h = omega arith
height_within (x ∷ xs) (suc k) h = let below = height_within xs k h in omega arith

pub ents_node : {E : Type 0} (ps : List (ℕ × E)) (p : ℕ × E) (qs : List (ℕ × E)) → ents (ps ++ (p ∷ qs)) ≡ ents ps ++ (p.1 ∷ ents qs)
ents_node {E} ps p qs = map-append (λ (x : ℕ × E). x.1) ps (p ∷ qs)

-- a summary of a root and its subtrees, from one of their entries
pub node_sums : {E Z : Type 0} (M : Z → List E → Type 0) (at : ℕ) (e : E) (l r : Shape E) (z : Z) → M z (ents (row l) ++ (e ∷ ents (row r))) → M z (ents (row (node l at e r)))
node_sums {E} M at e l r z h = subst (λ (u : List E). M z u) (sym (ents_node (row l) (at, e) (row r))) h

-- ---- links to slots of the table
pub reaches_fits : {E Z : Type 0} (xs : List (Node E Z)) (k : Option ℕ) → length xs < 2 ^ 64 → Reaches xs k → IfSome k (λ s. s + 1 < 2 ^ 64)
reaches_fits xs (Some s) small h = omega (arith, h)
reaches_fits xs None small h = tt

pub reaches_long : {E Z : Type 0} (xs ys : List (Node E Z)) (k : Option ℕ) → length ys ≡ length xs → Reaches xs k → Reaches ys k
reaches_long xs ys (Some s) long h = omega (arith, long, h)
reaches_long xs ys None long h = tt

-- ---- one write
pub putted_long : {E Z : Type 0} (xs ys : List (Node E Z)) (at : ℕ) (m : Node E Z) → ys ≡ set xs at m → length ys ≡ length xs
putted_long xs ys at m q = ap length q ∙ length-set xs at m

pub put_frame : {E Z : Type 0} (xs ys : List (Node E Z)) (at : ℕ) (m : Node E Z) (w : List (ℕ × E)) → ys ≡ set xs at m → In at w → Frame xs w ys
put_frame {E} {Z} xs ys at m w q h = record {
  long = putted_long xs ys at m q;
  same = λ k n new. let ne : k ≢ at = λ s. new (subst (λ (j : ℕ). In j w) (sym s) h) in ap (λ (zs : List (Node E Z)). get_or zs k n) q ∙ get_or-set_other xs at k m n ne;
}

pub frame_then : {E Z : Type 0} {xs ys zs : List (Node E Z)} {w : List (ℕ × E)} → Frame xs w ys → Frame ys w zs → Frame xs w zs
frame_then f g = record {
  long = g.long ∙ f.long;
  same = λ k n new. g.same k n new ∙ f.same k n new;
}

pub frame_wider : {E Z : Type 0} {xs ys : List (Node E Z)} (w v : List (ℕ × E)) → ((k : ℕ) → In k w → In k v) → Frame xs w ys → Frame xs v ys
frame_wider w v inc f = record { long = f.long; same = λ k n new. f.same k n (λ i. new (inc k i)) }

pub frame_none : {E Z : Type 0} (xs : List (Node E Z)) (w : List (ℕ × E)) → Frame xs w xs
frame_none xs w = record { long = refl; same = λ k n new. refl }

module _ {E Z : Type 0} (M : Z → List E → Type 0) where
  pub height_stands : (xs : List (Node E Z)) (k : Option ℕ) (t : Shape E) → Stands M xs k t → stored_height xs k ≡ tall t
  height_stands xs k leaf s = ap (stored_height xs) s.0
  height_stands xs k (node l a e r) s =
      let R = s.1.0 in
      ap (stored_height xs) s.0 ∙ stored_is xs a (record_over e l r R.sum) R.within R.is

  -- a tree at a slot is not empty, and its slot is one of the table's
  pub stands_within : (xs : List (Node E Z)) (k : ℕ) (t : Shape E) → Stands M xs (Some k) t → k < length xs
  stands_within xs k leaf s = absurd (none-some k (sym s.0))
  stands_within xs k (node l a e r) s = omega (arith, same_Some k a s.0, s.1.0.within)

  pub stands_reaches : (xs : List (Node E Z)) (k : Option ℕ) (t : Shape E) → Stands M xs k t → Reaches xs k
  stands_reaches xs (Some s) t h = stands_within xs s t h
  stands_reaches xs None t h = tt

  -- at no slot there is an empty tree
  pub none_leaf : (xs : List (Node E Z)) (t : Shape E) → Stands M xs None t → t ≡ leaf
  none_leaf xs leaf s = refl
  none_leaf xs (node l a e r) s = absurd (none-some a s.0)

  -- a slot of a tree is one of the table's
  pub in_within : (xs : List (Node E Z)) (k : ℕ) (t : Shape E) → Linked M xs t → In k (row t) → k < length xs
  in_within xs k leaf h i = absurd i
  in_within xs k (node l s e r) h i =
      elim (in_parts k (row l) ((s, e) ∷ row r) i) [ inl a ↦ in_within xs k l h.1 a | inr (inl q) ↦ omega (arith, q, h.0.within) | inr (inr b) ↦ in_within xs k r h.2 b ]

  -- what a change elsewhere leaves
  linked_frame : (xs ys : List (Node E Z)) (w : List (ℕ × E)) (t : Shape E) → Frame xs w ys → ((k : ℕ) → In k w → In k (row t) → ⊥) → Linked M xs t → Linked M ys t
  linked_frame xs ys w leaf f d h = tt
  linked_frame xs ys w (node l s e r) f d h =
      let R = h.0 in
      let c = record_over e l r R.sum in
      let long = f.long in
      let within : s < length ys = omega (arith, R.within) in (
        record { within = within; sum = R.sum; is = R.is ∙ sym (f.same s c (λ i. d s i (in_mid (row l) s e (row r)))); right = R.right },
        linked_frame xs ys w l f (λ k i j. d k i (in_left k (row l) ((s, e) ∷ row r) j)) h.1,
        linked_frame xs ys w r f (λ k i j. d k i (in_right k (row l) ((s, e) ∷ row r) (inr j))) h.2,
      )

  pub stands_frame : (xs ys : List (Node E Z)) (w : List (ℕ × E)) (k : Option ℕ) (t : Shape E) → Frame xs w ys → ((j : ℕ) → In j w → In j (row t) → ⊥) → Stands M xs k t → Stands M ys k t
  stands_frame xs ys w k t f d s = (s.0, linked_frame xs ys w t f d s.1)

  pub stands_other : (xs ys : List (Node E Z)) (at : ℕ) (e : E) (m : Node E Z) (k : Option ℕ) (t : Shape E) → ys ≡ set xs at m → (In at (row t) → ⊥) → Stands M xs k t → Stands M ys k t
  stands_other xs ys at e m k t q new s =
      stands_frame xs ys ((at, e) ∷ []) k t (put_frame xs ys at m ((at, e) ∷ []) q (inl refl)) (λ j. elim [ inl h ↦ λ i. new (subst (λ (x : ℕ). In x (row t)) h i) | inr h ↦ absurd h ]) s

  -- the record at a slot where a tree stands, and its subtrees
  pub record Opened (xs : List (Node E Z)) (k : ℕ) (n : Node E Z) (t : Shape E) : Type 0 where
    pub l : Shape E
    pub r : Shape E
    pub is : t ≡ node l k n.entry r
    pub lefts : Stands M xs n.left l
    pub rights : Stands M xs n.right r

  pub opened : (xs : List (Node E Z)) (k : ℕ) (n : Node E Z) (t : Shape E) → n ≡ get_or xs k n → Stands M xs (Some k) t → Opened xs k n t
  opened xs k n leaf read s = absurd (none-some k (sym s.0))
  opened xs k n (node l a e r) read s =
      let R = s.1.0 in
      let z = R.sum in
      let at : k ≡ a = same_Some k a s.0 in
      let lt : k < length xs = omega (arith, R.within) in
      let q : n ≡ record_over e l r z = read ∙ get_or_default xs k n (record_over e l r z) lt ∙ ap (λ (j : ℕ). get_or xs j (record_over e l r z)) at ∙ sym R.is in
      let en : n.entry ≡ e = ap (λ (m : Node E Z). m.entry) q in
      let is : node l a e r ≡ node l k n.entry r = cc (at, en) in
      record {
        l = l;
        r = r;
        is = is;
        lefts = (ap (λ (m : Node E Z). m.left) q, s.1.1);
        rights = (ap (λ (m : Node E Z). m.right) q, s.1.2);
      }
