-- From a node to the subtree on a side, and back over a changed one.
use Rattle.std.proofs.Common.{◌≡◌, ℕ, ◌+◌, ◌<◌, ◌≤◌, max, List, length, get_or, Some, Option, sym, ap, ◌∙◌, subst, arith}
use Rattle.std.specs.Cmp.{IsTotalOrder}
use Rattle.tree.specs.declared.fork.Fork.{Fork}
use Rattle.tree.specs.declared.node.Node.{Node}
use Rattle.tree.specs.declared.side.Side.{Side}
use Rattle.tree.specs.Changes.{Changed}
use Rattle.tree.specs.Joins.{Ready, Joins}
use Rattle.tree.specs.Orders.{Order, Rising}
use Rattle.tree.specs.Shape.{Shape, over, tall, row, by_entry, In, Distinct, Balanced, Stands, stored_height}
use Rattle.tree.specs.Sides.{fork_of, between, side_of}
use Rattle.tree.specs.Sound.{Fit, Sound}
use Rattle.tree.proofs.Mirrors.{row_over, parts_over, tall_over, avl_over, over_near, Level, level, Parted, parted}
use Rattle.tree.proofs.Ordered.{Goes, side_goes, rising_near}
use Rattle.tree.proofs.Trees.{height_stands, stands_frame, frame_then, frame_wider}

-- the fork over another subtree on its side
abbrev pub onto : {E : Type 0} → Fork E → Option ℕ → Fork E
onto f near = record f { near = near }

module _ {E Z : Type 0} {M : Z → List E → Type 0} where
  -- two trees at most one apart, the near one changed in the meantime, are ready to be joined
  pub ready_again : {xs ys : List (Node E Z)} (f : Fork E) (a a' b : Shape E) → f.at < length xs → Stands M xs f.far b → Balanced tall b → tall a ≤ tall b + 1 → tall b ≤ tall a + 1 → Changed M xs a ys f.near a' → Distinct (row (over f a' b)) → Ready M ys f a' b
  ready_again {xs} {ys} f a a' b within sb vb ha hb C d =
      let p = parts_over f a' b d in
      let long = C.frame.long in
      let lo = C.lower in
      let ta = C.taller in
      record {
        within = omega arith;
        nears = C.stands;
        fars = stands_frame M xs ys (row a') f.far b C.frame p.apart sb;
        once = d;
        avl_near = C.avl;
        avl_far = vb;
        close_near = omega arith;
        close_far = omega arith;
      }

  -- what is joined of them is at most one lower or higher than what stood there
  pub joined_heights : {xs ys : List (Node E Z)} (f : Fork E) {root : ℕ} (a a' b t : Shape E) → tall a ≤ tall b + 1 → tall b ≤ tall a + 1 → tall a' ≤ tall a + 1 → tall a ≤ tall a' + 1 → Balanced tall a' → Balanced tall b → Joins M xs (over f a' b) ys root t → (tall t ≤ max (tall a) (tall b) + 2) × (max (tall a) (tall b) ≤ tall t)
  joined_heights f a a' b t ha hb lo ta va vb J =
      let w = tall_over f a' b in
      let jt = J.taller in
      let jl = J.lower in
      let je : tall a' ≤ tall b + 1 → tall b ≤ tall a' + 1 → tall t ≡ tall (over f a' b) = λ h i. J.even (avl_over f a' b h i va vb) in
      (omega arith, grind arith)

  -- the root of a tree, as a fork
  pub opens : {xs : List (Node E Z)} {root : Option ℕ} {t : Shape E} → Fit M xs root t → {at : ℕ} → root ≡ Some at → (n : Node E Z) → n ≡ get_or xs at n → (side : Side) {f : Fork E} → f ≡ fork_of at side n → Parted M xs f t
  opens {xs} {root} {t} F {at} is n read side fe = subst (λ (g : Fork E). Parted M xs g t) (sym fe) (parted M side xs at n t read (sym is ∙ F.stands.0, F.stands.1))

-- from a node that stands at `root`, as a fork, to its near side
module _ {E Z : Type 0} {M : Z → List E → Type 0} {xs : List (Node E Z)} {root : Option ℕ} {t : Shape E} (F : Fit M xs root t) {f : Fork E} (o : Parted M xs f t) where
  pub opens_level : Level o.a o.b
  opens_level = level f o.a o.b (subst (Balanced tall) o.is F.avl)

  pub opens_tall : tall t ≡ max (tall o.a) (tall o.b) + 1
  opens_tall = ap tall o.is ∙ tall_over f o.a o.b

  pub opens_row : row t ≡ between f.side (row o.a) (f.at, f.entry) (row o.b)
  opens_row = ap row o.is ∙ row_over f o.a o.b

  pub opens_once : Distinct (row (over f o.a o.b))
  opens_once = subst (λ (x : Shape E). Distinct (row x)) o.is F.once

  pub fit_near : Fit M xs f.near o.a
  fit_near = record { stands = o.nears; avl = opens_level.avl_near; once = (parts_over f o.a o.b opens_once).lefts }

  pub falls : stored_height xs f.near < stored_height xs root
  falls =
      let h = height_stands M xs f.near o.a o.nears in
      let i = height_stands M xs root t F.stands in
      let j = opens_tall in
      omega arith

  -- and back, with a changed one in its place
  module _ {ys : List (Node E Z)} {near : Option ℕ} {a' : Shape E} (C : Changed M xs o.a ys near a') (d : Distinct (between f.side (row a') (f.at, f.entry) (row o.b))) where
    pub ready_back : Ready M ys (onto f near) a' o.b
    ready_back =
        let v = opens_level in
        ready_again (onto f near) o.a a' o.b o.within o.fars v.avl_far v.near v.far C (subst Distinct (sym (row_over f a' o.b)) d)

    pub changed_back : {zs : List (Node E Z)} {top : ℕ} {u : Shape E} → Joins M ys (over f a' o.b) zs top u → Changed M xs t zs (Some top) u
    changed_back {zs} {top} {u} J =
        let v = opens_level in
        let j = opens_tall in
        let h = joined_heights (onto f near) o.a a' o.b u v.near v.far C.lower C.taller C.avl v.avl_far J in
        record {
          stands = J.stands;
          avl = J.avl;
          frame = frame_then (frame_wider (row a') (row u) (λ k i. subst (In k) (sym J.order) (over_near f a' o.b k i)) C.frame) J.frame;
          lower = omega arith;
          taller = omega arith;
        }

-- the root of a tree, seen from the side on which the key k belongs
pub record Way {E K Z : Type 0} (M : Z → List E → Type 0) (O : Order E K) (xs : List (Node E Z)) (t : Shape E) (k : K) (f : Fork E) : Type 0 where
  pub parts : Parted M xs f t
  pub goes : Goes O f.side k (O.key f.entry)

pub way : {E K Z : Type 0} {M : Z → List E → Type 0} (O : Order E K) (L : IsTotalOrder O.cmp) {xs : List (Node E Z)} {root : Option ℕ} {t : Shape E} → Fit M xs root t → {at : ℕ} → root ≡ Some at → (n : Node E Z) → n ≡ get_or xs at n → (k : K) (side : Side) → side_of (O.cmp k (O.key n.entry)) ≡ Some side → {f : Fork E} → f ≡ fork_of at side n → Way M O xs t k f
way {E} O L F is n read k side goes fe = record {
  parts = opens F is n read side fe;
  goes = subst (λ (g : Fork E). Goes O g.side k (O.key g.entry)) (sym fe) (side_goes O L k (O.key n.entry) side goes);
}

module _ {E K Z : Type 0} {M : Z → List E → Type 0} {O : Order E K} (L : IsTotalOrder O.cmp) {xs : List (Node E Z)} {root : Option ℕ} {t : Shape E} (S : Sound M O xs root t) {f : Fork E} (o : Parted M xs f t) where
  pub rises : Rising (by_entry O) (between f.side (row o.a) (f.at, f.entry) (row o.b))
  rises = subst (Rising (by_entry O)) (opens_row S.fit o) S.rising

  pub sound_near : Sound M O xs f.near o.a
  sound_near = record { fit = fit_near S.fit o; rising = rising_near (by_entry O) L f.side (row o.a) (f.at, f.entry) (row o.b) rises }
