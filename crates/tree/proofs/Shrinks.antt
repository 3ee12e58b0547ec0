-- The steps of a removal.
use Rattle.std.proofs.Common.{◌≡◌, ℕ, ◌<◌, false, List, [], ◌∷◌, ◌++◌, Some, None, Option, sym, refl, ap, ◌∙◌, subst, inl, inr, arith}
use Rattle.std.proofs.lemmas.Option.{same_Some}
use Rattle.std.specs.Cmp.{IsTotalOrder}
use Rattle.tree.specs.declared.fork.Fork.{Fork}
use Rattle.tree.specs.declared.node.Node.{Node}
use Rattle.tree.specs.declared.side.Side.TheVariants.{Left, Right}
use Rattle.tree.specs.Changes.{Changed, Pair, Glued}
use Rattle.tree.specs.Joins.{Ready, Joins}
use Rattle.std.specs.List.{find}
use Rattle.tree.specs.Lists.{without}
use Rattle.tree.specs.Orders.{Order, at_key}
use Rattle.tree.specs.Shape.{Shape, over, tall, row, by_entry, In, Distinct, stored_height}
use Rattle.tree.specs.Sides.{fork_of, between, side_of}
use Rattle.tree.specs.Sound.{Fit, Sound}
use Rattle.tree.proofs.Descends.{onto, ready_again, joined_heights, opens_row, opens_level, opens_tall, opens_once, fit_near, falls, ready_back, changed_back, rises, sound_near}
use Rattle.tree.proofs.Kept.{out_row, out_once}
use Rattle.tree.proofs.Mirrors.{row_over, Parted}
use Rattle.tree.proofs.Ordered.{No, Goes, first_between, edited_between, side_same, goes_not, no_far, same_at, first_here, edited_here, no_left, no_right, found}
use Rattle.tree.proofs.Slots.{in_right, distinct_out, distinct_right}
use Rattle.tree.proofs.Trees.{none_leaf, in_within, frame_then, frame_wider, frame_none}

-- what a removal of the first entry gives
abbrev pub Pops : {E Z : Type 0} → (Z → List E → Type 0) → List (Node E Z) → Shape E → List (Node E Z) → Option ℕ → ℕ → E → Type 0
Pops {E} M xs t ys top slot e = (u : Shape E) × Changed M xs t ys top u × (row t ≡ (slot, e) ∷ row u)

-- from the root at a slot, as a fork with its left side near
module _ {E Z : Type 0} {M : Z → List E → Type 0} {xs : List (Node E Z)} {root : Option ℕ} {t : Shape E} (F : Fit M xs root t) {at : ℕ} (n : Node E Z) (o : Parted M xs (fork_of at Left n) t) where
  module _ {left : ℕ} (is : n.left ≡ Some left) where
    left_fit : Fit M xs (Some left) o.a
    left_fit = let f = fit_near F o in record { stands = (sym is ∙ f.stands.0, f.stands.1); avl = f.avl; once = f.once }

    pub pop_down : (stored_height xs (Some left) < stored_height xs root) × ((a : Shape E) × Fit M xs (Some left) a)
    pop_down = (subst (λ (k : Option ℕ). stored_height xs k < stored_height xs root) is (falls F o), (o.a, left_fit))

    module _ {ys : List (Node E Z)} {near : Option ℕ} {slot : ℕ} {e : E} (ih : (a : Shape E) → Fit M xs (Some left) a → Pops M xs a ys near slot e) where
      popped : Pops M xs o.a ys near slot e
      popped = ih o.a left_fit

      popped_row : row t ≡ (slot, e) ∷ (row popped.0 ++ ((at, n.entry) ∷ row o.b))
      popped_row = opens_row F o ∙ ap (λ (u : List (ℕ × E)). u ++ ((at, n.entry) ∷ row o.b)) popped.2

      popped_once : Distinct (row popped.0 ++ ((at, n.entry) ∷ row o.b))
      popped_once = let d : Distinct ((slot, e) ∷ (row popped.0 ++ ((at, n.entry) ∷ row o.b))) = subst Distinct popped_row F.once in d.1

      popped_ready : Ready M ys (onto (fork_of at Left n) near) popped.0 o.b
      popped_ready = ready_back F o popped.1 popped_once

      pub pop_ready : {f : Fork E} → f ≡ fork_of at Left n → (a : Shape E) × (b : Shape E) × Ready M ys (onto f near) a b
      pop_ready fe = (popped.0, o.b, subst (λ (g : Fork E). Ready M ys (onto g near) popped.0 o.b) (sym fe) popped_ready)

      pub pop_back : {zs : List (Node E Z)} {top : ℕ} {f : Fork E} → f ≡ fork_of at Left n → ((a b : Shape E) → Ready M ys (onto f near) a b → (u : Shape E) × Joins M ys (over f a b) zs top u) → Pops M xs t zs (Some top) slot e
      pop_back {zs} {top} fe join =
          let j = subst (λ (g : Fork E). (a b : Shape E) → Ready M ys (onto g near) a b → (u : Shape E) × Joins M ys (over g a b) zs top u) fe join popped.0 o.b popped_ready in
          (j.0, changed_back F o popped.1 popped_once j.1, popped_row ∙ ap (λ (u : List (ℕ × E)). (slot, e) ∷ u) (sym j.1.order))

  pub pop_end : n.left ≡ None → Pops M xs t xs n.right at n.entry
  pop_end stop =
      let f = fork_of at Left n in
      let q = none_leaf M xs o.a (sym stop ∙ o.nears.0, o.nears.1) in
      let h = opens_tall F o in
      let z : tall o.a ≡ 0 = ap tall q in
      (o.b, record { stands = o.fars; avl = (opens_level F o).avl_far; frame = frame_none xs (row o.b); lower = omega arith; taller = omega arith }, opens_row F o ∙ ap (λ (x : Shape E). row x ++ ((at, n.entry) ∷ row o.b)) q)

-- two trees as one
module _ {E Z : Type 0} {M : Z → List E → Type 0} {xs : List (Node E Z)} {left right : Option ℕ} {l r : Shape E} (P : Pair M xs left right l r) where
  module _ {k : ℕ} (is : right ≡ Some k) where
    right_fit : Fit M xs (Some k) r
    right_fit = record { stands = (sym is ∙ P.rights.0, P.rights.1); avl = P.avl_right; once = distinct_right (row l) (row r) P.once }

    pub glue_down : (x : Shape E) × Fit M xs (Some k) x
    glue_down = (r, right_fit)

    module _ {ys : List (Node E Z)} {top : Option ℕ} {slot : ℕ} {e : E} (ih : (x : Shape E) → Fit M xs (Some k) x → Pops M xs x ys top slot e) where
      first : Pops M xs r ys top slot e
      first = ih r right_fit

      glued_ready : Ready M ys (record { at = slot; entry = e; side = Right; near = top; far = left }) first.0 l
      glued_ready =
          let f : Fork E = record { at = slot; entry = e; side = Right; near = top; far = left } in
          let w = in_within M xs slot r P.rights.1 (subst (In slot) (sym first.2) (inl refl)) in
          ready_again f r first.0 l w P.lefts P.avl_left P.close_right P.close_left first.1 (subst (λ (u : List (ℕ × E)). Distinct (row l ++ u)) first.2 P.once)

      pub glue_ready : (a : Shape E) × (b : Shape E) × Ready M ys (record { at = slot; entry = e; side = Right; near = top; far = left }) a b
      glue_ready = (first.0, l, glued_ready)

      pub glue_back : {zs : List (Node E Z)} {root : ℕ} → ((a b : Shape E) → Ready M ys (record { at = slot; entry = e; side = Right; near = top; far = left }) a b → (u : Shape E) × Joins M ys (over (record { at = slot; entry = e; side = Right; near = top; far = left }) a b) zs root u) → (u : Shape E) × Glued M xs l r zs (Some root) u
      glue_back join =
          let f : Fork E = record { at = slot; entry = e; side = Right; near = top; far = left } in
          let j = join first.0 l glued_ready in
          let C = first.1 in
          let h = joined_heights f r first.0 l j.0 P.close_right P.close_left C.lower C.taller C.avl P.avl_left j.1 in (
            j.0,
            record {
              stands = j.1.stands;
              avl = j.1.avl;
              order = j.1.order ∙ ap (λ (u : List (ℕ × E)). row l ++ u) (sym first.2);
              frame = frame_then (frame_wider (row first.0) (row j.0) (λ k i. subst (In k) (sym j.1.order) (in_right k (row l) ((slot, e) ∷ row first.0) (inr i))) C.frame) j.1.frame;
              lower = omega arith;
              taller = omega arith;
            },
          )

-- what a removal gives
abbrev pub Takes : {E K Z : Type 0} → (Z → List E → Type 0) → Order E K → K → List (Node E Z) → Shape E → ℕ × E → List (Node E Z) → Option ℕ → ℕ × E → Type 0
Takes {E} M O k xs t p ys top q = (u : Shape E) × Changed M xs t ys top u × (row u ≡ without (at_key (by_entry O) k) (row t)) × (p ≡ q)

module _ {E K Z : Type 0} {M : Z → List E → Type 0} {O : Order E K} (L : IsTotalOrder O.cmp) (k : K) where
  module _ {xs : List (Node E Z)} {root : Option ℕ} {t : Shape E} {p : ℕ × E} (S : Sound M O xs root t) (here : find (at_key (by_entry O) k) (row t) ≡ Some p) where
    module _ {f : Fork E} (o : Parted M xs f t) (g : Goes O f.side k (O.key f.entry)) where
      none_far : No (at_key (by_entry O) k) (row o.b)
      none_far = no_far (by_entry O) L f.side k (row o.a) (f.at, f.entry) (row o.b) (rises L S o) g

      not_here : at_key (by_entry O) k (f.at, f.entry) ≡ false
      not_here = goes_not (by_entry O) L f.side k (f.at, f.entry) g

      near_there : find (at_key (by_entry O) k) (row o.a) ≡ Some p
      near_there = sym (first_between (at_key (by_entry O) k) f.side (row o.a) (f.at, f.entry) (row o.b) not_here none_far) ∙ sym (ap (find (at_key (by_entry O) k)) (opens_row S.fit o)) ∙ here

      -- what the call for the near side asks
      pub take_down : (stored_height xs f.near < stored_height xs root) × ((a : Shape E) × (q : ℕ × E) × Sound M O xs f.near a × (find (at_key (by_entry O) k) (row a) ≡ Some q))
      take_down = (falls S.fit o, (o.a, p, sound_near L S o, near_there))

      -- after that call
      module _ {ys : List (Node E Z)} {near : Option ℕ} {w : ℕ × E} (ih : (a : Shape E) (q : ℕ × E) → Sound M O xs f.near a → find (at_key (by_entry O) k) (row a) ≡ Some q → Takes M O k xs a q ys near w) where
        took : Takes M O k xs o.a p ys near w
        took = ih o.a p (sound_near L S o) near_there

        took_row : without (at_key (by_entry O) k) (row t) ≡ between f.side (row took.0) (f.at, f.entry) (row o.b)
        took_row =
            ap (without (at_key (by_entry O) k)) (opens_row S.fit o)
            ∙ edited_between (at_key (by_entry O) k) (λ q. []) f.side (row o.a) (f.at, f.entry) (row o.b) not_here none_far
            ∙ ap (λ (u : List (ℕ × E)). between f.side u (f.at, f.entry) (row o.b)) (sym took.2)

        took_once : Distinct (between f.side (row took.0) (f.at, f.entry) (row o.b))
        took_once =
            let F = found (by_entry O) L k (row t) p S.rising here in
            subst Distinct (sym (out_row O L k (row t) p S.fit.once F) ∙ took_row) (out_once O L k (row t) p S.fit.once F)

        took_ready : Ready M ys (onto f near) took.0 o.b
        took_ready = ready_back S.fit o took.1 took_once

        pub take_ready : (a : Shape E) × (b : Shape E) × Ready M ys (onto f near) a b
        take_ready = (took.0, o.b, took_ready)

        pub take_back : {zs : List (Node E Z)} {top : ℕ} → ((a b : Shape E) → Ready M ys (onto f near) a b → (u : Shape E) × Joins M ys (over f a b) zs top u) → Takes M O k xs t p zs (Some top) w
        take_back join =
            let j = join took.0 o.b took_ready in
            (j.0, changed_back S.fit o took.1 took_once j.1, j.1.order ∙ row_over f took.0 o.b ∙ sym took_row, took.3)

    -- the root's own entry
    module _ {at : ℕ} (n : Node E Z) (o : Parted M xs (fork_of at Left n) t) where
      root_pair : Pair M xs n.left n.right o.a o.b
      root_pair =
          let f = fork_of at Left n in
          let v = opens_level S.fit o in
          record {
            lefts = o.nears;
            rights = o.fars;
            once = distinct_out (row o.a) (at, n.entry) (row o.b) (opens_once S.fit o);
            avl_left = v.avl_near;
            avl_right = v.avl_far;
            close_left = v.near;
            close_right = v.far;
          }

      pub take_pair : (l : Shape E) × (r : Shape E) × Pair M xs n.left n.right l r
      take_pair = (o.a, o.b, root_pair)

      pub take_here : {ys : List (Node E Z)} {top : Option ℕ} → side_of (O.cmp k (O.key n.entry)) ≡ None → ((l r : Shape E) → Pair M xs n.left n.right l r → (u : Shape E) × Glued M xs l r ys top u) → Takes M O k xs t p ys top (at, n.entry)
      take_here same glue =
          let f = fork_of at Left n in
          let h = opens_tall S.fit o in
          let w = opens_row S.fit o in
          let r = rises L S o in
          let q = side_same O k (O.key n.entry) same in
          let P = at_key (by_entry O) k in
          let nl = no_left (by_entry O) L k (row o.a) (at, n.entry) (row o.b) r q in
          let nr = no_right (by_entry O) L k (row o.a) (at, n.entry) (row o.b) r q in
          let here_at = same_at (by_entry O) k (at, n.entry) q in
          let j = glue o.a o.b root_pair in
          let gl = j.1.lower in
          let gt = j.1.taller in (
            j.0,
            record { stands = j.1.stands; avl = j.1.avl; frame = j.1.frame; lower = omega arith; taller = omega arith },
            j.1.order ∙ sym (ap (without P) w ∙ edited_here P (λ x. []) (row o.a) (at, n.entry) (row o.b) nl here_at nr),
            same_Some p (at, n.entry) (sym here ∙ ap (find P) w ∙ first_here P (row o.a) (at, n.entry) (row o.b) nl here_at),
          )
