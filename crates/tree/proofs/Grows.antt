-- The steps of an insertion.
use Rattle.std.proofs.Common.{◌≡◌, ℕ, ◌<◌, Bool, true, false, cond, ◌⊎◌, List, [], ◌∷◌, ◌++◌, Some, None, Option, sym, refl, ap, ◌∙◌, subst, inl, inr, arith}
use Rattle.std.proofs.lemmas.Option.{none-some}
use Rattle.std.specs.Cmp.{IsTotalOrder}
use Rattle.tree.specs.declared.fork.Fork.{Fork}
use Rattle.tree.specs.declared.node.Node.{Node}
use Rattle.tree.specs.declared.side.Side.TheVariants.{Left}
use Rattle.tree.specs.Changes.{Changed, Free}
use Rattle.tree.specs.Joins.{Putted, Ready, Joins}
use Rattle.std.specs.List.{find}
use Rattle.tree.specs.Lists.{placed}
use Rattle.tree.specs.Orders.{Order, past, at_key, Rising}
use Rattle.tree.specs.Shape.{Shape, leaf, node, over, row, by_entry, In, Distinct, stored_height}
use Rattle.tree.specs.Sides.{fork_of, between, side_of}
use Rattle.tree.specs.Sound.{Sound}
use Rattle.tree.proofs.Descends.{onto, opens_row, falls, ready_back, changed_back, rises, sound_near}
use Rattle.tree.proofs.Mirrors.{in_near, row_over, Parted, put_over}
use Rattle.tree.proofs.Ordered.{No, Goes, first_between, side_same, goes_not, no_far, placed_between, same_at, first_here, no_left}
use Rattle.tree.proofs.Trees.{none_leaf}

module _ {E K : Type 0} (O : Order E K) where
  in_cond : (b : Bool) (k : ℕ) (xs ys : List (ℕ × E)) → In k (cond b xs ys) → In k xs ⊎ In k ys
  in_cond true k xs ys h = inl h
  in_cond false k xs ys h = inr h

  pub in_placed : (k : ℕ) (p : ℕ × E) (xs : List (ℕ × E)) → In k (placed (by_entry O) p xs) → (k ≡ p.0) ⊎ In k xs
  in_placed k p [] h = h
  in_placed k p (x ∷ xs) h =
      elim (in_cond (past O (O.key p.1) x.1) k (p ∷ (x ∷ xs)) (x ∷ placed (by_entry O) p xs) h) [ inl a ↦ a | inr (inl a) ↦ inr (inl a) | inr (inr a) ↦ elim (in_placed k p xs a) [ inl q ↦ inl q | inr q ↦ inr (inr q) ] ]

  distinct_cond : (b : Bool) (xs ys : List (ℕ × E)) → Distinct xs → Distinct ys → Distinct (cond b xs ys)
  distinct_cond true xs ys h i = h
  distinct_cond false xs ys h i = i

  pub distinct_placed : (p : ℕ × E) (xs : List (ℕ × E)) → Distinct xs → (In p.0 xs → ⊥) → Distinct (placed (by_entry O) p xs)
  distinct_placed p [] d new = (λ h. h, tt)
  distinct_placed p (x ∷ xs) d new =
      distinct_cond (past O (O.key p.1) x.1) (p ∷ (x ∷ xs)) (x ∷ placed (by_entry O) p xs) (new, d)
      (λ h. elim (in_placed x.0 p xs h) [ inl q ↦ new (inl (sym q)) | inr q ↦ d.0 q ], distinct_placed p xs d.1 (λ h. new (inr h)))

-- what an insertion gives
abbrev pub Grown : {E K Z : Type 0} → (Z → List E → Type 0) → Order E K → List (Node E Z) → ℕ → E → Shape E → List (Node E Z) → Option ℕ → Type 0
Grown {E} M O xs slot e t ys top = (u : Shape E) × Changed M xs t ys top u × (row u ≡ placed (by_entry O) (slot, e) (row t))

module _ {E K Z : Type 0} {M : Z → List E → Type 0} {O : Order E K} (L : IsTotalOrder O.cmp) where
  -- into the empty tree
  pub grown_leaf : {xs ys : List (Node E Z)} {root : Option ℕ} {slot : ℕ} {e : E} {t : Shape E} → root ≡ None → Sound M O xs root t → Free O xs slot e t → Putted M xs (record { at = slot; entry = e; side = Left; near = None; far = None }) ys → Grown M O xs slot e t ys (Some slot)
  grown_leaf {xs} {ys} {root} {slot} {e} {t} none S F q = subst (λ (x : Shape E). Grown M O xs slot e x ys (Some slot)) (sym (none_leaf M xs t (sym none ∙ S.fit.stands.0, S.fit.stands.1))) new
    where
      new : Grown M O xs slot e leaf ys (Some slot)
      new =
          let P = put_over M xs ys (record { at = slot; entry = e; side = Left; near = None; far = None }) leaf leaf q F.within (refl, tt) (refl, tt) (omega arith) (omega arith) (λ h. h) (λ h. h) in
          (node leaf slot e leaf, record { stands = P.stands; avl = (omega arith, omega arith, tt, tt); frame = P.frame _ (inl refl); lower = omega arith; taller = omega arith }, refl)

  module _ {xs : List (Node E Z)} {root : Option ℕ} {slot : ℕ} {e : E} {t : Shape E} (S : Sound M O xs root t) (F : Free O xs slot e t) where
    -- the key is not the root's
    pub grown_same : {at : ℕ} (n : Node E Z) → Parted M xs (fork_of at Left n) t → side_of (O.cmp (O.key e) (O.key n.entry)) ≡ None → ⊥
    grown_same {at} n o h =
        let f = fork_of at Left n in
        let r : Rising (by_entry O) (row o.a ++ ((at, n.entry) ∷ row o.b)) = rises L S o in
        let q = side_same O (O.key e) (O.key n.entry) h in
        let P = at_key (by_entry O) (O.key e) in
        none-some (at, n.entry) (sym F.absent ∙ ap (find P) (opens_row S.fit o) ∙ first_here P (row o.a) (at, n.entry) (row o.b) (no_left (by_entry O) L (O.key e) (row o.a) (at, n.entry) (row o.b) r q) (same_at (by_entry O) (O.key e) (at, n.entry) q))

    module _ {f : Fork E} (o : Parted M xs f t) (g : Goes O f.side (O.key e) (O.key f.entry)) where
      none_far : No (at_key (by_entry O) (O.key e)) (row o.b)
      none_far = no_far (by_entry O) L f.side (O.key e) (row o.a) (f.at, f.entry) (row o.b) (rises L S o) g

      near_free : Free O xs slot e o.a
      near_free =
          let w = opens_row S.fit o in
          let P = at_key (by_entry O) (O.key e) in
          record {
            within = F.within;
            new = λ h. F.new (subst (In slot) (sym w) (in_near f.side slot (row o.a) (f.at, f.entry) (row o.b) h));
            absent = sym (first_between P f.side (row o.a) (f.at, f.entry) (row o.b) (goes_not (by_entry O) L f.side (O.key e) (f.at, f.entry) g) none_far) ∙ sym (ap (find P) w) ∙ F.absent;
          }

      -- what the call for the near side asks
      pub grow_down : (stored_height xs f.near < stored_height xs root) × ((a : Shape E) × Sound M O xs f.near a × Free O xs slot e a)
      grow_down = (falls S.fit o, (o.a, sound_near L S o, near_free))

      -- after that call
      module _ {ys : List (Node E Z)} {near : Option ℕ} (ih : (a : Shape E) → Sound M O xs f.near a → Free O xs slot e a → Grown M O xs slot e a ys near) where
        grown : Grown M O xs slot e o.a ys near
        grown = ih o.a (sound_near L S o) near_free

        grown_row : placed (by_entry O) (slot, e) (row t) ≡ between f.side (row grown.0) (f.at, f.entry) (row o.b)
        grown_row =
            ap (placed (by_entry O) (slot, e)) (opens_row S.fit o)
            ∙ placed_between (by_entry O) L f.side (slot, e) (row o.a) (f.at, f.entry) (row o.b) (rises L S o) g
            ∙ ap (λ (u : List (ℕ × E)). between f.side u (f.at, f.entry) (row o.b)) (sym grown.2)

        grown_once : Distinct (between f.side (row grown.0) (f.at, f.entry) (row o.b))
        grown_once = subst Distinct grown_row (distinct_placed O (slot, e) (row t) S.fit.once F.new)

        grown_ready : Ready M ys (onto f near) grown.0 o.b
        grown_ready = ready_back S.fit o grown.1 grown_once

        pub grow_ready : (a : Shape E) × (b : Shape E) × Ready M ys (onto f near) a b
        grow_ready = (grown.0, o.b, grown_ready)

        pub grow_back : {zs : List (Node E Z)} {top : ℕ} → ((a b : Shape E) → Ready M ys (onto f near) a b → (u : Shape E) × Joins M ys (over f a b) zs top u) → Grown M O xs slot e t zs (Some top)
        grow_back join =
            let j = join grown.0 o.b grown_ready in
            (j.0, changed_back S.fit o grown.1 grown_once j.1, j.1.order ∙ row_over f grown.0 o.b ∙ sym grown_row)
