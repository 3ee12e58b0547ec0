-- The steps of a writing of one entry in place of another, and of a move to a free slot.
use Rattle.std.proofs.Common.{◌≡◌, ℕ, ◌<◌, ◌≤◌, ◌≢◌, false, List, [], ◌∷◌, ◌++◌, length, get_or, Some, None, Option, unwrap_or, sym, refl, ap, ◌∙◌, subst, inl, inr, arith}
use Rattle.std.proofs.lemmas.List.{get_or_default}
use Rattle.std.specs.List.{AllByRecursion}
use Rattle.std.proofs.lemmas.Cmp.{tied_itself}
use Rattle.std.specs.Cmp.{IsTotalOrder}
use Rattle.tree.specs.declared.fork.Fork.{Fork}
use Rattle.tree.specs.declared.node.Node.{Node}
use Rattle.tree.specs.declared.side.Side.TheVariants.{Left}
use Rattle.tree.specs.Changes.{Changed, Vacant, reseated, Gap, Filled}
use Rattle.tree.specs.Joins.{Putted, Ready, Joins}
use Rattle.std.specs.List.{find}
use Rattle.tree.specs.Orders.{Order, at_key, Rising}
use Rattle.tree.specs.Shape.{Shape, leaf, node, over, tall, row, ents, by_entry, In, Distinct, record_over, Linked, stored_height}
use Rattle.tree.specs.Sides.{fork_of, between, side_of}
use Rattle.tree.specs.Sound.{Sound}
use Rattle.tree.proofs.Descends.{onto, opens_row, opens_level, opens_tall, opens_once, falls, ready_back, changed_back, rises, sound_near}
use Rattle.tree.proofs.Heights.{low, at_slot}
use Rattle.tree.proofs.Kept.{unused_part, seat_within, seat_new, out_in, out_new, swap_once, swap_rising, swap_row}
use Rattle.tree.proofs.Mirrors.{row_over, in_near, Parted, put_over}
use Rattle.tree.proofs.Ordered.{No, Goes, found, first_between, edited_between, side_same, goes_not, no_far, same_at, first_here, edited_here, no_left, no_right, all_append, all_right}
use Rattle.tree.proofs.Slots.{parts, in_left, in_right, in_drop}
use Rattle.tree.proofs.Trees.{ents_node}

-- each slot of a tree has its entry in the table
pub entries_stored : {E Z : Type 0} (M : Z → List E → Type 0) (xs : List (Node E Z)) (t : Shape E) → Linked M xs t → AllByRecursion (λ q. (m : Node E Z) → m ≡ get_or xs q.0 m → m.entry ≡ q.1) (row t)
entries_stored M xs leaf h = tt
entries_stored {E} {Z} M xs (node l s e r) h =
    let R = h.0 in
    all_append (λ q. (m : Node E Z) → m ≡ get_or xs q.0 m → m.entry ≡ q.1) (row l) ((s, e) ∷ row r) (entries_stored M xs l h.1)
    (λ m read. ap (λ (x : Node E Z). x.entry) (read ∙ get_or_default xs s m (record_over e l r R.sum) R.within ∙ sym R.is), entries_stored M xs r h.2)

-- what a writing gives
abbrev pub Renewed : {E K Z : Type 0} → (Z → List E → Type 0) → Order E K → List (Node E Z) → Option ℕ → E → Shape E → List (Node E Z) → Option ℕ → Type 0
Renewed {E} M O xs to e t ys top = (u : Shape E) × Changed M xs t ys top u × (row u ≡ reseated O to e (row t))

module _ {E K Z : Type 0} {M : Z → List E → Type 0} {O : Order E K} (L : IsTotalOrder O.cmp) where
  module _ {xs : List (Node E Z)} {root to : Option ℕ} {e : E} {t : Shape E} {p : ℕ × E} (S : Sound M O xs root t) (V : Vacant O xs to e p t) where
    module _ {f : Fork E} (o : Parted M xs f t) (g : Goes O f.side (O.key e) (O.key f.entry)) where
      none_far : No (at_key (by_entry O) (O.key e)) (row o.b)
      none_far = no_far (by_entry O) L f.side (O.key e) (row o.a) (f.at, f.entry) (row o.b) (rises L S o) g

      not_here : at_key (by_entry O) (O.key e) (f.at, f.entry) ≡ false
      not_here = goes_not (by_entry O) L f.side (O.key e) (f.at, f.entry) g

      near_vacant : Vacant O xs to e p o.a
      near_vacant =
          let w = opens_row S.fit o in
          let P = at_key (by_entry O) (O.key e) in
          record {
            there = sym (first_between P f.side (row o.a) (f.at, f.entry) (row o.b) not_here none_far) ∙ sym (ap (find P) w) ∙ V.there;
            unused = unused_part xs to (row t) (row o.a) (λ k i. subst (In k) (sym w) (in_near f.side k (row o.a) (f.at, f.entry) (row o.b) i)) V.unused;
          }

      -- what the call for the near side asks
      pub renew_down : (stored_height xs f.near < stored_height xs root) × ((a : Shape E) × (q : ℕ × E) × Sound M O xs f.near a × Vacant O xs to e q a)
      renew_down = (falls S.fit o, (o.a, p, sound_near L S o, near_vacant))

      -- after that call
      module _ {ys : List (Node E Z)} {near : Option ℕ} (ih : (a : Shape E) (q : ℕ × E) → Sound M O xs f.near a → Vacant O xs to e q a → Renewed M O xs to e a ys near) where
        new : Renewed M O xs to e o.a ys near
        new = ih o.a p (sound_near L S o) near_vacant

        new_row : reseated O to e (row t) ≡ between f.side (row new.0) (f.at, f.entry) (row o.b)
        new_row =
            ap (reseated O to e) (opens_row S.fit o)
            ∙ edited_between (at_key (by_entry O) (O.key e)) (λ q. (unwrap_or to q.0, e) ∷ []) f.side (row o.a) (f.at, f.entry) (row o.b) not_here none_far
            ∙ ap (λ (u : List (ℕ × E)). between f.side u (f.at, f.entry) (row o.b)) (sym new.2)

        new_once : Distinct (between f.side (row new.0) (f.at, f.entry) (row o.b))
        new_once =
            let F = found (by_entry O) L (O.key e) (row t) p S.rising V.there in
            subst Distinct (sym (swap_row O L (row t) p to e F) ∙ new_row) (swap_once O L (O.key e) (row t) p S.fit.once F xs to e V.unused)

        new_ready : Ready M ys (onto f near) new.0 o.b
        new_ready = ready_back S.fit o new.1 new_once

        pub renew_ready : (a : Shape E) × (b : Shape E) × Ready M ys (onto f near) a b
        renew_ready = (new.0, o.b, new_ready)

        pub renew_back : {zs : List (Node E Z)} {top : ℕ} → ((a b : Shape E) → Ready M ys (onto f near) a b → (u : Shape E) × Joins M ys (over f a b) zs top u) → Renewed M O xs to e t zs (Some top)
        renew_back join =
            let j = join new.0 o.b new_ready in
            (j.0, changed_back S.fit o new.1 new_once j.1, j.1.order ∙ row_over f new.0 o.b ∙ sym new_row)

    -- in place of the root's own entry
    pub renew_here : {at : ℕ} (n : Node E Z) → Parted M xs (fork_of at Left n) t → {ys : List (Node E Z)} {place : ℕ} → place ≡ unwrap_or to at → side_of (O.cmp (O.key e) (O.key n.entry)) ≡ None → {h : Fork E} → h ≡ fork_of at Left n → Putted M xs (record h { at = place; entry = e }) ys → Renewed M O xs to e t ys (Some place)
    renew_here {at} n o {ys} {place} pe same ge put =
        let f = fork_of at Left n in
        let q = subst (λ (x : Fork E). Putted M xs (record x { at = place; entry = e }) ys) ge put in
        let F = S.fit in
        let v = opens_level F o in
        let h = opens_tall F o in
        let i = low M xs t q.small F.avl F.once F.stands.1 in
        let w = opens_row F o in
        let r = rises L S o in
        let k = side_same O (O.key e) (O.key n.entry) same in
        let P = at_key (by_entry O) (O.key e) in
        let c = parts (row o.a) (at, n.entry) (row o.b) (opens_once F o) in
        let inc : (x : Shape E) → ((j : ℕ) → In j (row x) → In j (row o.a ++ ((at, n.entry) ∷ row o.b))) → (In at (row x) → ⊥) → In place (row x) → ⊥ = λ x f no b. seat_new xs to (row t) (row x) at V.unused (λ j y. subst (In j) (sym w) (f j y)) no (subst (λ (s : ℕ). In s (row x)) pe b) in
        let na = inc o.a (λ j y. in_left j (row o.a) ((at, n.entry) ∷ row o.b) y) c.new_left in
        let nb = inc o.b (λ j y. in_right j (row o.a) ((at, n.entry) ∷ row o.b) (inr y)) c.new_right in
        let within : place < length xs = subst (λ (s : ℕ). s < length xs) (sym pe) (seat_within xs to (row t) at V.unused o.within) in
        let la : tall o.a < 255 = omega arith in
        let lb : tall o.b < 255 = omega arith in
        let U = put_over M xs ys (record f { at = place; entry = e }) o.a o.b q within o.nears o.fars la lb na nb in (
          node o.a place e o.b,
          record {
            stands = U.stands;
            avl = (v.near, v.far, v.avl_near, v.avl_far);
            frame = U.frame (row (node o.a place e o.b)) (in_right place (row o.a) ((place, e) ∷ row o.b) (inl refl));
            lower = omega arith;
            taller = omega arith;
          },
          ap (λ (s : ℕ). row o.a ++ ((s, e) ∷ row o.b)) pe ∙ sym (ap (reseated O to e) w ∙ edited_here P (λ x. (unwrap_or to x.0, e) ∷ []) (row o.a) (at, n.entry) (row o.b) (no_left (by_entry O) L (O.key e) (row o.a) (at, n.entry) (row o.b) r k) (same_at (by_entry O) (O.key e) (at, n.entry) k) (no_right (by_entry O) L (O.key e) (row o.a) (at, n.entry) (row o.b) r k)),
        )

  -- ---- the move of the last entry
  module _ {xs : List (Node E Z)} {root : Option ℕ} {slot last : ℕ} {t : Shape E} (S : Sound M O xs root t) (G : Gap xs slot last t) where
    pub fill_stays : last ≤ slot → (u : Shape E) × Filled M O xs last t xs root u
    fill_stays le = (
      t,
      record {
        sound = S;
        long = refl;
        same = refl;
        used = λ k i.
            let h : k ≤ last = G.used k i in
            let b = G.before in
            let ne : k ≢ last = λ q. let es : k ≡ slot = omega arith in G.free (subst (λ (x : ℕ). In x (row t)) es i) in
            omega arith;
      },
    )

    module _ (lt : slot < last) (m : Node E Z) (read : m ≡ get_or xs last m) where
      last_there : find (at_key (by_entry O) (O.key m.entry)) (row t) ≡ Some (last, m.entry)
      last_there = elim (at_slot last (row t)) [
        | inl c ↦
            let f : m.entry ≡ c.1 = (all_right (λ q. (x : Node E Z) → x ≡ get_or xs q.0 x → x.entry ≡ q.1) c.0 ((last, c.1) ∷ c.2) (subst (AllByRecursion (λ q. (x : Node E Z) → x ≡ get_or xs q.0 x → x.entry ≡ q.1)) c.3 (entries_stored M xs t S.fit.stands.1))).0 m read in
            let is : row t ≡ c.0 ++ ((last, m.entry) ∷ c.2) = c.3 ∙ ap (λ (x : E). c.0 ++ ((last, x) ∷ c.2)) (sym f) in
            let r : Rising (by_entry O) (c.0 ++ ((last, m.entry) ∷ c.2)) = subst (Rising (by_entry O)) is S.rising in
            ap (find (at_key (by_entry O) (O.key m.entry))) is ∙ first_here (at_key (by_entry O) (O.key m.entry)) c.0 (last, m.entry) c.2 (no_left (by_entry O) L (O.key m.entry) c.0 (last, m.entry) c.2 r (tied_itself L (O.key m.entry))) (same_at (by_entry O) (O.key m.entry) (last, m.entry) (tied_itself L (O.key m.entry)))
        | inr gone ↦ absurd (gone (G.there lt))
      ]

      last_vacant : Vacant O xs (Some slot) m.entry (last, m.entry) t
      last_vacant = record { there = last_there; unused = (omega (arith, G.within), G.free) }

      pub fill_down : (x : Shape E) × (p : ℕ × E) × Sound M O xs root x × Vacant O xs (Some slot) m.entry p x
      fill_down = (t, (last, m.entry), S, last_vacant)

      pub fill_moved : {ys : List (Node E Z)} {top : ℕ} → ((x : Shape E) (p : ℕ × E) → Sound M O xs root x → Vacant O xs (Some slot) m.entry p x → Renewed M O xs (Some slot) m.entry x ys (Some top)) → (u : Shape E) × Filled M O xs last t ys (Some top) u
      fill_moved renew =
          let R = renew t (last, m.entry) S last_vacant in
          let k = O.key m.entry in
          let F = found (by_entry O) L k (row t) (last, m.entry) S.rising last_there in
          let w : row R.0 ≡ F.before ++ ((slot, m.entry) ∷ F.after) = R.2 ∙ swap_row O L (row t) (last, m.entry) (Some slot) m.entry F in
          let long = R.1.frame.long in (
            R.0,
            record {
              sound = record {
                fit = record {
                  stands = R.1.stands;
                  avl = R.1.avl;
                  once = subst Distinct (sym w) (swap_once O L k (row t) (last, m.entry) S.fit.once F xs (Some slot) m.entry last_vacant.unused);
                };
                rising = subst (Rising (by_entry O)) (sym w) (swap_rising O L k (row t) (last, m.entry) S.fit.once F slot m.entry refl S.rising);
              };
              long = long;
              same = ap ents w ∙ ents_node F.before (slot, m.entry) F.after ∙ sym (ap ents F.is ∙ ents_node F.before (last, m.entry) F.after);
              used = λ j i. elim (in_drop j F.before (slot, m.entry) F.after (subst (In j) w i)) [
                | inl q ↦ omega (arith, q, lt)
                | inr b ↦
                    let le : j ≤ last = G.used j (out_in O L k (row t) (last, m.entry) S.fit.once F j b) in
                    let ne : j ≢ last = λ q. out_new O L k (row t) (last, m.entry) S.fit.once F (subst (λ (x : ℕ). In x (F.before ++ F.after)) q b) in
                    omega arith
              ];
            },
          )
