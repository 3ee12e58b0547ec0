-- The rotations, on trees in a table.
use Rattle.std.proofs.Common.{◌≡◌, ℕ, ◌+◌, ◌^◌, ◌<◌, ◌≤◌, List, length, get_or, Some, Option, sym, refl, ap, ◌∙◌, subst, arith}
use Rattle.tree.specs.declared.fork.Fork.{Fork}
use Rattle.tree.specs.declared.node.Node.{Node}
use Rattle.tree.specs.Joins.{Within, Putted, Ready, Joins}
use Rattle.tree.specs.Shape.{Shape, over, tall, row, In, Distinct, Stands, stored_height}
use Rattle.tree.specs.Sides.{fork_of, mirrored, between}
use Rattle.tree.proofs.Descends.{onto}
use Rattle.tree.proofs.Heights.{low}
use Rattle.tree.proofs.Mirrors.{row_over, between_assoc, parts_over, over_near, over_far, over_here, tall_over, avl_over, level, over_mirrored, Parted, parted, parted_within, put_over}
use Rattle.tree.proofs.Trees.{height_stands, stands_within, stands_reaches, frame_then}

-- the fork over another subtree on its other side
abbrev pub beside : {E : Type 0} → Fork E → Option ℕ → Fork E
beside f far = record f { far = far }

-- the fork of a node that is lower on the same side
abbrev pub below : {E : Type 0} → Fork E → ℕ → E → Option ℕ → Option ℕ → Fork E
below f k e near far = record { at = k; entry = e; side = f.side; near = near; far = far }

module _ {E Z : Type 0} {M : Z → List E → Type 0} {xs : List (Node E Z)} {f : Fork E} where
  -- heights fit a byte
  lows : {a b : Shape E} → Ready M xs f a b → length xs < 2 ^ 64 → (tall a < 254) × (tall b < 254)
  lows {a} {b} R small =
      let p = parts_over f a b R.once in
      (low M xs a small R.avl_near p.lefts R.nears.1, low M xs b small R.avl_far p.rights R.fars.1)

  -- no rotation
  pub joins_here : {a b : Shape E} → Ready M xs f a b → tall a ≤ tall b + 1 → tall b ≤ tall a + 1 → {ys : List (Node E Z)} → Putted M xs f ys → Joins M xs (over f a b) ys f.at (over f a b)
  joins_here {a} {b} R ha hb {ys} q =
      let p = parts_over f a b R.once in
      let lo = lows R q.small in
      let la : tall a < 255 = omega arith in
      let lb : tall b < 255 = omega arith in
      let P = put_over M xs ys f a b q R.within R.nears R.fars la lb p.new_left p.new_right in
      record {
        stands = P.stands;
        avl = avl_over f a b ha hb R.avl_near R.avl_far;
        order = refl;
        frame = P.frame (row (over f a b)) (over_here f a b);
        taller = omega arith;
        lower = omega arith;
        even = λ v. refl;
      }

  -- the near side is too high, by its outer subtree o: one rotation away from that side
  module _ (k : ℕ) (g : E) (outer inner : Option ℕ) (o i b : Shape E) (R : Ready M xs f (over (below f k g outer inner) o i) b) (so : Stands M xs outer o) (si : Stands M xs inner i) (high : tall b + 1 < tall (over (below f k g outer inner) o i)) where
    once_order : row (over (below f k g outer inner) o (over f i b)) ≡ row (over f (over (below f k g outer inner) o i) b)
    once_order =
        let h = below f k g outer inner in
        row_over h o (over f i b)
        ∙ ap (λ (u : List (ℕ × E)). between f.side (row o) (k, g) u) (row_over f i b)
        ∙ between_assoc f.side (row o) (k, g) (row i) (f.at, f.entry) (row b)
        ∙ ap (λ (u : List (ℕ × E)). between f.side u (f.at, f.entry) (row b)) (sym (row_over h o i))
        ∙ sym (row_over f (over h o i) b)

    pub single : tall i ≤ tall o → k < length xs → (ys zs : List (Node E Z)) → Putted M xs (onto f inner) ys → Putted M ys (beside (below f k g outer inner) (Some f.at)) zs → Joins M xs (over f (over (below f k g outer inner) o i) b) zs k (over (below f k g outer inner) o (over f i b))
    single lean within ys zs q qz =
        let h = below f k g outer inner in
        let A = over h o i in
        let B = over f i b in
        let t = over h o B in
        let tb = tall_over f i b in
        let tn = tall_over h o i in
        let tt = tall_over h o B in
        let tw = tall_over f A b in
        let v = level h o i R.avl_near in
        let lo = lows R q.small in
        let cn = R.close_near in
        let d : Distinct (row t) = subst Distinct (sym once_order) R.once in
        let p = parts_over h o B d in
        let pb = parts_over f i b p.rights in
        let inb : In f.at (row B) = over_here f i b in
        let li : tall i < 255 = omega arith in
        let lb : tall b < 255 = omega arith in
        let P = put_over M xs ys (onto f inner) i b q R.within si R.fars li lb pb.new_left pb.new_right in
        let long = P.long in
        let wz : k < length ys = omega arith in
        let lo1 : tall o < 255 = omega arith in
        let lo2 : tall B < 255 = omega arith in
        let Q = put_over M ys zs (beside h (Some f.at)) o B qz wz (P.others outer o (λ j. p.apart f.at j inb) so) P.stands lo1 lo2 p.new_left p.new_right in
        record {
          stands = Q.stands;
          avl = avl_over h o B (omega arith) (omega arith) v.avl_near (avl_over f i b (omega arith) (omega arith) v.avl_far R.avl_far);
          order = once_order;
          frame = frame_then (P.frame (row t) (over_far h o B f.at inb)) (Q.frame (row t) (over_here h o B));
          taller = omega arith;
          lower = omega arith;
          even = λ w. let x = level f A b w in absurd (omega (arith, x.near));
        }

  -- the same by its inner subtree, whose root n at j comes up
  module _ (k : ℕ) (g : E) (outer inner : Option ℕ) (j : ℕ) (n : E) (p₁ p₂ : Option ℕ) (o x y b : Shape E) (R : Ready M xs f (over (below f k g outer inner) o (over (below f j n p₁ p₂) x y)) b) (so : Stands M xs outer o) (sx : Stands M xs p₁ x) (sy : Stands M xs p₂ y) (high : tall b + 1 < tall (over (below f k g outer inner) o (over (below f j n p₁ p₂) x y))) where
    twice_order : row (over (below f j n p₁ p₂) (over (below f k g outer inner) o x) (over f y b)) ≡ row (over f (over (below f k g outer inner) o (over (below f j n p₁ p₂) x y)) b)
    twice_order =
        let h = below f k g outer inner in
        let m = below f j n p₁ p₂ in
        row_over m (over h o x) (over f y b)
        ∙ ap (λ (u : List (ℕ × E)). between f.side (row (over h o x)) (j, n) u) (row_over f y b)
        ∙ between_assoc f.side (row (over h o x)) (j, n) (row y) (f.at, f.entry) (row b)
        ∙ ap (λ (u : List (ℕ × E)). between f.side (between f.side u (j, n) (row y)) (f.at, f.entry) (row b)) (row_over h o x)
        ∙ ap (λ (u : List (ℕ × E)). between f.side u (f.at, f.entry) (row b)) (sym (between_assoc f.side (row o) (k, g) (row x) (j, n) (row y)) ∙ ap (λ (u : List (ℕ × E)). between f.side (row o) (k, g) u) (sym (row_over m x y)) ∙ sym (row_over h o (over m x y)))
        ∙ sym (row_over f (over h o (over m x y)) b)

    pub double : tall o < tall (over (below f j n p₁ p₂) x y) → k < length xs → j < length xs → (ys zs ws : List (Node E Z)) → Putted M xs (beside (below f k g outer inner) p₁) ys → Putted M ys (onto f p₂) zs → Putted M zs (beside (onto (below f j n p₁ p₂) (Some k)) (Some f.at)) ws → Joins M xs (over f (over (below f k g outer inner) o (over (below f j n p₁ p₂) x y)) b) ws j (over (below f j n p₁ p₂) (over (below f k g outer inner) o x) (over f y b))
    double lean wk wj ys zs ws q qz qw =
        let h = below f k g outer inner in
        let m = below f j n p₁ p₂ in
        let C = over m x y in
        let D = over h o C in
        let A = over h o x in
        let B = over f y b in
        let t = over m A B in
        let ta = tall_over h o x in
        let tb = tall_over f y b in
        let tm = tall_over m x y in
        let tn = tall_over h o C in
        let tt = tall_over m A B in
        let tw = tall_over f D b in
        let v = level h o C R.avl_near in
        let u = level m x y v.avl_far in
        let lo = lows R q.small in
        let cn = R.close_near in
        let d : Distinct (row t) = subst Distinct (sym twice_order) R.once in
        let p = parts_over m A B d in
        let pa = parts_over h o x p.lefts in
        let pb = parts_over f y b p.rights in
        let ina : In k (row A) = over_here h o x in
        let inb : In f.at (row B) = over_here f y b in
        let l1 : tall o < 255 = omega arith in
        let l2 : tall x < 255 = omega arith in
        let l3 : tall y < 255 = omega arith in
        let l4 : tall A < 255 = omega arith in
        let l5 : tall B < 255 = omega arith in
        let lb : tall b < 255 = omega arith in
        let P = put_over M xs ys (beside h p₁) o x q wk so sx l1 l2 pa.new_left pa.new_right in
        let long = P.long in
        let w2 : f.at < length ys = omega (arith, R.within) in
        let Q = put_over M ys zs (onto f p₂) y b qz w2 (P.others p₂ y (λ i. p.apart k ina (over_near f y b k i)) sy) (P.others f.far b (λ i. p.apart k ina (over_far f y b k i)) R.fars) l3 lb pb.new_left pb.new_right in
        let longz = Q.long in
        let w3 : j < length zs = omega arith in
        let S = put_over M zs ws (beside (onto m (Some k)) (Some f.at)) A B qw w3 (Q.others (Some k) A (λ i. p.apart f.at i inb) P.stands) Q.stands l4 l5 p.new_left p.new_right in
        record {
          stands = S.stands;
          avl = avl_over m A B (omega arith) (omega arith) (avl_over h o x (omega arith) (omega arith) v.avl_near u.avl_near) (avl_over f y b (omega arith) (omega arith) u.avl_far R.avl_far);
          order = twice_order;
          frame = frame_then (frame_then (P.frame (row t) (over_near m A B k ina)) (Q.frame (row t) (over_far m A B f.at inb))) (S.frame (row t) (over_here m A B));
          taller = omega arith;
          lower = omega arith;
          even = λ w. let z = level f D b w in absurd (omega (arith, z.near));
        }

  -- over any tree whose root is at k, as the code meets it
  module _ {a b : Shape E} (R : Ready M xs f a b) (high : tall b + 1 < tall a) {k : ℕ} (at_k : f.near ≡ Some k) where
    near_stands : Stands M xs (Some k) a
    near_stands = (sym at_k ∙ R.nears.0, R.nears.1)

    pub near_within : k < length xs
    near_within = stands_within M xs k a near_stands

    module _ (n : Node E Z) (read : n ≡ get_or xs k n) where
      near_parted : Parted M xs (fork_of k f.side n) a
      near_parted = parted M f.side xs k n a read near_stands

      near_ready : Ready M xs f (over (fork_of k f.side n) near_parted.a near_parted.b) b
      near_ready = subst (λ (x : Shape E). Ready M xs f x b) near_parted.is R

      -- it stands in the table with its links, as does the root of its inner subtree
      pub outer_within : {h : Fork E} → h ≡ fork_of k f.side n → Within xs h
      outer_within he = subst (Within xs) (sym he) (parted_within M near_parted)

      pub inner_within : {h : Fork E} → h ≡ fork_of k f.side n → {j : ℕ} → h.far ≡ Some j → (m : Node E Z) → m ≡ get_or xs j m → {i : Fork E} → i ≡ fork_of j f.side m → Within xs i
      inner_within he {j} at_j m readm ie =
          let o = near_parted in
          let s : Stands M xs (Some j) o.b = (sym at_j ∙ ap (λ (g : Fork E). g.far) he ∙ o.fars.0, o.fars.1) in
          subst (Within xs) (sym ie) (parted_within M (parted M f.side xs j m o.b readm s))

      pub rotated_once : {h : Fork E} → h ≡ fork_of k f.side n → stored_height xs h.far ≤ stored_height xs h.near → {ys zs : List (Node E Z)} → Putted M xs (onto f h.far) ys → Putted M ys (beside h (Some f.at)) zs → (t : Shape E) × Joins M xs (over f a b) zs k t
      rotated_once {h} he lean {ys} {zs} = subst (λ (g : Fork E). stored_height xs g.far ≤ stored_height xs g.near → (ys zs : List (Node E Z)) → Putted M xs (onto f g.far) ys → Putted M ys (beside g (Some f.at)) zs → (t : Shape E) × Joins M xs (over f a b) zs k t) (sym he) once lean ys zs
        where
          once : stored_height xs (fork_of k f.side n).far ≤ stored_height xs (fork_of k f.side n).near → (ys zs : List (Node E Z)) → Putted M xs (onto f (fork_of k f.side n).far) ys → Putted M ys (beside (fork_of k f.side n) (Some f.at)) zs → (t : Shape E) × Joins M xs (over f a b) zs k t
          once lean ys zs q qz =
              let g = fork_of k f.side n in
              let o = near_parted in
              let h1 = height_stands M xs g.near o.a o.nears in
              let h2 = height_stands M xs g.far o.b o.fars in
              let J = single k n.entry g.near g.far o.a o.b b near_ready o.nears o.fars (subst (λ (x : Shape E). tall b + 1 < tall x) o.is high) (omega arith) near_within ys zs q qz in
              (_, subst (λ (x : Shape E). Joins M xs (over f x b) zs k (over g o.a (over f o.b b))) (sym o.is) J)

      pub rotated_twice : {h : Fork E} → h ≡ fork_of k f.side n → stored_height xs h.near < stored_height xs h.far → {j : ℕ} → h.far ≡ Some j → (m : Node E Z) → m ≡ get_or xs j m → {i : Fork E} → i ≡ fork_of j f.side m → {ys zs ws : List (Node E Z)} → Putted M xs (beside h i.near) ys → Putted M ys (onto f i.far) zs → Putted M zs (beside (onto i (Some k)) (Some f.at)) ws → (t : Shape E) × Joins M xs (over f a b) ws j t
      rotated_twice {h} he lean {j} at_j m readm ie {ys} {zs} {ws} =
          subst (λ (g : Fork E). (ys zs ws : List (Node E Z)) → Putted M xs (beside h g.near) ys → Putted M ys (onto f g.far) zs → Putted M zs (beside (onto g (Some k)) (Some f.at)) ws → (t : Shape E) × Joins M xs (over f a b) ws j t) (sym ie)
          (subst (λ (g : Fork E). stored_height xs g.near < stored_height xs g.far → g.far ≡ Some j → (ys zs ws : List (Node E Z)) → Putted M xs (beside g (fork_of j f.side m).near) ys → Putted M ys (onto f (fork_of j f.side m).far) zs → Putted M zs (beside (onto (fork_of j f.side m) (Some k)) (Some f.at)) ws → (t : Shape E) × Joins M xs (over f a b) ws j t) (sym he) twice lean at_j)
          ys zs ws
        where
          twice : stored_height xs (fork_of k f.side n).near < stored_height xs (fork_of k f.side n).far → (fork_of k f.side n).far ≡ Some j → (ys zs ws : List (Node E Z)) → Putted M xs (beside (fork_of k f.side n) (fork_of j f.side m).near) ys → Putted M ys (onto f (fork_of j f.side m).far) zs → Putted M zs (beside (onto (fork_of j f.side m) (Some k)) (Some f.at)) ws → (t : Shape E) × Joins M xs (over f a b) ws j t
          twice lean at_j ys zs ws q qz qw =
              let g = fork_of k f.side n in
              let c = fork_of j f.side m in
              let o = near_parted in
              let h1 = height_stands M xs g.near o.a o.nears in
              let h2 = height_stands M xs g.far o.b o.fars in
              let s : Stands M xs (Some j) o.b = (sym at_j ∙ o.fars.0, o.fars.1) in
              let u = parted M f.side xs j m o.b readm s in
              let is : a ≡ over g o.a (over c u.a u.b) = o.is ∙ ap (λ (x : Shape E). over g o.a x) u.is in
              let J = double k n.entry g.near g.far j m.entry c.near c.far o.a u.a u.b b (subst (λ (x : Shape E). Ready M xs f x b) is R) o.nears u.nears u.fars (subst (λ (x : Shape E). tall b + 1 < tall x) is high) (subst (λ (x : Shape E). tall o.a < tall x) u.is (omega arith)) near_within u.within ys zs ws q qz qw in
              (_, subst (λ (x : Shape E). Joins M xs (over f x b) ws j (over c (over g o.a u.a) (over f u.b b))) (sym is) J)

  pub ready_heights : {a b : Shape E} → Ready M xs f a b → (stored_height xs f.near ≡ tall a) × (stored_height xs f.far ≡ tall b)
  ready_heights {a} {b} R = (height_stands M xs f.near a R.nears, height_stands M xs f.far b R.fars)

  pub ready_within : {a b : Shape E} → Ready M xs f a b → Within xs f
  ready_within {a} {b} R = (R.within, stands_reaches M xs f.near a R.nears, stands_reaches M xs f.far b R.fars)

-- the same trees, seen from the other side
module _ {E Z : Type 0} {M : Z → List E → Type 0} {xs : List (Node E Z)} (f : Fork E) {h : Fork E} (other : h ≡ mirrored f) where
  pub ready_flip : {a b : Shape E} → Ready M xs f a b → Ready M xs h b a
  ready_flip {a} {b} R = subst (λ (x : Fork E). Ready M xs x b a) (sym other) (record {
    within = R.within;
    nears = R.fars;
    fars = R.nears;
    once = subst (λ (x : Shape E). Distinct (row x)) (sym (over_mirrored f a b)) R.once;
    avl_near = R.avl_far;
    avl_far = R.avl_near;
    close_near = R.close_far;
    close_far = R.close_near;
  })

  pub joins_flip : (a b : Shape E) {ys : List (Node E Z)} {root : ℕ} → ((t : Shape E) × Joins M xs (over h b a) ys root t) → (t : Shape E) × Joins M xs (over f a b) ys root t
  joins_flip a b {ys} {root} J = (J.0, subst (λ (x : Shape E). Joins M xs x ys root J.0) (ap (λ (x : Fork E). over x b a) other ∙ over_mirrored f a b) J.1)
