-- How high an AVL tree can be: one of height h has at least fib (h + 2) - 1 nodes, and no more than its table has records.
use Rattle.std.proofs.Common.{◌≡◌, ℕ, zero, suc, ◌+◌, ◌-◌, ◌*◌, ◌^◌, ◌<◌, ◌≤◌, max, ◌≢◌, ◌⊎◌, List, [], ◌∷◌, ◌++◌, length, sym, refl, ap, subst, inl, inr, mul-le-mul, arith, length-append}
use native.Mathlib.Decide.{dec_le, ℕ_discrete}
use Rattle.tree.specs.declared.node.Node.{Node}
use Rattle.tree.specs.Heights.{fib_from, fib}
use Rattle.tree.specs.Shape.{Shape, leaf, node, tall, row, In, Distinct, Balanced, Linked}
use Rattle.tree.proofs.Slots.{parts, in_parts, in_out, distinct_out}
use Rattle.tree.proofs.Trees.{in_within}

-- ---- distinct slots below n are at most n
-- a row is cut at a slot, or lacks it
pub at_slot : {E : Type 0} (k : ℕ) (ps : List (ℕ × E)) → ((xs : List (ℕ × E)) × (e : E) × (ys : List (ℕ × E)) × (ps ≡ xs ++ ((k, e) ∷ ys))) ⊎ (In k ps → ⊥)
at_slot k [] = inr (λ h. h)
at_slot {E} k (p ∷ ps) = elim (ℕ_discrete k p.0) [
  | yes q ↦ inl ([], p.1, ps, ap (λ (j : ℕ). let c : ℕ × E = (j, p.1) in c ∷ ps) (sym q))
  | no d ↦ elim (at_slot k ps) [ inl c ↦ inl (p ∷ c.0, c.1, c.2, ap (λ (u : List (ℕ × E)). p ∷ u) c.3) | inr h ↦ inr (elim [ inl q ↦ d q | inr i ↦ h i ]) ]
]

pub few : {E : Type 0} (n : ℕ) (ps : List (ℕ × E)) → Distinct ps → ((k : ℕ) → In k ps → k < n) → length ps ≤ n
few zero [] d h = omega arith
few zero (p ∷ ps) d h = absurd (omega (arith, h p.0 (inl refl)))
few {E} (suc n) ps d h = elim (at_slot n ps) [
  | inl c ↦
      let xs = c.0 in
      let ys = c.2 in
      let d' : Distinct (xs ++ ((n, c.1) ∷ ys)) = subst Distinct c.3 d in
      let p = parts xs (n, c.1) ys d' in
      let below : (k : ℕ) → In k (xs ++ ys) → k < n = λ k i.
      let lt : k < suc n = h k (subst (In k) (sym c.3) (in_out k xs (n, c.1) ys i)) in
      let ne : k ≢ n = λ q. elim (in_parts k xs ys i) [ inl a ↦ p.new_left (subst (λ (j : ℕ). In j xs) q a) | inr b ↦ p.new_right (subst (λ (j : ℕ). In j ys) q b) ] in
      omega arith in
      let r : length (xs ++ ys) ≤ n = few n (xs ++ ys) (distinct_out xs (n, c.1) ys d') below in
      omega (arith, r, length-append xs ys, ap length c.3, length-append xs ((n, c.1) ∷ ys))
  | inr new ↦
      let below : (k : ℕ) → In k ps → k < n = λ k i.
      let lt : k < suc n = h k i in
      let ne : k ≢ n = λ q. new (subst (λ (j : ℕ). In j ps) q i) in
      omega arith in
      omega (arith, few n ps d below)
]

-- ---- the numbers of Fibonacci
from_step : (a b n : ℕ) → fib_from a b (suc (suc n)) ≡ fib_from a b (suc n) + fib_from a b n
from_step a b zero = omega arith
from_step a b (suc n) = from_step b (a + b) n

step : (n : ℕ) → fib (suc (suc n)) ≡ fib (suc n) + fib n
step n = from_step 0 1 n

fib_suc : (n : ℕ) → fib n ≤ fib (suc n)
fib_suc zero = omega arith
fib_suc (suc n) = omega (arith, step n)

fib_add : (m n : ℕ) → fib m ≤ fib (n + m)
fib_add m zero = let e : 0 + m ≡ m = omega arith in omega (arith, ap fib e)
fib_add m (suc n) = let e : suc n + m ≡ suc (n + m) = omega arith in omega (arith, fib_add m n, fib_suc (n + m), ap fib e)

pub fib_le : (m n : ℕ) → m ≤ n → fib m ≤ fib n
fib_le m n h = let e : (n - m) + m ≡ n = omega arith in omega (arith, fib_add m (n - m), ap fib e)

-- the fewest nodes of a height
pub fewest : {E : Type 0} (t : Shape E) → Balanced tall t → fib (tall t + 2) ≤ length (row t) + 1
fewest leaf v = omega arith
fewest (node l s e r) v = go (tall l) (tall r) v.0 v.1 (fewest l v.2) (fewest r v.3)
  where
    go : (x y : ℕ) → x ≤ y + 1 → y ≤ x + 1 → fib (x + 2) ≤ length (row l) + 1 → fib (y + 2) ≤ length (row r) + 1 → fib (max x y + 1 + 2) ≤ length (row l ++ ((s, e) ∷ row r)) + 1
    go x y h i fl fr =
        let m = max x y in
        let e1 : m + 1 + 2 ≡ suc (suc (suc m)) = omega arith in
        let n = length-append (row l) ((s, e) ∷ row r) in
        let t1 = step (suc m) in
        elim (dec_le x y) [
          | yes g ↦
              let ey : suc (suc m) ≡ y + 2 = omega arith in
              let lx : suc m ≤ x + 2 = omega arith in
              omega (arith, ap fib e1, t1, ap fib ey, fib_le (suc m) (x + 2) lx)
          | no g ↦
              let ex : suc (suc m) ≡ x + 2 = omega arith in
              let ly : suc m ≤ y + 2 = omega arith in
              omega (arith, ap fib e1, t1, ap fib ex, fib_le (suc m) (y + 2) ly)
        ]

-- the square of a number of Fibonacci doubles with each step
fib_double : (n : ℕ) → 2 * fib n ≤ fib (suc (suc n))
fib_double n = omega (arith, step n, fib_suc n)

pub fib_square : (n : ℕ) → 2 ^ n ≤ fib (n + 2) * fib (n + 2)
fib_square zero = omega arith
fib_square (suc zero) = omega arith
fib_square (suc (suc n)) =
    let e : suc (suc n) + 2 ≡ suc (suc (n + 2)) = omega arith in
    let d : 2 * fib (n + 2) ≤ fib (suc (suc n) + 2) = omega (arith, fib_double (n + 2), ap fib e) in
    let m = mul-le-mul d d in
    let h = fib_square n in
    omega (arith, m, h)

-- a height fits a byte
pub low : {E Z : Type 0} (M : Z → List E → Type 0) (xs : List (Node E Z)) (t : Shape E) → length xs < 2 ^ 64 → Balanced tall t → Distinct (row t) → Linked M xs t → tall t < 254
low M xs t small v d h = elim (dec_le 254 (tall t)) [
  | yes g ↦ let le : 256 ≤ tall t + 2 = omega arith in absurd (omega (arith, fib_le 256 (tall t + 2) le, fewest t v, few (length xs) (row t) d (λ k i. in_within M xs k t h i)))
  | no g ↦ omega arith
]
