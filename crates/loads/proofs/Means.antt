-- The meanings, proved.
use Rattle.std.proofs.Common.{◌≡◌, ℕ, zero, suc, ◌-◌, ◌/◌, ◌%◌, ◌^◌, ◌<◌, ◌≤◌, ◌&&◌, eqb, leb, ◌⊎◌, List, [], ◌∷◌, length, get_or, replicate, Some, Decides, refl, ap, ◌∙◌, subst, inl, inr, div-one, arith}
use native.Mathlib.Nat.{pow-zero, pow-succ', div-div-eq-div-mul}
use Rattle.std.proofs.lemmas.List.{get_or-reverse}
use Rattle.std.proofs.lemmas.Bool.{leb-true, le-leb, false≢true}
use Rattle.std.proofs.lemmas.Bool.Decides.{Decides-like, Decides-and, Decides-or, Decides-eqb, Decides-ltb}
use Rattle.loads.specs.Counts.{by_each, within, alike, empty, part_of_excess}
use Rattle.loads.specs.Digits.{digits, level, to_bytes}
use Rattle.loads.specs.Formats.{Format, Counted, Lawful, zeros}
use Rattle.loads.specs.Meaning.{Meanings}
use Rattle.loads.specs.Joins.{length_by_each, within_length}
use Rattle.loads.specs.Same.{alike_is}
use Rattle.loads.specs.Places.{length_digits, length_level, length_to_bytes, number_digits, from_to_bytes}

pub decides_leb : (a b : ℕ) → Decides (leb a b) (a ≤ b)
decides_leb a b = (leb-true a b, le-leb a b)

-- as many, and each at most the other's
abbrev Under : List ℕ → List ℕ → Type 0
Under xs ys = (length xs ≡ length ys) × ((k : ℕ) → k < length xs → get_or xs k 0 ≤ get_or ys k 0)

within_is : (xs ys : List ℕ) → Decides (within xs ys) (Under xs ys)
within_is [] [] = (λ _. (refl, λ k h. absurd (omega arith)), λ _. refl)
within_is [] (y ∷ ys) = (λ h. absurd (false≢true h), λ p. absurd (omega (arith, p.0)))
within_is (x ∷ xs) [] = (λ h. absurd (false≢true h), λ p. absurd (omega (arith, p.0)))
within_is (x ∷ xs) (y ∷ ys) = Decides-like _ to from (Decides-and _ _ (decides_leb x y) (within_is xs ys))
  where
    each : (x ≤ y) × Under xs ys → (k : ℕ) → k < length (x ∷ xs) → get_or (x ∷ xs) k 0 ≤ get_or (y ∷ ys) k 0
    each p zero h = p.0
    each p (suc k) h = p.1.1 k (omega arith)

    to : (x ≤ y) × Under xs ys → Under (x ∷ xs) (y ∷ ys)
    to p = (ap suc p.1.0, each p)

    from : Under (x ∷ xs) (y ∷ ys) → (x ≤ y) × Under xs ys
    from p = (p.1 0 (omega arith), (omega (arith, p.0), λ k h. p.1 (suc k) (omega arith)))

empty_is : (xs : List ℕ) → Decides (empty xs) ((k : ℕ) → k < length xs → get_or xs k 0 ≡ 0)
empty_is [] = (λ _ k h. absurd (omega arith), λ _. refl)
empty_is (x ∷ xs) = Decides-like _ to (λ f. (f 0 (omega arith), λ k h. f (suc k) (omega arith))) (Decides-and _ _ (Decides-eqb x 0) (empty_is xs))
  where
    to : (x ≡ 0) × ((k : ℕ) → k < length xs → get_or xs k 0 ≡ 0) → (k : ℕ) → k < length (x ∷ xs) → get_or (x ∷ xs) k 0 ≡ 0
    to p zero h = p.0
    to p (suc k) h = p.1 k (omega arith)

each_is : (f : ℕ → ℕ → ℕ) (xs ys : List ℕ) (k : ℕ) → length xs ≡ length ys → k < length xs → get_or (by_each f xs ys) k 0 ≡ f (get_or xs k 0) (get_or ys k 0)
each_is f [] ys k e h = absurd (omega arith)
each_is f (x ∷ xs) [] k e h = absurd (omega arith)
each_is f (x ∷ xs) (y ∷ ys) zero e h = refl
each_is f (x ∷ xs) (y ∷ ys) (suc k) e h = each_is f xs ys k (omega arith) (omega arith)

-- at some resource the total is above the capacity, and the part above 0
abbrev Excess : List ℕ → List ℕ → List ℕ → Type 0
Excess ts cs ps = (k : ℕ) × (k < length ts) × (get_or cs k 0 < get_or ts k 0) × (0 < get_or ps k 0)

excess_is : (ts cs ps : List ℕ) → length ts ≡ length cs → length cs ≡ length ps → Decides (part_of_excess ts cs ps) (Excess ts cs ps)
excess_is [] cs ps e f = (λ h. absurd (false≢true h), λ p. absurd (omega (arith, p.1)))
excess_is (t ∷ ts) [] ps e f = absurd (omega arith)
excess_is (t ∷ ts) (c ∷ cs) [] e f = absurd (omega arith)
excess_is (t ∷ ts) (c ∷ cs) (p ∷ ps) e f =
    Decides-like _ to from (Decides-or _ _ (Decides-and _ _ (Decides-ltb c t) (Decides-ltb 0 p)) (excess_is ts cs ps (omega arith) (omega arith)))
  where
    to : ((c < t) × (0 < p)) ⊎ Excess ts cs ps → Excess (t ∷ ts) (c ∷ cs) (p ∷ ps)
    to (inl q) = (0, omega arith, q.0, q.1)
    to (inr q) = (suc q.0, omega (arith, q.1), q.2, q.3)

    from : Excess (t ∷ ts) (c ∷ cs) (p ∷ ps) → ((c < t) × (0 < p)) ⊎ Excess ts cs ps
    from (zero, h, q, r) = inl (q, r)
    from (suc k, h, q, r) = inr (k, omega arith, q, r)

digit_is : (b n w k : ℕ) → k < n → get_or (digits b n w) k 0 ≡ w / b ^ k % b
unfolding digits
digit_is b zero w k h = absurd (omega arith)
digit_is b (suc n) w zero h = rw (pow-zero, div-one) refl
digit_is b (suc n) w (suc k) h = digit_is b n (w / b) k (omega arith) ∙ (rw (div-div-eq-div-mul, pow-succ') refl)

level_is : (n c k : ℕ) → k < n → get_or (level n c) k 0 ≡ c
unfolding level
level_is zero c k h = absurd (omega arith)
level_is (suc n) c zero h = refl
level_is (suc n) c (suc k) h = level_is n c k (omega arith)

byte_is : (n w k : ℕ) → k < n → get_or (to_bytes n w) k 0 ≡ w / 256 ^ (n - 1 - k) % 256
unfolding to_bytes
byte_is n w k h =
    let l = length_digits 256 n w in
    get_or-reverse (digits 256 n w) k 0 (omega arith)
    ∙ (ap (λ m. get_or (digits 256 n w) (m - 1 - k) 0) l ∙ digit_is 256 n w (n - 1 - k) (omega arith))

images_tell : (f : Format) → Lawful f → (cs ds : List ℕ) → Counted f cs → Counted f ds → f.image cs ≡ f.image ds → cs ≡ ds
images_tell f l cs ds p q e =
    let c = l.decodes cs p in
    let d = l.decodes ds q in
    let h = ap f.decode e in
    let s : Some cs ≡ Some ds = cc in cc

-- equal to the empty load is empty
pub alike_zeros : (cs : List ℕ) (n : ℕ) → length cs ≡ n → alike cs (replicate n 0) ≡ empty cs
alike_zeros [] zero e = refl
alike_zeros [] (suc n) e = absurd (omega arith)
alike_zeros (c ∷ cs) zero e = absurd (omega arith)
alike_zeros (c ∷ cs) (suc n) e = ap (λ b. eqb c 0 && b) (alike_zeros cs n (omega arith))

zeros_is : (f : Format) (cs : List ℕ) → Counted f cs → Decides (empty cs) (cs ≡ zeros f)
zeros_is f cs c = subst (λ b. Decides b (cs ≡ zeros f)) (alike_zeros cs (length f.ceilings) (within_length cs f.ceilings c)) (alike_is cs (zeros f))

pub meanings : Meanings
meanings = record {
  within_is = within_is;
  alike_is = alike_is;
  empty_is = empty_is;
  each_is = each_is;
  each_long = length_by_each;
  excess_is = excess_is;
  digit_is = digit_is;
  digits_long = length_digits;
  number_is = number_digits;
  level_is = level_is;
  level_long = length_level;
  byte_is = byte_is;
  bytes_long = length_to_bytes;
  from_is = from_to_bytes;
  zeros_is = zeros_is;
  images_tell = images_tell;
}
