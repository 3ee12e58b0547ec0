-- Words as rows of bits: what `&`, `|` and `!` do to the counts of 0 and 1 that the bits are.
use Rattle.std.proofs.Common.{◌≡◌, ℕ, zero, suc, ◌+◌, ◌-◌, ◌/◌, ◌%◌, ◌^◌, ◌<◌, min, max, Bool, true, false, not, ◌&&◌, ◌||◌, eqb, ltb, leb, ◌∷◌, sym, refl, ap, ◌∙◌, ap₂, arith}
use lib.Bits.{bit_and, bit_or, and_step, or_step, and_shr, or_shr, and_le_l, or_lt}
use Rattle.std.proofs.lemmas.Bool.{eq-eqb}
use Rattle.std.proofs.lemmas.Bool.Decides.{nat_tests}
use Rattle.loads.specs.Counts.{sums, differences, greater, within, fits_counts, in_the_way}
use Rattle.loads.specs.Digits.{digits, level}

and_half : (a b : ℕ) → bit_and a b / 2 ≡ bit_and (a / 2) (b / 2)
and_half a b = and_shr a b 1

or_half : (a b : ℕ) → bit_or a b / 2 ≡ bit_or (a / 2) (b / 2)
or_half a b = or_shr a b 1

and_odd : (a b : ℕ) → bit_and a b % 2 ≡ min (a % 2) (b % 2)
and_odd a b = omega (arith, and_step a b)

or_odd : (a b : ℕ) → bit_or a b % 2 ≡ max (a % 2) (b % 2)
or_odd a b = omega (arith, or_step a b)

not_half : (n c : ℕ) → c < 2 ^ suc n → (2 ^ suc n - 1 - c) / 2 ≡ 2 ^ n - 1 - c / 2
not_half n c h = omega arith

not_odd : (n c : ℕ) → c < 2 ^ suc n → (2 ^ suc n - 1 - c) % 2 ≡ 1 - c % 2
not_odd n c h = omega arith

half_below : (n w : ℕ) → w < 2 ^ suc n → w / 2 < 2 ^ n
half_below n w h = omega arith

zero_step : (w : ℕ) → eqb w 0 ≡ (eqb (w % 2) 0 && eqb (w / 2) 0)
zero_step w = grind (arith, nat_tests)

zero_word : (w : ℕ) → w < 2 ^ 0 → true ≡ eqb w 0
zero_word w h = sym (eq-eqb w 0 (omega arith))

-- eqb w 0, from the lowest bit of w and the rest
zero_by : (w x v : ℕ) → w % 2 ≡ x → w / 2 ≡ v → (eqb x 0 && eqb v 0) ≡ eqb w 0
zero_by w x v e h = sym (zero_step w ∙ ap₂ (λ s t. eqb s 0 && eqb t 0) e h)

and_swap : (p q r s : Bool) → ((p && q) && (r && s)) ≡ ((p && r) && (q && s))
and_swap true true r s = refl
and_swap true false true s = refl
and_swap true false false s = refl
and_swap false q r s = refl

not_and : (p q : Bool) → (not p || not q) ≡ not (p && q)
not_and true q = refl
not_and false q = refl

pub or_digits : (n a b : ℕ) → digits 2 n (bit_or a b) ≡ greater (digits 2 n a) (digits 2 n b)
unfolding digits
or_digits zero a b = refl
or_digits (suc n) a b = ap₂ ◌∷◌ (or_odd a b) (ap (digits 2 n) (or_half a b) ∙ or_digits n (a / 2) (b / 2))

pub less_digits : (n a b : ℕ) → b < 2 ^ n → digits 2 n (bit_and a (2 ^ n - 1 - b)) ≡ differences (digits 2 n a) (digits 2 n b)
unfolding digits
less_digits zero a b h = refl
less_digits (suc n) a b h =
    ap₂ ◌∷◌
    (and_odd a (2 ^ suc n - 1 - b) ∙ ap (min (a % 2)) (not_odd n b h) ∙ omega arith)
    (ap (digits 2 n) (and_half a (2 ^ suc n - 1 - b) ∙ ap (bit_and (a / 2)) (not_half n b h)) ∙ less_digits n (a / 2) (b / 2) (half_below n b h))

pub and_below : (n a b : ℕ) → a < 2 ^ n → bit_and a b < 2 ^ n
and_below n a b h = omega (arith, and_le_l a b)

-- add: no bit stands in both
pub apart_digits : (n a b : ℕ) → a < 2 ^ n → b < 2 ^ n → within (sums (digits 2 n a) (digits 2 n b)) (level n 1) ≡ eqb (bit_and a b) 0
unfolding digits level
apart_digits zero a b h k = zero_word (bit_and a b) (and_below 0 a b h)
apart_digits (suc n) a b h k =
    let ih = apart_digits n (a / 2) (b / 2) (half_below n a h) (half_below n b k) in
    let head : leb (a % 2 + b % 2) 1 ≡ eqb (min (a % 2) (b % 2)) 0 = grind (arith, nat_tests) in
    ap₂ ◌&&◌ head ih ∙ zero_by (bit_and a b) _ _ (and_odd a b) (and_half a b)

pub sum_digits : (n a b : ℕ) → bit_and a b ≡ 0 → digits 2 n (bit_or a b) ≡ sums (digits 2 n a) (digits 2 n b)
unfolding digits
sum_digits zero a b e = refl
sum_digits (suc n) a b e =
    let s = and_step a b in
    let t = or_step a b in
    ap₂ ◌∷◌ (or_odd a b ∙ omega arith) (ap (digits 2 n) (or_half a b) ∙ sum_digits n (a / 2) (b / 2) (omega arith))

-- take: no bit of b is missing in a
pub held_digits : (n a b : ℕ) → a < 2 ^ n → b < 2 ^ n → within (digits 2 n b) (digits 2 n a) ≡ eqb (bit_and b (2 ^ n - 1 - a)) 0
unfolding digits
held_digits zero a b h k = zero_word (bit_and b (2 ^ 0 - 1 - a)) (and_below 0 b _ k)
held_digits (suc n) a b h k =
    let ih = held_digits n (a / 2) (b / 2) (half_below n a h) (half_below n b k) in
    let head : leb (b % 2) (a % 2) ≡ eqb (min (b % 2) (1 - a % 2)) 0 = grind (arith, nat_tests) in
    ap₂ ◌&&◌ head ih
    ∙ zero_by (bit_and b (2 ^ suc n - 1 - a)) _ _
    (and_odd b _ ∙ ap (min (b % 2)) (not_odd n a h))
    (and_half b _ ∙ ap (bit_and (b / 2)) (not_half n a h))

pub fits_digits : (n l d c : ℕ) → l < 2 ^ n → d < 2 ^ n → c < 2 ^ n
    → fits_counts (digits 2 n l) (digits 2 n d) (digits 2 n c) ≡ (eqb (bit_and l d) 0 && eqb (bit_and (bit_or l d) (2 ^ n - 1 - c)) 0)
unfolding digits
fits_digits zero l d c h k m = ap₂ ◌&&◌ (zero_word (bit_and l d) (and_below 0 l d h)) (zero_word (bit_and (bit_or l d) (2 ^ 0 - 1 - c)) (and_below 0 (bit_or l d) _ (or_lt 0 l d h k)))
fits_digits (suc n) l d c h k m =
    let ih = fits_digits n (l / 2) (d / 2) (c / 2) (half_below n l h) (half_below n d k) (half_below n c m) in
    let head : leb (l % 2 + d % 2) (c % 2) ≡ (eqb (min (l % 2) (d % 2)) 0 && eqb (min (max (l % 2) (d % 2)) (1 - c % 2)) 0) = grind (arith, nat_tests) in
    ap₂ ◌&&◌ head ih ∙ and_swap (eqb (min (l % 2) (d % 2)) 0) (eqb (min (max (l % 2) (d % 2)) (1 - c % 2)) 0) (eqb (bit_and (l / 2) (d / 2)) 0) (eqb (bit_and (bit_or (l / 2) (d / 2)) (2 ^ n - 1 - c / 2)) 0)
    ∙ ap₂ ◌&&◌
    (zero_by (bit_and l d) _ _ (and_odd l d) (and_half l d))
    (zero_by (bit_and (bit_or l d) (2 ^ suc n - 1 - c)) _ _
    (and_odd _ _ ∙ ap₂ min (or_odd l d) (not_odd n c m))
    (and_half _ _ ∙ ap₂ bit_and (or_half l d) (not_half n c m)))

-- the same, from the answers of the two tests
pub fits_by : (n l d c : ℕ) → l < 2 ^ n → d < 2 ^ n → c < 2 ^ n → (r s : Bool) → r ≡ eqb (bit_and l d) 0 → s ≡ eqb (bit_and (bit_or l d) (2 ^ n - 1 - c)) 0
    → (r && s) ≡ fits_counts (digits 2 n l) (digits 2 n d) (digits 2 n c)
fits_by n l d c h k m r s e f = ap₂ ◌&&◌ e f ∙ sym (fits_digits n l d c h k m)

pub way_digits : (n l d c b : ℕ) → l < 2 ^ n → d < 2 ^ n → c < 2 ^ n → b < 2 ^ n
    → in_the_way (digits 2 n l) (digits 2 n d) (digits 2 n c) (digits 2 n b) ≡ not (eqb (bit_and (bit_or (bit_and l d) (bit_and (bit_or l d) (2 ^ n - 1 - c))) b) 0)
unfolding digits
way_digits zero l d c b h k m o =
    ap not (zero_word (bit_and (bit_or (bit_and l d) (bit_and (bit_or l d) (2 ^ 0 - 1 - c))) b)
    (and_below 0 _ b (or_lt 0 _ _ (and_below 0 l d h) (and_below 0 (bit_or l d) _ (or_lt 0 l d h k)))))
way_digits (suc n) l d c b h k m o =
    let ih = way_digits n (l / 2) (d / 2) (c / 2) (b / 2) (half_below n l h) (half_below n d k) (half_below n c m) (half_below n b o) in
    let head : (ltb (c % 2) (l % 2 + d % 2) && ltb 0 (b % 2)) ≡ not (eqb (min (max (min (l % 2) (d % 2)) (min (max (l % 2) (d % 2)) (1 - c % 2))) (b % 2)) 0) = grind (arith, nat_tests) in
    ap₂ ◌||◌ head ih ∙ not_and (eqb (min (max (min (l % 2) (d % 2)) (min (max (l % 2) (d % 2)) (1 - c % 2))) (b % 2)) 0) (eqb (bit_and (bit_or (bit_and (l / 2) (d / 2)) (bit_and (bit_or (l / 2) (d / 2)) (2 ^ n - 1 - c / 2))) (b / 2)) 0)
    ∙ ap not (zero_by (bit_and (bit_or (bit_and l d) (bit_and (bit_or l d) (2 ^ suc n - 1 - c))) b) _ _
    (and_odd _ _ ∙ ap (λ t. min t (b % 2)) (or_odd _ _ ∙ ap₂ max (and_odd l d) (and_odd _ _ ∙ ap₂ min (or_odd l d) (not_odd n c m))))
    (and_half _ _ ∙ ap (λ t. bit_and t (b / 2)) (or_half _ _ ∙ ap₂ bit_or (and_half l d) (and_half _ _ ∙ ap₂ bit_and (or_half l d) (not_half n c m)))))
