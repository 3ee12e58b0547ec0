-- Equal loads are those with equal counts.
use Rattle.std.specs.Prelude.{◌≡◌, ℕ, ◌^◌, ◌<◌, Bool, true, ◌&&◌, List, [], ◌∷◌, ◌++◌, length, Decides, ◌==◌, refl}
use Rattle.std.proofs.Common.{ap, ap₂, arith}
use Rattle.std.proofs.lemmas.Bool.{false≢true}
use Rattle.std.proofs.lemmas.Bool.Decides.{same_from_decides, Decides-like, Decides-and, Decides-eqb}
use Rattle.loads.specs.Counts.{within, alike}
use Rattle.loads.specs.Digits.{digits}
use Rattle.loads.specs.Joins.{joined_same, within_length}
use Rattle.loads.specs.Places.{digits_tell}

pub alike_is : (xs ys : List ℕ) → Decides (alike xs ys) (xs ≡ ys)
alike_is [] [] = (λ _. refl, λ _. refl)
alike_is [] (y ∷ ys) = (λ h. absurd (false≢true h), λ e. absurd (omega (arith, ap length e)))
alike_is (x ∷ xs) [] = (λ h. absurd (false≢true h), λ e. absurd (omega (arith, ap length e)))
alike_is (x ∷ xs) (y ∷ ys) =
    Decides-like _ (λ p. ap₂ ◌∷◌ p.0 p.1) (λ h. ((cc), (cc))) (Decides-and _ _ (Decides-eqb x y) (alike_is xs ys))

pub alike_one : (v w : ℕ) → (v == w) ≡ alike (v ∷ []) (w ∷ [])
alike_one v w = same_from_decides _ _ (Decides-like _ (λ e. ap (λ n. n ∷ []) e) (λ e. (cc)) (Decides-eqb v w)) (alike_is (v ∷ []) (w ∷ []))

pub alike_digits : (b n v w : ℕ) → 0 < b → v < b ^ n → w < b ^ n → (v == w) ≡ alike (digits b n v) (digits b n w)
alike_digits b n v w p h k =
    same_from_decides _ _
    (Decides-like _ (λ e. ap (digits b n) e) (λ e. digits_tell b n v w p h k e) (Decides-eqb v w))
    (alike_is (digits b n v) (digits b n w))

-- counts of two kinds joined, those of the first within its ceilings
pub alike_joined : (ceilings xs ys zs ws : List ℕ) (r s : Bool) → within xs ceilings ≡ true → within zs ceilings ≡ true
    → r ≡ alike xs zs → s ≡ alike ys ws → (r && s) ≡ alike (xs ++ ys) (zs ++ ws)
alike_joined ceilings xs ys zs ws r s p q e h = joined_same (length ceilings) xs ys zs ws (within_length xs ceilings p) (within_length zs ceilings q) r s e h
