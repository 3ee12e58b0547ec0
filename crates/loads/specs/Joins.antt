-- What is done to joined lists of counts is done to each part.
use Rattle.std.specs.Prelude.{◌≡◌, ℕ, suc, ◌+◌, ◌-◌, Bool, true, false, cond, ◌&&◌, ◌||◌, List, [], ◌∷◌, ◌++◌, length, Some, None, Option, ◌==◌, nat_le, nat_lt, refl}
use Rattle.std.proofs.Common.{ap, sym, ◌∙◌, arith}
use Rattle.std.proofs.lemmas.Bool.{and_parts, false≢true}
use Rattle.loads.specs.Counts.{by_each, sums, differences, within, alike, part_of_excess, add_counts, take_counts, fits_counts, in_the_way}
use Rattle.loads.specs.Formats.{both}

and_assoc : (x y z : Bool) → (x && (y && z)) ≡ ((x && y) && z)
and_assoc true y z = refl
and_assoc false y z = refl

or_assoc : (x y z : Bool) → (x || (y || z)) ≡ ((x || y) || z)
or_assoc true y z = refl
or_assoc false y z = refl

by_each_append : (f : ℕ → ℕ → ℕ) (xs ys zs ws : List ℕ) → length xs ≡ length zs → by_each f (xs ++ ys) (zs ++ ws) ≡ by_each f xs zs ++ by_each f ys ws
by_each_append f [] ys [] ws e = refl
by_each_append f [] ys (z ∷ zs) ws e = absurd (omega arith)
by_each_append f (x ∷ xs) ys [] ws e = absurd (omega arith)
by_each_append f (x ∷ xs) ys (z ∷ zs) ws e = ap (λ l. f x z ∷ l) (by_each_append f xs ys zs ws (omega arith))

pub length_by_each : (f : ℕ → ℕ → ℕ) (xs zs : List ℕ) → length xs ≡ length zs → length (by_each f xs zs) ≡ length xs
length_by_each f [] zs e = refl
length_by_each f (x ∷ xs) [] e = absurd (omega arith)
length_by_each f (x ∷ xs) (z ∷ zs) e = ap suc (length_by_each f xs zs (omega arith))

-- what is within is as long
pub within_length : (xs ys : List ℕ) → within xs ys ≡ true → length xs ≡ length ys
within_length [] [] h = refl
within_length [] (y ∷ ys) h = absurd (false≢true h)
within_length (x ∷ xs) [] h = absurd (false≢true h)
within_length (x ∷ xs) (y ∷ ys) h = ap suc (within_length xs ys (and_parts (nat_le x y) (within xs ys) h).1)

pub within_append : (xs ys zs ws : List ℕ) → length xs ≡ length zs → within (xs ++ ys) (zs ++ ws) ≡ (within xs zs && within ys ws)
within_append [] ys [] ws e = refl
within_append [] ys (z ∷ zs) ws e = absurd (omega arith)
within_append (x ∷ xs) ys [] ws e = absurd (omega arith)
within_append (x ∷ xs) ys (z ∷ zs) ws e = ap (λ l. nat_le x z && l) (within_append xs ys zs ws (omega arith)) ∙ and_assoc (nat_le x z) (within xs zs) (within ys ws)

alike_append : (xs ys zs ws : List ℕ) → length xs ≡ length zs → alike (xs ++ ys) (zs ++ ws) ≡ (alike xs zs && alike ys ws)
alike_append [] ys [] ws e = refl
alike_append [] ys (z ∷ zs) ws e = absurd (omega arith)
alike_append (x ∷ xs) ys [] ws e = absurd (omega arith)
alike_append (x ∷ xs) ys (z ∷ zs) ws e = ap (λ l. (x == z) && l) (alike_append xs ys zs ws (omega arith)) ∙ and_assoc (x == z) (alike xs zs) (alike ys ws)

excess_append : (ts ts' cs cs' bs bs' : List ℕ) → length ts ≡ length cs → length cs ≡ length bs
    → part_of_excess (ts ++ ts') (cs ++ cs') (bs ++ bs') ≡ (part_of_excess ts cs bs || part_of_excess ts' cs' bs')
excess_append [] ts' [] cs' [] bs' e h = refl
excess_append [] ts' [] cs' (b ∷ bs) bs' e h = absurd (omega arith)
excess_append [] ts' (c ∷ cs) cs' bs bs' e h = absurd (omega arith)
excess_append (t ∷ ts) ts' [] cs' bs bs' e h = absurd (omega arith)
excess_append (t ∷ ts) ts' (c ∷ cs) cs' [] bs' e h = absurd (omega arith)
excess_append (t ∷ ts) ts' (c ∷ cs) cs' (b ∷ bs) bs' e h =
    ap (λ l. (nat_lt c t && nat_lt 0 b) || l) (excess_append ts ts' cs cs' bs bs' (omega arith) (omega arith))
    ∙ or_assoc (nat_lt c t && nat_lt 0 b) (part_of_excess ts cs bs) (part_of_excess ts' cs' bs')

both_cond : (p q : Bool) (a b : List ℕ) → cond (p && q) (Some (a ++ b)) None ≡ both (cond p (Some a) None) (cond q (Some b) None)
both_cond true true a b = refl
both_cond true false a b = refl
both_cond false q a b = refl

-- The first kind has n resources, and each list of its counts has n. Each lemma takes the two parts' answers to the joined lists' answer.
module _ (n : ℕ) where
  pub joined_each : (f : ℕ → ℕ → ℕ) (xs ys zs ws : List ℕ) → length xs ≡ n → length zs ≡ n → by_each f xs zs ++ by_each f ys ws ≡ by_each f (xs ++ ys) (zs ++ ws)
  joined_each f xs ys zs ws p q = sym (by_each_append f xs ys zs ws (p ∙ sym q))

  pub joined_same : (xs ys zs ws : List ℕ) → length xs ≡ n → length zs ≡ n → (r s : Bool) → r ≡ alike xs zs → s ≡ alike ys ws → (r && s) ≡ alike (xs ++ ys) (zs ++ ws)
  joined_same xs ys zs ws p q r s e h = rw (e, h) (sym (alike_append xs ys zs ws (p ∙ sym q)))

  pub joined_add : (ms ns xs ys zs ws : List ℕ) → length ms ≡ n → length xs ≡ n → length zs ≡ n → (r s : Option (List ℕ)) → r ≡ add_counts ms xs zs → s ≡ add_counts ns ys ws
      → both r s ≡ add_counts (ms ++ ns) (xs ++ ys) (zs ++ ws)
  joined_add ms ns xs ys zs ws m p q r s e h =
      let a = by_each_append (λ x y. x + y) xs ys zs ws (p ∙ sym q) in
      let w = within_append (sums xs zs) (sums ys ws) ms ns (length_by_each (λ x y. x + y) xs zs (p ∙ sym q) ∙ p ∙ sym m) in
      rw (e, h, a, w) (sym (both_cond (within (sums xs zs) ms) (within (sums ys ws) ns) (sums xs zs) (sums ys ws)))

  pub joined_take : (xs ys zs ws : List ℕ) → length xs ≡ n → length zs ≡ n → (r s : Option (List ℕ)) → r ≡ take_counts xs zs → s ≡ take_counts ys ws
      → both r s ≡ take_counts (xs ++ ys) (zs ++ ws)
  joined_take xs ys zs ws p q r s e h =
      let a = by_each_append (λ x y. x - y) xs ys zs ws (p ∙ sym q) in
      rw (e, h, a, within_append zs ws xs ys (q ∙ sym p)) (sym (both_cond (within zs xs) (within ws ys) (differences xs zs) (differences ys ws)))

  pub joined_fits : (ls ls' ds ds' cs cs' : List ℕ) → length ls ≡ n → length ds ≡ n → length cs ≡ n → (r s : Bool) → r ≡ fits_counts ls ds cs → s ≡ fits_counts ls' ds' cs'
      → (r && s) ≡ fits_counts (ls ++ ls') (ds ++ ds') (cs ++ cs')
  joined_fits ls ls' ds ds' cs cs' l d c r s e h =
      let a = by_each_append (λ x y. x + y) ls ls' ds ds' (l ∙ sym d) in
      rw (e, h, a) (sym (within_append (sums ls ds) (sums ls' ds') cs cs' (length_by_each (λ x y. x + y) ls ds (l ∙ sym d) ∙ l ∙ sym c)))

  pub joined_way : (ls ls' ds ds' cs cs' bs bs' : List ℕ) → length ls ≡ n → length ds ≡ n → length cs ≡ n → length bs ≡ n → (r s : Bool)
      → r ≡ in_the_way ls ds cs bs → s ≡ in_the_way ls' ds' cs' bs' → (r || s) ≡ in_the_way (ls ++ ls') (ds ++ ds') (cs ++ cs') (bs ++ bs')
  joined_way ls ls' ds ds' cs cs' bs bs' l d c b r s e h =
      let a = by_each_append (λ x y. x + y) ls ls' ds ds' (l ∙ sym d) in
      rw (e, h, a) (sym (excess_append (sums ls ds) (sums ls' ds') cs cs' bs bs' (length_by_each (λ x y. x + y) ls ds (l ∙ sym d) ∙ l ∙ sym c) (c ∙ sym b)))

-- the counts of each load are as many as the ceilings
pub full : {X : Type 0} (counts : X → List ℕ) (most : List ℕ) → ((x : X) → within (counts x) most ≡ true) → (x : X) → length (counts x) ≡ length most
full counts most capped x = within_length (counts x) most (capped x)
