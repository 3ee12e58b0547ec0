-- The number of different items does not depend on their order.
use Rattle.std.proofs.Common.{◌≡◌, ℕ, ◌+◌, ◌≤◌, Bool, true, false, cond, not, ◌||◌, List, [], ◌∷◌, map, filter, length, get_or, Contains, Less, sym, refl, ap, ap₂, ◌∙◌, subst, inl, inr, one-add, arith}
use Rattle.std.specs.Cmp.Lexicographic.{slice_cmp, on_texts, on_texts_equal, texts_ties}
use Rattle.std.specs.List.{AllByRecursion, dedup}
use Rattle.std.specs.List.Retain.{IsFiltered, DiffersFromLast}
use Rattle.std.specs.List.Sorted.{IsPermutation, IsSorted, IsStrictlySortedBy}
use Rattle.std.specs.Ordering.{is_eq, nat_cmp, on}
use Rattle.std.specs.Str.{bytes_eq}
use Rattle.std.proofs.ByRecursion.{All-map, All-weaker}
use Rattle.std.proofs.lemmas.Bool.{false≢true, cases_Bool, or_left, or_right, or_parts}
use Rattle.std.proofs.lemmas.List.Elements.{All-from_recursion, recursion_from_All, Contains-get_or}
use Rattle.std.proofs.lemmas.List.Filters.{dedup_is}
use Rattle.std.proofs.lemmas.List.Kept.{Any-dedup, Contains-from_dedup, IsStrictlySortedBy-dedup}
use Rattle.std.proofs.lemmas.List.Sorted.{Contains-permutation, IsPermutation-sym}
use Rattle.std.proofs.lemmas.Map.Text.{is_eq-slice_cmp}
use Rattle.std.proofs.lemmas.Slice.Eq.{bytes_eq-Decides}
use Rattle.text.specs.Distinct.{among, distinct_of}

same_is : (x y : List ℕ) → bytes_eq x y ≡ true → x ≡ y
same_is x y = (bytes_eq-Decides x y).0

same_self : (x : List ℕ) → bytes_eq x x ≡ true
same_self x = (bytes_eq-Decides x x).1 refl

-- the items that are not x
abbrev without : List ℕ → List (List ℕ) → List (List ℕ)
without x ys = filter (λ y. not (bytes_eq x y)) ys

differs : (x y z : List ℕ) → bytes_eq x y ≡ false → bytes_eq x z ≡ true → bytes_eq y z ≡ false
differs x y z n e =
    elim (cases_Bool (bytes_eq y z)) [
      | inl t ↦ absurd (false≢true (sym n ∙ (bytes_eq-Decides x y).1 (same_is x z e ∙ sym (same_is y z t))))
      | inr f ↦ f
    ]

-- an item other than x stays
stays : (x y z : List ℕ) (zs : List (List ℕ)) (t : Bool) → bytes_eq x z ≡ t → bytes_eq x y ≡ false → among y (without x zs) ≡ among y zs
    → among y (cond (not t) (z ∷ without x zs) (without x zs)) ≡ (bytes_eq y z || among y zs)
stays x y z zs true e n rest = rest ∙ ap (λ b. b || among y zs) (sym (differs x y z n e))
stays x y z zs false e n rest = ap (λ b. bytes_eq y z || b) rest

among_without : (x y : List ℕ) (ys : List (List ℕ)) → bytes_eq x y ≡ false → among y (without x ys) ≡ among y ys
among_without x y [] n = refl
among_without x y (z ∷ zs) n = stays x y z zs (bytes_eq x z) refl n (among_without x y zs n)

-- what x counts where it is taken out
taken : (a : Bool) (d w : ℕ) → d ≡ cond a 1 0 + w → cond a 0 1 + d ≡ 1 + w
taken true d w e = omega arith
taken false d w e = omega arith

kept : (p q a d w : ℕ) → q ≡ p → d ≡ a + w → p + d ≡ a + (q + w)
kept p q a d w e h = omega arith

one_less : (x y : List ℕ) (ys : List (List ℕ)) (t : Bool) → bytes_eq x y ≡ t → distinct_of ys ≡ cond (among x ys) 1 0 + distinct_of (without x ys)
    → cond (among y ys) 0 1 + distinct_of ys ≡ cond (t || among x ys) 1 0 + distinct_of (cond (not t) (y ∷ without x ys) (without x ys))
one_less x y ys true e rest =
    ap (λ l. cond (among l ys) 0 1 + distinct_of ys) (sym (same_is x y e))
    ∙ taken (among x ys) (distinct_of ys) (distinct_of (without x ys)) rest
one_less x y ys false e rest =
    kept (cond (among y ys) 0 1) (cond (among y (without x ys)) 0 1) (cond (among x ys) 1 0) (distinct_of ys) (distinct_of (without x ys)) (ap (λ b. cond b 0 1) (among_without x y ys e)) rest

distinct_without : (x : List ℕ) (ys : List (List ℕ)) → distinct_of ys ≡ cond (among x ys) 1 0 + distinct_of (without x ys)
distinct_without x [] = refl
distinct_without x (y ∷ ys) = one_less x y ys (bytes_eq x y) refl (distinct_without x ys)

-- items that are among ys and not x are among the rest of ys
kept_all : (x : List ℕ) (xs ys : List (List ℕ)) → among x xs ≡ false → AllByRecursion (λ z. among z ys ≡ true) xs → AllByRecursion (λ z. among z (without x ys) ≡ true) xs
kept_all x [] ys n h = tt
kept_all x (z ∷ zs) ys n h =
    let parts = or_parts (bytes_eq x z) (among x zs) n in
    (among_without x z ys parts.0 ∙ h.0, kept_all x zs ys parts.1 h.1)

at_most : (x : List ℕ) (xs ys : List (List ℕ)) (t : Bool) → among x xs ≡ t → among x ys ≡ true
    → (t ≡ true → distinct_of xs ≤ distinct_of ys)
    → (t ≡ false → distinct_of xs ≤ distinct_of (without x ys))
    → cond t 0 1 + distinct_of xs ≤ distinct_of ys
at_most x xs ys true e m again first = omega (arith, again refl)
at_most x xs ys false e m again first =
    let less : distinct_of ys ≡ 1 + distinct_of (without x ys) = distinct_without x ys ∙ ap (λ b. cond b 1 0 + distinct_of (without x ys)) m in
    omega (arith, first refl)

distinct_le : (xs ys : List (List ℕ)) → AllByRecursion (λ x. among x ys ≡ true) xs → distinct_of xs ≤ distinct_of ys
distinct_le [] ys h = omega arith
distinct_le (x ∷ xs) ys h =
    at_most x xs ys (among x xs) refl h.0
    (λ _. distinct_le xs ys h.1)
    (λ n. distinct_le xs (without x ys) (kept_all x xs ys n h.1))

module _ {X : Type 0} (f : X → List ℕ) where
  among_all : (xs : List X) → AllByRecursion (λ x. among (f x) (map f xs) ≡ true) xs
  among_all [] = tt
  among_all (x ∷ xs) = (
    or_left (bytes_eq (f x) (f x)) (among (f x) (map f xs)) (same_self (f x)),
    All-weaker (λ z. among (f z) (map f xs) ≡ true) (λ z. (bytes_eq (f z) (f x) || among (f z) (map f xs)) ≡ true) (λ z h. or_right (bytes_eq (f z) (f x)) (among (f z) (map f xs)) h) xs (among_all xs),
  )

  among_at : (xs : List X) (x : X) → Contains xs x → among (f x) (map f xs) ≡ true
  among_at xs x h =
      let P : X → Type 0 = λ y. among (f y) (map f xs) ≡ true in
      subst P h.2 (All-from_recursion P xs (among_all xs) h.0 x h.1)

  within_le : (xs ys : List X) → ((x : X) → Contains xs x → among (f x) (map f ys) ≡ true) → distinct_of (map f xs) ≤ distinct_of (map f ys)
  within_le xs ys kept =
      let P : X → Type 0 = λ x. among (f x) (map f ys) ≡ true in
      distinct_le (map f xs) (map f ys)
      (All-map (λ x. among x (map f ys) ≡ true) f xs (recursion_from_All P xs (λ i d h. kept (get_or xs i d) (Contains-get_or xs i d h))))

  -- in a list that climbs, no item comes again
  above_all : (x : X) (xs : List X) → AllByRecursion (λ y. slice_cmp nat_cmp (f x) (f y) ≡ Less) xs → among (f x) (map f xs) ≡ false
  above_all x [] h = refl
  above_all x (y ∷ ys) h =
      let other : bytes_eq (f x) (f y) ≡ false = sym (is_eq-slice_cmp (f x) (f y)) ∙ ap is_eq h.0 in
      ap₂ ◌||◌ other (above_all x ys h.1)

  climbs_all : (xs : List X) → IsStrictlySortedBy (on f (slice_cmp nat_cmp)) xs → distinct_of (map f xs) ≡ length xs
  unfolding IsStrictlySortedBy
  climbs_all [] h = refl
  climbs_all (x ∷ xs) h = ap₂ (λ b n. cond b 0 1 + n) (above_all x xs h.0) (climbs_all xs h.1) ∙ one-add (length xs)

  -- each item has its like among those that stay
  like_kept : (sorted : List X) (x : X) → Contains sorted x → among (f x) (map f (dedup (on f bytes_eq) sorted)) ≡ true
  like_kept sorted x h =
      let kept = dedup (on f bytes_eq) sorted in
      let like = Any-dedup (on_texts_equal f) sorted x h in
      ap (λ z. among z (map f kept)) (same_is (f x) (f like.1) like.4) ∙ among_at kept like.1 (like.0, like.2, like.3)

  shuffled_le : (xs ys : List X) → IsPermutation xs ys → distinct_of (map f ys) ≤ distinct_of (map f xs)
  shuffled_le xs ys s = within_le ys xs (λ y h. among_at xs y (Contains-permutation ys xs y (IsPermutation-sym xs ys s) h))

  pub distinct_shuffled : (xs ys : List X) → IsPermutation xs ys → distinct_of (map f ys) ≡ distinct_of (map f xs)
  distinct_shuffled xs ys s =
      let below = shuffled_le xs ys s in
      let above = shuffled_le ys xs (IsPermutation-sym xs ys s) in
      omega arith

  -- a sorted list without equal neighbours has as many items as differ
  pub kept_differ : (sorted kept : List X) → IsSorted (on f (slice_cmp nat_cmp)) sorted → IsFiltered (DiffersFromLast (on f bytes_eq)) [] sorted kept
      → length kept ≡ distinct_of (map f sorted)
  kept_differ sorted kept up filtered =
      let stays = dedup (on f bytes_eq) sorted in
      let all : distinct_of (map f stays) ≡ length stays = climbs_all stays (IsStrictlySortedBy-dedup (on_texts f) (λ x y. texts_ties (f x) (f y)) sorted up) in
      let below = within_le stays sorted (λ x h. among_at sorted x (Contains-from_dedup (on f bytes_eq) sorted x h)) in
      let above = within_le sorted stays (like_kept sorted) in
      let is = ap length (dedup_is (on f bytes_eq) sorted kept filtered) in
      omega arith
