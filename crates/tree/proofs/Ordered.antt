-- Lists in the order of their keys: what a cut says, and what is done at a key.
use Rattle.std.proofs.Common.{◌≡◌, Bool, true, false, cond, List, [], ◌∷◌, ◌++◌, Some, None, Option, sym, refl, ap, ◌∙◌, subst}
use Rattle.std.proofs.lemmas.Bool.{both_ways, cond-true, cond-false}
use Rattle.std.proofs.lemmas.Cmp.{alike_right}
use Rattle.std.proofs.lemmas.Grind.{flat_map-append}
use Rattle.std.proofs.lemmas.List.Folds.{find-append}
use Rattle.std.proofs.lemmas.Option.{none-some, same_Some}
use Rattle.std.specs.List.Sorted.{IsStrictlySortedBy}
use Rattle.std.specs.Cmp.{IsTotalOrder, Equal-is}
use Rattle.std.specs.Option.{option_or}
use Rattle.std.specs.Ordering.{is_lt, is_eq, ordering_reverse}
use Rattle.std.specs.List.{AllByRecursion}
use Rattle.std.specs.declared.cmp.Ordering.{Ordering}
use Rattle.std.specs.declared.cmp.Ordering.TheVariants.{Less, Equal, Greater}
use Rattle.tree.specs.declared.side.Side.{Side}
use Rattle.tree.specs.declared.side.Side.TheVariants.{Left, Right}
use Rattle.std.specs.List.{find}
use Rattle.tree.specs.Lists.{placed, edited}
use Rattle.tree.specs.Orders.{Order, past, at_key, Rising}
use Rattle.tree.specs.Sides.{opposite, between, side_of}

-- no entry passes
abbrev pub No : {A : Type 0} → (A → Bool) → List A → Type 0
No P es = AllByRecursion (λ e. P e ≡ false) es

-- ---- what is looked for, and what is done to what passes a test
module _ {A : Type 0} (P : A → Bool) where
  pub first_no : (xs : List A) → No P xs → find P xs ≡ None
  first_no [] h = refl
  first_no (x ∷ xs) h = cond-false (P x) (Some x) (find P xs) h.0 ∙ first_no xs h.1

  pub no_first : (xs : List A) → find P xs ≡ None → No P xs
  no_first [] h = tt
  no_first (x ∷ xs) h = go (P x) refl h (no_first xs)
    where
      go : (b : Bool) → P x ≡ b → cond b (Some x) (find P xs) ≡ None → (find P xs ≡ None → No P xs) → (P x ≡ false) × No P xs
      go true q e ih = absurd (none-some x (sym e))
      go false q e ih = (q, ih e)

  or_none : (o : Option A) → option_or o None ≡ o
  or_none (Some x) = refl
  or_none None = refl

  pub first_between : (side : Side) (xs : List A) (p : A) (ys : List A) → P p ≡ false → No P ys → find P (between side xs p ys) ≡ find P xs
  first_between Left xs p ys h n = find-append P xs (p ∷ ys) ∙ ap (option_or (find P xs)) (first_no (p ∷ ys) (h, n)) ∙ or_none (find P xs)
  first_between Right xs p ys h n = find-append P ys (p ∷ xs) ∙ ap (λ (o : Option A). option_or o (find P (p ∷ xs))) (first_no ys n) ∙ cond-false (P p) (Some p) (find P xs) h

  pub first_here : (xs : List A) (p : A) (ys : List A) → No P xs → P p ≡ true → find P (xs ++ (p ∷ ys)) ≡ Some p
  first_here xs p ys n h = find-append P xs (p ∷ ys) ∙ ap (λ (o : Option A). option_or o (find P (p ∷ ys))) (first_no xs n) ∙ cond-true (P p) (Some p) (find P ys) h

  module _ (g : A → List A) where
    pub edited_no : (xs : List A) → No P xs → edited P g xs ≡ xs
    edited_no [] h = refl
    edited_no (x ∷ xs) h = ap (λ (u : List A). u ++ edited P g xs) (cond-false (P x) (g x) (x ∷ []) h.0) ∙ ap (λ (u : List A). x ∷ u) (edited_no xs h.1)

    edited_left : (xs ys : List A) → No P xs → edited P g (xs ++ ys) ≡ xs ++ edited P g ys
    edited_left xs ys h = flat_map-append (λ x. cond (P x) (g x) (x ∷ [])) xs ys ∙ ap (λ (u : List A). u ++ edited P g ys) (edited_no xs h)

    edited_right : (xs ys : List A) → No P ys → edited P g (xs ++ ys) ≡ edited P g xs ++ ys
    edited_right xs ys h = flat_map-append (λ x. cond (P x) (g x) (x ∷ [])) xs ys ∙ ap (λ (u : List A). edited P g xs ++ u) (edited_no ys h)

    pub edited_between : (side : Side) (xs : List A) (p : A) (ys : List A) → P p ≡ false → No P ys → edited P g (between side xs p ys) ≡ between side (edited P g xs) p ys
    edited_between Left xs p ys h n = edited_right xs (p ∷ ys) (h, n)
    edited_between Right xs p ys h n = edited_left ys (p ∷ xs) n ∙ ap (λ (u : List A). ys ++ (u ++ edited P g xs)) (cond-false (P p) (g p) (p ∷ []) h)

    pub edited_here : (xs : List A) (p : A) (ys : List A) → No P xs → P p ≡ true → No P ys → edited P g (xs ++ (p ∷ ys)) ≡ xs ++ (g p ++ ys)
    edited_here xs p ys n h m = edited_left xs (p ∷ ys) n ∙ ap (λ (u : List A). xs ++ (u ++ edited P g ys)) (cond-true (P p) (g p) (p ∷ []) h) ∙ ap (λ (u : List A). xs ++ (g p ++ u)) (edited_no ys m)

-- ---- what holds of each
pub all_weaker : {A : Type 0} (P Q : A → Type 0) → ((x : A) → P x → Q x) → (xs : List A) → AllByRecursion P xs → AllByRecursion Q xs
all_weaker P Q f [] h = tt
all_weaker P Q f (x ∷ xs) h = (f x h.0, all_weaker P Q f xs h.1)

pub all_append : {A : Type 0} (P : A → Type 0) (xs ys : List A) → AllByRecursion P xs → AllByRecursion P ys → AllByRecursion P (xs ++ ys)
all_append P [] ys h i = i
all_append P (x ∷ xs) ys h i = (h.0, all_append P xs ys h.1 i)

pub all_left : {A : Type 0} (P : A → Type 0) (xs ys : List A) → AllByRecursion P (xs ++ ys) → AllByRecursion P xs
all_left P [] ys h = tt
all_left P (x ∷ xs) ys h = (h.0, all_left P xs ys h.1)

pub all_right : {A : Type 0} (P : A → Type 0) (xs ys : List A) → AllByRecursion P (xs ++ ys) → AllByRecursion P ys
all_right P [] ys h = h
all_right P (x ∷ xs) ys h = all_right P xs ys h.1

-- ---- comparisons
same_of : (r : Ordering) → side_of r ≡ None → r ≡ Equal
same_of Less h = cc
same_of Equal h = refl
same_of Greater h = cc

-- ---- the order
module _ {A K : Type 0} (O : Order A K) where
  -- k belongs on the side of a
  abbrev pub Goes : Side → K → K → Type 0
  Goes Left k a = O.cmp k a ≡ Less
  Goes Right k a = O.cmp a k ≡ Less

  pub side_same : (k a : K) → side_of (O.cmp k a) ≡ None → O.cmp k a ≡ Equal
  side_same k a h = same_of (O.cmp k a) h

  pub same_at : (k : K) (e : A) → O.cmp k (O.key e) ≡ Equal → at_key O k e ≡ true
  same_at k e q = ap is_eq q

  pub at_same : (k : K) (e : A) → at_key O k e ≡ true → O.cmp k (O.key e) ≡ Equal
  at_same k e h = (Equal-is (O.cmp k (O.key e))).0 h

module _ {A K : Type 0} (O : Order A K) (L : IsTotalOrder O.cmp) where
  turned : (a b : K) → O.cmp a b ≡ Less → O.cmp b a ≡ Greater
  turned a b h = L.antisymm b a ∙ ap ordering_reverse h

  goes_by : (k a : K) (r : Ordering) → O.cmp k a ≡ r → (side : Side) → side_of r ≡ Some side → Goes O side k a
  goes_by k a Less q side h = subst (λ (s : Side). Goes O s k a) (same_Some Left side h) q
  goes_by k a Equal q side h = absurd (none-some side h)
  goes_by k a Greater q side h = subst (λ (s : Side). Goes O s k a) (same_Some Right side h) (L.antisymm a k ∙ ap ordering_reverse q)

  pub side_goes : (k a : K) (side : Side) → side_of (O.cmp k a) ≡ Some side → Goes O side k a
  side_goes k a side h = goes_by k a (O.cmp k a) refl side h

  before_not : (k : K) (e : A) → O.cmp (O.key e) k ≡ Less → at_key O k e ≡ false
  before_not k e h = ap is_eq (turned (O.key e) k h)

  pub goes_not : (side : Side) (k : K) (e : A) → Goes O side k (O.key e) → at_key O k e ≡ false
  goes_not Left k e h = ap is_eq h
  goes_not Right k e h = before_not k e h

  -- what is beyond one that is not on the side is not either
  beyond_not : (side : Side) (k a : K) (e : A) → Goes O side k a → Goes O (opposite side) (O.key e) a → at_key O k e ≡ false
  beyond_not Left k a e h i = ap is_eq (L.trans k a (O.key e) h i)
  beyond_not Right k a e h i = before_not k e (L.trans (O.key e) a k i h)

  -- ---- rising lists
  -- a rising list that is cut at one
  pub record Cut (xs : List A) (p : A) (ys : List A) : Type 0 where
    pub lefts : Rising O xs
    pub befores : AllByRecursion (λ x. O.cmp (O.key x) (O.key p) ≡ Less) xs
    pub pasts : AllByRecursion (λ y. O.cmp (O.key p) (O.key y) ≡ Less) ys
    pub rights : Rising O ys

  pub cut : (xs : List A) (p : A) (ys : List A) → Rising O (xs ++ (p ∷ ys)) → Cut xs p ys
  unfolding IsStrictlySortedBy
  cut [] p ys h = record { lefts = tt; befores = tt; pasts = h.0; rights = h.1 }
  cut (x ∷ xs) p ys h =
      let c = cut xs p ys h.1 in
      record {
        lefts = (all_left (λ f. O.cmp (O.key x) (O.key f) ≡ Less) xs (p ∷ ys) h.0, c.lefts);
        befores = ((all_right (λ f. O.cmp (O.key x) (O.key f) ≡ Less) xs (p ∷ ys) h.0).0, c.befores);
        pasts = c.pasts;
        rights = c.rights;
      }

  pub rising_near : (side : Side) (xs : List A) (p : A) (ys : List A) → Rising O (between side xs p ys) → Rising O xs
  rising_near Left xs p ys h = (cut xs p ys h).lefts
  rising_near Right xs p ys h = (cut ys p xs h).rights

  -- none beyond has the key
  pub no_far : (side : Side) (k : K) (xs : List A) (p : A) (ys : List A) → Rising O (between side xs p ys) → Goes O side k (O.key p) → No (at_key O k) ys
  no_far Left k xs p ys h g = all_weaker (λ y. O.cmp (O.key p) (O.key y) ≡ Less) (λ y. at_key O k y ≡ false) (λ y i. beyond_not Left k (O.key p) y g i) ys (cut xs p ys h).pasts
  no_far Right k xs p ys h g = all_weaker (λ y. O.cmp (O.key y) (O.key p) ≡ Less) (λ y. at_key O k y ≡ false) (λ y i. beyond_not Right k (O.key p) y g i) ys (cut ys p xs h).befores

  -- no other has the key of p
  pub no_left : (k : K) (xs : List A) (p : A) (ys : List A) → Rising O (xs ++ (p ∷ ys)) → O.cmp k (O.key p) ≡ Equal → No (at_key O k) xs
  no_left k xs p ys h q = all_weaker (λ x. O.cmp (O.key x) (O.key p) ≡ Less) (λ x. at_key O k x ≡ false) (λ x i. ap is_eq (L.congr k (O.key p) (O.key x) q) ∙ before_not (O.key p) x i) xs (cut xs p ys h).befores

  pub no_right : (k : K) (xs : List A) (p : A) (ys : List A) → Rising O (xs ++ (p ∷ ys)) → O.cmp k (O.key p) ≡ Equal → No (at_key O k) ys
  no_right k xs p ys h q = all_weaker (λ y. O.cmp (O.key p) (O.key y) ≡ Less) (λ y. at_key O k y ≡ false) (λ y i. ap is_eq (L.congr k (O.key p) (O.key y) q ∙ i)) ys (cut xs p ys h).pasts

  -- ---- one more in its place
  cond_append : (b : Bool) (xs ys zs : List A) → cond b (xs ++ zs) (ys ++ zs) ≡ cond b xs ys ++ zs
  cond_append true xs ys zs = refl
  cond_append false xs ys zs = refl

  placed_left : (q : A) (xs : List A) (p : A) (ys : List A) → past O (O.key q) p ≡ true → placed O q (xs ++ (p ∷ ys)) ≡ placed O q xs ++ (p ∷ ys)
  placed_left q [] p ys h = cond-true (past O (O.key q) p) (q ∷ (p ∷ ys)) (p ∷ placed O q ys) h
  placed_left q (x ∷ xs) p ys h =
      let b = past O (O.key q) x in
      ap (λ (u : List A). cond b (q ∷ (x ∷ (xs ++ (p ∷ ys)))) (x ∷ u)) (placed_left q xs p ys h) ∙ cond_append b (q ∷ (x ∷ xs)) (x ∷ placed O q xs) (p ∷ ys)

  placed_right : (q : A) (xs : List A) (p : A) (ys : List A) → AllByRecursion (λ x. O.cmp (O.key x) (O.key p) ≡ Less) xs → O.cmp (O.key p) (O.key q) ≡ Less → placed O q (xs ++ (p ∷ ys)) ≡ xs ++ (p ∷ placed O q ys)
  placed_right q [] p ys b h = cond-false (past O (O.key q) p) (q ∷ (p ∷ ys)) (p ∷ placed O q ys) (ap is_lt (turned (O.key p) (O.key q) h))
  placed_right q (x ∷ xs) p ys b h =
      cond-false (past O (O.key q) x) (q ∷ (x ∷ (xs ++ (p ∷ ys)))) (x ∷ placed O q (xs ++ (p ∷ ys))) (ap is_lt (turned (O.key x) (O.key q) (L.trans (O.key x) (O.key p) (O.key q) b.0 h)))
      ∙ ap (λ (u : List A). x ∷ u) (placed_right q xs p ys b.1 h)

  pub placed_between : (side : Side) (q : A) (xs : List A) (p : A) (ys : List A) → Rising O (between side xs p ys) → Goes O side (O.key q) (O.key p) → placed O q (between side xs p ys) ≡ between side (placed O q xs) p ys
  placed_between Left q xs p ys h g = placed_left q xs p ys (ap is_lt g)
  placed_between Right q xs p ys h g = placed_right q ys p xs (cut ys p xs h).befores g

  all_cond : (P : A → Type 0) (b : Bool) (xs ys : List A) → AllByRecursion P xs → AllByRecursion P ys → AllByRecursion P (cond b xs ys)
  all_cond P true xs ys h i = h
  all_cond P false xs ys h i = i

  pub all_placed : (P : A → Type 0) (q : A) (xs : List A) → P q → AllByRecursion P xs → AllByRecursion P (placed O q xs)
  all_placed P q [] h i = (h, tt)
  all_placed P q (x ∷ xs) h i = all_cond P (past O (O.key q) x) (q ∷ (x ∷ xs)) (x ∷ placed O q xs) (h, i) (i.0, all_placed P q xs h i.1)

  pub rising_placed : (q : A) (xs : List A) → Rising O xs → No (at_key O (O.key q)) xs → Rising O (placed O q xs)
  unfolding IsStrictlySortedBy
  rising_placed q [] h n = (tt, tt)
  rising_placed q (x ∷ xs) h n = go (O.cmp (O.key q) (O.key x)) refl (rising_placed q xs h.1 n.1)
    where
      go : (r : Ordering) → O.cmp (O.key q) (O.key x) ≡ r → Rising O (placed O q xs) → Rising O (cond (is_lt r) (q ∷ (x ∷ xs)) (x ∷ placed O q xs))
      go Less i r = ((i, all_weaker (λ f. O.cmp (O.key x) (O.key f) ≡ Less) (λ f. O.cmp (O.key q) (O.key f) ≡ Less) (λ f l. L.trans (O.key q) (O.key x) (O.key f) i l) xs h.0), h)
      go Equal i r = absurd (both_ways (at_key O (O.key q) x) n.0 (ap is_eq i))
      go Greater i r = (all_placed (λ f. O.cmp (O.key x) (O.key f) ≡ Less) q xs (L.antisymm (O.key x) (O.key q) ∙ ap ordering_reverse i) h.0, r)

  -- ---- the entry of a key
  pub record Found (k : K) (es : List A) (p : A) : Type 0 where
    pub before : List A
    pub after : List A
    pub is : es ≡ before ++ (p ∷ after)
    pub here : O.cmp k (O.key p) ≡ Equal
    pub no_before : No (at_key O k) before
    pub no_after : No (at_key O k) after

  split : (P : A → Bool) (es : List A) (p : A) → find P es ≡ Some p → (xs : List A) × (ys : List A) × (es ≡ xs ++ (p ∷ ys)) × (P p ≡ true)
  split P [] p h = absurd (none-some p h)
  split P (e ∷ es) p h = go (P e) refl h (split P es p)
    where
      go : (b : Bool) → P e ≡ b → cond b (Some e) (find P es) ≡ Some p → (find P es ≡ Some p → (xs : List A) × (ys : List A) × (es ≡ xs ++ (p ∷ ys)) × (P p ≡ true)) → (xs : List A) × (ys : List A) × (e ∷ es ≡ xs ++ (p ∷ ys)) × (P p ≡ true)
      go true q i ih = let s = same_Some e p i in ([], es, ap (λ (x : A). x ∷ es) s, subst (λ (x : A). P x ≡ true) s q)
      go false q i ih = let r = ih i in (e ∷ r.0, r.1, ap (λ (u : List A). e ∷ u) r.2, r.3)

  pub found : (k : K) (es : List A) (p : A) → Rising O es → find (at_key O k) es ≡ Some p → Found k es p
  found k es p rises h =
      let s = split (at_key O k) es p h in
      let r : Rising O (s.0 ++ (p ∷ s.1)) = subst (Rising O) s.2 rises in
      let q = at_same O k p s.3 in
      record { before = s.0; after = s.1; is = s.2; here = q; no_before = no_left k s.0 p s.1 r q; no_after = no_right k s.0 p s.1 r q }

  pub found_edited : (k : K) (es : List A) (p : A) (g : A → List A) → (F : Found k es p) → edited (at_key O k) g es ≡ F.before ++ (g p ++ F.after)
  found_edited k es p g F = ap (edited (at_key O k) g) F.is ∙ edited_here (at_key O k) g F.before p F.after F.no_before (same_at O k p F.here) F.no_after

  -- a rising list without one, and with another of the same key in its place
  all_out : (P : A → Type 0) (xs : List A) (p : A) (ys : List A) → AllByRecursion P (xs ++ (p ∷ ys)) → AllByRecursion P (xs ++ ys)
  all_out P [] p ys h = h.1
  all_out P (x ∷ xs) p ys h = (h.0, all_out P xs p ys h.1)

  pub rising_out : (xs : List A) (p : A) (ys : List A) → Rising O (xs ++ (p ∷ ys)) → Rising O (xs ++ ys)
  unfolding IsStrictlySortedBy
  rising_out [] p ys h = h.1
  rising_out (x ∷ xs) p ys h = (all_out (λ f. O.cmp (O.key x) (O.key f) ≡ Less) xs p ys h.0, rising_out xs p ys h.1)

  all_swap : (k : K) (xs : List A) (p q : A) (ys : List A) → O.cmp (O.key p) (O.key q) ≡ Equal → AllByRecursion (λ f. O.cmp k (O.key f) ≡ Less) (xs ++ (p ∷ ys)) → AllByRecursion (λ f. O.cmp k (O.key f) ≡ Less) (xs ++ (q ∷ ys))
  all_swap k [] p q ys e h = (sym (alike_right L (O.key p) (O.key q) k e) ∙ h.0, h.1)
  all_swap k (x ∷ xs) p q ys e h = (h.0, all_swap k xs p q ys e h.1)

  pub rising_swap : (xs : List A) (p q : A) (ys : List A) → O.cmp (O.key p) (O.key q) ≡ Equal → Rising O (xs ++ (p ∷ ys)) → Rising O (xs ++ (q ∷ ys))
  unfolding IsStrictlySortedBy
  rising_swap [] p q ys e h = (all_weaker (λ f. O.cmp (O.key p) (O.key f) ≡ Less) (λ f. O.cmp (O.key q) (O.key f) ≡ Less) (λ f i. sym (L.congr (O.key p) (O.key q) (O.key f) e) ∙ i) ys h.0, h.1)
  rising_swap (x ∷ xs) p q ys e h = (all_swap (O.key x) xs p q ys e h.0, rising_swap xs p q ys e h.1)
