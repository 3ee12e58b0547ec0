-- Rows of slots with entries: which slots stand in them, and that none stands twice.
use Rattle.std.proofs.Common.{◌≡◌, ℕ, ◌⊎◌, List, [], ◌∷◌, ◌++◌, sym, refl, subst, inl, inr}
use Rattle.tree.specs.Shape.{In, Distinct}

pub in_left : {E : Type 0} (k : ℕ) (xs ys : List (ℕ × E)) → In k xs → In k (xs ++ ys)
in_left k [] ys h = absurd h
in_left k (x ∷ xs) ys (inl q) = inl q
in_left k (x ∷ xs) ys (inr q) = inr (in_left k xs ys q)

pub in_right : {E : Type 0} (k : ℕ) (xs ys : List (ℕ × E)) → In k ys → In k (xs ++ ys)
in_right k [] ys h = h
in_right k (x ∷ xs) ys h = inr (in_right k xs ys h)

pub in_mid : {E : Type 0} (xs : List (ℕ × E)) (s : ℕ) (e : E) (ys : List (ℕ × E)) → In s (xs ++ ((s, e) ∷ ys))
in_mid xs s e ys = in_right s xs ((s, e) ∷ ys) (inl refl)

pub in_parts : {E : Type 0} (k : ℕ) (xs ys : List (ℕ × E)) → In k (xs ++ ys) → In k xs ⊎ In k ys
in_parts k [] ys h = inr h
in_parts k (x ∷ xs) ys (inl q) = inl (inl q)
in_parts k (x ∷ xs) ys (inr q) = elim (in_parts k xs ys q) [ inl a ↦ inl (inr a) | inr b ↦ inr b ]

-- what distinct slots say of a row that is cut at one
pub record Parts {E : Type 0} (xs : List (ℕ × E)) (s : ℕ) (ys : List (ℕ × E)) : Type 0 where
  pub new_left : In s xs → ⊥
  pub new_right : In s ys → ⊥
  pub apart : (k : ℕ) → In k xs → In k ys → ⊥
  pub lefts : Distinct xs
  pub rights : Distinct ys

pub parts : {E : Type 0} (xs : List (ℕ × E)) (p : ℕ × E) (ys : List (ℕ × E)) → Distinct (xs ++ (p ∷ ys)) → Parts xs p.0 ys
parts [] p ys d = record { new_left = λ h. h; new_right = d.0; apart = λ k h. absurd h; lefts = tt; rights = d.1 }
parts (x ∷ xs) p ys d =
    let c = parts xs p ys d.1 in
    record {
      new_left = elim [ inl q ↦ d.0 (in_right x.0 xs (p ∷ ys) (inl (sym q))) | inr h ↦ c.new_left h ];
      new_right = c.new_right;
      apart = λ k. elim [ inl q ↦ λ h. d.0 (in_right x.0 xs (p ∷ ys) (inr (subst (λ (j : ℕ). In j ys) q h))) | inr h ↦ c.apart k h ];
      lefts = (λ h. d.0 (in_left x.0 xs (p ∷ ys) h), c.lefts);
      rights = c.rights;
    }

-- a row with one more in its middle
pub in_out : {E : Type 0} (k : ℕ) (xs : List (ℕ × E)) (p : ℕ × E) (ys : List (ℕ × E)) → In k (xs ++ ys) → In k (xs ++ (p ∷ ys))
in_out k [] p ys h = inr h
in_out k (x ∷ xs) p ys (inl q) = inl q
in_out k (x ∷ xs) p ys (inr q) = inr (in_out k xs p ys q)

pub in_drop : {E : Type 0} (k : ℕ) (xs : List (ℕ × E)) (p : ℕ × E) (ys : List (ℕ × E)) → In k (xs ++ (p ∷ ys)) → (k ≡ p.0) ⊎ In k (xs ++ ys)
in_drop k [] p ys h = h
in_drop k (x ∷ xs) p ys (inl q) = inr (inl q)
in_drop k (x ∷ xs) p ys (inr h) = elim (in_drop k xs p ys h) [ inl q ↦ inl q | inr i ↦ inr (inr i) ]

pub distinct_out : {E : Type 0} (xs : List (ℕ × E)) (p : ℕ × E) (ys : List (ℕ × E)) → Distinct (xs ++ (p ∷ ys)) → Distinct (xs ++ ys)
distinct_out [] p ys d = d.1
distinct_out (x ∷ xs) p ys d = (λ h. d.0 (in_out x.0 xs p ys h), distinct_out xs p ys d.1)

pub distinct_in : {E : Type 0} (xs : List (ℕ × E)) (p : ℕ × E) (ys : List (ℕ × E)) → Distinct (xs ++ ys) → (In p.0 (xs ++ ys) → ⊥) → Distinct (xs ++ (p ∷ ys))
distinct_in [] p ys d new = (new, d)
distinct_in (x ∷ xs) p ys d new =
    (λ h. elim (in_drop x.0 xs p ys h) [ inl q ↦ new (inl (sym q)) | inr i ↦ d.0 i ], distinct_in xs p ys d.1 (λ h. new (inr h)))

pub distinct_right : {E : Type 0} (xs ys : List (ℕ × E)) → Distinct (xs ++ ys) → Distinct ys
distinct_right [] ys d = d
distinct_right (x ∷ xs) ys d = distinct_right xs ys d.1
