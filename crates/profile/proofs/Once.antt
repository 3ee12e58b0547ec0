-- Rows without fault are told by the load at every minute.
use Rattle.std.proofs.Common.{◌≡◌, ℕ, zero, suc, ◌<◌, ◌≤◌, Bool, true, false, cond, ◌||◌, eqb, ltb, leb, List, [], ◌∷◌, length, replicate, Some, None, Option, sym, refl, ap, ◌∙◌, subst, ap₂, inl, inr, arith}
use Rattle.std.proofs.lemmas.Option.{none-some}
use Rattle.std.proofs.lemmas.Bool.{cases_Bool, cases_order, cases_lt, both_ways, or_parts, and_from, and_left, and_right, le-leb, lt-leb, lt-ltb, le-ltb, eq-eqb, eqb-false, ltb-false, cond-true, cond-false}
use Rattle.terms.specs.declared.refusal.Refusal.{Refusal}
use Rattle.terms.specs.declared.refusal.Refusal.TheVariants.{ProfileHorizon, RowPlace, RowLoad}
use Rattle.loads.specs.Counts.{alike, empty}
use Rattle.loads.specs.Formats.{Format, Lawful, zeros}
use Rattle.loads.specs.Same.{alike_is}
use Rattle.profile.specs.Rows.{Row, Profile, end_of, load_at, end_before, misplaced, goes_on, misloaded, row_fault, or_fault, rows_fault, lawful_horizon, profile_fault}
use Rattle.profile.specs.Wire.{profile_bytes}
use Rattle.profile.specs.Laws.{OneWriting}
use Rattle.profile.proofs.Accepts.{accepts_writings}

-- what a row without fault is
pub record Good (h : ℕ) (before : Option Row) (r : Row) : Type 0 where
  pub some : 0 < r.minutes
  pub below : end_of r ≤ h
  pub later : end_before before ≤ r.offset
  pub not_empty : empty r.load ≡ false
  pub other : goes_on before r ≡ false

free : (b : Bool) (e : Refusal) (o : Option Refusal) → cond b (Some e) o ≡ None → (b ≡ false) × (o ≡ None)
free true e o h = absurd (none-some e (sym h))
free false e o h = (refl, h)

good : (h : ℕ) (before : Option Row) (r : Row) → row_fault h before r ≡ None → Good h before r
good h before r e =
    let p = free (misplaced h before r) RowPlace _ e in
    let l = free (misloaded before r) RowLoad None p.1 in
    let p1 = or_parts (eqb r.minutes 0) (ltb h (end_of r) || ltb r.offset (end_before before)) p.0 in
    let p2 = or_parts (ltb h (end_of r)) (ltb r.offset (end_before before)) p1.1 in
    let l1 = or_parts (empty r.load) (goes_on before r) l.0 in
    record {
      some = elim (cases_lt 0 r.minutes) [ inl k ↦ k | inr k ↦ absurd (eqb-false r.minutes 0 p1.0 (omega arith)) ];
      below = ltb-false h (end_of r) p2.0;
      later = ltb-false r.offset (end_before before) p2.1;
      not_empty = l1.0;
      other = l1.1;
    }

-- the first row and the others
pub cut : (h : ℕ) (before : Option Row) (r : Row) (rs : List Row) → rows_fault h before (r ∷ rs) ≡ None → Good h before r × (rows_fault h (Some r) rs ≡ None)
cut h before r rs e = parts (row_fault h before r) refl e
  where
    parts : (o : Option Refusal) → row_fault h before r ≡ o → or_fault o (rows_fault h (Some r) rs) ≡ None → Good h before r × (rows_fault h (Some r) rs ≡ None)
    parts None p q = (good h before r p, q)
    parts (Some x) p q = absurd (none-some x (sym q))

-- a profile without fault
pub fault_free : (p : Profile) → profile_fault p ≡ None → (lawful_horizon p.horizon ≡ true) × (rows_fault p.horizon None p.rows ≡ None)
fault_free p e = elim (cases_Bool (lawful_horizon p.horizon)) [
  | inl k ↦ (k, sym (cond-true _ _ _ k) ∙ e)
  | inr k ↦ absurd (none-some ProfileHorizon (sym e ∙ cond-false _ (rows_fault p.horizon None p.rows) (Some ProfileHorizon) k))
]

abbrev row : ℕ → ℕ → List ℕ → Row
row offset minutes load = record { offset = offset; minutes = minutes; load = load }

abbrev profile : ℕ → List Row → Profile
profile horizon rows = record { horizon = horizon; rows = rows }

zeros_empty : (n : ℕ) → empty (replicate n 0) ≡ true
zeros_empty zero = refl
zeros_empty (suc n) = zeros_empty n

module _ (f : Format) where
  pub at_row : (r : Row) (rs : List Row) (m : ℕ) → r.offset ≤ m → m < end_of r → load_at f (r ∷ rs) m ≡ r.load
  at_row r rs m a b = let e = and_from (leb r.offset m) (ltb m (end_of r)) (le-leb r.offset m a) (lt-ltb m (end_of r) b) in rw (e, load_at)

  pub past_row : (r : Row) (rs : List Row) (m : ℕ) → end_of r ≤ m → load_at f (r ∷ rs) m ≡ load_at f rs m
  past_row r rs m a = let e = and_right (leb r.offset m) (ltb m (end_of r)) (le-ltb m (end_of r) a) in rw (e, load_at)

  pub before_row : (r : Row) (rs : List Row) (m : ℕ) → m < r.offset → load_at f (r ∷ rs) m ≡ load_at f rs m
  before_row r rs m a = let e = and_left (leb r.offset m) (ltb m (end_of r)) (lt-leb r.offset m a) in rw (e, load_at)

  -- before the rows there is no load
  pub before_all : (h : ℕ) (before : Option Row) (rs : List Row) → rows_fault h before rs ≡ None → (m : ℕ) → m < end_before before → load_at f rs m ≡ zeros f
  before_all h before [] e m l = refl
  before_all h before (r ∷ rs) e m l =
      let c = cut h before r rs e in
      let k = c.0.later in
      before_row r rs m (omega arith) ∙ before_all h (Some r) rs c.1 m (omega arith)

  -- nor before the first one's offset
  pub early : (h : ℕ) (before : Option Row) (r : Row) (rs : List Row) → rows_fault h before (r ∷ rs) ≡ None → (m : ℕ) → m < r.offset → load_at f (r ∷ rs) m ≡ zeros f
  early h before r rs e m l =
      let c = cut h before r rs e in
      before_row r rs m l ∙ before_all h (Some r) rs c.1 m (omega arith)

  pub no_load : (x : List ℕ) → x ≡ zeros f → empty x ≡ false → ⊥
  no_load x e h = both_ways (empty x) h (ap empty e ∙ zeros_empty (length f.ceilings))

  -- right after a row there is another load
  pub next_differs : (h : ℕ) (r : Row) (rs : List Row) → empty r.load ≡ false → rows_fault h (Some r) rs ≡ None → load_at f rs (end_of r) ≡ r.load → ⊥
  next_differs h r [] n e s = no_load r.load (sym s) n
  next_differs h r (q ∷ qs) n e s =
      let c = cut h (Some r) q qs e in
      elim (cases_order q.offset (end_of r)) [
        | inl k ↦
            let l = at_row q qs (end_of r) (omega arith) (omega (arith, c.0.some)) in
            both_ways (goes_on (Some r) q) c.0.other
            (and_from (eqb (end_of r) q.offset) (alike r.load q.load) (eq-eqb (end_of r) q.offset (sym k)) ((alike_is r.load q.load).1 (sym s ∙ l)))
        | inr (inl k) ↦ absurd (omega (arith, c.0.later))
        | inr (inr k) ↦ no_load r.load (sym s ∙ early h (Some r) q qs e (end_of r) k) n
      ]

  abbrev Alike : ℕ → Option Row → List Row → List Row → Type 0
  Alike h before rs qs = (m : ℕ) → end_before before ≤ m → m < h → load_at f rs m ≡ load_at f qs m

  -- no list of rows begins before the other
  not_sooner : (h : ℕ) (before : Option Row) (r q : Row) (rs qs : List Row) → rows_fault h before (r ∷ rs) ≡ None → rows_fault h before (q ∷ qs) ≡ None
      → Alike h before (r ∷ rs) (q ∷ qs) → r.offset < q.offset → ⊥
  not_sooner h before r q rs qs e d same l =
      let c = cut h before r rs e in
      let s = c.0.some in
      let b = c.0.below in
      no_load r.load
      (sym (at_row r rs r.offset (omega arith) (omega arith)) ∙ (same r.offset c.0.later (omega arith) ∙ early h before q qs d r.offset l))
      c.0.not_empty

  -- nor ends its first row before the other's
  not_shorter : (h : ℕ) (before : Option Row) (r q : Row) (rs qs : List Row) → rows_fault h before (r ∷ rs) ≡ None → rows_fault h before (q ∷ qs) ≡ None
      → Alike h before (r ∷ rs) (q ∷ qs) → r.offset ≡ q.offset → r.load ≡ q.load → end_of r < end_of q → ⊥
  not_shorter h before r q rs qs e d same o x l =
      let c = cut h before r rs e in
      let k = cut h before q qs d in
      let a = c.0.later in
      let b = k.0.below in
      next_differs h r rs c.0.not_empty c.1
      (sym (past_row r rs (end_of r) (omega arith))
      ∙ (same (end_of r) (omega arith) (omega arith) ∙ (at_row q qs (end_of r) (omega arith) l ∙ sym x)))

  swap : (h : ℕ) (before : Option Row) (rs qs : List Row) → Alike h before rs qs → Alike h before qs rs
  swap h before rs qs same m a b = sym (same m a b)

  first_same : (h : ℕ) (before : Option Row) (r q : Row) (rs qs : List Row) → rows_fault h before (r ∷ rs) ≡ None → rows_fault h before (q ∷ qs) ≡ None
      → Alike h before (r ∷ rs) (q ∷ qs) → r ≡ q
  first_same h before r q rs qs e d same =
      let c = cut h before r rs e in
      let k = cut h before q qs d in
      let back = swap h before (r ∷ rs) (q ∷ qs) same in
      let o : r.offset ≡ q.offset = elim (cases_order r.offset q.offset) [
        | inl i ↦ i
        | inr (inl i) ↦ absurd (not_sooner h before r q rs qs e d same i)
        | inr (inr i) ↦ absurd (not_sooner h before q r qs rs d e back i)
      ] in
      let s = c.0.some in
      let t = k.0.some in
      let b = c.0.below in
      let x : r.load ≡ q.load
      = sym (at_row r rs r.offset (omega arith) (omega arith))
      ∙ (same r.offset c.0.later (omega arith) ∙ at_row q qs r.offset (omega arith) (omega arith)) in
      let n : r.minutes ≡ q.minutes = elim (cases_order (end_of r) (end_of q)) [
        | inl i ↦ omega arith
        | inr (inl i) ↦ absurd (not_shorter h before r q rs qs e d same o x i)
        | inr (inr i) ↦ absurd (not_shorter h before q r qs rs d e back (sym o) (sym x) i)
      ] in
      ap (λ v. row v r.minutes r.load) o ∙ (ap (λ v. row q.offset v r.load) n ∙ ap (row q.offset q.minutes) x)

  pub same_rows : (h : ℕ) (before : Option Row) (rs qs : List Row) → rows_fault h before rs ≡ None → rows_fault h before qs ≡ None → Alike h before rs qs → rs ≡ qs
  same_rows h before [] [] e d same = refl
  same_rows h before [] (q ∷ qs) e d same =
      let k = cut h before q qs d in
      let s = k.0.some in
      let b = k.0.below in
      absurd (no_load q.load (sym (at_row q qs q.offset (omega arith) (omega arith)) ∙ sym (same q.offset k.0.later (omega arith))) k.0.not_empty)
  same_rows h before (r ∷ rs) [] e d same =
      let c = cut h before r rs e in
      let s = c.0.some in
      let b = c.0.below in
      absurd (no_load r.load (sym (at_row r rs r.offset (omega arith) (omega arith)) ∙ same r.offset c.0.later (omega arith)) c.0.not_empty)
  same_rows h before (r ∷ rs) (q ∷ qs) e d same =
      let c = cut h before r rs e in
      let k = cut h before q qs d in
      let i : r ≡ q = first_same h before r q rs qs e d same in
      let l = c.0.later in
      let ends : end_of q ≡ end_of r = ap end_of (sym i) in
      let after = subst (λ t. rows_fault h (Some t) qs ≡ None) (sym i) k.1 in
      ap₂ ◌∷◌ i
      (same_rows h (Some r) rs qs c.1 after
      (λ m a b. sym (past_row r rs m a) ∙ (same m (omega arith) b ∙ past_row q qs m (omega arith))))

  pub one_writing : Lawful f → OneWriting f
  one_writing lawful bs cs p q b c x y h same =
      let a = accepts_writings f lawful bs p b x in
      let d = accepts_writings f lawful cs q c y in
      let rows : p.rows ≡ q.rows
      = same_rows p.horizon None p.rows q.rows (fault_free p a.faultless).1
      (subst (λ k. rows_fault k None q.rows ≡ None) (sym h) (fault_free q d.faultless).1) (λ m _ l. same m l) in
      let is : p ≡ q = ap (λ k. profile k p.rows) h ∙ ap (profile q.horizon) rows in
      a.written ∙ (ap (profile_bytes f) is ∙ sym d.written)
