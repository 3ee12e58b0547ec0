-- The lines of an input, cut off one after another.
use Rattle.std.proofs.Common.{◌≡◌, ℕ, suc, ◌+◌, ◌<◌, ◌≤◌, true, false, cond, eqb, ltb, Bool, List, [], ◌∷◌, length, take, drop, Some, None, Option, ◌-◌, sym, refl, ap, ◌∙◌, ap₂, inl, inr, one-add, arith}
use Rattle.std.proofs.lemmas.Bool.{cases_Bool, cond-true, cond-false, cond_both, lt-ltb, le-ltb, ltb-true, ltb-false}
use Rattle.std.proofs.lemmas.List.Recursion.{is_position_or_len}
use Rattle.std.proofs.lemmas.List.{take_rest, take_all}
use Rattle.std.specs.List.{position, position_or_len}
use Rattle.text.specs.Lines.{before, after, line_end, next_line, lead, lines_of}

-- the library's word for how many bytes stand before a byte
before_is : (b : ℕ) (bs : List ℕ) → before b bs ≡ position_or_len (λ c. eqb c b) bs
before_is b bs = is_position_or_len (before b) (λ c. eqb c b) refl (λ c cs. refl) bs

-- where the first byte stands that is b
abbrev pub place : ℕ → List ℕ → Option ℕ
place b bs = cond (ltb (before b bs) (length bs)) (Some (before b bs)) None

pub placed : (b : ℕ) (bs : List ℕ) (r : Option ℕ) → r ≡ position (λ c. eqb c b) bs → r ≡ place b bs
placed b bs r e = e ∙ ap (λ k. cond (ltb k (length bs)) (Some k) None) (sym (before_is b bs))

at_some : (i k : ℕ) (t : Bool) → Some i ≡ cond t (Some k) None → (i ≡ k) × (t ≡ true)
at_some i k true e = (cc, refl)
at_some i k false e = cc

at_none : (k : ℕ) (t : Bool) → None ≡ cond t (Some k) None → t ≡ false
at_none k true e = cc
at_none k false e = refl

pub cut_found : (b : ℕ) (bs : List ℕ) (i : ℕ) → Some i ≡ place b bs → (take i bs ≡ take (before b bs) bs) × (Some (take (length bs - (i + 1)) (drop (i + 1) bs)) ≡ after b bs)
cut_found b bs i e =
    let p = at_some i (before b bs) (ltb (before b bs) (length bs)) e in (
      ap (λ k. take k bs) p.0,
      ap Some (take_rest bs (i + 1)) ∙ ap (λ k. Some (drop (k + 1) bs)) p.0 ∙ sym (cond-true _ _ _ p.1),
    )

pub cut_missing : (b : ℕ) (bs : List ℕ) → None ≡ place b bs → (bs ≡ take (before b bs) bs) × (None ≡ after b bs)
cut_missing b bs e =
    let p = at_none (before b bs) (ltb (before b bs) (length bs)) e in
    (sym (take_all (before b bs) bs (ltb-false (before b bs) (length bs) p)), sym (cond-false _ _ _ p))

-- the next line of a longer input begins one byte later
next_more : (e n : ℕ) → cond (ltb (1 + e) (suc n)) (1 + e + 1) (suc n) ≡ suc (cond (ltb e n) (e + 1) n)
next_more e n =
    elim (cases_Bool (ltb e n)) [
      | inl t ↦
          let below = ltb-true e n t in
          let a : 1 + e + 1 ≡ suc (e + 1) = omega arith in
          cond-true _ _ _ (lt-ltb (1 + e) (suc n) (omega arith)) ∙ (a ∙ ap suc (sym (cond-true _ _ _ t)))
      | inr t ↦
          let above = ltb-false e n t in
          cond-false _ _ _ (le-ltb (1 + e) (suc n) (omega arith)) ∙ ap suc (sym (cond-false _ _ _ t))
    ]

-- the first line, and the lines after it
abbrev pub cut : List ℕ → List (List ℕ)
cut bs = take (line_end bs) bs ∷ lines_of (drop (next_line bs) bs)

cut_more : (b c : ℕ) (cs : List ℕ) → eqb b 10 ≡ false → lead b (cut (c ∷ cs)) ≡ cut (b ∷ (c ∷ cs))
cut_more b c cs t =
    let bs = c ∷ cs in
    let e : line_end (b ∷ bs) ≡ suc (line_end bs) = cond-false _ _ _ t ∙ one-add (line_end bs) in
    let n : next_line (b ∷ bs) ≡ suc (next_line bs)
    = ap (λ k. cond (ltb k (suc (length bs))) (k + 1) (suc (length bs))) (cond-false _ _ _ t) ∙ next_more (line_end bs) (length bs) in
    ap₂ (λ k m. take k (b ∷ bs) ∷ lines_of (drop m (b ∷ bs))) (sym e) (sym n)

fed : (b : ℕ) (bs : List ℕ) → eqb b 10 ≡ true → [] ∷ lines_of bs ≡ cut (b ∷ bs)
fed b bs t =
    let e : line_end (b ∷ bs) ≡ 0 = cond-true _ _ _ t in
    let n : next_line (b ∷ bs) ≡ 1
    = ap (λ k. cond (ltb k (suc (length bs))) (k + 1) (suc (length bs))) e ∙ cond-true _ _ _ (lt-ltb 0 (suc (length bs)) (omega arith)) in
    ap₂ (λ k m. take k (b ∷ bs) ∷ lines_of (drop m (b ∷ bs))) (sym e) (sym n)

alone : (b : ℕ) → eqb b 10 ≡ false → (b ∷ []) ∷ [] ≡ cut (b ∷ [])
alone b t =
    let e : line_end (b ∷ []) ≡ 1 = cond-false _ _ _ t in
    ap (λ k. take k (b ∷ []) ∷ lines_of (drop (cond (ltb k 1) (k + 1) 1) (b ∷ []))) (sym e)

-- an input is its first line and then the lines of the rest
pub lines_more : (bs : List ℕ) → 0 < length bs → lines_of bs ≡ cut bs
lines_more [] h = absurd (omega arith)
lines_more (b ∷ []) h = elim (cases_Bool (eqb b 10)) [ inl t ↦ cond-true _ _ _ t ∙ fed b [] t | inr t ↦ cond-false _ _ _ t ∙ alone b t ]
lines_more (b ∷ (c ∷ cs)) h =
    elim (cases_Bool (eqb b 10)) [
      | inl t ↦ cond-true _ _ _ t ∙ fed b (c ∷ cs) t
      | inr t ↦ cond-false _ _ _ t ∙ (ap (lead b) (lines_more (c ∷ cs) (omega arith)) ∙ cut_more b c cs t)
    ]

lead_few : (b : ℕ) (ls : List (List ℕ)) (n : ℕ) → length ls ≤ n → length (lead b ls) ≤ suc n
lead_few b [] n h = omega arith
lead_few b (l ∷ ls) n h = omega arith

-- a line has a byte of its own: its line feed, or another where it is the last
pub lines_few : (bs : List ℕ) → length (lines_of bs) ≤ length bs
lines_few [] = omega arith
lines_few (b ∷ bs) =
    let few = lines_few bs in
    cond_both (eqb b 10) ([] ∷ lines_of bs) (lead b (lines_of bs)) (λ ls. length ls ≤ suc (length bs)) (λ _. omega arith) (λ _. lead_few b (lines_of bs) (length bs) few)

-- where the first line ends is no later than where the next begins, and neither lies past the end
pub before_within : (b : ℕ) (bs : List ℕ) → before b bs ≤ length bs
before_within b [] = omega arith
before_within b (c ∷ cs) =
    let below = before_within b cs in
    cond_both (eqb c b) 0 (1 + before b cs) (λ k. k ≤ suc (length cs)) (λ _. omega arith) (λ _. omega arith)

pub next_within : (bs : List ℕ) → (line_end bs ≤ next_line bs) × (next_line bs ≤ length bs)
next_within bs =
    let below = before_within 10 bs in
    elim (cases_Bool (ltb (line_end bs) (length bs))) [
      | inl t ↦
          let next : next_line bs ≡ line_end bs + 1 = cond-true _ _ _ t in
          let early = ltb-true (line_end bs) (length bs) t in
          (omega arith, omega arith)
      | inr t ↦ let next : next_line bs ≡ length bs = cond-false _ _ _ t in (omega arith, omega arith)
    ]
