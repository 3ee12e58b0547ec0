-- What was written reads back.
use Rattle.std.proofs.Common.{◌≡◌, ℕ, suc, ◌+◌, ◌*◌, ◌≤◌, cond, List, [], ◌∷◌, ◌++◌, length, take, drop, Some, None, Ok, Err, Option, sym, refl, ap, ◌∙◌, ap₂, inl, inr, add-mul, arith, length-append}
use Rattle.std.specs.List.{flat_map, AllByRecursion}
use Rattle.std.proofs.lemmas.List.{take_at, drop_at, append_assoc}
use Rattle.std.proofs.lemmas.Bool.{cases_Bool, le-leb, eq-eqb, cond-true, cond-false}
use Rattle.terms.specs.declared.refusal.Refusal.{Refusal}
use Rattle.terms.specs.declared.refusal.Refusal.TheVariants.{ProfileHorizon}
use Rattle.loads.specs.Digits.{to_bytes, from_bytes}
use Rattle.loads.specs.Formats.{Format, Counted, Lawful, read_front, or_no_image}
use Rattle.loads.proofs.Fronts.{read_long}
use Rattle.loads.specs.Places.{length_to_bytes, from_to_bytes}
use Rattle.profile.specs.Rows.{Row, Profile, row_fault, rows_fault, or_fault, lawful_horizon, unless}
use Rattle.profile.specs.Wire.{row_bytes, row_size, header_bytes, profile_bytes, profile_size, read_header, with_load, row_at, checked, prepend, then_rows, read_rows, as_profile, then_body}
use Rattle.profile.specs.Laws.{Writable, FitsBytes, ReadsBack}

pub prepend_unless : (o : Option Refusal) (r : Row) (rs : List Row) → prepend r (unless o rs) ≡ unless o (r ∷ rs)
prepend_unless None r rs = refl
prepend_unless (Some e) r rs = refl

as_unless : (o : Option Refusal) (h : ℕ) (rs : List Row) → as_profile h (unless o rs) ≡ unless o (record { horizon = h; rows = rs })
as_unless None h rs = refl
as_unless (Some e) h rs = refl

pub length_header : (f : Format) (h n : ℕ) → length (header_bytes f h n) ≡ 9
length_header f h n = ap suc (length-append (to_bytes 4 h) (to_bytes 4 n) ∙ ap₂ ◌+◌ (length_to_bytes 4 h) (length_to_bytes 4 n))

module _ (f : Format) (lawful : Lawful f) where
  pub length_row : (r : Row) → Counted f r.load → length (row_bytes f r) ≡ row_size f
  length_row r w =
      length-append (to_bytes 4 r.offset ++ to_bytes 4 r.minutes) (f.image r.load)
      ∙ ap₂ ◌+◌
      (length-append (to_bytes 4 r.offset) (to_bytes 4 r.minutes) ∙ ap₂ ◌+◌ (length_to_bytes 4 r.offset) (length_to_bytes 4 r.minutes))
      (lawful.sized r.load w)

  pub length_rows : (rs : List Row) → AllByRecursion (λ r. Counted f r.load) rs → length (flat_map (row_bytes f) rs) ≡ length rs * row_size f
  length_rows [] w = omega arith
  length_rows (r ∷ rs) w =
      let a = length_row r w.0 in
      let b = length_rows rs w.1 in
      length-append (row_bytes f r) (flat_map (row_bytes f) rs) ∙ omega (arith, add-mul 1 (length rs) (row_size f))

  image_reads : (cs rest : List ℕ) → Counted f cs → read_front f (f.image cs ++ rest) ≡ Ok cs
  image_reads cs rest c =
      let n = lawful.sized cs c in
      read_long f (f.image cs ++ rest) (omega (arith, length-append (f.image cs) rest))
      ∙ ap or_no_image (ap f.decode (take_at (f.image cs) rest f.size n) ∙ lawful.decodes cs c)

  row_reads : (r : Row) (rest : List ℕ) → Writable f r → row_at f (row_bytes f r ++ rest) ≡ Ok r
  row_reads r rest w =
      let A = to_bytes 4 r.offset in
      let B = to_bytes 4 r.minutes in
      let C = f.image r.load in
      let a = length_to_bytes 4 r.offset in
      let b = length_to_bytes 4 r.minutes in
      let e : row_bytes f r ++ rest ≡ A ++ (B ++ (C ++ rest)) = simp append_assoc in
      let ab : length (A ++ B) ≡ 8 = length-append A B ∙ ap₂ ◌+◌ a b in
      let e8 : row_bytes f r ++ rest ≡ (A ++ B) ++ (C ++ rest) = append_assoc (A ++ B) C rest in
      let long : 8 ≤ length (row_bytes f r ++ rest) = omega (arith, ap length e8, length-append (A ++ B) (C ++ rest)) in
      let first : from_bytes (take 4 (row_bytes f r ++ rest)) ≡ r.offset
      = ap from_bytes (ap (take 4) e ∙ take_at A (B ++ (C ++ rest)) 4 a) ∙ from_to_bytes 4 r.offset w.offset in
      let second : from_bytes (take 4 (drop 4 (row_bytes f r ++ rest))) ≡ r.minutes
      = ap from_bytes (ap (take 4) (ap (drop 4) e ∙ drop_at A (B ++ (C ++ rest)) 4 a) ∙ take_at B (C ++ rest) 4 b) ∙ from_to_bytes 4 r.minutes w.minutes in
      let third : read_front f (drop 8 (row_bytes f r ++ rest)) ≡ Ok r.load
      = ap (read_front f) (ap (drop 8) e8 ∙ drop_at (A ++ B) (C ++ rest) 8 ab) ∙ image_reads r.load rest w.load in
      cond-true _ _ _ (le-leb 8 (length (row_bytes f r ++ rest)) long)
      ∙ (ap (λ o. with_load o (from_bytes (take 4 (drop 4 (row_bytes f r ++ rest)))) (read_front f (drop 8 (row_bytes f r ++ rest)))) first
      ∙ (ap (λ m. with_load r.offset m (read_front f (drop 8 (row_bytes f r ++ rest)))) second ∙ ap (with_load r.offset r.minutes) third))

  pub rows_read : (h : ℕ) (before : Option Row) (rs : List Row) → AllByRecursion (Writable f) rs
      → read_rows f h before (length rs) (flat_map (row_bytes f) rs) ≡ unless (rows_fault h before rs) rs
  rows_read h before [] w = refl
  rows_read h before (r ∷ rs) w =
      let rest = flat_map (row_bytes f) rs in
      ap (λ x. then_rows x (λ q. read_rows f h (Some q) (length rs) (drop (row_size f) (row_bytes f r ++ rest)))) (ap (checked h before) (row_reads r rest w.0))
      ∙ step (rows_read h (Some r) rs w.1) (row_fault h before r)
    where
      step : read_rows f h (Some r) (length rs) (flat_map (row_bytes f) rs) ≡ unless (rows_fault h (Some r) rs) rs → (o : Option Refusal)
          → then_rows (unless o r) (λ q. read_rows f h (Some q) (length rs) (drop (row_size f) (row_bytes f r ++ flat_map (row_bytes f) rs)))
          ≡ unless (or_fault o (rows_fault h (Some r) rs)) (r ∷ rs)
      step next (Some e) = refl
      step next None =
          ap (prepend r)
          (ap (read_rows f h (Some r) (length rs)) (drop_at (row_bytes f r) (flat_map (row_bytes f) rs) (row_size f) (length_row r w.0.load))
          ∙ next)
          ∙ prepend_unless (rows_fault h (Some r) rs) r rs

  header_reads : (p : Profile) (rest : List ℕ) → FitsBytes f p
      → read_header f (header_bytes f p.horizon (length p.rows) ++ rest)
      ≡ cond (lawful_horizon p.horizon) (Ok (record { horizon = p.horizon; count = length p.rows })) (Err ProfileHorizon)
  header_reads p rest w =
      let H = to_bytes 4 p.horizon in
      let N = to_bytes 4 (length p.rows) in
      let a = length_to_bytes 4 p.horizon in
      let b = length_to_bytes 4 (length p.rows) in
      let e : (H ++ N) ++ rest ≡ H ++ (N ++ rest) = append_assoc H N rest in
      let long : 9 ≤ length (f.mark ∷ ((H ++ N) ++ rest)) = omega (arith, length-append (H ++ N) rest, length-append H N) in
      let first : from_bytes (take 4 ((H ++ N) ++ rest)) ≡ p.horizon
      = ap from_bytes (ap (take 4) e ∙ take_at H (N ++ rest) 4 a) ∙ from_to_bytes 4 p.horizon w.horizon in
      let second : from_bytes (take 4 (drop 4 ((H ++ N) ++ rest))) ≡ length p.rows
      = ap from_bytes (ap (take 4) (ap (drop 4) e ∙ drop_at H (N ++ rest) 4 a) ∙ take_at N rest 4 b) ∙ from_to_bytes 4 (length p.rows) w.count in
      cond-true _ _ _ (le-leb 9 (length (f.mark ∷ ((H ++ N) ++ rest))) long)
      ∙ (cond-true _ _ _ (eq-eqb f.mark f.mark refl)
      ∙ ap₂ (λ h n. cond (lawful_horizon h) (Ok (record { horizon = h; count = n })) (Err ProfileHorizon)) first second)

  pub length_profile : (p : Profile) → AllByRecursion (λ r. Counted f r.load) p.rows → length (profile_bytes f p) ≡ profile_size f (length p.rows)
  length_profile p w =
      length-append (header_bytes f p.horizon (length p.rows)) (flat_map (row_bytes f) p.rows)
      ∙ ap₂ ◌+◌ (length_header f p.horizon (length p.rows)) (length_rows p.rows w)

  pub reads_back : ReadsBack f
  reads_back p w =
      let body = flat_map (row_bytes f) p.rows in
      let head = header_bytes f p.horizon (length p.rows) in
      ap₂ (λ bs h. then_body f bs h) (drop_at head body 9 (length_header f p.horizon (length p.rows))) (header_reads p body w)
      ∙ elim (cases_Bool (lawful_horizon p.horizon)) [
        | inl e ↦ ap (then_body f body) (cond-true _ _ _ e)
            ∙ (ap (as_profile p.horizon) (rows_read p.horizon None p.rows w.rows)
            ∙ (as_unless (rows_fault p.horizon None p.rows) p.horizon p.rows
            ∙ ap (λ o. unless o p) (sym (cond-true _ _ _ e))))
        | inr e ↦ ap (then_body f body) (cond-false _ _ _ e) ∙ ap (λ o. unless o p) (sym (cond-false _ _ _ e))
      ]
