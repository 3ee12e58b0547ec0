-- Rows checked and written one by one, and the room that they want.
use Rattle.std.proofs.Common.{◌≡◌, ℕ, ◌+◌, ◌*◌, ◌<◌, ◌≤◌, leb, List, [], ◌∷◌, ◌++◌, map, length, get_or, take, drop, Some, None, Option, sym, ap, ◌∙◌, ap₂, inl, inr, mul-le-mul_right, add-mul, arith, length-append, length-drop, length-take}
use lib.ListN.{length-map}
use Rattle.std.specs.List.{flat_map, AllByRecursion}
use Rattle.std.proofs.lemmas.List.{flat_map_more, map_more, drop-drop, append_assoc}
use Rattle.std.proofs.lemmas.Option.{cond_some, none-some}
use Rattle.std.proofs.lemmas.Bool.{cases_lt, leb-true, le-leb, cond-true}
use Rattle.loads.specs.Digits.{to_bytes}
use Rattle.loads.specs.Formats.{Format, Counted, Lawful, put_front}
use Rattle.loads.proofs.Fronts.{put_long, put_short}
use Rattle.profile.specs.Rows.{Row, end_before, rows_fault}
use Rattle.profile.specs.Wire.{row_bytes, row_size, put_at, place_after}
use Rattle.profile.proofs.Once.{cut}
use Rattle.profile.proofs.Putting.{put_at_long, put_behind, put_more}
use Rattle.profile.proofs.Written.{length_rows, length_row}

-- ---- faults

-- rows without fault have a minute each, below the horizon
pub rows_few : (h : ℕ) (before : Option Row) (rs : List Row) → rows_fault h before rs ≡ None → end_before before ≤ h → end_before before + length rs ≤ h
rows_few h before [] e l = omega arith
rows_few h before (r ∷ rs) e l =
    let c = cut h before r rs e in
    let a = c.0.some in
    let b = c.0.later in
    let d = rows_few h (Some r) rs c.1 c.0.below in
    omega arith

-- ---- places

pub place_some : (n at size : ℕ) (buffer : List ℕ) → Some n ≡ place_after at size buffer → (n ≡ at + size) × (at + size ≤ length buffer)
place_some n at size buffer e =
    let p = cond_some (leb (at + size) (length buffer)) (at + size) n (sym e) in
    (sym p.1, leb-true (at + size) (length buffer) p.0)

pub place_none : (at size : ℕ) (buffer : List ℕ) → None ≡ place_after at size buffer → length buffer < at + size
place_none at size buffer e = elim (cases_lt (length buffer) (at + size)) [
  | inl l ↦ l
  | inr l ↦ absurd (none-some (at + size) (e ∙ cond-true _ (Some (at + size)) None (le-leb (at + size) (length buffer) l)))
]

pub length_put_at : (at : ℕ) (bs buffer : List ℕ) → at + length bs ≤ length buffer → length (put_at at bs buffer) ≡ length buffer
length_put_at at bs buffer h =
    ap length (put_at_long at bs buffer h)
    ∙ (length-append (take at buffer) (bs ++ drop (at + length bs) buffer)
    ∙ (ap₂ ◌+◌ (length-take at buffer) (length-append bs (drop (at + length bs) buffer) ∙ ap (λ n. length bs + n) (length-drop (at + length bs) buffer)) ∙ omega arith))

-- ---- one row into a buffer

module _ (f : Format) (lawful : Lawful f) (r : Row) (counted : Counted f r.load) (at : ℕ) (buffer front rest : List ℕ) (cut : buffer ≡ front ++ rest) (place : length front ≡ at) where
  pub row_kept : (parts : List ℕ) → parts ≡ rest → length rest < row_size f → front ++ parts ≡ put_at at (row_bytes f r) buffer
  row_kept parts e h =
      let n = length_row f lawful r counted in
      ap (λ bs. front ++ bs) (e ∙ put_short (row_bytes f r) rest (omega arith)) ∙ put_behind at (row_bytes f r) buffer front rest cut place

  -- offset and length, and the image at the front of what follows them
  pub row_put : (offset minutes image load : List ℕ) → offset ≡ to_bytes 4 r.offset → minutes ≡ to_bytes 4 r.minutes → image ≡ drop 8 rest → row_size f ≤ length rest
      → load ≡ put_front (f.image r.load) image → front ++ (offset ++ (minutes ++ load)) ≡ put_at at (row_bytes f r) buffer
  row_put offset minutes image load a b i h l =
      let words = to_bytes 4 r.offset ++ to_bytes 4 r.minutes in
      let n = length_row f lawful r counted in
      let size = lawful.sized r.load counted in
      let long : f.size ≤ length image = rw (i, length-drop) (omega arith) in
      let after : load ≡ f.image r.load ++ drop (row_size f) rest
      = l ∙ (put_long (f.image r.load) image f.size size long ∙ ap (λ bs. f.image r.load ++ bs) (ap (drop f.size) i ∙ drop-drop f.size 8 rest)) in
      let row : offset ++ (minutes ++ load) ≡ put_front (row_bytes f r) rest
      = ap₂ (λ p q. p ++ (q ++ load)) a b
      ∙ (sym (append_assoc (to_bytes 4 r.offset) (to_bytes 4 r.minutes) load)
      ∙ (ap (λ bs. words ++ bs) after
      ∙ (sym (append_assoc words (f.image r.load) (drop (row_size f) rest)) ∙ sym (put_long (row_bytes f r) rest (row_size f) n h)))) in
      ap (λ bs. front ++ bs) row ∙ put_behind at (row_bytes f r) buffer front rest cut place

-- ---- rows into a buffer

pub all_counted : {X : Type 0} (f : Format) (view : X → Row) → ((x : X) → Counted f (view x).load) → (xs : List X) → AllByRecursion (λ r. Counted f r.load) (map view xs)
all_counted f view c [] = tt
all_counted f view c (x ∷ xs) = (c x, all_counted f view c xs)

pub length_all : {X : Type 0} (f : Format) → Lawful f → (view : X → Row) → ((x : X) → Counted f (view x).load) → (xs : List X) → length (flat_map (row_bytes f) (map view xs)) ≡ length xs * row_size f
length_all f lawful view c xs = length_rows f lawful (map view xs) (all_counted f view c xs) ∙ ap (λ (n : ℕ). n * row_size f) (length-map xs view)

module _ {X : Type 0} (f : Format) (lawful : Lawful f) (view : X → Row) (counted : (x : X) → Counted f (view x).load) (xs : List X) (start : ℕ) (buffer : List ℕ) (room : start + length xs * row_size f ≤ length buffer) where
  -- the bytes of the first i rows
  abbrev pub front : ℕ → List ℕ
  front i = flat_map (row_bytes f) (map view (take i xs))

  length_front : (i : ℕ) → i ≤ length xs → length (front i) ≡ i * row_size f
  length_front i l =
      length_all f lawful view counted (take i xs) ∙ ap (λ (n : ℕ). n * row_size f) (length-take i xs ∙ omega arith)

  front_fits : (i : ℕ) → i ≤ length xs → start + i * row_size f ≤ length buffer
  front_fits i l = omega (arith, mul-le-mul_right (row_size f) l)

  front_more : (i : ℕ) (x : X) → i < length xs → x ≡ get_or xs i x → front i ++ row_bytes f (view x) ≡ front (i + 1)
  front_more i x l e =
      flat_map_more (row_bytes f) [] (map view (take i xs)) (view x)
      ∙ ap (flat_map (row_bytes f)) (sym (map_more view xs i x l ∙ ap (λ y. map view (take i xs) ++ view y ∷ []) (sym e)))

  pub rows_put_more : (i at : ℕ) (x : X) (middle after : List ℕ) → i < length xs → x ≡ get_or xs i x → at ≡ start + i * row_size f
      → middle ≡ put_at start (front i) buffer → after ≡ put_at at (row_bytes f (view x)) middle → after ≡ put_at start (front (i + 1)) buffer
  rows_put_more i at x middle after l e a m p =
      let n = length_front i (omega arith) in
      let k = length_row f lawful (view x) (counted x) in
      let s = front_fits (i + 1) (omega arith) in
      put_more start (front i) (row_bytes f (view x)) buffer middle after at m (omega arith) (omega (arith, add-mul i 1 (row_size f))) p
      ∙ ap (λ bs. put_at start bs buffer) (front_more i x l e)
