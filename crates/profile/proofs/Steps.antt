-- The rows of a profile read one by one.
use Rattle.std.proofs.Common.{◌≡◌, ℕ, false, zero, suc, ◌-◌, ◌<◌, List, [], ◌∷◌, ◌++◌, map, length, drop, Some, None, Ok, Err, Option, Result, sym, refl, ap, ◌∙◌, arith, length-append}
use Rattle.std.specs.Option.{is_some, option_map}
use Rattle.std.specs.Result.{result_err}
use Rattle.std.proofs.lemmas.Bool.{false≢true}
use Rattle.std.proofs.lemmas.List.{append_assoc, map_push}
use Rattle.terms.specs.declared.refusal.Refusal.{Refusal}
use Rattle.loads.specs.Formats.{Format}
use Rattle.profile.specs.Rows.{Row, Profile, row_fault, unless}
use Rattle.profile.specs.Views.{with_next}
use Rattle.profile.specs.Wire.{row_size, Header, read_header, row_at, checked, next_row, prepend, then_rows, read_rows, as_profile, then_body, read_profile, header_read}

-- no value is two constructors
pub ok_not_err : {X Y : Type 0} {x : X} {y : Y} → ◌≡◌ {A = Result X Y} (Err y) (Ok x) → ⊥
ok_not_err e = let z : ◌≡◌ {A = ℕ} 0 1 = cc in omega arith

pub prepend_ok : (r : Row) (x : Result (List Row) Refusal) (rs : List Row) → prepend r x ≡ Ok rs → (qs : List Row) × (x ≡ Ok qs) × (r ∷ qs ≡ rs)
prepend_ok r (Err g) rs h = absurd (ok_not_err h)
prepend_ok r (Ok qs) rs h = (qs, refl, (cc))

-- a fault, whatever it was asked of
pub unless_err : {X Y : Type 0} (o : Option Refusal) (e : Refusal) (x : X) (y : Y) → Err e ≡ unless o x → unless o y ≡ Err e
unless_err None e x y h = absurd (ok_not_err h)
unless_err (Some g) e x y h = (cc)

module _ (f : Format) (h : ℕ) where
  -- as many rows as were asked for
  pub rows_many : (n : ℕ) (before : Option Row) (bs : List ℕ) (rs : List Row) → read_rows f h before n bs ≡ Ok rs → length rs ≡ n
  rows_many zero before [] rs e = let is : [] ≡ rs = (cc) in ap length (sym is)
  rows_many zero before (b ∷ bs) rs e = absurd (ok_not_err e)
  rows_many (suc n) before bs rs e = first (next_row f h before bs) e (λ r qs q. rows_many n (Some r) (drop (row_size f) bs) qs q)
    where
      first : (x : Result Row Refusal) → then_rows x (λ r. read_rows f h (Some r) n (drop (row_size f) bs)) ≡ Ok rs
          → ((r : Row) (qs : List Row) → read_rows f h (Some r) n (drop (row_size f) bs) ≡ Ok qs → length qs ≡ n) → length rs ≡ suc n
      first (Err g) q next = absurd (ok_not_err q)
      first (Ok r) q next =
          let k = prepend_ok r (read_rows f h (Some r) n (drop (row_size f) bs)) rs q in
          ap length (sym k.2) ∙ ap suc (next r k.0 k.1)

-- ---- one row, within what it has to keep to

module _ (f : Format) (h left : ℕ) (before : Option Row) (bs : List ℕ) (some : 0 < left) where
  -- a row, and then the others
  next_is : read_rows f h before left bs ≡ then_rows (next_row f h before bs) (λ r. read_rows f h (Some r) (left - 1) (drop (row_size f) bs))
  next_is = let e : left ≡ suc (left - 1) = omega arith in ap (λ n. read_rows f h before n bs) e

  pub row_missing : (e : Refusal) → Err e ≡ row_at f bs → read_rows f h before left bs ≡ Err e
  row_missing e q = next_is ∙ ap (λ x. then_rows (checked h before x) (λ r. read_rows f h (Some r) (left - 1) (drop (row_size f) bs))) (sym q)

  pub row_refused : {X : Type 0} (r : Row) (e : Refusal) (x : X) → Ok r ≡ row_at f bs → Err e ≡ unless (row_fault h before r) x → read_rows f h before left bs ≡ Err e
  row_refused r e x q k =
      next_is
      ∙ (ap (λ x. then_rows (checked h before x) (λ r. read_rows f h (Some r) (left - 1) (drop (row_size f) bs))) (sym q)
      ∙ ap (λ x. then_rows x (λ r. read_rows f h (Some r) (left - 1) (drop (row_size f) bs))) (unless_err (row_fault h before r) e x r k))

-- ---- only whether rows can be read

module _ (f : Format) (bs : List ℕ) (h : Header) (header : Ok h ≡ read_header f bs) where
  read_is : read_profile f bs ≡ as_profile h.horizon (read_rows f h.horizon None h.count (drop 9 bs))
  read_is = ap (then_body f (drop 9 bs)) (sym header)

  pub read_passed : (left : Result (List Row) Refusal) → result_err (read_rows f h.horizon None h.count (drop 9 bs)) ≡ result_err left → left ≡ Ok [] → Ok h ≡ header_read (read_profile f bs)
  read_passed left i q = go (read_rows f h.horizon None h.count (drop 9 bs)) refl (i ∙ ap result_err q)
    where
      go : (x : Result (List Row) Refusal) → read_rows f h.horizon None h.count (drop 9 bs) ≡ x → result_err x ≡ None → Ok h ≡ header_read (read_profile f bs)
      go (Err g) p q = let z : ◌≡◌ {A = ℕ} 0 1 = cc in absurd (omega arith)
      go (Ok rs) p q =
          let n = rows_many f h.horizon h.count None (drop 9 bs) rs p in
          sym (ap header_read (read_is ∙ ap (as_profile h.horizon) p) ∙ ap (λ k. Ok (record { horizon = h.horizon; count = k })) n)

-- ---- the rows themselves

-- rows before what is read on
abbrev pub after : List Row → Result (List Row) Refusal → Result (List Row) Refusal
after rs (Ok qs) = Ok (rs ++ qs)
after rs (Err e) = Err e

after_push : (rs : List Row) (r : Row) (x : Result (List Row) Refusal) → after rs (prepend r x) ≡ after (rs ++ r ∷ []) x
after_push rs r (Ok qs) = ap Ok (sym (append_assoc rs (r ∷ []) qs))
after_push rs r (Err e) = refl

module _ {X : Type 0} (view : X → Row) (xs : List X) (x : X) (all left later : Result (List Row) Refusal) (before : all ≡ after (map view xs) left) (next : left ≡ prepend (view x) later) where
  joined : all ≡ after (map view xs ++ view x ∷ []) later
  joined = before ∙ (ap (after (map view xs)) next ∙ after_push (map view xs) (view x) later)

  pub after_more : (ys : List X) → ys ≡ xs ++ x ∷ [] → all ≡ after (map view ys) later
  after_more ys e = joined ∙ ap (λ rs. after rs later) (sym (ap (map view) e ∙ map_push view xs x))

  pub some_row : (ps : List Row) → all ≡ Ok ps → 0 < length ps
  some_row ps e = go later (sym joined ∙ e)
    where
      go : (y : Result (List Row) Refusal) → after (map view xs ++ view x ∷ []) y ≡ Ok ps → 0 < length ps
      go (Err g) q = absurd (ok_not_err q)
      go (Ok qs) q =
          let is : (map view xs ++ view x ∷ []) ++ qs ≡ ps = (cc) in
          omega (arith, ap length (sym is), length-append (map view xs ++ view x ∷ []) qs, length-append (map view xs) (view x ∷ []))

-- no next row
pub none_next : {X : Type 0} (o : Option X) (view : X → Row) (x later : Result (List Row) Refusal) → is_some o ≡ false → x ≡ with_next (Ok (option_map view o)) later → x ≡ Ok []
none_next None view x later n e = e
none_next (Some r) view x later n e = absurd (false≢true (sym n))

-- ---- from the header of a profile to its rows

pub passed : (f : Format) (bs : List ℕ) (h : Header) → Ok h ≡ read_header f bs → (p : Profile) → read_profile f bs ≡ Ok p → read_rows f h.horizon None h.count (drop 9 bs) ≡ Ok p.rows
passed f bs h header p e = go (read_rows f h.horizon None h.count (drop 9 bs)) (sym (read_is f bs h header) ∙ e)
  where
    go : (x : Result (List Row) Refusal) → as_profile h.horizon x ≡ Ok p → x ≡ Ok p.rows
    go (Err g) r = absurd (ok_not_err r)
    go (Ok rs) r = let is : record { horizon = h.horizon; rows = rs } ≡ p = (cc) in ap (λ q. Ok q.rows) is

-- the profile of a header
pub headed : (x : Result Profile Refusal) (h : Header) → Ok h ≡ header_read x → (p : Profile) × (x ≡ Ok p)
headed (Err g) h e = absurd (ok_not_err (sym e))
headed (Ok p) h e = (p, refl)
