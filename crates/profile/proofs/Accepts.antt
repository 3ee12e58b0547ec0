-- What the reader accepts is the writing of what it gives.
use Rattle.std.proofs.Common.{◌≡◌, ℕ, zero, suc, ◌+◌, ◌^◌, ◌<◌, ◌≤◌, Bool, true, false, cond, eqb, leb, List, [], ◌∷◌, ◌++◌, length, get_or, take, drop, Some, None, Ok, Err, Option, Result, sym, refl, ap, ◌∙◌, subst, ap₂, arith, length-drop, length-take}
use Rattle.std.specs.List.{flat_map, AllByRecursion}
use Rattle.std.proofs.lemmas.List.{take-append-drop, take-take, drop-take}
use Rattle.std.proofs.ByRecursion.{All-take, All-drop}
use Rattle.std.proofs.lemmas.Bool.{leb-true, eqb-true, cond-true}
use Rattle.terms.specs.declared.refusal.Refusal.{Refusal}
use Rattle.terms.specs.declared.refusal.Refusal.TheVariants.{ProfileLength, OtherMark, ProfileHorizon}
use Rattle.loads.specs.declared.kind.LoadFault.{LoadFault}
use Rattle.loads.specs.declared.kind.LoadFault.TheVariants.{Short}
use Rattle.loads.specs.Digits.{to_bytes, from_bytes}
use Rattle.loads.specs.Formats.{Format, Bytes, Counted, Lawful, read_front, or_no_image}
use Rattle.loads.specs.Places.{to_from_bytes, from_bytes_below}
use Rattle.profile.specs.Rows.{Row, row_fault, rows_fault, or_fault, lawful_horizon, unless}
use Rattle.profile.specs.Wire.{row_bytes, row_size, Header, read_header, with_load, row_at, checked, next_row, then_rows, read_rows, as_profile, then_body}
use Rattle.profile.specs.Laws.{Writable, Accepted, AcceptsWritings}
use Rattle.profile.proofs.Steps.{ok_not_err, prepend_ok, rows_many}

-- a test that led to Ok was true
pub cond_ok : {X Y : Type 0} (b : Bool) (r : Result X Y) (e : Y) (x : X) → cond b r (Err e) ≡ Ok x → (b ≡ true) × (r ≡ Ok x)
cond_ok true r e x h = (refl, h)
cond_ok false r e x h = absurd (ok_not_err h)

pub unless_ok : {X : Type 0} (o : Option Refusal) (x y : X) → unless o x ≡ Ok y → (o ≡ None) × (x ≡ y)
unless_ok None x y h = (refl, (cc))
unless_ok (Some e) x y h = absurd (ok_not_err h)

take_both : (n m : ℕ) (bs : List ℕ) → take n bs ++ take m (drop n bs) ≡ take (n + m) bs
take_both n m bs =
    ap₂ ◌++◌ (sym (take-take n (n + m) bs (omega arith))) (sym (drop-take n m bs)) ∙ take-append-drop n (take (n + m) bs)

-- four bytes of a byte string are those of their number
word_bytes : (n : ℕ) (bs : List ℕ) → n + 4 ≤ length bs → Bytes bs → (to_bytes 4 (from_bytes (take 4 (drop n bs))) ≡ take 4 (drop n bs)) × (from_bytes (take 4 (drop n bs)) < 2 ^ 32)
word_bytes n bs h b =
    let l : length (take 4 (drop n bs)) ≡ 4 = length-take 4 (drop n bs) ∙ omega (arith, length-drop n bs) in
    let bytes = All-take (λ x. x < 256) 4 (drop n bs) (All-drop (λ x. x < 256) n bs b) in
    (to_from_bytes 4 (take 4 (drop n bs)) l bytes, from_bytes_below 4 (take 4 (drop n bs)) l bytes)

module _ (f : Format) (lawful : Lawful f) where
  record RowRead (bs : List ℕ) (r : Row) : Type 0 where
    written : take (row_size f) bs ≡ row_bytes f r
    writable : Writable f r

  -- an image at the front
  record ImageRead (bs cs : List ℕ) : Type 0 where
    long : f.size ≤ length bs
    written : f.image cs ≡ take f.size bs
    load : Counted f cs

  image_read : (bs cs : List ℕ) → Bytes bs → read_front f bs ≡ Ok cs → ImageRead bs cs
  image_read bs cs b e =
      let q = cond_ok (leb f.size (length bs)) (or_no_image (f.decode (take f.size bs))) Short cs e in
      let h = leb-true f.size (length bs) q.0 in
      let l : length (take f.size bs) ≡ f.size = length-take f.size bs ∙ omega arith in
      let bytes = All-take (λ x. x < 256) f.size bs b in
      let d = decoded (f.decode (take f.size bs)) q.1 in
      record { long = h; written = lawful.encodes (take f.size bs) cs l bytes d; load = lawful.counted (take f.size bs) cs l bytes d }
    where
      decoded : (o : Option (List ℕ)) → or_no_image o ≡ Ok cs → o ≡ Some cs
      decoded None h = absurd (ok_not_err h)
      decoded (Some ds) h = (cc)

  row_read : (bs : List ℕ) (r : Row) → Bytes bs → row_at f bs ≡ Ok r → RowRead bs r
  row_read bs r b e =
      let q = cond_ok (leb 8 (length bs)) (with_load (from_bytes (take 4 bs)) (from_bytes (take 4 (drop 4 bs))) (read_front f (drop 8 bs))) ProfileLength r e in
      with_image (leb-true 8 (length bs) q.0) (read_front f (drop 8 bs)) refl q.1
    where
      with_image : 8 ≤ length bs → (x : Result (List ℕ) LoadFault) → read_front f (drop 8 bs) ≡ x
          → with_load (from_bytes (take 4 bs)) (from_bytes (take 4 (drop 4 bs))) x ≡ Ok r → RowRead bs r
      with_image l (Err g) p h = absurd (ok_not_err h)
      with_image l (Ok cs) p h =
          let i = image_read (drop 8 bs) cs (All-drop (λ x. x < 256) 8 bs b) p in
          let o = word_bytes 0 bs (omega arith) b in
          let m = word_bytes 4 bs (omega arith) b in
          let is : record { offset = from_bytes (take 4 bs); minutes = from_bytes (take 4 (drop 4 bs)); load = cs } ≡ r = (cc) in
          subst (RowRead bs) is (record {
            written = sym (ap₂ ◌++◌ (ap₂ ◌++◌ o.0 m.0 ∙ take_both 4 4 bs) i.written ∙ take_both 8 f.size bs);
            writable = record { offset = o.1; minutes = m.1; load = i.load };
          })

  pub record RowsRead (h : ℕ) (before : Option Row) (bs : List ℕ) (rs : List Row) : Type 0 where
    pub written : bs ≡ flat_map (row_bytes f) rs
    pub writable : AllByRecursion (Writable f) rs
    pub faultless : rows_fault h before rs ≡ None

  -- one row more
  row_more : (h : ℕ) (before : Option Row) (bs : List ℕ) (r : Row) (rs : List Row) → Bytes bs → next_row f h before bs ≡ Ok r
      → RowsRead h (Some r) (drop (row_size f) bs) rs → RowsRead h before bs (r ∷ rs)
  row_more h before bs r rs b e rest = from_row (row_at f bs) refl e
    where
      from_row : (x : Result Row Refusal) → row_at f bs ≡ x → checked h before x ≡ Ok r → RowsRead h before bs (r ∷ rs)
      from_row (Err g) p q = absurd (ok_not_err q)
      from_row (Ok s) p q =
          let u = unless_ok (row_fault h before s) s r q in
          let row = row_read bs r b (p ∙ ap Ok u.1) in
          let free : row_fault h before r ≡ None = subst (λ t. row_fault h before t ≡ None) u.1 u.0 in
          record {
            written = sym (take-append-drop (row_size f) bs) ∙ ap₂ ◌++◌ row.written rest.written;
            writable = (row.writable, rest.writable);
            faultless = ap (λ o. or_fault o (rows_fault h (Some r) rs)) free ∙ rest.faultless;
          }

  pub rows_accepted : (h n : ℕ) (before : Option Row) (bs : List ℕ) (rs : List Row) → Bytes bs → read_rows f h before n bs ≡ Ok rs → RowsRead h before bs rs
  rows_accepted h zero before [] rs b e = let is : [] ≡ rs = (cc) in subst (RowsRead h before []) is (record { written = refl; writable = tt; faultless = refl })
  rows_accepted h zero before (x ∷ bs) rs b e = absurd (ok_not_err e)
  rows_accepted h (suc n) before bs rs b e = first (next_row f h before bs) refl e (λ r qs q. rows_accepted h n (Some r) (drop (row_size f) bs) qs (All-drop (λ x. x < 256) (row_size f) bs b) q)
    where
      first : (x : Result Row Refusal) → next_row f h before bs ≡ x → then_rows x (λ r. read_rows f h (Some r) n (drop (row_size f) bs)) ≡ Ok rs
          → ((r : Row) (qs : List Row) → read_rows f h (Some r) n (drop (row_size f) bs) ≡ Ok qs → RowsRead h (Some r) (drop (row_size f) bs) qs)
          → RowsRead h before bs rs
      first (Err g) p q next = absurd (ok_not_err q)
      first (Ok r) p q next =
          let k = prepend_ok r (read_rows f h (Some r) n (drop (row_size f) bs)) rs q in
          subst (RowsRead h before bs) k.2 (row_more h before bs r k.0 b p (next r k.0 k.1))

  pub accepts_writings : AcceptsWritings f
  accepts_writings bs p b e = with_header (read_header f bs) refl e
    where
      cut_header : 9 ≤ length bs → bs ≡ get_or bs 0 0 ∷ ((take 4 (drop 1 bs) ++ take 4 (drop 5 bs)) ++ drop 9 bs)
      cut_header l = front bs l
        where
          front : (xs : List ℕ) → 9 ≤ length xs → xs ≡ get_or xs 0 0 ∷ ((take 4 (drop 1 xs) ++ take 4 (drop 5 xs)) ++ drop 9 xs)
          front [] l = absurd (omega arith)
          front (x ∷ xs) l = ap (λ ys. x ∷ ys) (sym (take-append-drop 8 xs) ∙ ap (λ ys. ys ++ drop 8 xs) (sym (take_both 4 4 xs)))

      with_rows : (h : Header) → read_header f bs ≡ Ok h → (x : Result (List Row) Refusal) → read_rows f h.horizon None h.count (drop 9 bs) ≡ x
          → as_profile h.horizon x ≡ Ok p → Accepted f bs p
      with_rows h q (Err g) r s = absurd (ok_not_err s)
      with_rows h q (Ok rs) r s =
          let is : record { horizon = h.horizon; rows = rs } ≡ p = (cc) in
          let q1 = cond_ok (leb 9 (length bs)) _ ProfileLength h q in
          let q2 = cond_ok (eqb (get_or bs 0 0) f.mark) _ OtherMark h q1.1 in
          let q3 = cond_ok (lawful_horizon (from_bytes (take 4 (drop 1 bs)))) _ ProfileHorizon h q2.1 in
          let hd : record { horizon = from_bytes (take 4 (drop 1 bs)); count = from_bytes (take 4 (drop 5 bs)) } ≡ h = (let z = q3.1 in cc) in
          let long = leb-true 9 (length bs) q1.0 in
          let rows = rows_accepted h.horizon h.count None (drop 9 bs) rs (All-drop (λ x. x < 256) 9 bs b) r in
          let wh = word_bytes 1 bs (omega arith) b in
          let wn = word_bytes 5 bs (omega arith) b in
          let horizon : from_bytes (take 4 (drop 1 bs)) ≡ h.horizon = ap (λ k. k.horizon) hd in
          let count : from_bytes (take 4 (drop 5 bs)) ≡ length rs = ap (λ k. k.count) hd ∙ sym (rows_many f h.horizon h.count None (drop 9 bs) rs r) in
          subst (Accepted f bs) is (record {
            written = cut_header long
                ∙ ap₂ (λ m ys. m ∷ ys) (eqb-true (get_or bs 0 0) f.mark q2.0)
                (ap₂ ◌++◌
                (ap₂ ◌++◌ (sym wh.0 ∙ ap (to_bytes 4) horizon) (sym wn.0 ∙ ap (to_bytes 4) count))
                rows.written);
            faultless = cond-true _ _ _ (ap lawful_horizon (sym horizon) ∙ q3.0) ∙ rows.faultless;
            fits = record {
              horizon = subst (λ k. k < 2 ^ 32) horizon wh.1;
              count = subst (λ k. k < 2 ^ 32) count wn.1;
              rows = rows.writable;
            };
          })

      with_header : (x : Result Header Refusal) → read_header f bs ≡ x → then_body f (drop 9 bs) x ≡ Ok p → Accepted f bs p
      with_header (Err g) q h = absurd (ok_not_err h)
      with_header (Ok k) q h = with_rows k q (read_rows f k.horizon None k.count (drop 9 bs)) refl h
