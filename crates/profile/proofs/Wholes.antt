-- A whole profile written: its answer, its bytes, and that they read back.
use Rattle.std.proofs.Common.{◌≡◌, ℕ, ◌≤◌, ltb, leb, List, [], ◌∷◌, ◌++◌, length, take, drop, Some, None, Ok, Option, Result, sym, refl, ap, ◌∙◌, arith}
use Rattle.std.specs.Option.{ok_or}
use Rattle.std.specs.Result.{IfOk}
use Rattle.std.specs.List.{flat_map, AllByRecursion}
use Rattle.std.proofs.lemmas.List.{take_at}
use Rattle.std.proofs.lemmas.Bool.{and_parts, leb-true}
use Rattle.terms.specs.declared.refusal.Refusal.{Refusal}
use Rattle.loads.specs.Formats.{Format, Counted, Lawful, put_front}
use Rattle.loads.proofs.Fronts.{put_long, put_short}
use Rattle.profile.specs.Rows.{Row, Profile, rows_fault, profile_fault, unless}
use Rattle.profile.specs.Wire.{row_bytes, header_bytes, profile_bytes, profile_size, written, place_after, read_profile}
use Rattle.profile.specs.Laws.{Writable, FitsBytes}
use Rattle.profile.proofs.Accepts.{unless_ok}
use Rattle.profile.proofs.Once.{cut, fault_free}
use Rattle.profile.proofs.Rowwise.{rows_few, place_some, place_none}
use Rattle.profile.proofs.Written.{length_profile, reads_back}

-- ---- what bytes can hold

pub faultless : {X : Type 0} (p : Profile) (x y : X) → Ok y ≡ unless (profile_fault p) x → profile_fault p ≡ None
faultless p x y e = (unless_ok (profile_fault p) x y (sym e)).0

horizon_short : (p : Profile) → profile_fault p ≡ None → p.horizon ≤ 1000000000
horizon_short p e = leb-true p.horizon 1000000000 (and_parts (ltb 0 p.horizon) (leb p.horizon 1000000000) (fault_free p e).0).1

all_writable : (f : Format) (h : ℕ) (before : Option Row) (rs : List Row) → h ≤ 1000000000 → rows_fault h before rs ≡ None → AllByRecursion (λ r. Counted f r.load) rs → AllByRecursion (Writable f) rs
all_writable f h before [] l e c = tt
all_writable f h before (r ∷ rs) l e c =
    let k = cut h before r rs e in
    let b = k.0.below in
    (record { offset = omega arith; minutes = omega arith; load = c.0 }, all_writable f h (Some r) rs l k.1 c.1)

pub fits_bytes : (f : Format) (p : Profile) → profile_fault p ≡ None → AllByRecursion (λ r. Counted f r.load) p.rows → FitsBytes f p
fits_bytes f p e c =
    let h = horizon_short p e in
    let free = (fault_free p e).1 in
    record {
      horizon = omega arith;
      count = omega (arith, rows_few p.horizon None p.rows free (omega arith));
      rows = all_writable f p.horizon None p.rows h free c;
    }

-- ---- bytes

module _ (f : Format) (lawful : Lawful f) (p : Profile) (counted : AllByRecursion (λ r. Counted f r.load) p.rows) (n : ℕ) (many : length p.rows ≡ n) (buffer after : List ℕ)
    (put : after ≡ put_front (header_bytes f p.horizon n ++ flat_map (row_bytes f) p.rows) buffer) where
  size_is : length (profile_bytes f p) ≡ profile_size f n
  size_is = length_profile f lawful p counted ∙ ap (profile_size f) many

  put_is : after ≡ put_front (profile_bytes f p) buffer
  put_is = put ∙ ap (λ k. put_front (header_bytes f p.horizon k ++ flat_map (row_bytes f) p.rows) buffer) (sym many)

  -- what the answer tells stands at the front, or nothing where there is no room
  pub whole_written : (o : Option ℕ) (short : Refusal) (r : Result ℕ Refusal) → o ≡ place_after 0 (profile_size f n) buffer → r ≡ ok_or o short → after ≡ written r (profile_bytes f p) buffer
  whole_written None short r e a =
      let h = place_none 0 (profile_size f n) buffer e in
      put_is ∙ (sym (put_short (profile_bytes f p) buffer (omega (arith, size_is))) ∙ ap (λ x. written x (profile_bytes f p) buffer) (sym a))
  whole_written (Some k) short r e a =
      let h = place_some k 0 (profile_size f n) buffer e in
      put_is ∙ (put_long (profile_bytes f p) buffer k (omega (arith, size_is)) (omega arith) ∙ ap (λ x. written x (profile_bytes f p) buffer) (sym a))

  pub whole_reads : profile_fault p ≡ None → (o : Option ℕ) (short : Refusal) (r : Result ℕ Refusal) → o ≡ place_after 0 (profile_size f n) buffer → r ≡ ok_or o short
      → IfOk r (λ k. read_profile f (take k after) ≡ Ok p)
  whole_reads free None short r e a = rw a tt
  whole_reads free (Some k) short r e a =
      let h = place_some k 0 (profile_size f n) buffer e in
      let w = whole_written (Some k) short (Ok k) e refl in
      let reads : read_profile f (take k after) ≡ Ok p
      = ap (read_profile f) (ap (take k) w ∙ take_at (profile_bytes f p) (drop k buffer) k (size_is ∙ omega arith))
      ∙ (reads_back f lawful p (fits_bytes f p free counted) ∙ ap (λ o. unless o p) free) in
      rw a reads
