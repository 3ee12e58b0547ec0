-- The bytes of a profile: how it is written, and what is read from bytes.
use Rattle.std.specs.Prelude.{ℕ, zero, suc, ◌+◌, ◌*◌, cond, List, [], ◌∷◌, ◌++◌, length, take, drop, Some, None, Ok, Err, Option, Result, ◌==◌, nat_le, slice_index}
use Rattle.std.specs.List.{flat_map}
use Rattle.std.specs.Result.{result_flatten}
use Rattle.terms.specs.declared.refusal.Refusal.{Refusal}
use Rattle.terms.specs.declared.refusal.Refusal.TheVariants.{ProfileLength, OtherMark, ProfileHorizon, NoImage, TooShort}
use Rattle.loads.specs.declared.kind.LoadFault.{LoadFault}
use Rattle.loads.specs.declared.kind.LoadFault.TheVariants.{Short, NoImage as Garbled}
use Rattle.loads.specs.Digits.{to_bytes, from_bytes}
use Rattle.loads.specs.Formats.{Format, told, read_front}
use Rattle.profile.specs.Rows.{Row, Profile, row_fault, lawful_horizon, profile_fault, unless}

-- ---- writing

-- offset and length in 4 bytes each, then the image of the load
abbrev pub row_bytes : Format → Row → List ℕ
row_bytes f r = (to_bytes 4 r.offset ++ to_bytes 4 r.minutes) ++ f.image r.load

abbrev pub row_size : Format → ℕ
row_size f = 8 + f.size

-- the kind's mark, the horizon and the number of rows
abbrev pub header_bytes : Format → ℕ → ℕ → List ℕ
header_bytes f horizon count = f.mark ∷ (to_bytes 4 horizon ++ to_bytes 4 count)

abbrev pub profile_bytes : Format → Profile → List ℕ
profile_bytes f p = header_bytes f p.horizon (length p.rows) ++ flat_map (row_bytes f) p.rows

abbrev pub profile_size : Format → ℕ → ℕ
profile_size f count = 9 + count * row_size f

-- the length written, or the bytes needed where the room is too short
abbrev pub in_room : ℕ → ℕ → Result ℕ Refusal
in_room needed room = cond (nat_le needed room) (Ok needed) (Err (TooShort (told needed)))

-- what writing into so much room answers; first of all the fault that a reader would find
abbrev pub write_answer : Format → Profile → ℕ → Result ℕ Refusal
write_answer f p room = result_flatten (unless (profile_fault p) (in_room (profile_size f (length p.rows)) room))

-- what the buffer holds after that answer
abbrev pub written : Result ℕ Refusal → List ℕ → List ℕ → List ℕ
written (Ok n) bytes buffer = bytes ++ drop n buffer
written (Err e) bytes buffer = buffer

-- bytes put at a place of a buffer, the others kept; or all as it was where they do not fit there
abbrev pub put_at : ℕ → List ℕ → List ℕ → List ℕ
put_at at bytes buffer = cond (nat_le (at + length bytes) (length buffer)) (take at buffer ++ (bytes ++ drop (at + length bytes) buffer)) buffer

-- the place after them, or none where they do not fit
abbrev pub place_after : ℕ → ℕ → List ℕ → Option ℕ
place_after at size buffer = cond (nat_le (at + size) (length buffer)) (Some (at + size)) None

-- ---- reading

pub record Header : Type 0 where
  pub horizon : ℕ
  pub count : ℕ

abbrev pub read_header : Format → List ℕ → Result Header Refusal
read_header f bs =
    cond (nat_le 9 (length bs))
    (cond (slice_index bs 0 == f.mark)
    (cond (lawful_horizon (from_bytes (take 4 (drop 1 bs))))
    (Ok (record { horizon = from_bytes (take 4 (drop 1 bs)); count = from_bytes (take 4 (drop 5 bs)) }))
    (Err ProfileHorizon))
    (Err OtherMark))
    (Err ProfileLength)

abbrev pub refusal_of : LoadFault → Refusal
refusal_of Short = ProfileLength
refusal_of Garbled = NoImage

abbrev pub with_load : ℕ → ℕ → Result (List ℕ) LoadFault → Result Row Refusal
with_load offset minutes (Ok cs) = Ok (record { offset = offset; minutes = minutes; load = cs })
with_load offset minutes (Err e) = Err (refusal_of e)

-- the row at the front of bytes
abbrev pub row_at : Format → List ℕ → Result Row Refusal
row_at f bs =
    cond (nat_le 8 (length bs))
    (with_load (from_bytes (take 4 bs)) (from_bytes (take 4 (drop 4 bs))) (read_front f (drop 8 bs)))
    (Err ProfileLength)

-- the row, unless it cannot follow the row before
abbrev pub checked : ℕ → Option Row → Result Row Refusal → Result Row Refusal
checked horizon before (Ok r) = unless (row_fault horizon before r) r
checked horizon before (Err e) = Err e

-- the row at the front, as the next one
abbrev pub next_row : Format → ℕ → Option Row → List ℕ → Result Row Refusal
next_row f horizon before bs = checked horizon before (row_at f bs)

abbrev pub prepend : Row → Result (List Row) Refusal → Result (List Row) Refusal
prepend r (Ok rs) = Ok (r ∷ rs)
prepend r (Err e) = Err e

-- the row and what follows it
abbrev pub then_rows : Result Row Refusal → (Row → Result (List Row) Refusal) → Result (List Row) Refusal
then_rows (Ok r) rest = prepend r (rest r)
then_rows (Err e) rest = Err e

-- so many rows, one after another, and nothing after them
abbrev pub read_rows : Format → ℕ → Option Row → ℕ → List ℕ → Result (List Row) Refusal
read_rows f horizon before zero [] = Ok []
read_rows f horizon before zero (b ∷ bs) = Err ProfileLength
read_rows f horizon before (suc n) bs =
    then_rows (next_row f horizon before bs) (λ r. read_rows f horizon (Some r) n (drop (row_size f) bs))

abbrev pub as_profile : ℕ → Result (List Row) Refusal → Result Profile Refusal
as_profile horizon (Ok rs) = Ok (record { horizon = horizon; rows = rs })
as_profile horizon (Err e) = Err e

-- the rows after a header
abbrev pub then_body : Format → List ℕ → Result Header Refusal → Result Profile Refusal
then_body f body (Ok h) = as_profile h.horizon (read_rows f h.horizon None h.count body)
then_body f body (Err e) = Err e

-- the profile that the bytes are, for one kind, or why they are none
abbrev pub read_profile : Format → List ℕ → Result Profile Refusal
read_profile f bs = then_body f (drop 9 bs) (read_header f bs)

-- the header of a profile that was read, or why there is none
abbrev pub header_read : Result Profile Refusal → Result Header Refusal
header_read (Ok p) = Ok (record { horizon = p.horizon; count = length p.rows })
header_read (Err e) = Err e
