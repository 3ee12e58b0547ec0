-- The code's rows, headers and profiles as the definitions have them, and how far a profile was read.
use Rattle.std.specs.Prelude.{◌≡◌, ℕ, ◌<◌, List, [], map, length, Some, None, Ok, Err, vec_items, Option, Result}
use Rattle.loads.specs.Formats.{Format}
use Rattle.terms.specs.declared.refusal.Refusal.{Refusal as Reason}
use Rattle.profile.specs.declared.row.Row.{Row as HeldRow}
use Rattle.profile.specs.declared.row.Header.{Header as HeldHeader}
use Rattle.profile.specs.declared.row.Profile.{Profile as HeldProfile}
use Rattle.profile.specs.declared.row.ReadError.{ReadError}
use Rattle.profile.specs.declared.row.ReadError.TheVariants.{Refused, OutOfMemory}
use Rattle.profile.specs.Rows.{Row, Profile}
use Rattle.profile.specs.Wire.{Header, prepend, read_rows}

-- a row, its load told by the counts
abbrev pub row_of : {L : Type 0} → (L → List ℕ) → HeldRow L → Row
row_of counts r = record { offset = r.offset; minutes = r.length; load = counts r.load }

abbrev pub profile_of : {L : Type 0} → (L → List ℕ) → ℕ → List (HeldRow L) → Profile
profile_of counts horizon rows = record { horizon = horizon; rows = map (row_of counts) rows }

abbrev pub header_of : HeldHeader → Header
header_of h = record { horizon = h.horizon; count = h.count }

-- an answer tells what was read; want of memory comes only where a profile with rows was read
abbrev pub Tells : {L : Type 0} → (L → List ℕ) → Result Profile Reason → Result (HeldProfile L) ReadError → Type 0
Tells counts read (Ok p) = read ≡ Ok (profile_of counts p.horizon (vec_items p.rows))
Tells counts read (Err (Refused e)) = read ≡ Err e
Tells counts read (Err OutOfMemory) = (p : Profile) × (read ≡ Ok p) × (0 < length p.rows)

-- what the next row has to keep to: the horizon, and the row before it, if there is one
pub record RowLimits : Type 0 where
  pub horizon : ℕ
  pub before : Option Row

-- how far a profile has been read: what the next row has to keep to, how many rows are left, and the bytes from there on
pub record Reading : Type 0 where
  pub limits : RowLimits
  pub left : ℕ
  pub rest : List ℕ

-- the rows that are left
abbrev pub read_on : Format → Reading → Result (List Row) Reason
read_on f a = read_rows f a.limits.horizon a.limits.before a.left a.rest

-- the next row and those after it, none where there is no next one
abbrev pub with_next : Result (Option Row) Reason → Result (List Row) Reason → Result (List Row) Reason
with_next (Ok (Some r)) later = prepend r later
with_next (Ok None) later = Ok []
with_next (Err e) later = Err e
