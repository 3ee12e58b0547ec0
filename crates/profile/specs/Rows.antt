-- The rows of a profile: what they must be, and the load that they tell at each minute.
use Rattle.std.specs.Prelude.{ℕ, ◌+◌, Bool, true, false, cond, ◌&&◌, ◌||◌, List, [], ◌∷◌, Some, None, Ok, Err, Option, Result, ◌==◌, nat_le, nat_lt}
use Rattle.terms.specs.declared.refusal.Refusal.{Refusal}
use Rattle.terms.specs.declared.refusal.Refusal.TheVariants.{ProfileHorizon, RowPlace, RowLoad}
use Rattle.loads.specs.Counts.{alike, empty}
use Rattle.loads.specs.Formats.{Format, zeros}

-- so many minutes from an offset on, with one load, given by its counts
pub record Row : Type 0 where
  pub offset : ℕ
  pub minutes : ℕ
  pub load : List ℕ

-- a horizon in minutes, and the rows below it
pub record Profile : Type 0 where
  pub horizon : ℕ
  pub rows : List Row

-- the minute after a row's last
abbrev pub end_of : Row → ℕ
end_of r = r.offset + r.minutes

-- the minute is one of the row's
abbrev pub in_row : Row → ℕ → Bool
in_row r m = nat_le r.offset m && nat_lt m (end_of r)

-- the load at a minute: that of the row that holds it, or the empty load
abbrev pub load_at : Format → List Row → ℕ → List ℕ
load_at f [] m = zeros f
load_at f (r ∷ rs) m = elim (in_row r m) [ true ↦ r.load | false ↦ load_at f rs m ]

-- ---- what is wrong with a row, given the horizon and the row before it

-- where the row before ends
abbrev pub end_before : Option Row → ℕ
end_before None = 0
end_before (Some p) = end_of p

-- no minute, past the horizon, or beginning before the end of the row before
abbrev pub misplaced : ℕ → Option Row → Row → Bool
misplaced horizon before r = r.minutes == 0 || (nat_lt horizon (end_of r) || nat_lt r.offset (end_before before))

-- the row begins where the one before ends, with the same load
abbrev pub goes_on : Option Row → Row → Bool
goes_on None r = false
goes_on (Some p) r = end_of p == r.offset && alike p.load r.load

abbrev pub misloaded : Option Row → Row → Bool
misloaded before r = empty r.load || goes_on before r

abbrev pub row_fault : ℕ → Option Row → Row → Option Refusal
row_fault horizon before r = cond (misplaced horizon before r) (Some RowPlace) (cond (misloaded before r) (Some RowLoad) None)

-- the first fault, or else the second
abbrev pub or_fault : Option Refusal → Option Refusal → Option Refusal
or_fault (Some e) o = Some e
or_fault None o = o

-- the fault of the first row that has one
abbrev pub rows_fault : ℕ → Option Row → List Row → Option Refusal
rows_fault horizon before [] = None
rows_fault horizon before (r ∷ rs) = or_fault (row_fault horizon before r) (rows_fault horizon (Some r) rs)

-- 1 to 1,000,000,000 minutes
abbrev pub lawful_horizon : ℕ → Bool
lawful_horizon h = nat_lt 0 h && nat_le h 1000000000

-- why a horizon and rows are no profile
abbrev pub profile_fault : Profile → Option Refusal
profile_fault p = cond (lawful_horizon p.horizon) (rows_fault p.horizon None p.rows) (Some ProfileHorizon)

-- the value, unless there is a fault
abbrev pub unless : {X : Type 0} → Option Refusal → X → Result X Refusal
unless None x = Ok x
unless (Some e) x = Err e
