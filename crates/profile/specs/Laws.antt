-- What reading and writing have to do with each other, and with the load at every minute.
use Rattle.std.specs.Prelude.{◌≡◌, ℕ, ◌+◌, ◌^◌, ◌<◌, ◌≤◌, false, List, [], ◌∷◌, length, None, Ok, ◌≢◌}
use Rattle.std.specs.List.{AllByRecursion}
use Rattle.loads.specs.Counts.{empty}
use Rattle.loads.specs.Formats.{Format, Counted, Bytes}
use Rattle.profile.specs.Rows.{Row, Profile, end_of, load_at, profile_fault, unless}
use Rattle.profile.specs.Wire.{profile_bytes, read_profile}

-- a row whose numbers have 4 bytes each, and whose load is one of the kind
pub record Writable (f : Format) (r : Row) : Type 0 where
  pub offset : r.offset < 2 ^ 32
  pub minutes : r.minutes < 2 ^ 32
  pub load : Counted f r.load

-- a horizon and rows that bytes can hold
pub record FitsBytes (f : Format) (p : Profile) : Type 0 where
  pub horizon : p.horizon < 2 ^ 32
  pub count : length p.rows < 2 ^ 32
  pub rows : AllByRecursion (Writable f) p.rows

-- what was written reads back: as it was, or refused for the fault that it has
abbrev pub ReadsBack : Format → Type 0
ReadsBack f = (p : Profile) → FitsBytes f p → read_profile f (profile_bytes f p) ≡ unless (profile_fault p) p

-- what the reader accepts is the writing of what it gives, which has no fault
pub record Accepted (f : Format) (bs : List ℕ) (p : Profile) : Type 0 where
  pub written : bs ≡ profile_bytes f p
  pub faultless : profile_fault p ≡ None
  pub fits : FitsBytes f p

abbrev pub AcceptsWritings : Format → Type 0
AcceptsWritings f = (bs : List ℕ) (p : Profile) → Bytes bs → read_profile f bs ≡ Ok p → Accepted f bs p

-- a longest run of minutes below the horizon with one load that is not empty
pub record Run (load : ℕ → List ℕ) (horizon : ℕ) (r : Row) : Type 0 where
  pub some : 0 < r.minutes
  pub below : end_of r ≤ horizon
  pub not_empty : empty r.load ≡ false
  pub same : (m : ℕ) → r.offset ≤ m → m < end_of r → load m ≡ r.load
  pub not_before : (m : ℕ) → m + 1 ≡ r.offset → load m ≢ r.load
  pub not_after : end_of r < horizon → load (end_of r) ≢ r.load

-- each row ends before the later ones begin
abbrev pub InTurn : List Row → Type 0
InTurn [] = Unit {0}
InTurn (r ∷ rs) = AllByRecursion (λ s. end_of r ≤ s.offset) rs × InTurn rs

-- the rows of what the reader accepts are the longest runs of the load that they tell, in turn
pub record Runs (f : Format) (p : Profile) : Type 0 where
  pub runs : AllByRecursion (Run (load_at f p.rows) p.horizon) p.rows
  pub in_turn : InTurn p.rows

abbrev pub RowsAreRuns : Format → Type 0
RowsAreRuns f = (bs : List ℕ) (p : Profile) → Bytes bs → read_profile f bs ≡ Ok p → Runs f p

-- the same load at every minute below the horizon
abbrev pub SameLoad : Format → Profile → Profile → Type 0
SameLoad f p q = (m : ℕ) → m < p.horizon → load_at f p.rows m ≡ load_at f q.rows m

-- one writing for each load: what two accepted byte strings tell is alike only where they are the same bytes
abbrev pub OneWriting : Format → Type 0
OneWriting f = (bs cs : List ℕ) (p q : Profile) → Bytes bs → Bytes cs → read_profile f bs ≡ Ok p → read_profile f cs ≡ Ok q
    → p.horizon ≡ q.horizon → SameLoad f p q → bs ≡ cs
