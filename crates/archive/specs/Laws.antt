-- What the count of different profiles rests on.
use Rattle.std.specs.Prelude.{◌≡◌, ℕ, List, Ok}
use Rattle.profile.specs.Laws.{OneWriting}
use Rattle.profile.specs.Rows.{Profile}
use Rattle.profile.specs.Wire.{read_profile}
use Rattle.archive.specs.declared.kind_name.KindName.{KindName}
use Rattle.archive.specs.Grammar.{format_of}

-- bytes are accepted for one of the three kinds only, so that equal bytes are of equal kinds
abbrev pub OneKind : Type 0
OneKind = (j k : KindName) (bs : List ℕ) (p q : Profile) → read_profile (format_of j) bs ≡ Ok p → read_profile (format_of k) bs ≡ Ok q → j ≡ k

-- within each kind, one load at every minute has one byte string
abbrev pub OneWritingEach : Type 0
OneWritingEach = (k : KindName) → OneWriting (format_of k)
