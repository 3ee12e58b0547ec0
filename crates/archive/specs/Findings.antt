-- What each line is found to be.
use Rattle.std.specs.Prelude.{ℕ, Bool, true, false, List, [], ◌∷◌, Some, None, Ok, Err, Option, Result}
use Rattle.terms.specs.declared.refusal.Refusal.{Refusal}
use Rattle.profile.specs.Rows.{Profile}
use Rattle.profile.specs.Wire.{read_profile}
use Rattle.archive.specs.declared.kind_name.KindName.{KindName}
use Rattle.archive.specs.Grammar.{format_of, line_of}

-- a line is bad where it is not of the form; else its bytes are refused, or accepted as a profile of its kind
pub data Finding : Type 0 where
  bad : Finding
  refused : Refusal → Finding
  accepted : KindName → List ℕ → Profile → Finding

abbrev pub read_as : KindName → List ℕ → Result Profile Refusal → Finding
read_as k bs (Ok p) = accepted k bs p
read_as k bs (Err e) = refused e

abbrev pub found : Option (KindName × List ℕ) → Finding
found None = bad
found (Some f) = read_as f.0 f.1 (read_profile (format_of f.0) f.1)

abbrev pub finding : List ℕ → Finding
finding line = found (line_of line)

-- ---- what the totals count

abbrev pub is_bad : Finding → Bool
is_bad bad = true
is_bad (refused e) = false
is_bad (accepted k bs p) = false

abbrev pub is_refused : Finding → Bool
is_refused bad = false
is_refused (refused e) = true
is_refused (accepted k bs p) = false

-- the bytes that were accepted: one byte string or none
abbrev pub accepted_bytes : Finding → List (List ℕ)
accepted_bytes bad = []
accepted_bytes (refused e) = []
accepted_bytes (accepted k bs p) = bs ∷ []

-- a finding without kind and profile: none of a bad line, the refusal, or the accepted bytes
abbrev pub verdict : Finding → Option (Result (List ℕ) Refusal)
verdict bad = None
verdict (refused e) = Some (Err e)
verdict (accepted k bs p) = Some (Ok bs)
