-- What is printed of each line.
use Rattle.std.specs.Prelude.{ℕ, List, [], ◌∷◌, ◌++◌, length, Ok, Err, codes, decimal, Result}
use Rattle.std.specs.List.{flat_map}
use Rattle.terms.specs.Refusals.{number_of}
use Rattle.terms.specs.declared.refusal.Refusal.{Refusal}
use Rattle.loads.specs.Formats.{Format}
use Rattle.profile.specs.Rows.{Row, Profile}
use Rattle.text.specs.Hex.{hex_text}
use Rattle.archive.specs.declared.rejection.Rejection.{Rejection}
use Rattle.archive.specs.declared.rejection.Rejection.TheVariants.{BadLine, Refused}
use Rattle.archive.specs.Findings.{Finding, bad, refused, accepted}
use Rattle.archive.specs.Grammar.{format_of}

-- a line feed
abbrev pub feed : List ℕ
feed = 10 ∷ []

-- a label and a number after it
abbrev pub field : List ℕ → ℕ → List ℕ
field label n = label ++ decimal n

-- offset, length, and the load as its image
abbrev pub row_text : Format → Row → List ℕ
row_text f r = decimal r.offset ++ field (codes " ") r.minutes ++ codes " " ++ hex_text (f.image r.load) ++ feed

-- the horizon and the number of rows, and then the rows
abbrev pub accepted_text : Format → Profile → List ℕ
accepted_text f p = field (codes "ok ") p.horizon ++ field (codes " ") (length p.rows) ++ feed ++ flat_map (row_text f) p.rows

-- what is printed of a rejection, before the line feed
abbrev pub rejection_text : Rejection → List ℕ
rejection_text BadLine = codes "bad line"
rejection_text (Refused e) = field (codes "refused ") (number_of e)

abbrev pub bad_text : List ℕ
bad_text = rejection_text BadLine ++ feed

abbrev pub refused_text : Refusal → List ℕ
refused_text e = rejection_text (Refused e) ++ feed

-- what is printed of bytes that were read for one kind
abbrev pub read_text : Format → Result Profile Refusal → List ℕ
read_text f (Ok p) = accepted_text f p
read_text f (Err e) = refused_text e

abbrev pub answer_text : Finding → List ℕ
answer_text bad = bad_text
answer_text (refused e) = refused_text e
answer_text (accepted k bs p) = accepted_text (format_of k) p
