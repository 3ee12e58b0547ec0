-- What is printed of a whole input.
use Rattle.std.specs.Prelude.{ℕ, List, ◌++◌, map, length, codes, count_by}
use Rattle.std.specs.List.{flat_map}
use Rattle.text.specs.Distinct.{distinct_of}
use Rattle.text.specs.Lines.{lines_of}
use Rattle.archive.specs.Findings.{Finding, finding, is_bad, is_refused, accepted_bytes}
use Rattle.archive.specs.Texts.{feed, field, answer_text}

-- how many lines there were, and how many of each finding; distinct is the number of different byte strings accepted
pub record Totals : Type 0 where
  pub total : ℕ
  pub ok : ℕ
  pub refused : ℕ
  pub bad : ℕ
  pub distinct : ℕ

abbrev pub totals_of : List Finding → Totals
totals_of fs = record {
  total = length fs;
  ok = length (flat_map accepted_bytes fs);
  refused = count_by is_refused fs;
  bad = count_by is_bad fs;
  distinct = distinct_of (flat_map accepted_bytes fs);
}

abbrev pub total_text : Totals → List ℕ
total_text t =
    field (codes "total ") t.total ++ field (codes " ok ") t.ok ++ field (codes " refused ") t.refused
    ++ field (codes " bad ") t.bad ++ field (codes " distinct ") t.distinct ++ feed

-- the answers to the lines, and then the totals
abbrev pub findings_text : List Finding → List ℕ
findings_text fs = flat_map answer_text fs ++ total_text (totals_of fs)

abbrev pub findings_of : List ℕ → List Finding
findings_of input = map finding (lines_of input)

abbrev pub report_text : List ℕ → List ℕ
report_text input = findings_text (findings_of input)
