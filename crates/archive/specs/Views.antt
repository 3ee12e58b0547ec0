-- The code's filings and verdicts as the definitions have them.
use Rattle.std.specs.Prelude.{◌≡◌, ℕ, List, map, Some, None, Ok, Err, count_by, vec_items, Option, Result, Vec}
use Rattle.std.specs.List.{flat_map}
use Rattle.std.specs.declared.alloc.Global.{Global}
use Rattle.terms.specs.declared.refusal.Refusal.{Refusal as Reason}
use Rattle.archive.specs.declared.kind_name.KindName.{KindName}
use Rattle.archive.specs.declared.line.Filing.{Filing}
use Rattle.archive.specs.declared.rejection.Rejection.{Rejection}
use Rattle.archive.specs.declared.rejection.Rejection.TheVariants.{BadLine, Refused}
use Rattle.archive.specs.Findings.{Finding, is_bad, is_refused, accepted_bytes}

abbrev pub filing_of : Filing → KindName × List ℕ
filing_of f = (f.kind, vec_items f.bytes)

abbrev pub verdict_of : Result (Vec ℕ Global) Rejection → Option (Result (List ℕ) Reason)
verdict_of (Ok v) = Some (Ok (vec_items v))
verdict_of (Err BadLine) = None
verdict_of (Err (Refused e)) = Some (Err e)

-- the findings parted: these byte strings were accepted, and so many lines were refused and so many bad
pub record Parted (fs : List Finding) (vs : List (Vec ℕ Global)) (r b : ℕ) : Type 0 where
  pub accepts : map vec_items vs ≡ flat_map accepted_bytes fs
  pub refusals : r ≡ count_by is_refused fs
  pub bads : b ≡ count_by is_bad fs
