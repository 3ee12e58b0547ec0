use Rattle.std.proofs.Common.{◌≡◌, map, drop, None}
use Rattle.profile.specs.Rows.{rows_fault}
use Rattle.profile.specs.Views.{row_of}
use Rattle.profile.proofs.write.check_rows.Given as goal

-- the rows that are left have the fault of them all
abbrev pub invariant-loop-row : goal.invariant-loop-row
invariant-loop-row g l =
    rows_fault l.horizon None (map (row_of g.K.Kind.counts) l.rows)
    ≡ rows_fault l.limits.horizon l.limits.before (map (row_of g.K.Kind.counts) (drop l.row-index l.rows))
