use Rattle.std.proofs.Common.{◌≡◌, drop, None}
use Rattle.std.specs.Result.{result_err}
use Rattle.profile.specs.Views.{read_on}
use Rattle.profile.specs.Wire.{read_rows}
use Rattle.profile.proofs.read.check.Given as goal

-- the rows that are left have the fault of them all
abbrev pub invariant-loop : goal.invariant-loop
invariant-loop g l = result_err (read_rows g.K.Kind.format l.header.horizon None l.header.count (drop 9 l.bytes)) ≡ result_err (read_on g.K.Kind.format l.walk)

abbrev pub decreases-loop : goal.decreases-loop
decreases-loop g l = l.walk.left
