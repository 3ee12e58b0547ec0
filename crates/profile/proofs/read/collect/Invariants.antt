use Rattle.std.proofs.Common.{◌≡◌, map, vec_items}
use Rattle.profile.specs.Views.{row_of, read_on}
use Rattle.profile.proofs.Steps.{after}
use Rattle.profile.proofs.read.collect.Given as goal

-- the rows so far, and then those that are left
abbrev pub invariant-loop-rows : goal.invariant-loop-rows
invariant-loop-rows g l = read_on g.K.Kind.format l.initial.walk ≡ after (map (row_of g.K.Kind.counts) (vec_items l.rows)) (read_on g.K.Kind.format l.walk)

abbrev pub decreases-loop-rows : goal.decreases-loop-rows
decreases-loop-rows g l = l.walk.left
