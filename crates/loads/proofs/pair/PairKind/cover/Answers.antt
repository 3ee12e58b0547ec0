use Rattle.loads.specs.Joins.{joined_each, full}
use Rattle.loads.proofs.pair.PairKind.cover.Goals as goal
use Rattle.std.proofs.Common.{max}

pub returns : goal.returns
returns g c =
    let long = full g.A.Kind.counts g.A.Kind.format.ceilings g.met.A.Kind.counted in
    let e = joined_each _ max _ (g.B.Kind.counts c.args.a.second) _ (g.B.Kind.counts c.args.b.second) (long c.args.a.first) (long c.args.b.first) in
    cc
