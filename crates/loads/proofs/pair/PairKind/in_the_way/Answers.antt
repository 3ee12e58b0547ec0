use Rattle.std.proofs.Common.{refl, ◌∙◌}
use Rattle.loads.specs.Joins.{joined_way, full}
use Rattle.loads.proofs.pair.PairKind.in_the_way.Goals as goal

pub returns-then-in_the_way : goal.returns-then-in_the_way
returns-then-in_the_way g c =
    let long = full g.A.Kind.counts g.A.Kind.format.ceilings g.met.A.Kind.counted in
    c.if-in_the_way.true ∙ joined_way _ _ _ _ _ _ _ _ _ (long c.args.load.first) (long c.args.demand.first) (long c.args.capacity.first) (long c.args.booking.first) _ _ c.if-in_the_way.ensures refl

pub returns-else-in_the_way : goal.returns-else-in_the_way
returns-else-in_the_way g c =
    let long = full g.A.Kind.counts g.A.Kind.format.ceilings g.met.A.Kind.counted in
    joined_way _ _ _ _ _ _ _ _ _ (long c.args.load.first) (long c.args.demand.first) (long c.args.capacity.first) (long c.args.booking.first) _ _ c.if-in_the_way.ensures c.in_the_way-else-in_the_way.ensures
