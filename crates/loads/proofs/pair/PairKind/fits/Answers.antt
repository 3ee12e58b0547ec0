use Rattle.std.proofs.Common.{refl, ◌∙◌}
use Rattle.loads.specs.Joins.{joined_fits, full}
use Rattle.loads.proofs.pair.PairKind.fits.Goals as goal

pub returns-then-fits : goal.returns-then-fits
returns-then-fits g c =
    let long = full g.A.Kind.counts g.A.Kind.format.ceilings g.met.A.Kind.counted in
    joined_fits _ _ _ _ _ _ _ (long c.args.load.first) (long c.args.demand.first) (long c.args.capacity.first) _ _ c.if-fits.ensures c.fits-then-fits.ensures

pub returns-else-fits : goal.returns-else-fits
returns-else-fits g c =
    let long = full g.A.Kind.counts g.A.Kind.format.ceilings g.met.A.Kind.counted in
    c.if-fits.false ∙ joined_fits _ _ _ _ _ _ _ (long c.args.load.first) (long c.args.demand.first) (long c.args.capacity.first) _ _ c.if-fits.ensures refl
