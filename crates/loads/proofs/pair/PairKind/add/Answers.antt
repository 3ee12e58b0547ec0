use Rattle.std.proofs.Common.{refl, ap, ◌∙◌}
use Rattle.loads.specs.Joins.{joined_add, full}
use Rattle.loads.proofs.pair.PairKind.add.Goals as goal
use Rattle.std.specs.Option.{option_map}

pub returns-in_err-first : goal.returns-in_err-first
returns-in_err-first g c =
    let long = full g.A.Kind.counts g.A.Kind.format.ceilings g.met.A.Kind.counted in
    ap (option_map _) c.from_residual.ensures ∙ joined_add _ _ _ _ _ _ _ refl (long c.args.a.first) (long c.args.b.first) _ _ c.in_err-first.ensures refl

pub returns-in_err-second : goal.returns-in_err-second
returns-in_err-second g c =
    let long = full g.A.Kind.counts g.A.Kind.format.ceilings g.met.A.Kind.counted in
    ap (option_map _) c.from_residual-in_err-second.ensures ∙ joined_add _ _ _ _ _ _ _ refl (long c.args.a.first) (long c.args.b.first) _ _ c.in_ok-first.ensures c.in_err-second.ensures

pub returns : goal.returns
returns g c =
    let long = full g.A.Kind.counts g.A.Kind.format.ceilings g.met.A.Kind.counted in
    joined_add _ _ _ _ _ _ _ refl (long c.args.a.first) (long c.args.b.first) _ _ c.in_ok-first.ensures c.in_ok-second.ensures
