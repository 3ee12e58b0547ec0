use Rattle.std.proofs.Common.{arith, refl}
use Rattle.tree.specs.declared.side.Side.TheVariants.{Left}
use Rattle.tree.specs.Orders.{order_by}
use Rattle.tree.proofs.Descends.{opens, way}
use Rattle.tree.proofs.Renews.{renew_down, renew_ready, renew_back, renew_here}
use Rattle.tree.proofs.nodes.Nodes.+renew.Goals as goal

pub renew-near-requires : goal.renew-near-requires
renew-near-requires g t c κs within =
    let w = way (order_by g.E.Entry.key g.E.Entry.compare) g.met.E.Entry.total c.requires.2.fit c.in-Some.is c.node-n.result c.node-n.ensures (g.E.Entry.key c.args.entry) c.in-Some-side_of.side (cc) c.fork-top.ensures in
    let d = renew_down g.met.E.Entry.total c.requires.2 c.requires.3 w.parts w.goes in
    (omega (arith, c.decreases, d.0), (within.0, (within.1.0, (within.1.1, d.1))))

pub balance-requires : goal.balance-requires
balance-requires g t c =
    let w = way (order_by g.E.Entry.key g.E.Entry.compare) g.met.E.Entry.total c.requires.2.fit c.in-Some.is c.node-n.result c.node-n.ensures (g.E.Entry.key c.args.entry) c.in-Some-side_of.side (cc) c.fork-top.ensures in
    renew_ready g.met.E.Entry.total c.requires.2 c.requires.3 w.parts w.goes c.renew-near.ensures

pub returns-in-Some-side_of : goal.returns-in-Some-side_of
returns-in-Some-side_of g t c x p S V =
    let w = way (order_by g.E.Entry.key g.E.Entry.compare) g.met.E.Entry.total S.fit c.in-Some.is c.node-n.result c.node-n.ensures (g.E.Entry.key c.args.entry) c.in-Some-side_of.side (cc) c.fork-top.ensures in
    renew_back g.met.E.Entry.total S V w.parts w.goes c.renew-near.ensures c.balance.ensures

pub returns-in-None : goal.returns-in-None
returns-in-None g t c x p S V =
    renew_here g.met.E.Entry.total S V c.node-n.result (opens S.fit c.in-Some.is c.node-n.result c.node-n.ensures Left refl) c.unwrap_or-place.ensures (cc) c.fork.ensures c.put.ensures
