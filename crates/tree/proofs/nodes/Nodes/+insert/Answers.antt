use Rattle.std.proofs.Common.{arith, refl}
use Rattle.tree.specs.declared.side.Side.TheVariants.{Left}
use Rattle.tree.specs.Orders.{order_by}
use Rattle.tree.proofs.Descends.{opens, way}
use Rattle.tree.proofs.Grows.{grown_leaf, grow_down, grow_ready, grow_back, grown_same}
use Rattle.tree.proofs.nodes.Nodes.+insert.Goals as goal

pub insert-near-requires : goal.insert-near-requires
insert-near-requires g t c κs within =
    let w = way (order_by g.E.Entry.key g.E.Entry.compare) g.met.E.Entry.total c.requires.1.fit c.in-Some.is c.node-n.result c.node-n.ensures (g.E.Entry.key c.args.entry) c.in-Some-side_of.side (cc) c.fork-top.ensures in
    let d = grow_down g.met.E.Entry.total c.requires.1 c.requires.2 w.parts w.goes in
    (omega (arith, c.decreases, d.0), (within.0, (within.1.0, (within.1.1, d.1))))

pub balance-requires : goal.balance-requires
balance-requires g t c =
    let w = way (order_by g.E.Entry.key g.E.Entry.compare) g.met.E.Entry.total c.requires.1.fit c.in-Some.is c.node-n.result c.node-n.ensures (g.E.Entry.key c.args.entry) c.in-Some-side_of.side (cc) c.fork-top.ensures in
    grow_ready g.met.E.Entry.total c.requires.1 c.requires.2 w.parts w.goes c.insert-near.ensures

pub returns : goal.returns
returns g t c x S F =
    let w = way (order_by g.E.Entry.key g.E.Entry.compare) g.met.E.Entry.total S.fit c.in-Some.is c.node-n.result c.node-n.ensures (g.E.Entry.key c.args.entry) c.in-Some-side_of.side (cc) c.fork-top.ensures in
    grow_back g.met.E.Entry.total S F w.parts w.goes c.insert-near.ensures c.balance.ensures

pub unreachable-requires : goal.unreachable-requires
unreachable-requires g t c =
    grown_same g.met.E.Entry.total c.requires.1 c.requires.2 c.node-n.result (opens c.requires.1.fit c.in-Some.is c.node-n.result c.node-n.ensures Left refl) (cc)

pub returns-in_default : goal.returns-in_default
returns-in_default g t c x S F = grown_leaf g.met.E.Entry.total c.in_default.is S F c.put.ensures
