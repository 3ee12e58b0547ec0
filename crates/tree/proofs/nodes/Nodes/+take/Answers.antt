use Rattle.std.proofs.Common.{arith, refl}
use Rattle.tree.specs.declared.side.Side.TheVariants.{Left}
use Rattle.tree.specs.Orders.{order_by}
use Rattle.tree.proofs.Descends.{opens, way}
use Rattle.tree.proofs.Shrinks.{take_down, take_ready, take_back, take_pair, take_here}
use Rattle.tree.proofs.nodes.Nodes.+take.Goals as goal

pub take-out-requires : goal.take-out-requires
take-out-requires g t c κs within =
    let w = way (order_by g.E.Entry.key g.E.Entry.compare) g.met.E.Entry.total c.requires.2.fit c.in-Some.is c.node-n.result c.node-n.ensures c.args.key c.in-Some-side_of.side (cc) c.fork-top.ensures in
    let d = take_down g.met.E.Entry.total c.args.key c.requires.2 c.requires.3 w.parts w.goes in
    (omega (arith, c.decreases, d.0), (within.0, (within.1.0, (within.1.1, d.1))))

pub balance-top-requires : goal.balance-top-requires
balance-top-requires g t c =
    let w = way (order_by g.E.Entry.key g.E.Entry.compare) g.met.E.Entry.total c.requires.2.fit c.in-Some.is c.node-n.result c.node-n.ensures c.args.key c.in-Some-side_of.side (cc) c.fork-top.ensures in
    take_ready g.met.E.Entry.total c.args.key c.requires.2 c.requires.3 w.parts w.goes c.take-out.ensures

pub returns-in-Some-side_of : goal.returns-in-Some-side_of
returns-in-Some-side_of g t c x p S here =
    let w = way (order_by g.E.Entry.key g.E.Entry.compare) g.met.E.Entry.total S.fit c.in-Some.is c.node-n.result c.node-n.ensures c.args.key c.in-Some-side_of.side (cc) c.fork-top.ensures in
    take_back g.met.E.Entry.total c.args.key S here w.parts w.goes c.take-out.ensures c.balance-top.ensures

pub glue-requires : goal.glue-requires
glue-requires g t c =
    rw (c.slot.ensures, c.slot-in-None.ensures) (take_pair g.met.E.Entry.total c.args.key c.requires.2 c.requires.3 c.node-n.result (opens c.requires.2.fit c.in-Some.is c.node-n.result c.node-n.ensures Left refl))

pub returns-in-None : goal.returns-in-None
returns-in-None g t c x p S here =
    take_here g.met.E.Entry.total c.args.key S here c.node-n.result (opens S.fit c.in-Some.is c.node-n.result c.node-n.ensures Left refl) (cc) (rw (c.slot.ensures, c.slot-in-None.ensures) at c.glue.ensures)
