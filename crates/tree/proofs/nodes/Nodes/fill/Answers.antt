use Rattle.tree.proofs.Renews.{fill_down, fill_moved, fill_stays}
use Rattle.tree.proofs.nodes.Nodes.fill.Goals as goal

pub renew-requires : goal.renew-requires
renew-requires g c = fill_down g.met.E.Entry.total c.requires.1 c.requires.2 c.if-slot-last.true c.node-moved.result c.node-moved.ensures

pub returns-then-slot-last : goal.returns-then-slot-last
returns-then-slot-last g c x S G = fill_moved g.met.E.Entry.total S G c.if-slot-last.true c.node-moved.result c.node-moved.ensures c.renew.ensures

pub returns-else-slot-last : goal.returns-else-slot-last
returns-else-slot-last g c x S G = fill_stays g.met.E.Entry.total S G c.if-slot-last.false
