use Rattle.std.proofs.Common.{arith, refl, sym, ◌∙◌}
use Rattle.tree.specs.declared.side.Side.TheVariants.{Left}
use Rattle.tree.proofs.Descends.{opens}
use Rattle.tree.proofs.Shrinks.{pop_down, pop_ready, pop_back, pop_end}
use Rattle.tree.proofs.nodes.Nodes.+pop_first.Goals as goal

pub pop_first-first-requires : goal.pop_first-first-requires
pop_first-first-requires g t c κs within =
    let o = opens c.requires.1 refl c.node-n.result c.node-n.ensures Left refl in
    let d = pop_down c.requires.1 c.node-n.result o (sym c.slot.ensures ∙ c.in-Some.is) in
    (omega (arith, c.decreases, d.0), (within.0, (within.1.0, (within.1.1, d.1))))

pub balance-top-requires : goal.balance-top-requires
balance-top-requires g t c =
    let o = opens c.requires.1 refl c.node-n.result c.node-n.ensures Left refl in
    pop_ready c.requires.1 c.node-n.result o (sym c.slot.ensures ∙ c.in-Some.is) c.pop_first-first.ensures c.fork.ensures

pub returns-in-Some : goal.returns-in-Some
returns-in-Some g t c x F =
    let o = opens F refl c.node-n.result c.node-n.ensures Left refl in
    pop_back F c.node-n.result o (sym c.slot.ensures ∙ c.in-Some.is) c.pop_first-first.ensures c.fork.ensures c.balance-top.ensures

pub returns-in-None : goal.returns-in-None
returns-in-None g t c x F =
    let o = opens F refl c.node-n.result c.node-n.ensures Left refl in
    rw c.slot-in-None.ensures (pop_end F c.node-n.result o (sym c.slot.ensures ∙ c.in-None.is))
