use Rattle.std.proofs.Common.{◌∙◌, arith}
use Rattle.tree.proofs.Trees.{reaches_long}
use Rattle.tree.proofs.Turns.{near_within, outer_within, inner_within, ready_within, rotated_once, rotated_twice}
use Rattle.tree.proofs.nodes.Nodes.rotate.Goals as goal

pub put-requires : goal.put-requires
put-requires g c =
    let R = c.requires.2 in
    let high = outer_within R c.requires.3 c.in-Some.is c.node.result c.node.ensures c.fork-high.ensures in
    (R.within, high.2, (ready_within R).2)

pub put-requires-then-height : goal.put-requires-then-height
put-requires-then-height g c =
    let R = c.requires.2 in
    let long = c.put.ensures.long in
    let high = outer_within R c.requires.3 c.in-Some.is c.node.result c.node.ensures c.fork-high.ensures in
    (omega (arith, high.0), reaches_long _ _ _ long high.1, omega (arith, R.within))

pub put-requires-2 : goal.put-requires-2
put-requires-2 g c =
    let R = c.requires.2 in
    let high = outer_within R c.requires.3 c.in-Some.is c.node.result c.node.ensures c.fork-high.ensures in
    let mid = inner_within R c.requires.3 c.in-Some.is c.node.result c.node.ensures c.fork-high.ensures c.in-Some-far.is c.node-2.result c.node-2.ensures c.fork-mid.ensures in
    (high.0, high.1, mid.1)

pub put-requires-3 : goal.put-requires-3
put-requires-3 g c =
    let R = c.requires.2 in
    let long = c.put-2.ensures.long in
    let mid = inner_within R c.requires.3 c.in-Some.is c.node.result c.node.ensures c.fork-high.ensures c.in-Some-far.is c.node-2.result c.node-2.ensures c.fork-mid.ensures in
    (omega (arith, R.within), reaches_long _ _ _ long mid.2, reaches_long _ _ _ long (ready_within R).2)

pub put-requires-4 : goal.put-requires-4
put-requires-4 g c =
    let R = c.requires.2 in
    let long = c.put-3.ensures.long ∙ c.put-2.ensures.long in
    let near = near_within R c.requires.3 c.in-Some.is in
    let mid = inner_within R c.requires.3 c.in-Some.is c.node.result c.node.ensures c.fork-high.ensures c.in-Some-far.is c.node-2.result c.node-2.ensures c.fork-mid.ensures in
    (omega (arith, mid.0), omega (arith, near), omega (arith, R.within))

pub returns-then-height : goal.returns-then-height
returns-then-height g c a b R high =
    rotated_once R high c.in-Some.is c.node.result c.node.ensures c.fork-high.ensures (omega arith) c.put.ensures c.put-then-height.ensures

pub returns : goal.returns
returns g c a b R high =
    rotated_twice R high c.in-Some.is c.node.result c.node.ensures c.fork-high.ensures (omega arith) c.in-Some-far.is c.node-2.result c.node-2.ensures c.fork-mid.ensures c.put-2.ensures c.put-3.ensures c.put-4.ensures
