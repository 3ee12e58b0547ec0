use Rattle.std.proofs.Common.{arith}
use Rattle.tree.proofs.Turns.{joins_here, ready_flip, joins_flip, ready_heights, ready_within}
use Rattle.tree.proofs.nodes.Nodes.balance.Goals as goal

pub rotate-requires : goal.rotate-requires
rotate-requires g c =
    let h = ready_heights c.requires.2 in
    (c.requires.0, c.requires.1, c.requires.2, omega arith)

pub rotate-requires-then-saturating_sub-gt1-2 : goal.rotate-requires-then-saturating_sub-gt1-2
rotate-requires-then-saturating_sub-gt1-2 g c =
    let h = ready_heights c.requires.2 in
    (c.requires.1, c.requires.0, ready_flip c.args.top c.mirrored.ensures c.requires.2, omega arith)

pub put-requires : goal.put-requires
put-requires g c = ready_within c.requires.2

pub returns-then-saturating_sub-gt1-2 : goal.returns-then-saturating_sub-gt1-2
returns-then-saturating_sub-gt1-2 g c a b R =
    let h = ready_heights R in
    let flip = ready_flip c.args.top c.mirrored.ensures R in
    joins_flip c.args.top c.mirrored.ensures a b (c.rotate-then-saturating_sub-gt1-2.ensures b a flip (omega arith))

pub returns-else-saturating_sub-gt1-2 : goal.returns-else-saturating_sub-gt1-2
returns-else-saturating_sub-gt1-2 g c a b R =
    let h = ready_heights R in
    (_, joins_here R (omega arith) (omega arith) c.put.ensures)
