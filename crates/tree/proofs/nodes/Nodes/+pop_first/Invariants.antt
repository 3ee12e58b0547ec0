use Rattle.std.proofs.Common.{Some}
use Rattle.tree.specs.Shape.{stored_height}
use Rattle.tree.proofs.nodes.Nodes.+pop_first.Given as goal

abbrev pub decreases-pop_first : goal.decreases-pop_first
decreases-pop_first g l = stored_height l.self.now.table.now (Some l.root)
