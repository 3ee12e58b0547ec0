use Rattle.tree.specs.Shape.{stored_height}
use Rattle.tree.proofs.nodes.Nodes.+insert.Given as goal

abbrev pub decreases-insert : goal.decreases-insert
decreases-insert g l = stored_height l.self.now.table.now l.root
