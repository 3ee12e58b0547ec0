use Rattle.tree.specs.Shape.{stored_height}
use Rattle.tree.proofs.nodes.Nodes.+take.Given as goal

abbrev pub decreases-take : goal.decreases-take
decreases-take g l = stored_height l.self.now.table.now l.root
