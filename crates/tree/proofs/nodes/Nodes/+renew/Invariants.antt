use Rattle.tree.specs.Shape.{stored_height}
use Rattle.tree.proofs.nodes.Nodes.+renew.Given as goal

abbrev pub decreases-renew : goal.decreases-renew
decreases-renew g l = stored_height l.self.now.table.now l.root
