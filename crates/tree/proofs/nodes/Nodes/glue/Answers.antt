use Rattle.tree.proofs.Shrinks.{glue_down, glue_ready, glue_back}
use Rattle.tree.proofs.nodes.Nodes.glue.Goals as goal

pub pop_first-first-requires : goal.pop_first-first-requires
pop_first-first-requires g c = glue_down c.requires.2 c.in-Some.is

pub balance-top-requires : goal.balance-top-requires
balance-top-requires g c = glue_ready c.requires.2 c.in-Some.is c.pop_first-first.ensures

pub returns-in-Some : goal.returns-in-Some
returns-in-Some g c l r P = glue_back P c.in-Some.is c.pop_first-first.ensures c.balance-top.ensures
