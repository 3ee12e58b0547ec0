use Rattle.std.proofs.Common.{◌≡◌, ◌+◌, max, [], ◌∷◌, ap, ◌∙◌, arith}
use Rattle.std.proofs.lemmas.List.{length-set}
use Rattle.tree.specs.Joins.{Reaches}
use Rattle.tree.specs.Shape.{row, ents, stored_height}
use Rattle.tree.specs.Sides.{left_of, right_of}
use Rattle.tree.proofs.Mirrors.{pick_one, put_heights}
use Rattle.tree.proofs.Trees.{node_sums, reaches_fits}
use Rattle.tree.proofs.nodes.Nodes.put.Goals as goal

pub to-requires : goal.to-requires
to-requires g c =
    let xs = c.args.self.now.table.now in
    let top = c.args.top in
    rw c.left-left.ensures (reaches_fits xs (left_of top) (omega arith) (pick_one (Reaches xs) top.side top.near top.far c.requires.1 c.requires.2))

pub to-requires-2 : goal.to-requires-2
to-requires-2 g c =
    let xs = c.args.self.now.table.now in
    let top = c.args.top in
    rw c.right-right.ensures (reaches_fits xs (right_of top) (omega arith) (pick_one (Reaches xs) top.side top.far top.near c.requires.2 c.requires.1))

pub returns : goal.returns
returns g c = record {
  sum = c.join-summary.result;
  small = omega arith;
  long = length-set _ _ _;
  is = λ within hl hr.
      let xs = c.args.self.now.table.now in
      let el : c.height.result ≡ stored_height xs (left_of c.args.top) = c.height.ensures ∙ ap (stored_height xs) c.left-left.ensures in
      let er : c.height-2.result ≡ stored_height xs (right_of c.args.top) = c.height-2.ensures ∙ ap (stored_height xs) c.right-right.ensures in
      let low = put_heights xs c.args.top hl hr in
      let h : c.saturating_add-height.result ≡ max (stored_height xs (left_of c.args.top)) (stored_height xs (right_of c.args.top)) + 1 = omega arith in
      cc (c.left-left.ensures, c.right-right.ensures, h);
  sums = λ l r sl sr.
      node_sums g.E.Entry.sums c.args.top.at c.args.top.entry l r c.join-summary.result
      (c.join-summary.ensures (ents (row l)) (c.args.top.entry ∷ ents (row r)) (c.summary-3.ensures l (c.left-left.ensures ∙ sl.0, sl.1))
      (c.join-rest.ensures (c.args.top.entry ∷ []) (ents (row r)) c.summary.ensures (c.summary-2.ensures r (c.right-right.ensures ∙ sr.0, sr.1))));
}
