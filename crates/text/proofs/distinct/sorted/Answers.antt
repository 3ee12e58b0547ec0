use Rattle.std.proofs.Common.{vec_items, heap_items}
use Rattle.std.proofs.lemmas.List.Sorted.{IsPermutation-trans}
use Rattle.text.proofs.Counts.{distinct_shuffled}
use Rattle.text.proofs.distinct.sorted.Goals as goal

pub returns : goal.returns
returns c =
    let items = vec_items c.args.items in
    let sorted = vec_items c.into_sorted_vec.result in
    let moved = IsPermutation-trans items (heap_items c.from.result) sorted c.from.ensures.1 c.into_sorted_vec.ensures.permutation in
    record {
      permutation = moved;
      sorted = c.into_sorted_vec.ensures.sorted c.from.ensures.2;
      count = distinct_shuffled vec_items items sorted moved;
    }
