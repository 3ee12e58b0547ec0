use Rattle.std.proofs.Common.{◌≡◌, take, vec_items}
use Rattle.text.proofs.Pairs.{bytes_of}
use Rattle.text.proofs.hex.from_hex.Given as goal

abbrev pub invariant-loop-pair : goal.invariant-loop-pair
invariant-loop-pair l = vec_items l.bytes ≡ bytes_of (take l.pair-index l.pairs)
