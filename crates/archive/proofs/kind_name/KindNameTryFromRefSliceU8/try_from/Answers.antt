use Rattle.std.proofs.Common.{◌≡◌, ℕ, ◌<◌, get_or, codes, below_none, below_more, sym, ap, arith}
use Rattle.std.proofs.lemmas.Grind.{same_number_lists}
use Rattle.archive.specs.Grammar.{kind_of}
use Rattle.archive.proofs.kind_name.KindNameTryFromRefSliceU8.try_from.Goals as goal

pub returns-in-airtime : goal.returns-in-airtime
returns-in-airtime c =
    let word = c.args.word.now in
    let P : ℕ → Type 0 = λ k. get_or word k 0 ≡ get_or (codes "airtime") k 0 in
    let all : (k : ℕ) → k < 7 → P k =
    below_more P 6 (below_more P 5 (below_more P 4 (below_more P 3 (below_more P 2 (below_more P 1 (below_more P 0 (below_none P)
    (omega arith)) (omega arith)) (omega arith)) (omega arith)) (omega arith)) (omega arith)) (omega arith) in
    ap kind_of (sym (same_number_lists word (codes "airtime") (omega arith) (λ k h. all k (omega arith))))
