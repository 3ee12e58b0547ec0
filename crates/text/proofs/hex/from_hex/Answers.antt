use Rattle.std.proofs.Common.{sym, ap, ◌∙◌, Some, is_some, arith}
use Rattle.std.proofs.lemmas.Bool.{cond-true, cond-false}
use Rattle.std.proofs.lemmas.List.{take_all}
use Rattle.std.proofs.lemmas.Result.{err_from_is_err_and}
use Rattle.text.proofs.Pairs.{bytes_of, read_even, refused_odd, pair_written}
use Rattle.text.proofs.hex.from_hex.Goals as goal
use Rattle.text.proofs.hex.from_hex.Goals.{then-not-is_empty-via-then-not-is_empty, then-not-is_empty-via-else-not-is_empty+then-not-well_formed}

pub returns-then-not-is_empty : goal.returns-then-not-is_empty
returns-then-not-is_empty c =
    let digits = c.args.digits.now in
    let cut = c.as_chunks in
    elim c.then-not-is_empty.branch [
      | then-not-is_empty-via-then-not-is_empty w ↦ refused_odd digits cut.result.1.now cut.ensures.back_len (sym w.if-not-is_empty.ensures)
      | then-not-is_empty-via-else-not-is_empty+then-not-well_formed w ↦
          sym (read_even digits cut.result.1.now cut.result.0.now cut.ensures.front cut.ensures.back_len (sym w.if-not-is_empty.ensures) ∙ cond-false _ _ _ (sym w.if-not-well_formed.ensures))
    ]

pub unwrap-requires : goal.unwrap-requires
unwrap-requires c = pair_written c.as_chunks.result.0.now c.loop-pair.pair-index _ c.pair_value.result (sym c.if-not-well_formed.ensures) c.loop-pair-test.true c.pair_value.ensures

pub returns-in_err-push : goal.returns-in_err-push
returns-in_err-push c =
    let cut = c.as_chunks in
    let all = read_even c.args.digits.now cut.result.1.now cut.result.0.now cut.ensures.front cut.ensures.back_len (sym c.if-not-is_empty.ensures) ∙ cond-true _ _ _ (sym c.if-not-well_formed.ensures) in
    let p = err_from_is_err_and c.from_residual.result c.from_residual.ensures.1 in
    rw p.1 (ap is_some all, omega (arith, cut.ensures.front_len))

pub returns : goal.returns
returns c =
    let cut = c.as_chunks in
    let all = read_even c.args.digits.now cut.result.1.now cut.result.0.now cut.ensures.front cut.ensures.back_len (sym c.if-not-is_empty.ensures) ∙ cond-true _ _ _ (sym c.if-not-well_formed.ensures) in
    ap Some (c.loop-pair.invariant ∙ ap bytes_of (take_all c.loop-pair.pair-index cut.result.0.now c.loop-pair-test.false)) ∙ sym all
