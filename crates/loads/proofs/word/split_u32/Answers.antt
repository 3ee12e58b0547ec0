use Rattle.std.proofs.Common.{◌≤◌, length, ap, ◌∙◌, arith, length-take}
use Rattle.loads.specs.Digits.{from_bytes}
use Rattle.loads.proofs.Fronts.{value_4}
use Rattle.loads.proofs.word.split_u32.Goals as goal

pub returns : goal.returns
returns c =
    let h = c.in_ok-front.ensures.cases in
    let long : 4 ≤ length c.args.bytes.now = omega arith in
    (long, c.from_be_bytes.ensures ∙ (value_4 c.in_ok-front.front.now (ap length h.0 ∙ (rw length-take (omega arith))) ∙ ap from_bytes h.0), h.1)
