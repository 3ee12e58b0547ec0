use Rattle.std.proofs.Common.{◌≤◌, length, take, drop, refl, ap, ◌∙◌, arith, length-drop}
use Rattle.std.proofs.lemmas.List.{drop-drop}
use Rattle.loads.specs.Digits.{from_bytes}
use Rattle.profile.proofs.walk.split_header.Goals as goal

pub returns : goal.returns
returns c =
    let h = c.in_ok-horizon.ensures in
    let n = c.in_ok-count.ensures in
    let rest = c.in_ok-mark.rest.now in
    let long : 8 ≤ length rest = omega (arith, h.0, n.0, ap length h.2, length-drop 4 rest) in
    rw c.in_ok-mark.ensures.cases.0 (omega arith, refl, h.1, n.1 ∙ ap (λ bs. from_bytes (take 4 bs)) h.2, n.2 ∙ (ap (drop 4) h.2 ∙ drop-drop 4 4 rest))
