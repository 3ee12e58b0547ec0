use Rattle.std.proofs.Common.{◌≡◌, take, drop, Ok, ap, ◌∙◌, arith}
use Rattle.loads.proofs.Fronts.{joined_read}
use Rattle.loads.proofs.pair.PairKind.read.Goals as goal

pub returns : goal.returns
returns g c =
    let cut = rw c.in_ok-front.ensures.ok_part at c.split_at_checked.ensures.cases in
    let at : c.image_len.result ≡ g.A.Kind.format.size = omega arith in
    joined_read g.A.Kind.format g.B.Kind.format c.args.bytes.now c.in_ok-front.front.now c.in_ok-front.back.now (omega arith)
    (cut.1 ∙ ap (λ n. take n c.args.bytes.now) at) (cut.2 ∙ ap (λ n. drop n c.args.bytes.now) at)
    (Ok (g.A.Kind.counts c.in_ok-first.first)) (Ok (g.B.Kind.counts c.in_ok-second.second)) c.in_ok-first.ensures c.in_ok-second.ensures
