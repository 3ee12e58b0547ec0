use Rattle.std.proofs.Common.{◌≡◌, ◌++◌, length, sym, ap, ap₂, ◌∙◌, arith, length-append}
use Rattle.std.proofs.lemmas.Bool.{leb-true, leb-false}
use Rattle.loads.specs.Formats.{put_front}
use Rattle.loads.specs.Lawfuls.{joined_image}
use Rattle.loads.proofs.Fronts.{put_parts, put_short}
use Rattle.loads.proofs.pair.PairKind.put.Goals as goal

pub returns-in_err-buffer-clause-after : goal.returns-in_err-buffer-clause-after
returns-in_err-buffer-clause-after g c =
    let cut = rw c.in_err-buffer.ensures.ok_part at c.split_at_mut_checked.ensures.cases in
    let p = g.met.A.Kind.counted c.args.load.first in
    let x = g.met.A.Kind.lawful.sized _ p in
    put_short (g.A.Kind.format.image _ ++ g.B.Kind.format.image _) c.args.buffer.now (rw length-append (omega arith))
    ∙ ap (λ i. put_front i c.args.buffer.now) (sym (joined_image g.A.Kind.format g.B.Kind.format _ _ p))

pub returns-in_err-put-clause-after : goal.returns-in_err-put-clause-after
returns-in_err-put-clause-after g c =
    let cut = rw c.in_ok-buffer.ensures.ok_part at c.split_at_mut_checked.ensures.cases in
    let p = g.met.A.Kind.counted c.args.load.first in
    let x = g.met.A.Kind.lawful.sized _ p in
    let y = g.met.B.Kind.lawful.sized _ (g.met.B.Kind.counted c.args.load.second) in
    let short = leb-false g.B.Kind.format.size (length c.in_ok-buffer.back.now) (sym c.in_err-put.ensures.fits) in
    let back : c.put.new.buffer ≡ c.in_ok-buffer.back.now = c.put.ensures.after ∙ sym (put_short _ c.in_ok-buffer.back.now (omega arith)) in
    ap (λ bs. c.in_ok-buffer.front.now ++ bs) back
    ∙ (sym cut.0
    ∙ (put_short (g.A.Kind.format.image _ ++ g.B.Kind.format.image _) c.args.buffer.now (rw length-append (omega arith))
    ∙ ap (λ i. put_front i c.args.buffer.now) (sym (joined_image g.A.Kind.format g.B.Kind.format _ _ p))))

pub returns-clause-after : goal.returns-clause-after
returns-clause-after g c =
    let cut = rw c.in_ok-buffer.ensures.ok_part at c.split_at_mut_checked.ensures.cases in
    let p = g.met.A.Kind.counted c.args.load.first in
    let x = g.met.A.Kind.lawful.sized _ p in
    let y = g.met.B.Kind.lawful.sized _ (g.met.B.Kind.counted c.args.load.second) in
    let long = leb-true g.B.Kind.format.size (length c.in_ok-buffer.back.now) (sym c.in_ok-put.ensures.fits) in
    ap₂ ◌++◌ c.put-2.ensures.after c.put.ensures.after
    ∙ (put_parts (g.A.Kind.format.image _) (g.B.Kind.format.image _) c.in_ok-buffer.front.now c.in_ok-buffer.back.now (omega arith) (omega arith)
    ∙ (ap (put_front _) (sym cut.0)
    ∙ ap (λ i. put_front i c.args.buffer.now) (sym (joined_image g.A.Kind.format g.B.Kind.format _ _ p))))
