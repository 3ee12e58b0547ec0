use Rattle.std.proofs.Common.{◌≡◌, ◌-◌, ◌^◌, ◌<◌, length, ◌∙◌, arith}
use Rattle.std.proofs.lemmas.Grind.{common_steps}
use Rattle.loads.specs.Formats.{told}
use Rattle.archive.proofs.Rows.{image_put}
use Rattle.archive.proofs.print.push_rows.Goals as goal

pub loop-row-preserved : goal.loop-row-preserved
loop-row-preserved g c =
    let f = g.K.Kind.format in
    let load = c.row-item.result.load in
    let long : length c.loop-row.image ≡ told f.size = c.loop-row.auto.image ∙ (c.as_mut_slice-image.ensures.len ∙ (c.in_ok-room.ensures.len ∙ c.image_len.ensures)) in
    let small : length c.loop-row.image < 2 ^ 64 - 1 = omega (arith, c.loop-row.auto.image, c.as_mut_slice-image.ensures.len) in
    let image : c.put.new.buffer ≡ f.image (g.K.Kind.counts load) =
    image_put f (g.K.Kind.counts load) c.loop-row.image c.put.new.buffer g.met.K.Kind.lawful (g.met.K.Kind.counted load) long small c.put.ensures.after in
    grind (arith, common_steps)
