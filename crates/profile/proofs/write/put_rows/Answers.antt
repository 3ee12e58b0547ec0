use Rattle.std.proofs.Common.{◌*◌, map, length, sym, add-mul, arith}
use Rattle.std.specs.List.{flat_map}
use Rattle.profile.specs.Views.{row_of}
use Rattle.profile.specs.Wire.{row_bytes, row_size}
use Rattle.profile.proofs.Putting.{put_at_short}
use Rattle.profile.proofs.Rowwise.{place_some, place_none, length_all, rows_put_more}
use Rattle.profile.proofs.write.put_rows.Goals as goal

pub returns-in_err-end-clause-after : goal.returns-in_err-end-clause-after
returns-in_err-end-clause-after g c =
    let f = g.K.Kind.format in
    let view = row_of g.K.Kind.counts in
    let b = length_all f g.met.K.Kind.lawful view (λ x. g.met.K.Kind.counted x.load) c.args.rows.now in
    let s = place_none c.args.start (length c.args.rows.now * row_size f) c.args.buffer.now c.in_err-end.ensures in
    sym (put_at_short c.args.start (flat_map (row_bytes f) (map view c.args.rows.now)) c.args.buffer.now (omega arith))

pub loop-row-preserved : goal.loop-row-preserved
loop-row-preserved g c =
    let f = g.K.Kind.format in
    let room = (place_some _ c.args.start (length c.args.rows.now * row_size f) c.args.buffer.now c.in_ok-end.ensures).1 in
    let i = c.loop-row.invariant in (
      omega (arith, (place_some c.in_ok-at.at c.loop-row.at (row_size f) c.loop-row.buffer c.in_ok-at.ensures.place).0, add-mul c.loop-row.row-index 1 (row_size f)),
      rows_put_more f g.met.K.Kind.lawful (row_of g.K.Kind.counts) (λ x. g.met.K.Kind.counted x.load) c.args.rows.now c.args.start c.args.buffer.now room
          c.loop-row.row-index c.loop-row.at c.row-item.result c.loop-row.buffer c.put_row.new.buffer c.loop-row-test.true c.row-item.is i.0 i.1 c.in_ok-at.ensures.after,
    )
