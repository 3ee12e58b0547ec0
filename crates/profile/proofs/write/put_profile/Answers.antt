use Rattle.std.proofs.Common.{◌*◌, ◌++◌, map, length, arith, length-append}
use Rattle.std.specs.List.{flat_map}
use Rattle.loads.proofs.Fronts.{put_short}
use Rattle.profile.specs.Views.{row_of}
use Rattle.profile.specs.Wire.{row_bytes, row_size, header_bytes}
use Rattle.profile.proofs.Putting.{put_at_short, front_before}
use Rattle.profile.proofs.Rowwise.{place_some, place_none, length_all}
use Rattle.profile.proofs.Written.{length_header}
use Rattle.profile.proofs.write.put_profile.Goals as goal

pub returns-in_err-end-clause-after : goal.returns-in_err-end-clause-after
returns-in_err-end-clause-after g c =
    let f = g.K.Kind.format in
    let view = row_of g.K.Kind.counts in
    let head = header_bytes f c.args.header.horizon c.args.header.count in
    let body = flat_map (row_bytes f) (map view c.args.rows.now) in
    let h = length_header f c.args.header.horizon c.args.header.count in
    let b = length_all f g.met.K.Kind.lawful view (λ x. g.met.K.Kind.counted x.load) c.args.rows.now in
    let s = place_none 9 (length c.args.rows.now * row_size f) c.args.buffer.now c.in_err-end.ensures.place in
    rw (c.in_err-end.ensures.after, put_at_short 9 body c.args.buffer.now (omega arith)) (put_short (head ++ body) c.args.buffer.now (omega (arith, length-append head body)))

pub returns-clause-after : goal.returns-clause-after
returns-clause-after g c =
    let f = g.K.Kind.format in
    let view = row_of g.K.Kind.counts in
    let head = header_bytes f c.args.header.horizon c.args.header.count in
    let body = flat_map (row_bytes f) (map view c.args.rows.now) in
    let b = length_all f g.met.K.Kind.lawful view (λ x. g.met.K.Kind.counted x.load) c.args.rows.now in
    let room = (place_some _ 9 (length c.args.rows.now * row_size f) c.args.buffer.now c.in_ok-end.ensures.place).1 in
    front_before head body c.args.buffer.now c.put_rows.new.buffer c.put_header.new.buffer 9 (length_header f c.args.header.horizon c.args.header.count) (omega arith)
    c.in_ok-end.ensures.after c.in_ok-put_header.ensures.after
