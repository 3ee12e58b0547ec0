use Rattle.std.proofs.Common.{rules, ◌≡◌, ◌<◌, ◌≤◌, length, drop, refl, sym, ap, ap₂, ◌++◌, ◌∙◌, arith}
use Rattle.std.proofs.lemmas.List.{take-append-drop, drop-drop}
use Rattle.loads.specs.Places.{bytes_4}
use Rattle.loads.proofs.Fronts.{put_short}
use Rattle.profile.specs.Views.{row_of}
use Rattle.profile.proofs.Rowwise.{row_kept, row_put}
use Rattle.profile.proofs.put.put_row.Goals as goal

pub returns-in_err-rest-clause-after : goal.returns-in_err-rest-clause-after
returns-in_err-rest-clause-after g c =
    let cut = c.in_ok-buffer.ensures.cases in
    row_kept g.K.Kind.format g.met.K.Kind.lawful (row_of g.K.Kind.counts c.args.row) (g.met.K.Kind.counted c.args.row.load) c.args.at c.args.buffer.now _ _ cut.0 cut.1
    _ refl (omega (arith, c.in_err-rest.ensures.cases))

pub returns-in_err-rest-2-clause-after : goal.returns-in_err-rest-2-clause-after
returns-in_err-rest-2-clause-after g c =
    let cut = c.in_ok-buffer.ensures.cases in
    let first = c.in_ok-rest.ensures.cases in
    row_kept g.K.Kind.format g.met.K.Kind.lawful (row_of g.K.Kind.counts c.args.row) (g.met.K.Kind.counted c.args.row.load) c.args.at c.args.buffer.now _ _ cut.0 cut.1
    _ (ap₂ ◌++◌ first.0 first.1 ∙ take-append-drop 4 c.in_ok-buffer.rest.now) (omega (arith, first.2, c.in_err-rest-2.ensures.cases))

pub returns-in_err-ok-clause-after : goal.returns-in_err-ok-clause-after
returns-in_err-ok-clause-after g c =
    let cut = c.in_ok-buffer.ensures.cases in
    let first = c.in_ok-rest.ensures.cases in
    let second = c.in_ok-rest-2.ensures.cases in
    let size = g.met.K.Kind.lawful.sized _ (g.met.K.Kind.counted c.args.row.load) in
    let short : length c.in_ok-rest-2.image.now < g.K.Kind.format.size = search rules in
    let kept : c.put.new.buffer ≡ c.in_ok-rest-2.image.now = c.put.ensures.after ∙ sym (put_short _ c.in_ok-rest-2.image.now (omega arith)) in
    let rest : c.in_ok-rest-2.length.now ++ c.put.new.buffer ≡ c.in_ok-rest.rest.now
    = ap₂ ◌++◌ second.0 (kept ∙ second.1) ∙ take-append-drop 4 c.in_ok-rest.rest.now in
    row_kept g.K.Kind.format g.met.K.Kind.lawful (row_of g.K.Kind.counts c.args.row) (g.met.K.Kind.counted c.args.row.load) c.args.at c.args.buffer.now _ _ cut.0 cut.1
    _ (ap₂ ◌++◌ first.0 (rest ∙ first.1) ∙ take-append-drop 4 c.in_ok-buffer.rest.now) (omega (arith, first.2, second.2))

pub returns-clause-after : goal.returns-clause-after
returns-clause-after g c =
    let cut = c.in_ok-buffer.ensures.cases in
    let first = c.in_ok-rest.ensures.cases in
    let second = c.in_ok-rest-2.ensures.cases in
    let long : g.K.Kind.format.size ≤ length c.in_ok-rest-2.image.now = search rules in
    row_put g.K.Kind.format g.met.K.Kind.lawful (row_of g.K.Kind.counts c.args.row) (g.met.K.Kind.counted c.args.row.load) c.args.at c.args.buffer.now _ _ cut.0 cut.1
    c.to_be_bytes.result c.to_be_bytes-2.result c.in_ok-rest-2.image.now _ (c.to_be_bytes.ensures ∙ bytes_4 c.args.row.offset) (c.to_be_bytes-2.ensures ∙ bytes_4 c.args.row.length)
    (second.1 ∙ (ap (drop 4) first.1 ∙ drop-drop 4 4 c.in_ok-buffer.rest.now)) (omega (arith, first.2, second.2)) c.put.ensures.after
