use Rattle.std.proofs.Common.{vec_items, refl, ◌∙◌}
use Rattle.std.proofs.lemmas.Result.{err_from_is_err_and}
use Rattle.profile.specs.Views.{row_of, header_of}
use Rattle.profile.proofs.Steps.{after_more, some_row, passed}
use Rattle.profile.proofs.read.collect.Goals as goal

pub loop-rows-preserved : goal.loop-rows-preserved
loop-rows-preserved g c =
    let next = rw c.in-Some.is at c.in_ok-row.ensures.rows in
    after_more (row_of g.K.Kind.counts) (vec_items c.loop-rows.rows) c.in-Some.row _ _ _ c.loop-rows.invariant next (vec_items c.push.new.self) c.in_ok-push.ensures.items

pub returns-in_err-push : goal.returns-in_err-push
returns-in_err-push g c p e =
    let r = err_from_is_err_and c.from_residual-in_err-push.result c.from_residual-in_err-push.ensures.1 in
    let next = rw c.in-Some.is at c.in_ok-row.ensures.rows in
    let all = c.in_ok-header.ensures.rows ∙ passed g.K.Kind.format c.args.bytes.now (header_of c.in_ok-header.header) c.in_ok-header.ensures.header p e in
    rw (r.1, r.2) (p, refl, some_row (row_of g.K.Kind.counts) (vec_items c.loop-rows.rows) c.in-Some.row _ _ _ c.loop-rows.invariant next p.rows all)
