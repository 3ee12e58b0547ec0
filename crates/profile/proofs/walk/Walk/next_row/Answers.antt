use Rattle.std.proofs.Common.{sym, arith}
use Rattle.std.proofs.lemmas.Result.{err_from_is_err_and}
use Rattle.profile.proofs.Steps.{row_missing, row_refused}
use Rattle.profile.proofs.walk.Walk.next_row.Goals as goal

pub returns-in_err-row-clause-rows : goal.returns-in_err-row-clause-rows
returns-in_err-row-clause-rows g c =
    let p = err_from_is_err_and c.from_residual.result c.from_residual.ensures.1 in
    rw (p.1, p.2, sym c.self.view_is) (row_missing g.K.Kind.format _ c.self.inside.left _ c.self.inside.rest.now (omega arith) _ c.in_err-row.ensures.row)

pub returns-in_err-admit-clause-rows : goal.returns-in_err-admit-clause-rows
returns-in_err-admit-clause-rows g c =
    let p = err_from_is_err_and c.from_residual-in_err-admit.result c.from_residual-in_err-admit.ensures.1 in
    rw (p.1, p.2, sym c.self.view_is) (row_refused g.K.Kind.format _ c.self.inside.left _ c.self.inside.rest.now (omega arith) _ _ tt c.in_ok-row.ensures.row c.in_err-admit.ensures.fault)
