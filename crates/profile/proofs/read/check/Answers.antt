use Rattle.std.proofs.Common.{sym, ◌∙◌}
use Rattle.profile.specs.Views.{row_of, header_of, read_on}
use Rattle.profile.proofs.Steps.{read_passed, none_next}
use Rattle.profile.proofs.read.check.Goals as goal

pub returns : goal.returns
returns g c =
    read_passed g.K.Kind.format c.args.bytes.now (header_of c.in_ok-header.header) c.in_ok-header.ensures.header (read_on g.K.Kind.format c.loop.walk) c.loop.invariant
    (none_next c.in_ok-next_row.field-0 (row_of g.K.Kind.counts) _ _ (sym c.is_some.ensures ∙ c.if-is_some.false) c.in_ok-next_row.ensures.rows)
