use Rattle.std.proofs.Common.{◌∙◌}
use Rattle.loads.specs.Joins.{full}
use Rattle.profile.specs.Views.{row_of}
use Rattle.profile.proofs.Parsed.{misloaded_then, misloaded_else}
use Rattle.profile.proofs.limits.Limits.misloaded.Goals as goal

pub returns-then-eq : goal.returns-then-eq
returns-then-eq g c =
    let counts = g.K.Kind.counts in
    let row = row_of counts c.args.row in
    misloaded_then g.K.Kind.format c.args.self.now.before row (counts c.empty.result) c.eq.result
    (full counts _ g.met.K.Kind.counted c.args.row.load) c.empty.ensures (◌∙◌ {b = g.K.Load.PartialEq.eq c.args.row.load c.empty.result} c.eq.ensures (g.met.K.Kind.same c.args.row.load c.empty.result)) c.if-eq.true

pub returns-else-eq : goal.returns-else-eq
returns-else-eq g c =
    let counts = g.K.Kind.counts in
    let row = row_of counts c.args.row in
    misloaded_else g.K.Kind.format c.args.self.now.before row (counts c.empty.result) c.eq.result
    (full counts _ g.met.K.Kind.counted c.args.row.load) c.empty.ensures (◌∙◌ {b = g.K.Load.PartialEq.eq c.args.row.load c.empty.result} c.eq.ensures (g.met.K.Kind.same c.args.row.load c.empty.result)) c.if-eq.false c.goes_on.result c.goes_on.ensures
