use Rattle.std.proofs.Common.{sym, subst}
use Rattle.profile.specs.Views.{header_of, Tells}
use Rattle.profile.specs.Wire.{read_profile}
use Rattle.profile.proofs.Accepts.{accepts_writings}
use Rattle.profile.proofs.Once.{one_writing}
use Rattle.profile.proofs.Runs.{rows_are_runs}
use Rattle.profile.proofs.Steps.{headed}
use Rattle.profile.proofs.read.read.Goals as goal

pub returns-in_err-check-clause-accepts_writings : goal.returns-in_err-check-clause-accepts_writings
returns-in_err-check-clause-accepts_writings g c = accepts_writings g.K.Kind.format g.met.K.Kind.lawful

pub returns-in_err-check-clause-rows_are_runs : goal.returns-in_err-check-clause-rows_are_runs
returns-in_err-check-clause-rows_are_runs g c = rows_are_runs g.K.Kind.format g.met.K.Kind.lawful

pub returns-in_err-check-clause-one_writing : goal.returns-in_err-check-clause-one_writing
returns-in_err-check-clause-one_writing g c = one_writing g.K.Kind.format g.met.K.Kind.lawful

pub returns-clause-tells : goal.returns-clause-tells
returns-clause-tells g c =
    let read = read_profile g.K.Kind.format c.args.bytes.now in
    let k = headed read (header_of c.in_ok-check.field-0) c.in_ok-check.ensures in
    subst (λ p. Tells g.K.Kind.counts p c.collect.result) (sym k.1) (c.collect.ensures k.0 k.1)

pub returns-clause-accepts_writings : goal.returns-clause-accepts_writings
returns-clause-accepts_writings g c = accepts_writings g.K.Kind.format g.met.K.Kind.lawful

pub returns-clause-rows_are_runs : goal.returns-clause-rows_are_runs
returns-clause-rows_are_runs g c = rows_are_runs g.K.Kind.format g.met.K.Kind.lawful

pub returns-clause-one_writing : goal.returns-clause-one_writing
returns-clause-one_writing g c = one_writing g.K.Kind.format g.met.K.Kind.lawful
