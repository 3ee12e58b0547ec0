use Rattle.std.proofs.Common.{rules}
use Rattle.loads.specs.Digits.{level}
use Rattle.loads.proofs.airtime.AirtimeKind.empty.Goals as goal

pub returns : goal.returns
unfolding level
returns c = search rules
