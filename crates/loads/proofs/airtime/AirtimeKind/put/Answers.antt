use Rattle.std.proofs.Common.{sym, ap, ◌∙◌}
use Rattle.loads.specs.Digits.{to_bytes}
use Rattle.loads.specs.Formats.{put_front}
use Rattle.loads.specs.Places.{number_one}
use Rattle.loads.proofs.airtime.AirtimeKind.put.Goals as goal

pub returns-clause-after : goal.returns-clause-after
returns-clause-after c = c.put_u32.ensures.after ∙ ap (λ w. put_front (to_bytes 4 w) c.args.buffer.now) (sym (number_one 1000001 c.args.load.rate))
