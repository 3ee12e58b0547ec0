use Rattle.std.proofs.Common.{ap, ◌∙◌}
use Rattle.loads.specs.Formats.{put_front}
use Rattle.loads.specs.Places.{bytes_4}
use Rattle.loads.proofs.word.put_u32.Goals as goal

pub returns-clause-after : goal.returns-clause-after
returns-clause-after c = c.put_front.ensures.after ∙ ap (λ bs. put_front bs c.args.buffer.now) (c.to_be_bytes.ensures ∙ bytes_4 c.args.number)
