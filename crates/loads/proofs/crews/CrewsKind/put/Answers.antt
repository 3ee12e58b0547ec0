use Rattle.std.proofs.Common.{sym, ap, ◌∙◌, arith}
use Rattle.loads.specs.Digits.{to_bytes}
use Rattle.loads.specs.Formats.{put_front}
use Rattle.loads.specs.Places.{bytes_8, number_digits}
use Rattle.loads.proofs.crews.CrewsKind.put.Goals as goal

pub returns-clause-after : goal.returns-clause-after
returns-clause-after c =
    c.put_front.ensures.after
    ∙ ap (λ bs. put_front bs c.args.buffer.now)
    (c.to_be_bytes.ensures ∙ (bytes_8 c.args.load.word ∙ ap (to_bytes 8) (sym (number_digits 2 64 c.args.load.word (omega arith) c.args.load.bound))))
