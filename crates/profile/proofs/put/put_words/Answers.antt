use Rattle.std.proofs.Common.{◌++◌, ap, ◌∙◌, ap₂}
use Rattle.std.proofs.lemmas.List.{append-nil}
use Rattle.loads.specs.Formats.{put_front}
use Rattle.loads.specs.Places.{bytes_4}
use Rattle.profile.proofs.put.put_words.Goals as goal

pub returns-clause-after : goal.returns-clause-after
returns-clause-after c =
    let words = rw append-nil at c.as_flattened.ensures.value in
    c.put_front.ensures.after
    ∙ ap (λ bs. put_front bs c.args.buffer.now) (words ∙ (rw (c.to_be_bytes.ensures, c.to_be_bytes-2.ensures) (ap₂ ◌++◌ (bytes_4 c.args.first) (bytes_4 c.args.second))))
