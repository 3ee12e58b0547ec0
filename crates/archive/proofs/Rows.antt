-- The rows of a profile pushed one after another.
use Rattle.std.proofs.Common.{◌≡◌, ℕ, ◌-◌, ◌^◌, ◌<◌, ◌≤◌, List, ◌++◌, length, ap, ◌∙◌, arith}
use Rattle.std.proofs.lemmas.List.{append-nil, drop_all}
use Rattle.loads.specs.Formats.{Format, Lawful, Counted, told, put_front}
use Rattle.loads.proofs.Fronts.{put_long}

-- a buffer made as long as an image holds the image alone, since no buffer has the largest length that is told
pub image_put : (f : Format) (cs buffer after : List ℕ) → Lawful f → Counted f cs → length buffer ≡ told f.size → length buffer < 2 ^ 64 - 1
    → after ≡ put_front (f.image cs) buffer → after ≡ f.image cs
image_put f cs buffer after lawful counted l small e =
    let fits : f.size ≤ length buffer = omega arith in
    e
    ∙ (put_long (f.image cs) buffer f.size (lawful.sized cs counted) fits
    ∙ (ap (λ l. f.image cs ++ l) (drop_all f.size buffer (omega arith)) ∙ append-nil (f.image cs)))
