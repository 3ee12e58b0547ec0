use Rattle.std.proofs.Common.{◌≡◌, is_some, Some, None, Option, sym, refl, ap, ap₂, ◌∙◌}
use Rattle.std.specs.Option.{option_map, option_and_then, option_zip}
use Rattle.std.proofs.lemmas.Result.{err_from_is_err_and}
use Rattle.text.specs.Hex.{hex_bytes}
use Rattle.archive.specs.Grammar.{kind_of}
use Rattle.archive.proofs.line.read_line.Goals as goal

some_zip : {A B : Type 0} (a : A) (o : Option B) → is_some (option_zip (Some a) o) ≡ is_some o
some_zip a None = refl
some_zip a (Some b) = refl

pub returns-in_err-bytes : goal.returns-in_err-bytes
returns-in_err-bytes c =
    let p = err_from_is_err_and c.from_residual.result c.from_residual.ensures.1 in
    let there = c.in-Ok-Some in
    rw p.1
    (sym (ap₂ (λ k r. is_some (option_zip k (option_and_then hex_bytes r))) (there.ensures ∙ ap kind_of c.word.ensures.word) (sym (ap (option_map (λ s. s.now)) there.is-1) ∙ c.word.ensures.rest))
    ∙ (some_zip there.kind (hex_bytes there.digits.now) ∙ c.in_err-bytes.ensures.0))
