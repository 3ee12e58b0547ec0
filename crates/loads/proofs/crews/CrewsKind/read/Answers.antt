use Rattle.std.proofs.Common.{◌≡◌, ◌^◌, length, Ok, sym, ap, ◌∙◌, arith, length-take}
use Rattle.std.proofs.lemmas.Bool.{lt-ltb, cond-true}
use Rattle.loads.specs.Digits.{digits, from_bytes}
use Rattle.loads.proofs.Fronts.{read_word, value_8}
use Rattle.loads.proofs.crews.CrewsKind.read.Goals as goal

pub returns : goal.returns
returns c =
    let cut = rw c.in_ok-front.ensures.ok_part at c.first_chunk.ensures.cases in
    let value : c.from_be_bytes.result ≡ from_bytes c.in_ok-front.front.now
    = c.from_be_bytes.ensures ∙ value_8 c.in_ok-front.front.now (ap length cut.same ∙ (rw length-take (omega (arith, cut.enough)))) in
    ap (λ w. Ok (digits 2 64 w)) c.from.ensures
    ∙ (sym (cond-true _ _ _ (lt-ltb c.from_be_bytes.result (2 ^ 64) c.from_be_bytes.type_inv))
    ∙ read_word 2 1 64 8 c.from_be_bytes.result c.args.bytes.now cut.enough (value ∙ ap from_bytes cut.same))
