use Rattle.std.proofs.Common.{eqb, rules, tests, sym, ◌∙◌}
use Rattle.std.proofs.lemmas.Iterator.{YieldsList-from_slice}
use Rattle.std.proofs.lemmas.Iterator.Search.{position_from_yields_List}
use Rattle.text.proofs.Cuts.{placed, cut_found, cut_missing}
use Rattle.text.proofs.lines.split_at_byte.Goals as goal

pub returns-in-Some : goal.returns-in-Some
returns-in-Some c =
    let found = position_from_yields_List (λ b. eqb b c.args.byte) _ _ c.position.result c.position.ensures.ran (YieldsList-from_slice c.args.bytes.now cc) (λ x b q k. search (rules, tests)) in
    let cut = cut_found c.args.byte c.args.bytes.now c.in-Some.i (placed c.args.byte c.args.bytes.now _ (sym c.in-Some.is ∙ found)) in
    record { before = cut.0; after = cut.1 }

pub returns-in-None : goal.returns-in-None
returns-in-None c =
    let found = position_from_yields_List (λ b. eqb b c.args.byte) _ _ c.position.result c.position.ensures.ran (YieldsList-from_slice c.args.bytes.now cc) (λ x b q k. search (rules, tests)) in
    let cut = cut_missing c.args.byte c.args.bytes.now (placed c.args.byte c.args.bytes.now _ (sym c.in-None.is ∙ found)) in
    record { before = cut.0; after = cut.1 }
