use Rattle.std.proofs.Common.{◌≡◌, drop, Ok, ap, ◌∙◌}
use Rattle.std.proofs.lemmas.List.{drop-drop}
use Rattle.profile.proofs.Parsed.{ok_kept}
use Rattle.profile.proofs.walk.split_row.Goals as goal

pub returns-clause-rest : goal.returns-clause-rest
returns-clause-rest g c =
    let a = rw c.in_ok-offset.ensures.ok_part at c.split_u32.ensures in
    let b = rw c.in_ok-length.ensures.ok_part at c.split_u32-2.ensures in
    let k : c.split_load.result ≡ Ok (c.in_ok-load.load, c.in_ok-load.rest) = ok_kept c.split_load.result _ c.in_ok-load.ensures.cases in
    let l = rw k at c.split_load.ensures.rest in
    l ∙ (ap (drop g.K.Kind.format.size) (b.2 ∙ (ap (drop 4) a.2 ∙ drop-drop 4 4 c.args.bytes.now)) ∙ drop-drop g.K.Kind.format.size 8 c.args.bytes.now)
