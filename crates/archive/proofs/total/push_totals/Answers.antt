use Rattle.std.proofs.Common.{◌≡◌, ◌++◌, ◌+◌, vec_items, OnOk, ap, ◌∙◌, rules}
use Rattle.std.proofs.lemmas.Result.{on_ok_weaker, IfOk-equal}
use Rattle.std.proofs.lemmas.List.{append_assoc}
use Rattle.archive.specs.Reports.{total_text}
use Rattle.archive.proofs.Totals.{totals, totals_is}
use Rattle.archive.proofs.total.push_totals.Goals as goal

pub returns : goal.returns
returns c =
    let out = vec_items c.args.out.now in
    let ok = c.len-ok.result in
    let refused = c.args.refused in
    let bad = c.args.bad in
    let d = c.distinct-distinct in
    let told : OnOk c.push_line.result (vec_items c.push_line.new.out ≡ out ++ total_text (totals (ok + refused + bad) ok refused bad d.result)) = search (rules, IfOk-equal, append_assoc) in
    on_ok_weaker c.push_line.result
    (λ e fs s. e ∙ ap (λ t. out ++ total_text t) (totals_is fs (vec_items c.args.accepted) ok refused bad d.result s (c.len-ok.ensures ∙ c.args.accepted.ok.0) d.ensures))
    told
