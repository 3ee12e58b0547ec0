use Rattle.std.proofs.Common.{◌++◌, Err, sym, refl, ap, ◌∙◌, arith}
use Rattle.std.proofs.lemmas.List.{append-nil}
use Rattle.archive.specs.Reports.{totals_of, total_text, findings_of}
use Rattle.archive.specs.Views.{verdict_of}
use Rattle.archive.proofs.Writings.{one_writing_each}
use Rattle.archive.proofs.Totals.{one_accepted, one_refused, one_bad, reported_more, reported_few, reported_all}
use Rattle.archive.proofs.report.report.Goals as goal

pub loop-line-preserved-in-Continue-branch-3 : goal.loop-line-preserved-in-Continue-branch-3
loop-line-preserved-in-Continue-branch-3 c =
    let one = one_accepted _ c.in-Ok.bytes (sym (ap verdict_of c.in-Ok.is) ∙ c.in_ok-bytes.ensures.verdict) in
    reported_more c.in-Some.line c.loop-line.invariant one c.in-Some.ensures.steps c.in_ok-bytes.ensures.text c.in_ok-push-in-Ok.ensures.items (omega arith) (omega arith)

pub loop-line-preserved-in-Err-Refused : goal.loop-line-preserved-in-Err-Refused
loop-line-preserved-in-Err-Refused c =
    let one = one_refused _ c.in-Err-Refused.field-0-0 (sym (ap verdict_of (c.in-Err-Refused.is ∙ ap Err c.in-Err-Refused.field-0-is)) ∙ c.in_ok-bytes.ensures.verdict) in
    reported_more c.in-Some.line c.loop-line.invariant one c.in-Some.ensures.steps c.in_ok-bytes.ensures.text (sym (append-nil _)) refl (omega arith)

pub loop-line-preserved : goal.loop-line-preserved
loop-line-preserved c =
    let one = one_bad _ (sym (ap verdict_of (c.in-Err-BadLine.is ∙ ap Err c.in-Err-BadLine.field-0-is)) ∙ c.in_ok-bytes.ensures.verdict) in
    reported_more c.in-Some.line c.loop-line.invariant one c.in-Some.ensures.steps c.in_ok-bytes.ensures.text (sym (append-nil _)) (omega arith) refl

pub push_totals-requires : goal.push_totals-requires
push_totals-requires c =
    omega (arith, reported_few c.loop-line.invariant, c.of-line-items.ensures.few, c.loop-line.accepted.ok.0)

pub returns-clause-text : goal.returns-clause-text
returns-clause-text c =
    let all = reported_all c.loop-line.invariant c.in-None.ensures.steps.0 in
    let fs = findings_of c.args.input.now in
    c.in_ok-push_totals.ensures fs all.1 ∙ ap (λ t. t ++ total_text (totals_of fs)) all.0

pub returns-in_err-bytes-clause-one_writing : goal.returns-in_err-bytes-clause-one_writing
returns-in_err-bytes-clause-one_writing c = one_writing_each

pub returns-in_err-push-in-Ok-clause-one_writing : goal.returns-in_err-push-in-Ok-clause-one_writing
returns-in_err-push-in-Ok-clause-one_writing c = one_writing_each

pub returns-in_err-push_totals-clause-one_writing : goal.returns-in_err-push_totals-clause-one_writing
returns-in_err-push_totals-clause-one_writing c = one_writing_each

pub returns-clause-one_writing : goal.returns-clause-one_writing
returns-clause-one_writing c = one_writing_each
