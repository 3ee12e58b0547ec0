use Rattle.std.proofs.Common.{vec_items}
use Rattle.text.specs.Lines.{lines_of, lines_left}
use Rattle.archive.proofs.Totals.{Reported}
use Rattle.archive.proofs.report.report.Given as goal

abbrev pub invariant-loop-line : goal.invariant-loop-line
invariant-loop-line l = Reported (lines_of l.input) l.yielded (lines_left l.line-iterator) (vec_items l.text) (vec_items l.accepted) l.refused l.bad
