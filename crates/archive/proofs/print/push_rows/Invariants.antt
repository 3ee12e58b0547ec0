use Rattle.std.proofs.Common.{◌≡◌, ◌++◌, map, take, vec_items}
use Rattle.std.specs.List.{flat_map}
use Rattle.profile.specs.Views.{row_of}
use Rattle.archive.specs.Texts.{row_text}
use Rattle.archive.proofs.print.push_rows.Given as goal

-- the rows so far are out
abbrev pub invariant-loop-row : goal.invariant-loop-row
invariant-loop-row g l =
    vec_items l.out ≡ vec_items l.initial.out ++ flat_map (row_text g.K.Kind.format) (map (row_of g.K.Kind.counts) (take l.row-index l.rows))
