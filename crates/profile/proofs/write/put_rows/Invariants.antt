use Rattle.std.proofs.Common.{◌≡◌, ◌+◌, ◌*◌, map, take}
use Rattle.std.specs.List.{flat_map}
use Rattle.profile.specs.Views.{row_of}
use Rattle.profile.specs.Wire.{row_bytes, row_size, put_at}
use Rattle.profile.proofs.write.put_rows.Given as goal

-- the rows so far stand at the start
abbrev pub invariant-loop-row : goal.invariant-loop-row
invariant-loop-row g l =
    (l.at ≡ l.start + l.row-index * row_size g.K.Kind.format)
    × (l.buffer ≡ put_at l.start (flat_map (row_bytes g.K.Kind.format) (map (row_of g.K.Kind.counts) (take l.row-index l.rows))) l.initial.buffer)
