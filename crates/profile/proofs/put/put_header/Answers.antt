use Rattle.std.proofs.Common.{rules, ◌<◌, ◌≤◌, length, ◌∙◌, arith}
use Rattle.loads.proofs.Fronts.{put_short}
use Rattle.profile.specs.Wire.{header_bytes}
use Rattle.profile.proofs.Putting.{first_kept, first_put}
use Rattle.profile.proofs.Written.{length_header}
use Rattle.profile.proofs.put.put_header.Goals as goal

pub returns-in_err-ok-clause-after : goal.returns-in_err-ok-clause-after
returns-in_err-ok-clause-after g c =
    let short : length c.in_ok-buffer.rest.now < 8 = search rules in
    let l = length_header g.K.Kind.format c.args.header.horizon c.args.header.count in
    first_kept _ _ _ _ _ _ c.in_ok-buffer.ensures.cases.0 c.put_words.ensures.after short
    ∙ put_short (header_bytes g.K.Kind.format c.args.header.horizon c.args.header.count) c.args.buffer.now (omega (arith, c.in_ok-buffer.ensures.cases.1))

pub returns-clause-after : goal.returns-clause-after
returns-clause-after g c =
    let room : 8 ≤ length c.in_ok-buffer.rest.now = search rules in
    rw (c.MARK.ensures, g.met.K.Kind.marked) (first_put _ _ _ _ _ _ c.in_ok-buffer.ensures.cases.0 c.put_words.ensures.after _ room)
