use Rattle.std.proofs.Common.{length, arith}
use lib.ListN.{length-map}
use Rattle.terms.specs.declared.refusal.Refusal.TheVariants.{TooShort}
use Rattle.profile.specs.Views.{row_of, profile_of}
use Rattle.profile.proofs.Rowwise.{all_counted}
use Rattle.profile.proofs.Wholes.{faultless, fits_bytes, whole_written, whole_reads}
use Rattle.profile.proofs.Written.{reads_back}
use Rattle.profile.proofs.write.write.Goals as goal

pub returns-in_err-check_rows-clause-as_the_reader : goal.returns-in_err-check_rows-clause-as_the_reader
returns-in_err-check_rows-clause-as_the_reader g c = reads_back g.K.Kind.format g.met.K.Kind.lawful

pub overflow_cast-count : goal.overflow_cast-count
overflow_cast-count g c =
    let view = row_of g.K.Kind.counts in
    let p = profile_of g.K.Kind.counts c.args.horizon c.args.rows.now in
    let fits = fits_bytes g.K.Kind.format p (faultless p tt tt c.in_ok-check_rows.ensures) (all_counted g.K.Kind.format view (λ x. g.met.K.Kind.counted x.load) c.args.rows.now) in
    omega (arith, fits.count, length-map c.args.rows.now view)

pub returns-clause-after : goal.returns-clause-after
returns-clause-after g c =
    let view = row_of g.K.Kind.counts in
    whole_written g.K.Kind.format g.met.K.Kind.lawful (profile_of g.K.Kind.counts c.args.horizon c.args.rows.now)
    (all_counted g.K.Kind.format view (λ x. g.met.K.Kind.counted x.load) c.args.rows.now)
    (length c.args.rows.now) (length-map c.args.rows.now view) c.args.buffer.now c.put_profile.new.buffer
    c.put_profile.ensures.after c.put_profile.result (TooShort c.profile_len-needed.result) c.ok_or.result c.put_profile.ensures.place c.ok_or.ensures.value

pub returns-clause-reads_back : goal.returns-clause-reads_back
returns-clause-reads_back g c =
    let view = row_of g.K.Kind.counts in
    let p = profile_of g.K.Kind.counts c.args.horizon c.args.rows.now in
    whole_reads g.K.Kind.format g.met.K.Kind.lawful p
    (all_counted g.K.Kind.format view (λ x. g.met.K.Kind.counted x.load) c.args.rows.now)
    (length c.args.rows.now) (length-map c.args.rows.now view) c.args.buffer.now c.put_profile.new.buffer
    c.put_profile.ensures.after (faultless p tt tt c.in_ok-check_rows.ensures)
    c.put_profile.result (TooShort c.profile_len-needed.result) c.ok_or.result c.put_profile.ensures.place c.ok_or.ensures.value

pub returns-clause-as_the_reader : goal.returns-clause-as_the_reader
returns-clause-as_the_reader g c = reads_back g.K.Kind.format g.met.K.Kind.lawful
