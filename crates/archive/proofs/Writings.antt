-- Within each kind, one load has one writing.
use Rattle.loads.specs.Formats.{airtime_format, crews_format, pair_format}
use Rattle.loads.specs.Lawfuls.{airtime_lawful, crews_lawful, pair_lawful}
use Rattle.profile.proofs.Once.{one_writing}
use Rattle.archive.specs.declared.kind_name.KindName.TheVariants.{Airtime, Crews, Both}
use Rattle.archive.specs.Laws.{OneWritingEach}

pub one_writing_each : OneWritingEach
one_writing_each Airtime = one_writing airtime_format airtime_lawful
one_writing_each Crews = one_writing crews_format crews_lawful
one_writing_each Both = one_writing (pair_format airtime_format crews_format) (pair_lawful airtime_format crews_format airtime_lawful crews_lawful)
