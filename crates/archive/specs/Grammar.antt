-- The profile that a line files.
use Rattle.std.specs.Prelude.{ℕ, cond, List, take, Some, None, codes, Option}
use Rattle.std.specs.Option.{option_and_then, option_zip}
use Rattle.std.specs.Str.{bytes_eq}
use Rattle.loads.specs.Formats.{Format, airtime_format, crews_format, pair_format}
use Rattle.text.specs.Hex.{hex_bytes}
use Rattle.text.specs.Lines.{word_end, after_word}
use Rattle.archive.specs.declared.kind_name.KindName.{KindName}
use Rattle.archive.specs.declared.kind_name.KindName.TheVariants.{Airtime, Crews, Both}

-- the format of the loads that a kind's profiles tell; `both` is the pair with airtime first
abbrev pub format_of : KindName → Format
format_of Airtime = airtime_format
format_of Crews = crews_format
format_of Both = pair_format airtime_format crews_format

-- the kind that a word names, if it names one
abbrev pub kind_of : List ℕ → Option KindName
kind_of w =
    cond (bytes_eq w (codes "airtime")) (Some Airtime)
    (cond (bytes_eq w (codes "crews")) (Some Crews)
    (cond (bytes_eq w (codes "both")) (Some Both) None))

-- the bytes that the digits after the first space write; none where there is no space
abbrev pub filed_bytes : List ℕ → Option (List ℕ)
filed_bytes line = option_and_then hex_bytes (after_word line)

-- the kind and the bytes of the profile that a line files: the kind's word, one space, and the bytes in hexadecimal digits
abbrev pub line_of : List ℕ → Option (KindName × List ℕ)
line_of line = option_zip (kind_of (take (word_end line) line)) (filed_bytes line)
