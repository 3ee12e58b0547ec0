-- Windows in plain numbers.
use Rattle.std.specs.Prelude.{◌≡◌, ℕ, ◌+◌, Bool, true, cond, ◌&&◌, Ok, Err, Result, nat_le, nat_lt}
use Rattle.terms.specs.declared.refusal.Refusal.{Refusal}
use Rattle.terms.specs.declared.refusal.Refusal.TheVariants.{BadWindow}
use Rattle.terms.specs.declared.window.Window.{Window}

-- a window in plain numbers: its first moment, and its length in minutes, one for each moment
pub record Span : Type 0 where
  pub start : ℕ
  pub minutes : ℕ

-- the plain form of a window
abbrev pub span_of : Window → Span
span_of w = record { start = w.start; minutes = w.length }

-- the moment after the window's last
abbrev pub end_of : Span → ℕ
end_of s = s.start + s.minutes

-- at least one moment, and an end of at most 1,000,000,000
abbrev pub lawful_window : ℕ → ℕ → Bool
lawful_window start minutes = nat_le 1 minutes && nat_le (start + minutes) 1000000000

-- what making a window of a start and a length answers
abbrev pub span_made : ℕ → ℕ → Result Span Refusal
span_made start minutes = cond (lawful_window start minutes) (Ok (record { start = start; minutes = minutes })) (Err BadWindow)

-- whether the moment is one of the window's, from its start to the one before its end
abbrev pub holds : Span → ℕ → Bool
holds s moment = nat_le s.start moment && nat_lt moment (end_of s)

-- every window is lawful, and two with one plain form are equal
pub record WindowLaw : Type 0 where
  pub lawful : (w : Window) → lawful_window w.start w.length ≡ true
  pub told : (v w : Window) → span_of v ≡ span_of w → v ≡ w
