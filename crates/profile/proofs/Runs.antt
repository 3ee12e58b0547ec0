-- Rows without fault are the longest runs of the load that they tell.
use Rattle.std.proofs.Common.{◌≡◌, ℕ, ◌+◌, ◌<◌, ◌≤◌, false, eqb, List, [], ◌∷◌, Some, None, Option, sym, refl, ◌∙◌, inl, inr, arith}
use Rattle.std.specs.List.{AllByRecursion}
use Rattle.std.proofs.ByRecursion.{All-weaker}
use Rattle.std.proofs.lemmas.Bool.{cases_lt, both_ways, and_from, eq-eqb}
use Rattle.loads.specs.Counts.{alike}
use Rattle.loads.specs.Formats.{Format, Lawful}
use Rattle.loads.specs.Same.{alike_is}
use Rattle.profile.specs.Rows.{Row, end_of, load_at, end_before, goes_on, rows_fault}
use Rattle.profile.specs.Laws.{Run, InTurn, RowsAreRuns}
use Rattle.profile.proofs.Accepts.{accepts_writings}
use Rattle.profile.proofs.Once.{cut, at_row, past_row, early, no_load, next_differs, fault_free}

all_later : (h : ℕ) (p : Row) (rs : List Row) → rows_fault h (Some p) rs ≡ None → AllByRecursion (λ s. end_of p ≤ s.offset) rs
all_later h p [] e = tt
all_later h p (r ∷ rs) e =
    let c = cut h (Some p) r rs e in
    let l = c.0.later in
    (l, All-weaker (λ s. end_of r ≤ s.offset) (λ s. end_of p ≤ s.offset) (λ s k. omega arith) rs (all_later h r rs c.1))

in_turn : (h : ℕ) (before : Option Row) (rs : List Row) → rows_fault h before rs ≡ None → InTurn rs
in_turn h before [] e = tt
in_turn h before (r ∷ rs) e = let c = cut h before r rs e in (all_later h r rs c.1, in_turn h (Some r) rs c.1)

module _ (f : Format) (h : ℕ) (load : ℕ → List ℕ) where
  -- from where the row before ends, the load is what the rows tell
  abbrev Agrees : Option Row → List Row → Type 0
  Agrees before rs = (m : ℕ) → end_before before ≤ m → load m ≡ load_at f rs m

  -- at its last minute, the load of the row before
  abbrev LeftOff : Option Row → Type 0
  LeftOff None = Unit {0}
  LeftOff (Some p) = (m : ℕ) → m + 1 ≡ end_of p → load m ≡ p.load

  -- a row that touches the one before has another load
  touching : (before : Option Row) (r : Row) (m : ℕ) → LeftOff before → goes_on before r ≡ false → m < end_before before → end_before before ≤ r.offset → m + 1 ≡ r.offset
      → load m ≡ r.load → ⊥
  touching None r m o g l k e s = omega arith
  touching (Some p) r m o g l k e s =
      both_ways (goes_on (Some p) r) g
      (and_from (eqb (end_of p) r.offset) (alike p.load r.load) (eq-eqb (end_of p) r.offset (omega arith))
      ((alike_is p.load r.load).1 (sym (o m (omega arith)) ∙ s)))

  first_run : (before : Option Row) (r : Row) (rs : List Row) → rows_fault h before (r ∷ rs) ≡ None → Agrees before (r ∷ rs) → LeftOff before → Run load h r
  first_run before r rs e agrees left =
      let c = cut h before r rs e in
      let l = c.0.later in
      record {
        some = c.0.some;
        below = c.0.below;
        not_empty = c.0.not_empty;
        same = λ m a b. agrees m (omega arith) ∙ at_row f r rs m a b;
        not_before = λ m a s. elim (cases_lt m (end_before before)) [
          | inl k ↦ touching before r m left c.0.other k l a s
          | inr k ↦ no_load f r.load (sym s ∙ (agrees m k ∙ early f h before r rs e m (omega arith))) c.0.not_empty
        ];
        not_after = λ _ s. next_differs f h r rs c.0.not_empty c.1 (sym (past_row f r rs (end_of r) (omega arith)) ∙ (sym (agrees (end_of r) (omega arith)) ∙ s));
      }

  all_runs : (before : Option Row) (rs : List Row) → rows_fault h before rs ≡ None → Agrees before rs → LeftOff before → AllByRecursion (Run load h) rs
  all_runs before [] e agrees left = tt
  all_runs before (r ∷ rs) e agrees left =
      let c = cut h before r rs e in
      let l = c.0.later in
      let s = c.0.some in (
        first_run before r rs e agrees left,
        all_runs (Some r) rs c.1 (λ m a. agrees m (omega arith) ∙ past_row f r rs m a) (λ m a. agrees m (omega arith) ∙ at_row f r rs m (omega arith) (omega arith)),
      )

pub rows_are_runs : (f : Format) → Lawful f → RowsAreRuns f
rows_are_runs f lawful bs p b e =
    let free = (fault_free p (accepts_writings f lawful bs p b e).faultless).1 in
    record {
      runs = all_runs f p.horizon (load_at f p.rows) None p.rows free (λ m _. refl) tt;
      in_turn = in_turn p.horizon None p.rows free;
    }
