-- Rows as the code reads them and tests their loads.
use Rattle.std.proofs.Common.{◌≡◌, Bool, true, false, ◌||◌, List, ℕ, length, Ok, Err, Option, Result, sym, ap, ◌∙◌}
use Rattle.std.specs.Result.{MatchResult}
use Rattle.terms.specs.declared.refusal.Refusal.{Refusal}
use Rattle.loads.specs.declared.kind.LoadFault.{LoadFault}
use Rattle.loads.specs.Counts.{alike, empty}
use Rattle.loads.specs.Formats.{Format, zeros}
use Rattle.loads.proofs.Means.{alike_zeros}
use Rattle.profile.specs.Rows.{Row, goes_on, misloaded}

-- the test with the empty load, and where that fails, whether the row goes on
module _ (f : Format) (before : Option Row) (r : Row) (none : List ℕ) (same : Bool) (full : length r.load ≡ length f.ceilings) (zero : none ≡ zeros f) (is : same ≡ alike r.load none) where
  empty_is : same ≡ empty r.load
  empty_is = is ∙ (ap (alike r.load) zero ∙ alike_zeros r.load (length f.ceilings) full)

  pub misloaded_then : same ≡ true → same ≡ misloaded before r
  misloaded_then t = t ∙ ap (λ b. b || goes_on before r) (sym t ∙ empty_is)

  pub misloaded_else : same ≡ false → (on : Bool) → on ≡ goes_on before r → on ≡ misloaded before r
  misloaded_else t on g = g ∙ ap (λ b. b || goes_on before r) (sym t ∙ empty_is)

-- a value, where only the error was mapped
pub ok_kept : {T : Type 0} (r : Result T LoadFault) (v : T) → MatchResult r (λ x. ◌≡◌ {A = Result T Refusal} (Ok v) (Ok x)) (λ _. ⊥) → r ≡ Ok v
ok_kept (Ok x) v h = let e : v ≡ x = (cc) in sym (ap Ok e)
ok_kept (Err e) v h = absurd h
