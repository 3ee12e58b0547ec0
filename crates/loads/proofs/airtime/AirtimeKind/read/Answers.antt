use Rattle.std.proofs.Common.{◌≡◌, ℕ, Bool, true, false, cond, nat_le, [], ◌∷◌, Ok, Err, Result, refl, sym, ap, ◌∙◌, arith}
use Rattle.std.proofs.lemmas.Bool.{leb-true, lt-ltb, cond-true}
use Rattle.loads.specs.declared.airtime.AboveCeiling.{AboveCeiling}
use Rattle.loads.specs.Places.{digits_one}
use Rattle.loads.proofs.Fronts.{read_word}
use Rattle.loads.proofs.airtime.AirtimeKind.read.Goals as goal

-- a rate that was taken is the number that was given, which is within the ceiling
taken : (b : Bool) (made rate : ℕ) (e : AboveCeiling) → ◌≡◌ {A = Result ℕ AboveCeiling} (Ok made) (cond b (Ok rate) (Err e)) → (b ≡ true) × (made ≡ rate)
taken true made rate e h = (refl, cc)
taken false made rate e h = let z : ◌≡◌ {A = ℕ} 0 1 = cc in absurd (omega arith)

pub returns : goal.returns
returns c =
    let cut = rw c.in_ok-rate.ensures.ok_part at c.split_u32.ensures in
    let made = taken (nat_le c.in_ok-rate.rate 1000000) c.in_ok-try_from.field-0.rate c.in_ok-rate.rate _ c.in_ok-try_from.ensures in
    let low = leb-true c.in_ok-rate.rate 1000000 made.0 in
    ap (λ n. Ok (n ∷ [])) made.1
    ∙ (ap Ok (sym (digits_one 1000001 c.in_ok-rate.rate (omega arith)))
    ∙ (sym (cond-true _ _ _ (lt-ltb c.in_ok-rate.rate 1000001 (omega arith)))
    ∙ read_word 1 1000000 1 4 c.in_ok-rate.rate c.args.bytes.now cut.0 cut.1))
