use Rattle.std.proofs.Common.{◌≡◌, ℕ, ◌+◌, Bool, true, false, cond, ◌&&◌, nat_le, [], ◌∷◌, Some, None, Ok, Err, Result, refl, ap, ◌∙◌}
use Rattle.std.specs.Option.{option_map}
use Rattle.std.specs.Result.{result_map_both, result_ok}
use Rattle.loads.specs.declared.airtime.AirtimeLoad.{AirtimeLoad}
use Rattle.loads.specs.declared.airtime.AboveCeiling.{AboveCeiling}
use Rattle.loads.specs.Digits.{level}
use Rattle.loads.proofs.airtime.AirtimeKind.add.Goals as goal

as_counts : (r : Result AirtimeLoad AboveCeiling) (b : Bool) (n : ℕ) (e : AboveCeiling) → result_map_both (λ x. x.rate) (λ e. e) r ≡ cond b (Ok n) (Err e)
    → option_map (λ x. x.rate ∷ []) (result_ok r) ≡ cond (b && true) (Some (n ∷ [])) None
as_counts (Ok x) true n a e = cc
as_counts (Ok x) false n a e = cc
as_counts (Err f) true n a e = cc
as_counts (Err f) false n a e = refl

pub returns : goal.returns
unfolding level
returns c = ap (option_map _) c.ok.ensures.value ∙ as_counts c.try_from.result (nat_le (c.args.a.rate + c.args.b.rate) 1000000) _ _ c.try_from.ensures
