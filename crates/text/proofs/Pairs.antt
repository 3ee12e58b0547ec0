-- Digits read pair by pair.
use Rattle.std.proofs.Common.{◌≡◌, ℕ, zero, suc, ◌*◌, ◌/◌, ◌%◌, ◌<◌, eqb, get_or, Bool, true, false, cond, ◌&&◌, List, [], ◌∷◌, length, map, slice_index, is_some, Some, None, Option, unwrap_or, refl, sym, ap, ◌∙◌, arith}
use Rattle.std.specs.List.{list_all}
use Rattle.std.specs.Simd.{first_chunks}
use Rattle.std.proofs.lemmas.Bool.{eqb-true, eqb-false}
use Rattle.std.proofs.lemmas.List.Sums.{AllPass-from_list_all}
use Rattle.text.specs.Hex.{pair_value, before_all, hex_bytes}

-- the byte that a pair writes, if it writes one
abbrev pub of_pair : List ℕ → Option ℕ
of_pair p = pair_value (slice_index p 0) (slice_index p 1)

abbrev pub is_written : List ℕ → Bool
is_written p = is_some (of_pair p)

-- the bytes that pairs write, where each writes one
abbrev pub bytes_of : List (List ℕ) → List ℕ
bytes_of ps = map (λ p. unwrap_or (of_pair p) 0) ps

-- one pair more in front
one_more : (b : Option ℕ) (t : Bool) (bs : List ℕ) → before_all b (cond t (Some bs) None) ≡ cond (is_some b && t) (Some (unwrap_or b 0 ∷ bs)) None
one_more None t bs = refl
one_more (Some b) true bs = refl
one_more (Some b) false bs = refl

pairs_read : (k : ℕ) (ds : List ℕ) → length ds ≡ k * 2 → hex_bytes ds ≡ cond (list_all is_written (first_chunks 2 k ds)) (Some (bytes_of (first_chunks 2 k ds))) None
pairs_read zero [] e = refl
pairs_read zero (d ∷ ds) e = absurd (omega arith)
pairs_read (suc k) [] e = absurd (omega arith)
pairs_read (suc k) (d ∷ []) e = absurd (omega arith)
pairs_read (suc k) (high ∷ (low ∷ ds)) e =
    let ps = first_chunks 2 k ds in
    ap (before_all (pair_value high low)) (pairs_read k ds (omega arith)) ∙ one_more (pair_value high low) (list_all is_written ps) (bytes_of ps)

none_more : (b : Option ℕ) (bs : Option (List ℕ)) → bs ≡ None → before_all b bs ≡ None
none_more None bs e = refl
none_more (Some b) bs e = ap (before_all (Some b)) e

odd_refused : (ds : List ℕ) → length ds % 2 ≡ 1 → hex_bytes ds ≡ None
odd_refused [] e = absurd (omega arith)
odd_refused (d ∷ []) e = refl
odd_refused (high ∷ (low ∷ ds)) e = none_more (pair_value high low) (hex_bytes ds) (odd_refused ds (omega arith))

-- ---- what a slice is cut into: pairs, and what is left over

pub read_even : (ds odd : List ℕ) (ps : List (List ℕ)) → ps ≡ first_chunks 2 (length ds / 2) ds → length odd ≡ length ds % 2 → eqb (length odd) 0 ≡ true → hex_bytes ds ≡ cond (list_all is_written ps) (Some (bytes_of ps)) None
read_even ds odd ps e l none =
    let even = eqb-true (length odd) 0 none in
    pairs_read (length ds / 2) ds (omega arith) ∙ ap (λ p. cond (list_all is_written p) (Some (bytes_of p)) None) (sym e)

pub refused_odd : (ds odd : List ℕ) → length odd ≡ length ds % 2 → eqb (length odd) 0 ≡ false → None ≡ hex_bytes ds
refused_odd ds odd l some = let n = eqb-false (length odd) 0 some in sym (odd_refused ds (omega arith))

-- each pair writes a byte, where all do
pub pair_written : (ps : List (List ℕ)) (i : ℕ) (d : List ℕ) (b : Option ℕ) → list_all is_written ps ≡ true → i < length ps → b ≡ of_pair (get_or ps i d) → is_some b ≡ true
pair_written ps i d b h lt e = ap is_some e ∙ AllPass-from_list_all is_written ps h i d lt
