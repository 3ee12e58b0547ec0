-- The formats of the kinds are lawful.
use Rattle.std.specs.Prelude.{◌≡◌, ℕ, ◌+◌, ◌^◌, ◌<◌, ◌≤◌, true, cond, List, ◌++◌, length, take, drop, Some, None, Option, nat_lt, refl}
use Rattle.std.proofs.Common.{ap, ap₂, sym, subst, ◌∙◌, inl, inr, arith, lit≤, length-append, length-take, length-drop, take-append-drop}
use Rattle.std.proofs.lemmas.List.{take_at, drop_at}
use Rattle.std.proofs.ByRecursion.{All-append, All-take, All-drop}
use Rattle.std.proofs.lemmas.Bool.{cases_Bool, cond-true, cond-false, and_parts, and_from, lt-ltb, ltb-true}
use Rattle.loads.specs.Counts.{within}
use Rattle.loads.specs.Digits.{digits, number, level, to_bytes, from_bytes}
use Rattle.loads.specs.Formats.{Format, Counted, Bytes, Lawful, digits_format, airtime_format, crews_format, both, pair_format}
use Rattle.loads.specs.Joins.{within_append, within_length}
use Rattle.loads.specs.Places.{length_to_bytes, to_bytes_bytes, from_to_bytes, to_from_bytes, number_below, number_digits, digits_number, digits_within, level_length, level_under}

-- ---- digits of a word

module _ (mark ceiling n bytes : ℕ) where
  -- what decodes, does so to its digits
  word_decoded : (bs cs : List ℕ) → (digits_format mark ceiling n bytes).decode bs ≡ Some cs
      → (from_bytes bs < (ceiling + 1) ^ n) × (digits (ceiling + 1) n (from_bytes bs) ≡ cs)
  word_decoded bs cs e = elim (cases_Bool (nat_lt (from_bytes bs) ((ceiling + 1) ^ n))) [
    | inl h ↦ let q = cond-true _ (Some (digits (ceiling + 1) n (from_bytes bs))) None h in (ltb-true _ _ h, cc)
    | inr h ↦ let q = cond-false _ (Some (digits (ceiling + 1) n (from_bytes bs))) None h in let z : ◌≡◌ {A = ℕ} 0 1 = cc in absurd (omega arith)
  ]

  pub digits_lawful : (0 < mark) × (mark < 128) → 0 < bytes → (ceiling + 1) ^ n ≤ 256 ^ bytes → Lawful (digits_format mark ceiling n bytes)
  digits_lawful m s fit = record {
    marked = m;
    some_byte = s;
    sized = λ cs h. length_to_bytes bytes (number (ceiling + 1) cs);
    bytes = λ cs h. to_bytes_bytes bytes (number (ceiling + 1) cs);
    decodes = λ cs h.
        let b = number_below (ceiling + 1) n cs (level_length n ceiling cs h) (level_under n ceiling cs h) in
        let w = from_to_bytes bytes (number (ceiling + 1) cs) (omega arith) in
        ap (λ v. cond (nat_lt v ((ceiling + 1) ^ n)) (Some (digits (ceiling + 1) n v)) None) w
        ∙ (cond-true _ _ _ (lt-ltb _ _ b) ∙ ap Some (digits_number (ceiling + 1) n cs (level_length n ceiling cs h) (level_under n ceiling cs h)));
    counted = λ bs cs l h e. subst (λ ds. within ds (level n ceiling) ≡ true) (word_decoded bs cs e).1 (digits_within n ceiling (from_bytes bs));
    encodes = λ bs cs l h e.
        let q = word_decoded bs cs e in
        ap (λ ds. to_bytes bytes (number (ceiling + 1) ds)) (sym q.1)
        ∙ (ap (to_bytes bytes) (number_digits (ceiling + 1) n (from_bytes bs) (omega arith) q.0) ∙ to_from_bytes bytes bs l h);
  }

pub airtime_lawful : Lawful airtime_format
airtime_lawful = digits_lawful 1 1000000 1 4 (omega arith, omega arith) (omega arith) (lit≤ tt)

pub crews_lawful : Lawful crews_format
crews_lawful = digits_lawful 2 1 64 8 (omega arith, omega arith) (omega arith) (lit≤ tt)

-- ---- pairs

-- counts of both kinds are counts of each
pub both_counted : (f g : Format) (xs ys : List ℕ) → Counted f xs → Counted g ys → Counted (pair_format f g) (xs ++ ys)
both_counted f g xs ys p q = within_append xs ys f.ceilings g.ceilings (within_length xs f.ceilings p) ∙ and_from _ _ p q

pub joined_image : (f g : Format) (xs ys : List ℕ) → Counted f xs → (pair_format f g).image (xs ++ ys) ≡ f.image xs ++ g.image ys
joined_image f g xs ys p =
    let l = within_length xs f.ceilings p in
    ap₂ (λ s t. f.image s ++ g.image t) (take_at xs ys (length f.ceilings) l) (drop_at xs ys (length f.ceilings) l)

module _ (f g : Format) where
  -- counts of the pair, in their two parts
  record Parts (cs : List ℕ) : Type 0 where
    first : List ℕ
    second : List ℕ
    is : cs ≡ first ++ second
    first_counted : Counted f first
    second_counted : Counted g second

  parts : (cs : List ℕ) → Counted (pair_format f g) cs → Parts cs
  parts cs h =
      let n = length f.ceilings in
      let l : length cs ≡ n + length g.ceilings = within_length cs (f.ceilings ++ g.ceilings) h ∙ length-append f.ceilings g.ceilings in
      let k : length (take n cs) ≡ n = length-take n cs ∙ omega arith in
      let w = within_append (take n cs) (drop n cs) f.ceilings g.ceilings k in
      let q = and_parts _ _ (sym w ∙ (ap (λ ds. within ds (f.ceilings ++ g.ceilings)) (take-append-drop n cs) ∙ h)) in
      record { first = take n cs; second = drop n cs; is = sym (take-append-drop n cs); first_counted = q.0; second_counted = q.1 }

  record Halves (bs cs : List ℕ) : Type 0 where
    first : List ℕ
    second : List ℕ
    is : cs ≡ first ++ second
    first_decoded : f.decode (take f.size bs) ≡ Some first
    second_decoded : g.decode (drop f.size bs) ≡ Some second

  halves_of : (bs cs : List ℕ) (p q : Option (List ℕ)) → f.decode (take f.size bs) ≡ p → g.decode (drop f.size bs) ≡ q → both p q ≡ Some cs → Halves bs cs
  halves_of bs cs None q d e h = let z : ◌≡◌ {A = ℕ} 0 1 = cc in absurd (omega arith)
  halves_of bs cs (Some xs) None d e h = let z : ◌≡◌ {A = ℕ} 0 1 = cc in absurd (omega arith)
  halves_of bs cs (Some xs) (Some ys) d e h = record { first = xs; second = ys; is = (cc); first_decoded = d; second_decoded = e }

  module _ (lf : Lawful f) (lg : Lawful g) where
    front : (bs : List ℕ) → length bs ≡ f.size + g.size → length (take f.size bs) ≡ f.size
    front bs l = length-take f.size bs ∙ omega arith

    back : (bs : List ℕ) → length bs ≡ f.size + g.size → length (drop f.size bs) ≡ g.size
    back bs l = length-drop f.size bs ∙ omega arith

    pub pair_lawful : Lawful (pair_format f g)
    pair_lawful = record {
      marked = (omega arith, omega arith);
      some_byte = omega (arith, lf.some_byte);
      sized = λ cs h.
          let p = parts cs h in
          ap (λ ds. length ((pair_format f g).image ds)) p.is
          ∙ (ap length (joined_image f g p.first p.second p.first_counted)
          ∙ (length-append (f.image p.first) (g.image p.second) ∙ ap₂ ◌+◌ (lf.sized p.first p.first_counted) (lg.sized p.second p.second_counted)));
      bytes = λ cs h.
          let p = parts cs h in
          subst Bytes (sym (ap (pair_format f g).image p.is ∙ joined_image f g p.first p.second p.first_counted))
          (All-append (λ b. b < 256) (f.image p.first) (g.image p.second) (lf.bytes p.first p.first_counted) (lg.bytes p.second p.second_counted));
      decodes = λ cs h.
          let p = parts cs h in
          let i = ap (pair_format f g).image p.is ∙ joined_image f g p.first p.second p.first_counted in
          let l = lf.sized p.first p.first_counted in
          let a = ap f.decode (take_at (f.image p.first) (g.image p.second) f.size l) ∙ lf.decodes p.first p.first_counted in
          let b = ap g.decode (drop_at (f.image p.first) (g.image p.second) f.size l) ∙ lg.decodes p.second p.second_counted in
          ap (pair_format f g).decode i ∙ (ap₂ both a b ∙ ap Some (sym p.is));
      counted = λ bs cs l h e.
          let p = halves_of bs cs _ _ refl refl e in
          subst (λ ds. Counted (pair_format f g) ds) (sym p.is)
          (both_counted f g p.first p.second
          (lf.counted (take f.size bs) p.first (front bs l) (All-take (λ b. b < 256) f.size bs h) p.first_decoded)
          (lg.counted (drop f.size bs) p.second (back bs l) (All-drop (λ b. b < 256) f.size bs h) p.second_decoded));
      encodes = λ bs cs l h e.
          let p = halves_of bs cs _ _ refl refl e in
          let c = lf.counted (take f.size bs) p.first (front bs l) (All-take (λ b. b < 256) f.size bs h) p.first_decoded in
          ap (pair_format f g).image p.is
          ∙ (joined_image f g p.first p.second c
          ∙ (ap₂ ◌++◌
          (lf.encodes (take f.size bs) p.first (front bs l) (All-take (λ b. b < 256) f.size bs h) p.first_decoded)
          (lg.encodes (drop f.size bs) p.second (back bs l) (All-drop (λ b. b < 256) f.size bs h) p.second_decoded)
          ∙ take-append-drop f.size bs));
    }
