-- Digits that are written, and read back.
use Rattle.std.proofs.Common.{◌≡◌, ℕ, ◌+◌, ◌*◌, ◌/◌, ◌%◌, ◌<◌, ◌≤◌, List, [], ◌∷◌, ◌++◌, length, get_or, drop, is_some, Some, None, Option, sym, refl, ap, ◌∙◌, subst, arith}
use Rattle.std.specs.List.{AllByRecursion}
use Rattle.std.proofs.lemmas.List.{append-nil, append_assoc, at_drop_more, at_drop_all}
use Rattle.std.proofs.lemmas.Bool.{false≢true}
use Rattle.std.proofs.lemmas.Bool.Decides.{nat_tests}
use Rattle.text.specs.Hex.{hex_value, joined_value, pair_value, before_all, hex_bytes, hex_digit, hex_text, HexLaw}

-- the two digits of a byte are written, and the rest stays to be written
pub text_more : (bs ds out : List ℕ) (i : ℕ) → i < length bs → ds ≡ hex_text (get_or bs i 0 ∷ [])
    → ((out ++ (get_or ds 0 0 ∷ [])) ++ (get_or ds 1 0 ∷ [])) ++ hex_text (drop (i + 1) bs) ≡ out ++ hex_text (drop i bs)
text_more bs ds out i h e =
    append_assoc (out ++ (get_or ds 0 0 ∷ [])) (get_or ds 1 0 ∷ []) (hex_text (drop (i + 1) bs))
    ∙ append_assoc out (get_or ds 0 0 ∷ []) (get_or ds 1 0 ∷ hex_text (drop (i + 1) bs))
    ∙ ap (λ l. out ++ (get_or l 0 0 ∷ (get_or l 1 0 ∷ hex_text (drop (i + 1) bs)))) e
    ∙ sym (ap (λ l. out ++ l) (at_drop_more hex_text bs i 0 h))

pub text_all : (bs out : List ℕ) (i : ℕ) → length bs ≤ i → out ≡ out ++ hex_text (drop i bs)
text_all bs out i h = sym (append-nil out) ∙ sym (ap (λ l. out ++ l) (at_drop_all hex_text bs i h))

value_digit : (n : ℕ) → n < 16 → hex_value (hex_digit n) ≡ Some n
value_digit n h = grind (arith, nat_tests)

digit_value : (c v : ℕ) → hex_value c ≡ Some v → (hex_digit v ≡ c) × (v < 16)
digit_value c v e = grind (arith, nat_tests)

pair_written : (b : ℕ) → b < 256 → pair_value (hex_digit (b / 16)) (hex_digit (b % 16)) ≡ Some b
pair_written b h =
    let e : b / 16 * 16 + b % 16 ≡ b = omega arith in
    ap (λ o. joined_value o (hex_value (hex_digit (b % 16)))) (value_digit (b / 16) (omega arith))
    ∙ ap (joined_value (Some (b / 16))) (value_digit (b % 16) (omega arith))
    ∙ ap Some e

reads_back : (bs : List ℕ) → AllByRecursion (λ b. b < 256) bs → hex_bytes (hex_text bs) ≡ Some bs
reads_back [] h = refl
reads_back (b ∷ bs) h =
    ap (λ o. before_all o (hex_bytes (hex_text bs))) (pair_written b h.0)
    ∙ ap (before_all (Some b)) (reads_back bs h.1)

joined_parts : (high low b : ℕ) (p q : Option ℕ) → hex_value high ≡ p → hex_value low ≡ q → joined_value p q ≡ Some b
    → (hex_digit (b / 16) ≡ high) × (hex_digit (b % 16) ≡ low) × (b < 256)
joined_parts high low b None q e f j = absurd (false≢true (ap is_some j))
joined_parts high low b (Some x) None e f j = absurd (false≢true (ap is_some j))
joined_parts high low b (Some x) (Some y) e f j =
    let h = digit_value high x e in
    let l = digit_value low y f in
    let is : x * 16 + y ≡ b = cc in
    let upper : b / 16 ≡ x = omega arith in
    let lower : b % 16 ≡ y = omega arith in
    (ap hex_digit upper ∙ h.0, ap hex_digit lower ∙ l.0, omega arith)

before_parts : (p : Option ℕ) (o : Option (List ℕ)) (bs : List ℕ) → before_all p o ≡ Some bs
    → (b : ℕ) × (rest : List ℕ) × (p ≡ Some b) × (o ≡ Some rest) × (bs ≡ b ∷ rest)
before_parts None o bs e = absurd (false≢true (ap is_some e))
before_parts (Some b) None bs e = absurd (false≢true (ap is_some e))
before_parts (Some b) (Some rest) bs e = (b, rest, refl, refl, cc)

writes_back : (ds bs : List ℕ) → hex_bytes ds ≡ Some bs → (hex_text bs ≡ ds) × AllByRecursion (λ b. b < 256) bs
writes_back [] bs e =
    let is : bs ≡ [] = cc in
    (ap hex_text is, subst (λ l. AllByRecursion (λ b. b < 256) l) (sym is) tt)
writes_back (d ∷ []) bs e = absurd (false≢true (ap is_some e))
writes_back (high ∷ (low ∷ ds)) bs e =
    let parts = before_parts (pair_value high low) (hex_bytes ds) bs e in
    let b = parts.0 in
    let rest = parts.1 in
    let digits = joined_parts high low b (hex_value high) (hex_value low) refl refl parts.2 in
    let more = writes_back ds rest parts.3 in (
      ap hex_text parts.4
          ∙ ap (λ c. c ∷ (hex_digit (b % 16) ∷ hex_text rest)) digits.0
          ∙ ap (λ c. high ∷ (c ∷ hex_text rest)) digits.1
          ∙ ap (λ l. high ∷ (low ∷ l)) more.0,
      subst (λ l. AllByRecursion (λ x. x < 256) l) (sym parts.4) (digits.2, more.1),
    )

pub hex_law : HexLaw
hex_law = record { reads_back = reads_back; writes_back = writes_back }
