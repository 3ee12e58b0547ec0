-- Digits in any base: how many, how large, and that digits and numbers tell each other. Bytes are digits in base 256.
use Rattle.std.specs.Prelude.{◌≡◌, ℕ, zero, suc, ◌+◌, ◌-◌, ◌*◌, ◌/◌, ◌%◌, ◌^◌, ◌<◌, true, List, [], ◌∷◌, reverse, length, replicate, nat_le, refl}
use Rattle.std.proofs.Common.{ap, ap₂, sym, subst, ◌∙◌, arith, pow-suc, mod-eq_of_lt}
use Rattle.std.proofs.Math.Nat.{pow-zero, pow-succ', zero-mod, zero-div, div-div-eq-div-mul}
use Rattle.std.specs.List.{AllByRecursion}
use Rattle.std.proofs.lemmas.List.{reverse-reverse, get_or-reverse, length-reverse}
use Rattle.std.proofs.ByRecursion.{All-get_or, All-from_get_or}
use Rattle.std.proofs.lemmas.Nat.{div-add-mod', div_below, mod_below, mod-mul-add, div-mul-add, mul-add-lt}
use Rattle.std.proofs.lemmas.Bool.{le-leb, leb-true, and_parts, and_from, false≢true}
use Rattle.loads.specs.Counts.{within}
use Rattle.loads.specs.Digits.{digits, number, level, to_bytes, from_bytes}
use Rattle.loads.specs.Formats.{Bytes}

pub length_digits : (b n w : ℕ) → length (digits b n w) ≡ n
unfolding digits
length_digits b zero w = refl
length_digits b (suc n) w = ap suc (length_digits b n (w / b))

pub length_level : (n c : ℕ) → length (level n c) ≡ n
unfolding level
length_level zero c = refl
length_level (suc n) c = ap suc (length_level n c)

pub digits_under : (b n w : ℕ) → 0 < b → AllByRecursion (λ d. d < b) (digits b n w)
unfolding digits
digits_under b zero w p = tt
digits_under b (suc n) w p = (mod_below w b p, digits_under b n (w / b) p)

pub digits_zero : (b n : ℕ) → digits b n 0 ≡ replicate n 0
unfolding digits
digits_zero b zero = refl
digits_zero b (suc n) = ap₂ ◌∷◌ (zero-mod b) (ap (digits b n) (zero-div b) ∙ digits_zero b n)

pub number_digits : (b n w : ℕ) → 0 < b → w < b ^ n → number b (digits b n w) ≡ w
unfolding digits number
number_digits b zero w p h = omega (arith, pow-zero b)
number_digits b (suc n) w p h =
    let rest = number_digits b n (w / b) p (div_below w b (b ^ n) p (rw (← pow-suc) h)) in
    ap (λ q. q * b + w % b) rest ∙ div-add-mod' w b

pub digits_number : (b n : ℕ) (ds : List ℕ) → length ds ≡ n → AllByRecursion (λ d. d < b) ds → digits b n (number b ds) ≡ ds
unfolding digits number
digits_number b zero [] e h = refl
digits_number b (suc n) [] e h = absurd (omega arith)
digits_number b zero (d ∷ ds) e h = absurd (omega arith)
digits_number b (suc n) (d ∷ ds) e h =
    ap₂ ◌∷◌
    (mod-mul-add (number b ds) b d h.0)
    (ap (digits b n) (div-mul-add (number b ds) b d h.0) ∙ digits_number b n ds (omega arith) h.1)

pub number_below : (b n : ℕ) (ds : List ℕ) → length ds ≡ n → AllByRecursion (λ d. d < b) ds → number b ds < b ^ n
unfolding number
number_below b zero [] e h = omega (arith, pow-zero b)
number_below b (suc n) [] e h = absurd (omega arith)
number_below b zero (d ∷ ds) e h = absurd (omega arith)
number_below b (suc n) (d ∷ ds) e h =
    rw (pow-succ' b n) (mul-add-lt (number b ds) b d (b ^ n) (number_below b n ds (omega arith) h.1) h.0)

pub digits_tell : (b n v w : ℕ) → 0 < b → v < b ^ n → w < b ^ n → digits b n v ≡ digits b n w → v ≡ w
digits_tell b n v w p h k e = sym (number_digits b n v p h) ∙ (ap (number b) e ∙ number_digits b n w p k)

-- counts within a level are digits in the base above it
pub level_length : (n c : ℕ) (cs : List ℕ) → within cs (level n c) ≡ true → length cs ≡ n
unfolding level
level_length zero c [] h = refl
level_length zero c (d ∷ ds) h = absurd (false≢true h)
level_length (suc n) c [] h = absurd (false≢true h)
level_length (suc n) c (d ∷ ds) h = ap suc (level_length n c ds (and_parts (nat_le d c) (within ds (level n c)) h).1)

pub level_under : (n c : ℕ) (cs : List ℕ) → within cs (level n c) ≡ true → AllByRecursion (λ d. d < c + 1) cs
unfolding level
level_under n c [] h = tt
level_under zero c (d ∷ ds) h = absurd (false≢true h)
level_under (suc n) c (d ∷ ds) h =
    let p = and_parts (nat_le d c) (within ds (level n c)) h in
    let l = leb-true d c p.0 in
    (omega arith, level_under n c ds p.1)

pub within_level : (n c : ℕ) (cs : List ℕ) → length cs ≡ n → AllByRecursion (λ d. d < c + 1) cs → within cs (level n c) ≡ true
unfolding level
within_level zero c [] e h = refl
within_level zero c (d ∷ ds) e h = absurd (omega arith)
within_level (suc n) c [] e h = absurd (omega arith)
within_level (suc n) c (d ∷ ds) e h =
    let l = h.0 in
    and_from (nat_le d c) (within ds (level n c)) (le-leb d c (omega arith)) (within_level n c ds (omega arith) h.1)

pub digits_within : (n c w : ℕ) → within (digits (c + 1) n w) (level n c) ≡ true
digits_within n c w = within_level n c (digits (c + 1) n w) (length_digits (c + 1) n w) (digits_under (c + 1) n w (omega arith))

-- ---- bytes

all_reverse : (P : ℕ → Type 0) (xs : List ℕ) → AllByRecursion P xs → AllByRecursion P (reverse xs)
all_reverse P xs h =
    All-from_get_or P (reverse xs) 0 λ i l.
    let k : i < length xs = omega (arith, length-reverse xs) in
    subst P (sym (get_or-reverse xs i 0 k)) (All-get_or P xs (length xs - 1 - i) 0 (omega arith) h)

pub length_to_bytes : (n w : ℕ) → length (to_bytes n w) ≡ n
unfolding to_bytes
length_to_bytes n w = length-reverse (digits 256 n w) ∙ length_digits 256 n w

pub to_bytes_bytes : (n w : ℕ) → Bytes (to_bytes n w)
unfolding to_bytes
to_bytes_bytes n w = all_reverse (λ b. b < 256) (digits 256 n w) (digits_under 256 n w (omega arith))

pub from_to_bytes : (n w : ℕ) → w < 256 ^ n → from_bytes (to_bytes n w) ≡ w
unfolding to_bytes from_bytes
from_to_bytes n w h = ap (number 256) (reverse-reverse (digits 256 n w)) ∙ number_digits 256 n w (omega arith) h

pub to_from_bytes : (n : ℕ) (bs : List ℕ) → length bs ≡ n → Bytes bs → to_bytes n (from_bytes bs) ≡ bs
unfolding to_bytes from_bytes
to_from_bytes n bs e h =
    ap reverse (digits_number 256 n (reverse bs) (length-reverse bs ∙ e) (all_reverse (λ b. b < 256) bs h)) ∙ reverse-reverse bs

pub from_bytes_below : (n : ℕ) (bs : List ℕ) → length bs ≡ n → Bytes bs → from_bytes bs < 256 ^ n
unfolding from_bytes
from_bytes_below n bs e h = number_below 256 n (reverse bs) (length-reverse bs ∙ e) (all_reverse (λ b. b < 256) bs h)

-- what the words of 4 and 8 bytes are to the code
pub bytes_4 : (w : ℕ) → (w / 16777216 % 256) ∷ (w / 65536 % 256) ∷ (w / 256 % 256) ∷ (w % 256) ∷ [] ≡ to_bytes 4 w
unfolding to_bytes digits
bytes_4 w = simp div-div-eq-div-mul

pub word_4 : (a b c d : ℕ) → a * 16777216 + b * 65536 + c * 256 + d ≡ from_bytes (a ∷ b ∷ c ∷ d ∷ [])
unfolding from_bytes number
word_4 a b c d = omega arith

pub bytes_8 : (w : ℕ)
    → (w / 72057594037927936 % 256) ∷ (w / 281474976710656 % 256) ∷ (w / 1099511627776 % 256) ∷ (w / 4294967296 % 256) ∷ (w / 16777216 % 256) ∷ (w / 65536 % 256) ∷ (w / 256 % 256) ∷ (w % 256) ∷ []
    ≡ to_bytes 8 w
unfolding to_bytes digits
bytes_8 w = simp div-div-eq-div-mul

pub word_8 : (a b c d e f g h : ℕ)
    → a * 72057594037927936 + b * 281474976710656 + c * 1099511627776 + d * 4294967296 + e * 16777216 + f * 65536 + g * 256 + h
    ≡ from_bytes (a ∷ b ∷ c ∷ d ∷ e ∷ f ∷ g ∷ h ∷ [])
unfolding from_bytes number
word_8 a b c d e f g h = omega arith

-- ---- one digit

pub number_one : (b w : ℕ) → number b (w ∷ []) ≡ w
unfolding number
number_one b w = omega arith

pub digits_one : (b w : ℕ) → w < b → digits b 1 w ≡ w ∷ []
unfolding digits
digits_one b w h = ap (λ d. d ∷ []) (mod-eq_of_lt h)
