-- Small hexadecimal digits, `0` to `9` and `a` to `f`, two to a byte.
use Rattle.std.specs.Prelude.{◌≡◌, ℕ, ◌+◌, ◌-◌, ◌*◌, ◌/◌, ◌%◌, ◌<◌, cond, ◌&&◌, List, [], ◌∷◌, Some, None, Option, nat_le, nat_lt}
use Rattle.std.specs.List.{AllByRecursion}

-- the value of the digit that a byte stands for, if it is one
abbrev pub hex_value : ℕ → Option ℕ
hex_value c = cond (nat_le 48 c && nat_le c 57) (Some (c - 48)) (cond (nat_le 97 c && nat_le c 102) (Some (c - 87)) None)

-- the byte of two digits' values, the high one first, if both are there
abbrev pub joined_value : Option ℕ → Option ℕ → Option ℕ
joined_value None low = None
joined_value (Some h) None = None
joined_value (Some h) (Some l) = Some (h * 16 + l)

-- the byte that two digits write
abbrev pub pair_value : ℕ → ℕ → Option ℕ
pair_value high low = joined_value (hex_value high) (hex_value low)

-- a byte before others, if all are there
abbrev pub before_all : Option ℕ → Option (List ℕ) → Option (List ℕ)
before_all None bs = None
before_all (Some b) None = None
before_all (Some b) (Some bs) = Some (b ∷ bs)

-- the bytes that digits write: none where a digit is left over or a byte is no digit
abbrev pub hex_bytes : List ℕ → Option (List ℕ)
hex_bytes [] = Some []
hex_bytes (high ∷ []) = None
hex_bytes (high ∷ (low ∷ ds)) = before_all (pair_value high low) (hex_bytes ds)

-- the digit that stands for a value below sixteen
abbrev pub hex_digit : ℕ → ℕ
hex_digit n = cond (nat_lt n 10) (48 + n) (87 + n)

-- the digits that write bytes, two for each
abbrev pub hex_text : List ℕ → List ℕ
hex_text [] = []
hex_text (b ∷ bs) = hex_digit (b / 16) ∷ (hex_digit (b % 16) ∷ hex_text bs)

-- What is written is read back, and what is read is written again.
pub record HexLaw : Type 0 where
  pub reads_back : (bs : List ℕ) → AllByRecursion (λ b. b < 256) bs → hex_bytes (hex_text bs) ≡ Some bs
  pub writes_back : (ds bs : List ℕ) → hex_bytes ds ≡ Some bs → (hex_text bs ≡ ds) × AllByRecursion (λ b. b < 256) bs
