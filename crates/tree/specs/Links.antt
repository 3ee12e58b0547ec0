-- A slot or none, as one number. Assumes nothing.
use Rattle.std.specs.Prelude.{◌≡◌, ℕ, zero, suc, refl, Some, None, Option}

-- 0 is none, and any other number the slot before it
abbrev pub slot_of : ℕ → Option ℕ
slot_of zero = None
slot_of (suc k) = Some k

abbrev pub word_of : Option ℕ → ℕ
word_of None = 0
word_of (Some k) = suc k

pub word_of_slot : (n : ℕ) → word_of (slot_of n) ≡ n
word_of_slot zero = refl
word_of_slot (suc k) = refl
