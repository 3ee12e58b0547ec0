-- A number as its digits in a base, the lowest first, and as bytes, the highest first.
use Rattle.std.specs.Prelude.{ℕ, zero, suc, ◌+◌, ◌*◌, ◌/◌, ◌%◌, List, [], ◌∷◌, reverse}

-- the n lowest digits of a number
unfoldable pub digits : ℕ → ℕ → ℕ → List ℕ
digits base zero w = []
digits base (suc n) w = w % base ∷ digits base n (w / base)

-- the number that digits write
unfoldable pub number : ℕ → List ℕ → ℕ
number base [] = 0
number base (d ∷ ds) = number base ds * base + d

-- n times the same count
unfoldable pub level : ℕ → ℕ → List ℕ
level zero c = []
level (suc n) c = c ∷ level n c

-- the n lowest bytes of a number, the highest of them first
unfoldable pub to_bytes : ℕ → ℕ → List ℕ
to_bytes n w = reverse (digits 256 n w)

-- the number that bytes write, the highest first
unfoldable pub from_bytes : List ℕ → ℕ
from_bytes bs = number 256 (reverse bs)
