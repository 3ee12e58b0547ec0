-- How high an AVL tree can be. Assumes nothing.
use Rattle.std.specs.Prelude.{ℕ, zero, suc, ◌+◌}

-- the numbers of Fibonacci from a and b on
abbrev pub fib_from : ℕ → ℕ → ℕ → ℕ
fib_from a b zero = a
fib_from a b (suc n) = fib_from b (a + b) n

-- 0, 1, 1, 2, 3, 5, ..
abbrev pub fib : ℕ → ℕ
fib n = fib_from 0 1 n
