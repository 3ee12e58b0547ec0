-- Where lines and words end, and the lines of an input.
use Rattle.std.specs.Prelude.{ℕ, ◌+◌, cond, List, [], ◌∷◌, length, drop, Some, None, Option, ◌==◌, nat_lt}
use Rattle.text.specs.declared.lines.Lines.{Lines}

-- how many bytes stand before the first that is b, or how many there are
abbrev pub before : ℕ → List ℕ → ℕ
before b [] = 0
before b (c ∷ cs) = cond (c == b) 0 (1 + before b cs)

-- what follows the first byte that is b, if there is one
abbrev pub after : ℕ → List ℕ → Option (List ℕ)
after b bs = cond (nat_lt (before b bs) (length bs)) (Some (drop (before b bs + 1) bs)) None

-- the bytes before the first line feed are the first line
abbrev pub line_end : List ℕ → ℕ
line_end bs = before 10 bs

-- the next line begins after the line feed, or at the end where there is none
abbrev pub next_line : List ℕ → ℕ
next_line bs = cond (nat_lt (line_end bs) (length bs)) (line_end bs + 1) (length bs)

-- the bytes before the first space are the first word
abbrev pub word_end : List ℕ → ℕ
word_end bs = before 32 bs

-- what follows the space after the first word, if there is one
abbrev pub after_word : List ℕ → Option (List ℕ)
after_word bs = after 32 bs

-- a byte before the first line
abbrev pub lead : ℕ → List (List ℕ) → List (List ℕ)
lead b [] = (b ∷ []) ∷ []
lead b (l ∷ ls) = (b ∷ l) ∷ ls

-- the lines of an input: each ends at a line feed, which the last may lack
abbrev pub lines_of : List ℕ → List (List ℕ)
lines_of [] = []
lines_of (b ∷ bs) = cond (b == 10) ([] ∷ lines_of bs) (lead b (lines_of bs))

-- the lines that are still to come
abbrev pub lines_left : Lines → List (List ℕ)
lines_left s = lines_of s.rest.now
