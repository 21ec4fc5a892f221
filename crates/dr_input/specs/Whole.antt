-- The whole lines of bytes that were read.
use Rattle.std.specs.Prelude.{ℕ, List, [], ◌∷◌, ◌==◌, if◌then◌else◌}

-- a byte before whole lines; where none are behind it, it is of no whole line
abbrev pub before_whole : ℕ → List ℕ → List ℕ
before_whole b [] = []
before_whole b (c ∷ cs) = b ∷ c ∷ cs

-- the bytes up to the last LF, and that
abbrev pub whole_lines : List ℕ → List ℕ
whole_lines [] = []
whole_lines (b ∷ bs) = if b == 10 then b ∷ whole_lines bs else before_whole b (whole_lines bs)
