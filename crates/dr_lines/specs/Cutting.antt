-- What a cutter of lines holds, and what its answers say of the input.
use Rattle.std.specs.Prelude.{◌≡◌, ◌<◌, ◌-◌, true, ℕ, List, [], ◌∷◌, ◌++◌, length, take, drop, Bool, not, ◌==◌, Option, Some, None, ⊤, ◌⊎◌, ◌≤◌, option_map}
use Rattle.std.specs.List.{list_all}
use Rattle.dr_meaning.specs.Lines.{lines_of, longest_line}
use Rattle.dr_lines.specs.declared.cutter.Lines.{Lines}
use Rattle.dr_lines.specs.declared.cutter.LineFault.{LineFault}

-- the bytes read ahead
abbrev pub pending : Lines → List ℕ
pending l = take (l.to - l.from) (drop l.from l.buffer.items)

-- the line that was cut last
abbrev pub last_line : Lines → List ℕ
last_line l = l.line.items

-- the fault that it repeats
abbrev pub fault_of : Lines → Option LineFault
fault_of l = l.stopped

-- no byte is an LF
abbrev pub no_lf : List ℕ → Bool
no_lf bytes = list_all (λ b. not (b == 10)) bytes

-- what is left of the input: the bytes read ahead, and what the source has left, where it tells
abbrev pub ahead : List ℕ → Option (List ℕ) → Option (List ℕ)
ahead bytes left = option_map (λ rest. bytes ++ rest) left

abbrev pub rest_of : Lines → Option (List ℕ) → Option (List ℕ)
rest_of l left = ahead (pending l) left

-- this was the first line of what was left, and the others are those of what is left now; nothing is said of a source that doesn't tell
abbrev pub CutsLine : Option (List ℕ) → List ℕ → Option (List ℕ) → Type 0
CutsLine None line now = ⊤
CutsLine (Some all) line None = ⊥
CutsLine (Some all) line (Some rest) = lines_of all ≡ line ∷ lines_of rest

-- what was left is this line, its LF and what is left now, or this line alone, and the input ends with it; nothing is said of a source that doesn't tell
abbrev pub CutsBytes : Option (List ℕ) → List ℕ → Option (List ℕ) → Type 0
CutsBytes None line now = ⊤
CutsBytes (Some all) line None = ⊥
CutsBytes (Some all) line (Some rest) = (no_lf line ≡ true) × ((all ≡ line ++ 10 ∷ rest) ⊎ ((all ≡ line) × (rest ≡ [])))

-- what was read of what was left has no LF and isn't longer than a line may be; nothing is said of a source that doesn't tell
abbrev pub BeginsLine : Option (List ℕ) → Option (List ℕ) → Type 0
BeginsLine None now = ⊤
BeginsLine (Some all) None = ⊥
BeginsLine (Some all) (Some rest) = (begun : List ℕ) × (all ≡ begun ++ rest) × (no_lf begun ≡ true) × (length begun ≤ longest_line)

-- nothing was left, nor is
abbrev pub IsEnd : Option (List ℕ) → Option (List ℕ) → Type 0
IsEnd None now = ⊤
IsEnd (Some all) now = (all ≡ []) × (now ≡ Some [])

-- the first line of what was left is longer than a line may be
abbrev pub IsTooLong : Option (List ℕ) → Type 0
IsTooLong None = ⊤
IsTooLong (Some all) = (line : List ℕ) × (others : List (List ℕ)) × (lines_of all ≡ line ∷ others) × (longest_line < length line)

-- what was left is what this says is left now; nothing is said of a source that doesn't tell
abbrev pub Keeps : Option (List ℕ) → Option (List ℕ) → Type 0
Keeps None now = ⊤
Keeps (Some all) now = now ≡ Some all
