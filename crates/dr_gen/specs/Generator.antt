-- Made records: that of a number x, its line, and the lines of numbers that follow one another.
use Rattle.std.specs.Prelude.{ℕ, zero, suc, ◌+◌, ◌*◌, ◌%◌, List, [], ◌++◌, Bool, true, false, not, ◌==◌, pos, codes, decimal}
use Rattle.dr_meaning.specs.Record.{int_value, text_value, Node, no_slots, slot, Instances, no_instances, instance, single, Instance, atom, inner}
use Rattle.dr_meaning.specs.Print.{record_text}
use Rattle.dr_gen.specs.Document.{document_fields}

abbrev pub is_even : ℕ → Bool
is_even n = n % 2 == 0

abbrev pub number : ℕ → Instance
number n = atom (int_value (pos n))

-- a text that ends in a number
abbrev pub numbered : List ℕ → ℕ → Instance
numbered t n = atom (text_value (t ++ decimal n))

-- an instance, where it is there
abbrev pub given : Bool → Instance → Instances
given true x = single x
given false x = no_instances

-- of instances with numbers, so many from this number on
abbrev pub several_from : ℕ → ℕ → (ℕ → Instance) → Instances
several_from j zero f = no_instances
several_from j (suc n) f = instance (f j) (several_from (suc j) n f)

-- so many, numbered from 0
abbrev pub several : ℕ → (ℕ → Instance) → Instances
several n f = several_from 0 n f

-- Language k of Name j
abbrev pub language : ℕ → ℕ → ℕ → Instance
language x j k = inner (
    slot (single (numbered (codes "c") ((x + j + k) % 100)))
    (slot (given (is_even (x + j + k)) (numbered (codes "n") ((x + k) % 10))) no_slots))

-- Name j
abbrev pub name : ℕ → ℕ → Instance
name x j = inner (
    slot (several ((x + j) % 3) (language x j))
    (slot (given (not (is_even (x + j))) (numbered (codes "http://u/") (x + j))) no_slots))

abbrev pub links : ℕ → Instance
links x = inner (
    slot (several (x % 4) (λ j. number (x + 1 + j)))
    (slot (several (x % 5) (λ j. number (10 * x + j))) no_slots))

-- the record of x
unfoldable pub record_of : ℕ → Node
record_of x =
    slot (single (number x))
    (slot (given (not (x % 3 == 0)) (links x))
    (slot (several (x % 4) (name x)) no_slots))

-- its line, with the LF
unfoldable pub line_of : ℕ → List ℕ
line_of x = record_text document_fields (record_of x)

-- the lines of so many numbers, from x on
abbrev pub lines_from : ℕ → ℕ → List ℕ
lines_from x zero = []
lines_from x (suc n) = line_of x ++ lines_from (suc x) n
