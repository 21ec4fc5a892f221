-- The copies that were tried, as they are told one after another.
use Rattle.std.specs.Prelude.{ℕ, List, [], ◌∷◌, ◌++◌, Bool, true, false, codes}
use Rattle.dr_formats.specs.Reports.{left_leaf_text}
use Rattle.dr_reading.specs.Left.{Tried}
use Rattle.dr_reading.specs.LeftText.{told_leaf}

-- a copy: the first, or one behind others
abbrev pub tried_text : Bool → Tried → List ℕ
tried_text true t = left_leaf_text (told_leaf t)
tried_text false t = codes "; " ++ left_leaf_text (told_leaf t)

-- copies, of which the first is the first of all, or behind others
abbrev pub leaves_text : Bool → List Tried → List ℕ
leaves_text first [] = []
leaves_text first (t ∷ ts) = tried_text first t ++ leaves_text false ts

-- whether none stands there behind these
abbrev pub still : Bool → List Tried → Bool
still first [] = first
still first (t ∷ ts) = false
