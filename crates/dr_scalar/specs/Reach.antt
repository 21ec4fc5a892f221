-- Matching a text with a pattern up to the pattern's next `%`.
use Rattle.std.specs.Prelude.{ℕ, List, [], ◌∷◌, chars, ◌==◌, ◌||◌, if◌then◌else◌}
use Rattle.dr_scalar.specs.declared.like.Halt.{Halt}

-- what comes of it: the whole text matches; the text matches no more; or a `%`, with the pattern behind it and the text that is left
pub data Reach : Type 0 where
  ended : Reach
  stopped : Reach
  open_end : List ℕ → List ℕ → Reach

-- at the end of the pattern
abbrev pub at_end : List ℕ → Reach
at_end [] = ended
at_end (c ∷ cs) = stopped

-- one character of the text, any or the wanted one
abbrev pub past_one : ℕ → (List ℕ → Reach) → List ℕ → Reach
past_one p f [] = stopped
past_one p f (c ∷ cs) = if p == 95 || p == c then f cs else stopped

-- how far a pattern, as characters, leads in a text
abbrev pub reach : List ℕ → List ℕ → Reach
reach [] = at_end
reach (p ∷ ps) = λ text. if p == 37 then open_end ps text else past_one p (reach ps) text

-- the first of two that hasn't stopped
abbrev pub else_reach : Reach → Reach → Reach
else_reach ended other = ended
else_reach stopped other = other
else_reach (open_end pattern text) other = open_end pattern text

-- how far it leads in the text, or in the longest text that ends it and in which it leads on
abbrev pub first_reach : List ℕ → List ℕ → Reach
first_reach pattern [] = reach pattern []
first_reach pattern (c ∷ cs) = else_reach (reach pattern (c ∷ cs)) (first_reach pattern cs)

-- the pattern's characters before its first `%` or `_`
abbrev pub literal_front : List ℕ → List ℕ
literal_front [] = []
literal_front (p ∷ ps) = if p == 37 || p == 95 then [] else p ∷ literal_front ps

-- what the code tells of it
abbrev pub halt_view : Halt → Reach
halt_view Halt.End = ended
halt_view Halt.Apart = stopped
halt_view (Halt.Percent pattern text) = open_end (chars pattern.now) (chars text.now)
