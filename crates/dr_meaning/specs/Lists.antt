-- Words on lists and texts that several definitions use.
use Rattle.std.specs.Prelude.{◌≡◌, ℕ, zero, suc, List, [], ◌∷◌, ◌++◌, Bool, true, false}

-- whether there is nothing
abbrev pub is_empty : List ℕ → Bool
is_empty [] = true
is_empty (b ∷ bs) = false

-- the second begins with the first
abbrev pub BeginsWith : List ℕ → List ℕ → Type 0
BeginsWith before now = (more : List ℕ) × (now ≡ before ++ more)

-- the nth of some texts, from 0; the empty text where there are no more than n
abbrev pub nth_text : List (List ℕ) → ℕ → List ℕ
nth_text [] i = []
nth_text (t ∷ ts) zero = t
nth_text (t ∷ ts) (suc i) = nth_text ts i

-- a byte before the first of some texts
abbrev pub onto_first : ℕ → List (List ℕ) → List (List ℕ)
onto_first b [] = (b ∷ []) ∷ []
onto_first b (t ∷ ts) = (b ∷ t) ∷ ts

-- a comma, where something stands before
abbrev pub comma_if : Bool → List ℕ
comma_if true = 44 ∷ []
comma_if false = []

-- parts separated by commas; where something stands before them, with a comma before the first too
abbrev pub separated : Bool → List (List ℕ) → List ℕ
separated behind [] = []
separated behind (p ∷ ps) = comma_if behind ++ (p ++ separated true ps)

-- the first answer; at the end no
abbrev pub first_answer : List Bool → Bool
first_answer [] = false
first_answer (b ∷ bs) = b
