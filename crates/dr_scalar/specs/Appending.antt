-- A text written behind others.
use Rattle.std.specs.Prelude.{◌≡◌, ℕ, List, ◌++◌, Bool, true, false, Option, Some, None}
use Rattle.dr_meaning.specs.Record.{Value, text_value}

-- the value, a text, has been appended; or it is NULL, and it isn't said what has been appended
abbrev pub Appends : Option Value → List ℕ → List ℕ → Bool → Type 0
Appends v before after true = (text : List ℕ) × (v ≡ Some (text_value text)) × (after ≡ before ++ text)
Appends v before after false = v ≡ None

-- whether the value is NULL; else it is a text
abbrev pub IsNullOrText : Option Value → Bool → Type 0
IsNullOrText v true = v ≡ None
IsNullOrText v false = (text : List ℕ) × (v ≡ Some (text_value text))
