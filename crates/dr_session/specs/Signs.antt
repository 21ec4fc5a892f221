-- The sign that a line begins with.
use Rattle.std.specs.Prelude.{◌≡◌, ◌≤◌, ℕ, List, [], ◌∷◌, drop, length, Err}
use Rattle.dr_meaning.specs.Schema.{Schema}
use Rattle.dr_sub_meaning.specs.Session.{Session, no_command, commanded}
use Rattle.dr_session.specs.declared.sign.Sign.{Sign}

-- the line begins with this byte
abbrev pub Begins : ℕ → List ℕ → Type 0
Begins b line = (1 ≤ length line) × (line ≡ b ∷ drop 1 line)

abbrev pub IsSign : List ℕ → Sign → Type 0
IsSign line Sign.Keep = Begins 43 line
IsSign line Sign.Ask = Begins 63 line
IsSign line Sign.Publish = line ≡ 46 ∷ []
IsSign line Sign.Nothing = (s : Schema) (w : Session) → commanded s w line ≡ Err no_command
