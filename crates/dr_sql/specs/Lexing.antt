-- Tokens at the front of bytes.
use Rattle.std.specs.Prelude.{◌≡◌, ℕ, ◌<◌, ◌≤◌, List, ◌∷◌, ◌++◌, Bool, false, ◌&&◌, ◌==◌, nat_le, if◌then◌else◌, Option, Some, None, length, take}
use Rattle.std.specs.Prelude.{drop}
use Rattle.dr_meaning.specs.Tokens.{greatest_number}
use Rattle.dr_meaning.specs.TokenLaws.{IsQueryToken, begins_so, doubled}
use Rattle.dr_sql.specs.TokenViews.{token_view}
use Rattle.dr_sql.specs.declared.token.Token.{Token}

abbrev pub is_capital : ℕ → Bool
is_capital b = nat_le 65 b && nat_le b 90

-- a number, where it isn't past the greatest
abbrev pub bounded : ℕ → Option ℕ
bounded n = if nat_le n greatest_number then Some n else None

-- the bytes begin with this token of so many bytes
abbrev pub BeginsWith : List ℕ → Token → ℕ → Type 0
BeginsWith bytes t n = (0 < n) × (n ≤ length bytes) × IsQueryToken (token_view t) (take n bytes) (drop n bytes)

-- the bytes write a text of so many bytes, each quote in it twice, and then a single quote that ends it
abbrev pub EndsText : List ℕ → ℕ → Type 0
EndsText bytes n = (w : List ℕ) × (behind : List ℕ) × (bytes ≡ doubled w ++ 39 ∷ behind) × (length (doubled w) ≡ n) × (begins_so (λ b. b == 39) behind ≡ false)

-- the bytes write a text and its end isn't there
abbrev pub NeverEnds : List ℕ → Type 0
NeverEnds bytes = (w : List ℕ) × (bytes ≡ doubled w)
