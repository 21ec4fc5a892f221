-- Bytes as texts of hexadecimal digits, for vectors in examples.
use Rattle.std.specs.Prelude.{◌≡◌, ℕ, ◌+◌, ◌*◌, ◌-◌, List, [], ◌∷◌, nat_lt, if◌then◌else◌, ◌==◌, codes, refl}

-- 0 to 9, A to F
abbrev pub digit : ℕ → ℕ
digit c = if nat_lt c 65 then c - 48 else c - 55

abbrev pub without_blanks : List ℕ → List ℕ
without_blanks [] = []
without_blanks (c ∷ cs) = if c == 32 then without_blanks cs else c ∷ without_blanks cs

-- two digits a byte
abbrev pub pairs : List ℕ → List ℕ
pairs [] = []
pairs (a ∷ []) = []
pairs (a ∷ b ∷ cs) = (16 * digit a + digit b) ∷ pairs cs

abbrev pub hex : List ℕ → List ℕ
hex digits = pairs (without_blanks digits)

pub an_example : hex (codes "00 09 0A F0 FF10") ≡ 0 ∷ 9 ∷ 10 ∷ 240 ∷ 255 ∷ 16 ∷ []
an_example = refl
