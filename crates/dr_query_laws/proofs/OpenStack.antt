-- What is open behind tokens, the last first: tokens read one by one, with no grammar. A text's tokens determine it.
use Rattle.std.specs.Prelude.{◌≡◌, List, [], ◌∷◌, ◌++◌, length, Bool, true, false, ◌&&◌, ◌||◌, nat_le}
use Rattle.std.proofs.Common.{refl, ap, ◌∙◌}
use Rattle.dr_meaning.specs.Tokens.{QueryToken, reserved, identifier, number, text, sign, true_word, false_word, not_word, and_word, or_word, where_word, open_parenthesis}
use Rattle.dr_meaning.specs.Tokens.{close_parenthesis, comma, star, plus_sign, minus_sign, equals, differs, less_than, less_or_equal, greater_than, greater_or_equal, PlacedToken}
use Rattle.dr_meaning.specs.Parse.{Nesting, parenthesized, negated, signed}

-- behind an operand its minus signs are closed; before AND, OR and ")" the NOTs are
abbrev pub ended : List Nesting → List Nesting
ended [] = []
ended (signed ∷ s) = ended s
ended (o ∷ s) = o ∷ s

abbrev pub joined : List Nesting → List Nesting
joined [] = []
joined (negated ∷ s) = joined s
joined (o ∷ s) = o ∷ s

abbrev pub without_top : List Nesting → List Nesting
without_top [] = []
without_top (o ∷ s) = s

-- whether an operand may begin next, and what is open
pub record State : Type 0 where
  pub expects : Bool
  pub opened : List Nesting

abbrev pub at : Bool → List Nesting → State
at b s = record { expects = b; opened = s }

-- behind one more token, where an operand may begin, and where none may
abbrev pub behind_token_of : Bool → List Nesting → QueryToken → State
behind_token_of true s (sign open_parenthesis) = at true (parenthesized ∷ s)
behind_token_of true s (sign minus_sign) = at true (signed ∷ s)
behind_token_of true s (sign star) = at false (ended s)
behind_token_of true s (reserved not_word) = at true (negated ∷ s)
behind_token_of true s (reserved true_word) = at false (ended s)
behind_token_of true s (reserved false_word) = at false (ended s)
behind_token_of true s (number n) = at false (ended s)
behind_token_of true s (text x) = at false (ended s)
behind_token_of true s (identifier n) = at false (ended s)
behind_token_of true s k = at true s
behind_token_of false s (sign close_parenthesis) = at false (ended (without_top (joined s)))
behind_token_of false s (sign comma) = at true []
behind_token_of false s (sign star) = at true s
behind_token_of false s (sign plus_sign) = at true s
behind_token_of false s (sign minus_sign) = at true s
behind_token_of false s (sign equals) = at true s
behind_token_of false s (sign differs) = at true s
behind_token_of false s (sign less_than) = at true s
behind_token_of false s (sign less_or_equal) = at true s
behind_token_of false s (sign greater_than) = at true s
behind_token_of false s (sign greater_or_equal) = at true s
behind_token_of false s (reserved and_word) = at true (joined s)
behind_token_of false s (reserved or_word) = at true (joined s)
behind_token_of false s (reserved where_word) = at true []
behind_token_of false s k = at false s

abbrev pub step : State → QueryToken → State
step x k = behind_token_of x.expects x.opened k

abbrev pub run : State → List PlacedToken → State
run x [] = x
run x (t ∷ ts) = run (step x t.token) ts

pub run_on : (x : State) (ts us : List PlacedToken) → run x (ts ++ us) ≡ run (run x ts) us
run_on x [] us = refl
run_on x (t ∷ ts) us = run_on (step x t.token) ts us

-- tokens behind others whose state is known
pub run_from : (x y : State) (ts us : List PlacedToken) → run x ts ≡ y → run x (ts ++ us) ≡ run y us
run_from x y ts us e = run_on x ts us ∙ ap (λ z. run z us) e

-- ---- how deep it gets

-- the tokens that open a nesting where an operand may begin
abbrev pub opens : QueryToken → Bool
opens (sign open_parenthesis) = true
opens (sign minus_sign) = true
opens (reserved not_word) = true
opens k = false

-- a token opens a nesting where 32 or more are open
abbrev pub overflows : State → QueryToken → Bool
overflows x k = x.expects && (opens k && nat_le 32 (length x.opened))

abbrev pub is_deep : State → List PlacedToken → Bool
is_deep x [] = false
is_deep x (t ∷ ts) = overflows x t.token || is_deep (step x t.token) ts

or_more : (a b c : Bool) → (a || (b || c)) ≡ ((a || b) || c)
or_more true b c = refl
or_more false b c = refl

pub deep_on : (x : State) (ts us : List PlacedToken) → is_deep x (ts ++ us) ≡ (is_deep x ts || is_deep (run x ts) us)
deep_on x [] us = refl
deep_on x (t ∷ ts) us = ap (λ b. overflows x t.token || b) (deep_on (step x t.token) ts us) ∙ or_more (overflows x t.token) (is_deep (step x t.token) ts) (is_deep (run (step x t.token) ts) us)

pub neither : (a b : Bool) → (a || b) ≡ false → (a ≡ false) × (b ≡ false)
neither true b e = absurd (cc e)
neither false b e = (refl, e)

-- ---- what is ended stays so

pub ended_twice : (s : List Nesting) → ended (ended s) ≡ ended s
ended_twice [] = refl
ended_twice (signed ∷ s) = ended_twice s
ended_twice (parenthesized ∷ s) = refl
ended_twice (negated ∷ s) = refl
