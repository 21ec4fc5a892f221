-- The grammar of queries and parse_query: what is accepted is spelled, with one tree; what is spelled is accepted within the limits.
use Rattle.std.specs.Prelude.{◌≡◌, ℕ, List, [], ◌∷◌, ◌++◌, Ok, Err, ◌⊎◌}
use Rattle.dr_meaning.specs.Tokens.{PlacedToken, query_tokens}
use Rattle.dr_meaning.specs.Syntax.{QuerySyntax}
use Rattle.dr_meaning.specs.Parse.{QueryProblem, too_long, syntax, too_deep, too_many, QueryFault, parse_query}
use Rattle.dr_meaning.specs.QueryGrammar.{SpellsQuery, BeginsQuery}

-- the tokens of an accepted text spell its syntax tree
abbrev pub AcceptedIsSpelled : Type 0
AcceptedIsSpelled = (bytes : List ℕ) (q : QuerySyntax) → parse_query bytes ≡ Ok q → SpellsQuery (query_tokens bytes) q

-- and no other tree
abbrev pub OneTree : Type 0
OneTree = (bytes : List ℕ) (q r : QuerySyntax) → parse_query bytes ≡ Ok q → SpellsQuery (query_tokens bytes) r → r ≡ q

-- the problems of limits: any but Syntax
abbrev pub IsLimit : QueryProblem → Type 0
IsLimit too_long = Unit {0}
IsLimit syntax = ⊥
IsLimit too_deep = Unit {0}
IsLimit too_many = Unit {0}

-- a text whose tokens spell a tree is accepted with it, or refused for a limit
abbrev pub SpelledIsAccepted : Type 0
SpelledIsAccepted = (bytes : List ℕ) (q : QuerySyntax) → SpellsQuery (query_tokens bytes) q
    → (parse_query bytes ≡ Ok q) ⊎ ((f : QueryFault) × (parse_query bytes ≡ Err f) × IsLimit f.problem)

-- a text with a fault of syntax is spelled by no tree
abbrev pub SyntaxFaultIsNoQuery : Type 0
SyntaxFaultIsNoQuery = (bytes : List ℕ) (i : ℕ) (q : QuerySyntax) → parse_query bytes ≡ Err (record { place = i; problem = syntax })
    → SpellsQuery (query_tokens bytes) q → ⊥

-- no query's tokens begin with those before a token that is a fault of syntax and with it
abbrev pub SyntaxFaultIsDeadEnd : Type 0
SyntaxFaultIsDeadEnd = (bytes : List ℕ) (before rest : List PlacedToken) (t : PlacedToken) → query_tokens bytes ≡ before ++ t ∷ rest
    → parse_query bytes ≡ Err (record { place = t.place; problem = syntax }) → BeginsQuery (before ++ t ∷ []) → ⊥
