-- What stands before the fault of a query text.
use Rattle.std.specs.Prelude.{◌≡◌, ◌⊎◌, ℕ, List, [], ◌∷◌, ◌++◌, length, true, nat_le, nat_lt, Err}
use Rattle.dr_meaning.specs.Tokens.{PlacedToken, query_tokens}
use Rattle.dr_meaning.specs.Parse.{QueryProblem, too_long, syntax, too_deep, too_many, QueryFault, first_place, parse_query}
use Rattle.dr_meaning.specs.QueryGrammar.{BeginsQuery}
use Rattle.dr_query_laws.specs.LimitLaws.{operators_in, BeginsExtraItem, BeginsExtraKey}
use Rattle.dr_query_laws.specs.NestingLaws.{OpensInQuery}

-- the problems that stand at a token, or at the end
abbrev pub IsAtToken : QueryProblem → Type 0
IsAtToken too_long = ⊥
IsAtToken syntax = Unit {0}
IsAtToken too_deep = Unit {0}
IsAtToken too_many = Unit {0}

-- the tokens before a fault begin a query; the fault stands at the next token, or at the text's end where there is none
abbrev pub TokensBeforeFaultGoOn : Type 0
TokensBeforeFaultGoOn = (bytes : List ℕ) (f : QueryFault) → IsAtToken f.problem → parse_query bytes ≡ Err f
    → (before : List PlacedToken) × (rest : List PlacedToken) × (query_tokens bytes ≡ before ++ rest) × (first_place (length bytes) rest ≡ f.place)
    × BeginsQuery before

-- the first of these tokens, where there is one, has this place
abbrev pub StandsFirst : ℕ → List PlacedToken → Type 0
StandsFirst i [] = Unit {0}
StandsFirst i (t ∷ ts) = t.place ≡ i

-- the tokens before a place: all, or those before a token that stands there
abbrev pub AreBefore : List PlacedToken → List PlacedToken → ℕ → Type 0
AreBefore before all i = (rest : List PlacedToken) × (all ≡ before ++ rest) × StandsFirst i rest

-- the tokens before a fault have at most 512 among + - * AND OR
abbrev pub FewOperatorsBefore : List PlacedToken → ℕ → Type 0
FewOperatorsBefore all i = (before : List PlacedToken) × AreBefore before all i × (nat_le (operators_in before) 512 ≡ true)

abbrev pub FewOperatorsBeforeFault : Type 0
FewOperatorsBeforeFault = (bytes : List ℕ) (f : QueryFault) → IsAtToken f.problem → parse_query bytes ≡ Err f → FewOperatorsBefore (query_tokens bytes) f.place

-- each of the tokens that opens a nesting stands where fewer than 32 are open
abbrev pub NestsLittle : List PlacedToken → Type 0
NestsLittle ts = (front more : List PlacedToken) (t : PlacedToken) (n : ℕ) → ts ≡ front ++ t ∷ more → OpensInQuery front t n → nat_lt n 32 ≡ true

abbrev pub LittleNestedBefore : List PlacedToken → ℕ → Type 0
LittleNestedBefore all i = (before : List PlacedToken) × AreBefore before all i × NestsLittle before

-- so it is with the tokens before a fault
abbrev pub LittleNestedBeforeFault : Type 0
LittleNestedBeforeFault = (bytes : List ℕ) (f : QueryFault) → IsAtToken f.problem → parse_query bytes ≡ Err f → LittleNestedBefore (query_tokens bytes) f.place

-- none of the tokens begins the 257th item, or the 257th key
abbrev pub HasFewElements : List PlacedToken → Type 0
HasFewElements ts = (front more : List PlacedToken) (t : PlacedToken) → ts ≡ front ++ t ∷ more → BeginsExtraItem front t ⊎ BeginsExtraKey front t → ⊥

abbrev pub FewElementsBefore : List PlacedToken → ℕ → Type 0
FewElementsBefore all i = (before : List PlacedToken) × AreBefore before all i × HasFewElements before

-- so it is with the tokens before a fault
abbrev pub FewElementsBeforeFault : Type 0
FewElementsBeforeFault = (bytes : List ℕ) (f : QueryFault) → IsAtToken f.problem → parse_query bytes ≡ Err f → FewElementsBefore (query_tokens bytes) f.place

-- the limits that a token passes
abbrev pub IsLimitAtToken : QueryProblem → Type 0
IsLimitAtToken too_long = ⊥
IsLimitAtToken syntax = ⊥
IsLimitAtToken too_deep = Unit {0}
IsLimitAtToken too_many = Unit {0}

-- a token that passes a limit could stand there: the tokens before it and it begin a query
abbrev pub LimitIsNoDeadEnd : Type 0
LimitIsNoDeadEnd = (bytes : List ℕ) (f : QueryFault) → IsLimitAtToken f.problem → parse_query bytes ≡ Err f
    → (before : List PlacedToken) × (t : PlacedToken) × (rest : List PlacedToken) × (query_tokens bytes ≡ before ++ t ∷ rest) × (t.place ≡ f.place)
    × BeginsQuery (before ++ t ∷ [])
