-- Where the fault of a limit stands, and what an accepted query's text has at most.
use Rattle.std.specs.Prelude.{◌≡◌, ℕ, suc, List, [], ◌∷◌, ◌++◌, length, Bool, true, false, nat_le, if◌then◌else◌, Option, Ok, Err, ◌⊎◌}
use Rattle.dr_meaning.specs.Tokens.{QueryToken, reserved, sign, and_word, or_word, plus_sign, minus_sign, star, comma, PlacedToken, query_tokens}
use Rattle.dr_meaning.specs.Tokens.{select_word, from_word, group_word, by_word}
use Rattle.dr_meaning.specs.Syntax.{PathSyntax, ItemSyntax, ConditionSyntax, QuerySyntax}
use Rattle.dr_meaning.specs.Parse.{too_many, begins_item, begins_key, parse_query}
use Rattle.dr_meaning.specs.QueryGrammar.{word_at, sign_at, name_at, SpellsPath, SpellsItem, Separated, SpellsWhere}

-- whether a token is one of + - * AND OR
abbrev pub is_operator : QueryToken → Bool
is_operator (reserved and_word) = true
is_operator (reserved or_word) = true
is_operator (sign plus_sign) = true
is_operator (sign minus_sign) = true
is_operator (sign star) = true
is_operator t = false

-- how many of these tokens are one of + - * AND OR
abbrev pub operators_in : List PlacedToken → ℕ
operators_in [] = 0
operators_in (t ∷ ts) = if is_operator t.token then suc (operators_in ts) else operators_in ts

-- the tokens of a query up to where an item begins: SELECT, and so many items with a comma behind each
pub data BeforeItem : ℕ → List PlacedToken → Type 0 where
  before_first_item : (h : ℕ) → BeforeItem 0 (word_at h select_word ∷ [])
  before_further_item : (h i : ℕ) (ts : List PlacedToken) (xs : List ItemSyntax) → Separated ItemSyntax SpellsItem ts xs
      → BeforeItem (length xs) (word_at h select_word ∷ (ts ++ sign_at i comma ∷ []))

-- SELECT item {"," item} FROM name [WHERE expr] GROUP BY
pub data BeforeKeys : List PlacedToken → Type 0 where
  before_keys : (h i j k l : ℕ) (n : List ℕ) (ts us : List PlacedToken) (xs : List ItemSyntax) (c : Option ConditionSyntax)
      → Separated ItemSyntax SpellsItem ts xs → SpellsWhere us c
      → BeforeKeys (word_at h select_word ∷ (ts ++ word_at i from_word ∷ name_at j n ∷ (us ++ word_at k group_word ∷ word_at l by_word ∷ [])))

-- the tokens of a query up to where a key begins: those up to GROUP BY, and so many keys with a comma behind each
pub data BeforeKey : ℕ → List PlacedToken → Type 0 where
  before_first_key : (front : List PlacedToken) → BeforeKeys front → BeforeKey 0 front
  before_further_key : (i : ℕ) (front ts : List PlacedToken) (ks : List PathSyntax) → BeforeKeys front → Separated PathSyntax SpellsPath ts ks
      → BeforeKey (length ks) (front ++ (ts ++ sign_at i comma ∷ []))

-- a token behind these is the 513th operator
abbrev pub IsExtraOperator : List PlacedToken → PlacedToken → Type 0
IsExtraOperator before t = (is_operator t.token ≡ true) × (operators_in before ≡ 512)

-- a token behind these begins the 257th item
abbrev pub BeginsExtraItem : List PlacedToken → PlacedToken → Type 0
BeginsExtraItem before t = (begins_item t.token ≡ true) × BeforeItem 256 before

-- a token behind these begins the 257th key
abbrev pub BeginsExtraKey : List PlacedToken → PlacedToken → Type 0
BeginsExtraKey before t = (begins_key t.token ≡ true) × BeforeKey 256 before

-- a token at place i of a text is the 513th operator, or begins the 257th item, or the 257th key
abbrev pub TooManyStandsAt : List PlacedToken → ℕ → Type 0
TooManyStandsAt all i = (before : List PlacedToken) × (t : PlacedToken) × (rest : List PlacedToken) × (all ≡ before ++ t ∷ rest) × (t.place ≡ i)
    × (IsExtraOperator before t ⊎ BeginsExtraItem before t ⊎ BeginsExtraKey before t)

-- TooMany stands at such a token
abbrev pub TooManyStandsAtItsToken : Type 0
TooManyStandsAtItsToken = (bytes : List ℕ) (i : ℕ) → parse_query bytes ≡ Err (record { place = i; problem = too_many })
    → TooManyStandsAt (query_tokens bytes) i

-- an accepted text has at most 512 tokens among + - * AND OR
abbrev pub AcceptedHasFewOperators : Type 0
AcceptedHasFewOperators = (bytes : List ℕ) (q : QuerySyntax) → parse_query bytes ≡ Ok q → nat_le (operators_in (query_tokens bytes)) 512 ≡ true

-- an accepted query has at most 256 items
abbrev pub AcceptedHasFewItems : Type 0
AcceptedHasFewItems = (bytes : List ℕ) (q : QuerySyntax) → parse_query bytes ≡ Ok q → nat_le (length q.items) 256 ≡ true

-- and at most 256 keys
abbrev pub AcceptedHasFewKeys : Type 0
AcceptedHasFewKeys = (bytes : List ℕ) (q : QuerySyntax) → parse_query bytes ≡ Ok q → nat_le (length q.keys) 256 ≡ true
