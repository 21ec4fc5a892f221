-- Tokens and the blanks between them are the text, each token the longest: of schema text and of query text.
use Rattle.std.specs.Prelude.{◌≡◌, ℕ, ◌+◌, ◌*◌, ◌-◌, ◌≤◌, ◌<◌, List, [], ◌∷◌, ◌++◌, length, Bool, true, false, not, ◌||◌, ◌==◌, ◌⊎◌, codes}
use Rattle.std.specs.Prelude.{if◌then◌else◌}
use Rattle.std.specs.List.{list_all, list_any}
use Rattle.dr_meaning.specs.Schema.{is_name, begins_name, continues_name}
use Rattle.dr_meaning.specs.SchemaText.{Token, name, open_brace, close_brace, semicolon, bad, Placed, is_blank, tokens_of}
use Rattle.dr_meaning.specs.Tokens.{Sign, comma, open_parenthesis, close_parenthesis, dot, star, plus_sign, minus_sign, equals, differs}
use Rattle.dr_meaning.specs.Tokens.{less_than, less_or_equal, greater_than, greater_or_equal, semicolon as end_sign, QueryToken, reserved, identifier}
use Rattle.dr_meaning.specs.Tokens.{number, text as text_token, sign, bad as bad_token, PlacedToken, name_token, greatest_number, is_digit, query_tokens}

-- whether these bytes begin with one that passes
abbrev pub begins_so : (ℕ → Bool) → List ℕ → Bool
begins_so p [] = false
begins_so p (b ∷ bs) = p b

-- a whole word, with the bytes behind it: a name that they don't go on with
abbrev pub IsWholeWord : List ℕ → List ℕ → Type 0
IsWholeWord bs behind = (is_name bs ≡ true) × (begins_so continues_name behind ≡ false)

-- ---- schema text

-- a byte that is no blank and begins no token
abbrev pub IsStrayByte : ℕ → Type 0
IsStrayByte b = (is_blank b || begins_name b || (b == 123) || (b == 125) || (b == 59)) ≡ false

-- a token's bytes, with the bytes behind them
abbrev pub IsToken : Token → List ℕ → List ℕ → Type 0
IsToken (name n) bs behind = (bs ≡ n) × IsWholeWord n behind
IsToken open_brace bs behind = bs ≡ 123 ∷ []
IsToken close_brace bs behind = bs ≡ 125 ∷ []
IsToken semicolon bs behind = bs ≡ 59 ∷ []
IsToken bad bs behind = (b : ℕ) × (bs ≡ b ∷ []) × IsStrayByte b

-- the tokens of a text that begins at a place: blanks, then a token, and so on; blanks at the end
abbrev pub AreTokens : ℕ → List ℕ → List Placed → Type 0
AreTokens i text [] = list_all is_blank text ≡ true
AreTokens i text (t ∷ ts) = (blanks : List ℕ) × (bs : List ℕ) × (behind : List ℕ) × (text ≡ blanks ++ (bs ++ behind)) × (list_all is_blank blanks ≡ true)
    × (t.place ≡ i + length blanks) × IsToken t.token bs behind × AreTokens (t.place + length bs) behind ts

-- a schema text is its tokens and blanks
abbrev pub TokensAreText : Type 0
TokensAreText = (text : List ℕ) → AreTokens 0 text (tokens_of text)

-- and of no other tokens
abbrev pub OneListOfTokens : Type 0
OneListOfTokens = (text : List ℕ) (ts : List Placed) → AreTokens 0 text ts → tokens_of text ≡ ts

-- ---- query text

-- the number that digits write behind those of n
abbrev pub digits_value : ℕ → List ℕ → ℕ
digits_value n [] = n
digits_value n (b ∷ bs) = digits_value (n * 10 + (b - 48)) bs

-- all the digits of a number, with the bytes behind them
abbrev pub AreDigitsOf : ℕ → List ℕ → List ℕ → Type 0
AreDigitsOf n bs behind = (0 < length bs) × (list_all is_digit bs ≡ true) × (digits_value 0 bs ≡ n) × (begins_so is_digit behind ≡ false)

-- a text with each single quote doubled
abbrev pub doubled : List ℕ → List ℕ
doubled [] = []
doubled (b ∷ bs) = if b == 39 then 39 ∷ 39 ∷ doubled bs else b ∷ doubled bs

-- bytes without a double quote
abbrev pub has_no_quote : List ℕ → Bool
has_no_quote w = list_all (λ b. not (b == 34)) w

-- `<` isn't followed by `=` or `>`, and `>` not by `=`
abbrev pub IsSign : Sign → List ℕ → List ℕ → Type 0
IsSign comma bs behind = bs ≡ 44 ∷ []
IsSign open_parenthesis bs behind = bs ≡ 40 ∷ []
IsSign close_parenthesis bs behind = bs ≡ 41 ∷ []
IsSign dot bs behind = bs ≡ 46 ∷ []
IsSign star bs behind = bs ≡ 42 ∷ []
IsSign plus_sign bs behind = bs ≡ 43 ∷ []
IsSign minus_sign bs behind = bs ≡ 45 ∷ []
IsSign equals bs behind = bs ≡ 61 ∷ []
IsSign differs bs behind = bs ≡ 60 ∷ 62 ∷ []
IsSign less_than bs behind = (bs ≡ 60 ∷ []) × (begins_so (λ b. (b == 61) || (b == 62)) behind ≡ false)
IsSign less_or_equal bs behind = bs ≡ 60 ∷ 61 ∷ []
IsSign greater_than bs behind = (bs ≡ 62 ∷ []) × (begins_so (λ b. b == 61) behind ≡ false)
IsSign greater_or_equal bs behind = bs ≡ 62 ∷ 61 ∷ []
IsSign end_sign bs behind = bs ≡ 59 ∷ []

-- a byte that is no blank and begins no token
abbrev pub IsStray : ℕ → Type 0
IsStray b = (is_blank b || begins_name b || is_digit b || (b == 34) || list_any (λ c. b == c) (codes "'<>,().*+-=;")) ≡ false

-- double quotes round what is no name
abbrev pub IsNoName : List ℕ → Type 0
IsNoName bs = (w : List ℕ) × (bs ≡ 34 ∷ (w ++ 34 ∷ [])) × (has_no_quote w ≡ true) × (is_name w ≡ false)

-- a double or a single quote that isn't closed by the end of the text
abbrev pub IsUnclosed : List ℕ → List ℕ → Type 0
IsUnclosed bs behind = (w : List ℕ) × (((bs ≡ 34 ∷ w) × (has_no_quote w ≡ true)) ⊎ (bs ≡ 39 ∷ doubled w)) × (behind ≡ [])

-- a token's bytes, with the bytes behind them
abbrev pub IsQueryToken : QueryToken → List ℕ → List ℕ → Type 0
IsQueryToken (reserved w) bs behind = IsWholeWord bs behind × (name_token bs ≡ reserved w)
IsQueryToken (identifier n) bs behind = ((bs ≡ n) × IsWholeWord n behind × (name_token n ≡ identifier n)) ⊎ ((bs ≡ 34 ∷ (n ++ 34 ∷ [])) × (is_name n ≡ true))
IsQueryToken (number n) bs behind = AreDigitsOf n bs behind × (n ≤ greatest_number)
IsQueryToken (text_token t) bs behind = (bs ≡ 39 ∷ (doubled t ++ 39 ∷ [])) × (begins_so (λ b. b == 39) behind ≡ false)
IsQueryToken (sign s) bs behind = IsSign s bs behind
IsQueryToken bad_token bs behind = ((b : ℕ) × (bs ≡ b ∷ []) × IsStray b) ⊎ (IsNoName bs ⊎ (IsUnclosed bs behind
    ⊎ ((n : ℕ) × AreDigitsOf n bs behind × (greatest_number < n))))

-- the tokens of a text that begins at a place: blanks, then a token, and so on; blanks at the end
abbrev pub AreQueryTokens : ℕ → List ℕ → List PlacedToken → Type 0
AreQueryTokens i text [] = list_all is_blank text ≡ true
AreQueryTokens i text (t ∷ ts) = (blanks : List ℕ) × (bs : List ℕ) × (behind : List ℕ) × (text ≡ blanks ++ (bs ++ behind)) × (list_all is_blank blanks ≡ true)
    × (t.place ≡ i + length blanks) × IsQueryToken t.token bs behind × AreQueryTokens (t.place + length bs) behind ts

-- a query text is its tokens and blanks
abbrev pub QueryTokensAreText : Type 0
QueryTokensAreText = (query : List ℕ) → AreQueryTokens 0 query (query_tokens query)

-- and of no other tokens
abbrev pub OneListOfQueryTokens : Type 0
OneListOfQueryTokens = (query : List ℕ) (ts : List PlacedToken) → AreQueryTokens 0 query ts → query_tokens query ≡ ts
