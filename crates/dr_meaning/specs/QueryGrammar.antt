-- The grammar of the query language, as relations between tokens and syntax trees: a constructor for each way in which a production is spelled.
use Rattle.std.specs.Prelude.{◌≡◌, ℕ, List, [], ◌∷◌, ◌++◌, true, false, Option, Some, None}
use Rattle.dr_meaning.specs.Tokens.{Word, select_word, from_word, where_word, group_word, by_word, as_word, within_word, record_word, and_word, or_word}
use Rattle.dr_meaning.specs.Tokens.{not_word, like_word, contains_word, is_word, null_word, true_word, false_word, count_word, sum_word, min_word, max_word}
use Rattle.dr_meaning.specs.Tokens.{Sign, comma, open_parenthesis, close_parenthesis, dot, star, plus_sign, minus_sign, equals, differs, less_than}
use Rattle.dr_meaning.specs.Tokens.{less_or_equal, greater_than, greater_or_equal, semicolon, reserved, identifier, number, text, sign}
use Rattle.dr_meaning.specs.Tokens.{PlacedToken, placed}
use Rattle.dr_meaning.specs.Expression.{plus, minus, times, Comparison, equal, unequal, less, at_most, greater, at_least}
use Rattle.dr_meaning.specs.Query.{Aggregate, count, sum, least, greatest}
use Rattle.dr_meaning.specs.Syntax.{PathSyntax, ExpressionSyntax, number_literal, text_literal, truth_literal, path, negative, arithmetic}
use Rattle.dr_meaning.specs.Syntax.{comparison, like, contains, is_null, negation, conjunction, disjunction, whole_record, node, WithinSyntax}
use Rattle.dr_meaning.specs.Syntax.{TermSyntax, expression, count_rows, aggregate, ItemSyntax, ConditionSyntax, QuerySyntax}

-- a word, a sign, a name, a text at a place
abbrev pub word_at : ℕ → Word → PlacedToken
word_at i w = placed i (reserved w)

abbrev pub sign_at : ℕ → Sign → PlacedToken
sign_at i s = placed i (sign s)

abbrev pub name_at : ℕ → List ℕ → PlacedToken
name_at i n = placed i (identifier n)

abbrev pub text_at : ℕ → List ℕ → PlacedToken
text_at i t = placed i (text t)

-- the first of these tokens has this place
abbrev pub BeginsAt : ℕ → List PlacedToken → Type 0
BeginsAt i ts = (t : PlacedToken) × (us : List PlacedToken) × (ts ≡ t ∷ us) × (t.place ≡ i)

-- ---- path = name {"." name}

pub data SpellsNames : List PlacedToken → List (List ℕ) → Type 0 where
  first_name : (i : ℕ) (n : List ℕ) → SpellsNames (name_at i n ∷ []) (n ∷ [])
  further_name : (i j : ℕ) (ts : List PlacedToken) (ns : List (List ℕ)) (n : List ℕ) → SpellsNames ts ns
      → SpellsNames (ts ++ sign_at i dot ∷ name_at j n ∷ []) (ns ++ n ∷ [])

abbrev pub SpellsPath : List PlacedToken → PathSyntax → Type 0
SpellsPath ts p = BeginsAt p.place ts × SpellsNames ts p.names

-- ---- expressions

-- = <> < <= > >=
pub data IsComparison : Sign → Comparison → Type 0 where
  is_equal : IsComparison equals equal
  is_unequal : IsComparison differs unequal
  is_less : IsComparison less_than less
  is_at_most : IsComparison less_or_equal at_most
  is_greater : IsComparison greater_than greater
  is_at_least : IsComparison greater_or_equal at_least

mutual
  -- expr = and {OR and}
  pub data SpellsExpression : List PlacedToken → ExpressionSyntax → Type 0 where
    one_and : (ts : List PlacedToken) (e : ExpressionSyntax) → SpellsAnd ts e → SpellsExpression ts e
    or_and : (i : ℕ) (ts us : List PlacedToken) (a b : ExpressionSyntax) → SpellsExpression ts a → SpellsAnd us b
        → SpellsExpression (ts ++ word_at i or_word ∷ us) (disjunction i a b)

  -- and = not {AND not}
  pub data SpellsAnd : List PlacedToken → ExpressionSyntax → Type 0 where
    one_not : (ts : List PlacedToken) (e : ExpressionSyntax) → SpellsNot ts e → SpellsAnd ts e
    and_not : (i : ℕ) (ts us : List PlacedToken) (a b : ExpressionSyntax) → SpellsAnd ts a → SpellsNot us b
        → SpellsAnd (ts ++ word_at i and_word ∷ us) (conjunction i a b)

  -- not = NOT not | test
  pub data SpellsNot : List PlacedToken → ExpressionSyntax → Type 0 where
    not_not : (i : ℕ) (ts : List PlacedToken) (e : ExpressionSyntax) → SpellsNot ts e → SpellsNot (word_at i not_word ∷ ts) (negation i e)
    one_test : (ts : List PlacedToken) (e : ExpressionSyntax) → SpellsTest ts e → SpellsNot ts e

  -- test = sum [ ("="|"<>"|"<"|"<="|">"|">=") sum | [NOT] LIKE text | [NOT] CONTAINS text | IS [NOT] NULL ]
  pub data SpellsTest : List PlacedToken → ExpressionSyntax → Type 0 where
    one_sum : (ts : List PlacedToken) (e : ExpressionSyntax) → SpellsSum ts e → SpellsTest ts e
    compared_sums : (i : ℕ) (s : Sign) (c : Comparison) (ts us : List PlacedToken) (a b : ExpressionSyntax) → IsComparison s c → SpellsSum ts a → SpellsSum us b
        → SpellsTest (ts ++ sign_at i s ∷ us) (comparison i c a b)
    like_text : (i j : ℕ) (ts : List PlacedToken) (e : ExpressionSyntax) (t : List ℕ) → SpellsSum ts e
        → SpellsTest (ts ++ word_at i like_word ∷ text_at j t ∷ []) (like i e t)
    not_like_text : (h i j : ℕ) (ts : List PlacedToken) (e : ExpressionSyntax) (t : List ℕ) → SpellsSum ts e
        → SpellsTest (ts ++ word_at h not_word ∷ word_at i like_word ∷ text_at j t ∷ []) (negation i (like i e t))
    contains_text : (i j : ℕ) (ts : List PlacedToken) (e : ExpressionSyntax) (t : List ℕ) → SpellsSum ts e
        → SpellsTest (ts ++ word_at i contains_word ∷ text_at j t ∷ []) (contains i e t)
    not_contains_text : (h i j : ℕ) (ts : List PlacedToken) (e : ExpressionSyntax) (t : List ℕ) → SpellsSum ts e
        → SpellsTest (ts ++ word_at h not_word ∷ word_at i contains_word ∷ text_at j t ∷ []) (negation i (contains i e t))
    is_null_word : (i j : ℕ) (ts : List PlacedToken) (e : ExpressionSyntax) → SpellsSum ts e
        → SpellsTest (ts ++ word_at i is_word ∷ word_at j null_word ∷ []) (is_null i e)
    is_not_null : (i j k : ℕ) (ts : List PlacedToken) (e : ExpressionSyntax) → SpellsSum ts e
        → SpellsTest (ts ++ word_at i is_word ∷ word_at j not_word ∷ word_at k null_word ∷ []) (negation i (is_null i e))

  -- sum = prod {("+"|"-") prod}
  pub data SpellsSum : List PlacedToken → ExpressionSyntax → Type 0 where
    one_product : (ts : List PlacedToken) (e : ExpressionSyntax) → SpellsProduct ts e → SpellsSum ts e
    plus_product : (i : ℕ) (ts us : List PlacedToken) (a b : ExpressionSyntax) → SpellsSum ts a → SpellsProduct us b
        → SpellsSum (ts ++ sign_at i plus_sign ∷ us) (arithmetic i plus a b)
    minus_product : (i : ℕ) (ts us : List PlacedToken) (a b : ExpressionSyntax) → SpellsSum ts a → SpellsProduct us b
        → SpellsSum (ts ++ sign_at i minus_sign ∷ us) (arithmetic i minus a b)

  -- prod = unary {"*" unary}
  pub data SpellsProduct : List PlacedToken → ExpressionSyntax → Type 0 where
    one_unary : (ts : List PlacedToken) (e : ExpressionSyntax) → SpellsUnary ts e → SpellsProduct ts e
    times_unary : (i : ℕ) (ts us : List PlacedToken) (a b : ExpressionSyntax) → SpellsProduct ts a → SpellsUnary us b
        → SpellsProduct (ts ++ sign_at i star ∷ us) (arithmetic i times a b)

  -- unary = "-" unary | prim
  pub data SpellsUnary : List PlacedToken → ExpressionSyntax → Type 0 where
    minus_unary : (i : ℕ) (ts : List PlacedToken) (e : ExpressionSyntax) → SpellsUnary ts e → SpellsUnary (sign_at i minus_sign ∷ ts) (negative i e)
    one_primary : (ts : List PlacedToken) (e : ExpressionSyntax) → SpellsPrimary ts e → SpellsUnary ts e

  -- prim = number | text | TRUE | FALSE | path | "(" expr ")"
  pub data SpellsPrimary : List PlacedToken → ExpressionSyntax → Type 0 where
    a_number : (i n : ℕ) → SpellsPrimary (placed i (number n) ∷ []) (number_literal n)
    a_text : (i : ℕ) (t : List ℕ) → SpellsPrimary (text_at i t ∷ []) (text_literal t)
    a_true : (i : ℕ) → SpellsPrimary (word_at i true_word ∷ []) (truth_literal true)
    a_false : (i : ℕ) → SpellsPrimary (word_at i false_word ∷ []) (truth_literal false)
    a_path : (ts : List PlacedToken) (p : PathSyntax) → SpellsPath ts p → SpellsPrimary ts (path p)
    in_parentheses : (i j : ℕ) (ts : List PlacedToken) (e : ExpressionSyntax) → SpellsExpression ts e
        → SpellsPrimary (sign_at i open_parenthesis ∷ (ts ++ sign_at j close_parenthesis ∷ [])) e

-- ---- items

-- [WITHIN (RECORD | path)]
pub data SpellsWithin : List PlacedToken → Option WithinSyntax → Type 0 where
  no_within : SpellsWithin [] None
  within_the_record : (i j : ℕ) → SpellsWithin (word_at i within_word ∷ word_at j record_word ∷ []) (Some (record { place = i; node = whole_record }))
  within_a_path : (i : ℕ) (ts : List PlacedToken) (p : PathSyntax) → SpellsPath ts p
      → SpellsWithin (word_at i within_word ∷ ts) (Some (record { place = i; node = node p }))

-- COUNT SUM MIN MAX
pub data IsAggregate : Word → Aggregate → Type 0 where
  is_count : IsAggregate count_word count
  is_sum : IsAggregate sum_word sum
  is_least : IsAggregate min_word least
  is_greatest : IsAggregate max_word greatest

-- agg = ( COUNT "(" ("*" | expr) ")" | (SUM|MIN|MAX) "(" expr ")" ) [WITHIN (RECORD | path)]; an item is agg or expr
pub data SpellsTerm : List PlacedToken → TermSyntax → Type 0 where
  counted_rows : (h i j k : ℕ) (ts : List PlacedToken) (w : Option WithinSyntax) → SpellsWithin ts w
      → SpellsTerm (word_at h count_word ∷ sign_at i open_parenthesis ∷ sign_at j star ∷ sign_at k close_parenthesis ∷ ts) (count_rows w)
  aggregated : (h i j : ℕ) (v : Word) (a : Aggregate) (ts us : List PlacedToken) (e : ExpressionSyntax) (w : Option WithinSyntax) → IsAggregate v a
      → SpellsExpression ts e → SpellsWithin us w
      → SpellsTerm (word_at h v ∷ sign_at i open_parenthesis ∷ (ts ++ sign_at j close_parenthesis ∷ us)) (aggregate a e w)
  an_expression : (ts : List PlacedToken) (e : ExpressionSyntax) → SpellsExpression ts e → SpellsTerm ts (expression e)

-- [AS name]
pub data SpellsAs : List PlacedToken → Option (List ℕ) → Type 0 where
  no_as : SpellsAs [] None
  as_name : (i j : ℕ) (n : List ℕ) → SpellsAs (word_at i as_word ∷ name_at j n ∷ []) (Some n)

-- item = ( agg | expr ) [AS name]
abbrev pub SpellsItem : List PlacedToken → ItemSyntax → Type 0
SpellsItem ts x = (us : List PlacedToken) × (vs : List PlacedToken) × (ts ≡ us ++ vs) × BeginsAt x.place us × SpellsTerm us x.term × SpellsAs vs x.name

-- one or more of these, with commas between
pub data Separated (A : Type 0) (Spells : List PlacedToken → A → Type 0) : List PlacedToken → List A → Type 0 where
  alone : (ts : List PlacedToken) (x : A) → Spells ts x → Separated A Spells ts (x ∷ [])
  and_one : (i : ℕ) (ts us : List PlacedToken) (xs : List A) (x : A) → Separated A Spells ts xs → Spells us x
      → Separated A Spells (ts ++ sign_at i comma ∷ us) (xs ++ x ∷ [])

-- ---- query = SELECT item {"," item} FROM name [WHERE expr] [GROUP BY path {"," path}] [";"]

-- [WHERE expr]
pub data SpellsWhere : List PlacedToken → Option ConditionSyntax → Type 0 where
  no_where : SpellsWhere [] None
  where_expression : (i j : ℕ) (ts : List PlacedToken) (e : ExpressionSyntax) → BeginsAt j ts → SpellsExpression ts e
      → SpellsWhere (word_at i where_word ∷ ts) (Some (record { place = j; expression = e }))

-- [GROUP BY path {"," path}]
pub data SpellsGroup : List PlacedToken → List PathSyntax → Type 0 where
  no_group : SpellsGroup [] []
  group_by : (i j : ℕ) (ts : List PlacedToken) (ks : List PathSyntax) → Separated PathSyntax SpellsPath ts ks
      → SpellsGroup (word_at i group_word ∷ word_at j by_word ∷ ts) ks

-- [";"]
pub data SpellsEnd : List PlacedToken → Type 0 where
  no_semicolon : SpellsEnd []
  a_semicolon : (i : ℕ) → SpellsEnd (sign_at i semicolon ∷ [])

-- the tokens spell a query with this tree
pub data SpellsQuery : List PlacedToken → QuerySyntax → Type 0 where
  a_query : (h i j : ℕ) (n : List ℕ) (ts us vs ws : List PlacedToken) (xs : List ItemSyntax) (c : Option ConditionSyntax) (ks : List PathSyntax)
      → Separated ItemSyntax SpellsItem ts xs → SpellsWhere us c → SpellsGroup vs ks → SpellsEnd ws
      → SpellsQuery (word_at h select_word ∷ (ts ++ word_at i from_word ∷ name_at j n ∷ (us ++ (vs ++ ws))))
      (record { items = xs; table = record { place = j; name = n }; condition = c; keys = ks })

-- the tokens begin a query
abbrev pub BeginsQuery : List PlacedToken → Type 0
BeginsQuery ts = (us : List PlacedToken) × (q : QuerySyntax) × SpellsQuery (ts ++ us) q
