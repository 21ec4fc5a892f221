-- Where TooDeep stands: how many nestings are open before a token that opens one. A nesting is a parenthesis, a NOT before a `not`, a minus sign
-- before a `unary`, or the parenthesis of an aggregate.
use Rattle.std.specs.Prelude.{◌≡◌, ℕ, suc, List, [], ◌∷◌, ◌++◌, true, nat_lt, Ok, Err}
use Rattle.dr_meaning.specs.Tokens.{Word, Sign, not_word, and_word, or_word, select_word, from_word, where_word, open_parenthesis, plus_sign, minus_sign}
use Rattle.dr_meaning.specs.Tokens.{star, PlacedToken, query_tokens}
use Rattle.dr_meaning.specs.Expression.{Comparison}
use Rattle.dr_meaning.specs.Query.{Aggregate}
use Rattle.dr_meaning.specs.Syntax.{ExpressionSyntax, ItemSyntax, QuerySyntax}
use Rattle.dr_meaning.specs.Parse.{too_deep, parse_query}
use Rattle.dr_meaning.specs.QueryGrammar.{word_at, sign_at, name_at, IsComparison, SpellsExpression, SpellsAnd, SpellsSum, SpellsProduct, IsAggregate}
use Rattle.dr_meaning.specs.QueryGrammar.{SpellsItem, Separated}
use Rattle.dr_query_laws.specs.LimitLaws.{BeforeItem}

-- Each of these says: behind the tokens, read from where such a part begins, the token opens a nesting, and so many are open there.
mutual
  -- expr = and {OR and}
  pub data OpensInExpression : List PlacedToken → PlacedToken → ℕ → Type 0 where
    in_first_and : (ts : List PlacedToken) (t : PlacedToken) (n : ℕ) → OpensInAnd ts t n → OpensInExpression ts t n
    behind_or : (i : ℕ) (us ts : List PlacedToken) (a : ExpressionSyntax) (t : PlacedToken) (n : ℕ) → SpellsExpression us a → OpensInAnd ts t n
        → OpensInExpression (us ++ word_at i or_word ∷ ts) t n

  -- and = not {AND not}
  pub data OpensInAnd : List PlacedToken → PlacedToken → ℕ → Type 0 where
    in_first_not : (ts : List PlacedToken) (t : PlacedToken) (n : ℕ) → OpensInNot ts t n → OpensInAnd ts t n
    behind_and : (i : ℕ) (us ts : List PlacedToken) (a : ExpressionSyntax) (t : PlacedToken) (n : ℕ) → SpellsAnd us a → OpensInNot ts t n
        → OpensInAnd (us ++ word_at i and_word ∷ ts) t n

  -- not = NOT not | test: the NOT opens a nesting, which stays open behind it
  pub data OpensInNot : List PlacedToken → PlacedToken → ℕ → Type 0 where
    not_itself : (i : ℕ) → OpensInNot [] (word_at i not_word) 0
    behind_not : (i : ℕ) (ts : List PlacedToken) (t : PlacedToken) (n : ℕ) → OpensInNot ts t n → OpensInNot (word_at i not_word ∷ ts) t (suc n)
    in_test : (ts : List PlacedToken) (t : PlacedToken) (n : ℕ) → OpensInTest ts t n → OpensInNot ts t n

  -- test = sum [ ("="|"<>"|"<"|"<="|">"|">=") sum | .. ]
  pub data OpensInTest : List PlacedToken → PlacedToken → ℕ → Type 0 where
    in_first_sum : (ts : List PlacedToken) (t : PlacedToken) (n : ℕ) → OpensInSum ts t n → OpensInTest ts t n
    behind_comparison : (i : ℕ) (s : Sign) (c : Comparison) (us ts : List PlacedToken) (a : ExpressionSyntax) (t : PlacedToken) (n : ℕ) → IsComparison s c
        → SpellsSum us a → OpensInSum ts t n → OpensInTest (us ++ sign_at i s ∷ ts) t n

  -- sum = prod {("+"|"-") prod}: this minus sign opens nothing
  pub data OpensInSum : List PlacedToken → PlacedToken → ℕ → Type 0 where
    in_first_product : (ts : List PlacedToken) (t : PlacedToken) (n : ℕ) → OpensInProduct ts t n → OpensInSum ts t n
    behind_plus : (i : ℕ) (us ts : List PlacedToken) (a : ExpressionSyntax) (t : PlacedToken) (n : ℕ) → SpellsSum us a → OpensInProduct ts t n
        → OpensInSum (us ++ sign_at i plus_sign ∷ ts) t n
    behind_minus : (i : ℕ) (us ts : List PlacedToken) (a : ExpressionSyntax) (t : PlacedToken) (n : ℕ) → SpellsSum us a → OpensInProduct ts t n
        → OpensInSum (us ++ sign_at i minus_sign ∷ ts) t n

  -- prod = unary {"*" unary}
  pub data OpensInProduct : List PlacedToken → PlacedToken → ℕ → Type 0 where
    in_first_unary : (ts : List PlacedToken) (t : PlacedToken) (n : ℕ) → OpensInUnary ts t n → OpensInProduct ts t n
    behind_star : (i : ℕ) (us ts : List PlacedToken) (a : ExpressionSyntax) (t : PlacedToken) (n : ℕ) → SpellsProduct us a → OpensInUnary ts t n
        → OpensInProduct (us ++ sign_at i star ∷ ts) t n

  -- unary = "-" unary | prim, prim = .. | "(" expr ")": the minus sign and the parenthesis open a nesting, which stays open behind them
  pub data OpensInUnary : List PlacedToken → PlacedToken → ℕ → Type 0 where
    sign_itself : (i : ℕ) → OpensInUnary [] (sign_at i minus_sign) 0
    behind_sign : (i : ℕ) (ts : List PlacedToken) (t : PlacedToken) (n : ℕ) → OpensInUnary ts t n → OpensInUnary (sign_at i minus_sign ∷ ts) t (suc n)
    parenthesis_itself : (i : ℕ) → OpensInUnary [] (sign_at i open_parenthesis) 0
    behind_parenthesis : (i : ℕ) (ts : List PlacedToken) (t : PlacedToken) (n : ℕ) → OpensInExpression ts t n
        → OpensInUnary (sign_at i open_parenthesis ∷ ts) t (suc n)

-- item = ( agg | expr ) [AS name], agg = (COUNT|SUM|MIN|MAX) "(" ..: the parenthesis of an aggregate opens a nesting
pub data OpensInItem : List PlacedToken → PlacedToken → ℕ → Type 0 where
  argument_itself : (h i : ℕ) (v : Word) (a : Aggregate) → IsAggregate v a → OpensInItem (word_at h v ∷ []) (sign_at i open_parenthesis) 0
  in_argument : (h i : ℕ) (v : Word) (a : Aggregate) (ts : List PlacedToken) (t : PlacedToken) (n : ℕ) → IsAggregate v a → OpensInExpression ts t n
      → OpensInItem (word_at h v ∷ sign_at i open_parenthesis ∷ ts) t (suc n)
  in_expression : (ts : List PlacedToken) (t : PlacedToken) (n : ℕ) → OpensInExpression ts t n → OpensInItem ts t n

-- query = SELECT item {"," item} FROM name [WHERE expr] ..
pub data OpensInQuery : List PlacedToken → PlacedToken → ℕ → Type 0 where
  in_item : (m : ℕ) (front ts : List PlacedToken) (t : PlacedToken) (n : ℕ) → BeforeItem m front → OpensInItem ts t n → OpensInQuery (front ++ ts) t n
  in_condition : (h i j k : ℕ) (name : List ℕ) (us ts : List PlacedToken) (xs : List ItemSyntax) (t : PlacedToken) (n : ℕ)
      → Separated ItemSyntax SpellsItem us xs → OpensInExpression ts t n
      → OpensInQuery (word_at h select_word ∷ (us ++ word_at i from_word ∷ name_at j name ∷ word_at k where_word ∷ ts)) t n

-- a token at place i of a text opens a nesting where 32 are open
abbrev pub TooDeepStandsAt : List PlacedToken → ℕ → Type 0
TooDeepStandsAt all i = (before : List PlacedToken) × (t : PlacedToken) × (rest : List PlacedToken) × (all ≡ before ++ t ∷ rest) × (t.place ≡ i)
    × OpensInQuery before t 32

-- TooDeep stands at such a token
abbrev pub TooDeepStandsAtItsToken : Type 0
TooDeepStandsAtItsToken = (bytes : List ℕ) (i : ℕ) → parse_query bytes ≡ Err (record { place = i; problem = too_deep })
    → TooDeepStandsAt (query_tokens bytes) i

-- behind the same tokens the same number of nestings is open, however it is told
abbrev pub OneNumberIsOpen : Type 0
OneNumberIsOpen = (before : List PlacedToken) (t u : PlacedToken) (m n : ℕ) → OpensInQuery before t m → OpensInQuery before u n → m ≡ n

-- each token of an accepted text that opens a nesting stands where fewer than 32 are open, so nowhere are more than 32
abbrev pub AcceptedNestsLittle : Type 0
AcceptedNestsLittle = (bytes : List ℕ) (q : QuerySyntax) (before rest : List PlacedToken) (t : PlacedToken) (n : ℕ) → parse_query bytes ≡ Ok q
    → query_tokens bytes ≡ before ++ t ∷ rest → OpensInQuery before t n → nat_lt n 32 ≡ true
