-- The query language's syntax trees: what a query's text says, before its names are looked up. Places are byte places in the text.
use Rattle.std.specs.Prelude.{ℕ, List, Bool, Option}
use Rattle.dr_meaning.specs.Expression.{Arithmetic, Comparison}
use Rattle.dr_meaning.specs.Query.{Aggregate}

-- a name, and its place
pub record NameSyntax : Type 0 where
  pub place : ℕ
  pub name : List ℕ

-- the names of a path, joined by dots, and the place of the first
pub record PathSyntax : Type 0 where
  pub place : ℕ
  pub names : List (List ℕ)

-- an expression; an operator has the place of its sign or word. Parentheses shape the tree and leave nothing else in it: `(a)` is the path `a`
pub data ExpressionSyntax : Type 0 where
  -- 12, 'text', TRUE, FALSE, a path
  number_literal : ℕ → ExpressionSyntax
  text_literal : List ℕ → ExpressionSyntax
  truth_literal : Bool → ExpressionSyntax
  path : PathSyntax → ExpressionSyntax
  -- -e; a + b, a - b, a * b
  negative : ℕ → ExpressionSyntax → ExpressionSyntax
  arithmetic : ℕ → Arithmetic → ExpressionSyntax → ExpressionSyntax → ExpressionSyntax
  -- a = b, a <> b, a < b, a <= b, a > b, a >= b
  comparison : ℕ → Comparison → ExpressionSyntax → ExpressionSyntax → ExpressionSyntax
  -- e LIKE 'pattern'; e CONTAINS 'part'; e IS NULL. `e NOT LIKE p` is NOT (e LIKE p), both at the place of LIKE; `e NOT CONTAINS p` is alike;
  -- `e IS NOT NULL` is NOT (e IS NULL), both at the place of IS
  like : ℕ → ExpressionSyntax → List ℕ → ExpressionSyntax
  contains : ℕ → ExpressionSyntax → List ℕ → ExpressionSyntax
  is_null : ℕ → ExpressionSyntax → ExpressionSyntax
  -- NOT e; a AND b; a OR b
  negation : ℕ → ExpressionSyntax → ExpressionSyntax
  conjunction : ℕ → ExpressionSyntax → ExpressionSyntax → ExpressionSyntax
  disjunction : ℕ → ExpressionSyntax → ExpressionSyntax → ExpressionSyntax

-- within what an aggregate runs: RECORD, or the node of a path
pub data NodeSyntax : Type 0 where
  whole_record : NodeSyntax
  node : PathSyntax → NodeSyntax

-- WITHIN and its node, with the place of the word
pub record WithinSyntax : Type 0 where
  pub place : ℕ
  pub node : NodeSyntax

-- what an item gives: an expression; COUNT(*); COUNT, SUM, MIN or MAX of an expression
pub data TermSyntax : Type 0 where
  expression : ExpressionSyntax → TermSyntax
  count_rows : Option WithinSyntax → TermSyntax
  aggregate : Aggregate → ExpressionSyntax → Option WithinSyntax → TermSyntax

-- an item, the name that AS gives it, and the place of its first token: of an aggregate, its word
pub record ItemSyntax : Type 0 where
  pub place : ℕ
  pub term : TermSyntax
  pub name : Option (List ℕ)

-- the condition, and the place of its first token
pub record ConditionSyntax : Type 0 where
  pub place : ℕ
  pub expression : ExpressionSyntax

-- SELECT items FROM table [WHERE condition] [GROUP BY keys]; without GROUP BY there are no keys
pub record QuerySyntax : Type 0 where
  pub items : List ItemSyntax
  pub table : NameSyntax
  pub condition : Option ConditionSyntax
  pub keys : List PathSyntax
