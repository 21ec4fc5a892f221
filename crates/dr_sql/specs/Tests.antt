-- Tests by words, in the definitions' words.
use Rattle.std.specs.Prelude.{ℕ, List, Bool, true, false}
use Rattle.dr_meaning.specs.Syntax.{ExpressionSyntax, negation, is_null, like, contains}
use Rattle.dr_meaning.specs.Parse.{Production, ◌>>=◌, any_token, quoted_text, give, plain}
use Rattle.dr_sql.specs.TokenViews.{undoubled}
use Rattle.dr_sql.specs.declared.word_test.TextTest.{TextTest}
use Rattle.dr_sql.specs.declared.word_test.WordTest.{WordTest}

-- a test at its place, or its negation where it is denied
abbrev pub shape : Bool → ℕ → ExpressionSyntax → ExpressionSyntax
shape true = negation
shape false = plain

-- what LIKE and CONTAINS make of their place, an expression and a text
abbrev pub text_test_view : TextTest → ℕ → ExpressionSyntax → List ℕ → ExpressionSyntax
text_test_view TextTest.Like = like
text_test_view TextTest.Contains = contains

-- LIKE or CONTAINS and a text, of an expression
abbrev pub text_test_of : TextTest → Bool → ExpressionSyntax → Production ExpressionSyntax
text_test_of test denied e = do
  i ← any_token
  t ← quoted_text
  give (shape denied i (text_test_view test i e t))

-- what a test makes of an expression
abbrev pub tested : ExpressionSyntax → WordTest → ExpressionSyntax
tested e WordTest.Nothing = e
tested e (WordTest.Null place denied) = shape denied place (is_null place e)
tested e (WordTest.Text place test t denied) = shape denied place (text_test_view test place e (undoubled t.now))
