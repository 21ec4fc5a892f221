-- Expressions: their values in a row, with NULL, three-valued logic and exact whole numbers of 64 bits.
use Rattle.std.specs.Prelude.{ℕ, List, [], ◌∷◌, ◌++◌, Bool, true, false, not, ◌&&◌, ◌||◌, ◌==◌, if◌then◌else◌, ℤ, pos, ◌+ℤ◌, ◌-ℤ◌, ◌*ℤ◌, Option, Some}
use Rattle.std.specs.Prelude.{None, option_map, chars}
use Rattle.std.specs.Ordering.{is_eq, is_lt, is_le, is_gt, is_ge, is_ne, nat_cmp, int_cmp, bool_cmp}
use Rattle.std.specs.declared.cmp.Ordering.{Ordering}
use Rattle.std.specs.Cmp.Lexicographic.{slice_cmp}
use Rattle.dr_meaning.specs.Path.{Step, longer, chain_end}
use Rattle.dr_meaning.specs.Record.{Value, bool_value, int_value, text_value, Node, in_int64}
use Rattle.dr_meaning.specs.Rows.{value_at}
use Rattle.dr_meaning.specs.Lists.{is_empty}

pub data Arithmetic : Type 0 where
  plus : Arithmetic
  minus : Arithmetic
  times : Arithmetic

pub data Comparison : Type 0 where
  equal : Comparison
  unequal : Comparison
  less : Comparison
  at_most : Comparison
  greater : Comparison
  at_least : Comparison

pub data Expression : Type 0 where
  -- a literal; the value of a path
  constant : Value → Expression
  path_value : List Step → Expression
  -- -e; a + b, a - b, a * b
  negative : Expression → Expression
  arithmetic : Arithmetic → Expression → Expression → Expression
  -- a = b, a <> b, a < b, a <= b, a > b, a >= b
  comparison : Comparison → Expression → Expression → Expression
  -- e LIKE pattern; e CONTAINS part; e IS NULL
  like : Expression → List ℕ → Expression
  contains : Expression → List ℕ → Expression
  is_null : Expression → Expression
  -- NOT e; a AND b; a OR b
  negation : Expression → Expression
  conjunction : Expression → Expression → Expression
  disjunction : Expression → Expression → Expression

-- ---- arithmetic: NULL where an operand is, or where the result needs more than 64 bits; `+` joins texts

abbrev pub exact_int64 : ℤ → Option Value
exact_int64 z = if in_int64 z then Some (int_value z) else None

abbrev pub add_values : Value → Value → Option Value
add_values (int_value a) (int_value b) = exact_int64 (a +ℤ b)
add_values (text_value a) (text_value b) = Some (text_value (a ++ b))
add_values a b = None

abbrev pub subtract_values : Value → Value → Option Value
subtract_values (int_value a) (int_value b) = exact_int64 (a -ℤ b)
subtract_values a b = None

abbrev pub multiply_values : Value → Value → Option Value
multiply_values (int_value a) (int_value b) = exact_int64 (a *ℤ b)
multiply_values a b = None

abbrev pub combine : Arithmetic → Value → Value → Option Value
combine plus a b = add_values a b
combine minus a b = subtract_values a b
combine times a b = multiply_values a b

-- what a function of two values gives where neither is NULL
abbrev pub on_both : (Value → Value → Option Value) → Option Value → Option Value → Option Value
on_both f None b = None
on_both f (Some a) None = None
on_both f (Some a) (Some b) = f a b

-- ---- comparisons: false before true, numbers by value, texts by their bytes

abbrev pub compare_values : Value → Value → Option Ordering
compare_values (bool_value a) (bool_value b) = Some (bool_cmp a b)
compare_values (int_value a) (int_value b) = Some (int_cmp a b)
compare_values (text_value a) (text_value b) = Some (slice_cmp nat_cmp a b)
compare_values a b = None

abbrev pub holds : Comparison → Ordering → Bool
holds equal o = is_eq o
holds unequal o = is_ne o
holds less o = is_lt o
holds at_most o = is_le o
holds greater o = is_gt o
holds at_least o = is_ge o

abbrev pub compared : Comparison → Value → Value → Option Value
compared c a b = option_map (λ o. bool_value (holds c o)) (compare_values a b)

-- ---- LIKE: `%` is any text, `_` is one character; CONTAINS

-- whether the test passes a text or one of the texts that end it
abbrev pub some_end : (List ℕ → Bool) → List ℕ → Bool
some_end f [] = f []
some_end f (c ∷ cs) = f (c ∷ cs) || some_end f cs

abbrev pub after_one : (List ℕ → Bool) → List ℕ → Bool
after_one f [] = false
after_one f (c ∷ cs) = f cs

abbrev pub after_same : ℕ → (List ℕ → Bool) → List ℕ → Bool
after_same p f [] = false
after_same p f (c ∷ cs) = (p == c) && f cs

-- whether the whole text matches the pattern, both as characters
unfoldable pub matches : List ℕ → List ℕ → Bool
matches [] = is_empty
matches (p ∷ ps) = λ text. if p == 37 then some_end (matches ps) text else (if p == 95 then after_one (matches ps) text else after_same p (matches ps) text)

abbrev pub begins_text : List ℕ → List ℕ → Bool
begins_text [] text = true
begins_text (p ∷ ps) [] = false
begins_text (p ∷ ps) (c ∷ cs) = (p == c) && begins_text ps cs

-- whether the part occurs in the text; the empty part always does
abbrev pub occurs_in : List ℕ → List ℕ → Bool
occurs_in part text = some_end (begins_text part) text

abbrev pub on_text : (List ℕ → Bool) → Option Value → Option Value
on_text f (Some (text_value t)) = Some (bool_value (f t))
on_text f v = None

-- ---- three-valued logic: false AND NULL is false, true OR NULL is true, else NULL spreads

abbrev pub not_value : Option Value → Option Value
not_value (Some (bool_value b)) = Some (bool_value (not b))
not_value v = None

abbrev pub and_values : Option Value → Option Value → Option Value
and_values (Some (bool_value false)) b = Some (bool_value false)
and_values (Some (bool_value true)) b = b
and_values a (Some (bool_value false)) = Some (bool_value false)
and_values a b = None

abbrev pub or_values : Option Value → Option Value → Option Value
or_values (Some (bool_value true)) b = Some (bool_value true)
or_values (Some (bool_value false)) b = b
or_values a (Some (bool_value true)) = Some (bool_value true)
or_values a b = None

abbrev pub null_test : Option Value → Option Value
null_test None = Some (bool_value true)
null_test (Some v) = Some (bool_value false)

-- ---- the value of an expression in a row

abbrev pub evaluate : Expression → Node → Option Value
evaluate (constant v) row = Some v
evaluate (path_value p) row = value_at p row
evaluate (negative e) row = on_both subtract_values (Some (int_value (pos 0))) (evaluate e row)
evaluate (arithmetic o a b) row = on_both (combine o) (evaluate a row) (evaluate b row)
evaluate (comparison c a b) row = on_both (compared c) (evaluate a row) (evaluate b row)
evaluate (like e pattern_text) row = on_text (λ t. matches (chars pattern_text) (chars t)) (evaluate e row)
evaluate (contains e part) row = on_text (occurs_in part) (evaluate e row)
evaluate (is_null e) row = null_test (evaluate e row)
evaluate (negation e) row = not_value (evaluate e row)
evaluate (conjunction a b) row = and_values (evaluate a row) (evaluate b row)
evaluate (disjunction a b) row = or_values (evaluate a row) (evaluate b row)

abbrev pub is_true : Option Value → Bool
is_true (Some (bool_value b)) = b
is_true v = false

-- ---- the paths of an expression

abbrev pub paths_of : Expression → List (List Step)
paths_of (constant v) = []
paths_of (path_value p) = p ∷ []
paths_of (negative e) = paths_of e
paths_of (arithmetic o a b) = paths_of a ++ paths_of b
paths_of (comparison c a b) = paths_of a ++ paths_of b
paths_of (like e t) = paths_of e
paths_of (contains e t) = paths_of e
paths_of (is_null e) = paths_of e
paths_of (negation e) = paths_of e
paths_of (conjunction a b) = paths_of a ++ paths_of b
paths_of (disjunction a b) = paths_of a ++ paths_of b

-- the longest chain among paths, as the path of its last repeated field: that with the most fields. In a query that is accepted the chains
-- begin with one another, so that is the longest chain; of chains that are not related it would be only one of them
abbrev pub longest_chain : List (List Step) → List Step
longest_chain [] = []
longest_chain (p ∷ ps) = longer (chain_end p) (longest_chain ps)

-- an expression's chain: its values belong to the instances of the chain's end
abbrev pub expression_chain : Expression → List Step
expression_chain e = longest_chain (paths_of e)
