-- Binding an expression: its names become leaves of the schema, and each part has a type; or the faults of its paths and operators.
use Rattle.std.specs.Prelude.{ℕ, List, [], ◌∷◌, ◌++◌, Bool, true, false, pos, if◌then◌else◌, ◌||◌, Option, Some, None, Result, Ok, Err}
use Rattle.std.specs.List.{list_all}
use Rattle.dr_meaning.specs.Schema.{Kind, bool_kind, int32_kind, int64_kind, text_kind, Fields}
use Rattle.dr_meaning.specs.Path.{Step, Leaf, PathFault, unknown_field as no_field, not_a_leaf as no_leaf, find_path, found_leaf, chain_end, begins_with}
use Rattle.dr_meaning.specs.Record.{bool_value, int_value, text_value}
use Rattle.dr_meaning.specs.Expression.{Arithmetic, plus, Expression, constant, path_value, negative as negative_expression}
use Rattle.dr_meaning.specs.Expression.{arithmetic as arithmetic_expression, comparison as comparison_expression, like as like_expression}
use Rattle.dr_meaning.specs.Expression.{contains as contains_expression, is_null as is_null_expression, negation as negation_expression}
use Rattle.dr_meaning.specs.Expression.{conjunction as conjunction_expression, disjunction as disjunction_expression}
use Rattle.dr_meaning.specs.Syntax.{PathSyntax, ExpressionSyntax, number_literal, text_literal, truth_literal, path, negative, arithmetic, comparison}
use Rattle.dr_meaning.specs.Syntax.{like, contains, is_null, negation, conjunction, disjunction}

-- ---- faults

-- why a query is refused, in the order in which problems at one place are told
pub data BindProblem : Type 0 where
  -- the table's name isn't that of the message
  unknown_table : BindProblem
  -- no field has the path
  unknown_field : BindProblem
  -- the path leads to a group, where a value is wanted
  not_a_leaf : BindProblem
  -- an operator, SUM or the condition has a value of a wrong type
  type_mismatch : BindProblem
  -- the repeated fields of two paths aren't nested in one another
  unrelated : BindProblem
  -- the node of WITHIN can't hold the rows of the aggregate's argument
  bad_within : BindProblem
  -- an item of an aggregate query is neither a key nor an aggregate over the group
  not_grouped : BindProblem
  -- an item has the name of an earlier entry of its object
  duplicate_name : BindProblem

pub record BindFault : Type 0 where
  pub place : ℕ
  pub problem : BindProblem

abbrev pub fault_at : ℕ → BindProblem → List BindFault
fault_at i p = record { place = i; problem = p } ∷ []

-- ---- what comes of binding a part of a query

-- the part, bound, where all its paths and operators pass; else the faults of those that don't, of which there is one at least
pub data Checked (A : Type 0) : Type 0 where
  passes : A → Checked A
  fails : BindFault → List BindFault → Checked A

-- a part that fails with one fault
abbrev pub fails_at : {A : Type 0} → ℕ → BindProblem → Checked A
fails_at i p = fails (record { place = i; problem = p }) []

abbrev pub checked_map : {A B : Type 0} → (A → B) → Checked A → Checked B
checked_map f (passes a) = passes (f a)
checked_map f (fails e es) = fails e es

-- a further rule, tested only where the part passes
abbrev pub then_check : {A B : Type 0} → (A → Checked B) → Checked A → Checked B
then_check rule (passes a) = rule a
then_check rule (fails e es) = fails e es

-- two parts; the faults of both
abbrev pub together : {A B C : Type 0} → (A → B → C) → Checked A → Checked B → Checked C
together f (passes a) (passes b) = passes (f a b)
together f (passes a) (fails g gs) = fails g gs
together f (fails e es) (passes b) = fails e es
together f (fails e es) (fails g gs) = fails e (es ++ g ∷ gs)

-- a rule of two parts, tested only where both pass
abbrev pub then_check_both : {A B C : Type 0} → (A → B → Checked C) → Checked A → Checked B → Checked C
then_check_both rule a b = then_check (λ c. c) (together rule a b)

-- ---- types

-- the type of a value: a truth value, a whole number, a text
pub data ValueType : Type 0 where
  truth_type : ValueType
  number_type : ValueType
  text_type : ValueType

abbrev pub kind_type : Kind → ValueType
kind_type bool_kind = truth_type
kind_type int32_kind = number_type
kind_type int64_kind = number_type
kind_type text_kind = text_type

abbrev pub same_type : ValueType → ValueType → Bool
same_type truth_type truth_type = true
same_type number_type number_type = true
same_type text_type text_type = true
same_type s t = false

-- the result's type, where the operands have the wanted type: None where they don't

-- of -e, NOT e; e LIKE pattern and e CONTAINS part; e IS NULL
abbrev pub type_from : ValueType → ValueType → ValueType → Option ValueType
type_from wanted result t = if same_type t wanted then Some result else None

abbrev pub null_test_type : ValueType → Option ValueType
null_test_type t = Some truth_type

-- of a AND b, a OR b
abbrev pub logic_type : ValueType → ValueType → Option ValueType
logic_type truth_type truth_type = Some truth_type
logic_type s t = None

-- of a comparison: two values of one type
abbrev pub comparison_type : ValueType → ValueType → Option ValueType
comparison_type s t = if same_type s t then Some truth_type else None

-- of a + b, a - b, a * b: numbers; + also joins texts
abbrev pub arithmetic_type : Arithmetic → ValueType → ValueType → Option ValueType
arithmetic_type o number_type number_type = Some number_type
arithmetic_type plus text_type text_type = Some text_type
arithmetic_type o s t = None

-- ---- bound paths and expressions

-- a path of the query, at its place, and the leaf to which it leads
pub record BoundPath : Type 0 where
  pub place : ℕ
  pub leaf : Leaf

-- an expression over leaves, its type, and its paths in the order of the text
pub record BoundExpression : Type 0 where
  pub expression : Expression
  pub gives : ValueType
  pub paths : List BoundPath

abbrev pub path_problem : PathFault → BindProblem
path_problem no_field = unknown_field
path_problem no_leaf = not_a_leaf

abbrev pub at_place : ℕ → Result Leaf PathFault → Checked BoundPath
at_place i (Ok l) = passes (record { place = i; leaf = l })
at_place i (Err e) = fails_at i (path_problem e)

-- a path that is to lead to a leaf
abbrev pub bind_path : Fields → PathSyntax → Checked BoundPath
bind_path fs p = at_place p.place (found_leaf p.names (find_path p.names fs))

abbrev pub path_expression : BoundPath → BoundExpression
path_expression p = record { expression = path_value p.leaf.path; gives = kind_type p.leaf.kind; paths = p ∷ [] }

-- an operator's expression, where its operands' types give it one
abbrev pub operator : ℕ → Option ValueType → Expression → List BoundPath → Checked BoundExpression
operator i None e ps = fails_at i type_mismatch
operator i (Some t) e ps = passes (record { expression = e; gives = t; paths = ps })

-- an operator of one operand: its place, the rule of its type, and the expression that it makes
abbrev pub one_operand : ℕ → (ValueType → Option ValueType) → (Expression → Expression) → Checked BoundExpression → Checked BoundExpression
one_operand i type make c = then_check (λ (a : BoundExpression). operator i (type a.gives) (make a.expression) a.paths) c

-- an operator of two operands
abbrev pub two_operands : ℕ → (ValueType → ValueType → Option ValueType) → (Expression → Expression → Expression) → Checked BoundExpression
    → Checked BoundExpression → Checked BoundExpression
two_operands i type make c d =
    then_check_both (λ (a b : BoundExpression). operator i (type a.gives b.gives) (make a.expression b.expression) (a.paths ++ b.paths)) c d

abbrev pub bind_expression : Fields → ExpressionSyntax → Checked BoundExpression
bind_expression fs (number_literal n) = passes (record { expression = constant (int_value (pos n)); gives = number_type; paths = [] })
bind_expression fs (text_literal t) = passes (record { expression = constant (text_value t); gives = text_type; paths = [] })
bind_expression fs (truth_literal b) = passes (record { expression = constant (bool_value b); gives = truth_type; paths = [] })
bind_expression fs (path p) = checked_map path_expression (bind_path fs p)
bind_expression fs (negative i e) = one_operand i (type_from number_type number_type) negative_expression (bind_expression fs e)
bind_expression fs (arithmetic i o a b) = two_operands i (arithmetic_type o) (arithmetic_expression o) (bind_expression fs a) (bind_expression fs b)
bind_expression fs (comparison i c a b) = two_operands i comparison_type (comparison_expression c) (bind_expression fs a) (bind_expression fs b)
bind_expression fs (like i e t) = one_operand i (type_from text_type truth_type) (λ x. like_expression x t) (bind_expression fs e)
bind_expression fs (contains i e t) = one_operand i (type_from text_type truth_type) (λ x. contains_expression x t) (bind_expression fs e)
bind_expression fs (is_null i e) = one_operand i null_test_type is_null_expression (bind_expression fs e)
bind_expression fs (negation i e) = one_operand i (type_from truth_type truth_type) negation_expression (bind_expression fs e)
bind_expression fs (conjunction i a b) = two_operands i logic_type conjunction_expression (bind_expression fs a) (bind_expression fs b)
bind_expression fs (disjunction i a b) = two_operands i logic_type disjunction_expression (bind_expression fs a) (bind_expression fs b)

-- the expression, where it is of the wanted type; else a fault at a place above it
abbrev pub of_type : ValueType → ℕ → BoundExpression → Checked BoundExpression
of_type wanted i e = if same_type e.gives wanted then passes e else fails_at i type_mismatch

-- ---- related paths

-- whether the repeated fields on one path are the first of those on the other
abbrev pub are_related : List Step → List Step → Bool
are_related p q = begins_with (chain_end p) (chain_end q) || begins_with (chain_end q) (chain_end p)

-- the first path that isn't related to an earlier one, where there is one
abbrev pub unrelated_after : List (List Step) → List BoundPath → List BindFault
unrelated_after earlier [] = []
unrelated_after earlier (p ∷ ps) =
    if list_all (are_related p.leaf.path) earlier then unrelated_after (p.leaf.path ∷ earlier) ps else fault_at p.place unrelated

abbrev pub unrelated_among : List BoundPath → List BindFault
unrelated_among ps = unrelated_after [] ps
