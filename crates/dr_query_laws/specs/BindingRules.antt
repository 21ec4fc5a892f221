-- The rules of a query's table, its paths and its operators, each by itself, on the syntax tree: which fault stands where.
use Rattle.std.specs.Prelude.{◌≡◌, ◌≢◌, ◌⊎◌, ℕ, Option, Some, None}
use Rattle.std.specs.List.{slice_get}
use Rattle.dr_meaning.specs.Schema.{Schema, Kind, Fields, leaf, group}
use Rattle.dr_meaning.specs.Path.{Found, find_path}
use Rattle.dr_meaning.specs.Query.{Aggregate, sum}
use Rattle.dr_meaning.specs.Syntax.{PathSyntax, ExpressionSyntax, number_literal, text_literal, truth_literal, path, negative, arithmetic}
use Rattle.dr_meaning.specs.Syntax.{comparison, like, contains, is_null, negation, conjunction, disjunction, NodeSyntax, whole_record, node, WithinSyntax}
use Rattle.dr_meaning.specs.Syntax.{TermSyntax, expression, count_rows, aggregate, ItemSyntax, ConditionSyntax, QuerySyntax}
use Rattle.dr_meaning.specs.BoundExpression.{BindProblem, unknown_field, not_a_leaf, type_mismatch, ValueType, truth_type}
use Rattle.dr_meaning.specs.BoundExpression.{number_type, text_type, kind_type, type_from, null_test_type, logic_type, comparison_type, arithmetic_type}

-- ---- paths

abbrev pub LeadsNowhere : Fields → PathSyntax → Type 0
LeadsNowhere fs p = find_path p.names fs ≡ None

abbrev pub LeadsToGroup : Fields → PathSyntax → Type 0
LeadsToGroup fs p = (f : Found) × (inner : Fields) × (find_path p.names fs ≡ Some f) × (f.shape ≡ group inner)

abbrev pub LeadsToLeaf : Fields → PathSyntax → Kind → Type 0
LeadsToLeaf fs p k = (f : Found) × (find_path p.names fs ≡ Some f) × (f.shape ≡ leaf k)

-- ---- types

-- the operand of an operator has a type of which this rule makes the other
abbrev pub MakesOfOne : (ValueType → Option ValueType) → (ValueType → Type 0) → ValueType → Type 0
MakesOfOne rule Has t = (u : ValueType) × Has u × (rule u ≡ Some t)

abbrev pub MakesOfTwo : (ValueType → ValueType → Option ValueType) → (ValueType → Type 0) → (ValueType → Type 0) → ValueType → Type 0
MakesOfTwo rule Has Has' t = (u : ValueType) × (v : ValueType) × Has u × Has' v × (rule u v ≡ Some t)

-- an expression has a type: its paths lead to leaves, and each of its operators has operands of types that it takes
abbrev pub HasType : Fields → ExpressionSyntax → ValueType → Type 0
HasType fs (number_literal n) t = t ≡ number_type
HasType fs (text_literal s) t = t ≡ text_type
HasType fs (truth_literal b) t = t ≡ truth_type
HasType fs (path p) t = (k : Kind) × LeadsToLeaf fs p k × (t ≡ kind_type k)
HasType fs (negative i e) t = MakesOfOne (type_from number_type number_type) (HasType fs e) t
HasType fs (arithmetic i o a b) t = MakesOfTwo (arithmetic_type o) (HasType fs a) (HasType fs b) t
HasType fs (comparison i c a b) t = MakesOfTwo comparison_type (HasType fs a) (HasType fs b) t
HasType fs (like i e s) t = MakesOfOne (type_from text_type truth_type) (HasType fs e) t
HasType fs (contains i e s) t = MakesOfOne (type_from text_type truth_type) (HasType fs e) t
HasType fs (is_null i e) t = MakesOfOne null_test_type (HasType fs e) t
HasType fs (negation i e) t = MakesOfOne (type_from truth_type truth_type) (HasType fs e) t
HasType fs (conjunction i a b) t = MakesOfTwo logic_type (HasType fs a) (HasType fs b) t
HasType fs (disjunction i a b) t = MakesOfTwo logic_type (HasType fs a) (HasType fs b) t

-- an operator's operand has a type that it doesn't take; its operands have types that it doesn't take together
abbrev pub MisusesOne : (ValueType → Option ValueType) → (ValueType → Type 0) → Type 0
MisusesOne rule Has = (u : ValueType) × Has u × (rule u ≡ None)

abbrev pub MisusesTwo : (ValueType → ValueType → Option ValueType) → (ValueType → Type 0) → (ValueType → Type 0) → Type 0
MisusesTwo rule Has Has' = (u : ValueType) × (v : ValueType) × Has u × Has' v × (rule u v ≡ None)

-- ---- paths and operators

-- a path that is to have a value leads to no field, or to a group
abbrev pub IsPathProblem : Fields → PathSyntax → BindProblem → Type 0
IsPathProblem fs p unknown_field = LeadsNowhere fs p
IsPathProblem fs p not_a_leaf = LeadsToGroup fs p
IsPathProblem fs p problem = ⊥

-- an operator at a place is misused
abbrev pub IsMismatch : ℕ → Type 0 → BindProblem → ℕ → Type 0
IsMismatch j misused problem i = (j ≡ i) × (problem ≡ type_mismatch) × misused

-- a path or an operator of an expression has this problem, at the place i
abbrev pub IsBrokenIn : Fields → ExpressionSyntax → BindProblem → ℕ → Type 0
IsBrokenIn fs (number_literal n) p i = ⊥
IsBrokenIn fs (text_literal s) p i = ⊥
IsBrokenIn fs (truth_literal b) p i = ⊥
IsBrokenIn fs (path x) p i = (x.place ≡ i) × IsPathProblem fs x p
IsBrokenIn fs (negative j e) p i = IsMismatch j (MisusesOne (type_from number_type number_type) (HasType fs e)) p i ⊎ IsBrokenIn fs e p i
IsBrokenIn fs (arithmetic j o a b) p i =
    IsMismatch j (MisusesTwo (arithmetic_type o) (HasType fs a) (HasType fs b)) p i ⊎ (IsBrokenIn fs a p i ⊎ IsBrokenIn fs b p i)
IsBrokenIn fs (comparison j c a b) p i =
    IsMismatch j (MisusesTwo comparison_type (HasType fs a) (HasType fs b)) p i ⊎ (IsBrokenIn fs a p i ⊎ IsBrokenIn fs b p i)
IsBrokenIn fs (like j e s) p i = IsMismatch j (MisusesOne (type_from text_type truth_type) (HasType fs e)) p i ⊎ IsBrokenIn fs e p i
IsBrokenIn fs (contains j e s) p i = IsMismatch j (MisusesOne (type_from text_type truth_type) (HasType fs e)) p i ⊎ IsBrokenIn fs e p i
IsBrokenIn fs (is_null j e) p i = IsMismatch j (MisusesOne null_test_type (HasType fs e)) p i ⊎ IsBrokenIn fs e p i
IsBrokenIn fs (negation j e) p i = IsMismatch j (MisusesOne (type_from truth_type truth_type) (HasType fs e)) p i ⊎ IsBrokenIn fs e p i
IsBrokenIn fs (conjunction j a b) p i =
    IsMismatch j (MisusesTwo logic_type (HasType fs a) (HasType fs b)) p i ⊎ (IsBrokenIn fs a p i ⊎ IsBrokenIn fs b p i)
IsBrokenIn fs (disjunction j a b) p i =
    IsMismatch j (MisusesTwo logic_type (HasType fs a) (HasType fs b)) p i ⊎ (IsBrokenIn fs a p i ⊎ IsBrokenIn fs b p i)

-- a value at the place j is of another type than the wanted one
abbrev pub IsOtherType : ValueType → ℕ → (ValueType → Type 0) → BindProblem → ℕ → Type 0
IsOtherType wanted j Has problem i = (j ≡ i) × (problem ≡ type_mismatch) × (t : ValueType) × Has t × (t ≢ wanted)

-- the condition, which is to be a truth value: told at its first token
abbrev pub IsBrokenCondition : Fields → ConditionSyntax → BindProblem → ℕ → Type 0
IsBrokenCondition fs c p i = IsBrokenIn fs c.expression p i ⊎ IsOtherType truth_type c.place (HasType fs c.expression) p i

-- WITHIN's node leads to no field
abbrev pub IsBrokenNode : Fields → NodeSyntax → BindProblem → ℕ → Type 0
IsBrokenNode fs whole_record p i = ⊥
IsBrokenNode fs (node x) p i = (x.place ≡ i) × (p ≡ unknown_field) × LeadsNowhere fs x

abbrev pub IsBrokenWithin : Fields → Option WithinSyntax → BindProblem → ℕ → Type 0
IsBrokenWithin fs None p i = ⊥
IsBrokenWithin fs (Some w) p i = IsBrokenNode fs w.node p i

-- the argument of an aggregate at the place j, which for SUM is to be a number
abbrev pub IsBrokenArgument : Fields → ℕ → Aggregate → ExpressionSyntax → BindProblem → ℕ → Type 0
IsBrokenArgument fs j sum e p i = IsBrokenIn fs e p i ⊎ IsOtherType number_type j (HasType fs e) p i
IsBrokenArgument fs j a e p i = IsBrokenIn fs e p i

-- what an item at the place j gives
abbrev pub IsBrokenTerm : Fields → ℕ → TermSyntax → BindProblem → ℕ → Type 0
IsBrokenTerm fs j (expression e) p i = IsBrokenIn fs e p i
IsBrokenTerm fs j (count_rows w) p i = IsBrokenWithin fs w p i
IsBrokenTerm fs j (aggregate a e w) p i = IsBrokenArgument fs j a e p i ⊎ IsBrokenWithin fs w p i

abbrev pub IsBrokenKey : Fields → PathSyntax → BindProblem → ℕ → Type 0
IsBrokenKey fs x p i = (x.place ≡ i) × IsPathProblem fs x p

-- ---- the rules of a query

-- a path or an operator of the query has this problem, at the place i: in the condition, in an item, as a key
abbrev pub IsBrokenPart : Fields → QuerySyntax → BindProblem → ℕ → Type 0
IsBrokenPart fs q p i = ((c : ConditionSyntax) × (q.condition ≡ Some c) × IsBrokenCondition fs c p i)
    ⊎ (((n : ℕ) × (x : ItemSyntax) × (slice_get q.items n ≡ Some x) × IsBrokenTerm fs x.place x.term p i)
    ⊎ ((n : ℕ) × (x : PathSyntax) × (slice_get q.keys n ≡ Some x) × IsBrokenKey fs x p i))

-- the name behind FROM, at the place i, isn't the message's
abbrev pub IsUnknownTable : Schema → QuerySyntax → ℕ → Type 0
IsUnknownTable s q i = (q.table.place ≡ i) × (q.table.name ≢ s.name)
