-- The rules above paths and operators by which a query is bound to a schema, each by itself, on the syntax tree; and the law of all the rules.
use Rattle.std.specs.Prelude.{◌≡◌, ◌≢◌, ◌⊎◌, ◌↔◌, ◌<◌, ℕ, List, [], ◌∷◌, ◌++◌, map, true, false, Option, Some, None, Ok, Err}
use Rattle.std.specs.List.{slice_get}
use Rattle.dr_meaning.specs.Schema.{Schema, Fields, group}
use Rattle.dr_meaning.specs.Path.{Step, Found, find_path, chain_end, begins_with, same_path}
use Rattle.dr_meaning.specs.Expression.{longest_chain}
use Rattle.dr_meaning.specs.Query.{Query, levels_of}
use Rattle.dr_meaning.specs.Syntax.{PathSyntax, ExpressionSyntax, number_literal, text_literal, truth_literal, path, negative, arithmetic}
use Rattle.dr_meaning.specs.Syntax.{comparison, like, contains, is_null, negation, conjunction, disjunction, NodeSyntax, whole_record, node, WithinSyntax}
use Rattle.dr_meaning.specs.Syntax.{TermSyntax, expression, count_rows, aggregate, ItemSyntax, ConditionSyntax, QuerySyntax}
use Rattle.dr_meaning.specs.BoundExpression.{BindProblem, BindFault, unknown_table, unknown_field, not_a_leaf, type_mismatch, unrelated}
use Rattle.dr_meaning.specs.BoundExpression.{bad_within, not_grouped, duplicate_name}
use Rattle.dr_meaning.specs.Binding.{item_name, deepest_chain, list_between, is_before, bind}
use Rattle.dr_query_laws.specs.BindingRules.{IsBrokenIn, IsBrokenCondition, IsBrokenArgument, IsBrokenTerm, IsBrokenKey, IsBrokenPart, IsUnknownTable}

-- ---- parts that pass

-- no path and no operator of a part has a problem
abbrev pub Passes : (BindProblem → ℕ → Type 0) → Type 0
Passes IsBroken = (p : BindProblem) (i : ℕ) → IsBroken p i → ⊥

-- the nth item is this one, and passes
abbrev pub HasItem : Fields → QuerySyntax → ℕ → ItemSyntax → Type 0
HasItem fs q n x = (slice_get q.items n ≡ Some x) × Passes (IsBrokenTerm fs x.place x.term)

-- the nth of the keys is this one, and passes
abbrev pub HasKey : Fields → List PathSyntax → ℕ → PathSyntax → Type 0
HasKey fs keys n k = (slice_get keys n ≡ Some k) × Passes (IsBrokenKey fs k)

abbrev pub KeysPass : Fields → List PathSyntax → Type 0
KeysPass fs keys = (n : ℕ) (k : PathSyntax) → slice_get keys n ≡ Some k → Passes (IsBrokenKey fs k)

-- ---- paths

-- the fields on a path, down to where it leads; none where it leads nowhere
abbrev pub steps_to : Option Found → List Step
steps_to None = []
steps_to (Some f) = f.path

abbrev pub steps_of : Fields → PathSyntax → List Step
steps_of fs x = steps_to (find_path x.names fs)

-- the paths of an expression, in the order of the text
abbrev pub paths_in : ExpressionSyntax → List PathSyntax
paths_in (number_literal n) = []
paths_in (text_literal s) = []
paths_in (truth_literal b) = []
paths_in (path x) = x ∷ []
paths_in (negative i e) = paths_in e
paths_in (arithmetic i o a b) = paths_in a ++ paths_in b
paths_in (comparison i c a b) = paths_in a ++ paths_in b
paths_in (like i e s) = paths_in e
paths_in (contains i e s) = paths_in e
paths_in (is_null i e) = paths_in e
paths_in (negation i e) = paths_in e
paths_in (conjunction i a b) = paths_in a ++ paths_in b
paths_in (disjunction i a b) = paths_in a ++ paths_in b

abbrev pub all_steps_in : Fields → ExpressionSyntax → List (List Step)
all_steps_in fs e = map (steps_of fs) (paths_in e)

-- ---- unrelated paths

-- the repeated fields on one of two paths are the first of those on the other
abbrev pub AreNested : List Step → List Step → Type 0
AreNested p q = (begins_with (chain_end p) (chain_end q) ≡ true) ⊎ (begins_with (chain_end q) (chain_end p) ≡ true)

-- the nth of some paths isn't nested with an earlier one
abbrev pub IsStranger : Fields → List PathSyntax → ℕ → Type 0
IsStranger fs xs n = (x : PathSyntax) × (slice_get xs n ≡ Some x)
    × ((m : ℕ) × (y : PathSyntax) × (slice_get xs m ≡ Some y) × (m < n) × (AreNested (steps_of fs x) (steps_of fs y) → ⊥))

-- the first such path is at the place i
abbrev pub IsFirstStranger : Fields → List PathSyntax → ℕ → Type 0
IsFirstStranger fs xs i = (n : ℕ) × (x : PathSyntax) × (slice_get xs n ≡ Some x) × (x.place ≡ i) × IsStranger fs xs n × ((m : ℕ) → m < n → IsStranger fs xs m → ⊥)

abbrev pub HasStrangerInCondition : Fields → ConditionSyntax → ℕ → Type 0
HasStrangerInCondition fs c i = Passes (IsBrokenCondition fs c) × IsFirstStranger fs (paths_in c.expression) i

-- among the paths of an expression item, or of the keys followed by an aggregate's argument; a WITHIN that leads nowhere doesn't matter
abbrev pub HasStrangerInTerm : Fields → List PathSyntax → ℕ → TermSyntax → ℕ → Type 0
HasStrangerInTerm fs keys j (expression e) i = Passes (IsBrokenIn fs e) × IsFirstStranger fs (paths_in e) i
HasStrangerInTerm fs keys j (count_rows w) i = ⊥
HasStrangerInTerm fs keys j (aggregate a e w) i = KeysPass fs keys × Passes (IsBrokenArgument fs j a e) × IsFirstStranger fs (keys ++ paths_in e) i

-- a path at the place i isn't nested with an earlier one of its condition, its item, or the keys
abbrev pub IsUnrelated : Fields → QuerySyntax → ℕ → Type 0
IsUnrelated fs q i = ((c : ConditionSyntax) × (q.condition ≡ Some c) × HasStrangerInCondition fs c i)
    ⊎ (((n : ℕ) × (x : ItemSyntax) × (slice_get q.items n ≡ Some x) × HasStrangerInTerm fs q.keys x.place x.term i)
    ⊎ (KeysPass fs q.keys × IsFirstStranger fs q.keys i))

-- ---- nodes of WITHIN

-- the record, or a group whose path ends in a repeated field
abbrev pub IsRepeatedGroup : Found → Type 0
IsRepeatedGroup f = ((inner : Fields) × (f.shape ≡ group inner)) × (same_path (chain_end f.path) f.path ≡ true)

abbrev pub IsWhole : Fields → NodeSyntax → Type 0
IsWhole fs whole_record = Unit {0}
IsWhole fs (node x) = (f : Found) × (find_path x.names fs ≡ Some f) × IsRepeatedGroup f

abbrev pub node_steps : Fields → NodeSyntax → List Step
node_steps fs whole_record = []
node_steps fs (node x) = steps_of fs x

-- a node is whole, and the longest chain of repeated fields on the argument's paths begins with it
abbrev pub HoldsRows : Fields → NodeSyntax → ExpressionSyntax → Type 0
HoldsRows fs n e = IsWhole fs n × (begins_with (node_steps fs n) (longest_chain (all_steps_in fs e)) ≡ true)

-- a WITHIN at the place i, of `*` or of an argument whose rows its node doesn't hold
abbrev pub HasBadWithin : Fields → TermSyntax → ℕ → Type 0
HasBadWithin fs (expression e) i = ⊥
HasBadWithin fs (count_rows o) i = (w : WithinSyntax) × (o ≡ Some w) × (w.place ≡ i)
HasBadWithin fs (aggregate a e o) i = (w : WithinSyntax) × (o ≡ Some w) × (w.place ≡ i) × (HoldsRows fs w.node e → ⊥)

abbrev pub IsBadWithin : Fields → QuerySyntax → ℕ → Type 0
IsBadWithin fs q i = (n : ℕ) × (x : ItemSyntax) × HasItem fs q n x × HasBadWithin fs x.term i

-- ---- items of an aggregate query

-- an aggregate without WITHIN
abbrev pub IsOverGroup : TermSyntax → Type 0
IsOverGroup (expression e) = ⊥
IsOverGroup (count_rows w) = w ≡ None
IsOverGroup (aggregate a e w) = w ≡ None

-- a query with keys, or with an aggregate without WITHIN; any other is a record query
abbrev pub IsAggregateQuery : QuerySyntax → Type 0
IsAggregateQuery q = (q.keys ≢ []) ⊎ ((n : ℕ) × (x : ItemSyntax) × (slice_get q.items n ≡ Some x) × IsOverGroup x.term)

-- an expression is a path that leads where a key leads
abbrev pub IsKey : Fields → List PathSyntax → ExpressionSyntax → Type 0
IsKey fs keys (path x) = (n : ℕ) × (k : PathSyntax) × HasKey fs keys n k × (same_path (steps_of fs k) (steps_of fs x) ≡ true)
IsKey fs keys e = ⊥

abbrev pub StandsInGroup : Fields → List PathSyntax → TermSyntax → Type 0
StandsInGroup fs keys (expression e) = IsKey fs keys e
StandsInGroup fs keys (count_rows w) = w ≡ None
StandsInGroup fs keys (aggregate a e w) = w ≡ None

-- an item of an aggregate query, at the place i, that is neither a key nor an aggregate without WITHIN
abbrev pub IsNotGrouped : Fields → QuerySyntax → ℕ → Type 0
IsNotGrouped fs q i = IsAggregateQuery q × ((n : ℕ) × (x : ItemSyntax) × HasItem fs q n x × (x.place ≡ i) × (StandsInGroup fs q.keys x.term → ⊥))

-- ---- names

abbrev pub within_steps : Fields → Option WithinSyntax → List Step
within_steps fs None = []
within_steps fs (Some w) = chain_end (node_steps fs w.node)

-- the chain of a record query's object in which an item stands: the most repeated fields on a path of its expression, or its node
abbrev pub object_steps : Fields → TermSyntax → List Step
object_steps fs (expression e) = deepest_chain (all_steps_in fs e)
object_steps fs (count_rows w) = within_steps fs w
object_steps fs (aggregate a e w) = within_steps fs w

-- two items stand in one object, as all items of an aggregate query do
abbrev pub ShareObject : Fields → QuerySyntax → ItemSyntax → ItemSyntax → Type 0
ShareObject fs q x y = IsAggregateQuery q ⊎ (same_path (object_steps fs x.term) (object_steps fs y.term) ≡ true)

-- a list of this name leads from the object of one item of a record query to another item
abbrev pub ListLeads : Fields → QuerySyntax → List ℕ → ItemSyntax → ItemSyntax → Type 0
ListLeads fs q name x y = (IsAggregateQuery q → ⊥) × (list_between (levels_of fs) (object_steps fs x.term) (object_steps fs y.term) ≡ Some name)

abbrev pub name_of : ℕ → ItemSyntax → List ℕ
name_of n x = item_name n x.term x.name

-- the nth item has the name of an earlier one of its object
abbrev pub HasNameOfEarlier : Fields → QuerySyntax → ℕ → ItemSyntax → Type 0
HasNameOfEarlier fs q n x = (m : ℕ) × (y : ItemSyntax) × HasItem fs q m y × (m < n) × ShareObject fs q x y × (name_of n x ≡ name_of m y)

-- the nth item has the name of a list in its object that leads to another item
abbrev pub HasNameOfList : Fields → QuerySyntax → ℕ → ItemSyntax → Type 0
HasNameOfList fs q n x = (m : ℕ) × (y : ItemSyntax) × HasItem fs q m y × ListLeads fs q (name_of n x) x y

abbrev pub IsDuplicate : Fields → QuerySyntax → ℕ → Type 0
IsDuplicate fs q i = (n : ℕ) × (x : ItemSyntax) × HasItem fs q n x × (x.place ≡ i) × (HasNameOfEarlier fs q n x ⊎ HasNameOfList fs q n x)

-- ---- all rules

-- a query has this problem, at the place i
abbrev pub IsBroken : Schema → QuerySyntax → BindProblem → ℕ → Type 0
IsBroken s q unknown_table i = IsUnknownTable s q i
IsBroken s q unknown_field i = IsBrokenPart s.fields q unknown_field i
IsBroken s q not_a_leaf i = IsBrokenPart s.fields q not_a_leaf i
IsBroken s q type_mismatch i = IsBrokenPart s.fields q type_mismatch i
IsBroken s q unrelated i = IsUnrelated s.fields q i
IsBroken s q bad_within i = IsBadWithin s.fields q i
IsBroken s q not_grouped i = IsNotGrouped s.fields q i
IsBroken s q duplicate_name i = IsDuplicate s.fields q i

-- no rule is broken before this fault: at a lower place, or at the same place by a problem that is told earlier
abbrev pub NoneBefore : Schema → QuerySyntax → BindFault → Type 0
NoneBefore s q f = (p : BindProblem) (i : ℕ) → IsBroken s q p i → is_before (record { place = i; problem = p }) f ≡ false

-- ---- the laws

-- a fault is told exactly where its rule is broken and no rule is broken before it
abbrev pub ToldIsFirst : Type 0
ToldIsFirst = (s : Schema) (q : QuerySyntax) (f : BindFault) → (bind s q ≡ Err f) ↔ (IsBroken s q f.problem f.place × NoneBefore s q f)

-- a query is bound exactly where no rule is broken
abbrev pub BoundIsUnbroken : Type 0
BoundIsUnbroken = (s : Schema) (q : QuerySyntax) → ((b : Query) × (bind s q ≡ Ok b)) ↔ Passes (IsBroken s q)
