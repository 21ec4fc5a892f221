-- A condition as expressions all of which must be true.
use Rattle.std.specs.Prelude.{◌≡◌, ℕ, ◌+◌, true, List, [], ◌∷◌, ◌++◌, length, Option, Some, None, option_map}
use Rattle.std.specs.List.{list_all, flat_map, slice_get}
use Rattle.dr_meaning.specs.Schema.{Fields}
use Rattle.dr_meaning.specs.Record.{Node, bool_value}
use Rattle.dr_meaning.specs.Expression.{Expression, constant, conjunction}
use Rattle.dr_meaning.specs.Expression.{evaluate, is_true, paths_of}
use Rattle.dr_meaning.specs.Query.{Query, meaning}

-- the parts of an expression between the ANDs at its top, in order
abbrev pub conjuncts : Expression → List Expression
conjuncts (conjunction a b) = conjuncts a ++ conjuncts b
conjuncts e = e ∷ []

-- the parts of a condition; there are none without one
abbrev pub condition_conjuncts : Option Expression → List Expression
condition_conjuncts None = []
condition_conjuncts (Some e) = conjuncts e

-- an expression and others, joined by AND
abbrev pub joined : Expression → List Expression → Expression
joined e [] = e
joined e (f ∷ fs) = joined (conjunction e f) fs

-- the condition that all of these are true
abbrev pub all_of : List Expression → Option Expression
all_of [] = None
all_of (e ∷ es) = Some (joined e es)

-- ---- as it was written

-- how conjuncts, by their numbers from 0 on, are joined by AND
pub data Joining : Type 0 where
  by_number : ℕ → Joining
  by_and : Joining → Joining → Joining

-- how its conjuncts are joined in an expression, where the first of them has the number n
abbrev pub joining_from : ℕ → Expression → Joining
joining_from n (conjunction a b) = by_and (joining_from n a) (joining_from (n + length (conjuncts a)) b)
joining_from n e = by_number n

-- how its conjuncts are joined in a condition
abbrev pub condition_joining : Option Expression → Option Joining
condition_joining c = option_map (joining_from 0) c

-- a conjunct, and TRUE where there is none
abbrev pub or_true : Option Expression → Expression
or_true None = constant (bool_value true)
or_true (Some e) = e

-- conjuncts joined so
abbrev pub rejoined : List Expression → Joining → Expression
rejoined es (by_number n) = or_true (slice_get es n)
rejoined es (by_and a b) = conjunction (rejoined es a) (rejoined es b)

-- the condition of these conjuncts that are joined so; there is none without a joining
abbrev pub condition_written : List Expression → Option Joining → Option Expression
condition_written es j = option_map (rejoined es) j

-- ---- the laws

-- an expression is true in a row exactly where each of its conjuncts is
abbrev pub TrueWhereEachIs : Type 0
TrueWhereEachIs = (e : Expression) (row : Node) → is_true (evaluate e row) ≡ list_all (λ f. is_true (evaluate f row)) (conjuncts e)

-- the conjuncts have the paths of the expression, in their order
abbrev pub ConjunctsHavePaths : Type 0
ConjunctsHavePaths = (e : Expression) → flat_map paths_of (conjuncts e) ≡ paths_of e

-- a query means the same where its condition is cut into conjuncts and these are joined again
abbrev pub RejoinedMeansSame : Type 0
RejoinedMeansSame = (fs : Fields) (q : Query) (R : List Node)
    → meaning fs (record q { condition = all_of (condition_conjuncts q.condition) }) R ≡ meaning fs q R

-- the conjuncts of an expression, joined as they are in it, are the expression itself
abbrev pub RejoinedIsSame : Type 0
RejoinedIsSame = (e : Expression) → rejoined (conjuncts e) (joining_from 0 e) ≡ e
