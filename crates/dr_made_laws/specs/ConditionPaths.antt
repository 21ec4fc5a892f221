-- The paths of the condition of a query that is bound: their chains begin with one another.
use Rattle.std.specs.Prelude.{◌≡◌, true, Some, Ok}
use Rattle.dr_meaning.specs.Schema.{Schema}
use Rattle.dr_meaning.specs.Expression.{Expression, paths_of}
use Rattle.dr_meaning.specs.Query.{Query}
use Rattle.dr_meaning.specs.Syntax.{QuerySyntax}
use Rattle.dr_meaning.specs.Binding.{bind}
use Rattle.dr_partials.specs.PartialLaws.{all_related}

-- binding refuses a condition of which two paths aren't related
abbrev pub ConditionIsRelated : Type 0
ConditionIsRelated = (s : Schema) (x : QuerySyntax) (q : Query) (c : Expression) → bind s x ≡ Ok q → q.condition ≡ Some c
    → all_related (paths_of c) ≡ true
