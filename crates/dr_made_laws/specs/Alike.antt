-- What is the same in nodes of a schema's shapes: records, what is kept of them and their rows are such, and have values of the leaves' types.
use Rattle.std.specs.Prelude.{◌≡◌, List, [], ◌∷◌, Bool, true, if◌then◌else◌, Option, None, Some}
use Rattle.std.specs.List.{list_all, filter_map}
use Rattle.dr_meaning.specs.Schema.{Fields}
use Rattle.dr_meaning.specs.Path.{Step}
use Rattle.dr_meaning.specs.Record.{Node, is_record}
use Rattle.dr_meaning.specs.Expression.{Expression, evaluate, expression_chain, is_true, paths_of}
use Rattle.dr_meaning.specs.Kept.{kept, kept_along}
use Rattle.dr_meaning.specs.BindingLaws.{has_shapes}
use Rattle.dr_kept_laws.specs.GroupFlow.{Reading}
use Rattle.dr_kept_laws.specs.GroupFlowLaws.{all_means}

-- one with one, readings of the same chain that mean the same in such rows
abbrev pub MeanAlike : {X : Type 0} → Fields → List (Reading X) → List (Reading X) → Type 0
MeanAlike fs [] [] = Unit {0}
MeanAlike fs [] (y ∷ ys) = ⊥
MeanAlike fs (x ∷ xs) [] = ⊥
MeanAlike fs (x ∷ xs) (y ∷ ys) = ((x.level ≡ y.level) × ((row : Node) → has_shapes fs row ≡ true → x.means row ≡ y.means row)) × MeanAlike fs xs ys

-- in what a condition leaves of records they mean the same
abbrev pub AlikeReadings : Type 0 → Type 0
AlikeReadings X = (fs : Fields) (c : Option Expression) (xs ys : List (Reading X)) → MeanAlike fs xs ys → (R : List Node)
    → list_all (is_record fs) R ≡ true → all_means xs (filter_map (kept c) R) ≡ all_means ys (filter_map (kept c) R)

-- a test that is the condition in such rows keeps of a record what the condition keeps
abbrev pub AlikeConditions : Type 0
AlikeConditions = (fs : Fields) (e : Expression) (p : List Step) (test : Node → Bool) → p ≡ expression_chain e
    → ((row : Node) → has_shapes fs row ≡ true → test row ≡ is_true (evaluate e row))
    → (n : Node) → is_record fs n ≡ true → kept (Some e) n ≡ kept_along p test n

-- without leaves it keeps each record or none
abbrev pub ConstantConditions : Type 0
ConstantConditions = (fs : Fields) (e : Expression) (b : Bool) → paths_of e ≡ []
    → ((row : Node) → has_shapes fs row ≡ true → b ≡ is_true (evaluate e row))
    → (n : Node) → is_record fs n ≡ true → kept (Some e) n ≡ (if b then Some n else None)
