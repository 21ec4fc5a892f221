-- What is known of a row: the values of leaves in it, and what stands at the end of its chain.
use Rattle.std.specs.Prelude.{List, [], ◌∷◌, map, Bool, true, false, Option, Some, None}
use Rattle.dr_meaning.specs.Path.{Step}
use Rattle.dr_meaning.specs.Record.{Value, Node, Instances, no_instances, instance, Instance, inner, instances_in}
use Rattle.dr_meaning.specs.Rows.{value_at}

-- the values of paths in a row
abbrev pub values_at : List (List Step) → Node → List (Option Value)
values_at ps row = map (λ p. value_at p row) ps

-- what stands below the first of some instances, if there is one
abbrev pub first_end : (Instance → Option Instance) → Instances → Option Instance
first_end f no_instances = None
first_end f (instance x xs) = f x

-- what stands at a path's end, where the first instance is taken of each field on it
abbrev pub end_in : List Step → Instance → Option Instance
end_in [] x = Some x
end_in (s ∷ p) x = first_end (end_in p) (instances_in s.place x)

-- whether there is at most one instance, which passes
abbrev pub only_one : (Instance → Bool) → Instances → Bool
only_one f no_instances = true
only_one f (instance x no_instances) = f x
only_one f (instance x (instance y ys)) = false

-- whether each field on a path has at most one instance
abbrev pub is_cut_in : List Step → Instance → Bool
is_cut_in [] x = true
is_cut_in (s ∷ p) x = only_one (is_cut_in p) (instances_in s.place x)

-- whether a record is cut along a path, as its rows are
abbrev pub is_cut : List Step → Node → Bool
is_cut p row = is_cut_in p (inner row)

-- a row by the values of leaves in it, and the instance at the end of its chain, none where that is absent
pub record Known : Type 0 where
  pub values : List (Option Value)
  pub end : Option Instance

-- what is known of a row of a chain, where these are the leaves
abbrev pub known : List (List Step) → List Step → Node → Known
known leaves chain row = record { values = values_at leaves row; end = end_in chain (inner row) }
