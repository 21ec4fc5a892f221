-- Moves as they nest.
use Rattle.std.specs.Prelude.{◌≡◌, ℕ, List, [], ◌∷◌, ◌++◌, true}
use Rattle.std.specs.List.{list_all}
use Rattle.dr_meaning.specs.Schema.{Fields}
use Rattle.dr_meaning.specs.Path.{Step, is_leaf_path}
use Rattle.dr_meaning.specs.Record.{Node, is_record}
use Rattle.dr_meaning.specs.Column.{Triplet}
use Rattle.dr_meaning.specs.Walk.{Move, enter, value, leave, walk}
use Rattle.dr_moves.specs.Context.{Context, with_value}

-- moves as they nest: nothing more; a triplet, or an instance with what is in it, before what follows
pub data Tour : Type 0 where
  over : Tour
  saw : ℕ → Triplet → Tour → Tour
  inside : ℕ → Tour → Tour → Tour

-- its moves, one after another
abbrev pub moves_of : Tour → List Move
moves_of over = []
moves_of (saw i t T) = value i t ∷ moves_of T
moves_of (inside k B T) = enter k ∷ (moves_of B ++ leave k ∷ moves_of T)

-- the context behind it
abbrev pub after : Context → Tour → Context
after c over = c
after c (saw i t T) = after (with_value i t.value c) T
after c (inside k B T) = after (after c B) T

-- moves that nest
pub record Toured (ms : List Move) : Type 0 where
  pub tour : Tour
  pub moves : moves_of tour ≡ ms

-- the walk of records nests
abbrev pub WalkIsTour : Type 0
WalkIsTour = (fs : Fields) (F : List (List Step)) (R : List Node) → list_all (is_leaf_path fs) F ≡ true → list_all (is_record fs) R ≡ true → Toured (walk fs F R)
