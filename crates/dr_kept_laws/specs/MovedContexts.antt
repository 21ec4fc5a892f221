-- The context behind moves.
use Rattle.std.specs.Prelude.{List, [], ◌∷◌}
use Rattle.dr_meaning.specs.Walk.{Move, enter, value, leave}
use Rattle.dr_moves.specs.Context.{Context, with_value}

-- what was read last of each leaf behind these moves
abbrev pub after_moves : Context → List Move → Context
after_moves c [] = c
after_moves c (enter k ∷ ms) = after_moves c ms
after_moves c (value i t ∷ ms) = after_moves (with_value i t.value c) ms
after_moves c (leave k ∷ ms) = after_moves c ms
