-- Tests of a row.
use Rattle.std.specs.Prelude.{List, Bool}
use Rattle.std.specs.List.{list_all}
use Rattle.dr_meaning.specs.Record.{Node}
use Rattle.dr_meaning.specs.Expression.{Expression, evaluate, is_true}

-- whether each expression is true in the row: neither false nor NULL
abbrev pub all_true : List Expression → Node → Bool
all_true es row = list_all (λ e. is_true (evaluate e row)) es
