-- What the problems of the words of `load` stand for.
use Rattle.std.specs.Prelude.{ℕ, List, Bool, not, ◌==◌}
use Rattle.std.specs.List.{list_all}
use Rattle.dr_formats.specs.Loading.{WordsRefusal, leaf_refused, copies_refused}
use Rattle.dr_load.specs.declared.words.WordsProblem.{WordsProblem}

-- no byte is a line feed
abbrev pub no_lf : List ℕ → Bool
no_lf text = list_all (λ b. not (b == 10)) text

-- a problem as a refusal
abbrev pub words_problem_view : WordsProblem → WordsRefusal
words_problem_view (WordsProblem.Leaf n) = leaf_refused n
words_problem_view WordsProblem.Copies = copies_refused
