use Rattle.std.proofs.Common.{◌≡◌, ◌∙◌, ap, map}
use Rattle.dr_meaning.specs.Binding as binding
use Rattle.dr_meaning.specs.Query.{Levels}
use Rattle.dr_nested.specs.PathView.{step_view}
use Rattle.dr_planning.specs.NamedLevels.{joined, levels_view}
use Rattle.dr_planning.proofs.EntryLemmas.{between-named}
use Rattle.dr_planning.proofs.names.is_list_between.Goals as goal

pub returns-in-None-clause-meant : goal.returns-in-None-clause-meant
returns-in-None-clause-meant c = λ (ls : Levels) (e : levels_view c.args.levels.now ≡ joined ls). ap (binding.is_named c.args.wanted.now)
    (c.in-None.ensures ∙ between-named (levels_view c.args.levels.now) ls (map step_view c.args.object.now) (map step_view c.args.level.now) e)

pub returns-in-Some-clause-meant : goal.returns-in-Some-clause-meant
returns-in-Some-clause-meant c = λ (ls : Levels) (e : levels_view c.args.levels.now ≡ joined ls). c.eq.ensures
    ∙ ap (binding.is_named c.args.wanted.now) (c.in-Some.ensures ∙ between-named (levels_view c.args.levels.now) ls (map step_view c.args.object.now) (map step_view c.args.level.now) e)
