use Rattle.std.proofs.Common.{List, Option, ◌∙◌, sym, ap}
use Rattle.dr_within.specs.LevelTable.{level_in}
use Rattle.dr_within.specs.declared.levels.Level.{Level}
use Rattle.dr_within.proofs.LevelSteps.{lent_copied, level_at, level_past}
use Rattle.dr_within.proofs.levels.Levels.at.Goals as goal

pub returns-in-Some : goal.returns-in-Some
returns-in-Some c =
    let found = c.in-Some.ensures.lookup in
    lent_copied c.as_ref.result
    ∙ (c.as_ref.ensures.value ∙ (sym (level_at c.deref.result.now c.args.number c.in-Some.row.now found.3.0 found.1)
    ∙ ap (λ (xs : List (Option Level)). level_in xs c.args.number) c.deref.ensures.value))

pub returns-in-None : goal.returns-in-None
returns-in-None c =
    sym (level_past c.deref.result.now c.args.number c.in-None.ensures.lookup.3)
    ∙ ap (λ (xs : List (Option Level)). level_in xs c.args.number) c.deref.ensures.value
