use Rattle.std.proofs.Common.{◌≡◌, ◌∙◌, List, Ok, sym, ap, subst}
use Rattle.dr_meaning.specs.Path.{Step}
use Rattle.dr_condition.specs.Parted.{constants_hold}
use Rattle.dr_rows_beside.specs.Makings.{IsKeepingOf}
use Rattle.dr_columns.proofs.TakenLemmas.{paths_same}
use Rattle.dr_columns.proofs.keeps.Keeps.of.Goals as goal

pub returns-in-Some : goal.returns-in-Some
returns-in-Some c =
    let p = c.args.plan.now in (
      ap constants_hold (sym c.deref.ensures.value) ∙ sym c.in_ok-constants_hold.ensures ∙ c.if-not-branch.false,
      subst (λ (F : List (List Step)). IsKeepingOf F p.test.items c.in-Some.keeping) (paths_same p.leaves.items) (c.of.ensures.some c.in-Some.keeping (c.in_ok-of.was ∙ ap Ok c.in-Some.is)),
    )
