use Rattle.std.proofs.Common.{Some, sym, subst}
use Rattle.std.specs.Prelude.{IfOk}
use Rattle.dr_walk.specs.Walking.{HasLevels}
use Rattle.dr_walk.specs.Valued.{IsKeptFor, IsValued, HasForm}
use Rattle.dr_walk.proofs.ValueLemmas.{valued_leaf, form_leaf}
use Rattle.dr_walk.proofs.walk.Walk.give.Goals as goal

pub returns-in-Leaf-clause-valued : goal.returns-in-Leaf-clause-valued
returns-in-Leaf-clause-valued c = λ left h k.
    let x = c.in-Leaf in
    let values = c.args.self.now.values.items in
    subst (λ s. IsValued left (Some s) c.give_leaf.result) (sym x.is)
    (valued_leaf left x.leaf x.levels x.kind values c.give_leaf.result (subst (λ s. HasLevels left (Some s)) x.is h) (subst (λ s. IsKeptFor left values (Some s)) x.is k) c.give_leaf.ensures.gives)

pub returns-in-Leaf-clause-form : goal.returns-in-Leaf-clause-form
returns-in-Leaf-clause-form c =
    let x = c.in-Leaf in
    subst (λ s. IfOk c.give_leaf.result (HasForm (Some s))) (sym x.is) (form_leaf x.leaf x.levels x.kind _ _ c.give_leaf.result c.give_leaf.ensures.gives)
