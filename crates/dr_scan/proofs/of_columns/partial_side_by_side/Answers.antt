use Rattle.std.proofs.Common.{◌≡◌, ◌∙◌, List, [], map, sym, ap, subst}
use Rattle.std.specs.Prelude.{Ok}
use Rattle.dr_meaning.specs.Column.{Triplet}
use Rattle.dr_meaning.specs.Path.{paths_of_leaves}
use Rattle.dr_levels.specs.Views.{columns_view, triplets_view}
use Rattle.dr_group.specs.Partials.{partial_view}
use Rattle.dr_plan.specs.Planned.{plan_leaves}
use Rattle.dr_walk.specs.Walking.{HasColumns}
use Rattle.dr_scan.proofs.WholeLemmas.{are_alone, of_all}
use Rattle.dr_scan.proofs.of_columns.partial_side_by_side.Goals as goal

pub take-requires : goal.take-requires
take-requires c =
    let p = c.args.plan.now in
    let h = c.requires.have in
    let n = c.args.records in
    let given : map triplets_view c.deref.result.now ≡ columns_view c.args.columns.now = ap (map triplets_view) c.deref.ensures.value ∙ c.in_ok-triplets.ensures in
    let have = subst (λ (D : List (List Triplet)). HasColumns h.0.fields (paths_of_leaves (plan_leaves p)) D n h.2.0) (sym given) h.2.1 in
    (h.0, p, [], c.requires.scan h.0 h.1, are_alone h.0 p (map triplets_view c.deref.result.now) n h.2.0 have)

pub returns-then-branch-clause-partial : goal.returns-then-branch-clause-partial
returns-then-branch-clause-partial c = λ s is R h.
    let p = c.args.plan.now in
    let n = c.args.records in
    let C = map triplets_view c.deref.result.now in
    let given : C ≡ columns_view c.args.columns.now = ap (map triplets_view) c.deref.ensures.value ∙ c.in_ok-triplets.ensures in
    let have = subst (λ (D : List (List Triplet)). HasColumns s.fields (paths_of_leaves (plan_leaves p)) D n R) (sym given) h in
    let x = c.take.ensures.taken (c.in_ok-take.was ∙ ap Ok c.if-branch.true) s p [] (c.requires.scan s is) (are_alone s p C n R have) in
    of_all s p C n x.0 (partial_view c.close.result) is x.1 (c.close.ensures.partial s p x.0 x.2) R have

pub returns-then-branch-clause-of_plan : goal.returns-then-branch-clause-of_plan
returns-then-branch-clause-of_plan c =
    let p = c.args.plan.now in
    let n = c.args.records in
    let h = c.requires.have in
    let C = map triplets_view c.deref.result.now in
    let given : C ≡ columns_view c.args.columns.now = ap (map triplets_view) c.deref.ensures.value ∙ c.in_ok-triplets.ensures in
    let have = subst (λ (D : List (List Triplet)). HasColumns h.0.fields (paths_of_leaves (plan_leaves p)) D n h.2.0) (sym given) h.2.1 in
    let x = c.take.ensures.taken (c.in_ok-take.was ∙ ap Ok c.if-branch.true) h.0 p [] (c.requires.scan h.0 h.1) (are_alone h.0 p C n h.2.0 have) in
    c.close.ensures.of_plan h.0 p x.0 x.2
