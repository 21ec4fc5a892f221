use Rattle.std.proofs.Common.{◌≡◌, ◌+◌, ◌-◌, ℕ, List, [], ◌∷◌, ◌++◌, take, length, sym, ap, ◌∙◌, subst, arith}
use Rattle.std.proofs.lemmas.List.{take_more, take_all}
use Rattle.dr_nested.specs.SchemaView.{schema_view}
use Rattle.dr_plan.specs.PlanOf.{IsPlanOf}
use Rattle.dr_tree.specs.Views.{tree_view}
use Rattle.dr_service.specs.Answering.{HasGrownOf}
use Rattle.dr_service.proofs.GrowthLemmas.{grown_of_none, can_add_next, grown_next}
use Rattle.dr_service.proofs.answer.grow.Goals as goal

pub tablets-init : goal.tablets-init
tablets-init g c =
    let s = schema_view c.args.schema.now in
    let tree = tree_view c.args.tree.now in
    let n : length c.args.tablets.now - 0 ≡ length c.args.tablets.now = omega arith in
    λ q is. subst (λ (m : ℕ). HasGrownOf s q c.args.plan.now tree [] m c.in_ok-growing.growing) (sym n)
    (grown_of_none s q c.args.plan.now tree is c.in_ok-growing.growing (length c.args.tablets.now) c.requires.tree (c.in_ok-growing.ensures s.fields))

pub add-requires : goal.add-requires
add-requires g c =
    let s = schema_view c.args.schema.now in
    let h = c.requires.planned in
    let is : IsPlanOf s h.1 c.args.plan.now = (h.0, h.2, h.3) in
    can_add_next s h.1 c.args.plan.now (tree_view c.args.tree.now) is c.args.tablets.now c.tablets.number c.index-tablets-number.result c.in_ok-partial.partial c.tablets.growing c.tablets-test.true (c.tablets.invariant h.1 is)
    (c.in_ok-partial.ensures.scanned h.1 is) c.requires.few c.in_ok-partial.ensures.of_plan

pub tablets-preserved : goal.tablets-preserved
tablets-preserved g c =
    let s = schema_view c.args.schema.now in
    let ts = c.args.tablets.now in
    let i = c.tablets.number in
    let t : List ℕ = c.index-tablets-number.result in
    let more : take (i + 1) ts ≡ take i ts ++ t ∷ [] = take_more ts i t c.tablets-test.true ∙ ap (λ (x : List ℕ). take i ts ++ x ∷ []) (sym c.index-tablets-number.is) in
    λ q is. grown_next s q c.args.plan.now (tree_view c.args.tree.now) is ts i t c.in_ok-partial.partial c.tablets.growing c.tablets-test.true (c.tablets.invariant q is) (c.in_ok-partial.ensures.scanned q is) c.add.new.self c.requires.few
    c.in_ok-partial.ensures.of_plan more c.in_ok-add.ensures.added

pub returns : goal.returns
returns g c =
    let s = schema_view c.args.schema.now in
    let ts = c.args.tablets.now in
    let i = c.tablets.number in
    let all : take i ts ≡ ts = take_all i ts c.tablets-test.false in
    let none : length ts - i ≡ 0 = omega (arith, c.tablets-test.false) in
    λ q is. subst (λ (x : List (List ℕ) × ℕ). HasGrownOf s q c.args.plan.now (tree_view c.args.tree.now) x.0 x.1 c.tablets.growing) (λ k. (all k, none k)) (c.tablets.invariant q is)
