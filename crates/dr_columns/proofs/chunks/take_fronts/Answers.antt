use Rattle.std.proofs.Common.{◌≡◌, ◌∙◌, List, Ok, length, map, ap, sym, subst, arith}
use Rattle.std.proofs.lemmas.List.{length-map}
use Rattle.dr_meaning.specs.Column.{Triplet}
use Rattle.dr_levels.specs.Views.{triplets_view}
use Rattle.dr_levels.specs.declared.triplets.Triplets.{Triplets}
use Rattle.dr_plan.specs.Planned.{plan_leaves}
use Rattle.dr_beside.specs.Chunks.{HasColumns, NoneHas}
use Rattle.dr_agreement.specs.Alone.{AreColumnsAlone}
use Rattle.dr_agreement.proofs.AloneLemmas.{as_many_tests}
use Rattle.dr_columns.specs.Taken.{plan_paths}
use Rattle.dr_columns.proofs.StepLemmas.{alone_of, none_alone, lengths_seen}
use Rattle.dr_columns.proofs.chunks.take_fronts.Goals as goal

pub each_alone-requires : goal.each_alone-requires
each_alone-requires c =
    let a = c.requires.taken.4 in
    let n = as_many_tests (plan_leaves c.requires.taken.1) c.args.tests.now a.are_tests in
    let k = length-map c.in_ok-fronts.fronts.items triplets_view in
    ap length c.deref.ensures.value ∙ (sym k ∙ (c.in_ok-fronts.ensures.0 ∙ (a.as_many ∙ n)))

pub take-requires : goal.take-requires
take-requires c =
    let t = c.requires.taken in
    let cs = c.in_ok-fronts.fronts.items in
    let alone = subst (λ (ds : List Triplets). AreColumnsAlone (plan_leaves t.1) (map triplets_view ds) c.args.records) c.deref.ensures.value (c.each_alone.ensures.columns c.in-Columns.is (plan_leaves t.1) t.4.are_tests) in
    (t.0, t.1, t.2, t.3, alone_of t.0 t.1 c.args.leaves.now c.args.tests.now c.args.records c.deref-in-Columns.result.now cs c.deref-in-Columns.ensures.value t.4 c.in_ok-fronts.ensures alone)

pub returns-then-not-branch : goal.returns-then-not-branch
returns-then-not-branch c = record {
  taken = λ s p R t a. (
    map triplets_view c.in_ok-fronts.fronts.items,
    c.in_ok-fronts.ensures,
    subst (λ (ds : List Triplets). NoneHas s.fields (plan_paths p) (map triplets_view ds) c.args.records) c.deref-in-Columns.ensures.value (c.take.ensures.none (c.in_ok-take-in-Columns.was ∙ ap Ok c.if-not-branch.true) s p R t),
  );
}

pub returns-in-Columns : goal.returns-in-Columns
returns-in-Columns c = record {
  taken = λ s p R t a.
      let cs = c.in_ok-fronts.fronts.items in
      let alone = subst (λ (ds : List Triplets). AreColumnsAlone (plan_leaves p) (map triplets_view ds) c.args.records) c.deref.ensures.value (c.each_alone.ensures.columns c.in-Columns.is (plan_leaves p) a.are_tests) in
      let w = c.take.ensures.taken (c.in_ok-take-in-Columns.was ∙ ap Ok c.if-not-branch.false) s p R t (alone_of s p c.args.leaves.now c.args.tests.now c.args.records c.deref-in-Columns.result.now cs c.deref-in-Columns.ensures.value a c.in_ok-fronts.ensures alone) in (
        map triplets_view cs,
        c.in_ok-fronts.ensures,
        c.in_ok-lengths_of-in-Columns.ensures ∙ (ap (map (λ (x : Triplets). length (triplets_view x))) c.deref-in-Columns-2.ensures.value ∙ lengths_seen cs),
        w.0,
        subst (λ (ds : List Triplets). HasColumns s.fields (plan_paths p) (map triplets_view ds) c.args.records w.0) c.deref-in-Columns.ensures.value w.1,
        w.2,
      );
}

pub returns-in-NoColumn : goal.returns-in-NoColumn
returns-in-NoColumn c = record {
  taken = λ s p R t a. (
    map triplets_view c.in_ok-fronts.fronts.items,
    c.in_ok-fronts.ensures,
    none_alone s p c.args.leaves.now c.args.tests.now c.args.records c.deref.result.now c.in_ok-fronts.fronts.items c.deref.ensures.value a (c.each_alone.ensures.none c.in-NoColumn.is (plan_leaves p) a.are_tests),
  );
}
