use Rattle.std.proofs.Common.{◌≡◌, ◌∙◌, ℕ, List, [], length, map, refl, sym, ap, subst, arith}
use Rattle.std.specs.Prelude.{Result, Ok}
use Rattle.std.specs.List.{list_all}
use Rattle.std.proofs.lemmas.List.{length-map}
use Rattle.std.proofs.lemmas.Result.{IfOk-weaker}
use Rattle.dr_meaning.specs.Path.{Step, Leaf, is_leaf_path, paths_of_leaves}
use Rattle.dr_meaning.specs.Walk as moves
use Rattle.dr_nested.specs.SchemaView.{schema_view}
use Rattle.dr_nested.specs.PathView.{lent_path, path_view, paths_view}
use Rattle.dr_levels.specs.Views.{columns_view}
use Rattle.dr_moves.specs.Leading.{columns_of}
use Rattle.dr_moves.specs.Selection.{all_differ}
use Rattle.dr_group.specs.Partials.{partial_view}
use Rattle.dr_plan.specs.Planned.{plan_leaves}
use Rattle.dr_walk.specs.Walking.{IsAtLevels}
use Rattle.dr_walk.specs.declared.fault.AssembleFault.{AssembleFault}
use Rattle.dr_within.specs.Rows.{HasLast}
use Rattle.dr_scan.specs.Wholes.{IsBeforeAll, EndsWhole}
use Rattle.dr_scan.specs.declared.stretch.Stretch.{Stretch}
use Rattle.dr_scan.proofs.LeafLemmas.{plan_leaf_paths, plan_paths_differ}
use Rattle.dr_scan.proofs.MakingLemmas.{made_all}
use Rattle.dr_scan.proofs.RecordsLemmas.{paths_same}
use Rattle.dr_scan.proofs.StreamLemmas.{streams_begin}
use Rattle.dr_scan.proofs.WholeLemmas.{as_many, of_all, none_past, whole_have}
use Rattle.dr_scan.proofs.of_columns.partial_by_walk.Goals as goal

pub start-requires-clause-leaves : goal.start-requires-clause-leaves
start-requires-clause-leaves c =
    let s = schema_view c.args.schema.now in
    let p = c.args.plan.now in
    let paths : map lent_path c.deref-2.result.now ≡ paths_of_leaves (plan_leaves p) = ap (map lent_path) c.deref-2.ensures.value ∙ (c.in_ok-fields.ensures ∙ (ap paths_view c.deref.ensures.value ∙ paths_same p.leaves.items)) in
    ap (list_all (is_leaf_path s.fields)) paths ∙ plan_leaf_paths s p c.requires.planned

pub start-requires-clause-differ : goal.start-requires-clause-differ
start-requires-clause-differ c =
    let s = schema_view c.args.schema.now in
    let p = c.args.plan.now in
    let paths : map lent_path c.deref-2.result.now ≡ paths_of_leaves (plan_leaves p) = ap (map lent_path) c.deref-2.ensures.value ∙ (c.in_ok-fields.ensures ∙ (ap paths_view c.deref.ensures.value ∙ paths_same p.leaves.items)) in
    ap all_differ paths ∙ plan_paths_differ s p c.requires.planned

pub make_whole-requires : goal.make_whole-requires
make_whole-requires c =
    let s = schema_view c.args.schema.now in
    let p = c.args.plan.now in
    let F = plan_leaves p in
    let rows = c.args.records in
    let cs = columns_view c.args.columns.now in
    let walk = c.in_ok-walk.walk in
    let h = c.requires.have in
    let paths : map lent_path c.deref-2.result.now ≡ paths_of_leaves F = ap (map lent_path) c.deref-2.ensures.value ∙ (c.in_ok-fields.ensures ∙ (ap paths_view c.deref.ensures.value ∙ paths_same p.leaves.items)) in
    let count : length c.deref-2.result.now ≡ length F = sym (length-map c.deref-2.result.now lent_path) ∙ (ap length paths ∙ length-map F (λ (l : Leaf). l.path)) in
    let n : length F ≡ length p.leaves.items = length-map p.leaves.items path_view in (
      s,
      p,
      rows,
      record {
        planned = c.requires.planned;
        streamed = λ ended. streams_begin s p rows (length c.deref-2.result.now) ended walk (columns_of cs) count c.in_ok-walk.ensures.wants (λ i l. none_past cs (length F) i (as_many s p cs rows h.0 h.1) l)
            (λ C k. subst (λ (G : List (List Step)). IsAtLevels s.fields G rows C [] (columns_of C) walk) paths (c.in_ok-walk.ensures.at C k));
        makes = c.in_ok-making.ensures;
        reads = subst (λ (k : ℕ). HasLast k [] c.in_ok-none.none) (omega (arith, n, c.len.ensures, p.leaves.ok.0)) c.in_ok-none.ensures;
      },
    )

pub close-requires : goal.close-requires
close-requires c =
    let s = schema_view c.args.schema.now in
    let p = c.args.plan.now in
    let rows = c.args.records in
    let cs = columns_view c.args.columns.now in
    let making = c.make_whole.new.making in
    let F = plan_leaves p in
    let walk = c.in_ok-walk.walk in
    let h = c.requires.have in
    let paths : map lent_path c.deref-2.result.now ≡ paths_of_leaves F = ap (map lent_path) c.deref-2.ensures.value ∙ (c.in_ok-fields.ensures ∙ (ap paths_view c.deref.ensures.value ∙ paths_same p.leaves.items)) in
    let count : length c.deref-2.result.now ≡ length F = sym (length-map c.deref-2.result.now lent_path) ∙ (ap length paths ∙ length-map F (λ (l : Leaf). l.path)) in
    let n : length F ≡ length p.leaves.items = length-map p.leaves.items path_view in
    let before : IsBeforeAll s p rows c.in_ok-walk.walk cs c.in_ok-making.making c.in_ok-none.none = record {
      planned = c.requires.planned;
      streamed = λ ended. streams_begin s p rows (length c.deref-2.result.now) ended walk (columns_of cs) count c.in_ok-walk.ensures.wants (λ i l. none_past cs (length F) i (as_many s p cs rows h.0 h.1) l)
          (λ C k. subst (λ (G : List (List Step)). IsAtLevels s.fields G rows C [] (columns_of C) walk) paths (c.in_ok-walk.ensures.at C k));
      makes = c.in_ok-making.ensures;
      reads = subst (λ (k : ℕ). HasLast k [] c.in_ok-none.none) (omega (arith, n, c.len.ensures, p.leaves.ok.0)) c.in_ok-none.ensures;
    } in
    let ends = c.make_whole.ensures s p rows before in
    let whole = subst (λ (e : Stretch). EndsWhole s p rows cs making (Ok e)) c.in-Ok-Ended.field-0-is (subst (EndsWhole s p rows cs making) c.in-Ok-Ended.is ends) in
    record { all = made_all s p whole.1.records making c.requires.planned whole.1.have.0 whole.1.makes }

pub returns-in-Ok-Ended-clause-partial : goal.returns-in-Ok-Ended-clause-partial
returns-in-Ok-Ended-clause-partial c =
    let s = schema_view c.args.schema.now in
    let p = c.args.plan.now in
    let rows = c.args.records in
    let cs = columns_view c.args.columns.now in
    let making = c.make_whole.new.making in
    let F = plan_leaves p in
    let walk = c.in_ok-walk.walk in
    let h = c.requires.have in
    let paths : map lent_path c.deref-2.result.now ≡ paths_of_leaves F = ap (map lent_path) c.deref-2.ensures.value ∙ (c.in_ok-fields.ensures ∙ (ap paths_view c.deref.ensures.value ∙ paths_same p.leaves.items)) in
    let count : length c.deref-2.result.now ≡ length F = sym (length-map c.deref-2.result.now lent_path) ∙ (ap length paths ∙ length-map F (λ (l : Leaf). l.path)) in
    let n : length F ≡ length p.leaves.items = length-map p.leaves.items path_view in
    let before : IsBeforeAll s p rows c.in_ok-walk.walk cs c.in_ok-making.making c.in_ok-none.none = record {
      planned = c.requires.planned;
      streamed = λ ended. streams_begin s p rows (length c.deref-2.result.now) ended walk (columns_of cs) count c.in_ok-walk.ensures.wants (λ i l. none_past cs (length F) i (as_many s p cs rows h.0 h.1) l)
          (λ C k. subst (λ (G : List (List Step)). IsAtLevels s.fields G rows C [] (columns_of C) walk) paths (c.in_ok-walk.ensures.at C k));
      makes = c.in_ok-making.ensures;
      reads = subst (λ (k : ℕ). HasLast k [] c.in_ok-none.none) (omega (arith, n, c.len.ensures, p.leaves.ok.0)) c.in_ok-none.ensures;
    } in
    let ends = c.make_whole.ensures s p rows before in
    let whole = subst (λ (e : Stretch). EndsWhole s p rows cs making (Ok e)) c.in-Ok-Ended.field-0-is (subst (EndsWhole s p rows cs making) c.in-Ok-Ended.is ends) in
    IfOk-weaker c.close.result _ _ (λ x e. of_all s p cs rows whole.1.records (partial_view x) c.requires.planned (whole_have s p cs rows whole.0 making (as_many s p cs rows h.0 h.1) whole.1)
    (e s whole.1.records c.requires.planned whole.1.have.0 whole.1.makes)) c.close.ensures.partial

pub returns-in-Ok-Ended-clause-of_plan : goal.returns-in-Ok-Ended-clause-of_plan
returns-in-Ok-Ended-clause-of_plan c =
    let s = schema_view c.args.schema.now in
    let p = c.args.plan.now in
    let rows = c.args.records in
    let cs = columns_view c.args.columns.now in
    let making = c.make_whole.new.making in
    let F = plan_leaves p in
    let walk = c.in_ok-walk.walk in
    let h = c.requires.have in
    let paths : map lent_path c.deref-2.result.now ≡ paths_of_leaves F = ap (map lent_path) c.deref-2.ensures.value ∙ (c.in_ok-fields.ensures ∙ (ap paths_view c.deref.ensures.value ∙ paths_same p.leaves.items)) in
    let count : length c.deref-2.result.now ≡ length F = sym (length-map c.deref-2.result.now lent_path) ∙ (ap length paths ∙ length-map F (λ (l : Leaf). l.path)) in
    let n : length F ≡ length p.leaves.items = length-map p.leaves.items path_view in
    let before : IsBeforeAll s p rows c.in_ok-walk.walk cs c.in_ok-making.making c.in_ok-none.none = record {
      planned = c.requires.planned;
      streamed = λ ended. streams_begin s p rows (length c.deref-2.result.now) ended walk (columns_of cs) count c.in_ok-walk.ensures.wants (λ i l. none_past cs (length F) i (as_many s p cs rows h.0 h.1) l)
          (λ C k. subst (λ (G : List (List Step)). IsAtLevels s.fields G rows C [] (columns_of C) walk) paths (c.in_ok-walk.ensures.at C k));
      makes = c.in_ok-making.ensures;
      reads = subst (λ (k : ℕ). HasLast k [] c.in_ok-none.none) (omega (arith, n, c.len.ensures, p.leaves.ok.0)) c.in_ok-none.ensures;
    } in
    let ends = c.make_whole.ensures s p rows before in
    let whole = subst (λ (e : Stretch). EndsWhole s p rows cs making (Ok e)) c.in-Ok-Ended.field-0-is (subst (EndsWhole s p rows cs making) c.in-Ok-Ended.is ends) in
    IfOk-weaker c.close.result _ _ (λ x e. e s (moves.walk s.fields (paths_of_leaves (plan_leaves p)) whole.1.records) whole.1.makes) c.close.ensures.of_plan
