use Rattle.std.proofs.Common.{◌∷◌, ◌∙◌, [], map, length, get_or, sym, ap, subst, arith}
use Rattle.std.proofs.lemmas.List.{length-append}
use Rattle.std.specs.Prelude.{is_some}
use Rattle.std.specs.List.{list_all}
use Rattle.dr_meta.specs.Views.{group_view}
use Rattle.dr_nested.specs.declared.path.Path.{Path}
use Rattle.dr_nested.specs.PathView.{path_view}
use Rattle.dr_open.specs.declared.column_source.LeafSource.{LeafSource}
use Rattle.dr_file.specs.Groups.{chunk_of, are_triplets}
use Rattle.dr_file.specs.Openings.{opened_field_view}
use Rattle.dr_file.specs.Sources.{place_read, IsBelow}
use Rattle.dr_file.proofs.GroupLemmas.{next_leaf, passes_on, below_at}
use Rattle.dr_file.proofs.leaf_opening.open_fields.Goals as goal

pub open_field-requires : goal.open_field-requires
open_field-requires c =
    let gs = map group_view c.args.groups.now in
    let ss = c.args.sources.now in
    let k = c.leaves.index in
    let x = c.index-sources-index.result in
    let there = (passes_on (λ i. list_all (λ g. is_some (chunk_of i g)) gs) ss k x (omega (arith, c.requires.as_many)) c.leaves.invariant.there).0 in
    let triplets = (passes_on (λ i. are_triplets gs i) ss k x (omega (arith, c.requires.as_many)) c.leaves.invariant.triplets).0 in
    let below = below_at path_view c.args.paths.now ss k c.index-paths-index.result x c.leaves-test.true c.requires.as_many c.requires.below in
    record {
      there = ap (λ (y : LeafSource). list_all (λ i. list_all (λ g. is_some (chunk_of i g)) gs) (place_read y)) c.index-sources-index.is ∙ there;
      triplets = ap (λ (y : LeafSource). list_all (λ i. are_triplets gs i) (place_read y)) c.index-sources-index.is ∙ triplets;
      below = subst (λ (p : Path). IsBelow (path_view p) x) (sym c.index-paths-index.is) (subst (λ (y : LeafSource). IsBelow (path_view (get_or c.args.paths.now k c.index-paths-index.result)) y) (sym c.index-sources-index.is) below);
    }

pub leaves-preserved : goal.leaves-preserved
leaves-preserved c =
    let gs = map group_view c.args.groups.now in
    record {
      shown = next_leaf gs opened_field_view c.leaves.leaves.items c.push.new.self.items c.in_ok-open_field.field-0 path_view c.args.paths.now c.index-paths-index.result c.args.sources.now c.index-sources-index.result c.leaves.index
          c.requires.as_many c.leaves-test.true c.in_ok-push.ensures.items c.index-paths-index.is c.index-sources-index.is c.in_ok-open_field.ensures c.leaves.invariant.shown;
      there = (passes_on (λ i. list_all (λ g. is_some (chunk_of i g)) gs) c.args.sources.now c.leaves.index c.index-sources-index.result (omega (arith, c.requires.as_many)) c.leaves.invariant.there).1;
      triplets = (passes_on (λ i. are_triplets gs i) c.args.sources.now c.leaves.index c.index-sources-index.result (omega (arith, c.requires.as_many)) c.leaves.invariant.triplets).1;
      count = omega (arith, ap length c.in_ok-push.ensures.items, length-append c.leaves.leaves.items (c.in_ok-open_field.field-0 ∷ []), c.leaves.invariant.count);
    }
