use Rattle.std.proofs.Common.{◌≡◌, ◌∙◌, map, sym, ap, true}
use Rattle.std.specs.Prelude.{Option, Some, option_map}
use Rattle.dr_formats.specs.FileSchema.{file_schema}
use Rattle.dr_formats.specs.Lacking.{Source, has_source}
use Rattle.dr_meta.specs.Views.{item_view}
use Rattle.dr_nested.specs.PathView.{path_view}
use Rattle.dr_open.specs.declared.column_source.LeafSource.{LeafSource}
use Rattle.dr_open.specs.Sources.{source_in_file}
use Rattle.dr_open.specs.SourceViews.{source_view}
use Rattle.dr_file.proofs.GroupLemmas.{next_source, sourced_on}
use Rattle.dr_file.proofs.places.find_sources.Goals as goal

pub fields-preserved : goal.fields-preserved
fields-preserved c =
    let o = file_schema (map item_view c.args.items.now) in
    let p = c.field-item.result in
    let source : Some (source_view c.in-Some.source) ≡ source_in_file (path_view p) o = sym (ap (λ (x : Option LeafSource). option_map source_view x) c.in-Some.is) ∙ c.in_ok-source.ensures.source in
    let placed = rw c.in-Some.is at c.in_ok-source.ensures.placed in
    let there : has_source (source_in_file (path_view p) o) ≡ true = ap (λ (x : Option Source). has_source x) (sym source) in
    record {
      found = next_source o path_view c.args.fields.now p c.fields.sources.items c.push.new.self.items c.in-Some.source c.fields.field-index c.fields-test.true c.in_ok-push-in-Some.ensures.items c.field-item.is
          c.fields.invariant.found source placed;
      all = sourced_on (λ k. has_source (source_in_file k o)) path_view c.args.fields.now c.fields.field-index p _ c.fields-test.true c.field-item.is there c.fields.invariant.all;
    }
