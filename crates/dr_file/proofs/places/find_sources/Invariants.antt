use Rattle.std.proofs.Common.{◌≡◌, map, drop, take}
use Rattle.std.specs.List.{list_all}
use Rattle.dr_formats.specs.FileSchema.{file_schema}
use Rattle.dr_formats.specs.Lacking.{has_source}
use Rattle.dr_meta.specs.Views.{item_view}
use Rattle.dr_nested.specs.PathView.{path_view}
use Rattle.dr_open.specs.Sources.{source_in_file}
use Rattle.dr_file.specs.Sources.{AreSources}
use Rattle.dr_file.proofs.places.find_sources.Given as goal

-- the sources so far are those of the leaves so far
abbrev pub invariant-fields : goal.invariant-fields
invariant-fields l = record {
  found : AreSources (file_schema (map item_view l.items)) (map path_view (take l.field-index l.fields)) l.sources.items;
  all : list_all (λ k. has_source (source_in_file k (file_schema (map item_view l.items)))) (map path_view (drop l.field-index l.fields)) ≡ list_all (λ k. has_source (source_in_file k (file_schema (map item_view l.items)))) (map path_view l.fields);
}
