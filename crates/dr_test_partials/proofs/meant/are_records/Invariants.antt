use Rattle.std.proofs.Common.{◌≡◌, map, drop}
use Rattle.std.specs.List.{list_all}
use Rattle.dr_meaning.specs.Record.{is_record}
use Rattle.dr_nested.specs.Views.{node_view}
use Rattle.dr_nested.specs.SchemaView.{schema_view}
use Rattle.dr_test_partials.proofs.meant.are_records.Given as goal

-- the nodes so far are records
abbrev pub invariant-nodes : goal.invariant-nodes
invariant-nodes l = list_all (is_record (schema_view l.schema).fields) (map node_view (drop l.node-index l.nodes)) ≡ list_all (is_record (schema_view l.schema).fields) (map node_view l.nodes)
