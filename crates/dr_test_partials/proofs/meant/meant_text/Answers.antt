use Rattle.std.proofs.Common.{map, sym}
use Rattle.std.proofs.lemmas.Simd.{map-map}
use Rattle.dr_meaning.specs.Record.{project}
use Rattle.dr_nested.specs.Views.{node_view}
use Rattle.dr_nested.specs.SchemaView.{schema_view}
use Rattle.dr_test_partials.proofs.meant.meant_text.Goals as goal
use Rattle.dr_nested.specs.PathView.{paths_view}

pub mean-requires : goal.mean-requires
mean-requires c =
    let h = c.requires.planned in
    record {
      answers = record {
        schema = schema_view c.args.schema.now;
        syntax_tree = h.0;
        bound = h.1;
        binds = h.2;
        planned = h.3;
        records = map node_view c.args.records.now;
        are_records = sym c.if-not-are_records.ensures;
        alike = sym (map-map (project (paths_view c.args.plan.now.leaves.items)) node_view c.args.records.now);
      };
    }
