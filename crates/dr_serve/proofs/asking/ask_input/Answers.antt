use Rattle.std.proofs.Common.{arith, map, string_bytes, ap, ◌∙◌, length}
use Rattle.std.proofs.lemmas.List.{length-map}
use Rattle.dr_nested.specs.SchemaView.{schema_view}
use Rattle.dr_outside.specs.Shelf.{files_of}
use Rattle.dr_load.specs.Faults.{refusal_of}
use Rattle.dr_serve.proofs.InputLemmas.{refused_too, memory_plan, IsMemory, memory_has_tablet, memory_holds, memory_answers, lent_hold}
use Rattle.dr_serve.proofs.asking.ask_input.Goals as goal

pub returns-in-Err-clause-refused : goal.returns-in-Err-clause-refused
returns-in-Err-clause-refused g c =
    refused_too (memory_plan (schema_view c.args.schema) (map string_bytes c.deref.result.now) c.args.rows) (g.S.Source.shows c.args.source.now).left (refusal_of c.in-Err.fault) c.in-Err.ensures.refused

pub invariant_of-table : goal.invariant_of-table
invariant_of-table g c =
    let ds = map string_bytes c.deref.result.now in
    let m : IsMemory (schema_view c.args.schema) ds c.args.rows = record { schema = c.args.schema.valid; one_directory = length-map c.deref.result.now string_bytes ∙ ap length c.deref.ensures.value ∙ c.in_ok-leaves.ensures; has_rows = c.requires.has_rows; few_rows = c.requires.few_rows } in
    record {
      has_leaf = omega (arith, c.in_ok-leaves.ensures);
      few_leaves = omega (arith, c.in_ok-leaves.ensures);
      has_copy = omega arith;
      few_copies = omega (arith, c.in_ok-leaves.ensures);
      has_tablet = memory_has_tablet (schema_view c.args.schema) ds c.args.rows c.in-Ok.loaded.tablets (g.S.Source.shows c.args.source.now).left (files_of c.new-shelf.result) (files_of c.load.new.keeper) m c.in-Ok.ensures.table;
      few_tablets = c.in-Ok.ensures.table.few_tablets;
    }

pub answer_steady-requires-clause-held : goal.answer_steady-requires-clause-held
answer_steady-requires-clause-held g c κs within =
    let ds = map string_bytes c.deref.result.now in
    let m : IsMemory (schema_view c.args.schema) ds c.args.rows = record { schema = c.args.schema.valid; one_directory = length-map c.deref.result.now string_bytes ∙ ap length c.deref.ensures.value ∙ c.in_ok-leaves.ensures; has_rows = c.requires.has_rows; few_rows = c.requires.few_rows } in
    (files_of c.load.new.keeper, lent_hold c.load.new.keeper c.in_ok-links.links.items c.deref_mut.result.now c.deref_mut.ensures.value c.in_ok-links.ensures.shelf, c.in-Ok.ensures.table.records, memory_holds (schema_view c.args.schema) ds (map string_bytes c.in_ok-leaves.leaves.items) c.args.rows c.in-Ok.loaded.tablets (g.S.Source.shows c.args.source.now).left (files_of c.new-shelf.result) (files_of c.load.new.keeper) m c.in-Ok.ensures.table (ap (map string_bytes) c.deref.ensures.value))

pub returns-clause-text : goal.returns-clause-text
returns-clause-text g c =
    let ds = map string_bytes c.deref.result.now in
    let m : IsMemory (schema_view c.args.schema) ds c.args.rows = record { schema = c.args.schema.valid; one_directory = length-map c.deref.result.now string_bytes ∙ ap length c.deref.ensures.value ∙ c.in_ok-leaves.ensures; has_rows = c.requires.has_rows; few_rows = c.requires.few_rows } in
    let l = c.in-Ok.ensures.table in
    let held = memory_holds (schema_view c.args.schema) ds (map string_bytes c.in_ok-leaves.leaves.items) c.args.rows c.in-Ok.loaded.tablets (g.S.Source.shows c.args.source.now).left (files_of c.new-shelf.result) (files_of c.load.new.keeper) m l (ap (map string_bytes) c.deref.ensures.value) in
    let printed = c.in_ok-text.ensures.text (files_of c.load.new.keeper) l.records (lent_hold c.load.new.keeper c.in_ok-links.links.items c.deref_mut.result.now c.deref_mut.ensures.value c.in_ok-links.ensures.shelf) held in
    λ n are. memory_answers (schema_view c.args.schema) n ds c.args.rows c.in-Ok.loaded.tablets (g.S.Source.shows c.args.source.now).left (files_of c.new-shelf.result) (files_of c.load.new.keeper) (string_bytes c.in_ok-text.text) m l (printed n are)
