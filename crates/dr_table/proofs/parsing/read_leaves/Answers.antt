use Rattle.std.proofs.Common.{◌≡◌, ◌-◌, ◌+◌, arith, rules, length, map, string_bytes, refl, sym, ap, ◌∙◌}
use Rattle.std.proofs.lemmas.List.{length-map}
use Rattle.dr_formats.specs.TableFile.{outcome}
use Rattle.dr_table.specs.Faults.{fault_view}
use Rattle.dr_table.specs.Views.{table_view}
use Rattle.dr_table.specs.Parsing.{from_leaves}
use Rattle.dr_table.proofs.LeafLemmas.{gives_same, leaves_break_off, leaves_end, leaves_are_full, leaf_is_kept}
use Rattle.dr_table.proofs.parsing.read_leaves.Goals as goal

pub leaves-init : goal.leaves-init
leaves-init c = record { text = c.utf8.text; count = c.new-leaves.ensures.len; rest = rw c.new-leaves.ensures.items refl }

pub returns-in_default : goal.returns-in_default
returns-in_default c =
    let n : length (map string_bytes c.leaves.leaves.items) ≡ length c.leaves.leaves.items = length-map c.leaves.leaves.items string_bytes in
    ap outcome (sym c.leaves.invariant.rest) ∙ leaves_break_off (64 - c.leaves.counter) c.args.tablets c.args.copies c.len.result (map string_bytes c.leaves.leaves.items) c.leaves.rest.now
    (search rules) (omega (arith, n, c.len.ensures, c.leaves.leaves.ok.0))

pub returns-in-None : goal.returns-in-None
returns-in-None c =
    let n : length (map string_bytes c.leaves.leaves.items) ≡ length c.leaves.leaves.items = length-map c.leaves.leaves.items string_bytes in
    ap outcome (sym c.leaves.invariant.rest) ∙ leaves_break_off (64 - c.leaves.counter) c.args.tablets c.args.copies c.len-in-None.result (map string_bytes c.leaves.leaves.items) c.leaves.rest.now
    (search rules) (omega (arith, n, c.len-in-None.ensures, c.leaves.leaves.ok.0))

pub returns-in_default-leaf_directory : goal.returns-in_default-leaf_directory
returns-in_default-leaf_directory c =
    gives_same table_view fault_view _ _ c.read_schema_line.result
    (ap outcome (sym c.leaves.invariant.rest) ∙ leaves_end (64 - c.leaves.counter) (63 - c.leaves.counter) c.args.tablets c.args.copies (map string_bytes c.leaves.leaves.items) c.leaves.rest.now
    (record { text = c.in-Some.line.now; behind = c.in-Some.behind.now }) (omega arith) c.in-Some.ensures (search rules)) c.read_schema_line.ensures

pub leaves-preserved : goal.leaves-preserved
leaves-preserved c = record {
  text = search rules;
  count = search rules;
  rest = leaf_is_kept (64 - c.leaves.counter) (64 - (c.leaves.counter + 1)) c.args.tablets c.args.copies c.leaves.leaves.items c.push.new.self.items c.in_ok-from_str.field-0 c.leaves.rest.now
      (record { text = c.in-Some.line.now; behind = c.in-Some.behind.now }) c.in-Some-leaf_directory.directory.now (omega arith) c.in-Some.ensures c.in-Some-leaf_directory.ensures c.in_ok-from_str.ensures.ok c.in_ok-push.ensures.items
      ∙ c.leaves.invariant.rest;
}

pub returns-in-Some-cut_line : goal.returns-in-Some-cut_line
returns-in-Some-cut_line c =
    let full : 64 - c.leaves.counter ≡ 0 = omega arith in
    let n : length (map string_bytes c.leaves.leaves.items) ≡ length c.leaves.leaves.items = length-map c.leaves.leaves.items string_bytes in
    gives_same table_view fault_view _ _ c.read_schema_line-in-Some-cut_line.result
    (ap outcome (sym c.leaves.invariant.rest ∙ ap (λ n. from_leaves n c.args.tablets c.args.copies (map string_bytes c.leaves.leaves.items) c.leaves.rest.now) full)
    ∙ leaves_are_full c.args.tablets c.args.copies (map string_bytes c.leaves.leaves.items) c.leaves.rest.now
    (record { text = c.in-Some-cut_line.line.now; behind = c.in-Some-cut_line.behind.now }) (omega (arith, n, c.leaves.leaves.ok.0)) c.in-Some-cut_line.ensures) c.read_schema_line-in-Some-cut_line.ensures
