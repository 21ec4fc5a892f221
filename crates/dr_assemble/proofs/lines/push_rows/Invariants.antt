use Rattle.std.proofs.Common.{◌≡◌, ◌-◌, ◌++◌, length, string_bytes}
use Rattle.std.specs.List.{flat_map}
use Rattle.dr_meaning.specs.Schema.{group}
use Rattle.dr_nested.specs.Views.{fields_view}
use Rattle.dr_assemble.specs.Lines.{text_each, text_one, ended, strip_lines}
use Rattle.dr_assemble.specs.Views.{strips_view}
use Rattle.dr_assemble.proofs.lines.push_rows.Given as goal

-- the lines from this one on are still to be printed of what the earlier ones left
abbrev pub invariant-rows : goal.invariant-rows
invariant-rows l =
    let f = text_one (group (fields_view l.fields.items)) 0 0 in
    record {
      lengths : length l.first.items ≡ length l.left.items;
      so_far : string_bytes l.text ++ flat_map ended (text_each f 0 (l.rows - l.done) (strips_view l.left.items))
          ≡ string_bytes l.fn.text ++ strip_lines (fields_view l.fields.items) l.rows (strips_view l.strips);
    }
