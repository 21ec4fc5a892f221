use Rattle.std.proofs.Common.{string_bytes}
use Rattle.dr_nested.specs.Views.{fields_view, node_view}
use Rattle.dr_print.proofs.MemberLemmas.{line_text}
use Rattle.dr_print.proofs.record_lines.push_record_text.Goals as goal

pub returns : goal.returns
returns c =
    line_text (fields_view c.args.schema.now.fields.items) (node_view c.args.node.now) (string_bytes c.args.text.now) (string_bytes c.push_node.new.text) (string_bytes c.push_str.new.self)
    c.in_ok-push_node.ensures c.in_ok-push_str.ensures.bytes
