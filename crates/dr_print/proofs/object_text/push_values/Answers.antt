use Rattle.std.proofs.Common.{map, drop, string_bytes, arith}
use Rattle.std.proofs.lemmas.List.{length-map}
use Rattle.dr_cells.specs.Views.{cells_view}
use Rattle.dr_print.proofs.PartLemmas.{value_more, text_there}
use Rattle.dr_print.proofs.object_text.push_values.Goals as goal

pub names-preserved : goal.names-preserved
names-preserved c =
    let ns = c.args.names.now in
    let k = c.names.number in
    value_more (map string_bytes ns) (drop c.args.at (cells_view c.args.cells.now)) (drop c.skip.result (cells_view c.args.cells.now)) k c.as_str.result.now (string_bytes c.args.text.now) (string_bytes c.names.text)
    (string_bytes c.push_comma.new.text) (string_bytes c.push_str.new.self) (string_bytes c.push_value.new.text)
    (omega (arith, length-map ns string_bytes))
    (text_there ns k c.index-names-number.result c.as_str.result.now c.names-test.true c.index-names-number.is c.as_str.ensures.value)
    c.skip.ensures c.in_ok-push_comma.ensures c.in_ok-push_str.ensures.bytes c.in_ok-push_value.ensures c.names.invariant
