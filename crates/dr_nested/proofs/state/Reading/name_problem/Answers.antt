use Rattle.std.proofs.Common.{arith, bytes_eq, map}
use Rattle.std.proofs.lemmas.List.{length-reverse, length-map}
use Rattle.dr_nested.specs.Reading.{reading_view, group_view}
use Rattle.dr_nested.proofs.ViewLemmas.{any_names}
use Rattle.dr_nested.proofs.ReadingLemmas.{name_is_duplicate, name_is_too_deep, name_is_good}
use Rattle.dr_nested.proofs.state.Reading.name_problem.Goals as goal

pub returns-then-has_name : goal.returns-then-has_name
returns-then-has_name c =
    let e = any_names (bytes_eq c.args.word.now) c.args.self.now.fields.items in
    name_is_duplicate (reading_view c.args.self.now) c.args.word.now (omega arith) (cc)

pub returns-then-len-ge-GREATEST_DEPTH : goal.returns-then-len-ge-GREATEST_DEPTH
returns-then-len-ge-GREATEST_DEPTH c =
    let e = any_names (bytes_eq c.args.word.now) c.args.self.now.fields.items in
    let l = length-reverse (map group_view c.args.self.now.groups.items) in
    let k = length-map c.args.self.now.groups.items group_view in
    name_is_too_deep (reading_view c.args.self.now) c.args.word.now (omega arith) (cc) (omega (arith, l, k, c.args.self.now.groups.ok.0))

pub returns-else-len-ge-GREATEST_DEPTH : goal.returns-else-len-ge-GREATEST_DEPTH
returns-else-len-ge-GREATEST_DEPTH c =
    let e = any_names (bytes_eq c.args.word.now) c.args.self.now.fields.items in
    let l = length-reverse (map group_view c.args.self.now.groups.items) in
    let k = length-map c.args.self.now.groups.items group_view in
    name_is_good (reading_view c.args.self.now) c.args.word.now (omega arith) (cc) (omega (arith, l, k, c.args.self.now.groups.ok.0))
