use Rattle.std.proofs.Common.{length, refl, sym, ap₂}
use Rattle.std.proofs.lemmas.Option.{slice_get_read, get_or_from_slice_get}
use Rattle.dr_scan.proofs.HandingLemmas.{parts_set}
use Rattle.dr_scan.proofs.StreamLemmas.{cleared_here}
use Rattle.dr_scan.proofs.leaf_streams.clear_at.Goals as goal

pub returns-in-Some-clause-streams : goal.returns-in-Some-clause-streams
returns-in-Some-clause-streams c =
    let xs = c.args.streams.now.items in
    let k = c.args.leaf in
    let x = c.in-Some.stream.now in
    let there = slice_get_read xs (length xs) k x refl c.in-Some.ensures.item.3.0 c.in-Some.ensures.value in
    parts_set xs k x c.clear.new.self (sym (get_or_from_slice_get xs k x x there)) (ap₂ (λ a b. (a, b)) c.clear.ensures.stream.0 c.clear.ensures.stream.1)

pub returns-in-Some-clause-here : goal.returns-in-Some-clause-here
returns-in-Some-clause-here c =
    let xs = c.args.streams.now.items in
    let x = c.in-Some.stream.now in
    let there = slice_get_read xs (length xs) c.args.leaf x refl c.in-Some.ensures.item.3.0 c.in-Some.ensures.value in
    cleared_here c.args.leaf xs x c.clear.new.self there c.clear.ensures.none
