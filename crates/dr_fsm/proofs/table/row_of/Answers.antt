use Rattle.std.proofs.Common.{arith, refl, ap₂, ◌∙◌, ◌≡◌, List, [], length, get_or, map}
use Rattle.std.proofs.lemmas.List.{length-map}
use Rattle.dr_meaning.specs.Path.{Step, common}
use Rattle.dr_fsm.specs.declared.state.State.{State}
use Rattle.dr_fsm.specs.Tables.{lent_leaf}
use Rattle.dr_fsm.proofs.RowLemmas.{next_leaf, read_map}
use Rattle.dr_fsm.proofs.table.row_of.Goals as goal

pub leaves-preserved : goal.leaves-preserved
leaves-preserved c =
    let ls = c.args.leaves.now in
    let order : List (List Step) = map lent_leaf ls in
    let i = c.args.place in
    let k = c.leaves.target in
    let count : length order ≡ length ls = length-map ls lent_leaf in
    let level : c.common.result ≡ common (get_or order i []) (get_or order k []) =
    c.common.ensures ∙ ap₂ common (read_map lent_leaf ls i c.index-leaves-place.result [] c.requires.place c.index-leaves-place.is) (read_map lent_leaf ls k c.index-leaves-target.result [] c.leaves-test.true c.index-leaves-target.is) in
    next_leaf order i k c.common.result c.leaves.row.items c.fill.new.row.items (State.Leaf k) (omega (arith, count)) level c.in_ok-fill.ensures refl c.leaves.invariant
