use Rattle.std.proofs.Common.{arith, refl, ap, ap₂, ◌∙◌, ◌≡◌, ◌<◌, ◌+◌, add-one, suc, ℕ, List, [], length, get_or, map, Some, Vec}
use Rattle.std.specs.declared.alloc.Global.{Global}
use Rattle.std.proofs.lemmas.List.{length-map}
use Rattle.dr_meaning.specs.Path.{Step, common}
use Rattle.dr_fsm.specs.declared.state.State.{State}
use Rattle.dr_fsm.specs.Tables.{lent_leaf}
use Rattle.dr_fsm.proofs.RowLemmas.{read_map, front_to_next, front_to_end}
use Rattle.dr_fsm.proofs.table.front_of.Goals as goal
use Rattle.dr_fsm.proofs.table.front_of.Goals.{then-place-leaves+in_ok-fill, else-place-leaves+in_ok-fill-2}

pub returns : goal.returns
returns c =
    let ls = c.args.leaves.now in
    let i = c.args.place in
    let order : List (List Step) = map lent_leaf ls in
    let count : length order ≡ length ls = length-map ls lent_leaf in
    elim c.if-place-leaves.branch [
      | then-place-leaves+in_ok-fill w ↦
          (let more : i + 1 < length ls = w.if-place-leaves.true in
          let level : w.common.result ≡ common (get_or order i []) (get_or order (suc i) []) =
          w.common.ensures
          ∙ ap₂ common (read_map lent_leaf ls i w.index-leaves-place.result [] c.requires.place w.index-leaves-place.is)
          (read_map lent_leaf ls (i + 1) w.index-leaves-place-then-place-leaves.result [] more w.index-leaves-place-then-place-leaves.is ∙ ap (λ (j : ℕ). get_or order j []) (add-one i)) in
          front_to_next order i w.common.result c.new-row.result.items c.if-place-leaves.row.items (State.Leaf (i + 1)) (omega (arith, count, more)) c.new-row.ensures.items level
          (ap (λ (v : Vec State Global). v.items) w.row-is ∙ w.in_ok-fill.ensures) (ap Some (add-one i)))
      | else-place-leaves+in_ok-fill-2 w ↦
          front_to_end order i c.new-row.result.items c.if-place-leaves.row.items State.End (omega (arith, count)) (omega (arith, count, w.if-place-leaves.false)) c.new-row.ensures.items
          (ap (λ (v : Vec State Global). v.items) w.row-is ∙ w.in_ok-fill-2.ensures) refl
    ]
