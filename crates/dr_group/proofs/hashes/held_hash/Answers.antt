use Rattle.std.proofs.Common.{◌∙◌, ap, sym, arith, map, List, Option}
use Rattle.std.specs.List.{fold}
use Rattle.std.specs.Hash.FoldHasher as folding
use Rattle.std.proofs.lemmas.List.{drop_all}
use Rattle.dr_nested.specs.declared.record.Value.{Value}
use Rattle.dr_group.specs.Views.{cell_view}
use Rattle.dr_group.specs.Hashes.{tuple_writes, tuple_hash}
use Rattle.dr_group.proofs.hashes.held_hash.Goals as goal

pub returns : goal.returns
unfolding tuple_hash
returns c =
    let key = c.args.key.now in
    c.finish.ensures
    ∙ ap folding.finish (sym (ap (λ (ks : List (Option Value)). fold folding.write c.cells.hasher (tuple_writes (map cell_view ks))) (drop_all c.cells.cell-index key (omega arith))) ∙ c.cells.invariant)
