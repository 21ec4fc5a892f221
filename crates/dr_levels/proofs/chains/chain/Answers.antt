use Rattle.std.proofs.Common.{◌+◌, ◌++◌, map, sym, ap, ◌∙◌}
use Rattle.std.proofs.lemmas.List.{map-append}
use Rattle.dr_meaning.specs.Path.{chain}
use Rattle.dr_nested.specs.PathView.{lent_path}
use Rattle.dr_levels.proofs.ChainLemmas.{onto, seen, ahead, at_first, one_more, none_more}
use Rattle.dr_levels.proofs.chains.chain.Goals as goal
use Rattle.dr_levels.proofs.chains.chain.Goals.{then-is_repeated+in-Ok, else-is_repeated}

pub steps-init : goal.steps-init
steps-init c =
    let p = c.as_slice-steps.result.now in
    ap (λ rs. map lent_path rs ++ onto (seen p 0) (chain (ahead p 0))) c.new-repeated.ensures.items ∙ at_first p

pub steps-preserved : goal.steps-preserved
steps-preserved c =
    let p = c.as_slice-steps.result.now in
    let k = c.steps.place in
    let rest = onto (seen p (k + 1)) (chain (ahead p (k + 1))) in
    elim c.if-is_repeated.branch [
      | then-is_repeated+in-Ok w ↦ ap (λ v. map lent_path v.items ++ rest) w.repeated-is ∙ ap (λ rs. map lent_path rs ++ rest) w.in-Ok.ensures.items
          ∙ ap (λ rs. rs ++ rest) (map-append lent_path c.steps.repeated.items _) ∙ one_more p k _ (map lent_path c.steps.repeated.items) c.steps-test.true (sym w.if-is_repeated.ensures) ∙ c.steps.invariant
      | else-is_repeated w ↦ ap (λ v. map lent_path v.items ++ rest) w.repeated-is ∙ none_more p k _ (map lent_path c.steps.repeated.items) c.steps-test.true (sym w.if-is_repeated.ensures) ∙ c.steps.invariant
    ]
