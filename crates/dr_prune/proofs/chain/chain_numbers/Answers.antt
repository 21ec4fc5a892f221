use Rattle.std.proofs.Common.{◌≡◌, ℕ, List, ◌++◌, length, map, ap, ◌∙◌, arith}
use Rattle.dr_nested.specs.Views.{fields_view}
use Rattle.dr_nested.specs.PathView.{step_view}
use Rattle.dr_nested.specs.SchemaView.{schema_view}
use Rattle.dr_walk.proofs.SizeLemmas.{limits}
use Rattle.dr_kept_laws.specs.ChainNumbers.{numbers_in}
use Rattle.dr_prune.proofs.ChainLemmas.{numbers_deep}
use Rattle.dr_prune.proofs.chain.chain_numbers.Goals as goal

pub add_in_group-requires : goal.add_in_group-requires
add_in_group-requires c =
    let l = limits (schema_view c.args.schema.now) c.args.schema.now.valid in
    omega (arith, l.numbers)

pub returns-clause-few : goal.returns-clause-few
returns-clause-few c =
    let fs = fields_view c.args.schema.now.fields.items in
    let p = map step_view c.args.path.now in
    let l = limits (schema_view c.args.schema.now) c.args.schema.now.valid in
    let d = numbers_deep fs 1 p in
    let e : c.add_in_group.new.numbers.items ≡ numbers_in fs 1 p = c.in_ok-add_in_group.ensures
    ∙ ap (λ (xs : List ℕ). xs ++ numbers_in fs 1 p) c.new-numbers.ensures.items in
    let n = ap length e in
    omega (arith, l.deep, d, n)
