use Rattle.std.proofs.Common.{◌≡◌, ◌∙◌, ap, map, rules, ℕ, ℤ, to_z, of_z}
use mir.Syntax.{w64}
use Rattle.dr_levels.specs.Views.{triplets_view}
use Rattle.dr_rows_beside.specs.Rows.{in_slot}
use Rattle.dr_rows_beside.specs.Comparing.{stands_at}
use Rattle.dr_rows_beside.proofs.LeafTestLemmas.{answers_of}
use Rattle.dr_rows_beside.proofs.answers.put_quickly.Goals as goal

pub returns-in-Integers-clause-put : goal.returns-in-Integers-clause-put
returns-in-Integers-clause-put c = λ t rows e.
    let f = c.in-Some.found in
    let ts = triplets_view c.args.column in
    let k : to_z w64 (of_z w64 f.literal) ≡ f.literal = search rules in
    c.put_compared.ensures
    ∙ ap (λ (z : ℤ). map (stands_at f.comparison z) ts) k
    ∙ answers_of c.args.test.now f ts c.in-Some.ensures rows (ap (λ (i : ℕ). in_slot i rows) c.if-found-leaf.false ∙ e)
