use Rattle.std.proofs.Common.{◌≡◌, ◌<◌, ℕ, List, length, map, All, subst, sym}
use Rattle.std.proofs.lemmas.List.{length-map}
use Rattle.dr_meaning.specs.Path.{Step}
use Rattle.dr_nested.specs.PathView.{path_view}
use Rattle.dr_nested.specs.Views.{fields_view}
use Rattle.dr_nested.specs.declared.path.Path.{Path}
use Rattle.dr_levels.proofs.WithinLemmas.{reading_order_within}
use Rattle.dr_levels.proofs.order.reading_order.Goals as goal

pub returns-in-Ok-clause-within : goal.returns-in-Ok-clause-within
returns-in-Ok-clause-within c =
    let F : List (List Step) = map (λ (p : Path). (path_view p).path) c.args.fields.now in
    let fs = fields_view c.args.schema.now.fields.items in
    let same : length F ≡ length c.args.fields.now = length-map c.args.fields.now (λ (p : Path). (path_view p).path) in
    subst (λ (n : ℕ). All (λ (i : ℕ). i < n) c.in-Ok.order.items) same
    (subst (λ (is : List ℕ). All (λ (i : ℕ). i < length F) is) (sym c.in-Ok.ensures) (reading_order_within fs F))
