use Rattle.std.proofs.Common.{◌≡◌, ◌∙◌, ℕ, List, map, take, sym, ap, ap₂}
use Rattle.std.specs.Prelude.{Option, option_map, string_bytes}
use Rattle.dr_meaning.specs.Path as path_meaning
use Rattle.dr_nested.specs.declared.shape.Kind.{Kind}
use Rattle.dr_nested.specs.Views.{fields_view}
use Rattle.dr_nested.specs.PathView.{step_view}
use Rattle.dr_open.specs.LeafView.{leaf_view}
use Rattle.dr_open.specs.Sources.{first_leaf, behind_path, bare_step}
use Rattle.dr_open.proofs.SourceLemmas.{taken}
use Rattle.dr_open.proofs.stand_in.first_leaf_behind.Goals as goal

pub returns-in-Some : goal.returns-in-Some
returns-in-Some c =
    let p = c.args.path.now in
    let k = c.args.parts in
    let leaf : Option path_meaning.Leaf = first_leaf (fields_view c.args.fields.now.items) in
    let names : map string_bytes c.in_ok-names.names.items ≡ take k (map string_bytes p.names.items) =
    c.in_ok-names.ensures ∙ (ap (λ xs. map string_bytes (take k xs)) c.deref.ensures.value ∙ taken string_bytes k p.names.items) in
    let steps : map step_view c.in_ok-steps.steps.items ≡ map bare_step (take k (map step_view p.steps.items)) =
    c.in_ok-steps.ensures ∙ (ap (λ xs. map bare_step (map step_view (take k xs))) c.deref-2.ensures.value ∙ ap (map bare_step) (taken step_view k p.steps.items)) in
    ap (λ (o : Option Kind). option_map (λ (x : Kind). leaf_view c.push_first_leaf.new.names.items c.push_first_leaf.new.steps.items x) o) (sym c.in-Some.is)
    ∙ (c.in_ok-kind.ensures ∙ ap₂ (λ (ns : List (List ℕ)) (q : List path_meaning.Step). option_map (behind_path ns q) leaf) names steps)
