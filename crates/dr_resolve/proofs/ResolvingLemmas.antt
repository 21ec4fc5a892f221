-- Going along names from what was found so far.
use Rattle.std.proofs.Common.{◌≡◌, ℕ, ◌+◌, ◌<◌, List, [], ◌∷◌, ◌++◌, map, drop, length, Option, Some, None, option_map, sym, ap, ap₂, ◌∙◌}
use Rattle.std.specs.Prelude.{get_or}
use Rattle.std.proofs.lemmas.List.{drop_more, map-append}
use denote.Ref.{Bor}
use Rattle.dr_meaning.specs.Schema as tree
use Rattle.dr_meaning.specs.Path.{Step, Found, named_field, resolve}
use Rattle.dr_nested.specs.Views.{SeenField}
use Rattle.dr_nested.specs.PathView.{step_view}
use Rattle.dr_nested.specs.Finding.{found_at, behind}
use Rattle.dr_nested.specs.declared.path.Step.{Step as CodeStep}
use Rattle.dr_nested.proofs.FindingLemmas.{entered}
use Rattle.dr_sql.specs.Views.{lent}

-- what the rest of the names leads to behind a field is what they lead to with the field's name before them
pub one_name_on : (names : List (Bor (List ℕ))) (i : ℕ) (d : Bor (List ℕ)) (before now : List Step) (fs : tree.Fields) (place : ℕ) (f : SeenField) (s t : tree.Shape) (whole : Option Found) → i < length names
    → named_field (get_or names i d).now 0 fs ≡ Some (found_at place f) → now ≡ before ++ record { place = place; repetition = f.repetition } ∷ [] → s ≡ tree.group fs → t ≡ f.shape
    → option_map (behind before) (resolve (map lent (drop i names)) s) ≡ whole → option_map (behind now) (resolve (map lent (drop (i + 1) names)) t) ≡ whole
one_name_on names i d before now fs place f s t whole l h p e g w =
    let rest : List (List ℕ) = map lent (drop (i + 1) names) in
    let n : List ℕ = (get_or names i d).now in
    let k : option_map (behind before) (named_field n 0 fs) ≡ Some (record { path = now; shape = t }) =
    ap (option_map (behind before)) h ∙ ap₂ (λ (q : List Step) (x : tree.Shape). Some (record { path = q; shape = x })) (sym p) (sym g) in
    sym (entered rest (named_field n 0 fs) before now t k)
    ∙ ap (λ (x : tree.Shape). option_map (behind before) (resolve (n ∷ rest) x)) (sym e)
    ∙ ap (λ (ns : List (Bor (List ℕ))). option_map (behind before) (resolve (map lent ns) s)) (sym (drop_more names i d l)) ∙ w

-- behind a leaf no name leads on
pub no_name_on : (names : List (Bor (List ℕ))) (i : ℕ) (d : Bor (List ℕ)) (before : List Step) (k : tree.Kind) (s : tree.Shape) (whole : Option Found) → i < length names → s ≡ tree.leaf k
    → option_map (behind before) (resolve (map lent (drop i names)) s) ≡ whole → None ≡ whole
no_name_on names i d before k s whole l e w =
    ap (λ (x : tree.Shape). option_map (behind before) (resolve (map lent (get_or names i d ∷ drop (i + 1) names)) x)) (sym e)
    ∙ ap (λ (ns : List (Bor (List ℕ))). option_map (behind before) (resolve (map lent ns) s)) (sym (drop_more names i d l)) ∙ w

pub step_pushed : (xs ys : List CodeStep) (x : CodeStep) → ys ≡ xs ++ x ∷ [] → map step_view ys ≡ map step_view xs ++ step_view x ∷ []
step_pushed xs ys x h = ap (map step_view) h ∙ map-append step_view xs (x ∷ [])
