use Rattle.std.proofs.Common.{◌≡◌, ◌∙◌, ℕ, List, Bool, map, ap, ap₂}
use Rattle.std.specs.Prelude.{filter}
use Rattle.std.specs.List.{list_any, slice_get, filter_map}
use Rattle.std.proofs.lemmas.Result.{IfOk-weaker}
use Rattle.dr_meaning.specs.Path.{Step, Leaf, same_path, leaves}
use Rattle.dr_meaning.specs.Automaton.{reading_order}
use Rattle.dr_nested.specs.PathView.{path_view, lent_path}
use Rattle.dr_nested.specs.SchemaView.{schema_view}
use Rattle.dr_nested.specs.declared.path.Path.{Path}
use Rattle.dr_paths.proofs.ListLemmas.{paths-map}
use Rattle.dr_paths.proofs.used.used_leaves.Goals as goal

pub returns : goal.returns
returns c =
    let fs = (schema_view c.args.schema.now).fields in
    let test : Leaf → Bool = λ (l : Leaf). list_any (same_path l.path) (map lent_path c.args.used.now) in
    let steps_of : List Leaf → List (List Step) = λ ls. map (λ (l : Leaf). l.path) ls in
    let kept : List Path = c.keep_used.new.paths.items in
    let ls : List Leaf = filter test (leaves fs) in
    let views : map path_view kept ≡ ls = c.keep_used.ensures ∙ ap (filter test) c.in_ok-paths.ensures in
    let places : c.in_ok-order.order.items ≡ reading_order fs (steps_of ls) =
    c.in_ok-order.ensures.order ∙ ap (reading_order fs) (ap (map (λ (p : Path). (path_view p).path)) c.deref.ensures.value ∙ (paths-map kept ∙ ap steps_of views)) in
    IfOk-weaker c.paths_at.result _ _
    (λ v h. h ∙ ap₂ (λ (ms : List Leaf) (js : List ℕ). filter_map (slice_get ms) js) (ap (map path_view) c.deref-2.ensures.value ∙ views) (c.deref-3.ensures.value ∙ places))
    c.paths_at.ensures
