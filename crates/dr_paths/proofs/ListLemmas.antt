-- What is kept of paths, and what is at places.
use Rattle.std.proofs.Common.{◌≡◌, ℕ, ◌+◌, ◌<◌, ◌≤◌, length, get_or, drop, append_assoc, List, [], ◌∷◌, ◌++◌, map, Bool, true, false, ◌||◌, Option, Some, None, cond, refl, sym, ap, ap₂, ◌∙◌}
use Rattle.std.specs.Prelude.{filter, option_map}
use Rattle.std.specs.List.{list_any, slice_get, filter_map, cons_option}
use Rattle.std.proofs.lemmas.List.{map_push, at_drop_more}
use Rattle.std.proofs.lemmas.Option.{slice_get-map, slice_get_past}
use denote.Ref.{Bor}
use Rattle.dr_meaning.specs.Path.{Step as MeantStep, Leaf, same_path}
use Rattle.dr_nested.specs.PathView.{path_view, step_view, lent_path}
use Rattle.dr_nested.specs.declared.path.Path.{Path}
use Rattle.dr_nested.specs.declared.path.Step.{Step}

-- whether a path is the same as one of these
abbrev pub path_used : List (Bor (List Step)) → Path → Bool
path_used used p = list_any (λ (u : Bor (List Step)). same_path (map step_view p.steps.items) (lent_path u)) used

used_view : (p : List MeantStep) (used : List (Bor (List Step))) → list_any (λ (u : Bor (List Step)). same_path p (lent_path u)) used ≡ list_any (same_path p) (map lent_path used)
used_view p [] = refl
used_view p (u ∷ used) = ap (λ (b : Bool). same_path p (lent_path u) || b) (used_view p used)

-- the views of what is kept are what is kept of the views
pub kept_views : (used : List (Bor (List Step))) (ps : List Path) → map path_view (filter (path_used used) ps) ≡ filter (λ (l : Leaf). list_any (same_path l.path) (map lent_path used)) (map path_view ps)
kept_views used [] = refl
kept_views used (p ∷ ps) =
    by_test (path_used used p) ∙ ap₂ (λ (b : Bool) (ls : List Leaf). cond b (path_view p ∷ ls) ls) (used_view (map step_view p.steps.items) used) (kept_views used ps)
  where
    by_test : (b : Bool) → map path_view (cond b (p ∷ filter (path_used used) ps) (filter (path_used used) ps)) ≡ cond b (path_view p ∷ map path_view (filter (path_used used) ps)) (map path_view (filter (path_used used) ps))
    by_test true = refl
    by_test false = refl

pub paths-map : (ps : List Path) → map (λ (p : Path). (path_view p).path) ps ≡ map (λ (l : Leaf). l.path) (map path_view ps)
paths-map [] = refl
paths-map (p ∷ ps) = ap (λ (qs : List (List MeantStep)). (path_view p).path ∷ qs) (paths-map ps)

-- ---- at places

abbrev at_places : List Path → List ℕ → List Leaf
at_places ps js = filter_map (slice_get (map path_view ps)) js

next_place : (ps : List Path) (js : List ℕ) (k : ℕ) (o : Option Path) → k < length js → slice_get ps (get_or js k 0) ≡ o → at_places ps (drop k js) ≡ cons_option (option_map path_view o) (at_places ps (drop (k + 1) js))
next_place ps js k o h e =
    at_drop_more (at_places ps) js k 0 h
    ∙ ap (λ (l : Option Leaf). cons_option l (at_places ps (drop (k + 1) js))) (slice_get-map path_view ps (get_or js k 0) ∙ ap (option_map path_view) e)

-- one more copy, of the path at a place
pub place_more : (ps : List Path) (js : List ℕ) (k : ℕ) (copies : List Path) (p q : Path) → k < length js → slice_get ps (get_or js k 0) ≡ Some p → path_view q ≡ path_view p
    → map path_view (copies ++ q ∷ []) ++ at_places ps (drop (k + 1) js) ≡ map path_view copies ++ at_places ps (drop k js)
place_more ps js k copies p q h e v =
    ap (λ (ls : List Leaf). ls ++ at_places ps (drop (k + 1) js)) (map_push path_view copies q)
    ∙ (append_assoc (map path_view copies) (path_view q ∷ []) (at_places ps (drop (k + 1) js))
    ∙ ap (λ (ls : List Leaf). map path_view copies ++ ls) (ap (λ (l : Leaf). l ∷ at_places ps (drop (k + 1) js)) v ∙ sym (next_place ps js k (Some p) h e)))

-- no copy, where no path is at a place
pub place_past : (ps : List Path) (js : List ℕ) (k : ℕ) (copies : List Path) → k < length js → length ps ≤ get_or js k 0
    → map path_view copies ++ at_places ps (drop (k + 1) js) ≡ map path_view copies ++ at_places ps (drop k js)
place_past ps js k copies h e = ap (λ (ls : List Leaf). map path_view copies ++ ls) (sym (next_place ps js k None h (slice_get_past ps (get_or js k 0) e)))
