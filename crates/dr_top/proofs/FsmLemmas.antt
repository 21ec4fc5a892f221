-- The leaves that FIELD words name.
use Rattle.std.specs.Prelude.{◌≡◌, List, [], ◌∷◌, ◌++◌, map, Bool, true, false, ◌||◌, if◌then◌else◌, is_err, is_ok, Result, Ok, Err}
use Rattle.std.specs.List.{list_any}
use Rattle.std.proofs.Common.{refl, sym, ap, ◌∙◌}
use Rattle.std.proofs.lemmas.List.{map-append}
use Rattle.dr_meaning.specs.Path.{Leaf}
use Rattle.dr_meaning.specs.Walk.{same_path}
use Rattle.dr_meaning.specs.Fsm.{with_leaf}
use Rattle.dr_nested.specs.PathView.{path_view}
use Rattle.dr_nested.specs.declared.path.Path.{Path}

among : (l : Leaf) (ps : List Path) → list_any (λ (m : Leaf). same_path l.path m.path) (map path_view ps) ≡ list_any (λ (m : Path). same_path l.path (path_view m).path) ps
among l [] = refl
among l (p ∷ ps) = ap (λ b. same_path l.path (path_view p).path || b) (among l ps)

pub named_again : (ps : List Path) (p : Path) → true ≡ list_any (λ (m : Path). same_path (path_view p).path (path_view m).path) ps → map path_view ps ≡ with_leaf (map path_view ps) (path_view p)
named_again ps p h =
    let k : list_any (λ (m : Leaf). same_path (path_view p).path m.path) (map path_view ps) ≡ true = among (path_view p) ps ∙ sym h in
    sym (ap (λ (b : Bool). if b then map path_view ps else map path_view ps ++ path_view p ∷ []) k)

pub named_first : (ps qs : List Path) (p : Path) → false ≡ list_any (λ (m : Path). same_path (path_view p).path (path_view m).path) ps → qs ≡ ps ++ p ∷ [] → map path_view qs ≡ with_leaf (map path_view ps) (path_view p)
named_first ps qs p h e =
    let k : list_any (λ (m : Leaf). same_path (path_view p).path m.path) (map path_view ps) ≡ false = among (path_view p) ps ∙ sym h in
    ap (map path_view) e ∙ map-append path_view ps (p ∷ []) ∙ sym (ap (λ (b : Bool). if b then map path_view ps else map path_view ps ++ path_view p ∷ []) k)

pub pushed : {E : Type 0} (r : Result (Unit {0}) E) (new old more : List Path) → false ≡ is_err r → new ≡ (if is_ok r then more else old) → new ≡ more
pushed (Ok done) new old more h e = e
pushed (Err e) new old more h f = cc

pub paths_of_leaves : (ps : List Path) → map (λ (l : Leaf). l.path) (map path_view ps) ≡ map (λ (p : Path). (path_view p).path) ps
paths_of_leaves [] = refl
paths_of_leaves (p ∷ ps) = ap (λ xs. (path_view p).path ∷ xs) (paths_of_leaves ps)
