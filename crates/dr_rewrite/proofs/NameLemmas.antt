-- The names on a path below a group.
use Rattle.std.proofs.Common.{◌≡◌, ℕ, zero, suc, ◌≤◌, List, [], ◌∷◌, ◌++◌, map, length, get_or, take, drop, ◌-◌, string_bytes, Some, None, option_map, refl, sym, ap, ◌∙◌, append_assoc, append-nil, arith}
use Rattle.std.specs.List.{slice_get, join_with_byte}
use Rattle.std.proofs.lemmas.List.{take_all}
use Rattle.dr_meaning.specs.Schema as tree
use Rattle.dr_meaning.specs.Path as path
use Rattle.dr_nested.specs.PathView.{step_view}
use Rattle.dr_nested.specs.Views.{fields_view, shape_view, SeenField}
use Rattle.dr_nested.specs.declared.path.Step.{Step}
use Rattle.dr_nested.specs.declared.shape.Field.{Field}
use Rattle.dr_nested.proofs.ViewLemmas.{view-field}
use Rattle.dr_partials.specs.RewritingText.{NamedShape, field_at, before_names, path_names, name_text}
use Rattle.dr_rewrite.specs.Writing.{dotted}

abbrev seen : Field → NamedShape
seen f = record { name = string_bytes f.name; shape = shape_view f.shape }

field_there : (fs : List Field) (i : ℕ) → field_at i (fields_view fs) ≡ option_map seen (slice_get fs i)
field_there [] i = refl
field_there (f ∷ fs) zero = ap (λ (s : SeenField). Some (record { name = s.name; shape = s.shape })) (view-field f)
field_there (f ∷ fs) (suc i) = field_there fs i

pub no_names : (fs : List Field) (steps : List Step) (d : Step) → 1 ≤ length steps → None ≡ slice_get fs (get_or steps 0 d).place → path_names (map step_view steps) (tree.group (fields_view fs)) ≡ []
no_names fs [] d h e = absurd (omega arith)
no_names fs (s ∷ ss) d h e = ap (λ o. before_names o (path_names (map step_view ss))) (field_there fs s.place ∙ ap (option_map seen) (sym e))

pub name_and_more : (fs : List Field) (steps : List Step) (d : Step) (f : Field) → 1 ≤ length steps → Some f ≡ slice_get fs (get_or steps 0 d).place
    → path_names (map step_view steps) (tree.group (fields_view fs)) ≡ string_bytes f.name ∷ path_names (map step_view (drop 1 steps)) (shape_view f.shape)
name_and_more fs [] d f h e = absurd (omega arith)
name_and_more fs (s ∷ ss) d f h e = ap (λ o. before_names o (path_names (map step_view ss))) (field_there fs s.place ∙ ap (option_map seen) (sym e))

all_behind : (steps : List Step) → take (length steps - 1) (drop 1 steps) ≡ drop 1 steps
all_behind [] = refl
all_behind (s ∷ ss) = let e : length ss ≤ length (s ∷ ss) - 1 = omega arith in take_all (length (s ∷ ss) - 1) ss e

pub name_and_rest : (fs : List Field) (steps : List Step) (d : Step) (f : Field) → 1 ≤ length steps → Some f ≡ slice_get fs (get_or steps 0 d).place
    → path_names (map step_view steps) (tree.group (fields_view fs)) ≡ string_bytes f.name ∷ path_names (map step_view (take (length steps - 1) (drop 1 steps))) (shape_view f.shape)
name_and_rest fs steps d f h e = name_and_more fs steps d f h e ∙ ap (λ (p : List Step). string_bytes f.name ∷ path_names (map step_view p) (shape_view f.shape)) (sym (all_behind steps))

-- a leaf has no fields
pub below_leaf : (k : tree.Kind) (p : List path.Step) → path_names p (tree.leaf k) ≡ []
below_leaf k [] = refl
below_leaf k (t ∷ p) = refl

-- ---- written

pub no_name : (out before : List ℕ) (ns : List (List ℕ)) → ns ≡ [] → out ≡ out ++ dotted before ns
no_name out before ns e = sym (append-nil out) ∙ ap (λ ms. out ++ dotted before ms) (sym e)

two_parts : (out mid new before n : List ℕ) → mid ≡ out ++ before → new ≡ mid ++ name_text n → new ≡ out ++ (before ++ name_text n)
two_parts out mid new before n e f = f ∙ (ap (λ x. x ++ name_text n) e ∙ append_assoc out before (name_text n))

pub last_name : (out mid new before n : List ℕ) (ns : List (List ℕ)) → ns ≡ n ∷ [] → mid ≡ out ++ before → new ≡ mid ++ name_text n → new ≡ out ++ dotted before ns
last_name out mid new before n ns h e f =
    two_parts out mid new before n e f ∙ (ap (λ x. out ++ (before ++ x)) (sym (append-nil (name_text n))) ∙ ap (λ ms. out ++ dotted before ms) (sym h))

pub names_behind : (out mid next new before n : List ℕ) (ns behind : List (List ℕ)) → ns ≡ n ∷ behind → mid ≡ out ++ before → next ≡ mid ++ name_text n → new ≡ next ++ dotted (46 ∷ []) behind → new ≡ out ++ dotted before ns
names_behind out mid next new before n ns behind h e f g =
    let d = dotted (46 ∷ []) behind in
    g ∙ (ap (λ x. x ++ d) (two_parts out mid next before n e f) ∙ (append_assoc out (before ++ name_text n) d ∙ (ap (λ x. out ++ x) (append_assoc before (name_text n) d) ∙ ap (λ ms. out ++ dotted before ms) (sym h))))

-- names with dots between
pub dots_between : (ns : List (List ℕ)) → dotted [] ns ≡ join_with_byte 46 (map name_text ns)
dots_between [] = refl
dots_between (n ∷ []) = append-nil (name_text n)
dots_between (n ∷ m ∷ ns) = ap (λ x. name_text n ++ (46 ∷ x)) (dots_between (m ∷ ns))
