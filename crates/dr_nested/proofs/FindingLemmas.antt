-- Going along names below a group.
use Rattle.std.specs.Prelude.{◌≡◌, ℕ, ◌+◌, List, [], ◌∷◌, ◌++◌, string_bytes, bytes_eq, ◌==◌, if◌then◌else◌, Bool, true, false, Option, Some, None, option_map, option_and_then, Result, Ok, Err, Vec, MatchOption, ⊤}
use Rattle.std.specs.declared.alloc.Global.{Global}
use Rattle.std.proofs.Common.{refl, sym, ap, ◌∙◌, append_assoc, add-one}
use Rattle.dr_meaning.specs.Schema as tree
use Rattle.dr_meaning.specs.Path.{Step, Found, PathFault, unknown_field, named_field, found_below, resolve, find_path, found_leaf, cut_at_dots}
use Rattle.dr_nested.specs.Views.{SeenField, field_view, fields_view, shape_view}
use Rattle.dr_nested.specs.Faults.{path_fault_view, path_problem_view}
use Rattle.dr_nested.specs.Finding.{found_at, behind, Leads}
use Rattle.dr_nested.specs.declared.shape.Field.{Field}
use Rattle.dr_nested.specs.declared.shape.Shape as shapes
use Rattle.dr_nested.specs.declared.shape.Kind.{Kind}
use Rattle.dr_nested.specs.declared.fault.PathFault.{PathFault as Refusal}
use Rattle.dr_nested.proofs.ViewLemmas.{view-field, view-leaf, view-group}
use Rattle.dr_meaning.specs.Lists.{onto_first}

-- ---- a field by its name

pub found_here : (n : List ℕ) (i : ℕ) (f : Field) (fs : List Field) → bytes_eq n (string_bytes f.name) ≡ true → named_field n i (fields_view (f ∷ fs)) ≡ Some (found_at i (field_view f))
found_here n i f fs h = let t : bytes_eq n (field_view f).name ≡ true = ap (λ (g : SeenField). bytes_eq n g.name) (view-field f) ∙ h in rw t refl

pub found_later : (n : List ℕ) (i : ℕ) (f : Field) (fs : List Field) → bytes_eq n (string_bytes f.name) ≡ false → named_field n i (fields_view (f ∷ fs)) ≡ named_field n (i + 1) (fields_view fs)
found_later n i f fs h = let t : bytes_eq n (field_view f).name ≡ false = ap (λ (g : SeenField). bytes_eq n g.name) (view-field f) ∙ h in rw (t, add-one i) refl

-- ---- below a field

-- what the names below a field lead to, where the field was found
abbrev pub below : List (List ℕ) → Option Found → Option Found
below ns m = option_and_then (λ (f : Found). option_map (found_below f) (resolve ns f.shape)) m

pub find_path-is : (n : List ℕ) (ns : List (List ℕ)) (fs : tree.Fields) → find_path (n ∷ ns) fs ≡ below ns (named_field n 0 fs)
find_path-is n ns fs = refl

nothing_is_found : (f : Found) → None ≡ Some f → ⊥
nothing_is_found f e = cc

found_is : (f g : Found) → Some f ≡ Some g → f ≡ g
found_is f g e = cc

behind_both : (p : List Step) (f : Found) (m : Option Found) → option_map (behind p) (option_map (found_below f) m) ≡ option_map (behind (p ++ f.path)) m
behind_both p f None = refl
behind_both p f (Some g) = ap (λ (q : List Step). Some (record { path = q; shape = g.shape })) (sym (append_assoc p f.path g.path))

-- the field's shape decides, behind its step
pub entered : (ns : List (List ℕ)) (m : Option Found) (before now : List Step) (s : tree.Shape) → option_map (behind before) m ≡ Some (record { path = now; shape = s })
    → option_map (behind before) (below ns m) ≡ option_map (behind now) (resolve ns s)
entered ns None before now s e = absurd (nothing_is_found (record { path = now; shape = s }) e)
entered ns (Some f) before now s e =
    let k : behind before f ≡ record { path = now; shape = s } = found_is (behind before f) (record { path = now; shape = s }) e in
    let p : before ++ f.path ≡ now = ap (λ (g : Found). g.path) k in
    let q : f.shape ≡ s = ap (λ (g : Found). g.shape) k in
    behind_both before f (resolve ns f.shape) ∙ ap (λ (w : List Step). option_map (behind w) (resolve ns f.shape)) p ∙ ap (λ (t : tree.Shape). option_map (behind now) (resolve ns t)) q

-- what the shape refuses is refused behind any steps
pub refused : (ns : List (List ℕ)) (m : Option Found) (before now : List Step) (s : tree.Shape) (f : PathFault) → option_map (behind before) m ≡ Some (record { path = now; shape = s })
    → ((qs : List (List ℕ)) (p : List Step) → found_leaf qs (option_map (behind p) (resolve ns s)) ≡ Err f)
    → (qs : List (List ℕ)) (p : List Step) → found_leaf qs (option_map (behind p) (below ns m)) ≡ Err f
refused ns None before now s f e h qs p = absurd (nothing_is_found (record { path = now; shape = s }) e)
refused ns (Some g) before now s f e h qs p =
    let k : behind before g ≡ record { path = now; shape = s } = found_is (behind before g) (record { path = now; shape = s }) e in
    let q : g.shape ≡ s = ap (λ (x : Found). x.shape) k in
    ap (found_leaf qs) (behind_both p g (resolve ns g.shape)) ∙ ap (λ (t : tree.Shape). found_leaf qs (option_map (behind (p ++ g.path)) (resolve ns t))) q ∙ h qs (p ++ g.path)

-- no field of the name
pub unknown : (ns qs : List (List ℕ)) (m : Option Found) (p : List Step) → m ≡ None → found_leaf qs (option_map (behind p) (below ns m)) ≡ Err unknown_field
unknown ns qs m p e = rw e refl

-- a leaf has no field of any name
no_field : (dot : Bool) (b : ℕ) (ns : List (List ℕ)) (k : tree.Kind) → resolve (if dot then [] ∷ ns else onto_first b ns) (tree.leaf k) ≡ None
no_field true b ns k = refl
no_field false b [] k = refl
no_field false b (n ∷ ns) k = refl

nothing_below_leaf : (text : List ℕ) (k : tree.Kind) → resolve (cut_at_dots text) (tree.leaf k) ≡ None
nothing_below_leaf [] k = refl
nothing_below_leaf (b ∷ bs) k = no_field (b == 46) b (cut_at_dots bs) k

leaf_refuses : (text : List ℕ) (s : shapes.Shape) (k : Kind) → s ≡ shapes.Leaf k → (qs : List (List ℕ)) (p : List Step) → found_leaf qs (option_map (behind p) (resolve (cut_at_dots text) (shape_view s))) ≡ Err unknown_field
leaf_refuses text s k e qs p = rw (e, view-leaf k, nothing_below_leaf text) refl

-- the text goes on below a leaf
pub ends_at_leaf : (text n rest : List ℕ) (fs : tree.Fields) (before now : List Step) (s : shapes.Shape) (k : Kind) → cut_at_dots text ≡ n ∷ cut_at_dots rest
    → option_map (behind before) (named_field n 0 fs) ≡ Some (record { path = now; shape = shape_view s }) → s ≡ shapes.Leaf k
    → (qs : List (List ℕ)) (p : List Step) → found_leaf qs (option_map (behind p) (find_path (cut_at_dots text) fs)) ≡ Err unknown_field
ends_at_leaf text n rest fs before now s k c e h qs p =
    ap (λ (parts : List (List ℕ)). found_leaf qs (option_map (behind p) (find_path parts fs))) c
    ∙ refused (cut_at_dots rest) (named_field n 0 fs) before now (shape_view s) unknown_field e (leaf_refuses rest s k h) qs p

-- the text goes on below a group
pub goes_on_below : (text n rest : List ℕ) (fs : tree.Fields) (before now last : List Step) (s : shapes.Shape) (inner : Vec Field Global) (r : Result Kind Refusal)
    → cut_at_dots text ≡ n ∷ cut_at_dots rest
    → option_map (behind before) (named_field n 0 fs) ≡ Some (record { path = now; shape = shape_view s }) → s ≡ shapes.Group inner
    → Leads now (find_path (cut_at_dots rest) (fields_view inner.items)) last r
    → Leads before (find_path (cut_at_dots text) fs) last r
goes_on_below text n rest fs before now last s inner (Ok k) c e h l =
    let v : shape_view s ≡ tree.group (fields_view inner.items) = ap shape_view h ∙ view-group inner in
    ap (λ (parts : List (List ℕ)). option_map (behind before) (find_path parts fs)) c
    ∙ entered (cut_at_dots rest) (named_field n 0 fs) before now (shape_view s) e ∙ ap (λ (t : tree.Shape). option_map (behind now) (resolve (cut_at_dots rest) t)) v ∙ l
goes_on_below text n rest fs before now last s inner (Err Refusal.NoMemory) c e h l = tt
goes_on_below text n rest fs before now last s inner (Err (Refusal.Refused w)) c e h l = λ qs p.
    let v : shape_view s ≡ tree.group (fields_view inner.items) = ap shape_view h ∙ view-group inner in
    ap (λ (parts : List (List ℕ)). found_leaf qs (option_map (behind p) (find_path parts fs))) c
    ∙ refused (cut_at_dots rest) (named_field n 0 fs) before now (shape_view s) (path_problem_view w) e
    (λ us q. ap (λ (t : tree.Shape). found_leaf us (option_map (behind q) (resolve (cut_at_dots rest) t))) v ∙ l us q) qs p

-- ---- the whole path

pub behind_nothing : (m : Option Found) → option_map (behind []) m ≡ m
behind_nothing None = refl
behind_nothing (Some f) = refl

pub leaf_found : (ns : List (List ℕ)) (m : Option Found) (p : List Step) (k : tree.Kind) → option_map (behind []) m ≡ Some (record { path = p; shape = tree.leaf k })
    → found_leaf ns m ≡ Ok (record { names = ns; path = p; kind = k })
leaf_found ns m p k e = ap (found_leaf ns) (sym (behind_nothing m) ∙ e)

pub leaf_refused : (e : Refusal) (ns : List (List ℕ)) (m : Option Found)
    → MatchOption (path_fault_view e) ⊤ (λ f. (qs : List (List ℕ)) (p : List Step) → found_leaf qs (option_map (behind p) m) ≡ Err f)
    → MatchOption (path_fault_view e) ⊤ (λ f. found_leaf ns m ≡ Err f)
leaf_refused Refusal.NoMemory ns m h = tt
leaf_refused (Refusal.Refused w) ns m h = ap (found_leaf ns) (sym (behind_nothing m)) ∙ h ns []
