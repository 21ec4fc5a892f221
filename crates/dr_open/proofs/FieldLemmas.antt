-- The field of a name among those of a group, and the place of a leaf below it.
use Rattle.std.proofs.Common.{◌≡◌, ℕ, suc, ◌+◌, ◌-◌, ◌≤◌, List, [], ◌∷◌, length, length-drop, map, take, drop, Bool, refl, sym, ap, ◌∙◌, subst, true, false, true≢false, arith, ◌⊎◌, inl, inr}
use Rattle.std.specs.Prelude.{Option, Some, None, option_map, option_and_then, ◌&&◌, if◌then◌else◌, bytes_eq, IsSome, ℤ, pos, negsuc}
use Rattle.std.proofs.lemmas.Bool.{and_parts, and_cases, and_from, and_left, and_right}
use Rattle.std.proofs.lemmas.Slice.Eq.{bytes_eq-Decides}
use Rattle.std.proofs.lemmas.Option.{same_Some}
use Rattle.std.proofs.lemmas.List.{drop-drop, length-map}
use Rattle.dr_meaning.specs.Schema.{Repetition, Kind, is_short_name, greatest_depth}
use Rattle.dr_meaning.specs.Path.{Step, Leaf}
use Rattle.dr_formats.specs.Metadata.{SchemaElement}
use Rattle.dr_formats.specs.FileSchema.{FieldsRead, ShapeRead, as_group, shape_read, fields_read, repetition_from, leaves_under, shape_leaves_under, leaf_under, is_open_name, is_leaf_for, place_of, file_schema, root_read, whole_schema}
use Rattle.dr_meta.specs.declared.file.SchemaItem.{SchemaItem}
use Rattle.dr_meta.specs.Views.{item_view}
use Rattle.dr_meta.specs.OneTree.{leaves_of_shape}
use Rattle.dr_formats.specs.Lacking.{field_named}
use Rattle.dr_open.specs.Sources.{first_named, file_field_of, field_from}
use Rattle.dr_open.specs.Places.{next_fields, shape_from, Passed, passed_from, passed, behind_leaves, place_among, place_in_field, place_in_shape, place_in_file, is_repetition, leaf_of_element}
use Rattle.dr_open.proofs.PassingLemmas.{is_there, First, first_next, rest_next, from_first, read_of, passes, shape_within, rest_from, from_place, first_from}
use Rattle.dr_open.proofs.PlaceLemmas.{leaf_at, field_passed, field_found, closed, other_repetition, on_the_way, no_names, no_steps, place_in_leaves}

-- the first of fields that are there
first_there : (left n : ℕ) (e : SchemaElement) (es : List SchemaElement) → left ≡ suc n → IsSome (passed left (e ∷ es)) → (f : FieldsRead) × (next_fields (suc n) (e ∷ es) ≡ Some f)
first_there left n e es q h = read_of (suc n) (e ∷ es) (subst (λ (m : ℕ). IsSome (passed m (e ∷ es))) q h)

pub shape_there : (left n : ℕ) (e : SchemaElement) (es : List SchemaElement) → left ≡ suc n → IsSome (passed left (e ∷ es)) → IsSome (shape_from e es)
shape_there left n e es q h =
    let f : (f : FieldsRead) × (next_fields (suc n) (e ∷ es) ≡ Some f) = first_there left n e es q h in
    let x : First (length es) n e es f.0 = first_next n e es f.0 f.1 in
    is_there (shape_from e es) x.shape x.is_shape

-- one field alone
one_passed : (n : ℕ) (e : SchemaElement) (es : List SchemaElement) (f : FieldsRead) (x : First (length es) n e es f) → passed 1 (e ∷ es) ≡ Some (record { leaves = leaves_of_shape x.shape.shape; behind = x.shape.behind })
one_passed n e es f x =
    let q : leaves_of_shape x.shape.shape + 0 ≡ leaves_of_shape x.shape.shape = omega arith in
    ap (option_map passed_from) (from_first (length es) 0 e es x.repetition x.shape _ x.is_repetition x.is_shape refl) ∙ ap (λ (j : ℕ). Some (record { leaves = j; behind = x.shape.behind })) q

pub one_there : (left n : ℕ) (e : SchemaElement) (es : List SchemaElement) → left ≡ suc n → IsSome (passed left (e ∷ es)) → IsSome (passed 1 (e ∷ es))
one_there left n e es q h =
    let f : (f : FieldsRead) × (next_fields (suc n) (e ∷ es) ≡ Some f) = first_there left n e es q h in
    is_there (passed 1 (e ∷ es)) _ (one_passed n e es f.0 (first_next n e es f.0 f.1))

among_read : (l : Leaf) (n : ℕ) (es : List SchemaElement) (f : FieldsRead) → next_fields n es ≡ Some f → place_among l n es ≡ place_of l (leaves_under [] f.fields)
among_read l n es f h = ap (option_and_then (λ (f : FieldsRead). place_of l (leaves_under [] f.fields))) h

in_field : (l : Leaf) (n : ℕ) (e : SchemaElement) (es : List SchemaElement) (f : FieldsRead) (x : First (length es) n e es f) → place_in_field l e es ≡ place_of l (map (leaf_under e.name x.repetition (is_open_name [] e.name)) (shape_leaves_under x.shape.shape))
in_field l n e es f x = rw (x.is_repetition, x.is_shape) refl

-- the field has the name
pub found_here : (m : List ℕ) (left n : ℕ) (e : SchemaElement) (es : List SchemaElement) → left ≡ suc n → IsSome (passed left (e ∷ es)) → bytes_eq m e.name ≡ true
    → (l : Leaf) (ns : List (List ℕ)) → l.names ≡ m ∷ ns → place_among l left (e ∷ es) ≡ place_in_field l e es
found_here m left n e es q h g l ns w =
    let f : (f : FieldsRead) × (next_fields (suc n) (e ∷ es) ≡ Some f) = first_there left n e es q h in
    let x : First (length es) n e es f.0 = first_next n e es f.0 f.1 in
    ap (λ (j : ℕ). place_among l j (e ∷ es)) q
    ∙ (among_read l (suc n) (e ∷ es) f.0 f.1
    ∙ (ap (λ (y : FieldsRead). place_of l (leaves_under [] y.fields)) (sym x.is_whole)
    ∙ (field_found m ns l e.name x.repetition x.shape.shape x.rest.fields w g
    ∙ sym (in_field l n e es f.0 x))))

-- what holds behind a field of another name
pub record GoesOn (m : List ℕ) (left n : ℕ) (all : List SchemaElement) (p : Passed) : Type 0 where
  pub are_fields : IsSome (passed n p.behind)
  pub place : (l : Leaf) (ns : List (List ℕ)) → l.names ≡ m ∷ ns → place_among l left all ≡ behind_leaves p.leaves (place_among l n p.behind)
  pub named : first_named m left all ≡ first_named m n p.behind
  pub within : p.leaves + length p.behind ≤ length all

named_read : (m : List ℕ) (n : ℕ) (es : List SchemaElement) (f : FieldsRead) → next_fields n es ≡ Some f → first_named m n es ≡ field_named m f.fields
named_read m n es f h = ap (option_and_then (λ (f : FieldsRead). field_named m f.fields)) h

-- the field has the name
pub named_here : (m : List ℕ) (left n : ℕ) (e : SchemaElement) (es : List SchemaElement) → left ≡ suc n → IsSome (passed left (e ∷ es)) → bytes_eq m e.name ≡ true → first_named m left (e ∷ es) ≡ field_from e es
named_here m left n e es q h g =
    let f : (f : FieldsRead) × (next_fields (suc n) (e ∷ es) ≡ Some f) = first_there left n e es q h in
    let x : First (length es) n e es f.0 = first_next n e es f.0 f.1 in
    let a : field_from e es ≡ Some (file_field_of x.repetition x.shape) = rw (x.is_repetition, x.is_shape) refl in
    ap (λ (j : ℕ). first_named m j (e ∷ es)) q
    ∙ (named_read m (suc n) (e ∷ es) f.0 f.1
    ∙ (ap (λ (y : FieldsRead). field_named m y.fields) (sym x.is_whole)
    ∙ (ap (λ (b : Bool). if b then Some (file_field_of x.repetition x.shape) else field_named m x.rest.fields) g ∙ sym a)))

pub goes_on : (m : List ℕ) (left n : ℕ) (e : SchemaElement) (es : List SchemaElement) (p : Passed) → left ≡ suc n → IsSome (passed left (e ∷ es)) → bytes_eq m e.name ≡ false → passed 1 (e ∷ es) ≡ Some p → GoesOn m left n (e ∷ es) p
goes_on m left n e es p q h g w =
    let f : (f : FieldsRead) × (next_fields (suc n) (e ∷ es) ≡ Some f) = first_there left n e es q h in
    let x : First (length es) n e es f.0 = first_next n e es f.0 f.1 in
    let b : (record { leaves = leaves_of_shape x.shape.shape; behind = x.shape.behind }) ≡ p = same_Some _ _ (sym (one_passed n e es f.0 x) ∙ w) in
    let r : next_fields n x.shape.behind ≡ Some x.rest = rest_next n e es f.0 x in
    subst (λ (p : Passed). GoesOn m left n (e ∷ es) p) b
    (record {
      are_fields = is_there (passed n x.shape.behind) (passed_from x.rest) (passes n x.shape.behind x.rest r);
      place = λ l ns v.
          ap (λ (j : ℕ). place_among l j (e ∷ es)) q
          ∙ (among_read l (suc n) (e ∷ es) f.0 f.1
          ∙ (ap (λ (y : FieldsRead). place_of l (leaves_under [] y.fields)) (sym x.is_whole)
          ∙ (field_passed m ns l e.name x.repetition x.shape.shape x.rest.fields v g
          ∙ ap (behind_leaves (leaves_of_shape x.shape.shape)) (sym (among_read l n x.shape.behind x.rest r)))));
      named =
          ap (λ (j : ℕ). first_named m j (e ∷ es)) q
          ∙ (named_read m (suc n) (e ∷ es) f.0 f.1
          ∙ (ap (λ (y : FieldsRead). field_named m y.fields) (sym x.is_whole)
          ∙ (ap (λ (b : Bool). if b then Some (file_field_of x.repetition x.shape) else field_named m x.rest.fields) g ∙ sym (named_read m n x.shape.behind x.rest r))));
      within = (shape_within e es x.shape x.is_shape).0;
    })

-- ---- at a place of the list

pub fields_at : (xs : List SchemaItem) (i left : ℕ) (x : SchemaItem) (ys : List SchemaItem) → take (length xs - i) (drop i xs) ≡ x ∷ ys → IsSome (passed left (from_place i xs)) → IsSome (passed left (item_view x ∷ map item_view ys))
fields_at xs i left x ys h k = subst (λ (es : List SchemaElement). IsSome (passed left es)) (first_from xs i x ys h) k

-- what holds behind so many leaves and elements
pub record Stepped (m : List ℕ) (xs : List SchemaItem) (at left n leaves elements : ℕ) : Type 0 where
  pub in_list : at + elements ≤ length xs
  pub leaves_within : leaves ≤ elements
  pub are_fields : IsSome (passed n (from_place (at + elements) xs))
  pub place : (l : Leaf) (ns : List (List ℕ)) → l.names ≡ m ∷ ns → place_among l left (from_place at xs) ≡ behind_leaves leaves (place_among l n (from_place (at + elements) xs))
  pub named : first_named m left (from_place at xs) ≡ first_named m n (from_place (at + elements) xs)

pub stepped : (m : List ℕ) (xs : List SchemaItem) (at left n : ℕ) (x : SchemaItem) (ys : List SchemaItem) (leaves elements : ℕ) → left ≡ suc n → at ≤ length xs → take (length xs - at) (drop at xs) ≡ x ∷ ys → IsSome (passed left (from_place at xs))
    → bytes_eq m x.name.now ≡ false → passed 1 (map item_view (take (length xs - at) (drop at xs))) ≡ Some (record { leaves = leaves; behind = map item_view (drop elements (take (length xs - at) (drop at xs))) })
    → elements ≤ length (take (length xs - at) (drop at xs)) → Stepped m xs at left n leaves elements
stepped m xs at left n x ys leaves elements q r h k g w v =
    let b : map item_view (drop elements (take (length xs - at) (drop at xs))) ≡ from_place (at + elements) xs =
    ap (λ (zs : List SchemaItem). map item_view (drop elements zs)) (rest_from xs at) ∙ ap (map item_view) (drop-drop elements at xs) in
    let u : passed 1 (item_view x ∷ map item_view ys) ≡ Some (record { leaves = leaves; behind = from_place (at + elements) xs }) =
    ap (passed 1) (sym (ap (map item_view) h)) ∙ (w ∙ ap (λ (es : List SchemaElement). Some (record { leaves = leaves; behind = es })) b) in
    let z : GoesOn m left n (item_view x ∷ map item_view ys) (record { leaves = leaves; behind = from_place (at + elements) xs }) =
    goes_on m left n (item_view x) (map item_view ys) (record { leaves = leaves; behind = from_place (at + elements) xs }) q (fields_at xs at left x ys h k) g u in
    let long : length (take (length xs - at) (drop at xs)) ≡ length (drop at xs) = ap (λ (zs : List SchemaItem). length zs) (rest_from xs at) in
    let more : length (take (length xs - at) (drop at xs)) ≡ suc (length ys) = ap (λ (zs : List SchemaItem). length zs) h in
    let whole : length (map item_view ys) ≡ length ys = length-map ys item_view in
    let part : length (from_place (at + elements) xs) ≡ length xs - (at + elements) = length-map (drop (at + elements) xs) item_view ∙ length-drop (at + elements) xs in
    record {
      in_list = omega (arith, v, long, length-drop at xs, r);
      leaves_within = omega (arith, z.within, part, whole, more, long, length-drop at xs, v, r);
      are_fields = z.are_fields;
      place = λ l ns e. ap (place_among l left) (first_from xs at x ys h) ∙ z.place l ns e;
      named = ap (first_named m left) (first_from xs at x ys h) ∙ z.named;
    }

-- ---- on along a path

-- the first field of the name goes on with the path
pub goes_in : (m : List ℕ) (ns : List (List ℕ)) (s : Step) (p : List Step) (k : Kind) (e : SchemaElement) (es : List SchemaElement) → e.name ≡ m → (is_short_name m && is_repetition s.repetition (repetition_from e.repetition)) ≡ true
    → place_in_field (leaf_at (m ∷ ns) (s ∷ p) k) e es ≡ place_in_shape (leaf_at ns p k) e es
goes_in m ns s p k e es h g = by (repetition_from e.repetition) (shape_from e es) parts.1
  where
    parts : (is_short_name m ≡ true) × (is_repetition s.repetition (repetition_from e.repetition) ≡ true)
    parts = and_parts _ _ g

    by : (r : Option Repetition) (o : Option ShapeRead) → is_repetition s.repetition r ≡ true
        → option_and_then (λ (r : Repetition). option_and_then (λ (x : ShapeRead). place_of (leaf_at (m ∷ ns) (s ∷ p) k) (map (leaf_under e.name r (is_open_name [] e.name)) (shape_leaves_under x.shape))) o) r
        ≡ option_and_then (λ (x : ShapeRead). place_of (leaf_at ns p k) (shape_leaves_under x.shape)) o
    by None o q = absurd (true≢false (sym q))
    by (Some r) None q = refl
    by (Some r) (Some x) q = on_the_way m ns s p k e.name r (is_open_name [] e.name) (shape_leaves_under x.shape) ((bytes_eq-Decides m e.name).1 (sym h)) q (and_from _ _ (ap is_short_name h ∙ parts.0) refl)

-- or with none
pub goes_nowhere : (m : List ℕ) (ns : List (List ℕ)) (s : Step) (p : List Step) (k : Kind) (e : SchemaElement) (es : List SchemaElement) → e.name ≡ m → (is_short_name m && is_repetition s.repetition (repetition_from e.repetition)) ≡ false
    → place_in_field (leaf_at (m ∷ ns) (s ∷ p) k) e es ≡ None
goes_nowhere m ns s p k e es h g = by (repetition_from e.repetition) (shape_from e es) (and_cases _ _ g)
  where
    by : (r : Option Repetition) (o : Option ShapeRead) → (is_short_name m ≡ false) ⊎ (is_repetition s.repetition r ≡ false)
        → option_and_then (λ (r : Repetition). option_and_then (λ (x : ShapeRead). place_of (leaf_at (m ∷ ns) (s ∷ p) k) (map (leaf_under e.name r (is_open_name [] e.name)) (shape_leaves_under x.shape))) o) r ≡ None
    by None o q = refl
    by (Some r) None q = refl
    by (Some r) (Some x) (inl q) = closed (leaf_at (m ∷ ns) (s ∷ p) k) e.name r (is_open_name [] e.name) (shape_leaves_under x.shape) (and_left _ _ (ap is_short_name h ∙ q))
    by (Some r) (Some x) (inr q) = other_repetition (m ∷ ns) s p k e.name r (is_open_name [] e.name) (shape_leaves_under x.shape) q

-- a path that has ended at a group
pub no_names_among : (p : List Step) (k : Kind) (n : ℕ) (es : List SchemaElement) → place_among (leaf_at [] p k) n es ≡ None
no_names_among p k n es = by (next_fields n es)
  where
    by : (o : Option FieldsRead) → option_and_then (λ (f : FieldsRead). place_of (leaf_at [] p k) (leaves_under [] f.fields)) o ≡ None
    by None = refl
    by (Some f) = no_names p k f.fields

pub no_steps_among : (ns : List (List ℕ)) (k : Kind) (n : ℕ) (es : List SchemaElement) → place_among (leaf_at ns [] k) n es ≡ None
no_steps_among ns k n es = by (next_fields n es)
  where
    by : (o : Option FieldsRead) → option_and_then (λ (f : FieldsRead). place_of (leaf_at ns [] k) (leaves_under [] f.fields)) o ≡ None
    by None = refl
    by (Some f) = no_steps ns k f.fields

-- a path that has not ended is not at a leaf
pub names_left : {A : Type 0} (g : A → List ℕ) (xs : List A) (p : List Step) (k : Kind) (e : SchemaElement) → (length xs ≡ 0 → ⊥) → is_leaf_for (leaf_at (map g xs) p k) (leaf_of_element e) ≡ false
names_left g [] p k e h = absurd (h refl)
names_left g (x ∷ xs) p k e h = refl

pub steps_left : {A : Type 0} (g : A → Step) (xs : List A) (ns : List (List ℕ)) (k : Kind) (e : SchemaElement) → (length xs ≡ 0 → ⊥) → is_leaf_for (leaf_at ns (map g xs) k) (leaf_of_element e) ≡ false
steps_left g [] ns k e h = absurd (h refl)
steps_left g (x ∷ xs) ns k e h = and_left _ _ (and_right _ _ refl)

-- ---- the root

pub root_shape : (e : SchemaElement) (es : List SchemaElement) → IsSome (file_schema (e ∷ es)) → IsSome (shape_from e es)
root_shape e es h = by e.type e.children h
  where
    there : (o : Option FieldsRead) → IsSome (option_and_then (λ (f : FieldsRead). whole_schema e.name f f.behind) o) → IsSome (option_map as_group o)
    there None g = g
    there (Some f) g = refl

    by : (t c : Option ℤ) → IsSome (root_read e t c es) → IsSome (shape_read (fields_read (length es)) e t c es)
    by (Some z) c g = refl
    by None None g = g
    by None (Some (pos n)) g = there (fields_read (length es) n es) g
    by None (Some (negsuc n)) g = g

pub root_place : (l : Leaf) (e : SchemaElement) (es : List SchemaElement) → length l.path ≤ greatest_depth → IsSome (file_schema (e ∷ es)) → place_in_file l (file_schema (e ∷ es)) ≡ place_in_shape l e es
root_place l e es d h = by e.type e.children h
  where
    whole : (f : FieldsRead) (rest : List SchemaElement) → IsSome (whole_schema e.name f rest) → place_in_file l (whole_schema e.name f rest) ≡ place_of l (leaves_under [] f.fields)
    whole f [] g = place_in_leaves l f.fields d
    whole f (x ∷ rest) g = absurd (true≢false (sym g))

    there : (o : Option FieldsRead) → IsSome (option_and_then (λ (f : FieldsRead). whole_schema e.name f f.behind) o)
        → place_in_file l (option_and_then (λ (f : FieldsRead). whole_schema e.name f f.behind) o) ≡ option_and_then (λ (s : ShapeRead). place_of l (shape_leaves_under s.shape)) (option_map as_group o)
    there None g = refl
    there (Some f) g = whole f f.behind g

    by : (t c : Option ℤ) → IsSome (root_read e t c es) → place_in_file l (root_read e t c es) ≡ option_and_then (λ (s : ShapeRead). place_of l (shape_leaves_under s.shape)) (shape_read (fields_read (length es)) e t c es)
    by (Some z) c g = absurd (true≢false (sym g))
    by None None g = absurd (true≢false (sym g))
    by None (Some (pos n)) g = there (fields_read (length es) n es) g
    by None (Some (negsuc n)) g = absurd (true≢false (sym g))

-- ---- the parts of a path

pub no_names_left : {A : Type 0} (g : A → List ℕ) (xs : List A) (p : List Step) (k : Kind) (n : ℕ) (es : List SchemaElement) → length xs ≡ 0 → place_among (leaf_at (map g xs) p k) n es ≡ None
no_names_left g [] p k n es h = no_names_among p k n es
no_names_left g (x ∷ xs) p k n es h = absurd (omega (arith, h))

pub no_steps_left : {A : Type 0} (g : A → Step) (xs : List A) (ns : List (List ℕ)) (k : Kind) (n : ℕ) (es : List SchemaElement) → length xs ≡ 0 → place_among (leaf_at ns (map g xs) k) n es ≡ None
no_steps_left g [] ns k n es h = no_steps_among ns k n es
no_steps_left g (x ∷ xs) ns k n es h = absurd (omega (arith, h))

-- the first field of the name m, behind so many leaves
pub record IsFirstOf (m : List ℕ) (n : ℕ) (all : List SchemaElement) (before : ℕ) (e : SchemaElement) (es : List SchemaElement) : Type 0 where
  pub place : (l : Leaf) (ns : List (List ℕ)) → l.names ≡ m ∷ ns → place_among l n all ≡ behind_leaves before (place_in_field l e es)
  pub name : e.name ≡ m

pub path_goes_in : {A B : Type 0} (g : A → List ℕ) (h : B → Step) (xs : List A) (x : A) (zs : List A) (ys : List B) (y : B) (ws : List B) (m : List ℕ) (k : Kind) (n before : ℕ) (all : List SchemaElement) (e : SchemaElement) (es : List SchemaElement)
    → xs ≡ x ∷ zs → ys ≡ y ∷ ws → m ≡ g x → IsFirstOf m n all before e es → (is_short_name m && is_repetition (h y).repetition (repetition_from e.repetition)) ≡ true
    → place_among (leaf_at (map g xs) (map h ys) k) n all ≡ behind_leaves before (place_in_shape (leaf_at (map g zs) (map h ws) k) e es)
path_goes_in g h xs x zs ys y ws m k n before all e es a b c f q =
    let v : map g xs ≡ m ∷ map g zs = ap (map g) a ∙ ap (λ (j : List ℕ). j ∷ map g zs) (sym c) in
    f.place (leaf_at (map g xs) (map h ys) k) (map g zs) v
    ∙ ap (behind_leaves before) (ap (λ (ns : List (List ℕ)). place_in_field (leaf_at ns (map h ys) k) e es) v ∙ (ap (λ (p : List Step). place_in_field (leaf_at (m ∷ map g zs) p k) e es) (ap (map h) b)
    ∙ goes_in m (map g zs) (h y) (map h ws) k e es f.name q))

pub path_goes_nowhere : {A B : Type 0} (g : A → List ℕ) (h : B → Step) (xs : List A) (x : A) (zs : List A) (ys : List B) (y : B) (ws : List B) (m : List ℕ) (k : Kind) (n before : ℕ) (all : List SchemaElement) (e : SchemaElement) (es : List SchemaElement)
    → xs ≡ x ∷ zs → ys ≡ y ∷ ws → m ≡ g x → IsFirstOf m n all before e es → (is_short_name m && is_repetition (h y).repetition (repetition_from e.repetition)) ≡ false
    → place_among (leaf_at (map g xs) (map h ys) k) n all ≡ None
path_goes_nowhere g h xs x zs ys y ws m k n before all e es a b c f q =
    let v : map g xs ≡ m ∷ map g zs = ap (map g) a ∙ ap (λ (j : List ℕ). j ∷ map g zs) (sym c) in
    f.place (leaf_at (map g xs) (map h ys) k) (map g zs) v
    ∙ ap (behind_leaves before) (ap (λ (ns : List (List ℕ)). place_in_field (leaf_at ns (map h ys) k) e es) v ∙ (ap (λ (p : List Step). place_in_field (leaf_at (m ∷ map g zs) p k) e es) (ap (map h) b)
    ∙ goes_nowhere m (map g zs) (h y) (map h ws) k e es f.name q))
