-- The open part of fields, field by field, in the list of elements.
use Rattle.std.proofs.Common.{◌≡◌, ℕ, suc, ◌+◌, ◌-◌, ◌≤◌, List, [], ◌∷◌, ◌++◌, length, map, take, drop, Bool, refl, sym, ap, ◌∙◌, subst, true, true≢false, arith}
use Rattle.std.specs.Prelude.{Option, Some, None, option_map, option_and_then, if◌then◌else◌, IsSome, ℤ, pos, negsuc, codes, Vec, vec_len, IfSome, unwrap_or}
use Rattle.std.specs.Option.{is_some, option_to_list}
use Rattle.std.specs.declared.alloc.Global.{Global}
use Rattle.std.specs.BTreeSet.{BTreeSet}
use Rattle.std.specs.List.{list_any}
use Rattle.std.proofs.lemmas.Option.{none-some, same_Some}
use Rattle.std.specs.Ordering.{is_eq}
use Rattle.std.proofs.lemmas.List.{drop-drop, length-map}
use denote.Ref.{Bor}
use Rattle.dr_meaning.specs.Schema.{Repetition, Fields, no_fields, field, Shape, group, Schema, is_short_name, is_nonempty, is_schema, greatest_depth, most_leaves}
use Rattle.dr_formats.specs.Metadata.{SchemaElement}
use Rattle.dr_formats.specs.FileSchema.{FieldsRead, ShapeRead, FileSchema, as_group, fields_read, repetition_from, root_read, whole_schema, file_schema, is_open_name, OpenFields, OpenShape, closed_shape, group_unless_empty, put_shape, put_open, open_fields, open_below, open_name, schema_unless_empty, open_schema}
use Rattle.dr_formats.proofs.OpenSchemaLemmas.{open_part_is_schema}
use Rattle.dr_nested.specs.declared.shape.Field.{Field}
use Rattle.dr_nested.specs.declared.shape.Shape as shapes
use Rattle.dr_nested.specs.Views.{SeenField, fields_of, fields_view, shape_view}
use Rattle.dr_nested.proofs.ViewLemmas.{view-group}
use Rattle.dr_meta.specs.declared.file.SchemaItem.{SchemaItem}
use Rattle.dr_meta.specs.Views.{item_view, lent}
use Rattle.dr_meta.specs.OneTree.{size_of_group}
use Rattle.dr_open.specs.Places.{next_fields, passed, passed_from}
use Rattle.dr_open.specs.Opens.{FieldsPart, part_of_fields, fields_part, ShapePart, part_of_shape, shape_part, FieldPart, named_shape, part_of_field, closed_field, field_part}
use Rattle.dr_open.specs.OpenViews.{HoldsNames, text_order}
use Rattle.dr_open.proofs.PassingLemmas.{enough, rest_from, from_place, is_there, First, first_next, rest_next, read_of, passes, shape_of_group}

-- ---- fields before others

pub before : List SeenField → Fields → Fields
before [] gs = gs
before (v ∷ vs) gs = field v.name v.repetition v.shape (before vs gs)

before-append : (us vs : List SeenField) (gs : Fields) → before (us ++ vs) gs ≡ before us (before vs gs)
unfolding before
before-append [] vs gs = refl
before-append (u ∷ us) vs gs = ap (field u.name u.repetition u.shape) (before-append us vs gs)

before_none : (vs : List SeenField) → before vs no_fields ≡ fields_of vs
unfolding before
before_none [] = refl
before_none (v ∷ vs) = ap (field v.name v.repetition v.shape) (before_none vs)

pub and_before : List SeenField → Option FieldsPart → Option FieldsPart
and_before vs o = option_map (λ (p : FieldsPart). record { fields = before vs p.fields; left = p.left; behind = p.behind }) o

and_before-append : (us vs : List SeenField) (o : Option FieldsPart) → and_before (us ++ vs) o ≡ and_before us (and_before vs o)
unfolding and_before
and_before-append us vs None = refl
and_before-append us vs (Some p) = ap (λ (gs : Fields). Some (record { fields = gs; left = p.left; behind = p.behind })) (before-append us vs p.fields)

and_nothing : (o : Option FieldsPart) → and_before [] o ≡ o
unfolding and_before before
and_nothing None = refl
and_nothing (Some p) = refl

-- ---- the first field

put_part : (n : List ℕ) (r : Repetition) (o : Option Shape) (f : OpenFields) (es : List SchemaElement) → Some (part_of_fields (put_shape n r o f) es) ≡ and_before (option_to_list (named_shape n r o)) (Some (part_of_fields f es))
unfolding and_before before
put_part n r None f es = refl
put_part n r (Some s) f es = refl

first_part : (earlier : List (List ℕ)) (d room n : ℕ) (e : SchemaElement) (es : List SchemaElement) (f : FieldsRead) (x : First (length es) n e es f) (s : OpenShape) → next_fields (suc n) (e ∷ es) ≡ Some f
    → (if is_open_name earlier e.name then open_below d x.shape.shape room else closed_shape room) ≡ s
    → fields_part earlier d room (suc n) (e ∷ es) ≡ and_before (option_to_list (named_shape e.name x.repetition s.shape)) (fields_part (e.name ∷ earlier) d s.left n x.shape.behind)
first_part earlier d room n e es f x s h q =
    ap (option_map (λ (f : FieldsRead). part_of_fields (open_fields earlier d f.fields room) f.behind)) h
    ∙ (ap (λ (y : FieldsRead). Some (part_of_fields (open_fields earlier d y.fields room) y.behind)) (sym x.is_whole)
    ∙ (ap (λ (o : OpenShape). Some (part_of_fields (put_open e.name x.repetition o (open_fields (e.name ∷ earlier) d x.rest.fields)) x.rest.behind)) q
    ∙ (put_part e.name x.repetition s.shape (open_fields (e.name ∷ earlier) d x.rest.fields s.left) x.rest.behind
    ∙ ap (and_before (option_to_list (named_shape e.name x.repetition s.shape))) (sym (ap (option_map (λ (f : FieldsRead). part_of_fields (open_fields (e.name ∷ earlier) d f.fields s.left) f.behind)) (rest_next n e es f x))))))

-- what holds behind a field's open part
pub record PartGoesOn (earlier : List (List ℕ)) (d room left n : ℕ) (all : List SchemaElement) (m : List ℕ) (p : FieldPart) : Type 0 where
  pub are_fields : IsSome (passed n p.behind)
  pub same : fields_part earlier d room left all ≡ and_before (option_to_list p.field) (fields_part (m ∷ earlier) d p.left n p.behind)

pub part_goes_on : (earlier : List (List ℕ)) (d room left n : ℕ) (e : SchemaElement) (es : List SchemaElement) (o : Option (List ℕ)) (r : Repetition) (p : FieldPart) → left ≡ suc n → IsSome (passed left (e ∷ es)) → Some r ≡ repetition_from e.repetition
    → is_some o ≡ is_open_name earlier e.name → ((m : List ℕ) → o ≡ Some m → m ≡ e.name) → field_part o r d room e es ≡ Some p → PartGoesOn earlier d room left n (e ∷ es) e.name p
part_goes_on earlier d room left n e es o r p q h u w v g =
    let f : (f : FieldsRead) × (next_fields (suc n) (e ∷ es) ≡ Some f) = read_of (suc n) (e ∷ es) (subst (λ (m : ℕ). IsSome (passed m (e ∷ es))) q h) in
    let x : First (length es) n e es f.0 = first_next n e es f.0 f.1 in
    let r' : x.repetition ≡ r = same_Some _ _ (sym x.is_repetition ∙ sym u) in
    let there : IsSome (passed n x.shape.behind) = is_there (passed n x.shape.behind) (passed_from x.rest) (passes n x.shape.behind x.rest (rest_next n e es f.0 x)) in
    by f.0 f.1 x r' there o w v g
  where
    by : (f : FieldsRead) → next_fields (suc n) (e ∷ es) ≡ Some f → (x : First (length es) n e es f) → x.repetition ≡ r → IsSome (passed n x.shape.behind)
        → (o : Option (List ℕ)) → is_some o ≡ is_open_name earlier e.name → ((m : List ℕ) → o ≡ Some m → m ≡ e.name) → field_part o r d room e es ≡ Some p → PartGoesOn earlier d room left n (e ∷ es) e.name p
    by f f' x r' there None w v g =
        let c : (record { field = None; left = room; behind = x.shape.behind }) ≡ p = same_Some _ _ (sym (ap (option_map (closed_field room)) x.is_shape) ∙ g) in
        let s : (if is_open_name earlier e.name then open_below d x.shape.shape room else closed_shape room) ≡ closed_shape room = ap (λ (b : Bool). if b then open_below d x.shape.shape room else closed_shape room) (sym w) in
        subst (λ (p : FieldPart). PartGoesOn earlier d room left n (e ∷ es) e.name p) c
        (record { are_fields = there; same = ap (λ (j : ℕ). fields_part earlier d room j (e ∷ es)) q ∙ first_part earlier d room n e es f x (closed_shape room) f' s })
    by f f' x r' there (Some m) w v g =
        let s : (if is_open_name earlier e.name then open_below d x.shape.shape room else closed_shape room) ≡ open_below d x.shape.shape room = ap (λ (b : Bool). if b then open_below d x.shape.shape room else closed_shape room) (sym w) in
        let y : OpenShape = open_below d x.shape.shape room in
        let c : (record { field = named_shape e.name x.repetition y.shape; left = y.left; behind = x.shape.behind }) ≡ p =
        ap (λ (t : Repetition). record { field = named_shape e.name t y.shape; left = y.left; behind = x.shape.behind }) r'
        ∙ (ap (λ (t : List ℕ). record { field = named_shape t r y.shape; left = y.left; behind = x.shape.behind }) (sym (v m refl))
        ∙ same_Some _ _ (sym (ap (λ (t : Option ShapeRead). option_map (part_of_field m r) (option_map (λ (s : ShapeRead). part_of_shape (open_below d s.shape room) s.behind) t)) x.is_shape) ∙ g)) in
        subst (λ (p : FieldPart). PartGoesOn earlier d room left n (e ∷ es) e.name p) c
        (record { are_fields = there; same = ap (λ (j : ℕ). fields_part earlier d room j (e ∷ es)) q ∙ first_part earlier d room n e es f x y f' s })

-- ---- the open fields so far, the names of the fields so far, and the fields still to come

pub record Opening (names : BTreeSet (Bor (List ℕ))) (opened : List SeenField) (d left n : ℕ) (es : List SchemaElement) (whole : Option FieldsPart) : Type 0 where
  pub earlier : List (List ℕ)
  pub holds : HoldsNames names earlier
  pub same : and_before opened (fields_part earlier d left n es) ≡ whole

pub opening_begins : (names : BTreeSet (Bor (List ℕ))) (opened : List SeenField) (d left n m : ℕ) (es : List SchemaElement) → names.keys ≡ [] → opened ≡ [] → n ≡ m → Opening names opened d left n es (fields_part [] d left m es)
opening_begins names opened d left n m es h g q = record {
  earlier = [];
  holds = λ x y. ap (λ (ks : List (Bor (List ℕ))). list_any (λ (k : Bor (List ℕ)). is_eq (text_order x k)) ks) h;
  same = ap (λ (vs : List SeenField). and_before vs (fields_part [] d left n es)) g ∙ (and_nothing (fields_part [] d left n es) ∙ ap (λ (j : ℕ). fields_part [] d left j es) q);
}

pub opening_goes_on : (old new : BTreeSet (Bor (List ℕ))) (opened later : List SeenField) (d room left n : ℕ) (all : List SchemaElement) (m : List ℕ) (p : FieldPart) (whole : Option FieldsPart) (x : Opening old opened d room left all whole)
    → PartGoesOn x.earlier d room left n all m p → HoldsNames new (m ∷ x.earlier) → later ≡ opened ++ option_to_list p.field → Opening new later d p.left n p.behind whole
opening_goes_on old new opened later d room left n all m p whole x g h q = record {
  earlier = m ∷ x.earlier;
  holds = h;
  same = ap (λ (vs : List SeenField). and_before vs (fields_part (m ∷ x.earlier) d p.left n p.behind)) q
      ∙ (and_before-append opened (option_to_list p.field) (fields_part (m ∷ x.earlier) d p.left n p.behind) ∙ (ap (and_before opened) (sym g.same) ∙ x.same));
}

pub opening_ends : (names : BTreeSet (Bor (List ℕ))) (opened : List SeenField) (d left n : ℕ) (es : List SchemaElement) (whole : Option FieldsPart) → Opening names opened d left n es whole → n ≡ 0 → whole ≡ Some (record { fields = fields_of opened; left = left; behind = es })
unfolding and_before
opening_ends names opened d left n es whole x q =
    sym x.same ∙ (ap (λ (j : ℕ). and_before opened (fields_part x.earlier d left j es)) q ∙ ap (λ (gs : Fields). Some (record { fields = gs; left = left; behind = es })) (before_none opened))

-- ---- groups

pub no_group : (fs : Vec Field Global) → vec_len fs ≡ 0 → None ≡ group_unless_empty (fields_view fs.items)
no_group fs h = by fs.items (sym fs.ok.0 ∙ h)
  where
    by : (fs : List Field) → length fs ≡ 0 → None ≡ group_unless_empty (fields_view fs)
    by [] h = refl
    by (f ∷ fs) h = absurd (omega (arith, h))

pub group_of_fields : (fs : Vec Field Global) → (vec_len fs ≡ 0 → ⊥) → Some (shape_view (shapes.Group fs)) ≡ group_unless_empty (fields_view fs.items)
group_of_fields fs h = ap (λ (s : Shape). Some s) (view-group fs) ∙ by fs.items (λ e. h (fs.ok.0 ∙ e))
  where
    by : (fs : List Field) → (length fs ≡ 0 → ⊥) → Some (group (fields_view fs)) ≡ group_unless_empty (fields_view fs)
    by [] h = absurd (h refl)
    by (f ∷ fs) h = refl

pub group_part : (depth d room c : ℕ) (e : SchemaElement) (es : List SchemaElement) (p : FieldsPart) (o : ShapePart) → depth ≡ suc d → Some c ≡ size_of_group e.type e.children → fields_part [] d room c es ≡ Some p
    → o.shape ≡ group_unless_empty p.fields → o.left ≡ p.left → o.behind ≡ p.behind → shape_part depth room e es ≡ Some o
group_part depth d room c e es p o q h g a b w =
    ap (λ (j : ℕ). shape_part j room e es) q
    ∙ (ap (option_map (λ (s : ShapeRead). part_of_shape (open_below (suc d) s.shape room) s.behind)) (shape_of_group (length es) c e e.type e.children es (sym h))
    ∙ (by (next_fields c es) g ∙ (ap (λ (s : Option Shape). Some (record { shape = s; left = p.left; behind = p.behind })) (sym a) ∙ (ap (λ (j : ℕ). Some (record { shape = o.shape; left = j; behind = p.behind })) (sym b) ∙ ap (λ (xs : List SchemaElement). Some (record { shape = o.shape; left = o.left; behind = xs })) (sym w)))))
  where
    by : (r : Option FieldsRead) → option_map (λ (f : FieldsRead). part_of_fields (open_fields [] d f.fields room) f.behind) r ≡ Some p
        → option_map (λ (s : ShapeRead). part_of_shape (open_below (suc d) s.shape room) s.behind) (option_map as_group r) ≡ Some (record { shape = group_unless_empty p.fields; left = p.left; behind = p.behind })
    by None k = absurd (none-some p k)
    by (Some f) k = ap (λ (y : FieldsPart). Some (record { shape = group_unless_empty y.fields; left = y.left; behind = y.behind })) (same_Some _ _ k)

-- ---- the root

abbrev pub root_part : ℕ → List SchemaElement → Option FieldsPart
root_part c es = fields_part [] greatest_depth most_leaves c es

pub root_opened : (c : ℕ) (e : SchemaElement) (es : List SchemaElement) (p : FieldsPart) → IsSome (file_schema (e ∷ es)) → Some c ≡ size_of_group e.type e.children → root_part c es ≡ Some p → option_and_then open_schema (file_schema (e ∷ es)) ≡ schema_unless_empty e.name p.fields
root_opened c e es p h g k = by e.type e.children h g
  where
    whole : (f : FieldsRead) (rest : List SchemaElement) → IsSome (whole_schema e.name f rest) → part_of_fields (open_fields [] greatest_depth f.fields most_leaves) f.behind ≡ p → option_and_then open_schema (whole_schema e.name f rest) ≡ schema_unless_empty e.name p.fields
    whole f [] a b = ap (λ (y : FieldsPart). schema_unless_empty e.name y.fields) b
    whole f (x ∷ rest) a b = absurd (true≢false (sym a))

    there : (o : Option FieldsRead) → IsSome (option_and_then (λ (f : FieldsRead). whole_schema e.name f f.behind) o) → option_map (λ (f : FieldsRead). part_of_fields (open_fields [] greatest_depth f.fields most_leaves) f.behind) o ≡ Some p
        → option_and_then open_schema (option_and_then (λ (f : FieldsRead). whole_schema e.name f f.behind) o) ≡ schema_unless_empty e.name p.fields
    there None a b = absurd (none-some p b)
    there (Some f) a b = whole f f.behind a (same_Some _ _ b)

    by : (t n : Option ℤ) → IsSome (root_read e t n es) → Some c ≡ size_of_group t n → option_and_then open_schema (root_read e t n es) ≡ schema_unless_empty e.name p.fields
    by (Some z) n a b = absurd (none-some c (sym b))
    by None None a b = absurd (none-some c (sym b))
    by None (Some (pos n)) a b = there (fields_read (length es) n es) a (ap (λ (j : ℕ). root_part j es) (sym (same_Some _ _ b)) ∙ k)
    by None (Some (negsuc n)) a b = absurd (none-some c (sym b))

-- without an open field there is no schema
pub nothing_open : (c : ℕ) (e : SchemaElement) (es : List SchemaElement) (p : FieldsPart) → IsSome (file_schema (e ∷ es)) → Some c ≡ size_of_group e.type e.children → root_part c es ≡ Some p → p.fields ≡ no_fields → option_and_then open_schema (file_schema (e ∷ es)) ≡ None
nothing_open c e es p h g k q = root_opened c e es p h g k ∙ ap (schema_unless_empty e.name) q

pub something_open : (c : ℕ) (e : SchemaElement) (es : List SchemaElement) (p : FieldsPart) (name : List ℕ) → IsSome (file_schema (e ∷ es)) → Some c ≡ size_of_group e.type e.children → root_part c es ≡ Some p → is_nonempty p.fields ≡ true → name ≡ open_name e.name
    → option_and_then open_schema (file_schema (e ∷ es)) ≡ Some (record { name = name; fields = p.fields })
something_open c e es p name h g k q w = root_opened c e es p h g k ∙ by p.fields q
  where
    by : (fs : Fields) → is_nonempty fs ≡ true → schema_unless_empty e.name fs ≡ Some (record { name = name; fields = fs })
    by no_fields a = absurd (true≢false (sym a))
    by (field m r s fs) a = ap (λ (n : List ℕ). Some (record { name = n; fields = field m r s fs })) (sym w)

pub is_open_part : (f : Option FileSchema) (s : Schema) → option_and_then open_schema f ≡ Some s → is_schema s ≡ true
is_open_part None s h = absurd (none-some s h)
is_open_part (Some f) s h = open_part_is_schema f s h

pub not_empty : (fs : Vec Field Global) → (vec_len fs ≡ 0 → ⊥) → is_nonempty (fields_view fs.items) ≡ true
not_empty fs h = by fs.items (λ e. h (fs.ok.0 ∙ e))
  where
    by : (fs : List Field) → (length fs ≡ 0 → ⊥) → is_nonempty (fields_view fs) ≡ true
    by [] h = absurd (h refl)
    by (f ∷ fs) h = refl

pub no_fields_there : (fs : Vec Field Global) → vec_len fs ≡ 0 → fields_view fs.items ≡ no_fields
no_fields_there fs h = by fs.items (sym fs.ok.0 ∙ h)
  where
    by : (fs : List Field) → length fs ≡ 0 → fields_view fs ≡ no_fields
    by [] h = refl
    by (f ∷ fs) h = absurd (omega (arith, h))

-- ---- names that are lent

pub lent_there : (o : Option (Bor (List ℕ))) → is_some (option_map lent o) ≡ is_some o
lent_there None = refl
lent_there (Some b) = refl

pub lent_name : (o : Option (Bor (List ℕ))) (n : List ℕ) → IfSome o (λ b. b.now ≡ n) → (m : List ℕ) → option_map lent o ≡ Some m → m ≡ n
lent_name None n h m g = absurd (none-some m g)
lent_name (Some b) n h m g = sym (same_Some _ _ g) ∙ h

-- the root's name, or another
pub name_or : (o : Option (Bor (List ℕ))) (n : List ℕ) (other : Bor (List ℕ)) → is_some o ≡ is_short_name n → IfSome o (λ b. b.now ≡ n) → other.now ≡ codes "Records" → (unwrap_or o other).now ≡ open_name n
name_or None n other h g q = q ∙ ap (λ (b : Bool). if b then n else codes "Records") h
name_or (Some b) n other h g q = g ∙ ap (λ (b : Bool). if b then n else codes "Records") h

-- ---- at a place of the list

pub place_behind_first : (xs : List SchemaItem) (i k j : ℕ) (x : SchemaItem) (ys : List SchemaItem) → take (length xs - i) (drop i xs) ≡ x ∷ ys → j ≡ i + (1 + k) → map item_view (drop k ys) ≡ from_place j xs
place_behind_first xs i k j x ys h q =
    let e : 1 + k ≡ suc k = omega arith in
    sym (ap (λ (j : ℕ). from_place j xs) q ∙ (ap (map item_view) (sym (drop-drop (1 + k) i xs)) ∙ (ap (λ (zs : List SchemaItem). map item_view (drop (1 + k) zs)) (sym (rest_from xs i) ∙ h) ∙ ap (λ (j : ℕ). map item_view (drop j (x ∷ ys))) e)))

-- where fields are still to come, an element is there
pub more_there : (xs : List SchemaItem) (i left : ℕ) → IsSome (passed left (from_place i xs)) → left ≤ length (take (length xs - i) (drop i xs))
more_there xs i left h = omega (arith, enough left (from_place i xs) h, length-map (drop i xs) item_view, ap (λ (zs : List SchemaItem). length zs) (rest_from xs i))

-- and has a repetition
pub repetition_there : (left n : ℕ) (e : SchemaElement) (es : List SchemaElement) → left ≡ suc n → IsSome (passed left (e ∷ es)) → (r : Repetition) × (repetition_from e.repetition ≡ Some r)
repetition_there left n e es q h =
    let f : (f : FieldsRead) × (next_fields (suc n) (e ∷ es) ≡ Some f) = read_of (suc n) (e ∷ es) (subst (λ (m : ℕ). IsSome (passed m (e ∷ es))) q h) in
    let x : First (length es) n e es f.0 = first_next n e es f.0 f.1 in
    (x.repetition, x.is_repetition)
