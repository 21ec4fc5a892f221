-- The source of a leaf, by the group that lacks a part of its path; and that group in the list of elements.
use Rattle.std.proofs.Common.{◌≡◌, ℕ, zero, suc, ◌+◌, ◌-◌, ◌≤◌, ◌<◌, List, [], ◌∷◌, length, map, take, Bool, true, false, refl, sym, ap, ap₂, ◌∙◌, subst, true≢false, arith}
use Rattle.std.specs.Prelude.{Option, Some, None, option_map, option_and_then, ◌&&◌, if◌then◌else◌, IsSome, IfSome, IfNone, ℤ, pos, negsuc}
use Rattle.std.specs.Option.{is_some}
use Rattle.dr_open.specs.Opens.{FieldsPart, part_of_fields, fields_part}
use Rattle.std.proofs.lemmas.Option.{none-some, same_Some}
use Rattle.dr_meaning.specs.Schema.{Repetition, required, optional, repeated, is_short_name, greatest_depth}
use Rattle.dr_meaning.specs.Path.{Step, Leaf, same_repetition, leaf_below, max_repetition, max_definition}
use Rattle.dr_formats.specs.Metadata.{SchemaElement}
use Rattle.dr_formats.specs.FileSchema.{FileFields, FileShape, file_leaf, file_group, FieldsRead, ShapeRead, fields_read, repetition_from, FileSchema, leaves_under, file_leaves, place_of, open_fields, file_schema, root_read, whole_schema}
use Rattle.dr_formats.specs.Lacking.{FileField, field_named, unless_required, lacking_in, lacking_at, lacking_after, first_open, Source, own_chunks, chunks_of, lacking_source, own_or}
use Rattle.dr_meta.specs.OneTree.{size_of_group}
use Rattle.dr_open.specs.Places.{next_fields, shape_from, passed, is_repetition, place_in_file}
use Rattle.dr_open.specs.Sources.{LackingGroup, lacking_here, one_further, group_below, group_at, lacking_group, first_named, file_field_of, field_from, lacking_among, IsLackingGroup, first_leaf, behind_path, bare_step, first_opened, stand_in_at, source_by, source_of_group, lacking_in_file, source_in_file}
use Rattle.dr_open.proofs.PassingLemmas.{leaf_shape, group_shape, read_of}
use Rattle.dr_open.proofs.PlaceLemmas.{even_fields}
use Rattle.dr_open.proofs.FirstOpenLemmas.{within, in_named, first_in_named, opened_is_first, first_is_short, first_is_placed}

-- ---- the first open leaf in the group

abbrev open_in : ℕ → List (List ℕ) → FileFields → Option Leaf
open_in d ns fs = first_open ns (map (within d) (leaves_under [] fs))

-- where so many parts lead to the group that lacks the next, the first open leaf is the first of that group, and there is none where the way isn't open
abbrev Leads : List (List ℕ) → List Step → FileFields → ℕ → Option ℕ → Option LackingGroup → Type 0
Leads ns p fs d None g = g ≡ None
Leads ns p fs d (Some zero) g = g ≡ Some (record { parts = 0; fields = fs })
Leads ns p fs d (Some (suc k)) None = open_in d (take (suc k) ns) fs ≡ None
Leads ns p fs d (Some (suc k)) (Some g) = (g.parts ≡ suc k) × (suc k ≤ d)
    × (open_in d (take (suc k) ns) fs ≡ option_map (behind_path (take (suc k) ns) (map bare_step (take (suc k) p))) (open_in (d - suc k) [] g.fields))

here_leads : (ns : List (List ℕ)) (p : List Step) (fs : FileFields) (d : ℕ) (r : Repetition) → Leads ns p fs d (unless_required r) (lacking_here fs r)
here_leads ns p fs d required = refl
here_leads ns p fs d optional = refl
here_leads ns p fs d repeated = refl

pub same_repetitions : (a b : Repetition) → same_repetition a b ≡ true → a ≡ b
same_repetitions required required h = refl
same_repetitions required optional h = absurd (true≢false (sym h))
same_repetitions required repeated h = absurd (true≢false (sym h))
same_repetitions optional required h = absurd (true≢false (sym h))
same_repetitions optional optional h = refl
same_repetitions optional repeated h = absurd (true≢false (sym h))
same_repetitions repeated required h = absurd (true≢false (sym h))
same_repetitions repeated optional h = absurd (true≢false (sym h))
same_repetitions repeated repeated h = refl

map_twice : (n : List ℕ) (r : Repetition) (ns : List (List ℕ)) (p : List Step) (o : Option Leaf)
    → option_map (leaf_below n (record { place = 0; repetition = r })) (option_map (behind_path ns p) o) ≡ option_map (behind_path (n ∷ ns) (record { place = 0; repetition = r } ∷ p)) o
map_twice n r ns p None = refl
map_twice n r ns p (Some m) = refl

below_all : (n : List ℕ) (r : Repetition) (o : Option Leaf) → option_map (leaf_below n (record { place = 0; repetition = r })) o ≡ option_map (behind_path (n ∷ []) (record { place = 0; repetition = r } ∷ [])) o
below_all n r None = refl
below_all n r (Some m) = refl

-- past a field of the name, which is a group
past_group : (n : List ℕ) (ns : List (List ℕ)) (s : Step) (p : List Step) (fs gs : FileFields) (d : ℕ) (r : Repetition) → field_named n fs ≡ Some (record { repetition = r; shape = file_group gs }) → s.repetition ≡ r
    → (o : Option ℕ) (g : Option LackingGroup) → Leads ns p gs d o g → (b : Bool) → is_short_name n ≡ b
    → Leads (n ∷ ns) (s ∷ p) fs (suc d) (option_map (λ (k : ℕ). suc k) o) (if b then option_map one_further g else None)
past_group n ns s p fs gs d r f q None g h false e = refl
past_group n ns s p fs gs d r f q None g h true e = ap (option_map one_further) h
past_group n ns s p fs gs d r f q (Some k) g h false e =
    first_in_named n (take k ns) [] (suc d) fs refl ∙ (ap (in_named n (take k ns) (suc d)) f
    ∙ ap (λ (b : Bool). if b then option_map (leaf_below n (record { place = 0; repetition = r })) (open_in d (take k ns) gs) else None) e)
past_group n ns s p fs gs d r f q (Some zero) g h true e =
    rw h (
      refl,
      omega arith,
      first_in_named n [] [] (suc d) fs refl ∙ (ap (in_named n [] (suc d)) f
          ∙ (ap (λ (b : Bool). if b then option_map (leaf_below n (record { place = 0; repetition = r })) (open_in d [] gs) else None) e
          ∙ (below_all n r (open_in d [] gs) ∙ (ap (λ (x : Repetition). option_map (behind_path (n ∷ []) (record { place = 0; repetition = x } ∷ [])) (open_in d [] gs)) (sym q) ∙ depth_less)))),
    )
  where
    depth_less : option_map (behind_path (n ∷ []) (bare_step s ∷ [])) (open_in d [] gs) ≡ option_map (behind_path (n ∷ []) (bare_step s ∷ [])) (open_in (suc d - 1) [] gs)
    depth_less = let w : d ≡ suc d - 1 = omega arith in ap (λ (j : ℕ). option_map (behind_path (n ∷ []) (bare_step s ∷ [])) (open_in j [] gs)) w
past_group n ns s p fs gs d r f q (Some (suc k)) None h true e =
    first_in_named n (take (suc k) ns) [] (suc d) fs refl ∙ (ap (in_named n (take (suc k) ns) (suc d)) f
    ∙ (ap (λ (b : Bool). if b then option_map (leaf_below n (record { place = 0; repetition = r })) (open_in d (take (suc k) ns) gs) else None) e
    ∙ ap (option_map (leaf_below n (record { place = 0; repetition = r }))) h))
past_group n ns s p fs gs d r f q (Some (suc k)) (Some g) h true e =
    let w : d - suc k ≡ suc d - suc (suc k) = omega arith in
    let parts : suc g.parts ≡ suc (suc k) = ap (λ (j : ℕ). suc j) h.0 in (
      parts,
      omega (arith, h.1),
      first_in_named n (take (suc k) ns) [] (suc d) fs refl ∙ (ap (in_named n (take (suc k) ns) (suc d)) f
          ∙ (ap (λ (b : Bool). if b then option_map (leaf_below n (record { place = 0; repetition = r })) (open_in d (take (suc k) ns) gs) else None) e
          ∙ (ap (option_map (leaf_below n (record { place = 0; repetition = r }))) h.2
          ∙ (map_twice n r (take (suc k) ns) (map bare_step (take (suc k) p)) (open_in (d - suc k) [] g.fields)
          ∙ ap₂ (λ (x : Repetition) (j : ℕ). option_map (behind_path (n ∷ take (suc k) ns) (record { place = 0; repetition = x } ∷ map bare_step (take (suc k) p))) (open_in j [] g.fields)) (sym q) w)))),
    )

no_way : (b : Bool) (o : Option LackingGroup) → (if b && false then o else None) ≡ None
no_way true o = refl
no_way false o = refl

nothing : (b : Bool) (o : Option LackingGroup) → o ≡ None → (if b then o else None) ≡ None
nothing true o h = h
nothing false o h = refl

and_true : (b : Bool) → (b && true) ≡ b
and_true true = refl
and_true false = refl

leads : (ns : List (List ℕ)) (p : List Step) (fs : FileFields) (d : ℕ) → length p ≤ d → Leads ns p fs d (lacking_after ns p fs) (lacking_group ns p fs)
leads [] p fs d h = refl
leads (n ∷ ns) [] fs d h = refl
leads (n ∷ ns) (s ∷ p) fs zero h = absurd (omega (arith, h))
leads (n ∷ ns) (s ∷ p) fs (suc d) h = by (λ gs. leads ns p gs d (omega (arith, h))) (field_named n fs) refl
  where
    shape : ((gs : FileFields) → Leads ns p gs d (lacking_after ns p gs) (lacking_group ns p gs)) → (r : Repetition) (x : FileShape) → field_named n fs ≡ Some (record { repetition = r; shape = x }) → s.repetition ≡ r
        → Leads (n ∷ ns) (s ∷ p) fs (suc d) (lacking_in (lacking_after ns p) x) (if is_short_name n then group_below (lacking_group ns p) x else None)
    shape g r (file_leaf t c) f q = nothing (is_short_name n) None refl
    shape g r (file_group gs) f q = past_group n ns s p fs gs d r f q (lacking_after ns p gs) (lacking_group ns p gs) (g gs) (is_short_name n) refl

    at : ((gs : FileFields) → Leads ns p gs d (lacking_after ns p gs) (lacking_group ns p gs)) → (r : Repetition) (x : FileShape) → field_named n fs ≡ Some (record { repetition = r; shape = x }) → (b : Bool) → same_repetition s.repetition r ≡ b
        → Leads (n ∷ ns) (s ∷ p) fs (suc d) (if b then lacking_in (lacking_after ns p) x else None) (if is_short_name n && b then group_below (lacking_group ns p) x else None)
    at g r x f false e = no_way (is_short_name n) (group_below (lacking_group ns p) x)
    at g r x f true e =
        subst (λ (b : Bool). Leads (n ∷ ns) (s ∷ p) fs (suc d) (lacking_in (lacking_after ns p) x) (if b then group_below (lacking_group ns p) x else None)) (sym (and_true (is_short_name n)))
        (shape g r x f (same_repetitions s.repetition r e))

    by : ((gs : FileFields) → Leads ns p gs d (lacking_after ns p gs) (lacking_group ns p gs)) → (o : Option FileField) → field_named n fs ≡ o → Leads (n ∷ ns) (s ∷ p) fs (suc d) (lacking_at s.repetition (lacking_after ns p) o) (group_at n s.repetition (lacking_group ns p) fs o)
    by g None f = here_leads (n ∷ ns) (s ∷ p) fs (suc d) s.repetition
    by g (Some x) f = at g x.repetition x.shape f (same_repetition s.repetition x.repetition) refl

-- ---- sources

abbrev stood_in : Leaf → ℕ → Option Leaf → Option Source
stood_in l k o = option_map chunks_of (option_map (λ (m : Leaf). record { leaf = m; repetition = max_repetition (take k l.path); definition = max_definition (take k l.path) }) o)

stands_in : (l : Leaf) (k : ℕ) (o : Option Leaf) → stood_in l k (option_map (behind_path (take k l.names) (map bare_step (take k l.path))) o) ≡ option_map (stand_in_at l k) o
stands_in l k None = refl
stands_in l k (Some m) = refl

source_by_group : (s : FileSchema) (l : Leaf) (o : Option ℕ) (g : Option LackingGroup) → Leads l.names l.path s.fields greatest_depth o g → option_and_then (lacking_source s l) o ≡ option_and_then (source_of_group l) g
source_by_group s l None g h = sym (ap (option_and_then (source_of_group l)) h)
source_by_group s l (Some zero) g h = sym (ap (option_and_then (source_of_group l)) h)
source_by_group s l (Some (suc k)) None h = ap (stood_in l (suc k)) h
source_by_group s l (Some (suc k)) (Some g) h =
    ap (stood_in l (suc k)) (h.2 ∙ ap (option_map (behind_path (take (suc k) l.names) (map bare_step (take (suc k) l.path)))) (sym (opened_is_first g.fields (greatest_depth - suc k))))
    ∙ (stands_in l (suc k) (first_opened (greatest_depth - suc k) g.fields) ∙ ap (λ (j : ℕ). source_by l j g.fields) (sym h.0))

-- a leaf that is none of the file's has the source that its lacking group tells
pub lacking_source_is : (l : Leaf) (o : Option FileSchema) → length l.path ≤ greatest_depth → place_in_file l o ≡ None → source_in_file l o ≡ option_and_then (source_of_group l) (lacking_in_file l o)
lacking_source_is l None h q = refl
lacking_source_is l (Some s) h q =
    ap (λ (x : Option ℕ). own_or x (option_and_then (lacking_source s l) (lacking_after l.names l.path s.fields))) q
    ∙ source_by_group s l (lacking_after l.names l.path s.fields) (lacking_group l.names l.path s.fields) (leads l.names l.path s.fields greatest_depth h)

pub own_source_is : (l : Leaf) (o : Option FileSchema) (i : ℕ) → place_in_file l o ≡ Some i → source_in_file l o ≡ Some own_chunks
own_source_is l None i q = absurd (none-some i q)
own_source_is l (Some s) i q = ap (λ (x : Option ℕ). own_or x (option_and_then (lacking_source s l) (lacking_after l.names l.path s.fields))) q

-- ---- the leaf that stands in

-- it is not too deep
pub opened_is_short : (d : ℕ) (fs : FileFields) (m : Leaf) → first_opened d fs ≡ Some m → length m.path ≤ d
opened_is_short d fs m h = first_is_short [] d (leaves_under [] fs) m (even_fields [] fs) (sym (opened_is_first fs d) ∙ h)

-- it is a leaf of the file
placed_by : (s : FileSchema) (l : Leaf) (o : Option ℕ) (g : Option LackingGroup) → Leads l.names l.path s.fields greatest_depth o g → (k : ℕ) (fs : FileFields) (m : Leaf) → g ≡ Some (record { parts = suc k; fields = fs })
    → first_opened (greatest_depth - suc k) fs ≡ Some m → IsSome (place_of (behind_path (take (suc k) l.names) (map bare_step (take (suc k) l.path)) m) (file_leaves s.fields))
placed_by s l None g h k fs m e f = absurd (none-some _ (sym h ∙ e))
placed_by s l (Some zero) g h k fs m e f =
    let q : record { parts = 0; fields = s.fields } ≡ record { parts = suc k; fields = fs } = same_Some _ _ (sym h ∙ e) in
    absurd (omega (arith, ap (λ (x : LackingGroup). x.parts) q))
placed_by s l (Some (suc j)) None h k fs m e f = absurd (none-some _ e)
placed_by s l (Some (suc j)) (Some g) h k fs m e f =
    let q : g ≡ record { parts = suc k; fields = fs } = same_Some _ _ e in
    let n : suc j ≡ suc k = sym h.0 ∙ ap (λ (x : LackingGroup). x.parts) q in
    let a : first_opened (greatest_depth - suc j) g.fields ≡ Some m = ap₂ (λ (i : ℕ) (xs : FileFields). first_opened (greatest_depth - i) xs) n (ap (λ (x : LackingGroup). x.fields) q) ∙ f in
    let b : first_open (take (suc j) l.names) (file_leaves s.fields) ≡ Some (behind_path (take (suc j) l.names) (map bare_step (take (suc j) l.path)) m) =
    h.2 ∙ ap (option_map (behind_path (take (suc j) l.names) (map bare_step (take (suc j) l.path)))) (sym (opened_is_first g.fields (greatest_depth - suc j)) ∙ a) in
    subst (λ (i : ℕ). IsSome (place_of (behind_path (take i l.names) (map bare_step (take i l.path)) m) (file_leaves s.fields))) n
    (first_is_placed (take (suc j) l.names) (file_leaves s.fields) (behind_path (take (suc j) l.names) (map bare_step (take (suc j) l.path)) m) b)

pub stand_in_placed : (l : Leaf) (o : Option FileSchema) (k : ℕ) (fs : FileFields) (m : Leaf) → length l.path ≤ greatest_depth → 0 < k → lacking_in_file l o ≡ Some (record { parts = k; fields = fs })
    → first_opened (greatest_depth - k) fs ≡ Some m → IsSome (place_in_file (behind_path (take k l.names) (map bare_step (take k l.path)) m) o)
stand_in_placed l None k fs m h z e f = absurd (none-some _ e)
stand_in_placed l (Some s) zero fs m h z e f = absurd (omega (arith, z))
stand_in_placed l (Some s) (suc k) fs m h z e f = placed_by s l (lacking_after l.names l.path s.fields) (lacking_group l.names l.path s.fields) (leads l.names l.path s.fields greatest_depth h) k fs m e f

-- ---- the lacking group in the list of elements

among_read : (ns : List (List ℕ)) (p : List Step) (n : ℕ) (es : List SchemaElement) (f : FieldsRead) → next_fields n es ≡ Some f → lacking_among ns p n es ≡ lacking_group ns p f.fields
among_read ns p n es f h = ap (option_and_then (λ (f : FieldsRead). lacking_group ns p f.fields)) h

named_read : (m : List ℕ) (n : ℕ) (es : List SchemaElement) (f : FieldsRead) → next_fields n es ≡ Some f → first_named m n es ≡ field_named m f.fields
named_read m n es f h = ap (option_and_then (λ (f : FieldsRead). field_named m f.fields)) h

abbrev leading : (m : List ℕ) (ns : List (List ℕ)) (s : Step) (p : List Step) (n : ℕ) (es : List SchemaElement) → Option LackingGroup
leading m ns s p n es = lacking_among (m ∷ ns) (s ∷ p) n es

-- the field isn't there
missing_there : (m : List ℕ) (ns : List (List ℕ)) (s : Step) (p : List Step) (n : ℕ) (es : List SchemaElement) (f : FieldsRead) → next_fields n es ≡ Some f → first_named m n es ≡ None → leading m ns s p n es ≡ lacking_here f.fields s.repetition
missing_there m ns s p n es f h q = among_read (m ∷ ns) (s ∷ p) n es f h ∙ ap (group_at m s.repetition (lacking_group ns p) f.fields) (sym (named_read m n es f h) ∙ q)

-- the field is there
found_there : (m : List ℕ) (ns : List (List ℕ)) (s : Step) (p : List Step) (n : ℕ) (es : List SchemaElement) (f : FieldsRead) (x : FileField) → next_fields n es ≡ Some f → first_named m n es ≡ Some x
    → leading m ns s p n es ≡ (if is_short_name m && same_repetition s.repetition x.repetition then group_below (lacking_group ns p) x.shape else None)
found_there m ns s p n es f x h q = among_read (m ∷ ns) (s ∷ p) n es f h ∙ ap (group_at m s.repetition (lacking_group ns p) f.fields) (sym (named_read m n es f h) ∙ q)

abbrev on_way : List ℕ → Step → SchemaElement → Bool
on_way m s e = is_short_name m && is_repetition s.repetition (repetition_from e.repetition)

-- the first field of the name isn't on the way
off_the_way : (m : List ℕ) (ns : List (List ℕ)) (s : Step) (p : List Step) (n : ℕ) (all : List SchemaElement) (f : FieldsRead) (e : SchemaElement) (es : List SchemaElement) (r : Repetition) (x : ShapeRead) → next_fields n all ≡ Some f
    → first_named m n all ≡ field_from e es → repetition_from e.repetition ≡ Some r → shape_from e es ≡ Some x → on_way m s e ≡ false → leading m ns s p n all ≡ None
off_the_way m ns s p n all f e es r x h q v w t =
    let a : field_from e es ≡ Some (file_field_of r x) = rw (v, w) refl in
    let b : (is_short_name m && same_repetition s.repetition r) ≡ false = sym (ap (λ (o : Option Repetition). is_short_name m && is_repetition s.repetition o) v) ∙ t in
    found_there m ns s p n all f (file_field_of r x) h (q ∙ a) ∙ ap (λ (c : Bool). if c then group_below (lacking_group ns p) x.shape else None) b

on_the_way : (m : List ℕ) (ns : List (List ℕ)) (s : Step) (p : List Step) (n : ℕ) (all : List SchemaElement) (f : FieldsRead) (e : SchemaElement) (es : List SchemaElement) (r : Repetition) (x : ShapeRead) → next_fields n all ≡ Some f
    → first_named m n all ≡ field_from e es → repetition_from e.repetition ≡ Some r → shape_from e es ≡ Some x → on_way m s e ≡ true → leading m ns s p n all ≡ group_below (lacking_group ns p) x.shape
on_the_way m ns s p n all f e es r x h q v w t =
    let a : field_from e es ≡ Some (file_field_of r x) = rw (v, w) refl in
    let b : (is_short_name m && same_repetition s.repetition r) ≡ true = sym (ap (λ (o : Option Repetition). is_short_name m && is_repetition s.repetition o) v) ∙ t in
    found_there m ns s p n all f (file_field_of r x) h (q ∙ a) ∙ ap (λ (c : Bool). if c then group_below (lacking_group ns p) x.shape else None) b

-- it is a leaf
past_leaf : (ns : List (List ℕ)) (p : List Step) (e : SchemaElement) (es : List SchemaElement) (x : ShapeRead) → shape_from e es ≡ Some x → size_of_group e.type e.children ≡ None → group_below (lacking_group ns p) x.shape ≡ None
past_leaf ns p e es x h q = let y = leaf_shape (length es) e e.type e.children es x h q in ap (λ (z : ShapeRead). group_below (lacking_group ns p) z.shape) (sym y.2)

-- it is a group
into_group : (ns : List (List ℕ)) (p : List Step) (c : ℕ) (e : SchemaElement) (es : List SchemaElement) (x : ShapeRead) → shape_from e es ≡ Some x → size_of_group e.type e.children ≡ Some c
    → group_below (lacking_group ns p) x.shape ≡ option_map one_further (lacking_among ns p c es)
into_group ns p c e es x h q =
    let y = group_shape (length es) c e e.type e.children es x h q in
    ap (λ (z : ShapeRead). group_below (lacking_group ns p) z.shape) (sym y.2) ∙ ap (option_map one_further) (sym (among_read ns p c es y.0 y.1))

shape_is : (e : SchemaElement) (es : List SchemaElement) → IsSome (shape_from e es) → (x : ShapeRead) × (shape_from e es ≡ Some x)
shape_is e es h = by (shape_from e es) refl h
  where
    by : (o : Option ShapeRead) → shape_from e es ≡ o → IsSome o → (x : ShapeRead) × (shape_from e es ≡ Some x)
    by None q g = absurd (true≢false (sym g))
    by (Some x) q g = (x, q)

-- where a path has its first part, a name and a step, and the fields are there
pub record Goes {A B : Type 0} (g : A → List ℕ) (h : B → Step) (xs : List A) (ys : List B) (x : A) (zs : List A) (y : B) (ws : List B) (m : List ℕ) (n : ℕ) (all : List SchemaElement) : Type 0 where
  pub name : xs ≡ x ∷ zs
  pub step : ys ≡ y ∷ ws
  pub bytes : m ≡ g x
  pub fields : IsSome (passed n all)

module _ {A B : Type 0} (g : A → List ℕ) (h : B → Step) (xs : List A) (ys : List B) (x : A) (zs : List A) (y : B) (ws : List B) (m : List ℕ) (n : ℕ) (all : List SchemaElement) (goes : Goes g h xs ys x zs y ws m n all) where
  as_parts : lacking_among (map g xs) (map h ys) n all ≡ leading m (map g zs) (h y) (map h ws) n all
  as_parts =
      ap₂ (λ (ns : List (List ℕ)) (p : List Step). lacking_among ns p n all) (ap (map g) goes.name ∙ ap (λ (j : List ℕ). j ∷ map g zs) (sym goes.bytes)) (ap (map h) goes.step)

  pub goes_missing : first_named m n all ≡ None → (h y).repetition ≡ required → lacking_among (map g xs) (map h ys) n all ≡ None
  goes_missing q r =
      let f = read_of n all goes.fields in
      as_parts ∙ (missing_there m (map g zs) (h y) (map h ws) n all f.0 f.1 q ∙ ap (lacking_here (f.0).fields) r)

  pub goes_lacking : first_named m n all ≡ None → unless_required (h y).repetition ≡ Some 0 → IsLackingGroup 0 n all (lacking_among (map g xs) (map h ys) n all)
  goes_lacking q r =
      let f = read_of n all goes.fields in
      (f.0, f.1, as_parts ∙ (missing_there m (map g zs) (h y) (map h ws) n all f.0 f.1 q ∙ ap (option_map (λ (k : ℕ). record { parts = k; fields = (f.0).fields })) r))

  module _ (e : SchemaElement) (es : List SchemaElement) (r : Repetition) (first : first_named m n all ≡ field_from e es) (rep : repetition_from e.repetition ≡ Some r) (shape : IsSome (shape_from e es)) where
    pub goes_off : on_way m (h y) e ≡ false → lacking_among (map g xs) (map h ys) n all ≡ None
    goes_off t =
        let f = read_of n all goes.fields in
        let s = shape_is e es shape in
        as_parts ∙ off_the_way m (map g zs) (h y) (map h ws) n all f.0 e es r s.0 f.1 first rep s.1 t

    pub goes_to_leaf : on_way m (h y) e ≡ true → size_of_group e.type e.children ≡ None → lacking_among (map g xs) (map h ys) n all ≡ None
    goes_to_leaf t q =
        let f = read_of n all goes.fields in
        let s = shape_is e es shape in
        as_parts ∙ (on_the_way m (map g zs) (h y) (map h ws) n all f.0 e es r s.0 f.1 first rep s.1 t ∙ past_leaf (map g zs) (map h ws) e es s.0 s.1 q)

    pub goes_on_in : (c : ℕ) → on_way m (h y) e ≡ true → size_of_group e.type e.children ≡ Some c → lacking_among (map g xs) (map h ys) n all ≡ option_map one_further (lacking_among (map g zs) (map h ws) c es)
    goes_on_in c t q =
        let f = read_of n all goes.fields in
        let s = shape_is e es shape in
        as_parts ∙ (on_the_way m (map g zs) (h y) (map h ws) n all f.0 e es r s.0 f.1 first rep s.1 t ∙ into_group (map g zs) (map h ws) c e es s.0 s.1 q)

-- one part further
pub one_more_part : (k j n : ℕ) (es : List SchemaElement) (o : Option LackingGroup) → j ≡ k + 1 → IsLackingGroup k n es o → IsLackingGroup j n es (option_map one_further o)
one_more_part k j n es o q h =
    let e : suc k ≡ j = omega (arith, q) in
    (h.0, h.1, ap (option_map one_further) h.2 ∙ ap (λ (i : ℕ). Some (record { parts = i; fields = (h.0).fields })) e)

-- a path that has ended
pub no_names : {A : Type 0} (g : A → List ℕ) (xs : List A) (p : List Step) (n : ℕ) (es : List SchemaElement) → length xs ≡ 0 → lacking_among (map g xs) p n es ≡ None
no_names g [] p n es h = by (next_fields n es)
  where
    by : (o : Option FieldsRead) → option_and_then (λ (f : FieldsRead). lacking_group [] p f.fields) o ≡ None
    by None = refl
    by (Some f) = refl
no_names g (x ∷ xs) p n es h = absurd (omega (arith, h))

pub no_steps : {A : Type 0} (g : A → Step) (xs : List A) (m : List ℕ) (ns : List (List ℕ)) (n : ℕ) (es : List SchemaElement) → length xs ≡ 0 → lacking_among (m ∷ ns) (map g xs) n es ≡ None
no_steps g [] m ns n es h = by (next_fields n es)
  where
    by : (o : Option FieldsRead) → option_and_then (λ (f : FieldsRead). lacking_group (m ∷ ns) [] f.fields) o ≡ None
    by None = refl
    by (Some f) = refl
no_steps g (x ∷ xs) m ns n es h = absurd (omega (arith, h))

-- ---- the root

pub root_lacking : (l : Leaf) (c : ℕ) (e : SchemaElement) (es : List SchemaElement) → IsSome (file_schema (e ∷ es)) → Some c ≡ size_of_group e.type e.children → lacking_in_file l (file_schema (e ∷ es)) ≡ lacking_among l.names l.path c es
root_lacking l c e es h g = by e.type e.children h g
  where
    whole : (f : FieldsRead) (rest : List SchemaElement) → IsSome (whole_schema e.name f rest) → lacking_in_file l (whole_schema e.name f rest) ≡ lacking_group l.names l.path f.fields
    whole f [] a = refl
    whole f (x ∷ rest) a = absurd (true≢false (sym a))

    there : (o : Option FieldsRead) → IsSome (option_and_then (λ (f : FieldsRead). whole_schema e.name f f.behind) o)
        → lacking_in_file l (option_and_then (λ (f : FieldsRead). whole_schema e.name f f.behind) o) ≡ option_and_then (λ (f : FieldsRead). lacking_group l.names l.path f.fields) o
    there None a = refl
    there (Some f) a = whole f f.behind a

    by : (t n : Option ℤ) → IsSome (root_read e t n es) → Some c ≡ size_of_group t n → lacking_in_file l (root_read e t n es) ≡ lacking_among l.names l.path c es
    by (Some z) n a b = absurd (none-some c (sym b))
    by None None a b = absurd (none-some c (sym b))
    by None (Some (pos n)) a b = there (fields_read (length es) n es) a ∙ ap (λ (j : ℕ). lacking_among l.names l.path j es) (sym (same_Some _ _ b))
    by None (Some (negsuc n)) a b = absurd (none-some c (sym b))

-- the root is a group
pub root_is_group : (e : SchemaElement) (es : List SchemaElement) → IsSome (file_schema (e ∷ es)) → size_of_group e.type e.children ≡ None → ⊥
root_is_group e es h g = by e.type e.children h g
  where
    by : (t n : Option ℤ) → IsSome (root_read e t n es) → size_of_group t n ≡ None → ⊥
    by (Some z) n a b = true≢false (sym a)
    by None None a b = true≢false (sym a)
    by None (Some (pos n)) a b = none-some n (sym b)
    by None (Some (negsuc n)) a b = true≢false (sym a)

-- ---- results

pub if_none : {A : Type 0} (o : Option A) (P Q : Type 0) → (P → Q) → IfNone o P → IfNone o Q
if_none None P Q f h = f h
if_none (Some a) P Q f h = tt

pub if_some : {A : Type 0} (o : Option A) (P Q : A → Type 0) → ((a : A) → P a → Q a) → IfSome o P → IfSome o Q
if_some None P Q f h = tt
if_some (Some a) P Q f h = f a h

pub taken : {A B : Type 0} (f : A → B) (k : ℕ) (xs : List A) → map f (take k xs) ≡ take k (map f xs)
taken f zero xs = refl
taken f (suc k) [] = refl
taken f (suc k) (x ∷ xs) = ap (λ ys. f x ∷ ys) (taken f k xs)

-- the open part with room for one leaf has the first one
pub part_first : (d n : ℕ) (es : List SchemaElement) (f : FieldsRead) (p : FieldsPart) → next_fields n es ≡ Some f → fields_part [] d 1 n es ≡ Some p → first_leaf p.fields ≡ first_opened d f.fields
part_first d n es f p h g =
    let q : part_of_fields (open_fields [] d f.fields 1) f.behind ≡ p = same_Some _ _ (sym (ap (option_map (λ (x : FieldsRead). part_of_fields (open_fields [] d x.fields 1) x.behind)) h) ∙ g) in
    ap (λ (x : FieldsPart). first_leaf x.fields) (sym q)

-- the leaf that stands in, behind the parts that lead to its group
abbrev behind_parts : Leaf → ℕ → Leaf → Leaf
behind_parts l k m = behind_path (take k l.names) (map bare_step (take k l.path)) m

pub leaf_there : (l : Leaf) (o : Option FileSchema) (k : ℕ) (fs : FileFields) (x : Leaf) (first : Option Leaf) → length l.path ≤ greatest_depth → 0 < k → lacking_in_file l o ≡ Some (record { parts = k; fields = fs })
    → first ≡ first_opened (greatest_depth - k) fs → Some x ≡ option_map (behind_parts l k) first → place_in_file x o ≡ None → ⊥
leaf_there l o k fs x None h z e f g n = none-some x (sym g)
leaf_there l o k fs x (Some m) h z e f g n =
    let q : x ≡ behind_parts l k m = same_Some _ _ g in
    let t : IsSome (place_in_file (behind_parts l k m) o) = stand_in_placed l o k fs m h z e (sym f) in
    true≢false (sym t ∙ ap (λ (p : Option ℕ). is_some p) (ap (λ (y : Leaf). place_in_file y o) (sym q) ∙ n))

pub source_told : (l : Leaf) (o : Option FileSchema) (k : ℕ) (fs : FileFields) (x : Leaf) (first : Option Leaf) (r d : ℕ) → 0 < k → lacking_in_file l o ≡ Some (record { parts = k; fields = fs })
    → first ≡ first_opened (greatest_depth - k) fs → Some x ≡ option_map (behind_parts l k) first → r ≡ max_repetition (take k l.path) → d ≡ max_definition (take k l.path)
    → Some (chunks_of (record { leaf = x; repetition = r; definition = d })) ≡ option_and_then (source_of_group l) (lacking_in_file l o)
source_told l o zero fs x first r d z e f g a b = absurd (omega (arith, z))
source_told l o (suc k) fs x None r d z e f g a b = absurd (none-some x (sym g))
source_told l o (suc k) fs x (Some m) r d z e f g a b =
    let q : x ≡ behind_parts l (suc k) m = same_Some _ _ g in
    let w : Some (chunks_of (record { leaf = x; repetition = r; definition = d })) ≡ Some (stand_in_at l (suc k) m) =
    ap (λ (y : Leaf). Some (chunks_of (record { leaf = y; repetition = r; definition = d }))) q ∙ ap₂ (λ (i j : ℕ). Some (chunks_of (record { leaf = behind_parts l (suc k) m; repetition = i; definition = j }))) a b in
    w ∙ (ap (option_map (stand_in_at l (suc k))) f ∙ sym (ap (option_and_then (source_of_group l)) e))

pub no_source_told : (l : Leaf) (o : Option FileSchema) (k : ℕ) (fs : FileFields) (first : Option Leaf) → 0 < k → lacking_in_file l o ≡ Some (record { parts = k; fields = fs })
    → first ≡ first_opened (greatest_depth - k) fs → None ≡ option_map (behind_parts l k) first → None ≡ option_and_then (source_of_group l) (lacking_in_file l o)
no_source_told l o zero fs first z e f g = absurd (omega (arith, z))
no_source_told l o (suc k) fs None z e f g = ap (option_map (stand_in_at l (suc k))) f ∙ sym (ap (option_and_then (source_of_group l)) e)
no_source_told l o (suc k) fs (Some m) z e f g = absurd (none-some _ g)
