-- The first open leaf among a file's leaves: field by field, and as the one leaf of an open part with room for one.
use Rattle.std.proofs.Common.{◌≡◌, ℕ, zero, suc, ◌<◌, ◌≤◌, ◌⊎◌, inl, inr, List, [], ◌∷◌, ◌++◌, length, map, Bool, true, false, refl, sym, ap, ap₂, ◌∙◌, subst, true≢false, arith}
use Rattle.std.specs.Prelude.{Option, Some, None, option_map, ◌&&◌, not, nat_le, if◌then◌else◌, bytes_eq, IsSome}
use Rattle.std.specs.Option.{is_some}
use Rattle.std.specs.List.{list_any}
use Rattle.std.proofs.lemmas.Bool.{and_from, and_right, or_right, or_left, or_from, not_from_true, lt-leb, le-leb, leb-true, cases_lt}
use Rattle.std.proofs.lemmas.List.{map-append, length-map}
use Rattle.std.proofs.lemmas.Option.{none-some, same_Some}
use Rattle.std.proofs.lemmas.Slice.Eq.{bytes_eq-Decides}
use Rattle.dr_meaning.specs.Schema.{Repetition, required, optional, repeated, Kind, bool_kind, int32_kind, int64_kind, text_kind, Fields, no_fields, field, Shape, is_short_name, same_kind}
use Rattle.dr_meaning.specs.Path.{Leaf, same_repetition, leaf_below}
use Rattle.dr_formats.specs.FileSchema.{FileFields, no_file_fields, file_field, FileShape, file_leaf, file_group, open_kind, is_open_name, FileLeaf, only_if, leaf_under, leaves_under, shape_leaves_under, OpenFields, OpenShape, open_leaf, group_unless_empty, closed_shape, put_field, put_open, open_fields, open_below, is_kind, same_names, same_repetitions, is_leaf_for, place_of}
use Rattle.dr_formats.specs.Lacking.{FileField, field_named, names_begin, leaf_of_file, open_or, first_open}
use Rattle.dr_open.specs.Sources.{first_leaf, first_of_shape}
use Rattle.dr_open.proofs.PlaceLemmas.{Even}

-- ---- first of two lists

abbrev or_leaf : Option Leaf → Option Leaf → Option Leaf
or_leaf None p = p
or_leaf (Some l) p = Some l

or_none : (o : Option Leaf) → or_leaf o None ≡ o
or_none None = refl
or_none (Some l) = refl

or_step : (b : Bool) (l : FileLeaf) (k : Option Kind) (o p q : Option Leaf) → q ≡ or_leaf o p → (if b then open_or l k q else q) ≡ or_leaf (if b then open_or l k o else o) p
or_step true l None o p q h = h
or_step true l (Some k) o p q h = refl
or_step false l k o p q h = h

first_append : (ns : List (List ℕ)) (xs ys : List FileLeaf) → first_open ns (xs ++ ys) ≡ or_leaf (first_open ns xs) (first_open ns ys)
first_append ns [] ys = refl
first_append ns (l ∷ xs) ys = or_step (names_begin ns l.names) l l.kind (first_open ns xs) (first_open ns ys) (first_open ns (xs ++ ys)) (first_append ns xs ys)

-- ---- depth

-- a leaf, closed where it has more than d parts; the same where a part of a field comes before
abbrev pub within : ℕ → FileLeaf → FileLeaf
within d l = record l { kind = only_if (nat_le (length l.names) d) l.kind }

abbrev pub kind_within : ℕ → FileLeaf → Option Kind
kind_within zero l = None
kind_within (suc d) l = only_if (nat_le (length l.names) d) l.kind

abbrev pub within_field : ℕ → FileLeaf → FileLeaf
within_field d l = record l { kind = kind_within d l }

one_less : (a b : ℕ) → nat_le (suc a) (suc b) ≡ nat_le a b
one_less a b = by_order (cases_lt b a)
  where
    by_order : (b < a) ⊎ (a ≤ b) → nat_le (suc a) (suc b) ≡ nat_le a b
    by_order (inl h) = lt-leb (suc a) (suc b) (omega arith) ∙ sym (lt-leb a b h)
    by_order (inr h) = le-leb (suc a) (suc b) (omega arith) ∙ sym (le-leb a b h)

abbrev with_kind : List ℕ → Repetition → FileLeaf → Option Kind → FileLeaf
with_kind n r l k = record { names = n ∷ l.names; repetitions = r ∷ l.repetitions; kind = k }

within_under : (n : List ℕ) (r : Repetition) (d : ℕ) (l : FileLeaf) → within d (leaf_under n r true l) ≡ with_kind n r l (kind_within d l)
within_under n r zero l = ap (λ b. with_kind n r l (only_if b l.kind)) (lt-leb (suc (length l.names)) 0 (omega arith))
within_under n r (suc d) l = ap (λ b. with_kind n r l (only_if b l.kind)) (one_less (length l.names) d)

within_closed : (n : List ℕ) (r : Repetition) (d : ℕ) (l : FileLeaf) → (within d (leaf_under n r false l)).kind ≡ None
within_closed n r d l = by (nat_le (suc (length l.names)) d)
  where
    by : (b : Bool) → only_if b (only_if false l.kind) ≡ None
    by true = refl
    by false = refl

same_bytes : (n : List ℕ) → bytes_eq n n ≡ true
same_bytes n = (bytes_eq-Decides n n).1 refl

abbrev below : List ℕ → Repetition → Leaf → Leaf
below n r l = leaf_below n (record { place = 0; repetition = r }) l

under_step : (b : Bool) (n : List ℕ) (r : Repetition) (l : FileLeaf) (k : Option Kind) (o p : Option Leaf) → p ≡ option_map (below n r) o
    → (if b then open_or (with_kind n r l k) k p else p) ≡ option_map (below n r) (if b then open_or l k o else o)
under_step true n r l None o p h = h
under_step true n r l (Some k) o p h = refl
under_step false n r l k o p h = h

-- the leaves below an open field, where names begin with its name
of_field : (n : List ℕ) (ms : List (List ℕ)) (r : Repetition) (d : ℕ) (xs : List FileLeaf)
    → first_open (n ∷ ms) (map (within d) (map (leaf_under n r true) xs)) ≡ option_map (below n r) (first_open ms (map (within_field d) xs))
of_field n ms r d [] = refl
of_field n ms r d (l ∷ xs) =
    let rest : Option Leaf = first_open (n ∷ ms) (map (within d) (map (leaf_under n r true) xs)) in
    ap (λ (x : FileLeaf). if names_begin (n ∷ ms) x.names then open_or x x.kind rest else rest) (within_under n r d l)
    ∙ (ap (λ (b : Bool). if b && names_begin ms l.names then open_or (with_kind n r l (kind_within d l)) (kind_within d l) rest else rest) (same_bytes n)
    ∙ (under_step (names_begin ms l.names) n r (within_field d l) (kind_within d l) (first_open ms (map (within_field d) xs)) rest (of_field n ms r d xs)))

closed_step : (b : Bool) (l : FileLeaf) (k : Option Kind) (p : Option Leaf) → k ≡ None → p ≡ None → (if b then open_or l k p else p) ≡ None
closed_step true l None p e h = h
closed_step true l (Some k) p e h = absurd (none-some k (sym e))
closed_step false l k p e h = h

pub all_closed : (ns : List (List ℕ)) (g : FileLeaf → FileLeaf) (xs : List FileLeaf) → ((l : FileLeaf) → (g l).kind ≡ None) → first_open ns (map g xs) ≡ None
all_closed ns g [] h = refl
all_closed ns g (l ∷ xs) h = closed_step (names_begin ns (g l).names) (g l) (g l).kind (first_open ns (map g xs)) (h l) (all_closed ns g xs h)

map_map : (f g : FileLeaf → FileLeaf) (ls : List FileLeaf) → map f (map g ls) ≡ map (λ l. f (g l)) ls
map_map f g [] = refl
map_map f g (l ∷ ls) = ap (λ xs. f (g l) ∷ xs) (map_map f g ls)

-- those below a closed field
of_closed : (ns : List (List ℕ)) (n : List ℕ) (r : Repetition) (d : ℕ) (xs : List FileLeaf) → first_open ns (map (within d) (map (leaf_under n r false) xs)) ≡ None
of_closed ns n r d xs = ap (first_open ns) (map_map (within d) (leaf_under n r false) xs) ∙ all_closed ns (λ l. within d (leaf_under n r false l)) xs (within_closed n r d)

-- those below a field of another name
of_other : (n : List ℕ) (ms : List (List ℕ)) (m : List ℕ) (r : Repetition) (b : Bool) (d : ℕ) (xs : List FileLeaf) → bytes_eq n m ≡ false → first_open (n ∷ ms) (map (within d) (map (leaf_under m r b) xs)) ≡ None
of_other n ms m r b d [] h = refl
of_other n ms m r b d (l ∷ xs) h =
    let rest : Option Leaf = first_open (n ∷ ms) (map (within d) (map (leaf_under m r b) xs)) in
    let x : FileLeaf = within d (leaf_under m r b l) in
    ap (λ (c : Bool). if c && names_begin ms l.names then open_or x x.kind rest else rest) h ∙ of_other n ms m r b d xs h

-- ---- the fields of a group, where names begin with this one

same_name : (n m : List ℕ) → bytes_eq n m ≡ true → n ≡ m
same_name n m h = (bytes_eq-Decides n m).0 h

-- an earlier field has the name
seen : (n : List ℕ) (ms : List (List ℕ)) (earlier : List (List ℕ)) (d : ℕ) (fs : FileFields) → list_any (bytes_eq n) earlier ≡ true → first_open (n ∷ ms) (map (within d) (leaves_under earlier fs)) ≡ None
seen n ms earlier d no_file_fields h = refl
seen n ms earlier d (file_field m r s fs) h =
    ap (first_open (n ∷ ms)) (map-append (within d) (map (leaf_under m r (is_open_name earlier m)) (shape_leaves_under s)) (leaves_under (m ∷ earlier) fs))
    ∙ (first_append (n ∷ ms) (map (within d) (map (leaf_under m r (is_open_name earlier m)) (shape_leaves_under s))) (map (within d) (leaves_under (m ∷ earlier) fs))
    ∙ ap₂ or_leaf (first (bytes_eq n m) refl) (seen n ms (m ∷ earlier) d fs (or_right (bytes_eq n m) _ h)))
  where
    first : (b : Bool) → bytes_eq n m ≡ b → first_open (n ∷ ms) (map (within d) (map (leaf_under m r (is_open_name earlier m)) (shape_leaves_under s))) ≡ None
    first false w = of_other n ms m r (is_open_name earlier m) d (shape_leaves_under s) w
    first true w =
        let e : list_any (bytes_eq m) earlier ≡ true = sym (ap (λ (x : List ℕ). list_any (bytes_eq x) earlier) (same_name n m w)) ∙ h in
        let c : is_open_name earlier m ≡ false = and_right _ _ (not_from_true _ e) in
        ap (λ (b : Bool). first_open (n ∷ ms) (map (within d) (map (leaf_under m r b) (shape_leaves_under s)))) c ∙ of_closed (n ∷ ms) m r d (shape_leaves_under s)

-- the first open leaf in the field of the name, if that is open
abbrev pub in_named : List ℕ → List (List ℕ) → ℕ → Option FileField → Option Leaf
in_named n ms d None = None
in_named n ms d (Some f) = if is_short_name n then option_map (below n f.repetition) (first_open ms (map (within_field d) (shape_leaves_under f.shape))) else None

pub first_in_named : (n : List ℕ) (ms : List (List ℕ)) (earlier : List (List ℕ)) (d : ℕ) (fs : FileFields) → list_any (bytes_eq n) earlier ≡ false
    → first_open (n ∷ ms) (map (within d) (leaves_under earlier fs)) ≡ in_named n ms d (field_named n fs)
first_in_named n ms earlier d no_file_fields h = refl
first_in_named n ms earlier d (file_field m r s fs) h =
    ap (first_open (n ∷ ms)) (map-append (within d) (map (leaf_under m r (is_open_name earlier m)) (shape_leaves_under s)) (leaves_under (m ∷ earlier) fs))
    ∙ (first_append (n ∷ ms) (map (within d) (map (leaf_under m r (is_open_name earlier m)) (shape_leaves_under s))) (map (within d) (leaves_under (m ∷ earlier) fs))
    ∙ by (bytes_eq n m) refl (λ e. first_in_named n ms (m ∷ earlier) d fs (or_from _ _ e h)))
  where
    here : is_open_name earlier n ≡ is_short_name n
    here = ap (λ (b : Bool). is_short_name n && not b) h ∙ both (is_short_name n)
      where
        both : (b : Bool) → (b && true) ≡ b
        both true = refl
        both false = refl

    name_open : (b : Bool) → is_short_name n ≡ b → first_open (n ∷ ms) (map (within d) (map (leaf_under n r b) (shape_leaves_under s)))
        ≡ (if b then option_map (below n r) (first_open ms (map (within_field d) (shape_leaves_under s))) else None)
    name_open true e = of_field n ms r d (shape_leaves_under s)
    name_open false e = of_closed (n ∷ ms) n r d (shape_leaves_under s)

    by : (b : Bool) → bytes_eq n m ≡ b → (bytes_eq n m ≡ false → first_open (n ∷ ms) (map (within d) (leaves_under (m ∷ earlier) fs)) ≡ in_named n ms d (field_named n fs))
        → or_leaf (first_open (n ∷ ms) (map (within d) (map (leaf_under m r (is_open_name earlier m)) (shape_leaves_under s)))) (first_open (n ∷ ms) (map (within d) (leaves_under (m ∷ earlier) fs)))
        ≡ in_named n ms d (if b then Some (record { repetition = r; shape = s }) else field_named n fs)
    by true e g =
        let q : m ≡ n = sym (same_name n m e) in
        ap₂ or_leaf
        (ap (λ (x : List ℕ). first_open (n ∷ ms) (map (within d) (map (leaf_under x r (is_open_name earlier x)) (shape_leaves_under s)))) q
        ∙ (ap (λ (b : Bool). first_open (n ∷ ms) (map (within d) (map (leaf_under n r b) (shape_leaves_under s)))) here ∙ name_open (is_short_name n) refl))
        (seen n ms (m ∷ earlier) d fs (or_left _ _ e))
        ∙ or_none _
    by false e g =
        ap₂ or_leaf (of_other n ms m r (is_open_name earlier m) d (shape_leaves_under s) e) (g e)

-- ---- the open part with room for one leaf

abbrev Ends : Fields → ℕ → Type 0
Ends no_fields left = left ≡ 1
Ends (field n r s fs) left = is_some (first_leaf (field n r s fs)) ≡ true

-- open fields have the first open leaf of these, or there is none and the room is left
abbrev FieldsFirst : OpenFields → List FileLeaf → Type 0
FieldsFirst o ls = (first_leaf o.fields ≡ first_open [] ls) × Ends o.fields o.left

abbrev ShapeFirst : Option Shape → ℕ → List FileLeaf → Type 0
ShapeFirst None left ls = (first_open [] ls ≡ None) × (left ≡ 1)
ShapeFirst (Some s) left ls = (first_of_shape s ≡ first_open [] ls) × (is_some (first_of_shape s) ≡ true)

below_there : (n : List ℕ) (r : Repetition) (o : Option Leaf) → is_some o ≡ true → is_some (option_map (below n r) o) ≡ true
below_there n r None h = h
below_there n r (Some l) h = refl

or_there : (o p : Option Leaf) → is_some o ≡ true → or_leaf o p ≡ o
or_there None p h = absurd (true≢false (sym h))
or_there (Some l) p h = refl

-- without names before it, the first leaf below an open field
first_of_field : (n : List ℕ) (r : Repetition) (d : ℕ) (xs : List FileLeaf) → first_open [] (map (within d) (map (leaf_under n r true) xs)) ≡ option_map (below n r) (first_open [] (map (within_field d) xs))
first_of_field n r d [] = refl
first_of_field n r d (l ∷ xs) =
    let rest : Option Leaf = first_open [] (map (within d) (map (leaf_under n r true) xs)) in
    ap (λ (x : FileLeaf). open_or x x.kind rest) (within_under n r d l)
    ∙ (under_step true n r (within_field d l) (kind_within d l) (first_open [] (map (within_field d) xs)) rest (first_of_field n r d xs))

put_first : (m : List ℕ) (r : Repetition) (o : Option Shape) (left : ℕ) (rest : ℕ → OpenFields) (xs ys : List FileLeaf) (first : Option Leaf) → ShapeFirst o left xs → FieldsFirst (rest 1) ys → first ≡ option_map (below m r) (first_open [] xs)
    → (first_leaf (put_field m r o (rest left).fields) ≡ or_leaf first (first_open [] ys)) × Ends (put_field m r o (rest left).fields) (rest left).left
put_first m r None left rest xs ys first h g e =
    let f : first ≡ None = e ∙ ap (option_map (below m r)) h.0 in (
      ap (λ (j : ℕ). first_leaf (rest j).fields) h.1 ∙ (g.0 ∙ ap (λ (x : Option Leaf). or_leaf x (first_open [] ys)) (sym f)),
      subst (λ (j : ℕ). Ends (rest j).fields (rest j).left) (sym h.1) g.1,
    )
put_first m r (Some s) left rest xs ys first h g e =
    let f : option_map (below m r) (first_of_shape s) ≡ first = ap (option_map (below m r)) h.0 ∙ sym e in
    let t : is_some (option_map (below m r) (first_of_shape s)) ≡ true = below_there m r (first_of_shape s) h.1 in
    (f ∙ sym (or_there first (first_open [] ys) (sym (ap (λ (x : Option Leaf). is_some x) f) ∙ t)), t)

leaf_first : (d : ℕ) (k : Option Kind) → ShapeFirst (open_leaf k 1).shape (open_leaf k 1).left (map (within_field (suc d)) (record { names = []; repetitions = []; kind = k } ∷ []))
leaf_first d None = (by (nat_le 0 d), refl)
  where
    by : (b : Bool) → open_or (record { names = []; repetitions = []; kind = only_if b None }) (only_if b None) None ≡ None
    by true = refl
    by false = refl
leaf_first d (Some k) =
    (sym (ap (λ (b : Bool). open_or (record { names = []; repetitions = []; kind = only_if b (Some k) }) (only_if b (Some k)) None) (le-leb 0 d (omega arith))), refl)

group_first : (fs : Fields) (left : ℕ) (ls : List FileLeaf) → FieldsFirst (record { fields = fs; left = left }) ls → ShapeFirst (group_unless_empty fs) left ls
group_first no_fields left ls h = (sym h.0, h.1)
group_first (field n r s fs) left ls h = h

closed_first : (s : FileShape) → ShapeFirst (closed_shape 1).shape (closed_shape 1).left (map (within_field zero) (shape_leaves_under s))
closed_first s = (all_closed [] (within_field zero) (shape_leaves_under s) (λ l. refl), refl)

by_name : (m : List ℕ) (r : Repetition) (d : ℕ) (b : Bool) (o : OpenShape) (rest : ℕ → OpenFields) (ls ys : List FileLeaf) → ShapeFirst o.shape o.left (map (within_field d) ls) → FieldsFirst (rest 1) (map (within d) ys)
    → FieldsFirst (put_open m r (if b then o else closed_shape 1) rest) (map (within d) (map (leaf_under m r b) ls ++ ys))
by_name m r d true o rest ls ys h g =
    let p = put_first m r o.shape o.left rest (map (within_field d) ls) (map (within d) ys) (first_open [] (map (within d) (map (leaf_under m r true) ls))) h g (first_of_field m r d ls) in
    let e : first_open [] (map (within d) (map (leaf_under m r true) ls ++ ys)) ≡ or_leaf (first_open [] (map (within d) (map (leaf_under m r true) ls))) (first_open [] (map (within d) ys)) =
    ap (first_open []) (map-append (within d) (map (leaf_under m r true) ls) ys) ∙ first_append [] (map (within d) (map (leaf_under m r true) ls)) (map (within d) ys) in
    (p.0 ∙ sym e, p.1)
by_name m r d false o rest ls ys h g =
    let e : first_open [] (map (within d) (map (leaf_under m r false) ls ++ ys)) ≡ first_open [] (map (within d) ys) =
    ap (first_open []) (map-append (within d) (map (leaf_under m r false) ls) ys) ∙ (first_append [] (map (within d) (map (leaf_under m r false) ls)) (map (within d) ys)
    ∙ ap (λ (x : Option Leaf). or_leaf x (first_open [] (map (within d) ys))) (of_closed [] m r d ls)) in
    (g.0 ∙ sym e, g.1)

mutual
  fields_first : (fs : FileFields) (earlier : List (List ℕ)) (d : ℕ) → FieldsFirst (open_fields earlier d fs 1) (map (within d) (leaves_under earlier fs))
  fields_first no_file_fields earlier d = (refl, refl)
  fields_first (file_field m r s fs) earlier d =
      by_name m r d (is_open_name earlier m) (open_below d s 1) (open_fields (m ∷ earlier) d fs) (shape_leaves_under s) (leaves_under (m ∷ earlier) fs) (shape_first s d) (fields_first fs (m ∷ earlier) d)

  shape_first : (s : FileShape) (d : ℕ) → ShapeFirst (open_below d s 1).shape (open_below d s 1).left (map (within_field d) (shape_leaves_under s))
  shape_first s zero = closed_first s
  shape_first (file_leaf t c) (suc d) = leaf_first d (open_kind t c)
  shape_first (file_group fs) (suc d) = group_first (open_fields [] d fs 1).fields (open_fields [] d fs 1).left (map (within d) (leaves_under [] fs)) (fields_first fs [] d)

-- the one leaf of an open part with room for one is the first open leaf
pub opened_is_first : (fs : FileFields) (d : ℕ) → first_leaf (open_fields [] d fs 1).fields ≡ first_open [] (map (within d) (leaves_under [] fs))
opened_is_first fs d = (fields_first fs [] d).0

-- ---- its depth, and its place

short_step : (b : Bool) (d : ℕ) (l : FileLeaf) (m : Leaf) (o p : Option Leaf) → length l.names ≡ length l.repetitions → (o ≡ Some m → length m.path ≤ d) → (c : Bool) → nat_le (length l.names) d ≡ c → (k : Option Kind)
    → (if b then open_or (record l { kind = only_if c k }) (only_if c k) o else o) ≡ Some m → length m.path ≤ d
short_step false d l m o p e f c q k h = f h
short_step true d l m o p e f false q k h = f h
short_step true d l m o p e f true q None h = f h
short_step true d l m o p e f true q (Some k) h =
    let x : leaf_of_file (record l { kind = Some k }) k ≡ m = same_Some _ _ h in
    let n : length m.path ≡ length l.repetitions = sym (ap (λ (y : Leaf). length y.path) x) ∙ length-map l.repetitions _ in
    omega (arith, n, e, leb-true (length l.names) d q)

pub first_is_short : (ns : List (List ℕ)) (d : ℕ) (ls : List FileLeaf) (m : Leaf) → Even ls → first_open ns (map (within d) ls) ≡ Some m → length m.path ≤ d
first_is_short ns d [] m h e = absurd (none-some m e)
first_is_short ns d (l ∷ ls) m h e =
    short_step (names_begin ns l.names) d l m (first_open ns (map (within d) ls)) None h.0 (λ q. first_is_short ns d ls m h.1 q) (nat_le (length l.names) d) refl l.kind e

names_same : (ns : List (List ℕ)) → same_names ns ns ≡ true
names_same [] = refl
names_same (n ∷ ns) = and_from _ _ (same_bytes n) (names_same ns)

repetition_same : (r : Repetition) → same_repetition r r ≡ true
repetition_same required = refl
repetition_same optional = refl
repetition_same repeated = refl

repetitions_same : (rs : List Repetition) → same_repetitions (map (λ r. record { place = 0; repetition = r }) rs) rs ≡ true
repetitions_same [] = refl
repetitions_same (r ∷ rs) = and_from _ _ (repetition_same r) (repetitions_same rs)

kind_same : (k : Kind) → same_kind k k ≡ true
kind_same bool_kind = refl
kind_same int32_kind = refl
kind_same int64_kind = refl
kind_same text_kind = refl

itself : (l : FileLeaf) (k : Kind) → l.kind ≡ Some k → is_leaf_for (leaf_of_file l k) l ≡ true
itself l k e = and_from _ _ (and_from _ _ (names_same l.names) (repetitions_same l.repetitions)) (ap (is_kind k) e ∙ kind_same k)

later_there : (b : Bool) (o : Option ℕ) → IsSome o → IsSome (if b then Some 0 else option_map (λ (i : ℕ). suc i) o)
later_there true o h = refl
later_there false None h = h
later_there false (Some i) h = refl

placed_step : (b : Bool) (l : FileLeaf) (m : Leaf) (o : Option Leaf) (p : Option ℕ) → (o ≡ Some m → IsSome p) → (k : Option Kind) → l.kind ≡ k → (if b then open_or l k o else o) ≡ Some m
    → IsSome (if is_leaf_for m l then Some 0 else option_map (λ (i : ℕ). suc i) p)
placed_step false l m o p f k q h = later_there (is_leaf_for m l) p (f h)
placed_step true l m o p f None q h = later_there (is_leaf_for m l) p (f h)
placed_step true l m o p f (Some k) q h =
    let x : leaf_of_file l k ≡ m = same_Some _ _ h in
    let t : is_leaf_for m l ≡ true = sym (ap (λ (y : Leaf). is_leaf_for y l) x) ∙ itself l k q in
    ap (λ (b : Bool). is_some (if b then Some 0 else option_map (λ (i : ℕ). suc i) p)) t

-- the first open leaf is one of the leaves
pub first_is_placed : (ns : List (List ℕ)) (ls : List FileLeaf) (m : Leaf) → first_open ns ls ≡ Some m → IsSome (place_of m ls)
first_is_placed ns [] m h = absurd (none-some m h)
first_is_placed ns (l ∷ ls) m h = placed_step (names_begin ns l.names) l m (first_open ns ls) (place_of m ls) (λ q. first_is_placed ns ls m q) l.kind refl h
