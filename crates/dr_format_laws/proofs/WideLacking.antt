-- Of the leaves of a wider schema each is one of the schema, or lacking in a group of it, where it is absent in widened records.
use Rattle.std.proofs.Common.{◌≡◌, ◌⊎◌, inl, inr, ℕ, zero, suc, List, [], ◌∷◌, ◌++◌, map, take, Bool, true, false, ◌||◌, Option, Some, None, refl, sym, ap, ap₂, ◌∙◌, subst, true≢false}
use Rattle.std.specs.Prelude.{if◌then◌else◌, bytes_eq, option_map}
use Rattle.std.proofs.lemmas.Bool.{and_parts, and_from}
use Rattle.dr_meaning.specs.Schema.{Repetition, required, optional, repeated, Kind, Fields, no_fields, field, Shape, leaf, group, is_group, is_shape, is_nonempty}
use Rattle.dr_meaning.specs.Path.{Step, Leaf, same_repetition, leaf_below, leaves_from, shape_leaves}
use Rattle.dr_meaning.specs.Record.{Node, Instances, no_instances, instance, Instance, atom, inner, instances_at, instances_in}
use Rattle.dr_meaning.proofs.ProjectionLemmas.{step}
use Rattle.dr_meaning.proofs.SchemaReadsBack.{FirstField, first_of_group}
use Rattle.dr_formats.specs.Lacking.{FileField, field_named, lacking_in, lacking_after, unless_required, names_begin}
use Rattle.dr_formats.specs.LackingLaws.{OfEach, IsAbsent, AreAbsent}
use Rattle.dr_formats.specs.WritingLaws.{nth_leaf}
use Rattle.dr_formats.specs.Widening.{PlacedField, placed_field, may_be_added, is_there, may_all_be_added, has_field, has_shape, of_instances, widened_field, widened, widened_instance}
use Rattle.dr_formats.proofs.SchemaBack.{file_fields_of, file_shape_of}
use Rattle.dr_format_laws.proofs.WideFields.{placed, same_placed, none_placed, equal_names, own_name, same_kind-true, field_had}
use Rattle.dr_format_laws.proofs.WideColumns.{Leads, slot_there, widened_is}

-- ---- among leaves

-- one of these leaves is such
abbrev pub AnyLeaf : (Leaf → Type 0) → List Leaf → Type 0
AnyLeaf P [] = ⊥
AnyLeaf P (l ∷ ls) = P l ⊎ AnyLeaf P ls

any_left : (P : Leaf → Type 0) (xs ys : List Leaf) → AnyLeaf P xs → AnyLeaf P (xs ++ ys)
any_left P [] ys h = absurd h
any_left P (x ∷ xs) ys (inl h) = inl h
any_left P (x ∷ xs) ys (inr h) = inr (any_left P xs ys h)

any_right : (P : Leaf → Type 0) (xs ys : List Leaf) → AnyLeaf P ys → AnyLeaf P (xs ++ ys)
any_right P [] ys h = h
any_right P (x ∷ xs) ys h = inr (any_right P xs ys h)

any_below : (P Q : Leaf → Type 0) (n : List ℕ) (s : Step) → ((l : Leaf) → P l → Q (leaf_below n s l)) → (ls : List Leaf) → AnyLeaf P ls → AnyLeaf Q (map (leaf_below n s) ls)
any_below P Q n s f [] h = absurd h
any_below P Q n s f (l ∷ ls) (inl h) = inl (f l h)
any_below P Q n s f (l ∷ ls) (inr h) = inr (any_below P Q n s f ls h)

pub any_nth : (P : Leaf → Type 0) (ls : List Leaf) → AnyLeaf P ls → (i : ℕ) × (l : Leaf) × (nth_leaf ls i ≡ Some l) × P l
any_nth P [] h = absurd h
any_nth P (l ∷ ls) (inl h) = (0, l, refl, h)
any_nth P (l ∷ ls) (inr h) = let q = any_nth P ls h in (suc q.0, q.1, q.2, q.3)

-- a leaf of a field's shape gives one of the group
any_of_field : (P Q : Leaf → Type 0) (fs : Fields) (n : List ℕ) (i : ℕ) (f : PlacedField) → placed_field n i fs ≡ Some f → ((l : Leaf) → P l → Q (leaf_below n (step f.place f.repetition) l)) → AnyLeaf P (shape_leaves f.shape) → AnyLeaf Q (leaves_from fs i)
any_of_field P Q no_fields n i f e g h = absurd (none_placed f e)
any_of_field P Q (field m r s fs) n i f e g h = by_name (bytes_eq n m) refl (any_of_field P Q fs n (suc i) f) e
  where
    first : (x : PlacedField) → placed i r s ≡ x → n ≡ m → ((l : Leaf) → P l → Q (leaf_below n (step x.place x.repetition) l)) → AnyLeaf P (shape_leaves x.shape) → AnyLeaf Q (leaves_from (field m r s fs) i)
    first x q w = subst (λ (y : PlacedField). ((l : Leaf) → P l → Q (leaf_below n (step y.place y.repetition) l)) → AnyLeaf P (shape_leaves y.shape) → AnyLeaf Q (leaves_from (field m r s fs) i)) q
        (λ g h. any_left Q (map (leaf_below m (step i r)) (shape_leaves s)) (leaves_from fs (suc i))
        (any_below P Q m (step i r) (λ l k. subst (λ (y : List ℕ). Q (leaf_below y (step i r) l)) w (g l k)) (shape_leaves s) h))

    by_name : (b : Bool) → bytes_eq n m ≡ b → (placed_field n (suc i) fs ≡ Some f → ((l : Leaf) → P l → Q (leaf_below n (step f.place f.repetition) l)) → AnyLeaf P (shape_leaves f.shape) → AnyLeaf Q (leaves_from fs (suc i)))
        → (if b then Some (placed i r s) else placed_field n (suc i) fs) ≡ Some f → AnyLeaf Q (leaves_from (field m r s fs) i)
    by_name true w later e = first f (same_placed (placed i r s) f e) (equal_names n m w) g h
    by_name false w later e = any_right Q (map (leaf_below m (step i r)) (shape_leaves s)) (leaves_from fs (suc i)) (later e g h)

abbrev pub leaf_of : List (List ℕ) → List Step → Kind → Leaf
leaf_of ns p k = record { names = ns; path = p; kind = k }

-- what names lead to is among the leaves
pub lead_in : (s : Shape) (ns : List (List ℕ)) (p : List Step) (k : Kind) → Leads s ns p k → AnyLeaf (λ l. l ≡ leaf_of ns p k) (shape_leaves s)
lead_in (leaf j) [] [] k h = inl (ap (leaf_of [] []) h)
lead_in (leaf j) [] (u ∷ p) k h = absurd h
lead_in (leaf j) (n ∷ ns) p k h = absurd h
lead_in (group fs) [] p k h = absurd h
lead_in (group fs) (n ∷ ns) [] k h = absurd h
lead_in (group fs) (n ∷ ns) (u ∷ p) k h =
    any_of_field (λ l. l ≡ leaf_of ns p k) (λ l. l ≡ leaf_of (n ∷ ns) (u ∷ p) k) fs n 0 (placed u.place u.repetition h.0) h.1 (λ l e. ap (leaf_below n u) e) (lead_in h.0 ns p k h.2)

-- ---- there or lacking

-- so many parts of names lead to a group of a shape that has no field of the next name, where a field of the path's repetition may be added
abbrev pub Lacks : Shape → List (List ℕ) → List Step → ℕ → Type 0
Lacks (leaf j) ns q k = ⊥
Lacks (group fs) [] q k = ⊥
Lacks (group fs) (n ∷ ns) [] k = ⊥
Lacks (group fs) (n ∷ ns) (u ∷ q) zero = (placed_field n 0 fs ≡ None) × (may_be_added u.repetition ≡ true)
Lacks (group fs) (n ∷ ns) (u ∷ q) (suc k) = (f : PlacedField) × (placed_field n 0 fs ≡ Some f) × (u.repetition ≡ f.repetition) × Lacks f.shape ns q k

-- paths with the same repetitions
abbrev pub SameSteps : List Step → List Step → Type 0
SameSteps [] [] = Unit {0}
SameSteps [] (t ∷ q) = ⊥
SameSteps (s ∷ p) [] = ⊥
SameSteps (s ∷ p) (t ∷ q) = (s.repetition ≡ t.repetition) × SameSteps p q

abbrev pub IsThere : Shape → List (List ℕ) → List Step → Kind → Type 0
IsThere s ns q j = (p : List Step) × Leads s ns p j × SameSteps q p

abbrev pub ThereOrLacking : Shape → List (List ℕ) → List Step → Kind → Type 0
ThereOrLacking s ns q j = IsThere s ns q j ⊎ ((k : ℕ) × Lacks s ns q k)

added : (fs gs : Fields) (n : List ℕ) (i : ℕ) (v : PlacedField) → may_all_be_added fs gs ≡ true → placed_field n i gs ≡ Some v → placed_field n 0 fs ≡ None → may_be_added v.repetition ≡ true
added fs no_fields n i v h e g = absurd (none_placed v e)
added fs (field m r s gs) n i v h e g =
    let p : ((is_there (placed_field m 0 fs) || may_be_added r) ≡ true) × (may_all_be_added fs gs ≡ true) = and_parts _ _ h in
    by_name (bytes_eq n m) refl p.0 (λ e. added fs gs n (suc i) v p.1 e g) e
  where
    by_name : (b : Bool) → bytes_eq n m ≡ b → (is_there (placed_field m 0 fs) || may_be_added r) ≡ true → (placed_field n (suc i) gs ≡ Some v → may_be_added v.repetition ≡ true)
        → (if b then Some (placed i r s) else placed_field n (suc i) gs) ≡ Some v → may_be_added v.repetition ≡ true
    by_name true w a later e =
        subst (λ (x : PlacedField). may_be_added x.repetition ≡ true) (same_placed (placed i r s) v e)
        (sym (ap (λ o. is_there o || may_be_added r) (sym (ap (λ (y : List ℕ). placed_field y 0 fs) (equal_names n m w)) ∙ g)) ∙ a)
    by_name false w a later e = later e

pub there_or_lacking : (s t : Shape) (ns : List (List ℕ)) (q : List Step) (j : Kind) → has_shape s t ≡ true → Leads t ns q j → ThereOrLacking s ns q j
there_or_lacking (leaf y) (group gs) ns q j h b = absurd (true≢false (sym h))
there_or_lacking (group fs) (leaf z) ns q j h b = absurd (true≢false (sym h))
there_or_lacking (leaf y) (leaf z) [] [] j h b = inl ([], same_kind-true y z h ∙ b, tt)
there_or_lacking (leaf y) (leaf z) [] (v ∷ q) j h b = absurd b
there_or_lacking (leaf y) (leaf z) (n ∷ ns) q j h b = absurd b
there_or_lacking (group fs) (group gs) [] q j h b = absurd b
there_or_lacking (group fs) (group gs) (n ∷ ns) [] j h b = absurd b
there_or_lacking (group fs) (group gs) (n ∷ ns) (v ∷ q) j h b = by_place (placed_field n 0 fs) refl (λ s w. there_or_lacking s b.0 ns q j w b.2)
  where
    by_rest : (u : PlacedField) → placed_field n 0 fs ≡ Some u → v.repetition ≡ u.repetition → ThereOrLacking u.shape ns q j → ThereOrLacking (group fs) (n ∷ ns) (v ∷ q) j
    by_rest u e w (inl x) = inl (step u.place u.repetition ∷ x.0, (u.shape, e, x.1), (w, x.2))
    by_rest u e w (inr x) = inr (suc x.0, (u, e, w, x.1))

    by_place : (o : Option PlacedField) → placed_field n 0 fs ≡ o → ((s : Shape) → has_shape s b.0 ≡ true → ThereOrLacking s ns q j) → ThereOrLacking (group fs) (n ∷ ns) (v ∷ q) j
    by_place None e rest = inr (0, (e, added fs gs n 0 (placed v.place v.repetition b.0) (and_parts _ _ h).1 b.1 e))
    by_place (Some u) e rest = let w = widened_is fs gs n u (placed v.place v.repetition b.0) h e b.1 in by_rest u e w.0 (rest u.shape w.1)

-- what is lacking isn't there
pub lacks_not_leads : (s : Shape) (ns : List (List ℕ)) (q p : List Step) (k : ℕ) (j : Kind) → Lacks s ns q k → Leads s ns p j → ⊥
lacks_not_leads (leaf y) ns q p k j h a = absurd h
lacks_not_leads (group fs) [] q p k j h a = absurd h
lacks_not_leads (group fs) (n ∷ ns) [] p k j h a = absurd h
lacks_not_leads (group fs) (n ∷ ns) (u ∷ q) [] k j h a = absurd a
lacks_not_leads (group fs) (n ∷ ns) (u ∷ q) (v ∷ p) zero j h a = none_placed (placed v.place v.repetition a.0) (sym h.0 ∙ a.1)
lacks_not_leads (group fs) (n ∷ ns) (u ∷ q) (v ∷ p) (suc k) j h a =
    let e : h.0 ≡ placed v.place v.repetition a.0 = same_placed h.0 (placed v.place v.repetition a.0) (sym h.1 ∙ a.1) in
    lacks_not_leads a.0 ns q p k j (subst (λ (x : PlacedField). Lacks x.shape ns q k) e h.3) a.2

-- ---- in the file's schema

abbrev file_field_of : PlacedField → FileField
file_field_of f = record { repetition = f.repetition; shape = file_shape_of f.shape }

named_by : (b : Bool) (n : List ℕ) (r : Repetition) (s : Shape) (i : ℕ) (x : Option FileField) (y : Option PlacedField) → x ≡ option_map file_field_of y
    → (if b then Some (record { repetition = r; shape = file_shape_of s }) else x) ≡ option_map file_field_of (if b then Some (placed i r s) else y)
named_by true n r s i x y h = refl
named_by false n r s i x y h = h

named_in_file : (n : List ℕ) (i : ℕ) (fs : Fields) → field_named n (file_fields_of fs) ≡ option_map file_field_of (placed_field n i fs)
named_in_file n i no_fields = refl
named_in_file n i (field m r s fs) = named_by (bytes_eq n m) n r s i (field_named n (file_fields_of fs)) (placed_field n (suc i) fs) (named_in_file n (suc i) fs)

may_lack : (r : Repetition) → may_be_added r ≡ true → unless_required r ≡ Some 0
may_lack required h = absurd (true≢false (sym h))
may_lack optional h = refl
may_lack repeated h = refl

repetition_same : (r : Repetition) → same_repetition r r ≡ true
repetition_same required = refl
repetition_same optional = refl
repetition_same repeated = refl

lacking_there : (s : Shape) (ns : List (List ℕ)) (q : List Step) (k : ℕ) → Lacks s ns q k → lacking_in (lacking_after ns q) (file_shape_of s) ≡ Some (suc k)
lacking_there (leaf y) ns q k h = absurd h
lacking_there (group fs) [] q k h = absurd h
lacking_there (group fs) (n ∷ ns) [] k h = absurd h
lacking_there (group fs) (n ∷ ns) (u ∷ q) zero h =
    let e : field_named n (file_fields_of fs) ≡ None = named_in_file n 0 fs ∙ ap (option_map file_field_of) h.0 in
    rw (e, may_lack u.repetition h.1) refl
lacking_there (group fs) (n ∷ ns) (u ∷ q) (suc k) h =
    let e : field_named n (file_fields_of fs) ≡ Some (file_field_of h.0) = named_in_file n 0 fs ∙ ap (option_map file_field_of) h.1 in
    let r : same_repetition u.repetition h.0.repetition ≡ true = ap (λ x. same_repetition x h.0.repetition) h.2 ∙ repetition_same h.0.repetition in
    rw (e, r, lacking_there h.0.shape ns q k h.3) refl

fewer : (k : ℕ) (o : Option ℕ) → option_map (λ d. suc d) o ≡ Some (suc k) → o ≡ Some k
fewer k None h = absurd (cc)
fewer k (Some j) h = cc

pub lacking_found : (fs : Fields) (ns : List (List ℕ)) (q : List Step) (k : ℕ) → Lacks (group fs) ns q k → lacking_after ns q (file_fields_of fs) ≡ Some k
lacking_found fs ns q k h = fewer k (lacking_after ns q (file_fields_of fs)) (lacking_there (group fs) ns q k h)

-- ---- in the group that lacks it there is a leaf

abbrev pub Begins : List (List ℕ) → Leaf → Type 0
Begins ns l = names_begin ns l.names ≡ true

shape_at : (fs : Fields) (n : List ℕ) (i : ℕ) (f : PlacedField) → is_group fs ≡ true → placed_field n i fs ≡ Some f → is_shape f.shape ≡ true
shape_at no_fields n i f h e = absurd (none_placed f e)
shape_at (field m r s fs) n i f h e = let p : FirstField m s fs = first_of_group m r s fs h in by_name (bytes_eq n m) p.2 (shape_at fs n (suc i) f p.3) e
  where
    by_name : (b : Bool) → is_shape s ≡ true → (placed_field n (suc i) fs ≡ Some f → is_shape f.shape ≡ true) → (if b then Some (placed i r s) else placed_field n (suc i) fs) ≡ Some f → is_shape f.shape ≡ true
    by_name true w later e = subst (λ (x : PlacedField). is_shape x.shape ≡ true) (same_placed (placed i r s) f e) w
    by_name false w later e = later e

any_leaf : (s : Shape) → is_shape s ≡ true → AnyLeaf (Begins []) (shape_leaves s)
any_leaf (leaf k) h = inl refl
any_leaf (group no_fields) h = absurd (true≢false (sym h))
any_leaf (group (field n r s fs)) h =
    let p : FirstField n s fs = first_of_group n r s fs h in
    any_left (Begins []) (map (leaf_below n (step 0 r)) (shape_leaves s)) (leaves_from fs 1) (any_below (Begins []) (Begins []) n (step 0 r) (λ l e. refl) (shape_leaves s) (any_leaf s p.2))

pub begins_in : (s : Shape) (ns : List (List ℕ)) (q : List Step) (k : ℕ) → is_shape s ≡ true → Lacks s ns q k → AnyLeaf (Begins (take k ns)) (shape_leaves s)
begins_in (leaf y) ns q k h a = absurd a
begins_in (group fs) [] q k h a = absurd a
begins_in (group fs) (n ∷ ns) [] k h a = absurd a
begins_in (group fs) (n ∷ ns) (u ∷ q) zero h a = any_leaf (group fs) h
begins_in (group fs) (n ∷ ns) (u ∷ q) (suc k) h a =
    let p : (is_nonempty fs ≡ true) × (is_group fs ≡ true) = and_parts _ _ h in
    any_of_field (Begins (take k ns)) (Begins (n ∷ take k ns)) fs n 0 a.0 a.1 (λ l e. and_from _ _ (own_name n) e) (begins_in a.0.shape ns q k (shape_at fs n 0 a.0 p.1 a.1) a.3)

-- ---- what is lacking is absent

each_widened : (Q : Instance → Type 0) (f : Instance → Instance) → ((x : Instance) → Q (f x)) → (xs : Instances) → OfEach Q (of_instances f xs)
each_widened Q f g no_instances = tt
each_widened Q f g (instance x xs) = (g x, each_widened Q f g xs)

-- the step at which a path goes on behind so many parts, and what follows it
abbrev Split : ℕ → List Step → Step → List Step → Type 0
Split k q u p = q ≡ take k q ++ u ∷ p

abbrev pub Absent : Shape → Shape → List Step → ℕ → Type 0
Absent s t q k = (u : Step) × (p : List Step) × Split k q u p × ((x : Instance) → IsAbsent (take k q) u.place (widened_instance t s x))

none_there : (fs gs : Fields) (n : List ℕ) (v : PlacedField) (x : Instance) → placed_field n 0 fs ≡ None → placed_field n 0 gs ≡ Some v → instances_in v.place (widened_instance (group gs) (group fs) x) ≡ no_instances
none_there fs gs n v (atom y) e g = refl
none_there fs gs n v (inner m) e g = slot_there fs gs m n v g ∙ ap (λ o. widened_field (widened_instance v.shape) o m) e

each_there : (P : Instance → Type 0) (fs gs : Fields) (n : List ℕ) (u v : PlacedField) (x : Instance) → placed_field n 0 fs ≡ Some u → placed_field n 0 gs ≡ Some v → ((y : Instance) → P (widened_instance v.shape u.shape y))
    → OfEach P (instances_in v.place (widened_instance (group gs) (group fs) x))
each_there P fs gs n u v (atom y) e g h = tt
each_there P fs gs n u v (inner m) e g h =
    subst (OfEach P) (sym (slot_there fs gs m n v g ∙ ap (λ o. widened_field (widened_instance v.shape) o m) e)) (each_widened P (widened_instance v.shape u.shape) h (instances_at u.place m))

pub absent : (s t : Shape) (ns : List (List ℕ)) (q : List Step) (k : ℕ) (j : Kind) → Lacks s ns q k → Leads t ns q j → Absent s t q k
absent (leaf y) t ns q k j h a = absurd h
absent (group fs) (leaf z) [] q k j h a = absurd h
absent (group fs) (leaf z) (n ∷ ns) q k j h a = absurd a
absent (group fs) (group gs) [] q k j h a = absurd h
absent (group fs) (group gs) (n ∷ ns) [] k j h a = absurd h
absent (group fs) (group gs) (n ∷ ns) (v ∷ q) zero j h a = (v, q, refl, λ x. none_there fs gs n (placed v.place v.repetition a.0) x h.0 a.1)
absent (group fs) (group gs) (n ∷ ns) (v ∷ q) (suc k) j h a =
    let b : Absent h.0.shape a.0 q k = absent h.0.shape a.0 ns q k j h.3 a.2 in
    (b.0, b.1, ap (λ y. v ∷ y) b.2, λ x. each_there (IsAbsent (take k q) b.0.place) fs gs n h.0 (placed v.place v.repetition a.0) x h.1 a.1 b.3)

pub are_absent : (fs gs : Fields) (p : List Step) (i : ℕ) (R : List Node) → ((x : Instance) → IsAbsent p i (widened_instance (group gs) (group fs) x)) → AreAbsent p i (map (widened fs gs) R)
are_absent fs gs p i [] h = tt
are_absent fs gs p i (n ∷ R) h = (h (inner n), are_absent fs gs p i R h)

-- ---- the stand-in's leaf in the wider schema

abbrev LeadsOn : Shape → List (List ℕ) → Type 0
LeadsOn t ns = (q : List Step) × (j : Kind) × Leads t ns q j

no_field : (r : Repetition) (s : Shape) → has_field r (has_shape s) None ≡ true → ⊥
no_field r s h = true≢false (sym h)

pub leads_on : (s t : Shape) (ns : List (List ℕ)) (p : List Step) (k : Kind) → has_shape s t ≡ true → Leads s ns p k → LeadsOn t ns
leads_on (leaf y) (group gs) ns p k h a = absurd (true≢false (sym h))
leads_on (group fs) (leaf z) ns p k h a = absurd (true≢false (sym h))
leads_on (leaf y) (leaf z) [] p k h a = ([], z, refl)
leads_on (leaf y) (leaf z) (n ∷ ns) p k h a = absurd a
leads_on (group fs) (group gs) [] p k h a = absurd a
leads_on (group fs) (group gs) (n ∷ ns) [] k h a = absurd a
leads_on (group fs) (group gs) (n ∷ ns) (u ∷ p) k h a =
    by_place (placed_field n 0 gs) refl (field_had gs fs n 0 (placed u.place u.repetition a.0) (and_parts _ _ h).0 a.1) (λ t w. leads_on a.0 t ns p k w a.2)
  where
    by_place : (o : Option PlacedField) → placed_field n 0 gs ≡ o → has_field u.repetition (has_shape a.0) o ≡ true → ((t : Shape) → has_shape a.0 t ≡ true → LeadsOn t ns) → LeadsOn (group gs) (n ∷ ns)
    by_place None e w rest = absurd (no_field u.repetition a.0 w)
    by_place (Some v) e w rest = let r : LeadsOn v.shape ns = rest v.shape (and_parts _ _ w).1 in (step v.place v.repetition ∷ r.0, r.1, (v.shape, e, r.2))

-- paths whose names begin with the same ones begin with the same steps
pub front_same : (s t : Shape) (k : ℕ) (ns ms : List (List ℕ)) (q p r : List Step) (i j : Kind) → Lacks s ns r k → Leads t ns q i → Leads t ms p j → names_begin (take k ns) ms ≡ true → (b : List Step) × (p ≡ take k q ++ b)
front_same s t zero ns ms q p r i j h a b e = (p, refl)
front_same (leaf y) t (suc k) ns ms q p r i j h a b e = absurd h
front_same (group fs) t (suc k) [] ms q p r i j h a b e = absurd h
front_same (group fs) (leaf z) (suc k) (n ∷ ns) ms q p r i j h a b e = absurd a
front_same (group fs) (group gs) (suc k) (n ∷ ns) [] q p r i j h a b e = absurd b
front_same (group fs) (group gs) (suc k) (n ∷ ns) (m ∷ ms) [] p r i j h a b e = absurd a
front_same (group fs) (group gs) (suc k) (n ∷ ns) (m ∷ ms) (u ∷ q) [] r i j h a b e = absurd b
front_same (group fs) (group gs) (suc k) (n ∷ ns) (m ∷ ms) (u ∷ q) (v ∷ p) [] i j h a b e = absurd h
front_same (group fs) (group gs) (suc k) (n ∷ ns) (m ∷ ms) (u ∷ q) (v ∷ p) (x ∷ r) i j h a b e =
    let w : (bytes_eq n m ≡ true) × (names_begin (take k ns) ms ≡ true) = and_parts _ _ e in
    let g : placed v.place v.repetition b.0 ≡ placed u.place u.repetition a.0 = same_placed (placed v.place v.repetition b.0) (placed u.place u.repetition a.0) (sym b.1 ∙ (ap (λ (y : List ℕ). placed_field y 0 gs) (sym (equal_names n m w.0)) ∙ a.1)) in
    let c : v ≡ u = ap (λ (y : PlacedField). step y.place y.repetition) g in
    let d : b.0 ≡ a.0 = ap (λ (y : PlacedField). y.shape) g in
    let z = front_same h.0.shape a.0 k ns ms q p r i j h.3 a.2 (subst (λ (y : Shape). Leads y ms p j) d b.2) w.1 in
    (z.0, ap₂ (λ (y : Step) (ys : List Step). y ∷ ys) c z.1)
