-- Widened records are records of the wider schema.
use Rattle.std.proofs.Common.{◌≡◌, ℕ, suc, ◌+◌, List, [], ◌∷◌, map, Bool, true, false, ◌||◌, Option, Some, None, refl, sym, ap, ap₂, ◌∙◌, subst, arith, true≢false}
use Rattle.std.specs.Prelude.{if◌then◌else◌, bytes_eq}
use Rattle.std.specs.List.{list_all, list_any}
use Rattle.std.proofs.lemmas.Bool.{and_parts, and_from, or_parts}
use Rattle.std.proofs.lemmas.Slice.Eq.{bytes_eq-Decides}
use Rattle.dr_meaning.specs.Schema.{Repetition, required, optional, repeated, Kind, bool_kind, int32_kind, int64_kind, text_kind, same_kind, Fields, no_fields, field, Shape, leaf, group, field_names, is_group, is_shape}
use Rattle.dr_meaning.specs.Path.{same_repetition}
use Rattle.dr_meaning.specs.Record.{Node, no_slots, slot, gap, Instances, no_instances, instance, Instance, atom, inner, is_of_kind, count_instances, fits_repetition, all_instances, is_record, is_instance, instances_at}
use Rattle.dr_meaning.proofs.Blocks.{same_repetition-true, and₃_parts}
use Rattle.dr_meaning.proofs.SchemaReadsBack.{FirstField, first_of_group, other_way}
use Rattle.dr_formats.specs.Widening.{PlacedField, placed_field, may_be_added, is_there, may_all_be_added, has_field, has_fields, has_shape, is_wider, of_instances, widened_field, widened, widened_instance}
use Rattle.dr_formats.proofs.FileBack.{Limits, limits}
use Rattle.dr_format_laws.specs.WideningLaws.{WidenedAreRecords}

-- ---- fields by their names

abbrev pub placed : ℕ → Repetition → Shape → PlacedField
placed i r s = record { place = i; repetition = r; shape = s }

pub same_placed : (f g : PlacedField) → Some f ≡ Some g → f ≡ g
same_placed f g e = cc

pub none_placed : (f : PlacedField) → None ≡ Some f → ⊥
none_placed f e = cc

pub equal_names : (n m : List ℕ) → bytes_eq n m ≡ true → n ≡ m
equal_names n m h = (bytes_eq-Decides n m).0 h

pub own_name : (n : List ℕ) → bytes_eq n n ≡ true
own_name n = (bytes_eq-Decides n n).1 refl

-- these fields, whose first one has the place i, are found in a group by their names
abbrev pub ArePlaced : Fields → Fields → ℕ → Type 0
ArePlaced gs no_fields i = Unit {0}
ArePlaced gs (field m r s hs) i = ((k : ℕ) → placed_field m k gs ≡ Some (placed (k + i) r s)) × ArePlaced gs hs (suc i)

placed_behind : (n : List ℕ) (q : Repetition) (t : Shape) (gs hs : Fields) (i : ℕ) → list_any (bytes_eq n) (field_names hs) ≡ false → ArePlaced gs hs i → ArePlaced (field n q t gs) hs (suc i)
placed_behind n q t gs no_fields i h a = tt
placed_behind n q t gs (field m r s hs) i h a =
    let p : (bytes_eq n m ≡ false) × (list_any (bytes_eq n) (field_names hs) ≡ false) = or_parts _ _ h in
    (λ k. let e : suc k + i ≡ k + suc i = omega arith in rw (other_way n m p.0) (a.0 (suc k) ∙ ap (λ j. Some (placed j r s)) e), placed_behind n q t gs hs (suc i) p.1 a.1)

-- the fields of a group with distinct names
pub all_placed : (gs : Fields) → is_group gs ≡ true → ArePlaced gs gs 0
all_placed no_fields h = tt
all_placed (field m r s gs) h =
    let p : FirstField m s gs = first_of_group m r s gs h in
    (λ k. let e : k ≡ k + 0 = omega arith in rw (own_name m) (ap (λ j. Some (placed j r s)) e), placed_behind m r s gs gs 0 p.1 (all_placed gs p.3))

-- what has fields has each one that is found among them
pub field_had : (gs fs : Fields) (n : List ℕ) (i : ℕ) (f : PlacedField) → has_fields gs fs ≡ true → placed_field n i fs ≡ Some f → has_field f.repetition (has_shape f.shape) (placed_field n 0 gs) ≡ true
field_had gs no_fields n i f h e = absurd (none_placed f e)
field_had gs (field m r s fs) n i f h e =
    let p : (has_field r (has_shape s) (placed_field m 0 gs) ≡ true) × (has_fields gs fs ≡ true) = and_parts _ _ h in
    by_name (bytes_eq n m) refl p.0 (field_had gs fs n (suc i) f p.1) e
  where
    by_name : (b : Bool) → bytes_eq n m ≡ b → has_field r (has_shape s) (placed_field m 0 gs) ≡ true → (placed_field n (suc i) fs ≡ Some f → has_field f.repetition (has_shape f.shape) (placed_field n 0 gs) ≡ true)
        → (if b then Some (placed i r s) else placed_field n (suc i) fs) ≡ Some f → has_field f.repetition (has_shape f.shape) (placed_field n 0 gs) ≡ true
    by_name true w h later e =
        subst (λ (x : PlacedField). has_field x.repetition (has_shape x.shape) (placed_field n 0 gs) ≡ true) (same_placed (placed i r s) f e)
        (subst (λ (y : List ℕ). has_field r (has_shape s) (placed_field y 0 gs) ≡ true) (sym (equal_names n m w)) h)
    by_name false w h later e = later e

-- ---- the field of a record for one of the wider schema

-- a field and the one of its name: absent, it may be added; else it has the same repetition, and a shape as wide or wider
abbrev Match : Repetition → Shape → Option PlacedField → Type 0
Match r s None = may_be_added r ≡ true
Match r s (Some f) = (r ≡ f.repetition) × (has_shape f.shape s ≡ true)

abbrev AreMatched : Fields → Fields → Type 0
AreMatched fs no_fields = Unit {0}
AreMatched fs (field m r s hs) = Match r s (placed_field m 0 fs) × AreMatched fs hs

matched : (gs fs hs : Fields) (i : ℕ) → has_fields gs fs ≡ true → ArePlaced gs hs i → may_all_be_added fs hs ≡ true → AreMatched fs hs
matched gs fs no_fields i h f a = tt
matched gs fs (field m r s hs) i h f a =
    let p : ((is_there (placed_field m 0 fs) || may_be_added r) ≡ true) × (may_all_be_added fs hs ≡ true) = and_parts _ _ a in
    (by_place (placed_field m 0 fs) refl p.0, matched gs fs hs (suc i) h f.1 p.1)
  where
    by_place : (o : Option PlacedField) → placed_field m 0 fs ≡ o → (is_there o || may_be_added r) ≡ true → Match r s o
    by_place None e a = a
    by_place (Some x) e a =
        let q : has_field x.repetition (has_shape x.shape) (Some (placed (0 + i) r s)) ≡ true = ap (has_field x.repetition (has_shape x.shape)) (sym (f.0 0)) ∙ field_had gs fs m 0 x h e in
        let b : (same_repetition r x.repetition ≡ true) × (has_shape x.shape s ≡ true) = and_parts _ _ q in
        (same_repetition-true r x.repetition b.0, b.1)

all_matched : (fs gs : Fields) → is_group gs ≡ true → is_wider fs gs ≡ true → AreMatched fs gs
all_matched fs gs g w =
    let p : (has_fields gs fs ≡ true) × (may_all_be_added fs gs ≡ true) = and_parts _ _ w in
    matched gs fs gs 0 p.0 (all_placed gs g) p.1

-- ---- the instances of a record's field

abbrev Fits : Repetition → Shape → Instances → Type 0
Fits r s xs = (fits_repetition r (count_instances xs) ≡ true) × (all_instances (is_instance s) xs ≡ true)

abbrev HasField : ℕ → PlacedField → Node → Type 0
HasField i f n = (j : ℕ) × (i + j ≡ f.place) × Fits f.repetition f.shape (instances_at j n)

field_fits : (fs : Fields) (n : Node) (m : List ℕ) (i : ℕ) (f : PlacedField) → is_record fs n ≡ true → placed_field m i fs ≡ Some f → HasField i f n
field_fits no_fields n m i f v e = absurd (none_placed f e)
field_fits (field q r s fs) no_slots m i f v e = absurd (true≢false (sym v))
field_fits (field q r s fs) (gap n) m i f v e = absurd (true≢false (sym v))
field_fits (field q r s fs) (slot xs n) m i f v e =
    let p = and₃_parts (fits_repetition r (count_instances xs)) (all_instances (is_instance s) xs) (is_record fs n) v in
    by_name (bytes_eq m q) (p.0, p.1) (field_fits fs n m (suc i) f p.2) e
  where
    by_name : (b : Bool) → Fits r s xs → (placed_field m (suc i) fs ≡ Some f → HasField (suc i) f n) → (if b then Some (placed i r s) else placed_field m (suc i) fs) ≡ Some f → HasField i f (slot xs n)
    by_name true h later e =
        let z : i + 0 ≡ i = omega arith in
        subst (λ (x : PlacedField). HasField i x (slot xs n)) (same_placed (placed i r s) f e) (0, z, h)
    by_name false h later e =
        let p : HasField (suc i) f n = later e in
        let z : i + suc p.0 ≡ f.place = omega (arith, p.1) in
        (suc p.0, z, p.2)

field_there : (fs : Fields) (n : Node) (m : List ℕ) (f : PlacedField) → is_record fs n ≡ true → placed_field m 0 fs ≡ Some f → Fits f.repetition f.shape (instances_at f.place n)
field_there fs n m f v e =
    let p : HasField 0 f n = field_fits fs n m 0 f v e in
    let z : p.0 ≡ f.place = omega (arith, p.1) in
    subst (λ (j : ℕ). Fits f.repetition f.shape (instances_at j n)) z p.2

-- ---- the widened instances

count_kept : (f : Instance → Instance) (xs : Instances) → count_instances (of_instances f xs) ≡ count_instances xs
count_kept f no_instances = refl
count_kept f (instance x xs) = ap suc (count_kept f xs)

all_kept : (P Q : Instance → Bool) (f : Instance → Instance) → ((x : Instance) → P x ≡ true → Q (f x) ≡ true) → (xs : Instances) → all_instances P xs ≡ true → all_instances Q (of_instances f xs) ≡ true
all_kept P Q f g no_instances h = refl
all_kept P Q f g (instance x xs) h = let p : (P x ≡ true) × (all_instances P xs ≡ true) = and_parts _ _ h in and_from _ _ (g x p.0) (all_kept P Q f g xs p.1)

none_fits : (r : Repetition) → may_be_added r ≡ true → fits_repetition r 0 ≡ true
none_fits required h = absurd (true≢false (sym h))
none_fits optional h = refl
none_fits repeated h = refl

field_widened : (r : Repetition) (s : Shape) (fs : Fields) (n : Node) (m : List ℕ) (o : Option PlacedField) → placed_field m 0 fs ≡ o → is_record fs n ≡ true → Match r s o
    → ((t : Shape) → has_shape t s ≡ true → (x : Instance) → is_instance t x ≡ true → is_instance s (widened_instance s t x) ≡ true) → Fits r s (widened_field (widened_instance s) o n)
field_widened r s fs n m None e v h w = (none_fits r h, refl)
field_widened r s fs n m (Some f) e v h w =
    let p : Fits f.repetition f.shape (instances_at f.place n) = field_there fs n m f v e in
    (ap₂ fits_repetition h.0 (count_kept (widened_instance s f.shape) (instances_at f.place n)) ∙ p.0, all_kept (is_instance f.shape) (is_instance s) (widened_instance s f.shape) (w f.shape h.1) (instances_at f.place n) p.1)

pub same_kind-true : (k j : Kind) → same_kind k j ≡ true → k ≡ j
same_kind-true bool_kind bool_kind h = refl
same_kind-true int32_kind int32_kind h = refl
same_kind-true int64_kind int64_kind h = refl
same_kind-true text_kind text_kind h = refl
same_kind-true k j h = absurd (true≢false (sym h))

mutual
  slots_widened : (hs fs : Fields) (n : Node) → is_group hs ≡ true → AreMatched fs hs → is_record fs n ≡ true → is_record hs (widened fs hs n) ≡ true
  slots_widened no_fields fs n h a v = refl
  slots_widened (field m r s hs) fs n h a v =
      let p : FirstField m s hs = first_of_group m r s hs h in
      let q : Fits r s (widened_field (widened_instance s) (placed_field m 0 fs) n) = field_widened r s fs n m (placed_field m 0 fs) refl v a.0 (λ t g x i. instance_widened s t x p.2 g i) in
      and_from _ _ (and_from _ _ q.0 q.1) (slots_widened hs fs n p.3 a.1 v)

  instance_widened : (s t : Shape) (x : Instance) → is_shape s ≡ true → has_shape t s ≡ true → is_instance t x ≡ true → is_instance s (widened_instance s t x) ≡ true
  instance_widened (leaf k) (leaf j) (atom v) h w i = subst (λ (c : Kind). is_of_kind c v ≡ true) (same_kind-true j k w) i
  instance_widened (leaf k) (leaf j) (inner n) h w i = absurd (true≢false (sym i))
  instance_widened (leaf k) (group fs) x h w i = absurd (true≢false (sym w))
  instance_widened (group gs) (leaf j) x h w i = absurd (true≢false (sym w))
  instance_widened (group gs) (group fs) (atom v) h w i = absurd (true≢false (sym i))
  instance_widened (group gs) (group fs) (inner n) h w i = let p = and_parts _ _ h in slots_widened gs fs n p.1 (all_matched fs gs p.1 w) i

records_widened : (fs gs : Fields) (R : List Node) → is_group gs ≡ true → is_wider fs gs ≡ true → list_all (is_record fs) R ≡ true → list_all (is_record gs) (map (widened fs gs) R) ≡ true
records_widened fs gs [] g w v = refl
records_widened fs gs (n ∷ R) g w v =
    let p : (is_record fs n ≡ true) × (list_all (is_record fs) R ≡ true) = and_parts _ _ v in
    and_from _ _ (slots_widened gs fs n g (all_matched fs gs g w) p.0) (records_widened fs gs R g w p.1)

pub widened_are_records : WidenedAreRecords
widened_are_records s w R h v = let k : Limits w = limits w h.1 in records_widened s.fields w.fields R k.1 h.2 v
