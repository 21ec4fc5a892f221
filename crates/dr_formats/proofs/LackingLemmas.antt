-- Where nothing is lacking, all is as the file's own chunks have it; what is absent in a group has the outline of what is in it.
use Rattle.std.proofs.Common.{◌≡◌, ℕ, zero, suc, ◌+◌, ◌≤◌, List, [], ◌∷◌, ◌++◌, Bool, true, false, ◌&&◌, refl, sym, ap, ap₂, ◌∙◌, arith, true≢false}
use Rattle.std.specs.Prelude.{Option, None, nat_le, min, if◌then◌else◌}
use Rattle.std.specs.List.{list_all}
use Rattle.std.proofs.lemmas.Bool.{and_parts, le-leb, lt-leb}
use Rattle.dr_meaning.specs.Schema.{Repetition, Fields, no_fields, field, Shape, leaf, group, repetition_count, definition_count}
use Rattle.dr_meaning.specs.Path.{Step, Leaf, is_leaf_path, is_shape_path, same_repetition, max_repetition, max_definition}
use Rattle.dr_meaning.specs.Record.{Node, no_slots, slot, gap, Instances, no_instances, instance, Instance, atom, inner, count_instances, fits_repetition, all_instances, is_record, is_instance, instances_at}
use Rattle.dr_meaning.specs.Column.{Triplet, triplet, each_later, spread, instance_column, record_column, column}
use Rattle.dr_meaning.proofs.Blocks.{IsAbove, IsBlock, block-instance}
use Rattle.dr_formats.specs.Lacking.{leaf_read, outline}
use Rattle.dr_formats.specs.File.{column_by}
use Rattle.dr_formats.specs.LackingLaws.{NothingLacking, OfEach, IsAbsent, AbsentIsOutline, AbsentIsNull}

pub nothing_lacking : NothingLacking
nothing_lacking bytes f [] h = (refl, refl)
nothing_lacking bytes f (l ∷ F) h =
    let r = nothing_lacking bytes f F h.1 in
    (ap₂ (λ (x y : List Leaf). x ++ y) (ap (leaf_read l) h.0) r.0, ap₂ (λ (x : Option (List Triplet)) (xs : List (Option (List Triplet))). x ∷ xs) (ap (column_by bytes f l) h.0) r.1)

-- ---- outlines

kept_by : (b : Bool) (x : Triplet) (ts us : List Triplet) → (if b then x ∷ (ts ++ us) else (ts ++ us)) ≡ (if b then x ∷ ts else ts) ++ us
kept_by true x ts us = refl
kept_by false x ts us = refl

outline_append : (r d : ℕ) (ts us : List Triplet) → outline r d (ts ++ us) ≡ outline r d ts ++ outline r d us
outline_append r d [] us = refl
outline_append r d (t ∷ ts) us =
    ap (λ (xs : List Triplet). if nat_le t.repetition r then triplet t.repetition (min t.definition d) None ∷ xs else xs) (outline_append r d ts us)
    ∙ kept_by (nat_le t.repetition r) (triplet t.repetition (min t.definition d) None) (outline r d ts) (outline r d us)

above_gone : (l r d : ℕ) (ts : List Triplet) → r ≤ l → IsAbove l ts → outline r d ts ≡ []
above_gone l r d [] h a = refl
above_gone l r d (t ∷ ts) h a = rw (lt-leb t.repetition r (omega (arith, h, a.0))) (above_gone l r d ts h a.1)

-- of a block the first triplet is left
block_outline : (l q e r d : ℕ) (ts : List Triplet) → q ≤ r → r ≤ l → d ≤ e → IsBlock l q e ts → outline r d ts ≡ triplet q d None ∷ []
block_outline l q e r d [] h k m b = absurd b
block_outline l q e r d (t ∷ ts) h k m b =
    let w : min t.definition d ≡ d = omega (arith, m, b.1) in
    rw (le-leb t.repetition r (omega (arith, h, b.0)), w, b.0, above_gone l r d ts k b.2) refl

-- ---- the field that a path goes through

-- the shape of a field, of which the rest of a path is one, and its instances
abbrev FieldAt : List Step → Instances → Type 0
FieldAt p xs = (s : Shape) × (is_shape_path s p ≡ true) × (all_instances (is_instance s) xs ≡ true)

slot_parts : (a b c : Bool) → (a && b && c) ≡ true → (b ≡ true) × (c ≡ true)
slot_parts true true true h = (refl, refl)
slot_parts true true false h = absurd (true≢false (sym h))
slot_parts true false c h = absurd (true≢false (sym h))
slot_parts false b c h = absurd (true≢false (sym h))

abbrev step : ℕ → Repetition → Step
step i r = record { place = i; repetition = r }

field_at : (fs : Fields) (i : ℕ) (r : Repetition) (p : List Step) (n : Node) → is_leaf_path fs (step i r ∷ p) ≡ true → is_record fs n ≡ true → FieldAt p (instances_at i n)
field_at no_fields i r p n h v = absurd (true≢false (sym h))
field_at (field m q s fs) i r p no_slots h v = absurd (true≢false (sym v))
field_at (field m q s fs) i r p (gap n) h v = absurd (true≢false (sym v))
field_at (field m q s fs) zero r p (slot xs n) h v =
    (s, (and_parts (same_repetition r q) (is_shape_path s p) h).1, (slot_parts (fits_repetition q (count_instances xs)) (all_instances (is_instance s) xs) (is_record fs n) v).0)
field_at (field m q s fs) (suc i) r p (slot xs n) h v =
    field_at fs i r p n h (slot_parts (fits_repetition q (count_instances xs)) (all_instances (is_instance s) xs) (is_record fs n) v).1

-- ---- what is absent

-- of instances each of which has the outline of another column
abbrev Outlined : (f g : ℕ → Instance → List Triplet) → ℕ → ℕ → ℕ → Instance → Type 0
Outlined f g later r d x = (q : ℕ) → q ≤ later → f q x ≡ outline r d (g q x)

later_outline : (f g : ℕ → Instance → List Triplet) (later r d : ℕ) (xs : Instances) → OfEach (Outlined f g later r d) xs → each_later f later xs ≡ outline r d (each_later g later xs)
later_outline f g later r d no_instances h = refl
later_outline f g later r d (instance x xs) h =
    let w : later ≤ later = omega arith in
    ap₂ (λ (a b : List Triplet). a ++ b) (h.0 later w) (later_outline f g later r d xs h.1) ∙ sym (outline_append r d (g later x) (each_later g later xs))

spread_outline : (f g : ℕ → Instance → List Triplet) (later e q r d : ℕ) (xs : Instances) → q ≤ later → later ≤ r → e ≤ d → OfEach (Outlined f g later r d) xs → spread f later e q xs ≡ outline r d (spread g later e q xs)
spread_outline f g later e q r d no_instances h k m o =
    let w : min e d ≡ e = omega (arith, m) in
    rw (le-leb q r (omega (arith, h, k)), w) refl
spread_outline f g later e q r d (instance x xs) h k m o =
    ap₂ (λ (a b : List Triplet). a ++ b) (o.0 q h) (later_outline f g later r d xs o.1) ∙ sym (outline_append r d (g q x) (each_later g later xs))

of_each : (P Q : Instance → Type 0) (test : Instance → Bool) → ((x : Instance) → test x ≡ true → P x → Q x) → (xs : Instances) → all_instances test xs ≡ true → OfEach P xs → OfEach Q xs
of_each P Q test f no_instances v h = tt
of_each P Q test f (instance x xs) v h = let k : (test x ≡ true) × (all_instances test xs ≡ true) = and_parts _ _ v in (f x k.0 h.0, of_each P Q test f xs k.1 h.1)

absent_outline : (sh : Shape) (q : List Step) (s : Step) (p t : List Step) (x : Instance) (l e k : ℕ) → is_shape_path sh (q ++ t) ≡ true → is_instance sh x ≡ true → IsAbsent q s.place x → k ≤ l
    → instance_column (q ++ s ∷ p) l e k x ≡ outline (l + max_repetition q) (e + max_definition q) (instance_column (q ++ t) l e k x)
absent_outline sh [] s p t x l e k h v a w =
    let r : l + 0 ≡ l = omega arith in
    let d : e + 0 ≡ e = omega arith in
    let b : IsBlock l k e (instance_column t l e k x) = block-instance sh t x l e k h v in
    ap (spread (instance_column p (l + repetition_count s.repetition) (e + definition_count s.repetition)) (l + repetition_count s.repetition) e k) a
    ∙ sym (ap₂ (λ (m n : ℕ). outline m n (instance_column t l e k x)) r d ∙ block_outline l k e l e (instance_column t l e k x) w (omega arith) (omega arith) b)
absent_outline (leaf c) (u ∷ q) s p t x l e k h v a w = absurd (true≢false (sym h))
absent_outline (group fs) (u ∷ q) s p t (atom z) l e k h v a w = absurd (true≢false (sym v))
absent_outline (group fs) (u ∷ q) s p t (inner n) l e k h v a w =
    let m : ℕ = l + repetition_count u.repetition in
    let o : ℕ = e + definition_count u.repetition in
    let f : FieldAt (q ++ t) (instances_at u.place n) = field_at fs u.place u.repetition (q ++ t) n h v in
    let r : l + (repetition_count u.repetition + max_repetition q) ≡ m + max_repetition q = omega arith in
    let d : e + (definition_count u.repetition + max_definition q) ≡ o + max_definition q = omega arith in
    spread_outline (instance_column (q ++ s ∷ p) m o) (instance_column (q ++ t) m o) m e k (m + max_repetition q) (o + max_definition q) (instances_at u.place n) (omega (arith, w)) (omega arith) (omega arith)
    (of_each (IsAbsent q s.place) (Outlined (instance_column (q ++ s ∷ p) m o) (instance_column (q ++ t) m o) m (m + max_repetition q) (o + max_definition q)) (is_instance f.0)
    (λ (y : Instance) (i : is_instance f.0 y ≡ true) (b : IsAbsent q s.place y) (j : ℕ) (g : j ≤ m). absent_outline f.0 q s p t y m o j f.1 i b g) (instances_at u.place n) f.2 a)
    ∙ ap₂ (λ (x y : ℕ). outline x y (spread (instance_column (q ++ t) m o) m e k (instances_at u.place n))) (sym r) (sym d)

pub absent_is_outline : AbsentIsOutline
absent_is_outline fs q s p t [] h v a = refl
absent_is_outline fs q s p t (n ∷ R) h v a =
    let k : (is_record fs n ≡ true) × (list_all (is_record fs) R ≡ true) = and_parts _ _ v in
    let r : 0 + max_repetition q ≡ max_repetition q = omega arith in
    let d : 0 + max_definition q ≡ max_definition q = omega arith in
    let w : 0 ≤ 0 = omega arith in
    let e : record_column (q ++ s ∷ p) n ≡ outline (max_repetition q) (max_definition q) (record_column (q ++ t) n) =
    absent_outline (group fs) q s p t (inner n) 0 0 0 h k.0 a.0 w ∙ ap₂ (λ (x y : ℕ). outline x y (record_column (q ++ t) n)) r d in
    ap₂ (λ (x y : List Triplet). x ++ y) e (absent_is_outline fs q s p t R h k.1 a.1) ∙ sym (outline_append (max_repetition q) (max_definition q) (record_column (q ++ t) n) (column (q ++ t) R))

pub absent_is_null : AbsentIsNull
absent_is_null s p [] a = refl
absent_is_null s p (n ∷ R) a =
    ap₂ (λ (x y : List Triplet). x ++ y) (ap (spread (instance_column p (0 + repetition_count s.repetition) (0 + definition_count s.repetition)) (0 + repetition_count s.repetition) 0 0) a.0) (absent_is_null s p R a.1)
