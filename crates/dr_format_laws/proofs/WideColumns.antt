-- Widened records keep the columns of the leaves that both schemas have.
use Rattle.std.proofs.Common.{◌≡◌, ℕ, zero, suc, ◌+◌, List, [], ◌∷◌, ◌++◌, map, Bool, true, false, ◌&&◌, Some, refl, sym, ap, ap₂, ◌∙◌, subst, arith, true≢false}
use Rattle.std.specs.Prelude.{if◌then◌else◌, bytes_eq}
use Rattle.std.proofs.lemmas.Bool.{and_parts}
use Rattle.dr_meaning.specs.Schema.{Repetition, Kind, Fields, no_fields, field, Shape, leaf, group, is_group, is_shape, repetition_count, definition_count}
use Rattle.dr_meaning.specs.Path.{Step, Leaf, same_repetition, leaf_below, leaves_from, shape_leaves, leaves}
use Rattle.dr_meaning.specs.Record.{Node, Instances, no_instances, instance, Instance, atom, inner, instances_at}
use Rattle.dr_meaning.specs.Column.{Triplet, each_later, spread, instance_column, column}
use Rattle.dr_meaning.proofs.Blocks.{same_repetition-true}
use Rattle.dr_meaning.proofs.ProjectionLemmas.{step}
use Rattle.dr_meaning.proofs.SchemaReadsBack.{FirstField, first_of_group}
use Rattle.dr_formats.specs.WritingLaws.{nth_leaf}
use Rattle.dr_formats.specs.Widening.{PlacedField, placed_field, has_field, has_fields, has_shape, may_all_be_added, of_instances, widened_field, widened, widened_instance}
use Rattle.dr_formats.proofs.FileBack.{Limits, limits}
use Rattle.dr_formats.proofs.ColumnsFit.{EachLeaf, each_append}
use Rattle.dr_formats.proofs.ColumnRows.{each_below}
use Rattle.dr_format_laws.specs.WideningLaws.{WideningKeepsColumns}
use Rattle.dr_format_laws.proofs.WideFields.{placed, same_placed, none_placed, ArePlaced, all_placed, equal_names, field_had}

-- ---- from names to leaves

-- names lead along a path of a shape to a leaf of this kind
abbrev pub Leads : Shape → List (List ℕ) → List Step → Kind → Type 0
Leads (leaf j) [] [] k = j ≡ k
Leads (leaf j) [] (u ∷ p) k = ⊥
Leads (leaf j) (n ∷ ns) p k = ⊥
Leads (group fs) [] p k = ⊥
Leads (group fs) (n ∷ ns) [] k = ⊥
Leads (group fs) (n ∷ ns) (u ∷ p) k = (s : Shape) × (placed_field n 0 fs ≡ Some (placed u.place u.repetition s)) × Leads s ns p k

abbrev pub LeadsTo : Shape → Leaf → Type 0
LeadsTo s l = Leads s l.names l.path l.kind

mutual
  pub fields_lead : (gs hs : Fields) (i : ℕ) → ArePlaced gs hs i → is_group hs ≡ true → EachLeaf (LeadsTo (group gs)) (leaves_from hs i)
  fields_lead gs no_fields i a h = tt
  fields_lead gs (field n r s hs) i a h =
      let p : FirstField n s hs = first_of_group n r s hs h in
      let z : 0 + i ≡ i = omega arith in
      let e : placed_field n 0 gs ≡ Some (placed i r s) = a.0 0 ∙ ap (λ j. Some (placed j r s)) z in
      each_append (LeadsTo (group gs)) (map (leaf_below n (step i r)) (shape_leaves s)) (leaves_from hs (suc i))
      (each_below (LeadsTo s) (LeadsTo (group gs)) n (step i r) (λ l g. (s, e, g)) (shape_leaves s) (shape_leads s p.2)) (fields_lead gs hs (suc i) a.1 p.3)

  shape_leads : (s : Shape) → is_shape s ≡ true → EachLeaf (LeadsTo s) (shape_leaves s)
  shape_leads (leaf k) h = (refl, tt)
  shape_leads (group fs) h = let p = and_parts _ _ h in fields_lead fs fs 0 (all_placed fs p.1) p.1

pub each_nth : (P : Leaf → Type 0) (ls : List Leaf) (i : ℕ) (l : Leaf) → EachLeaf P ls → nth_leaf ls i ≡ Some l → P l
each_nth P [] i l h e = absurd (cc)
each_nth P (m ∷ ls) zero l h e = let q : m ≡ l = cc in subst P q h.0
each_nth P (m ∷ ls) (suc i) l h e = each_nth P ls i l h.1 e

-- each leaf of a schema is what its names lead to
pub leaf_leads : (fs : Fields) (i : ℕ) (l : Leaf) → is_group fs ≡ true → nth_leaf (leaves fs) i ≡ Some l → LeadsTo (group fs) l
leaf_leads fs i l h e = each_nth (LeadsTo (group fs)) (leaves fs) i l (fields_lead fs fs 0 (all_placed fs h) h) e

-- ---- the instances of a field in a widened record

abbrev SlotAt : Fields → Fields → Node → List ℕ → ℕ → PlacedField → Type 0
SlotAt fs gs n m i f = (j : ℕ) × (i + j ≡ f.place) × (instances_at j (widened fs gs n) ≡ widened_field (widened_instance f.shape) (placed_field m 0 fs) n)

slot_at : (fs gs : Fields) (n : Node) (m : List ℕ) (i : ℕ) (f : PlacedField) → placed_field m i gs ≡ Some f → SlotAt fs gs n m i f
slot_at fs no_fields n m i f e = absurd (none_placed f e)
slot_at fs (field q r s gs) n m i f e = by_name (bytes_eq m q) refl (slot_at fs gs n m (suc i) f) e
  where
    by_name : (b : Bool) → bytes_eq m q ≡ b → (placed_field m (suc i) gs ≡ Some f → SlotAt fs gs n m (suc i) f) → (if b then Some (placed i r s) else placed_field m (suc i) gs) ≡ Some f → SlotAt fs (field q r s gs) n m i f
    by_name true w later e =
        let z : i + 0 ≡ i = omega arith in
        subst (λ (x : PlacedField). SlotAt fs (field q r s gs) n m i x) (same_placed (placed i r s) f e)
        (0, z, ap (λ (y : List ℕ). widened_field (widened_instance s) (placed_field y 0 fs) n) (sym (equal_names m q w)))
    by_name false w later e =
        let p : SlotAt fs gs n m (suc i) f = later e in
        let z : i + suc p.0 ≡ f.place = omega (arith, p.1) in
        (suc p.0, z, p.2)

pub slot_there : (fs gs : Fields) (n : Node) (m : List ℕ) (f : PlacedField) → placed_field m 0 gs ≡ Some f → instances_at f.place (widened fs gs n) ≡ widened_field (widened_instance f.shape) (placed_field m 0 fs) n
slot_there fs gs n m f e =
    let p : SlotAt fs gs n m 0 f = slot_at fs gs n m 0 f e in
    let z : p.0 ≡ f.place = omega (arith, p.1) in
    ap (λ (j : ℕ). instances_at j (widened fs gs n)) (sym z) ∙ p.2

-- ---- columns

later_kept : (c d : ℕ → Instance → List Triplet) (f : Instance → Instance) → ((q : ℕ) (x : Instance) → c q (f x) ≡ d q x) → (later : ℕ) (xs : Instances) → each_later c later (of_instances f xs) ≡ each_later d later xs
later_kept c d f h later no_instances = refl
later_kept c d f h later (instance x xs) = ap₂ (λ (a b : List Triplet). a ++ b) (h later x) (later_kept c d f h later xs)

spread_kept : (c d : ℕ → Instance → List Triplet) (f : Instance → Instance) → ((q : ℕ) (x : Instance) → c q (f x) ≡ d q x) → (later e q : ℕ) (xs : Instances) → spread c later e q (of_instances f xs) ≡ spread d later e q xs
spread_kept c d f h later e q no_instances = refl
spread_kept c d f h later e q (instance x xs) = ap₂ (λ (a b : List Triplet). a ++ b) (h q x) (later_kept c d f h later xs)

-- fields of one name in a group and in a wider one: with the same repetition, and a shape as wide or wider
pub widened_is : (fs gs : Fields) (n : List ℕ) (u v : PlacedField) → (has_fields gs fs && may_all_be_added fs gs) ≡ true → placed_field n 0 fs ≡ Some u → placed_field n 0 gs ≡ Some v → (v.repetition ≡ u.repetition) × (has_shape u.shape v.shape ≡ true)
widened_is fs gs n u v h e g =
    let p : (has_fields gs fs ≡ true) × (may_all_be_added fs gs ≡ true) = and_parts _ _ h in
    let q : has_field u.repetition (has_shape u.shape) (Some v) ≡ true = ap (has_field u.repetition (has_shape u.shape)) (sym g) ∙ field_had gs fs n 0 u p.0 e in
    let b : (same_repetition v.repetition u.repetition ≡ true) × (has_shape u.shape v.shape ≡ true) = and_parts _ _ q in
    (same_repetition-true v.repetition u.repetition b.0, b.1)

column_kept : (s t : Shape) (ns : List (List ℕ)) (p q : List Step) (k j : Kind) → has_shape s t ≡ true → Leads s ns p k → Leads t ns q j → (l d r : ℕ) (x : Instance) → instance_column q l d r (widened_instance t s x) ≡ instance_column p l d r x
column_kept (leaf y) (group gs) ns p q k j h a b l d r x = absurd (true≢false (sym h))
column_kept (group fs) (leaf z) ns p q k j h a b l d r x = absurd (true≢false (sym h))
column_kept (leaf y) (leaf z) [] [] [] k j h a b l d r x = refl
column_kept (leaf y) (leaf z) [] [] (v ∷ q) k j h a b l d r x = absurd b
column_kept (leaf y) (leaf z) [] (u ∷ p) q k j h a b l d r x = absurd a
column_kept (leaf y) (leaf z) (n ∷ ns) p q k j h a b l d r x = absurd a
column_kept (group fs) (group gs) [] p q k j h a b l d r x = absurd a
column_kept (group fs) (group gs) (n ∷ ns) [] q k j h a b l d r x = absurd a
column_kept (group fs) (group gs) (n ∷ ns) (u ∷ p) [] k j h a b l d r x = absurd b
column_kept (group fs) (group gs) (n ∷ ns) (u ∷ p) (v ∷ q) k j h a b l d r (atom y) = refl
column_kept (group fs) (group gs) (n ∷ ns) (u ∷ p) (v ∷ q) k j h a b l d r (inner m) =
    let w = widened_is fs gs n (placed u.place u.repetition a.0) (placed v.place v.repetition b.0) h a.1 b.1 in
    let i : instances_at v.place (widened fs gs m) ≡ of_instances (widened_instance b.0 a.0) (instances_at u.place m) =
    slot_there fs gs m n (placed v.place v.repetition b.0) b.1 ∙ ap (λ o. widened_field (widened_instance b.0) o m) a.1 in
    let c : ℕ = l + repetition_count u.repetition in
    let e : ℕ = d + definition_count u.repetition in
    ap₂ (λ (y : Repetition) (xs : Instances). spread (instance_column q (l + repetition_count y) (d + definition_count y)) (l + repetition_count y) d r xs) w.0 i
    ∙ spread_kept (instance_column q c e) (instance_column p c e) (widened_instance b.0 a.0) (λ (y : ℕ) (z : Instance). column_kept a.0 b.0 ns p q k j w.1 a.2 b.2 c e y z) c d r (instances_at u.place m)

pub columns_kept : (fs gs : Fields) (ns : List (List ℕ)) (p q : List Step) (k j : Kind) (R : List Node) → has_shape (group fs) (group gs) ≡ true → Leads (group fs) ns p k → Leads (group gs) ns q j → column q (map (widened fs gs) R) ≡ column p R
columns_kept fs gs ns p q k j [] h a b = refl
columns_kept fs gs ns p q k j (n ∷ R) h a b = ap₂ (λ (x y : List Triplet). x ++ y) (column_kept (group fs) (group gs) ns p q k j h a b 0 0 0 (inner n)) (columns_kept fs gs ns p q k j R h a b)

pub widening_keeps_columns : WideningKeepsColumns
widening_keeps_columns s w i j l m R h e g n =
    let a : Limits s = limits s h.0 in
    let b : Limits w = limits w h.1 in
    columns_kept s.fields w.fields l.names l.path m.path l.kind m.kind R h.2 (leaf_leads s.fields i l a.1 e)
    (subst (λ (ns : List (List ℕ)). Leads (group w.fields) ns m.path m.kind) (sym n) (leaf_leads w.fields j m b.1 g))
