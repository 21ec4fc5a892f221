-- Nodes against the fields of a group, slot by slot.
use Rattle.std.specs.Prelude.{◌≡◌, ◌≢◌, ℕ, suc, List, [], ◌∷◌, map, length, Bool, true, false, ◌&&◌, Option, Some, None, Vec}
use Rattle.std.specs.declared.alloc.Global.{Global}
use Rattle.std.proofs.Common.{refl, ap, ◌∙◌}
use Rattle.dr_meaning.specs.Schema as tree
use Rattle.dr_meaning.specs.Record.{Instances, count_instances, all_instances, fits_repetition, is_record, is_instance, is_end}
use Rattle.dr_nested.specs.declared.shape.Field.{Field}
use Rattle.dr_nested.specs.declared.record.Instance.{Instance}
use Rattle.dr_nested.specs.declared.record.Slot as slots
use Rattle.dr_nested.specs.Views.{SeenField, rep_view, shape_view, field_view, fields_view, instances_view, slot_view, slots_of, slots_view}
use Rattle.dr_nested.specs.Fitting.{fits_slot}
use Rattle.dr_nested.proofs.ViewLemmas.{view-field, view-held}

count-view : (xs : List Instance) → count_instances (instances_view xs) ≡ length xs
count-view [] = refl
count-view (x ∷ xs) = ap (λ (n : ℕ). suc n) (count-view xs)

-- a slot with instances
pub held_fits : (f : Field) (xs : Vec Instance Global) (s : slots.Slot) (n : ℕ) → s ≡ slots.Held xs → n ≡ length xs.items
    → fits_slot (field_view f) (slot_view s) ≡ (fits_repetition (rep_view f.rep) n && all_instances (is_instance (shape_view f.shape)) (instances_view xs.items))
held_fits f xs s n e h = rw (e, h, view-field f, view-held xs, count-view xs.items) refl

pub when_true : (a b : Bool) → a ≡ true → (a && b) ≡ b
when_true a b h = rw h refl

pub when_false : (a b : Bool) → a ≡ false → (a && b) ≡ false
when_false a b h = rw h refl

-- a slot before the rest of its node
slot_and_rest : (g : SeenField) (fs : tree.Fields) (o : Option Instances) (os : List (Option Instances))
    → is_record (tree.field g.name g.repetition g.shape fs) (slots_of (o ∷ os)) ≡ (fits_slot g o && is_record fs (slots_of os))
slot_and_rest g fs None os = refl
slot_and_rest g fs (Some xs) os = refl

pub first_slot : (f : Field) (fs : List Field) (s : slots.Slot) (ss : List slots.Slot)
    → is_record (fields_view (f ∷ fs)) (slots_view (s ∷ ss)) ≡ (fits_slot (field_view f) (slot_view s) && is_record (fields_view fs) (slots_view ss))
first_slot f fs s ss = slot_and_rest (field_view f) (fields_view fs) (slot_view s) (map slot_view ss)

and_false : (b : Bool) → (b && false) ≡ false
and_false true = refl
and_false false = refl

not_the_end : (o : Option Instances) (os : List (Option Instances)) → is_end (slots_of (o ∷ os)) ≡ false
not_the_end None os = refl
not_the_end (Some xs) os = refl

-- a node with more or fewer slots than the group has fields
pub lengths_differ : (fs : List Field) (ss : List slots.Slot) → length ss ≢ length fs → is_record (fields_view fs) (slots_view ss) ≡ false
lengths_differ [] [] h = absurd (h refl)
lengths_differ [] (s ∷ ss) h = not_the_end (slot_view s) (map slot_view ss)
lengths_differ (f ∷ fs) [] h = refl
lengths_differ (f ∷ fs) (s ∷ ss) h =
    first_slot f fs s ss ∙ ap (λ (b : Bool). fits_slot (field_view f) (slot_view s) && b) (lengths_differ fs ss (λ e. h (ap (λ (n : ℕ). suc n) e)))
    ∙ and_false (fits_slot (field_view f) (slot_view s))
