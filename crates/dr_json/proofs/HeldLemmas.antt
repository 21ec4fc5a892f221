-- What a group's node holds at a place.
use Rattle.std.proofs.Common.{◌≡◌, ℕ, zero, suc, ◌<◌, ◌≤◌, List, [], ◌∷◌, length, get_or, string_bytes, refl, ap, ◌∙◌, ◌+◌, arith, add-zero, zero-add}
use Rattle.json.specs.Json as json
use Rattle.serde_json.specs.Data.{Members}
use Rattle.serde_json.specs.Find.{get_member}
use Rattle.dr_meaning.specs.Record.{no_instances, instances_at}
use Rattle.dr_meaning.specs.JsonRecord.{given}
use Rattle.dr_nested.specs.declared.shape.Field.{Field}
use Rattle.dr_nested.specs.Views.{fields_view, shape_view, rep_view}
use Rattle.dr_nested.proofs.ViewLemmas.{view-field}
use Rattle.dr_json.specs.Held.{field_held, slots_held, instance_held}
use Rattle.dr_json.specs.Raw.{near, present, field_raw, slots_raw, instance_raw}

pub held_at : (all : List Field) (i : ℕ) (f : Field) (ms : Members) → i < length all → f ≡ get_or all i f
    → instances_at i (slots_held (fields_view all) ms) ≡ field_held (rep_view f.rep) (instance_held (shape_view f.shape)) (given (get_member (string_bytes f.name) ms))
held_at [] i f ms h is = absurd (omega (arith, h))
held_at (g ∷ all) zero f ms h is = rw (is, view-field g) refl
held_at (g ∷ all) (suc i) f ms h is = rw (view-field g) (held_at all i f ms (omega (arith, h)) is)

pub held_past : (all : List Field) (i : ℕ) (ms : Members) → length all ≤ i → instances_at i (slots_held (fields_view all) ms) ≡ no_instances
held_past [] i ms h = refl
held_past (g ∷ all) zero ms h = absurd (omega (arith, h))
held_past (g ∷ all) (suc i) ms h = rw (view-field g) (held_past all i ms (omega (arith, h)))

-- the same of a group that an object of a line is
raw_from : (all : List Field) (i p : ℕ) (f : Field) (ms : json.Members) → i < length all → f ≡ get_or all i f
    → instances_at i (slots_raw (fields_view all) p ms) ≡ field_raw (rep_view f.rep) (instance_raw (shape_view f.shape)) (present (near (i + p) (string_bytes f.name) ms))
raw_from [] i p f ms h is = absurd (omega (arith, h))
raw_from (g ∷ all) zero p f ms h is = rw (is, view-field g, zero-add p) refl
raw_from (g ∷ all) (suc i) p f ms h is =
    let one : i + suc p ≡ suc i + p = omega arith in
    rw (view-field g) (raw_from all i (suc p) f ms (omega (arith, h)) is ∙ ap (λ (q : ℕ). field_raw (rep_view f.rep) (instance_raw (shape_view f.shape)) (present (near q (string_bytes f.name) ms))) one)

pub raw_at_place : (all : List Field) (i : ℕ) (f : Field) (ms : json.Members) → i < length all → f ≡ get_or all i f
    → instances_at i (slots_raw (fields_view all) 0 ms) ≡ field_raw (rep_view f.rep) (instance_raw (shape_view f.shape)) (present (near i (string_bytes f.name) ms))
raw_at_place all i f ms h is = raw_from all i 0 f ms h is ∙ ap (λ (q : ℕ). field_raw (rep_view f.rep) (instance_raw (shape_view f.shape)) (present (near q (string_bytes f.name) ms))) (add-zero i)

raw_none : (all : List Field) (i p : ℕ) (ms : json.Members) → length all ≤ i → instances_at i (slots_raw (fields_view all) p ms) ≡ no_instances
raw_none [] i p ms h = refl
raw_none (g ∷ all) zero p ms h = absurd (omega (arith, h))
raw_none (g ∷ all) (suc i) p ms h = rw (view-field g) (raw_none all i (suc p) ms (omega (arith, h)))

pub raw_past : (all : List Field) (i : ℕ) (ms : json.Members) → length all ≤ i → instances_at i (slots_raw (fields_view all) 0 ms) ≡ no_instances
raw_past all i ms h = raw_none all i 0 ms h
