-- What a node has at a place.
use Rattle.std.specs.Prelude.{◌≡◌, ◌≤◌, ◌<◌, ℕ, zero, suc, List, [], ◌∷◌, map, length, get_or, slice_get, option_map, Option, Some, None}
use Rattle.std.proofs.Common.{refl, sym, ap, ◌∙◌}
use Rattle.std.proofs.lemmas.Option.{slice_get-map, slice_get_read, slice_get_past}
use Rattle.dr_meaning.specs.Record.{Instances, no_instances, instances_at}
use Rattle.dr_nested.specs.declared.record.Slot as slots
use Rattle.dr_nested.specs.declared.record.Node as nodes
use Rattle.dr_nested.specs.Views.{slots_of, slots_view, slot_view, node_view}
use Rattle.dr_nested.proofs.ViewLemmas.{view-node}

abbrev pub in_slot : Option Instances → Instances
in_slot None = no_instances
in_slot (Some xs) = xs

at_slots : (os : List (Option Instances)) (i : ℕ) (o : Option Instances) → slice_get os i ≡ Some o → instances_at i (slots_of os) ≡ in_slot o
at_slots [] i o h = cc
at_slots (None ∷ os) zero o h = let e : None ≡ o = cc in rw (← e) refl
at_slots (None ∷ os) (suc i) o h = at_slots os i o h
at_slots (Some xs ∷ os) zero o h = let e : Some xs ≡ o = cc in rw (← e) refl
at_slots (Some xs ∷ os) (suc i) o h = at_slots os i o h

past_slots : (os : List (Option Instances)) (i : ℕ) → slice_get os i ≡ None → instances_at i (slots_of os) ≡ no_instances
past_slots [] i h = refl
past_slots (None ∷ os) zero h = refl
past_slots (None ∷ os) (suc i) h = past_slots os i h
past_slots (Some xs ∷ os) zero h = cc
past_slots (Some xs ∷ os) (suc i) h = past_slots os i h

-- what is held at a place of a node
pub at_held : (n : nodes.Node) (ss : List slots.Slot) (i : ℕ) (x : slots.Slot) (o : Option Instances) → ss ≡ n.slots.items → i < length ss → x ≡ get_or ss i x → slot_view x ≡ o → instances_at i (node_view n) ≡ in_slot o
at_held n ss i x o e h g v =
    let k : slice_get ss i ≡ Some x = slice_get_read ss (length ss) i x refl h g in
    let m : slice_get (map slot_view ss) i ≡ Some o = slice_get-map slot_view ss i ∙ ap (option_map slot_view) k ∙ ap Some v in
    ap (instances_at i) (view-node n ∙ ap slots_view (sym e)) ∙ at_slots (map slot_view ss) i o m

pub at_past : (n : nodes.Node) (ss : List slots.Slot) (i : ℕ) → ss ≡ n.slots.items → length ss ≤ i → instances_at i (node_view n) ≡ no_instances
at_past n ss i e h =
    let m : slice_get (map slot_view ss) i ≡ None = slice_get-map slot_view ss i ∙ ap (option_map slot_view) (slice_get_past ss i h) in
    ap (instances_at i) (view-node n ∙ ap slots_view (sym e)) ∙ past_slots (map slot_view ss) i m
