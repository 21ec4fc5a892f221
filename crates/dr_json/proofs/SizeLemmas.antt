-- Sizes of what is left of a list.
use Rattle.std.proofs.Common.{◌≡◌, ℕ, ◌+◌, ◌^◌, ◌<◌, ◌≤◌, List, [], ◌∷◌, length, get_or, drop, Option, Some, None, sym, ap, ap₂, ◌∙◌, arith}
use Rattle.std.proofs.lemmas.List.{drop_all}
use Rattle.dr_meaning.specs.Record.{Node, Instances, instance_count, instance_count_all, instance_count_one, text_bytes, text_bytes_all, text_bytes_one}
use Rattle.dr_nested.specs.declared.record.Instance.{Instance}
use Rattle.dr_nested.specs.declared.record.Slot.{Slot}
use Rattle.dr_nested.specs.Views.{slot_view, slots_view, instance_view, instances_view}
use Rattle.dr_nested.specs.Views.{slots_of as slots_from}
use Rattle.dr_json.specs.declared.size.Size.{Size}
use Rattle.dr_json.specs.Size.{capped, size, slot_size, instance_size}
use Rattle.dr_json.proofs.ReadingLemmas.{next_in}

-- ---- a total, and what is still to be added

-- the total so far, m more and then n more
pub capped_step : (total m n : ℕ) → capped (total + (m + n)) ≡ capped (capped (total + capped m) + n)
capped_step total m n = omega arith

-- one more, m more and then n more
pub capped_one_step : (total m n : ℕ) → capped (total + (1 + m + n)) ≡ capped (capped (total + capped (capped m + 1)) + n)
capped_one_step total m n = omega arith

capped_same : (total n : ℕ) → capped (total + n) ≡ capped (capped (total + capped 0) + n)
capped_same total n = omega arith

pub capped_end : (total : ℕ) → total < 2 ^ 64 → capped (total + 0) ≡ total
capped_end total h = omega arith

pub same_size : (s : Size) (m n : ℕ) → s.instances ≡ capped m → s.text_bytes ≡ capped n → s ≡ size m n
same_size s m n e f = ap₂ (λ (a b : ℕ). let x : Size = record { instances = a; text_bytes = b } in x) e f

-- ---- slots

slot_instances : (s : Option Instances) (ss : List (Option Instances)) (total : ℕ) → capped (total + instance_count (slots_from (s ∷ ss))) ≡ capped (capped (total + (slot_size s).instances) + instance_count (slots_from ss))
slot_instances None ss total = capped_same total (instance_count (slots_from ss))
slot_instances (Some xs) ss total = capped_step total (instance_count_all xs) (instance_count (slots_from ss))

slot_text_bytes : (s : Option Instances) (ss : List (Option Instances)) (total : ℕ) → capped (total + text_bytes (slots_from (s ∷ ss))) ≡ capped (capped (total + (slot_size s).text_bytes) + text_bytes (slots_from ss))
slot_text_bytes None ss total = capped_same total (text_bytes (slots_from ss))
slot_text_bytes (Some xs) ss total = capped_step total (text_bytes_all xs) (text_bytes (slots_from ss))

-- the slots from place i on are still to be counted
pub record SlotsLeft (all : List Slot) (i : ℕ) (total : Size) : Type 0 where
  pub instances : capped (instance_count (slots_view all)) ≡ capped (total.instances + instance_count (slots_view (drop i all)))
  pub text_bytes : capped (text_bytes (slots_view all)) ≡ capped (total.text_bytes + text_bytes (slots_view (drop i all)))

pub one_slot : (all : List Slot) (i : ℕ) (s : Slot) (total part next : Size) → i < length all → s ≡ get_or all i s → part ≡ slot_size (slot_view s)
    → next.instances ≡ capped (total.instances + part.instances) → next.text_bytes ≡ capped (total.text_bytes + part.text_bytes)
    → SlotsLeft all i total → SlotsLeft all (i + 1) next
one_slot all i s total part next h is e n b left =
    let here : slots_view (drop i all) ≡ slots_view (s ∷ drop (i + 1) all) = ap slots_view (next_in all i s h is) in
    record {
      instances = left.instances ∙ ap (λ (m : Node). capped (total.instances + instance_count m)) here ∙ slot_instances (slot_view s) _ total.instances
          ∙ ap (λ (m : ℕ). capped (m + instance_count (slots_view (drop (i + 1) all)))) (ap (λ (p : Size). capped (total.instances + p.instances)) (sym e) ∙ sym n);
      text_bytes = left.text_bytes ∙ ap (λ (m : Node). capped (total.text_bytes + text_bytes m)) here ∙ slot_text_bytes (slot_view s) _ total.text_bytes
          ∙ ap (λ (m : ℕ). capped (m + text_bytes (slots_view (drop (i + 1) all)))) (ap (λ (p : Size). capped (total.text_bytes + p.text_bytes)) (sym e) ∙ sym b);
    }

pub no_slots_left : (all : List Slot) (i : ℕ) (total : Size) → length all ≤ i → total.instances < 2 ^ 64 → total.text_bytes < 2 ^ 64 → SlotsLeft all i total → total ≡ size (instance_count (slots_view all)) (text_bytes (slots_view all))
no_slots_left all i total h n b left =
    let none : slots_view (drop i all) ≡ slots_view [] = ap slots_view (drop_all i all h) in
    same_size total _ _
    (sym (left.instances ∙ ap (λ (m : Node). capped (total.instances + instance_count m)) none ∙ capped_end total.instances n))
    (sym (left.text_bytes ∙ ap (λ (m : Node). capped (total.text_bytes + text_bytes m)) none ∙ capped_end total.text_bytes b))

-- ---- instances

-- the instances from place i on are still to be counted
pub record InstancesLeft (all : List Instance) (i : ℕ) (total : Size) : Type 0 where
  pub instances : capped (instance_count_all (instances_view all)) ≡ capped (total.instances + instance_count_all (instances_view (drop i all)))
  pub text_bytes : capped (text_bytes_all (instances_view all)) ≡ capped (total.text_bytes + text_bytes_all (instances_view (drop i all)))

pub one_instance : (all : List Instance) (i : ℕ) (x : Instance) (total inside part next : Size) → i < length all → x ≡ get_or all i x → inside ≡ instance_size (instance_view x)
    → part.instances ≡ capped (inside.instances + 1) → part.text_bytes ≡ inside.text_bytes
    → next.instances ≡ capped (total.instances + part.instances) → next.text_bytes ≡ capped (total.text_bytes + part.text_bytes)
    → InstancesLeft all i total → InstancesLeft all (i + 1) next
one_instance all i x total inside part next h is e pn pb n b left =
    let here : instances_view (drop i all) ≡ instances_view (x ∷ drop (i + 1) all) = ap instances_view (next_in all i x h is) in
    let seen = instance_view x in
    let rest = instances_view (drop (i + 1) all) in
    let one : next.instances ≡ capped (total.instances + capped (capped (instance_count_one seen) + 1)) = n ∙ ap (λ (m : ℕ). capped (total.instances + m)) (pn ∙ ap (λ (p : Size). capped (p.instances + 1)) e) in
    let bytes : next.text_bytes ≡ capped (total.text_bytes + capped (text_bytes_one seen)) = b ∙ ap (λ (m : ℕ). capped (total.text_bytes + m)) (pb ∙ ap (λ (p : Size). p.text_bytes) e) in
    record {
      instances = left.instances ∙ ap (λ (m : Instances). capped (total.instances + instance_count_all m)) here ∙ capped_one_step total.instances (instance_count_one seen) (instance_count_all rest)
          ∙ ap (λ (m : ℕ). capped (m + instance_count_all rest)) (sym one);
      text_bytes = left.text_bytes ∙ ap (λ (m : Instances). capped (total.text_bytes + text_bytes_all m)) here ∙ capped_step total.text_bytes (text_bytes_one seen) (text_bytes_all rest)
          ∙ ap (λ (m : ℕ). capped (m + text_bytes_all rest)) (sym bytes);
    }

pub no_instances_left : (all : List Instance) (i : ℕ) (total : Size) → length all ≤ i → total.instances < 2 ^ 64 → total.text_bytes < 2 ^ 64 → InstancesLeft all i total → total ≡ size (instance_count_all (instances_view all)) (text_bytes_all (instances_view all))
no_instances_left all i total h n b left =
    let none : instances_view (drop i all) ≡ instances_view [] = ap instances_view (drop_all i all h) in
    same_size total _ _
    (sym (left.instances ∙ ap (λ (m : Instances). capped (total.instances + instance_count_all m)) none ∙ capped_end total.instances n))
    (sym (left.text_bytes ∙ ap (λ (m : Instances). capped (total.text_bytes + text_bytes_all m)) none ∙ capped_end total.text_bytes b))
