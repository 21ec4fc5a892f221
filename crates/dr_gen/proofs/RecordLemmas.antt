-- Made records as their instances are put one behind another.
use Rattle.std.specs.Prelude.{◌≡◌, ◌<◌, ◌≤◌, ℕ, suc, ◌+◌, ◌-◌, List, [], ◌∷◌, ◌++◌, Vec, Option}
use Rattle.std.specs.declared.alloc.Global.{Global}
use Rattle.std.proofs.Common.{refl, sym, ap, ap₂, ◌∙◌, arith}
use Rattle.dr_meaning.specs.Record as tree
use Rattle.dr_nested.specs.declared.record.Instance as instances
use Rattle.dr_nested.specs.declared.record.Slot as slots
use Rattle.dr_nested.specs.declared.record.Node as nodes
use Rattle.dr_nested.specs.Views.{instance_view, instances_view, slot_view, slots_view, slots_of, node_view}
use Rattle.dr_nested.proofs.ViewLemmas.{view-inner, view-held, view-node}
use Rattle.dr_gen.specs.Generator.{several_from, several}

-- ---- slots that hold their instances

two_slots : (first second : Vec instances.Instance Global)
    → slots_view (slots.Held first ∷ slots.Held second ∷ []) ≡ tree.slot (instances_view first.items) (tree.slot (instances_view second.items) tree.no_slots)
two_slots first second =
    ap₂ (λ (a b : Option tree.Instances). slots_of (a ∷ b ∷ [])) (view-held first) (view-held second)

pub group_of_two : (n : nodes.Node) (first second : Vec instances.Instance Global) → n.slots.items ≡ slots.Held first ∷ slots.Held second ∷ []
    → instance_view (instances.Group n) ≡ tree.inner (tree.slot (instances_view first.items) (tree.slot (instances_view second.items) tree.no_slots))
group_of_two n first second e = view-inner n ∙ ap tree.inner (view-node n ∙ ap slots_view e ∙ two_slots first second)

three_slots : (first second third : Vec instances.Instance Global)
    → slots_view (slots.Held first ∷ slots.Held second ∷ slots.Held third ∷ [])
    ≡ tree.slot (instances_view first.items) (tree.slot (instances_view second.items) (tree.slot (instances_view third.items) tree.no_slots))
three_slots first second third =
    ap (λ (a : Option tree.Instances). slots_of (a ∷ slot_view (slots.Held second) ∷ slot_view (slots.Held third) ∷ [])) (view-held first)
    ∙ ap (tree.slot (instances_view first.items)) (two_slots second third)

pub record_of_three : (n : nodes.Node) (first second third : Vec instances.Instance Global) → n.slots.items ≡ slots.Held first ∷ slots.Held second ∷ slots.Held third ∷ []
    → node_view n ≡ tree.slot (instances_view first.items) (tree.slot (instances_view second.items) (tree.slot (instances_view third.items) tree.no_slots))
record_of_three n first second third e = view-node n ∙ ap slots_view e ∙ three_slots first second third

-- ---- instances with numbers

abbrev pub append_instances : tree.Instances → tree.Instances → tree.Instances
append_instances tree.no_instances ys = ys
append_instances (tree.instance x xs) ys = tree.instance x (append_instances xs ys)

append-nothing : (xs : tree.Instances) → append_instances xs tree.no_instances ≡ xs
append-nothing tree.no_instances = refl
append-nothing (tree.instance x xs) = ap (tree.instance x) (append-nothing xs)

pushed : (xs : List instances.Instance) (x : instances.Instance) (rest : tree.Instances)
    → append_instances (instances_view (xs ++ x ∷ [])) rest ≡ append_instances (instances_view xs) (tree.instance (instance_view x) rest)
pushed [] x rest = refl
pushed (y ∷ xs) x rest = ap (tree.instance (instance_view y)) (pushed xs x rest)

-- with those from number k on it is all of them
abbrev pub Made : (ℕ → tree.Instance) → ℕ → ℕ → List instances.Instance → Type 0
Made f n k xs = append_instances (instances_view xs) (several_from k (n - k) f) ≡ several n f

all_left : (n : ℕ) → n - 0 ≡ n
all_left n = omega arith

pub made_begin : (f : ℕ → tree.Instance) (n : ℕ) → Made f n 0 []
made_begin f n = ap (λ m. several_from 0 m f) (all_left n)

one_left : (n k : ℕ) → k < n → n - k ≡ suc (n - (k + 1))
one_left n k h = omega (arith, h)

one_more : (k : ℕ) → k + 1 ≡ suc k
one_more k = omega arith

pub made_more : (f : ℕ → tree.Instance) (n k : ℕ) (xs ys : List instances.Instance) (x : instances.Instance) → k < n → ys ≡ xs ++ x ∷ [] → instance_view x ≡ f k
    → Made f n k xs → Made f n (k + 1) ys
made_more f n k xs ys x h e g so_far =
    let rest : tree.Instances = several_from (suc k) (n - (k + 1)) f in
    ap₂ (λ (zs : List instances.Instance) i. append_instances (instances_view zs) (several_from i (n - (k + 1)) f)) e (one_more k)
    ∙ pushed xs x rest
    ∙ ap (λ (y : tree.Instance). append_instances (instances_view xs) (tree.instance y rest)) g
    ∙ sym (ap (λ m. append_instances (instances_view xs) (several_from k m f)) (one_left n k h))
    ∙ so_far

none_left : (n k : ℕ) → n ≤ k → n - k ≡ 0
none_left n k h = omega (arith, h)

pub made_end : (f : ℕ → tree.Instance) (n k : ℕ) (xs : List instances.Instance) → n ≤ k → Made f n k xs → instances_view xs ≡ several n f
made_end f n k xs h so_far =
    sym (ap (λ m. append_instances (instances_view xs) (several_from k m f)) (none_left n k h) ∙ append-nothing (instances_view xs)) ∙ so_far
