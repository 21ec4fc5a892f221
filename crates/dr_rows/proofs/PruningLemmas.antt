-- Pruning instances one after another.
use Rattle.std.specs.Prelude.{◌≡◌, ◌≢◌, ◌≤◌, ◌<◌, ℕ, zero, suc, ◌+◌, ◌==◌, not, List, [], ◌∷◌, ◌++◌, length, map, take, drop, get_or, Bool, true, false, if◌then◌else◌, Option, Some, None, option_map}
use Rattle.std.proofs.Common.{refl, sym, ap, ap₂, ◌∙◌, arith}
use Rattle.std.proofs.Math.ListN.{set}
use Rattle.std.proofs.lemmas.List.{drop_more, drop_all, map-append, take-set-le, drop-set, drop-set-lt, map-set, length-map}
use Rattle.std.proofs.Math.Dec.{eqb-suc-zero}
use Rattle.std.proofs.lemmas.Bool.Decides.{nat_tests}
use Rattle.dr_meaning.specs.Record.{Node, slot, gap, Instances, no_instances, instance, Instance, instances_at, put_at}
use Rattle.dr_meaning.specs.Kept.{with_kept}
use Rattle.dr_nested.specs.Views.{instances_of, instance_view, instances_view, slots_of, slot_view, slots_view, node_view}
use Rattle.dr_nested.specs.declared.record.Instance as instances
use Rattle.dr_nested.specs.declared.record.Slot as slots
use Rattle.dr_nested.specs.declared.record.Node as nodes
use Rattle.dr_nested.proofs.ViewLemmas.{view-node}
use Rattle.dr_nested.proofs.LookingLemmas.{in_slot, at_held}
use Rattle.dr_rows.proofs.PuttingLemmas.{put_same}
use Rattle.dr_rows.specs.Pruning.{Pruned, kept_if, pruned_each, pruned_field, before_pruned, some_instances, slot_instances, slot_with}
use Rattle.dr_meaning.specs.Lists.{first_answer}

-- instances before others
abbrev pub onto : List Instance → Instances → Instances
onto [] ys = ys
onto (x ∷ xs) ys = instance x (onto xs ys)

onto_append : (xs ys : List Instance) (zs : Instances) → onto (xs ++ ys) zs ≡ onto xs (onto ys zs)
onto_append [] ys zs = refl
onto_append (x ∷ xs) ys zs = ap (instance x) (onto_append xs ys zs)

pub onto_none : (xs : List Instance) → onto xs no_instances ≡ instances_of xs
onto_none [] = refl
onto_none (x ∷ xs) = ap (instance x) (onto_none xs)

if_passes : (b : Bool) (x : instances.Instance) (ys : Instances) → onto (map instance_view (if b then x ∷ [] else [])) ys ≡ with_kept (kept_if b (instance_view x)) ys
if_passes true x ys = refl
if_passes false x ys = refl

-- one instance more is kept, or not
pub onto_more : (xs : List instances.Instance) (b : Bool) (x : instances.Instance) (ys : Instances)
    → onto (map instance_view (xs ++ (if b then x ∷ [] else []))) ys ≡ onto (map instance_view xs) (with_kept (kept_if b (instance_view x)) ys)
onto_more xs b x ys =
    ap (λ (zs : List Instance). onto zs ys) (map-append instance_view xs (if b then x ∷ [] else []))
    ∙ onto_append (map instance_view xs) (map instance_view (if b then x ∷ [] else [])) ys ∙ ap (onto (map instance_view xs)) (if_passes b x ys)

pub next_instance : (xs : List instances.Instance) (k : ℕ) (x : instances.Instance) → k < length xs → x ≡ get_or xs k x → instances_view (drop k xs) ≡ instance (instance_view x) (instances_view (drop (k + 1) xs))
next_instance xs k x h g = ap instances_view (drop_more xs k x h ∙ ap (λ (y : instances.Instance). y ∷ drop (k + 1) xs) (sym g))

-- where the instance at a place is another one
pub set_there : (xs : List instances.Instance) (k : ℕ) (x : instances.Instance) → k < length xs → take 1 (drop k (set xs k x)) ≡ x ∷ []
set_there xs k x h = ap (take 1) (drop-set xs k x h)

-- ---- one instance more

each_from : (f : Instance → List Bool → Pruned (Option Instance)) (xs : List instances.Instance) (k : ℕ) (x : instances.Instance) (bs : List Bool) → k < length xs → x ≡ get_or xs k x
    → pruned_each f (instances_view (drop k xs)) bs ≡ before_pruned (f (instance_view x) bs) (pruned_each f (instances_view (drop (k + 1) xs)) (f (instance_view x) bs).left)
each_from f xs k x bs h g = ap (λ (ys : Instances). pruned_each f ys bs) (next_instance xs k x h g)

behind_set : (xs ys : List instances.Instance) (k : ℕ) (y : instances.Instance) → drop (k + 1) ys ≡ drop (k + 1) (set xs k y) → drop (k + 1) ys ≡ drop (k + 1) xs
behind_set xs ys k y e = e ∙ drop-set-lt (k + 1) xs k y (omega arith)

pub left_more : (f : Instance → List Bool → Pruned (Option Instance)) (xs ys : List instances.Instance) (k : ℕ) (x y : instances.Instance) (bs cs : List Bool) → k < length xs → x ≡ get_or xs k x
    → drop (k + 1) ys ≡ drop (k + 1) (set xs k y) → cs ≡ (f (instance_view x) bs).left
    → (pruned_each f (instances_view (drop (k + 1) ys)) cs).left ≡ (pruned_each f (instances_view (drop k xs)) bs).left
left_more f xs ys k x y bs cs h g e l =
    ap₂ (λ (zs : List instances.Instance) (ds : List Bool). (pruned_each f (instances_view zs) ds).left) (behind_set xs ys k y e) l
    ∙ ap (λ (p : Pruned Instances). p.left) (sym (each_from f xs k x bs h g))

pub kept_more : (f : Instance → List Bool → Pruned (Option Instance)) (xs ys : List instances.Instance) (n m k : ℕ) (b : Bool) (x y : instances.Instance) (bs cs : List Bool) → k < length xs → x ≡ get_or xs k x → n ≤ k
    → take m ys ≡ take n (set xs k y) ++ (if b then take 1 (drop k (set xs k y)) else []) → drop (k + 1) ys ≡ drop (k + 1) (set xs k y)
    → kept_if b (instance_view y) ≡ (f (instance_view x) bs).kept → cs ≡ (f (instance_view x) bs).left
    → onto (map instance_view (take m ys)) (pruned_each f (instances_view (drop (k + 1) ys)) cs).kept ≡ onto (map instance_view (take n xs)) (pruned_each f (instances_view (drop k xs)) bs).kept
kept_more f xs ys n m k b x y bs cs h g before front rest kept l =
    let rs = (pruned_each f (instances_view (drop (k + 1) ys)) cs).kept in
    let there : take m ys ≡ take n xs ++ (if b then y ∷ [] else []) =
    front ∙ ap₂ (λ (us : List instances.Instance) (ws : List instances.Instance). us ++ (if b then ws else [])) (take-set-le n xs k y before) (set_there xs k y h) in
    ap (λ (zs : List instances.Instance). onto (map instance_view zs) rs) there
    ∙ onto_more (take n xs) b y rs
    ∙ ap₂ (λ (o : Option Instance) (zs : Instances). onto (map instance_view (take n xs)) (with_kept o zs)) kept
    (ap₂ (λ (zs : List instances.Instance) (ds : List Bool). (pruned_each f (instances_view zs) ds).kept) (behind_set xs ys k y rest) l)
    ∙ ap (λ (p : Pruned Instances). onto (map instance_view (take n xs)) p.kept) (sym (each_from f xs k x bs h g))

-- the last was pruned
pub kept_all : (f : Instance → List Bool → Pruned (Option Instance)) (xs : List instances.Instance) (n k : ℕ) (bs : List Bool) → length xs ≤ k
    → instances_view (take n xs) ≡ onto (map instance_view (take n xs)) (pruned_each f (instances_view (drop k xs)) bs).kept
kept_all f xs n k bs h =
    sym (onto_none (map instance_view (take n xs))) ∙ ap (λ (zs : List instances.Instance). onto (map instance_view (take n xs)) (pruned_each f (instances_view zs) bs).kept) (sym (drop_all k xs h))

-- ---- a field with instances

pub not_empty : (n m : ℕ) (b : Bool) → m ≡ n → b ≡ (m == 0) → b ≡ false → n ≢ 0
not_empty n m b e f g = λ h. grind (arith, nat_tests)

pub held_field : (f : Instance → List Bool → Pruned (Option Instance)) (xs : List instances.Instance) (bs : List Bool) → length xs ≢ 0
    → pruned_field f (instances_view xs) bs ≡ record { kept = some_instances (pruned_each f (instances_view xs) bs).kept; left = (pruned_each f (instances_view xs) bs).left }
held_field f [] bs h = absurd (h refl)
held_field f (x ∷ xs) bs h = refl

pub some_if : (xs : List instances.Instance) → kept_if (not (length xs == 0)) (instances_view xs) ≡ some_instances (instances_view xs)
some_if [] = refl
some_if (x ∷ xs) = rw eqb-suc-zero refl

-- ---- a slot of a node

in_slot-is : (o : Option Instances) → in_slot o ≡ slot_instances o
in_slot-is None = refl
in_slot-is (Some xs) = refl

pub at_slot : (n : nodes.Node) (i : ℕ) (x : slots.Slot) → i < length n.slots.items → x ≡ get_or n.slots.items i x → instances_at i (node_view n) ≡ slot_instances (slot_view x)
at_slot n i x h g = at_held n n.slots.items i x (slot_view x) refl h g refl ∙ in_slot-is (slot_view x)

seen_put : (os : List (Option Instances)) (i : ℕ) (o p : Option Instances) (xs : Instances) → i < length os → o ≡ get_or os i o → p ≡ slot_with o xs → slots_of (set os i p) ≡ put_at i xs (slots_of os)
seen_put [] i o p xs h g e = absurd (omega arith)
seen_put (None ∷ os) zero o p xs h g e = let f : p ≡ None = e ∙ ap (λ (q : Option Instances). slot_with q xs) g in rw f refl
seen_put (Some ys ∷ os) zero o p xs h g e = let f : p ≡ Some xs = e ∙ ap (λ (q : Option Instances). slot_with q xs) g in rw f refl
seen_put (None ∷ os) (suc i) o p xs h g e = ap gap (seen_put os i o p xs (omega arith) g e)
seen_put (Some ys ∷ os) (suc i) o p xs h g e = ap (slot ys) (seen_put os i o p xs (omega arith) g e)

seen_there : (ss : List slots.Slot) (i : ℕ) (x : slots.Slot) → i < length ss → x ≡ get_or ss i x → slot_view x ≡ get_or (map slot_view ss) i (slot_view x)
seen_there [] i x h g = absurd (omega arith)
seen_there (s ∷ ss) zero x h g = ap slot_view g
seen_there (s ∷ ss) (suc i) x h g = seen_there ss i x (omega arith) g

pub put_slot : (n m : nodes.Node) (i : ℕ) (x y : slots.Slot) (xs : Instances) → m.slots.items ≡ set n.slots.items i y → i < length n.slots.items → x ≡ get_or n.slots.items i x → slot_view y ≡ slot_with (slot_view x) xs
    → node_view m ≡ put_at i xs (node_view n)
put_slot n m i x y xs e h g v =
    let l : length (map slot_view n.slots.items) ≡ length n.slots.items = length-map n.slots.items slot_view in
    view-node m ∙ ap slots_view e ∙ ap slots_of (map-set slot_view n.slots.items i y)
    ∙ seen_put (map slot_view n.slots.items) i (slot_view x) (slot_view y) xs (omega arith) (seen_there n.slots.items i x h g) v
    ∙ ap (put_at i xs) (sym (view-node n))

pub same_slots : (n m : nodes.Node) → m.slots.items ≡ n.slots.items → node_view m ≡ node_view n
same_slots n m e = view-node m ∙ ap slots_view e ∙ sym (view-node n)

-- ---- a node by its field

pub field_kept : (r : Bool) (o w z : Option Instances) (m : Node) (put : Instances → Node) → ((xs : Instances) → w ≡ slot_with z xs → m ≡ put xs) → kept_if r w ≡ option_map (slot_with z) o → kept_if r m ≡ option_map put o
field_kept true None w z m put h e = absurd (some_none e)
  where
    some_none : Some w ≡ None → ⊥
    some_none q = cc
field_kept true (Some xs) w z m put h e = let k : w ≡ slot_with z xs = cc in ap (λ (n : Node). Some n) (h xs k)
field_kept false None w z m put h e = refl
field_kept false (Some xs) w z m put h e = cc

answer_put : (b : Bool) (n m : Node) (put : Instances → Node) → m ≡ put no_instances → kept_if b m ≡ option_map put (kept_if b no_instances)
answer_put true n m put e = ap (λ (k : Node). Some k) e
answer_put false n m put e = refl

-- a node without such a field
pub absent_kept : (f : Instance → List Bool → Pruned (Option Instance)) (i : ℕ) (n m : Node) (r : Bool) (bs : List Bool) → instances_at i n ≡ no_instances → m ≡ n → r ≡ first_answer bs
    → kept_if r m ≡ option_map (λ (xs : Instances). put_at i xs n) (pruned_field f (instances_at i n) bs).kept
absent_kept f i n m r bs e s a =
    let same : m ≡ put_at i no_instances n = s ∙ sym (put_same i n) ∙ ap (λ (xs : Instances). put_at i xs n) e in
    ap (λ (b : Bool). kept_if b m) a ∙ answer_put (first_answer bs) n m (λ (xs : Instances). put_at i xs n) same
    ∙ ap (λ (xs : Instances). option_map (λ (ys : Instances). put_at i ys n) (pruned_field f xs bs).kept) (sym e)
