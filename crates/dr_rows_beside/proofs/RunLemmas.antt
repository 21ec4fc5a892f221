-- What the slots hold in each row: the leaf's own values, and what lies along them.
use Rattle.std.proofs.Common.{◌≡◌, ℕ, zero, suc, ◌<◌, List, [], ◌∷◌, map, length, Bool, true, false, ◌&&◌, Option, Some, refl, sym, ap, ap₂, ◌∙◌, subst, true≢false, arith}
use Rattle.std.specs.Prelude.{◌==◌, not, nat_le, nat_lt, if◌then◌else◌, slice_set}
use Rattle.std.specs.List.{list_all, slice_get}
use Rattle.std.proofs.Math.ListN.{length-set}
use Rattle.std.proofs.lemmas.Bool.{and_parts, leb-true, eq-eqb}
use Rattle.dr_meaning.specs.Record.{Value}
use Rattle.dr_meaning.specs.Column.{Triplet}
use Rattle.dr_beside.specs.Along.{value_next, rest_next, along}
use Rattle.dr_rows_beside.specs.Rows.{Follower, stepped, slot_at, put_next, put_each, Row, run, in_slot, is_apart, all_apart, RowsRunAlong}

-- ---- slots

set_there : (vs : List (Option Value)) (k : ℕ) (v : Option Value) → k < length vs → slot_at (slice_set vs k v) k ≡ v
set_there [] k v h = absurd (omega (arith, h))
set_there (w ∷ vs) zero v h = refl
set_there (w ∷ vs) (suc k) v h = set_there vs k v (omega (arith, h))

set_apart : (vs : List (Option Value)) (i k : ℕ) (v : Option Value) → (i ≡ k → ⊥) → slot_at (slice_set vs i v) k ≡ slot_at vs k
set_apart [] i k v n = refl
set_apart (w ∷ vs) zero zero v n = absurd (n refl)
set_apart (w ∷ vs) zero (suc k) v n = refl
set_apart (w ∷ vs) (suc i) zero v n = refl
set_apart (w ∷ vs) (suc i) (suc k) v n = set_apart vs i k v (λ (e : i ≡ k). n (ap suc e))

differ : (i k : ℕ) → (i == k) ≡ false → i ≡ k → ⊥
differ i k e h = true≢false (sym (eq-eqb i k h) ∙ e)

not_false : (b : Bool) → not b ≡ true → b ≡ false
not_false true h = absurd (true≢false (sym h))
not_false false h = refl

apart_parts : (k : ℕ) (f : Follower) (fs : List Follower) → is_apart k (f ∷ fs) ≡ true → (f.leaf ≡ k → ⊥) × (is_apart k fs ≡ true)
apart_parts k f fs h = let w : (not (f.leaf == k) ≡ true) × (is_apart k fs ≡ true) = and_parts _ _ h in (differ f.leaf k (not_false (f.leaf == k) w.0), w.1)

put_by_apart : (b : Bool) (vs : List (Option Value)) (i k : ℕ) (v : Option Value) → (i ≡ k → ⊥) → slot_at (if b then slice_set vs i v else vs) k ≡ slot_at vs k
put_by_apart true vs i k v n = set_apart vs i k v n
put_by_apart false vs i k v n = refl

put_apart : (r : ℕ) (fs : List Follower) (vs : List (Option Value)) (k : ℕ) → is_apart k fs ≡ true → slot_at (put_each r fs vs) k ≡ slot_at vs k
put_apart r [] vs k h = refl
put_apart r (f ∷ fs) vs k h =
    let w : (f.leaf ≡ k → ⊥) × (is_apart k fs ≡ true) = apart_parts k f fs h in
    put_apart r fs (put_next r f vs) k w.1 ∙ put_by_apart (nat_le r f.depth) vs f.leaf k (value_next (slot_at vs f.leaf) f.left) w.0

length_by : (b : Bool) (vs : List (Option Value)) (i : ℕ) (v : Option Value) → length (if b then slice_set vs i v else vs) ≡ length vs
length_by true vs i v = length-set vs i v
length_by false vs i v = refl

length_put : (r : ℕ) (fs : List Follower) (vs : List (Option Value)) → length (put_each r fs vs) ≡ length vs
length_put r [] vs = refl
length_put r (f ∷ fs) vs = length_put r fs (put_next r f vs) ∙ length_by (nat_le r f.depth) vs f.leaf (value_next (slot_at vs f.leaf) f.left)

-- what a slot holds after a leaf was read on, or wasn't
abbrev read_on : Bool → Option Value → List Triplet → Option Value
read_on b now left = if b then value_next now left else now

put_by_there : (b : Bool) (vs : List (Option Value)) (i : ℕ) (left : List Triplet) → i < length vs → slot_at (if b then slice_set vs i (value_next (slot_at vs i) left) else vs) i ≡ read_on b (slot_at vs i) left
put_by_there true vs i left h = set_there vs i (value_next (slot_at vs i) left) h
put_by_there false vs i left h = refl

apart_at : (k : ℕ) (fs : List Follower) (i : ℕ) (f : Follower) → is_apart k fs ≡ true → slice_get fs i ≡ Some f → k ≡ f.leaf → ⊥
apart_at k [] i f h e = absurd (cc)
apart_at k (g ∷ fs) zero f h e = let q : g ≡ f = cc in λ (z : k ≡ f.leaf). (apart_parts k g fs h).0 (ap (λ (x : Follower). x.leaf) q ∙ sym z)
apart_at k (g ∷ fs) (suc i) f h e = apart_at k fs i f (apart_parts k g fs h).1 e

put_there : (r : ℕ) (fs : List Follower) (vs : List (Option Value)) (i : ℕ) (f : Follower) → all_apart fs ≡ true → slice_get fs i ≡ Some f → f.leaf < length vs
    → slot_at (put_each r fs vs) f.leaf ≡ read_on (nat_le r f.depth) (slot_at vs f.leaf) f.left
put_there r [] vs i f h e l = absurd (cc)
put_there r (g ∷ fs) vs zero f h e l =
    let q : g ≡ f = cc in
    let w : (is_apart g.leaf fs ≡ true) × (all_apart fs ≡ true) = and_parts _ _ h in
    subst (λ (x : Follower). slot_at (put_each r fs (put_next r g vs)) x.leaf ≡ read_on (nat_le r x.depth) (slot_at vs x.leaf) x.left) q
    (put_apart r fs (put_next r g vs) g.leaf w.0 ∙ put_by_there (nat_le r g.depth) vs g.leaf g.left (subst (λ (x : Follower). x.leaf < length vs) (sym q) l))
put_there r (g ∷ fs) vs (suc i) f h e l =
    let w : (is_apart g.leaf fs ≡ true) × (all_apart fs ≡ true) = and_parts _ _ h in
    let n : g.leaf ≡ f.leaf → ⊥ = apart_at g.leaf fs i f w.0 e in
    let same : slot_at (put_next r g vs) f.leaf ≡ slot_at vs f.leaf = put_by_apart (nat_le r g.depth) vs g.leaf f.leaf (value_next (slot_at vs g.leaf) g.left) n in
    let long : length (put_next r g vs) ≡ length vs = length_by (nat_le r g.depth) vs g.leaf (value_next (slot_at vs g.leaf) g.left) in
    put_there r fs (put_next r g vs) i f w.1 e (omega (arith, l, long)) ∙ ap (λ (x : Option Value). read_on (nat_le r f.depth) x f.left) same

-- ---- leaves that are read on keep their numbers

leaf_by : (b : Bool) (f g : Follower) → g.leaf ≡ f.leaf → (if b then g else f).leaf ≡ f.leaf
leaf_by true f g e = e
leaf_by false f g e = refl

same_leaf : (r : ℕ) (f : Follower) → (stepped r f).leaf ≡ f.leaf
same_leaf r f = leaf_by (nat_le r f.depth) f (record { leaf = f.leaf; depth = f.depth; left = rest_next f.left }) refl

apart_steps : (r k : ℕ) (fs : List Follower) → is_apart k (map (stepped r) fs) ≡ is_apart k fs
apart_steps r k [] = refl
apart_steps r k (f ∷ fs) = ap₂ (λ (i : ℕ) (b : Bool). not (i == k) && b) (same_leaf r f) (apart_steps r k fs)

all_apart_steps : (r : ℕ) (fs : List Follower) → all_apart (map (stepped r) fs) ≡ all_apart fs
all_apart_steps r [] = refl
all_apart_steps r (f ∷ fs) = ap₂ (λ (i : Bool) (b : Bool). i && b) (ap (λ (k : ℕ). is_apart k (map (stepped r) fs)) (same_leaf r f) ∙ apart_steps r f.leaf fs) (all_apart_steps r fs)

within_steps : (r n : ℕ) (fs : List Follower) → list_all (λ (f : Follower). nat_lt f.leaf n) (map (stepped r) fs) ≡ list_all (λ (f : Follower). nat_lt f.leaf n) fs
within_steps r n [] = refl
within_steps r n (f ∷ fs) = ap₂ (λ (i : ℕ) (b : Bool). nat_lt i n && b) (same_leaf r f) (within_steps r n fs)

stepped_at : (r : ℕ) (fs : List Follower) (i : ℕ) (f : Follower) → slice_get fs i ≡ Some f → slice_get (map (stepped r) fs) i ≡ Some (stepped r f)
stepped_at r [] i f e = absurd (cc)
stepped_at r (g ∷ fs) zero f e = let q : g ≡ f = cc in ap (λ (x : Follower). Some (stepped r x)) q
stepped_at r (g ∷ fs) (suc i) f e = stepped_at r fs i f e

within_at : (n : ℕ) (fs : List Follower) (i : ℕ) (f : Follower) → list_all (λ (f : Follower). nat_lt f.leaf n) fs ≡ true → slice_get fs i ≡ Some f → f.leaf < n
within_at n [] i f h e = absurd (cc)
within_at n (g ∷ fs) zero f h e =
    let q : g ≡ f = cc in
    let k : nat_lt g.leaf n ≡ true = (and_parts (nat_lt g.leaf n) (list_all (λ (f : Follower). nat_lt f.leaf n) fs) h).0 in
    subst (λ (x : Follower). x.leaf < n) q (omega (arith, leb-true (suc g.leaf) n k))
within_at n (g ∷ fs) (suc i) f h e = within_at n fs i f (and_parts (nat_lt g.leaf n) (list_all (λ (f : Follower). nat_lt f.leaf n) fs) h).1 e

-- ---- row after row

-- the slots of the next row
abbrev next_slots : ℕ → List Follower → List (Option Value) → Triplet → List (Option Value)
next_slots leaf fs vs t = put_each t.repetition fs (slice_set vs leaf t.value)

next_long : (leaf : ℕ) (fs : List Follower) (vs : List (Option Value)) (t : Triplet) → length (next_slots leaf fs vs t) ≡ length vs
next_long leaf fs vs t = length_put t.repetition fs (slice_set vs leaf t.value) ∙ length-set vs leaf t.value

pub own_slots : (leaf : ℕ) (fs : List Follower) (vs : List (Option Value)) (ts : List Triplet) → leaf < length vs → is_apart leaf fs ≡ true → in_slot leaf (run leaf fs vs ts) ≡ map (λ (t : Triplet). t.value) ts
own_slots leaf fs vs [] l a = refl
own_slots leaf fs vs (t ∷ ts) l a =
    ap₂ (λ (x : Option Value) (xs : List (Option Value)). x ∷ xs)
    (put_apart t.repetition fs (slice_set vs leaf t.value) leaf a ∙ set_there vs leaf t.value l)
    (own_slots leaf (map (stepped t.repetition) fs) (next_slots leaf fs vs t) ts (omega (arith, l, next_long leaf fs vs t)) (apart_steps t.repetition leaf fs ∙ a))

other_slots : (leaf : ℕ) (fs : List Follower) (vs : List (Option Value)) (ts : List Triplet) (k : ℕ) → (leaf == k) ≡ false → is_apart k fs ≡ true → in_slot k (run leaf fs vs ts) ≡ map (λ (t : Triplet). slot_at vs k) ts
other_slots leaf fs vs [] k n a = refl
other_slots leaf fs vs (t ∷ ts) k n a =
    let same : slot_at (next_slots leaf fs vs t) k ≡ slot_at vs k = put_apart t.repetition fs (slice_set vs leaf t.value) k a ∙ set_apart vs leaf k t.value (differ leaf k n) in
    ap₂ (λ (x : Option Value) (xs : List (Option Value)). x ∷ xs) same
    (other_slots leaf (map (stepped t.repetition) fs) (next_slots leaf fs vs t) ts k n (apart_steps t.repetition k fs ∙ a) ∙ ap (λ (x : Option Value). map (λ (u : Triplet). x) ts) same)

-- one leaf beside it, by whether it goes on
along_by : (b : Bool) (f : Follower) (now next : Option Value) (ts : List Triplet) (xs : List (Option Value)) → next ≡ read_on b now f.left
    → xs ≡ along (if b then record { leaf = f.leaf; depth = f.depth; left = rest_next f.left } else f).depth next (if b then record { leaf = f.leaf; depth = f.depth; left = rest_next f.left } else f).left ts
    → next ∷ xs ≡ (if b then value_next now f.left ∷ along f.depth (value_next now f.left) (rest_next f.left) ts else now ∷ along f.depth now f.left ts)
along_by true f now next ts xs e h = ap₂ (λ (x : Option Value) (ys : List (Option Value)). x ∷ ys) e (h ∙ ap (λ (x : Option Value). along f.depth x (rest_next f.left) ts) e)
along_by false f now next ts xs e h = ap₂ (λ (x : Option Value) (ys : List (Option Value)). x ∷ ys) e (h ∙ ap (λ (x : Option Value). along f.depth x f.left ts) e)

beside_slots : (leaf : ℕ) (fs : List Follower) (vs : List (Option Value)) (ts : List Triplet) → leaf < length vs → list_all (λ (f : Follower). nat_lt f.leaf (length vs)) fs ≡ true → is_apart leaf fs ≡ true → all_apart fs ≡ true
    → (i : ℕ) (f : Follower) → slice_get fs i ≡ Some f → in_slot f.leaf (run leaf fs vs ts) ≡ along f.depth (slot_at vs f.leaf) f.left ts
beside_slots leaf fs vs [] l w a d i f e = refl
beside_slots leaf fs vs (t ∷ ts) l w a d i f e =
    let r = t.repetition in
    let within : f.leaf < length vs = within_at (length vs) fs i f w e in
    let apart : leaf ≡ f.leaf → ⊥ = apart_at leaf fs i f a e in
    let long : length (next_slots leaf fs vs t) ≡ length vs = next_long leaf fs vs t in
    let own : slot_at (next_slots leaf fs vs t) f.leaf ≡ read_on (nat_le r f.depth) (slot_at vs f.leaf) f.left =
    put_there r fs (slice_set vs leaf t.value) i f d e (omega (arith, within, length-set vs leaf t.value))
    ∙ ap (λ (x : Option Value). read_on (nat_le r f.depth) x f.left) (set_apart vs leaf f.leaf t.value apart) in
    let g : Follower = stepped r f in
    let s : g.leaf ≡ f.leaf = same_leaf r f in
    let rest : in_slot g.leaf (run leaf (map (stepped r) fs) (next_slots leaf fs vs t) ts) ≡ along g.depth (slot_at (next_slots leaf fs vs t) g.leaf) g.left ts =
    beside_slots leaf (map (stepped r) fs) (next_slots leaf fs vs t) ts (omega (arith, l, long))
    (ap (λ (n : ℕ). list_all (λ (f : Follower). nat_lt f.leaf n) (map (stepped r) fs)) long ∙ within_steps r (length vs) fs ∙ w)
    (apart_steps r leaf fs ∙ a) (all_apart_steps r fs ∙ d) i g (stepped_at r fs i f e) in
    let at : in_slot f.leaf (run leaf (map (stepped r) fs) (next_slots leaf fs vs t) ts) ≡ along g.depth (slot_at (next_slots leaf fs vs t) f.leaf) g.left ts =
    subst (λ (k : ℕ). in_slot k (run leaf (map (stepped r) fs) (next_slots leaf fs vs t) ts) ≡ along g.depth (slot_at (next_slots leaf fs vs t) k) g.left ts) s rest in
    along_by (nat_le r f.depth) f (slot_at vs f.leaf) (slot_at (next_slots leaf fs vs t) f.leaf) ts (in_slot f.leaf (run leaf (map (stepped r) fs) (next_slots leaf fs vs t) ts)) own at

pub levels_of_rows : (leaf : ℕ) (fs : List Follower) (vs : List (Option Value)) (ts : List Triplet) → map (λ (r : Row). r.repetition) (run leaf fs vs ts) ≡ map (λ (t : Triplet). t.repetition) ts
levels_of_rows leaf fs vs [] = refl
levels_of_rows leaf fs vs (t ∷ ts) = ap (λ (xs : List ℕ). t.repetition ∷ xs) (levels_of_rows leaf (map (stepped t.repetition) fs) (next_slots leaf fs vs t) ts)

pub rows_run_along : RowsRunAlong
rows_run_along leaf fs vs ts l w a d = (own_slots leaf fs vs ts l a, beside_slots leaf fs vs ts l w a d, other_slots leaf fs vs ts, levels_of_rows leaf fs vs ts)

pub as_many_rows : (leaf : ℕ) (fs : List Follower) (vs : List (Option Value)) (ts : List Triplet) → length (run leaf fs vs ts) ≡ length ts
as_many_rows leaf fs vs [] = refl
as_many_rows leaf fs vs (t ∷ ts) = ap suc (as_many_rows leaf (map (stepped t.repetition) fs) (next_slots leaf fs vs t) ts)
