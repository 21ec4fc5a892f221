-- What a pass of a record through a tree keeps.
use Rattle.std.proofs.Common.{◌≡◌, ◌<◌, ◌≤◌, ◌+◌, ◌-◌, ℕ, zero, suc, List, [], ◌∷◌, ◌++◌, map, take, drop, set, get_or, length, Bool, true, false, ◌&&◌, None, refl, sym, ap, ap₂, ◌∙◌, subst, true≢false, arith}
use Rattle.std.specs.Prelude.{◌==◌, nat_le, if◌then◌else◌}
use Rattle.std.specs.List.{list_all}
use Rattle.std.proofs.lemmas.Bool.{and_parts, leb-true, le-leb}
use Rattle.std.proofs.lemmas.List.{map-append, take_more_set, drop-set-lt, take_all, drop_all, length-map, length-take-le, length-append}
use Rattle.std.proofs.lemmas.Grind.{drop_more_same}
use Rattle.dr_meaning.specs.Schema.{Repetition, repetition_count, definition_count}
use Rattle.dr_meaning.specs.Record.{Node, no_slots, slot, gap, Instances, no_instances, instance, Instance, atom, inner, instances_at, instances_in}
use Rattle.dr_meaning.specs.Column.{Triplet, triplet, value_of, each_later, instance_column}
use Rattle.dr_striper.specs.Added.{grown}
use Rattle.dr_striper.specs.Added as added
use Rattle.dr_striper.specs.Added.{Twig, Twigs, no_twigs, twig, twig_at, column_in, Leads, Within, field_added, node_added, inside_added, later_added}
use Rattle.dr_levels.specs.declared.triplet.Levels.{Levels}
use Rattle.dr_levels.specs.Dense.{present}
use Rattle.dr_levels.specs.Views.{LeafForm}
use Rattle.dr_levels.specs.Columns.{takes, has_value}
use Rattle.std.specs.Prelude.{Vec}
use Rattle.std.specs.declared.alloc.Global.{Global}
use Rattle.std.proofs.Common.{rules}
use Rattle.dr_nested.specs.declared.shape.Rep.{Rep}
use Rattle.dr_nested.specs.Views.{rep_view}
use Rattle.dr_levels.specs.Views.{column_view, column_form}
use Rattle.dr_striper.specs.declared.branch.Branch.{Branch}
use Rattle.dr_striper.specs.declared.branch.Branch as branches
use Rattle.dr_striper.specs.declared.branch.LeafGrown.{LeafGrown}
use Rattle.dr_striper.specs.declared.branch.GroupGrown.{GroupGrown}
use Rattle.dr_striper.specs.Shapes as shapes
use Rattle.dr_striper.specs.Shapes.{Shape, Shapes, no_shapes, shape, shape_at, ShapeLeads, LeadsTo, Lives, AllLive, size_one, size_each, max_repetition, AllTaken, TwigReady, FieldReady, Ready, LaterReady, added_from}
use Rattle.dr_striper.specs.Views.{null_of, nulls, before, twig_view, twigs_of, twigs_view, shape_view, shapes_view}
use Rattle.dr_striper.proofs.NullLemmas.{nulls-between}
use Rattle.dr_striper.proofs.AddedLemmas.{inside-adds, within-up, grown-length}

-- ---- what leaves take

pub taken_parts : (f : LeafForm) (ts us : List Triplet) → AllTaken f (ts ++ us) → AllTaken f ts × AllTaken f us
taken_parts f [] us h = (refl, h)
taken_parts f (t ∷ ts) us h =
    let a : (takes f t ≡ true) × (list_all (takes f) (ts ++ us) ≡ true) = and_parts _ _ h in
    let b : AllTaken f ts × AllTaken f us = taken_parts f ts us a.1 in
    (ap₂ (λ (x y : Bool). x && y) a.0 b.0, b.1)

pub taken_joined : (f : LeafForm) (ts us : List Triplet) → AllTaken f ts → AllTaken f us → AllTaken f (ts ++ us)
taken_joined f [] us h k = k
taken_joined f (t ∷ ts) us h k =
    let a : (takes f t ≡ true) × (list_all (takes f) ts ≡ true) = and_parts _ _ h in
    ap₂ (λ (x y : Bool). x && y) a.0 (taken_joined f ts us a.1 k)

-- a level that a leaf takes without a value isn't its greatest
one-absent : (f : LeafForm) (b : Bool) (n : ℕ) → has_value f.kind b None ≡ true → n ≡ 0 → (if b then suc n else n) ≡ 0
one-absent f true n h e = absurd (true≢false (sym h))
one-absent f false n h e = e

pub none_present : (f : LeafForm) (ls : List Levels) → AllTaken f (nulls ls) → present f.greatest ls ≡ 0
none_present f [] h = refl
none_present f (l ∷ ls) h =
    let a : (takes f (null_of l) ≡ true) × (list_all (takes f) (nulls ls) ≡ true) = and_parts _ _ h in
    one-absent f (l.definition == f.greatest) (present f.greatest ls) a.0 (none_present f ls a.1)

-- what a leaf hasn't seen has no value
pub unseen_absent : (f : LeafForm) (n m : ℕ) (own : List Triplet) (ls : List Levels) → n ≤ m → AllTaken f (grown n own (nulls (take m ls))) → present f.greatest (take (m - n) (drop n ls)) ≡ 0
unseen_absent f n m own ls e h =
    none_present f (take (m - n) (drop n ls)) (subst (AllTaken f) (sym (nulls-between n m ls e)) (taken_parts f own (drop n (nulls (take m ls))) h).1)

-- ---- levels above

pub length_before : (ls : List Levels) → 1 ≤ length ls → suc (length (before ls)) ≡ length ls
length_before ls h =
    let n : ℕ = length ls - 1 in
    let e : length (before ls) ≡ n = length-map (take n ls) null_of ∙ length-take-le n ls (omega arith) in
    omega (arith, e, h)

pub nulls-cut : (n : ℕ) (ls : List Levels) → nulls (take n ls) ≡ take n (nulls ls)
nulls-cut zero ls = refl
nulls-cut (suc n) [] = refl
nulls-cut (suc n) (l ∷ ls) = ap (λ (ts : List Triplet). null_of l ∷ ts) (nulls-cut n ls)

take-front : (ts : List Triplet) (t : Triplet) → take (length ts) (ts ++ t ∷ []) ≡ ts
take-front [] t = refl
take-front (u ∷ ts) t = ap (λ (xs : List Triplet). u ∷ xs) (take-front ts t)

pub before_snoc : (ls : List Levels) (ts : List Triplet) (t : Triplet) → nulls ls ≡ ts ++ t ∷ [] → before ls ≡ ts
before_snoc ls ts t e =
    let n : length ls ≡ length (nulls ls) = sym (length-map ls null_of) in
    let k : length ls - 1 ≡ length ts = omega (arith, n, ap length e, length-append ts (t ∷ [])) in
    nulls-cut (length ls - 1) ls ∙ ap₂ take k e ∙ take-front ts t

pub some_snoc : (ls : List Levels) (ts : List Triplet) (t : Triplet) → nulls ls ≡ ts ++ t ∷ [] → 1 ≤ length ls
some_snoc ls ts t e = omega (arith, length-map ls null_of, ap length e, length-append ts (t ∷ []))

-- ---- branches, one after another

abbrev pub onto_twigs : List Twig → Twigs → Twigs
onto_twigs [] bs = bs
onto_twigs (x ∷ xs) bs = twig x (onto_twigs xs bs)

pub onto-one : (xs : List Twig) (x : Twig) (bs : Twigs) → onto_twigs (xs ++ x ∷ []) bs ≡ onto_twigs xs (twig x bs)
onto-one [] x bs = refl
onto-one (y ∷ xs) x bs = ap (twig y) (onto-one xs x bs)

pub onto-none : (xs : List Twig) → onto_twigs xs no_twigs ≡ twigs_of xs
onto-none [] = refl
onto-none (x ∷ xs) = ap (twig x) (onto-none xs)

pub drop-at : (i : ℕ) (xs : List Branch) (d : Branch) → i < length xs → drop i xs ≡ get_or xs i d ∷ drop (i + 1) xs
drop-at i [] d h = absurd (omega (arith, h))
drop-at zero (x ∷ xs) d h = refl
drop-at (suc i) (x ∷ xs) d h =
    let e : suc (i + 1) ≡ suc i + 1 = omega arith in
    drop-at i xs d (omega (arith, h)) ∙ ap (λ (k : ℕ). get_or xs i d ∷ drop k (x ∷ xs)) e

-- nothing is added where nothing is
none-added : (i : ℕ) (level d r : ℕ) (L : List Triplet) (bs : Twigs) → added_from i (inner no_slots) level d r L bs ≡ bs
none-added i level d r L no_twigs = refl
none-added i level d r L (twig b bs) = ap (twig b) (none-added (suc i) level d r L bs)

no-atom : (i : ℕ) (v : _) (level d r : ℕ) (L : List Triplet) (bs : Twigs) → added_from i (atom v) level d r L bs ≡ bs
no-atom i v level d r L no_twigs = refl
no-atom i v level d r L (twig b bs) = ap (twig b) (no-atom (suc i) v level d r L bs)

shift-slot : (i : ℕ) (xs : Instances) (n : Node) (level d r : ℕ) (L : List Triplet) (bs : Twigs) → added_from i (inner n) level d r L bs ≡ added_from (suc i) (inner (slot xs n)) level d r L bs
shift-slot i xs n level d r L no_twigs = refl
shift-slot i xs n level d r L (twig b bs) = ap (twig (field_added (instances_at i n) level d r L b)) (shift-slot (suc i) xs n level d r L bs)

shift-gap : (i : ℕ) (n : Node) (level d r : ℕ) (L : List Triplet) (bs : Twigs) → added_from i (inner n) level d r L bs ≡ added_from (suc i) (inner (gap n)) level d r L bs
shift-gap i n level d r L no_twigs = refl
shift-gap i n level d r L (twig b bs) = ap (twig (field_added (instances_at i n) level d r L b)) (shift-gap (suc i) n level d r L bs)

node-from : (n : Node) (level d r : ℕ) (L : List Triplet) (bs : Twigs) → added_from 0 (inner n) level d r L bs ≡ node_added n level d r L bs
node-from no_slots level d r L bs = none-added 0 level d r L bs
node-from (gap n) level d r L no_twigs = refl
node-from (gap n) level d r L (twig b bs) = ap (twig b) (sym (shift-gap 0 n level d r L bs) ∙ node-from n level d r L bs)
node-from (slot xs n) level d r L no_twigs = refl
node-from (slot xs n) level d r L (twig b bs) = ap (twig (field_added xs level d r L b)) (sym (shift-slot 0 xs n level d r L bs) ∙ node-from n level d r L bs)

pub from_first : (x : Instance) (level d r : ℕ) (L : List Triplet) (bs : Twigs) → added_from 0 x level d r L bs ≡ inside_added x level d r L bs
from_first (atom v) level d r L bs = no-atom 0 v level d r L bs
from_first (inner n) level d r L bs = node-from n level d r L bs

-- one branch more is added to
pub added_more : (i : ℕ) (h : Instance) (level d r : ℕ) (L : List Triplet) (now : List Branch) (x y : Branch) (whole : Twigs) → i < length now
    → twig_view y ≡ field_added (instances_in i h) level d r L (twig_view (get_or now i x))
    → onto_twigs (map twig_view (take i now)) (added_from i h level d r L (twigs_view (drop i now))) ≡ whole
    → onto_twigs (map twig_view (take (i + 1) (set now i y))) (added_from (i + 1) h level d r L (twigs_view (drop (i + 1) (set now i y)))) ≡ whole
added_more i h level d r L now x y whole l e w =
    let s : i + 1 ≡ suc i = omega arith in
    ap₂ (λ (t u : List Branch). onto_twigs (map twig_view t) (added_from (i + 1) h level d r L (twigs_view u))) (take_more_set now i y l) (drop-set-lt (i + 1) now i y (omega arith))
    ∙ ap (λ (t : List Twig). onto_twigs t (added_from (i + 1) h level d r L (twigs_view (drop (i + 1) now)))) (map-append twig_view (take i now) (y ∷ []))
    ∙ onto-one (map twig_view (take i now)) (twig_view y) (added_from (i + 1) h level d r L (twigs_view (drop (i + 1) now)))
    ∙ ap₂ (λ (b : Twig) (k : ℕ). onto_twigs (map twig_view (take i now)) (twig b (added_from k h level d r L (twigs_view (drop (i + 1) now))))) e s
    ∙ ap (λ (u : List Branch). onto_twigs (map twig_view (take i now)) (added_from i h level d r L (twigs_view u))) (sym (drop-at i now x l))
    ∙ w

pub added_all : (n : ℕ) (h : Instance) (level d r : ℕ) (L : List Triplet) (now : List Branch) (whole : Twigs) → length now ≤ n
    → onto_twigs (map twig_view (take n now)) (added_from n h level d r L (twigs_view (drop n now))) ≡ whole → twigs_view now ≡ whole
added_all n h level d r L now whole l w =
    sym (onto-none (map twig_view now))
    ∙ sym (ap₂ (λ (t u : List Branch). onto_twigs (map twig_view t) (added_from n h level d r L (twigs_view u))) (take_all n now l) (drop_all n now l))
    ∙ w

pub drop_more : (i : ℕ) (now old : List Branch) (y : Branch) → drop i now ≡ drop i old → drop (i + 1) (set now i y) ≡ drop (i + 1) old
drop_more i now old y e = drop-set-lt (i + 1) now i y (omega arith) ∙ drop_more_same now old i e

-- a branch of the same shape in its place
pub same_shapes : (i : ℕ) (now : List Branch) (x y : Branch) → i < length now → shape_view y ≡ shape_view (get_or now i x) → shapes_view (set now i y) ≡ shapes_view now
same_shapes i [] x y l e = refl
same_shapes zero (b ∷ bs) x y l e = ap (λ (s : Shape). shape s (shapes_view bs)) e
same_shapes (suc i) (b ∷ bs) x y l e = ap (shape (shape_view b)) (same_shapes i bs x y (omega (arith, l)) e)

-- the branch at a place
pub shape-here : (i : ℕ) (now : List Branch) (x : Branch) → i < length now → shape_at i (shapes_view now) ≡ shape_view (get_or now i x)
shape-here i [] x l = absurd (omega (arith, l))
shape-here zero (b ∷ bs) x l = refl
shape-here (suc i) (b ∷ bs) x l = shape-here i bs x (omega (arith, l))

pub twig-here : (i : ℕ) (old : List Branch) (y : Branch) (ys : List Branch) → drop i old ≡ y ∷ ys → twig_at i (twigs_view old) ≡ twig_view y
twig-here i [] y ys e = absurd (nothing-left i e)
  where
    nothing-left : (j : ℕ) → drop j [] ≡ y ∷ ys → ⊥
    nothing-left zero q = omega (arith, ap length q)
    nothing-left (suc j) q = omega (arith, ap length q)
twig-here zero (b ∷ bs) y ys e = ap (λ (u : List Branch). twig_at 0 (twigs_view u)) e
twig-here (suc i) (b ∷ bs) y ys e = twig-here i bs y ys e

pub lives-at : (i : ℕ) (ss : Shapes) → AllLive ss → Lives (shape_at i ss)
lives-at i no_shapes h = tt
lives-at zero (shape s ss) h = h.0
lives-at (suc i) (shape s ss) h = lives-at i ss h.1

field-ready : (i : ℕ) (level d r : ℕ) (L : List Triplet) (x : Instance) (ss : Shapes) (bs : Twigs) → Ready level d r L x ss bs → FieldReady level d r L (instances_in i x) (shape_at i ss) (twig_at i bs)
field-ready i level d r L x ss bs h = (lives-at i ss h.0, λ k p f l. h.1 (record { place = i; repetition = k }) p f l)

pub branch_ready : (i : ℕ) (level d r : ℕ) (L : List Triplet) (h : Instance) (xs : Instances) (now old : List Branch) (x : Branch) → i < length now → xs ≡ instances_in i h
    → drop i now ≡ drop i old → shapes_view now ≡ shapes_view old → Ready level d r L h (shapes_view old) (twigs_view old)
    → FieldReady level d r L xs (shape_view (get_or now i x)) (twig_view (get_or now i x))
branch_ready i level d r L h xs now old x l e same ss ready =
    let s : shape_at i (shapes_view old) ≡ shape_view (get_or now i x) = sym (ap (shape_at i) ss) ∙ shape-here i now x l in
    let b : twig_at i (twigs_view old) ≡ twig_view (get_or now i x) = twig-here i old (get_or now i x) (drop (i + 1) now) (sym same ∙ drop-at i now x l) in
    subst (λ ys. FieldReady level d r L ys (shape_view (get_or now i x)) (twig_view (get_or now i x))) (sym e)
    (subst (λ t. FieldReady level d r L (instances_in i h) (shape_view (get_or now i x)) t) b
    (subst (λ t. FieldReady level d r L (instances_in i h) t (twig_at i (twigs_view old))) s (field-ready i level d r L h (shapes_view old) (twigs_view old) ready)))

size-at : (i : ℕ) (ss : Shapes) → size_one (shape_at i ss) ≤ size_each ss
size-at i no_shapes = omega arith
size-at zero (shape s ss) = omega arith
size-at (suc i) (shape s ss) = omega (arith, size-at i ss)

pub size_below : (i : ℕ) (now old : List Branch) (x : Branch) → i < length now → shapes_view now ≡ shapes_view old → size_one (shape_view (get_or now i x)) < size_each (shapes_view old)
size_below i [] old x l e = absurd (omega (arith, l))
size_below zero (b ∷ bs) old x l e = omega (arith, ap size_each e)
size_below (suc i) (b ∷ bs) old x l e =
    let k : size_one (shape_view (get_or bs i x)) < size_each (shapes_view bs) = size_below i bs bs x (omega (arith, l)) refl in
    omega (arith, ap size_each e, k)

-- ---- an instance of a group

-- its group's field is ready, so are the branches inside
pub first_ready : (k : Repetition) (level d r : ℕ) (L : List Triplet) (n : ℕ) (own : List Triplet) (x : Instance) (xs : Instances) (ss : Shapes) (bs : Twigs)
    → FieldReady level d r L (instance x xs) (shapes.group k ss) (added.group k n own bs)
    → Ready (level + repetition_count k) (d + definition_count k) r (grown n own L) x ss bs
first_ready k level d r L n own x xs ss bs h = (
  h.0.1,
  λ s p f l.
      let t = h.1 k (s ∷ p) f (refl, l) in
      let u = taken_parts f (instance_column (s ∷ p) (level + repetition_count k) (d + definition_count k) r x) _ t.1.1 in (
        (t.0.0.1, within-up (s ∷ p) (length own) (length (grown n own L)) bs (grown-length n own L) t.0.1.1),
        (t.1.0, u.0),
        (omega (arith, t.2.0), omega (arith, t.2.1)),
      ),
)

pub group_seen : (k : Repetition) (level d r : ℕ) (L : List Triplet) (n : ℕ) (own : List Triplet) (xs : Instances) (ss : Shapes) (bs : Twigs)
    → FieldReady level d r L xs (shapes.group k ss) (added.group k n own bs)
    → (n ≤ length L) × (level + repetition_count k ≤ 255) × (d + definition_count k ≤ 255)
group_seen k level d r L n own xs ss bs h = (
  leb-true n (length L) (h.0.0 (nat_le n (length L)) (λ p f l. le-leb n (length L) (h.1 k p f (refl, l)).0.1.0)),
  leb-true (level + repetition_count k) 255 (h.0.0 (nat_le (level + repetition_count k) 255) (λ p f l. le-leb (level + repetition_count k) 255 (omega (arith, (h.1 k p f (refl, l)).2.0)))),
  leb-true (d + definition_count k) 255 (h.0.0 (nat_le (d + definition_count k) 255) (λ p f l. le-leb (d + definition_count k) 255 (omega (arith, (h.1 k p f (refl, l)).2.1)))),
)

pub later_ready : (k : Repetition) (level d r : ℕ) (L : List Triplet) (n : ℕ) (own : List Triplet) (x : Instance) (xs : Instances) (ss : Shapes) (bs : Twigs)
    → FieldReady level d r L (instance x xs) (shapes.group k ss) (added.group k n own bs)
    → LaterReady (level + repetition_count k) (d + definition_count k) (grown n own L ++ triplet r (d + definition_count k) None ∷ []) xs ss
    (inside_added x (level + repetition_count k) (d + definition_count k) r (grown n own L) bs)
later_ready k level d r L n own x xs ss bs h =
    let m : ℕ = level + repetition_count k in
    let e : ℕ = d + definition_count k in (
      h.0.1,
      λ p f l.
          let t = h.1 k p f (refl, l) in
          let u = taken_parts f (instance_column p m e r x) (each_later (instance_column p m e) m xs) t.1.1 in
          let one = inside-adds x p m e r (grown n own L) bs t.0.0.1 (within-up p (length own) (length (grown n own L)) bs (grown-length n own L) t.0.1.1) in (
            (one.1, subst (λ (j : ℕ). Within p j (inside_added x m e r (grown n own L) bs)) (sym (length-snoc (grown n own L) (triplet r e None))) one.2),
            (subst (AllTaken f) (sym one.0) (taken_joined f (column_in p (grown n own L) bs) (instance_column p m e r x) t.1.0 u.0), u.1),
            (t.2.0, t.2.1),
          ),
    )
  where
    length-snoc : (ts : List Triplet) (t : Triplet) → length (ts ++ t ∷ []) ≡ suc (length ts)
    length-snoc ts t = omega (arith, length-append ts (t ∷ []))

pub next_ready : (m e : ℕ) (own : List Triplet) (x : Instance) (xs : Instances) (ss : Shapes) (bs : Twigs) → LaterReady m e own (instance x xs) ss bs → Ready m e m own x ss bs
next_ready m e own x xs ss bs h = (
  h.0,
  λ s p f l.
      let t = h.1 (s ∷ p) f l in
      let u = taken_parts f (instance_column (s ∷ p) m e m x) (each_later (instance_column (s ∷ p) m e) m xs) t.1.1 in
      (t.0, (t.1.0, u.0), (omega (arith, t.2.0), omega (arith, t.2.1))),
)

pub rest_ready : (m e : ℕ) (own : List Triplet) (x : Instance) (xs : Instances) (ss : Shapes) (bs : Twigs) → LaterReady m e own (instance x xs) ss bs
    → LaterReady m e (own ++ triplet m e None ∷ []) xs ss (inside_added x m e m own bs)
rest_ready m e own x xs ss bs h = (
  h.0,
  λ p f l.
      let t = h.1 p f l in
      let u = taken_parts f (instance_column p m e m x) (each_later (instance_column p m e) m xs) t.1.1 in
      let one = inside-adds x p m e m own bs t.0.0 t.0.1 in (
        (one.1, subst (λ (j : ℕ). Within p j (inside_added x m e m own bs)) (sym (length-snoc own (triplet m e None))) one.2),
        (subst (AllTaken f) (sym one.0) (taken_joined f (column_in p own bs) (instance_column p m e m x) t.1.0 u.0), u.1),
        t.2,
      ),
)
  where
    length-snoc : (ts : List Triplet) (t : Triplet) → length (ts ++ t ∷ []) ≡ suc (length ts)
    length-snoc ts t = omega (arith, length-append ts (t ∷ []))

pub first_ready_at : (k : Repetition) (level d r : ℕ) (L : List Triplet) (n : ℕ) (own : List Triplet) (x : Instance) (xs : Instances) (ss : Shapes) (bs : Twigs) (m e : ℕ) (M : List Triplet)
    → FieldReady level d r L (instance x xs) (shapes.group k ss) (added.group k n own bs) → m ≡ level + repetition_count k → e ≡ d + definition_count k → M ≡ grown n own L
    → Ready m e r M x ss bs
first_ready_at k level d r L n own x xs ss bs m e M h em ee eM =
    subst (λ (i : ℕ). Ready i e r M x ss bs) (sym em)
    (subst (λ (i : ℕ). Ready (level + repetition_count k) i r M x ss bs) (sym ee)
    (subst (λ (t : List Triplet). Ready (level + repetition_count k) (d + definition_count k) r t x ss bs) (sym eM) (first_ready k level d r L n own x xs ss bs h)))

pub later_ready_at : (k : Repetition) (level d r : ℕ) (L : List Triplet) (n : ℕ) (own : List Triplet) (x : Instance) (xs : Instances) (ss ss' : Shapes) (bs bs' : Twigs) (m e : ℕ) (M own' : List Triplet)
    → FieldReady level d r L (instance x xs) (shapes.group k ss) (added.group k n own bs) → m ≡ level + repetition_count k → e ≡ d + definition_count k → M ≡ grown n own L
    → own' ≡ grown n own L ++ triplet r e None ∷ [] → bs' ≡ inside_added x m e r M bs → ss' ≡ ss
    → LaterReady m e own' xs ss' bs'
later_ready_at k level d r L n own x xs ss ss' bs bs' m e M own' h em ee eM eo eb es =
    let m' : ℕ = level + repetition_count k in
    let e' : ℕ = d + definition_count k in
    let G : List Triplet = grown n own L in
    let one : LaterReady m' e' (G ++ triplet r e' None ∷ []) xs ss (inside_added x m' e' r G bs) = later_ready k level d r L n own x xs ss bs h in
    let two : LaterReady m' e (G ++ triplet r e None ∷ []) xs ss (inside_added x m' e r G bs) = subst (λ (i : ℕ). LaterReady m' i (G ++ triplet r i None ∷ []) xs ss (inside_added x m' i r G bs)) (sym ee) one in
    let three : LaterReady m e (G ++ triplet r e None ∷ []) xs ss (inside_added x m e r G bs) = subst (λ (i : ℕ). LaterReady i e (G ++ triplet r e None ∷ []) xs ss (inside_added x i e r G bs)) (sym em) two in
    let four : LaterReady m e (G ++ triplet r e None ∷ []) xs ss bs' = subst (λ (t : Twigs). LaterReady m e (G ++ triplet r e None ∷ []) xs ss t) (sym (eb ∙ ap (λ (t : List Triplet). inside_added x m e r t bs) eM)) three in
    let five : LaterReady m e own' xs ss bs' = subst (λ (t : List Triplet). LaterReady m e t xs ss bs') (sym eo) four in
    subst (λ (t : Shapes). LaterReady m e own' xs t bs') (sym es) five

-- the first instance is behind it
pub first_added : (k : Repetition) (level d r : ℕ) (L : List Triplet) (n seen : ℕ) (own : List Triplet) (x : Instance) (xs : Instances) (bs bs' : Twigs) (m e : ℕ) (M own' : List Triplet)
    → m ≡ level + repetition_count k → e ≡ d + definition_count k → M ≡ grown n own L → seen ≡ suc (length L)
    → own' ≡ grown n own L ++ triplet r e None ∷ [] → bs' ≡ inside_added x m e r M bs
    → added.regrown k seen (later_added xs m e own' bs') ≡ field_added (instance x xs) level d r L (added.group k n own bs)
first_added k level d r L n seen own x xs bs bs' m e M own' em ee eM es eo eb =
    ap₂ (λ (i : ℕ) (t : List Triplet). added.regrown k i (later_added xs m e t bs')) es eo
    ∙ ap (λ (t : Twigs). added.regrown k (suc (length L)) (later_added xs m e (grown n own L ++ triplet r e None ∷ []) t)) (eb ∙ ap (λ (t : List Triplet). inside_added x m e r t bs) eM)
    ∙ ap₂ (λ (i j : ℕ). added.regrown k (suc (length L)) (later_added xs i j (grown n own L ++ triplet r j None ∷ []) (inside_added x i j r (grown n own L) bs))) em ee

pub next_ready_at : (m e : ℕ) (own M : List Triplet) (x : Instance) (xs ys : Instances) (ss : Shapes) (bs : Twigs) → ys ≡ instance x xs → M ≡ own → LaterReady m e own ys ss bs → Ready m e m M x ss bs
next_ready_at m e own M x xs ys ss bs ey eM h =
    subst (λ (t : List Triplet). Ready m e m t x ss bs) (sym eM) (next_ready m e own x xs ss bs (subst (λ (zs : Instances). LaterReady m e own zs ss bs) ey h))

pub rest_ready_at : (m e : ℕ) (own M own' : List Triplet) (x : Instance) (xs ys : Instances) (ss ss' : Shapes) (bs bs' : Twigs) → ys ≡ instance x xs → M ≡ own → own' ≡ own ++ triplet m e None ∷ [] → bs' ≡ inside_added x m e m M bs → ss' ≡ ss
    → LaterReady m e own ys ss bs → LaterReady m e own' xs ss' bs'
rest_ready_at m e own M own' x xs ys ss ss' bs bs' ey eM eo eb es h =
    let one : LaterReady m e (own ++ triplet m e None ∷ []) xs ss (inside_added x m e m own bs) = rest_ready m e own x xs ss bs (subst (λ (zs : Instances). LaterReady m e own zs ss bs) ey h) in
    let two : LaterReady m e (own ++ triplet m e None ∷ []) xs ss bs' = subst (λ (t : Twigs). LaterReady m e (own ++ triplet m e None ∷ []) xs ss t) (sym (eb ∙ ap (λ (t : List Triplet). inside_added x m e m t bs) eM)) one in
    let three : LaterReady m e own' xs ss bs' = subst (λ (t : List Triplet). LaterReady m e t xs ss bs') (sym eo) two in
    subst (λ (t : Shapes). LaterReady m e own' xs t bs') (sym es) three

pub later_step : (k : Repetition) (seen seen' m e : ℕ) (own M own' : List Triplet) (x : Instance) (xs ys : Instances) (bs bs' : Twigs) (whole : Twig) → ys ≡ instance x xs → M ≡ own → own' ≡ own ++ triplet m e None ∷ [] → bs' ≡ inside_added x m e m M bs → seen' ≡ seen
    → added.regrown k seen (later_added ys m e own bs) ≡ whole → added.regrown k seen' (later_added xs m e own' bs') ≡ whole
later_step k seen seen' m e own M own' x xs ys bs bs' whole ey eM eo eb es w =
    ap₂ (λ (i : ℕ) (t : List Triplet). added.regrown k i (later_added xs m e t bs')) es eo
    ∙ ap (λ (t : Twigs). added.regrown k seen (later_added xs m e (own ++ triplet m e None ∷ []) t)) (eb ∙ ap (λ (t : List Triplet). inside_added x m e m t bs) eM)
    ∙ sym (ap (λ (zs : Instances). added.regrown k seen (later_added zs m e own bs)) ey) ∙ w

pub later_done : (k : Repetition) (seen m e : ℕ) (own : List Triplet) (ys : Instances) (bs : Twigs) (whole : Twig) → ys ≡ no_instances → added.regrown k seen (later_added ys m e own bs) ≡ whole → added.group k seen own bs ≡ whole
later_done k seen m e own ys bs whole ey w = sym (ap (λ (zs : Instances). added.regrown k seen (later_added zs m e own bs)) ey) ∙ w

-- ---- a branch that is lent

pub view-leaf : (k : Rep) (l : LeafGrown) → shape_view (branches.Leaf k l) ≡ shapes.leaf (rep_view k) (column_form l.column)
view-leaf k l = search (rules, branches.the_lemmas)

pub twig-leaf : (k : Rep) (l : LeafGrown) → twig_view (branches.Leaf k l) ≡ added.leaf (rep_view k) l.seen (column_view l.column)
twig-leaf k l = search (rules, branches.the_lemmas)

pub view-group : (k : Rep) (g : GroupGrown) (bs : Vec Branch Global) → shape_view (branches.Group k g bs) ≡ shapes.group (rep_view k) (shapes_view bs.items)
view-group k g bs = search (rules, branches.the_lemmas)

pub twig-group : (k : Rep) (g : GroupGrown) (bs : Vec Branch Global) → twig_view (branches.Group k g bs) ≡ added.group (rep_view k) g.seen (nulls g.levels.items) (twigs_view bs.items)
twig-group k g bs = search (rules, branches.the_lemmas)

pub leaf_given : (level d r : ℕ) (L : List Triplet) (xs ys : Instances) (b : Branch) (k k' : Rep) (l l' : LeafGrown) → b ≡ branches.Leaf k l → k' ≡ k → l' ≡ l → xs ≡ ys
    → FieldReady level d r L xs (shape_view b) (twig_view b) → FieldReady level d r L ys (shapes.leaf (rep_view k') (column_form l'.column)) (added.leaf (rep_view k') l'.seen (column_view l'.column))
leaf_given level d r L xs ys b k k' l l' e ek el ex h =
    subst (λ (i : Rep). FieldReady level d r L ys (shapes.leaf (rep_view i) (column_form l'.column)) (added.leaf (rep_view i) l'.seen (column_view l'.column))) (sym ek)
    (subst (λ (i : LeafGrown). FieldReady level d r L ys (shapes.leaf (rep_view k) (column_form i.column)) (added.leaf (rep_view k) i.seen (column_view i.column))) (sym el)
    (subst (λ (zs : Instances). FieldReady level d r L zs (shapes.leaf (rep_view k) (column_form l.column)) (added.leaf (rep_view k) l.seen (column_view l.column))) ex
    (subst (λ t. FieldReady level d r L xs (shapes.leaf (rep_view k) (column_form l.column)) t) (ap twig_view e ∙ twig-leaf k l)
    (subst (λ s. FieldReady level d r L xs s (twig_view b)) (ap shape_view e ∙ view-leaf k l) h))))

pub group_given : (level d r : ℕ) (L : List Triplet) (xs ys : Instances) (b : Branch) (k k' : Rep) (g g' : GroupGrown) (bs : Vec Branch Global) (is : List Branch) → b ≡ branches.Group k g bs → k' ≡ k → g' ≡ g → is ≡ bs.items → xs ≡ ys
    → FieldReady level d r L xs (shape_view b) (twig_view b)
    → FieldReady level d r L ys (shapes.group (rep_view k') (shapes_view is)) (added.group (rep_view k') g'.seen (nulls g'.levels.items) (twigs_view is))
group_given level d r L xs ys b k k' g g' bs is e ek eg eb ex h =
    subst (λ (i : Rep). FieldReady level d r L ys (shapes.group (rep_view i) (shapes_view is)) (added.group (rep_view i) g'.seen (nulls g'.levels.items) (twigs_view is))) (sym ek)
    (subst (λ (i : GroupGrown). FieldReady level d r L ys (shapes.group (rep_view k) (shapes_view is)) (added.group (rep_view k) i.seen (nulls i.levels.items) (twigs_view is))) (sym eg)
    (subst (λ (i : List Branch). FieldReady level d r L ys (shapes.group (rep_view k) (shapes_view i)) (added.group (rep_view k) g.seen (nulls g.levels.items) (twigs_view i))) (sym eb)
    (subst (λ (zs : Instances). FieldReady level d r L zs (shapes.group (rep_view k) (shapes_view bs.items)) (added.group (rep_view k) g.seen (nulls g.levels.items) (twigs_view bs.items))) ex
    (subst (λ t. FieldReady level d r L xs (shapes.group (rep_view k) (shapes_view bs.items)) t) (ap twig_view e ∙ twig-group k g bs)
    (subst (λ s. FieldReady level d r L xs s (twig_view b)) (ap shape_view e ∙ view-group k g bs) h)))))

pub group_size : (b : Branch) (k : Rep) (g : GroupGrown) (bs : Vec Branch Global) (is : List Branch) → b ≡ branches.Group k g bs → is ≡ bs.items → size_one (shape_view b) ≡ 2 + size_each (shapes_view is)
group_size b k g bs is e eb = ap (λ (x : Branch). size_one (shape_view x)) e ∙ ap size_one (view-group k g bs) ∙ sym (ap (λ (i : List Branch). 2 + size_each (shapes_view i)) eb)

-- ---- a leaf

pub leaf_levels : (k : Repetition) (f : LeafForm) (level d r : ℕ) (L : List Triplet) (xs : Instances) (n : ℕ) (own : List Triplet) → FieldReady level d r L xs (shapes.leaf k f) (added.leaf k n own)
    → (level + repetition_count k ≤ 255) × (d + definition_count k ≤ 255)
leaf_levels k f level d r L xs n own h =
    let t = h.1 k [] f (refl, refl, refl) in
    (omega (arith, t.2.0), omega (arith, t.2.1))

pub leaf_seen : (k : Repetition) (f : LeafForm) (level d r : ℕ) (L : List Triplet) (xs : Instances) (n : ℕ) (own : List Triplet) → FieldReady level d r L xs (shapes.leaf k f) (added.leaf k n own) → n ≤ length L
leaf_seen k f level d r L xs n own h = (h.1 k [] f (refl, refl, refl)).0.1

pub leaf_own : (k : Repetition) (f : LeafForm) (level d r : ℕ) (L : List Triplet) (xs : Instances) (n : ℕ) (own : List Triplet) → FieldReady level d r L xs (shapes.leaf k f) (added.leaf k n own) → AllTaken f (grown n own L)
leaf_own k f level d r L xs n own h = (h.1 k [] f (refl, refl, refl)).1.0

pub leaf_first : (k : Repetition) (f : LeafForm) (level d r : ℕ) (L : List Triplet) (x : Instance) (xs : Instances) (n : ℕ) (own : List Triplet) → FieldReady level d r L (instance x xs) (shapes.leaf k f) (added.leaf k n own)
    → takes f (triplet r (d + definition_count k) (value_of x)) ≡ true
leaf_first k f level d r L x xs n own h = (and_parts _ _ (h.1 k [] f (refl, refl, refl)).1.1).0

pub leaf_later : (k : Repetition) (f : LeafForm) (level d r : ℕ) (L : List Triplet) (x : Instance) (xs : Instances) (n : ℕ) (own : List Triplet) → FieldReady level d r L (instance x xs) (shapes.leaf k f) (added.leaf k n own)
    → AllTaken f (each_later (instance_column [] (level + repetition_count k) (d + definition_count k)) (level + repetition_count k) xs)
leaf_later k f level d r L x xs n own h = (and_parts _ _ (h.1 k [] f (refl, refl, refl)).1.1).1
