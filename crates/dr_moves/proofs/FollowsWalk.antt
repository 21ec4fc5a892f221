-- The walk of records follows the course of their schema.
use Rattle.std.proofs.Common.{◌≡◌, ℕ, zero, suc, ◌+◌, ◌≤◌, List, [], ◌∷◌, ◌++◌, Bool, true, false, ◌&&◌, None, Some, refl, sym, ap, subst, ◌∙◌, true≢false, arith}
use Rattle.std.specs.Prelude.{◌==◌, if◌then◌else◌}
use Rattle.std.proofs.lemmas.Bool.{and_parts}
use Rattle.dr_meaning.specs.Schema.{Repetition, Fields, field, Shape, repetition_count, definition_count}
use Rattle.dr_meaning.specs.Path.{Step, is_leaf_path, is_shape_path, same_repetition, through}
use Rattle.dr_meaning.specs.Record.{Node, slot, Instances, no_instances, instance, Instance, inner, is_instance, instances_at, instances_in}
use Rattle.dr_meaning.specs.Column.{Triplet, triplet, value_of, each_later, spread, instance_column}
use Rattle.dr_meaning.specs.Automaton.{Pick, first_picks_if, first_picks_and, first_picks, later_picks_if, later_picks_and, later_picks}
use Rattle.dr_meaning.specs.Walk.{Move, enter, value, leave, Depth, moves_in, far_moves, shape_near_moves, shape_far_moves}
use Rattle.dr_meaning.specs.WalkLaws.{triplets_of}
use Rattle.dr_meaning.specs.AutomatonLaws.{next_level}
use Rattle.dr_meaning.proofs.Blocks.{same_repetition-true}
use Rattle.dr_meaning.proofs.WalkLemmas.{of_append, Without, Only, only_behind, beside_first, only_beside, far_nothing, shape_gives}
use Rattle.dr_moves.proofs.Following.{next_definition}

-- ---- what comes next of a leaf

abbrev pub first_d : List Triplet → ℕ
first_d [] = 0
first_d (t ∷ ts) = t.definition

abbrev pub first_r : List Triplet → ℕ
first_r [] = 0
first_r (t ∷ ts) = t.repetition

pub next_d : (i : ℕ) (ms : List Move) → next_definition ms i ≡ first_d (triplets_of i ms)
next_d i [] = refl
next_d i (enter k ∷ ms) = next_d i ms
next_d i (leave k ∷ ms) = next_d i ms
next_d i (value j t ∷ ms) = by_test (j == i) (next_d i ms)
  where
    by_test : (b : Bool) → next_definition ms i ≡ first_d (triplets_of i ms) → (if b then t.definition else next_definition ms i) ≡ first_d (if b then t ∷ triplets_of i ms else triplets_of i ms)
    by_test true e = refl
    by_test false e = e

pub next_r : (i : ℕ) (ms : List Move) → next_level i ms ≡ first_r (triplets_of i ms)
next_r i [] = refl
next_r i (enter k ∷ ms) = next_r i ms
next_r i (leave k ∷ ms) = next_r i ms
next_r i (value j t ∷ ms) = by_test (j == i) (next_r i ms)
  where
    by_test : (b : Bool) → next_level i ms ≡ first_r (triplets_of i ms) → (if b then t.repetition else next_level i ms) ≡ first_r (if b then t ∷ triplets_of i ms else triplets_of i ms)
    by_test true e = refl
    by_test false e = e

-- the first definition level of a path in an instance
abbrev pub at_first : (Instance → ℕ) → ℕ → Instances → ℕ
at_first f d no_instances = d
at_first f d (instance x xs) = f x

abbrev pub first_def : List Step → ℕ → Instance → ℕ
first_def [] d x = d
first_def (s ∷ p) d x = at_first (first_def p (d + definition_count s.repetition)) d (instances_in s.place x)

pub first_def_above : (p : List Step) (d : ℕ) (x : Instance) → d ≤ first_def p d x
first_def_above [] d x = omega arith
first_def_above (s ∷ p) d x = by_slot (instances_in s.place x) (first_def_above p (d + definition_count s.repetition))
  where
    by_slot : (xs : Instances) → ((y : Instance) → d + definition_count s.repetition ≤ first_def p (d + definition_count s.repetition) y) → d ≤ at_first (first_def p (d + definition_count s.repetition)) d xs
    by_slot no_instances f = omega arith
    by_slot (instance y ys) f = omega (arith, f y)

pub record Headed (p : List Step) (d r : ℕ) (x : Instance) (ts : List Triplet) : Type 0 where
  first : Triplet
  others : List Triplet
  is : ts ≡ first ∷ others
  begins : first.repetition ≡ r
  reaches : first.definition ≡ first_def p d x

headed : (p : List Step) (l d r : ℕ) (x : Instance) → Headed p d r x (instance_column p l d r x)
headed [] l d r x = record { first = triplet r d (value_of x); others = []; is = refl; begins = refl; reaches = refl }
headed (s ∷ p) l d r x = by_slot (instances_in s.place x) refl (headed p (l + repetition_count s.repetition) (d + definition_count s.repetition) r)
  where
    by_slot : (xs : Instances) → instances_in s.place x ≡ xs
        → ((y : Instance) → Headed p (d + definition_count s.repetition) r y (instance_column p (l + repetition_count s.repetition) (d + definition_count s.repetition) r y)) → Headed (s ∷ p) d r x (spread (instance_column p (l + repetition_count s.repetition) (d + definition_count s.repetition)) (l + repetition_count s.repetition) d r (instances_in s.place x))
    by_slot no_instances e f = record { first = triplet r d None; others = []; is = rw e refl; begins = refl; reaches = rw e refl }
    by_slot (instance y ys) e f =
        let h = f y in
        record {
          first = h.first;
          others = h.others ++ each_later (instance_column p (l + repetition_count s.repetition) (d + definition_count s.repetition)) (l + repetition_count s.repetition) ys;
          is = rw (e, h.is) refl;
          begins = h.begins;
          reaches = h.reaches ∙ sym (rw e refl);
        }

-- ---- selected leaves

abbrev pub AllOnly : List Pick → List Pick → Type 0
AllOnly [] F = Unit {0}
AllOnly (e ∷ E) F = Only e.index e.rest F × AllOnly E F

abbrev pub Paths : Fields → List Pick → Type 0
Paths fs [] = Unit {0}
Paths fs (e ∷ E) = (is_leaf_path fs e.rest ≡ true) × Paths fs E

abbrev pub ShapePaths : Shape → List Pick → Type 0
ShapePaths h [] = Unit {0}
ShapePaths h (e ∷ E) = (is_shape_path h e.rest ≡ true) × ShapePaths h E

-- the definition levels that come next are those of an instance, or of one that is absent
abbrev pub Heads : (ℕ → ℕ) → List Pick → ℕ → Instance → Type 0
Heads next [] d x = Unit {0}
Heads next (e ∷ E) d x = (next e.index ≡ first_def e.rest d x) × Heads next E d x

abbrev pub AllAt : (ℕ → ℕ) → List Pick → ℕ → Type 0
AllAt next [] d = Unit {0}
AllAt next (e ∷ E) d = (next e.index ≡ d) × AllAt next E d

abbrev pub SlotHeads : (ℕ → ℕ) → List Pick → ℕ → ℕ → Instances → Type 0
SlotHeads next F d e no_instances = AllAt next F d
SlotHeads next F d e (instance x xs) = Heads next F e x

-- the next levels are at most this
abbrev pub Low : ℕ → List Pick → List Move → Type 0
Low l [] ms = Unit {0}
Low l (e ∷ E) ms = (next_level e.index ms ≤ l) × Low l E ms

-- ---- behind the first field, and beside it

pub all_only_behind : (E F : List Pick) → AllOnly E F → AllOnly (first_picks E) (first_picks F)
all_only_behind [] F h = tt
all_only_behind (e ∷ E) F h = by_rest e.rest e.index h.0 (all_only_behind E F h.1)
  where
    by_rest : (p : List Step) (i : ℕ) → Only i p F → AllOnly (first_picks E) (first_picks F) → AllOnly (first_picks_and p i (first_picks E)) (first_picks F)
    by_rest [] i o q = q
    by_rest (s ∷ p) i o q = by_place s.place refl
      where
        by_place : (k : ℕ) → s.place ≡ k → AllOnly (first_picks_if k p i (first_picks E)) (first_picks F)
        by_place zero w = (only_behind i s.repetition p F (subst (λ (x : ℕ). Only i (record { place = x; repetition = s.repetition } ∷ p) F) w o), q)
        by_place (suc k) w = q

pub all_only_beside : (E F : List Pick) → AllOnly E F → AllOnly (later_picks E) (later_picks F)
all_only_beside [] F h = tt
all_only_beside (e ∷ E) F h = by_rest e.rest e.index h.0 (all_only_beside E F h.1)
  where
    by_rest : (p : List Step) (i : ℕ) → Only i p F → AllOnly (later_picks E) (later_picks F) → AllOnly (later_picks_and p i (later_picks E)) (later_picks F)
    by_rest [] i o q = q
    by_rest (s ∷ p) i o q = by_place s.place refl
      where
        by_place : (k : ℕ) → s.place ≡ k → AllOnly (later_picks_if k s p i (later_picks E)) (later_picks F)
        by_place zero w = q
        by_place (suc k) w = (only_beside i k s.repetition p F (subst (λ (x : ℕ). Only i (record { place = x; repetition = s.repetition } ∷ p) F) w o), q)

pub record FieldPaths (c : Repetition) (h : Shape) (fs : Fields) (F : List Pick) : Type 0 where
  pub first : ShapePaths h (first_picks F)
  pub others : Paths fs (later_picks F)

pub field_paths : (m : List ℕ) (c : Repetition) (h : Shape) (fs : Fields) (F : List Pick) → Paths (field m c h fs) F → FieldPaths c h fs F
field_paths m c h fs [] u = record { first = tt; others = tt }
field_paths m c h fs (e ∷ E) u = by_rest e.rest e.index u.0 (field_paths m c h fs E u.1)
  where
    by_rest : (p : List Step) (i : ℕ) → is_leaf_path (field m c h fs) p ≡ true → FieldPaths c h fs E → FieldPaths c h fs (record { rest = p; index = i } ∷ E)
    by_rest [] i o q = absurd (true≢false (sym o))
    by_rest (s ∷ p) i o q = by_place s.place o
      where
        by_place : (k : ℕ) → through k (same_repetition s.repetition c && is_shape_path h p) (λ (j : ℕ). is_leaf_path fs (record { place = j; repetition = s.repetition } ∷ p)) ≡ true
            → FieldPaths c h fs (record { rest = record { place = k; repetition = s.repetition } ∷ p; index = i } ∷ E)
        by_place zero o = record { first = ((and_parts (same_repetition s.repetition c) (is_shape_path h p) o).1, q.first); others = q.others }
        by_place (suc k) o = record { first = q.first; others = (o, q.others) }

pub heads_behind : (m : List ℕ) (c : Repetition) (h : Shape) (fs : Fields) (next : ℕ → ℕ) (F : List Pick) (d : ℕ) (xs : Instances) (n : Node) → Paths (field m c h fs) F → Heads next F d (inner (slot xs n)) → SlotHeads next (first_picks F) d (d + definition_count c) xs
heads_behind m c h fs next [] d no_instances n u a = tt
heads_behind m c h fs next [] d (instance x xs) n u a = tt
heads_behind m c h fs next (e ∷ E) d xs n u a = by_rest e.rest e.index u.0 a.0 (heads_behind m c h fs next E d xs n u.1 a.1)
  where
    by_rest : (p : List Step) (i : ℕ) → is_leaf_path (field m c h fs) p ≡ true → next i ≡ first_def p d (inner (slot xs n)) → SlotHeads next (first_picks E) d (d + definition_count c) xs → SlotHeads next (first_picks_and p i (first_picks E)) d (d + definition_count c) xs
    by_rest [] i o z q = absurd (true≢false (sym o))
    by_rest (s ∷ p) i o z q = by_place s.place xs o z q
      where
        by_place : (k : ℕ) (xs : Instances) → through k (same_repetition s.repetition c && is_shape_path h p) (λ (j : ℕ). is_leaf_path fs (record { place = j; repetition = s.repetition } ∷ p)) ≡ true
            → next i ≡ at_first (first_def p (d + definition_count s.repetition)) d (instances_at k (slot xs n)) → SlotHeads next (first_picks E) d (d + definition_count c) xs → SlotHeads next (first_picks_if k p i (first_picks E)) d (d + definition_count c) xs
        by_place zero no_instances o z q = (z, q)
        by_place zero (instance x xs) o z q = let w = same_repetition-true s.repetition c (and_parts (same_repetition s.repetition c) (is_shape_path h p) o).0 in
            (z ∙ ap (λ (y : Repetition). first_def p (d + definition_count y) x) w, q)
        by_place (suc k) xs o z q = q

pub heads_beside : (next : ℕ → ℕ) (F : List Pick) (d : ℕ) (xs : Instances) (n : Node) → Heads next F d (inner (slot xs n)) → Heads next (later_picks F) d (inner n)
heads_beside next [] d xs n a = tt
heads_beside next (e ∷ E) d xs n a = by_rest e.rest e.index a.0 (heads_beside next E d xs n a.1)
  where
    by_rest : (p : List Step) (i : ℕ) → next i ≡ first_def p d (inner (slot xs n)) → Heads next (later_picks E) d (inner n) → Heads next (later_picks_and p i (later_picks E)) d (inner n)
    by_rest [] i z q = q
    by_rest (s ∷ p) i z q = by_place s.place z
      where
        by_place : (k : ℕ) → next i ≡ at_first (first_def p (d + definition_count s.repetition)) d (instances_at k (slot xs n)) → Heads next (later_picks_if k s p i (later_picks E)) d (inner n)
        by_place zero z = q
        by_place (suc k) z = (z, q)

pub low_behind : (l : ℕ) (F : List Pick) (ms : List Move) → Low l F ms → Low l (first_picks F) ms
low_behind l [] ms h = tt
low_behind l (e ∷ E) ms h = by_rest e.rest (low_behind l E ms h.1)
  where
    by_rest : (p : List Step) → Low l (first_picks E) ms → Low l (first_picks_and p e.index (first_picks E)) ms
    by_rest [] q = q
    by_rest (s ∷ p) q = by_place s.place
      where
        by_place : (k : ℕ) → Low l (first_picks_if k p e.index (first_picks E)) ms
        by_place zero = (h.0, q)
        by_place (suc k) = q

pub low_beside : (l : ℕ) (F : List Pick) (ms : List Move) → Low l F ms → Low l (later_picks F) ms
low_beside l [] ms h = tt
low_beside l (e ∷ E) ms h = by_rest e.rest (low_beside l E ms h.1)
  where
    by_rest : (p : List Step) → Low l (later_picks E) ms → Low l (later_picks_and p e.index (later_picks E)) ms
    by_rest [] q = q
    by_rest (s ∷ p) q = by_place s.place
      where
        by_place : (k : ℕ) → Low l (later_picks_if k s p e.index (later_picks E)) ms
        by_place zero = q
        by_place (suc k) = (h.0, q)

-- past moves of other leaves
abbrev pub AllWithout : List Pick → List Pick → Type 0
AllWithout [] F = Unit {0}
AllWithout (e ∷ E) F = Without e.index F × AllWithout E F

pub behind_without : (E F : List Pick) → AllOnly E F → AllWithout (first_picks E) (later_picks F)
behind_without [] F h = tt
behind_without (e ∷ E) F h = by_rest e.rest e.index h.0 (behind_without E F h.1)
  where
    by_rest : (p : List Step) (i : ℕ) → Only i p F → AllWithout (first_picks E) (later_picks F) → AllWithout (first_picks_and p i (first_picks E)) (later_picks F)
    by_rest [] i o q = q
    by_rest (s ∷ p) i o q = by_place s.place refl
      where
        by_place : (k : ℕ) → s.place ≡ k → AllWithout (first_picks_if k p i (first_picks E)) (later_picks F)
        by_place zero w = (beside_first i s.repetition p F (subst (λ (x : ℕ). Only i (record { place = x; repetition = s.repetition } ∷ p) F) w o), q)
        by_place (suc k) w = q

pub low_past : (l : ℕ) (E F : List Pick) (fs : Fields) (k : ℕ) (at : Depth) (n : Node) (ms : List Move) → AllWithout E F → Low l E ms → Low l E (far_moves fs F k at n ++ ms)
low_past l [] F fs k at n ms w h = tt
low_past l (e ∷ E) F fs k at n ms w h =
    let z : next_level e.index (far_moves fs F k at n ++ ms) ≡ next_level e.index ms =
    next_r e.index (far_moves fs F k at n ++ ms) ∙ ap first_r (of_append e.index (far_moves fs F k at n) ms ∙ ap (λ (x : List Triplet). x ++ triplets_of e.index ms) (far_nothing e.index fs F k at n w.0)) ∙ sym (next_r e.index ms) in
    (rw z h.0, low_past l E F fs k at n ms w.1 h.1)

-- ---- where an instance begins

pub record Begun (p : List Step) (d r : ℕ) (x : Instance) (i : ℕ) (ms : List Move) : Type 0 where
  pub level : next_level i ms ≡ r
  pub definition : next_definition ms i ≡ first_def p d x

pub begun : (h : Shape) (F : List Pick) (k : ℕ) (at : Depth) (x : Instance) (ms : List Move) (i : ℕ) (p : List Step) → Only i p F → is_shape_path h p ≡ true → is_instance h x ≡ true
    → Begun p at.definition at.repetition x i (moves_in (shape_near_moves h F) (shape_far_moves h F k) at (Some x) ++ ms)
begun h F k at x ms i p o u v =
    let q = headed p at.level at.definition at.repetition x in
    let e : triplets_of i (moves_in (shape_near_moves h F) (shape_far_moves h F k) at (Some x) ++ ms) ≡ (q.first ∷ q.others) ++ triplets_of i ms =
    of_append i (moves_in (shape_near_moves h F) (shape_far_moves h F k) at (Some x)) ms
    ∙ ap (λ (y : List Triplet). y ++ triplets_of i ms) (of_append i (shape_near_moves h F at (Some x)) (shape_far_moves h F k at (Some x)) ∙ shape_gives i h p F o u k at (Some x) v ∙ q.is) in
    record { level = next_r i (moves_in (shape_near_moves h F) (shape_far_moves h F k) at (Some x) ++ ms) ∙ ap first_r e ∙ q.begins; definition = next_d i (moves_in (shape_near_moves h F) (shape_far_moves h F k) at (Some x) ++ ms) ∙ ap first_d e ∙ q.reaches }

pub heads_begun : (h : Shape) (E F : List Pick) (k : ℕ) (at : Depth) (x : Instance) (ms : List Move) → AllOnly E F → ShapePaths h E → is_instance h x ≡ true
    → Heads (next_definition (moves_in (shape_near_moves h F) (shape_far_moves h F k) at (Some x) ++ ms)) E at.definition x
heads_begun h [] F k at x ms o u v = tt
heads_begun h (e ∷ E) F k at x ms o u v = ((begun h F k at x ms e.index e.rest o.0 u.0 v).definition, heads_begun h E F k at x ms o.1 u.1 v)

pub low_begun : (h : Shape) (E F : List Pick) (k : ℕ) (at : Depth) (x : Instance) (ms : List Move) → AllOnly E F → ShapePaths h E → is_instance h x ≡ true
    → Low at.repetition E (moves_in (shape_near_moves h F) (shape_far_moves h F k) at (Some x) ++ ms)
low_begun h [] F k at x ms o u v = tt
low_begun h (e ∷ E) F k at x ms o u v = (omega (arith, (begun h F k at x ms e.index e.rest o.0 u.0 v).level), low_begun h E F k at x ms o.1 u.1 v)

-- where a field is absent, each leaf below it has the definition level there
pub absent_next : (h : Shape) (F : List Pick) (k : ℕ) (at : Depth) (ms : List Move) (i : ℕ) (p : List Step) → Only i p F → is_shape_path h p ≡ true → next_definition (moves_in (shape_near_moves h F) (shape_far_moves h F k) at None ++ ms) i ≡ at.definition
absent_next h F k at ms i p o u =
    next_d i (moves_in (shape_near_moves h F) (shape_far_moves h F k) at None ++ ms)
    ∙ ap first_d (of_append i (moves_in (shape_near_moves h F) (shape_far_moves h F k) at None) ms
    ∙ ap (λ (y : List Triplet). y ++ triplets_of i ms) (of_append i (shape_near_moves h F at None) (shape_far_moves h F k at None) ∙ shape_gives i h p F o u k at None tt))
