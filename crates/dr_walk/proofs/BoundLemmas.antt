-- How many moves there are at most: two for each record, and 65 for each triplet.
use Rattle.std.proofs.Common.{◌≡◌, ◌⊎◌, inl, inr, ℕ, zero, suc, ◌+◌, ◌*◌, ◌<◌, ◌≤◌, List, [], ◌∷◌, ◌++◌, length, Bool, true, false, ◌&&◌, Option, Some, None, refl, sym, ap, subst, ◌∙◌, true≢false, length-append, arith}
use Rattle.std.specs.Prelude.{nat_lt, ◌==◌, if◌then◌else◌}
use Rattle.std.specs.List.{list_all}
use Rattle.std.proofs.lemmas.Bool.{and_parts, ltb-true}
use Rattle.std.proofs.lemmas.Bool.Decides.{nat_tests}
use Rattle.dr_meaning.specs.Schema.{Repetition, required, optional, repeated, Kind, Fields, no_fields, field, Shape, leaf, group, repetition_count, definition_count, shape_repeated_fields, depth, shape_depth}
use Rattle.dr_meaning.specs.Path.{Step, is_leaf_path}
use Rattle.dr_meaning.specs.Column.{Triplet}
use Rattle.dr_meaning.specs.Automaton.{Pick, picks, first_picks, later_picks, indexes, near_order, far_order, shape_near_order, shape_far_order, unless_repeated as order_unless_repeated, where_repeated}
use Rattle.dr_meaning.specs.Walk.{Move, enter, value, leave}
use Rattle.dr_moves.specs.Course.{Gate, are_open, reach, Visit, Items, nothing, give, visit, followed_by, gated, low_in, give_each, unless_repeated, where_selected, by_repetition, visit_of, near_items, far_items, field_near_items, shape_near_items, shape_far_items, course}
use Rattle.dr_moves.specs.Turning.{Stack, between, in_record, in_items, in_absent, lapped, entering, Turn, gives, goes_on, done, stops, turn, turn_given, turn_absent, is_due, is_null, definition_of, definitions_of, level_of}
use Rattle.dr_moves.specs.Leading.{Left, Leads, stays, moves, turns, head_of, heads as next_of, behind_move, columns_of}
use Rattle.dr_moves.proofs.FollowsWalk.{Paths, ShapePaths, field_paths}
use Rattle.dr_moves.proofs.WalkFollows.{group_paths, paths_from}
use Rattle.dr_walk.specs.Flat.{leaves_in}
use Rattle.dr_walk.proofs.LeafLemmas.{has_shape_near, has_shape_far, leaves_followed}
use Rattle.dr_walk.proofs.SizeLemmas.{split_in_two}
use Rattle.std.specs.Prelude.{option_map}
use Rattle.dr_levels.specs.Views.{triplet_levels}
use Rattle.dr_walk.specs.Walking.{triplet_count, LastGives, count_one, count_some, pending, is_known, IsAtLevels}
use Rattle.dr_walk.specs.declared.level_walk.LevelWalk.{LevelWalk}
use Rattle.dr_walk.proofs.WalkLemmas.{left_past}
use Rattle.std.proofs.lemmas.Bool.{eqb-true}

-- ---- each instance has a leaf

abbrev starts : Items → Bool
starts nothing = false
starts (give g I) = true
starts (visit v B I) = true

abbrev HasFirst : List ℕ → Type 0
HasFirst [] = ⊥
HasFirst (i ∷ is) = Unit {0}

abbrev InVisit : ℕ → Bool → List ℕ → ℕ → (ℕ → Type 0) → Type 0
InVisit zero b is l good = ⊥
InVisit (suc n) b is l good = (b ≡ true) × HasFirst is × (1 ≤ l) × good n

-- repeated fields stand in each other at most so deep, and each has a leaf
abbrev pub Good : Items → ℕ → Type 0
Good nothing n = Unit {0}
Good (give g I) n = Good I n
Good (visit v B I) n = InVisit n (starts B) v.leaves v.level (λ m. Good B m) × Good I n

good_followed : (I J : Items) (n : ℕ) → Good I n → Good J n → Good (followed_by I J) n
good_followed nothing J n g h = h
good_followed (give f I) J n g h = good_followed I J n g h
good_followed (visit v B I) J n g h = (g.0, good_followed I J n g.1 h)

good_gives : (k : Kind) (F : List Pick) (G : List Gate) (b d n : ℕ) → Good (give_each k F G b d) n
good_gives k [] G b d n = tt
good_gives k (f ∷ F) G b d n = good_gives k F G b d n

good_unless : (c : Repetition) (I : Items) (n : ℕ) → Good I n → Good (unless_repeated c I) n
good_unless required I n g = g
good_unless optional I n g = g
good_unless repeated I n g = tt

mutual
  good_near : (fs : Fields) (F : List Pick) (G : List Gate) (d n : ℕ) → Good (near_items fs F G d) n
  good_near no_fields F G d n = tt
  good_near (field m c h fs) F G d n = good_followed (unless_repeated c (field_near_items c h (first_picks F) G d)) (near_items fs (later_picks F) G d) n
      (good_unless c (field_near_items c h (first_picks F) G d) n (good_field_near c h (first_picks F) G d n)) (good_near fs (later_picks F) G d n)

  good_field_near : (c : Repetition) (h : Shape) (F : List Pick) (G : List Gate) (d n : ℕ) → Good (field_near_items c h F G d) n
  good_field_near c (leaf k) F G d n = good_gives k F G (low_in c d) (d + definition_count c) n
  good_field_near c (group fs) F G d n = good_near fs F (gated c F d G) (d + definition_count c) n

good_shape_near : (h : Shape) (F : List Pick) (G : List Gate) (d n : ℕ) → Good (shape_near_items h F G d) n
good_shape_near (leaf k) F G d n = good_gives k F G d d n
good_shape_near (group fs) F G d n = good_near fs F G d n

-- ---- the orders have each leaf

parts_of : (c : Repetition) (near : List ℕ) → length (order_unless_repeated c near) + length (where_repeated c near) ≡ length near
parts_of required near = omega arith
parts_of optional near = omega arith
parts_of repeated near = omega arith

index_count : (F : List Pick) → length (indexes F) ≡ length F
index_count [] = refl
index_count (f ∷ F) = ap suc (index_count F)

none_in : (F : List Pick) → Paths no_fields F → length F ≡ 0
none_in [] h = refl
none_in (f ∷ F) h = absurd (true≢false (sym h.0))

mutual
  order_count : (fs : Fields) (F : List Pick) → Paths fs F → length (near_order fs F) + length (far_order fs F) ≡ length F
  order_count no_fields F h = let z = none_in F h in omega (arith, z)
  order_count (field m c s fs) F h =
      let p = field_paths m c s fs F h in
      let e = split_in_two m c s fs F h in
      let a = shape_order_count s (first_picks F) p.first in
      let b = order_count fs (later_picks F) p.others in
      let x = length-append (order_unless_repeated c (shape_near_order s (first_picks F))) (near_order fs (later_picks F)) in
      let y = length-append (where_repeated c (shape_near_order s (first_picks F)) ++ shape_far_order s (first_picks F)) (far_order fs (later_picks F)) in
      let z = length-append (where_repeated c (shape_near_order s (first_picks F))) (shape_far_order s (first_picks F)) in
      let w = parts_of c (shape_near_order s (first_picks F)) in
      omega (arith, e, a, b, x, y, z, w)

  shape_order_count : (s : Shape) (F : List Pick) → ShapePaths s F → length (shape_near_order s F) + length (shape_far_order s F) ≡ length F
  shape_order_count (leaf k) F h = let z = index_count F in omega (arith, z)
  shape_order_count (group fs) F h = order_count fs F (group_paths fs F h)

some_leaf : (is : List ℕ) → 1 ≤ length is → HasFirst is
some_leaf [] h = never h
  where
    never : 1 ≤ 0 → ⊥
    never x = omega (arith, x)
some_leaf (i ∷ is) h = tt

some_start : (I : Items) → 1 ≤ length (leaves_in I) → starts I ≡ true
some_start nothing h = absurd (never h)
  where
    never : 1 ≤ 0 → ⊥
    never x = omega (arith, x)
some_start (give g I) h = refl
some_start (visit v B I) h = refl

abbrev ShapeGood : Shape → List Pick → Type 0
ShapeGood h F = (k l : ℕ) (G : List Gate) (d n : ℕ) → shape_depth h ≤ n → Good (shape_far_items h F k l G d) n

good_field_far : (c : Repetition) (h : Shape) (F : List Pick) → ShapeGood h F → ShapePaths h F → (k l : ℕ) (G : List Gate) (d n : ℕ) → 1 + shape_depth h ≤ n
    → Good (where_selected F (by_repetition c
    (visit (visit_of h F k l G d) (followed_by (shape_near_items h F [] (d + definition_count c)) (shape_far_items h F (suc k) (l + repetition_count c) [] (d + definition_count c))) nothing)
    (shape_far_items h F k (l + repetition_count c) (gated c F d G) (d + definition_count c)))) n
good_field_far c h [] f w k l G d n e = tt
good_field_far required h (p ∷ F) f w k l G d n e = f k (l + 0) G (d + 0) n (omega (arith, e))
good_field_far optional h (p ∷ F) f w k l G d n e = f k (l + 0) (gated optional (p ∷ F) d G) (d + 1) n (omega (arith, e))
good_field_far repeated h (p ∷ F) f w k l G d zero e = absurd (never e)
  where
    never : 1 + shape_depth h ≤ 0 → ⊥
    never x = omega (arith, x)
good_field_far repeated h (p ∷ F) f w k l G d (suc n) e =
    let near = shape_near_items h (p ∷ F) [] (d + 1) in
    let far = shape_far_items h (p ∷ F) (suc k) (l + 1) [] (d + 1) in
    let c = shape_order_count h (p ∷ F) w in
    let a = length-append (shape_near_order h (p ∷ F)) (shape_far_order h (p ∷ F)) in
    let i = leaves_followed near far in
    let x = ap length (has_shape_near h (p ∷ F) [] (d + 1)).leaves in
    let y = ap length (has_shape_far h (p ∷ F) (suc k) (l + 1) [] (d + 1)).leaves in
    let z = length-append (leaves_in near) (leaves_in far) in
    let m = ap length i in
    ((some_start (followed_by near far) (omega (arith, c, x, y, z, m)), some_leaf (shape_near_order h (p ∷ F) ++ shape_far_order h (p ∷ F)) (omega (arith, c, a)), omega arith, good_followed near far n (good_shape_near h (p ∷ F) [] (d + 1) n) (f (suc k) (l + 1) [] (d + 1) n (omega (arith, e)))), tt)

mutual
  good_far : (fs : Fields) (F : List Pick) (k l : ℕ) (G : List Gate) (d n : ℕ) → Paths fs F → depth fs ≤ n → Good (far_items fs F k l G d) n
  good_far no_fields F k l G d n h e = tt
  good_far (field m c s fs) F k l G d n h e =
      let p = field_paths m c s fs F h in
      good_followed
      (where_selected (first_picks F) (by_repetition c
      (visit (visit_of s (first_picks F) k l G d) (followed_by (shape_near_items s (first_picks F) [] (d + definition_count c)) (shape_far_items s (first_picks F) (suc k) (l + repetition_count c) [] (d + definition_count c))) nothing)
      (shape_far_items s (first_picks F) k (l + repetition_count c) (gated c (first_picks F) d G) (d + definition_count c))))
      (far_items fs (later_picks F) (k + (repetition_count c + shape_repeated_fields s)) l G d) n
      (good_field_far c s (first_picks F) (shape_good s (first_picks F) p.first) p.first k l G d n (omega (arith, e)))
      (good_far fs (later_picks F) (k + (repetition_count c + shape_repeated_fields s)) l G d n p.others (omega (arith, e)))

  shape_good : (s : Shape) (F : List Pick) → ShapePaths s F → ShapeGood s F
  shape_good (leaf j) F h k l G d n e = tt
  shape_good (group fs) F h k l G d n e = good_far fs F k l G d n (group_paths fs F h) e

pub good_course : (fs : Fields) (F : List (List Step)) (n : ℕ) → list_all (is_leaf_path fs) F ≡ true → depth fs ≤ n → Good (course fs F) n
good_course fs F n h e = good_followed (near_items fs (picks F) [] 0) (far_items fs (picks F) 1 0 [] 0) n (good_near fs (picks F) [] 0 n) (good_far fs (picks F) 1 0 [] 0 n (group_paths fs (picks F) (paths_from fs 0 F h)) e)

-- ---- what is owed: an end for each instance that is open, two moves for each record to come

abbrev laps : Stack → ℕ
laps (between n) = 0
laps (in_record n) = 0
laps (in_items I r next S) = laps S
laps (in_absent is r d S) = laps S
laps (lapped v B S) = suc (laps S)
laps (entering v B S) = laps S

abbrev owed : Stack → ℕ
owed (between n) = 2 * n
owed (in_record n) = 1 + 2 * n
owed (in_items I r next S) = owed S
owed (in_absent is r d S) = owed S
owed (lapped v B S) = 1 + owed S
owed (entering v B S) = owed S

-- below what is open no instance is about to be entered
abbrev IsBelow : Stack → Type 0
IsBelow (between n) = Unit {0}
IsBelow (in_record n) = Unit {0}
IsBelow (in_items I r next S) = Unit {0}
IsBelow (in_absent is r d S) = Unit {0}
IsBelow (lapped v B S) = Unit {0}
IsBelow (entering v B S) = ⊥

abbrev Room : ℕ → Items → ℕ → Type 0
Room h I l = (m : ℕ) × Good I m × (l + m ≤ h)

abbrev LapRoom : ℕ → Visit → Items → ℕ → Type 0
LapRoom h v B l = (starts B ≡ true) × (1 ≤ v.level) × Room h B (suc l)

abbrev Fine : ℕ → Stack → Type 0
Fine h (between n) = Unit {0}
Fine h (in_record n) = Unit {0}
Fine h (in_items I r next S) = Room h I (laps S) × (IsBelow S × Fine h S)
Fine h (in_absent is r d S) = IsBelow S × Fine h S
Fine h (lapped v B S) = LapRoom h v B (laps S) × (IsBelow S × Fine h S)
Fine h (entering v B S) = LapRoom h v B (laps S) × (IsBelow S × Fine h S)

laps_within : (h : ℕ) (S : Stack) → Fine h S → laps S ≤ h
laps_within h (between n) f = omega arith
laps_within h (in_record n) f = omega arith
laps_within h (in_items I r next S) f = laps_within h S f.1.1
laps_within h (in_absent is r d S) f = laps_within h S f.1
laps_within h (lapped v B S) f = let r : Room h B (suc (laps S)) = f.0.2 in let e = r.2 in omega (arith, e)
laps_within h (entering v B S) f = laps_within h S f.1.1

-- a value is given before what is open is left
abbrev CanGive : Stack → Type 0
CanGive (between n) = ⊥
CanGive (in_record n) = ⊥
CanGive (in_items I r next S) = starts I ≡ true
CanGive (in_absent is r d S) = HasFirst is
CanGive (lapped v B S) = ⊥
CanGive (entering v B S) = ⊥

abbrev pub Pends : Left → Type 0
Pends left = (i : ℕ) × (t : Triplet) × (head_of (left i) ≡ Some t)

abbrev Awaits : Stack → Left → Type 0
Awaits (between n) left = Unit {0}
Awaits (in_record n) left = Unit {0}
Awaits (in_items I r next S) left = Unit {0}
Awaits (in_absent is r d S) left = Unit {0}
Awaits (lapped v B S) left = Unit {0}
Awaits (entering v B S) left = Pends left

no_wait : (S : Stack) (left : Left) → IsBelow S → Awaits S left
no_wait (between n) left b = tt
no_wait (in_record n) left b = tt
no_wait (in_items I r next S) left b = tt
no_wait (in_absent is r d S) left b = tt
no_wait (lapped v B S) left b = tt
no_wait (entering v B S) left b = absurd b

-- so many instances were entered since the last value
pub record State (h f : ℕ) (S : Stack) (left : Left) : Type 0 where
  pub fine : Fine h S
  pub within : f ≤ laps S
  pub safe : (f ≡ 0) ⊎ (CanGive S × Pends left)
  pub awaits : Awaits S left

abbrev values_in : Move → ℕ
values_in (enter k) = 0
values_in (value i t) = 1
values_in (leave k) = 0

pub record Moved (h f : ℕ) (S : Stack) (left : Left) (m : Move) (U : Stack) : Type 0 where
  pub fresh : ℕ
  pub count : 1 + owed U + 2 * f ≤ owed S + 65 * values_in m + 2 * fresh
  pub value : values_in m ≡ 1 → fresh ≡ 0
  pub state : State h fresh U (behind_move m left)

pub record Onward (h f : ℕ) (S : Stack) (left : Left) (U : Stack) : Type 0 where
  pub count : owed U ≡ owed S
  pub state : State h f U left

abbrev StepTo : ℕ → ℕ → Stack → Left → Turn → Type 0
StepTo h f S left (gives m U) = Moved h f S left m U
StepTo h f S left (goes_on U) = Onward h f S left U
StepTo h f S left done = Unit {0}
StepTo h f S left stops = Unit {0}

no_values : (f n : ℕ) → n ≡ 0 → n ≡ 1 → f ≡ 0
no_values f n z e = absurd (never (omega (arith, z, e)))
  where
    never : 1 ≤ 0 → ⊥
    never x = omega (arith, x)

next_is_there : (n : ℕ) (o : Option Triplet) → nat_lt n (definition_of o) ≡ true → (t : Triplet) × (o ≡ Some t)
next_is_there n None e = absurd (true≢false (sym e ∙ least n))
  where
    least : (n : ℕ) → nat_lt n 0 ≡ false
    least n = grind (arith, nat_tests)
next_is_there n (Some t) e = (t, refl)

level_is_there : (l : ℕ) (o : Option Triplet) → 1 ≤ l → (level_of o == l) ≡ true → (t : Triplet) × (o ≡ Some t)
level_is_there l None p e = absurd (true≢false (sym e ∙ other l p))
  where
    other : (n : ℕ) → 1 ≤ n → (0 == n) ≡ false
    other n p = grind (arith, nat_tests)
level_is_there l (Some t) p e = (t, refl)

-- where nothing can be given nothing was entered since
unless_given : (f : ℕ) (A P : Type 0) → (A → ⊥) → (f ≡ 0) ⊎ (A × P) → f ≡ 0
unless_given f A P n (inl z) = z
unless_given f A P n (inr c) = absurd (n c.0)

value_step : (h f i : ℕ) (S U : Stack) (left : Left) (t : Triplet) → f ≤ 32 → owed U ≡ owed S → Fine h U → Awaits U (behind_move (value i t) left) → Moved h f S left (value i t) U
value_step h f i S U left t w o x a = record { fresh = 0; count = omega (arith, w, o); value = λ e. refl; state = record { fine = x; within = omega arith; safe = inl refl; awaits = a } }

step_of : (top : Items) (h : ℕ) → h ≤ 32 → Good top h → (f : ℕ) (S : Stack) (left : Left) → State h f S left → StepTo h f S left (turn top S (next_of left))
step_of top h few good f (between zero) left s = tt
step_of top h few good f (between (suc n)) left s =
    let w = s.within in
    record { fresh = 0; count = omega (arith, w); value = λ e. refl; state = record { fine = ((h, good, omega arith), (tt, tt)); within = omega arith; safe = inl refl; awaits = tt } }
step_of top h few good f (in_record n) left s =
    let w = s.within in
    record { fresh = 0; count = omega (arith, w); value = λ e. refl; state = record { fine = tt; within = omega arith; safe = inl refl; awaits = tt } }
step_of top h few good f (in_items nothing r next S) left s =
    let z = unless_given f (false ≡ true) (Pends left) (λ e. true≢false (sym e)) s.safe in
    record { count = refl; state = record { fine = s.fine.1.1; within = s.within; safe = inl z; awaits = no_wait S left s.fine.1.0 } }
step_of top h few good f (in_items (give g I) r next S) left s = of (head_of (left g.leaf))
  where
    within : f ≤ 32
    within = let a = s.within in let b = laps_within h S s.fine.1.1 in omega (arith, a, b, few)

    by_bit : (b : Bool) (t : Triplet) → StepTo h f (in_items (give g I) r next S) left (if b then gives (value g.leaf t) (in_items I r next S) else stops)
    by_bit true t = value_step h f g.leaf (in_items (give g I) r next S) (in_items I r next S) left t within refl s.fine tt
    by_bit false t = tt

    of : (o : Option Triplet) → StepTo h f (in_items (give g I) r next S) left (turn_given g I r next S o)
    of None = tt
    of (Some t) = by_bit (is_due g r next t) t
step_of top h few good f (in_items (visit v B I) r next S) left s = by_room s.fine.0.0 s.fine.0.1 s.fine.0.2
  where
    by_room : (m : ℕ) → Good (visit v B I) m → laps S + m ≤ h → StepTo h f (in_items (visit v B I) r next S) left (turn top (in_items (visit v B I) r next S) (next_of left))
    by_room zero g e = absurd g.0
    by_room (suc m) g e = by_bit (are_open next v.gates && nat_lt v.low (definition_of (head_of (left v.leaf)))) refl
      where
        W : Stack
        W = in_items I r next S

        by_bit : (b : Bool) → (are_open next v.gates && nat_lt v.low (definition_of (head_of (left v.leaf)))) ≡ b → StepTo h f (in_items (visit v B I) r next S) left
            (if b then gives (enter v.number) (in_items B r (definitions_of (next_of left)) (lapped v B (in_items I r next S))) else goes_on (in_absent v.leaves r (reach next v.gates v.low) (in_items I r next S)))
        by_bit true q =
            let p = next_is_there v.low (head_of (left v.leaf)) (and_parts (are_open next v.gates) (nat_lt v.low (definition_of (head_of (left v.leaf)))) q).1 in
            let w = s.within in
            record {
              fresh = suc f;
              count = omega arith;
              value = no_values (suc f) 0 refl;
              state = record {
                fine = ((m, g.0.3, omega (arith, e)), (tt, ((g.0.0, g.0.2, (m, g.0.3, omega (arith, e))), (tt, ((suc m, g.1, e), s.fine.1)))));
                within = omega (arith, w);
                safe = inr (g.0.0, (v.leaf, p.0, p.1));
                awaits = tt;
              };
            }
        by_bit false q = record { count = refl; state = record { fine = (tt, ((suc m, g.1, e), s.fine.1)); within = s.within; safe = absent s.safe; awaits = tt } }
          where
            absent : (f ≡ 0) ⊎ ((true ≡ true) × Pends left) → (f ≡ 0) ⊎ (HasFirst v.leaves × Pends left)
            absent (inl z) = inl z
            absent (inr c) = inr (g.0.1, c.1)
step_of top h few good f (in_absent [] r d S) left s =
    let z = unless_given f ⊥ (Pends left) (λ e. e) s.safe in
    record { count = refl; state = record { fine = s.fine.1; within = s.within; safe = inl z; awaits = no_wait S left s.fine.0 } }
step_of top h few good f (in_absent (i ∷ is) r d S) left s = of (head_of (left i))
  where
    within : f ≤ 32
    within = let a = s.within in let b = laps_within h S s.fine.1 in omega (arith, a, b, few)

    by_bit : (b : Bool) (t : Triplet) → StepTo h f (in_absent (i ∷ is) r d S) left (if b then gives (value i t) (in_absent is r d S) else stops)
    by_bit true t = value_step h f i (in_absent (i ∷ is) r d S) (in_absent is r d S) left t within refl s.fine tt
    by_bit false t = tt

    of : (o : Option Triplet) → StepTo h f (in_absent (i ∷ is) r d S) left (turn_absent i is r d S o)
    of None = tt
    of (Some t) = by_bit (is_null r d t) t
step_of top h few good f (lapped v B S) left s = by_bit (level_of (head_of (left v.leaf)) == v.level) refl
  where
    z : f ≡ 0
    z = unless_given f ⊥ (Pends left) (λ e. e) s.safe

    by_bit : (b : Bool) → (level_of (head_of (left v.leaf)) == v.level) ≡ b → Moved h f (lapped v B S) left (leave v.number) (if b then entering v B S else S)
    by_bit true q =
        let p = level_is_there v.level (head_of (left v.leaf)) s.fine.0.1 q in
        record { fresh = 0; count = omega (arith, z); value = λ e. refl; state = record { fine = s.fine; within = omega arith; safe = inl refl; awaits = (v.leaf, p.0, p.1) } }
    by_bit false q = record { fresh = 0; count = omega (arith, z); value = λ e. refl; state = record { fine = s.fine.1.1; within = omega arith; safe = inl refl; awaits = no_wait S left s.fine.1.0 } }
step_of top h few good f (entering v B S) left s =
    let z = unless_given f ⊥ (Pends left) (λ e. e) s.safe in
    record {
      fresh = 1;
      count = omega (arith, z);
      value = no_values 1 0 refl;
      state = record { fine = (s.fine.0.2, (tt, s.fine)); within = omega arith; safe = inr (s.fine.0.0, s.awaits); awaits = tt };
    }

-- ---- all moves

pub record Bound (h f : ℕ) (S : Stack) (ms : List Move) (V : Stack) (end : Left) : Type 0 where
  pub fresh : ℕ
  pub count : length ms + owed V + 2 * f ≤ owed S + 65 * triplet_count ms + 2 * fresh
  pub last : (fresh ≡ 0) ⊎ ((j : ℕ) → LastGives j ms → ⊥)
  pub same : ms ≡ [] → fresh ≡ f
  pub state : State h fresh V end

last_more : (m : Move) (ms : List Move) (g k : ℕ) → (values_in m ≡ 1 → k ≡ 0) → (ms ≡ [] → g ≡ k) → (g ≡ 0) ⊎ ((j : ℕ) → LastGives j ms → ⊥) → (g ≡ 0) ⊎ ((j : ℕ) → LastGives j (m ∷ ms) → ⊥)
last_more (enter n) [] g k v s l = inr (λ j x. x)
last_more (value i t) [] g k v s l = inl (s refl ∙ v refl)
last_more (leave n) [] g k v s l = inr (λ j x. x)
last_more m (n ∷ ms) g k v s l = l

one_count : (m : Move) (ms : List Move) → triplet_count (m ∷ ms) ≡ values_in m + triplet_count ms
one_count (enter k) ms = omega arith
one_count (value i t) ms = omega arith
one_count (leave k) ms = omega arith

pub bounded : (top : Items) (h : ℕ) → h ≤ 32 → Good top h → (f : ℕ) (S V : Stack) (left end : Left) (ms : List Move) → Leads top S left ms V end → State h f S left → Bound h f S ms V end
bounded top h few good f _ _ _ _ _ (stays S left) s = record { fresh = f; count = omega arith; last = inr (λ j x. x); same = λ e. refl; state = s }
bounded top h few good f _ _ _ _ _ (moves S U V left end m ms e l) s =
    let x : Moved h f S left m U = subst (StepTo h f S left) e (step_of top h few good f S left s) in
    let b = bounded top h few good x.fresh U V (behind_move m left) end ms l x.state in
    let a = x.count in
    let c = b.count in
    let t = one_count m ms in
    record { fresh = b.fresh; count = omega (arith, a, c, t); last = last_more m ms b.fresh x.fresh x.value b.same b.last; same = λ q. absurd (cons_is_nil q); state = b.state }
  where
    cons_is_nil : m ∷ ms ≡ [] → ⊥
    cons_is_nil q = cc
bounded top h few good f _ _ _ _ _ (turns S U V left end ms e l) s =
    let x : Onward h f S left U = subst (StepTo h f S left) e (step_of top h few good f S left s) in
    let b = bounded top h few good f U V left end ms l x.state in
    let a = x.count in
    let c = b.count in
    record { fresh = b.fresh; count = omega (arith, a, c); last = b.last; same = b.same; state = b.state }

-- ---- a walk's moves

count_at : (P : ℕ → Option (ℕ × ℕ)) (n i : ℕ) (t : ℕ × ℕ) → i < n → P i ≡ Some t → 1 ≤ count_some P n
count_at P zero i t l e = absurd (never l)
  where
    never : i < 0 → ⊥
    never x = omega (arith, x)
count_at P (suc n) i t l e = by_bit (i == n) refl (λ m. count_at P n i t m e)
  where
    by_bit : (b : Bool) → (i == n) ≡ b → (i < n → 1 ≤ count_some P n) → 1 ≤ count_one (P n) + count_some P n
    by_bit true q r = let z : count_one (P n) ≡ 1 = ap count_one (sym (ap P (eqb-true i n q)) ∙ e) in omega (arith, z)
    by_bit false q r = let m : i < n = less i n l q in let z = r m in omega (arith, z)
      where
        less : (a b : ℕ) → a < suc b → (a == b) ≡ false → a < b
        less a b x y = grind (arith, nat_tests)

pub few_moves : (fs : Fields) (F : List (List Step)) (rows : ℕ) (C : List (List Triplet)) (ms : List Move) (left : Left) (w : LevelWalk) → IsAtLevels fs F rows C ms left w → list_all (is_leaf_path fs) F ≡ true → w.given ≤ 2 * rows + 65 * w.taken
few_moves fs F rows C ms left w at p =
    let b = bounded (course fs F) 32 (omega arith) (good_course fs F 32 p at.deep) 0 (between rows) at.stack (columns_of C) left ms at.leads (record { fine = tt; within = omega arith; safe = inl refl; awaits = tt }) in
    let c = b.count in
    let g = at.gave in
    let t = at.took in
    let f = let x = b.state.within in let y = laps_within 32 at.stack b.state.fine in fits_in b.fresh (laps at.stack) x y in
    by_safe b.fresh c f b.state.safe b.last
  where
    fits_in : (a b : ℕ) → a ≤ b → b ≤ 32 → a ≤ 32
    fits_in a b x y = omega (arith, x, y)

    past : (a b : ℕ) → nat_lt a b ≡ false → b ≤ a
    past a b e = grind (arith, nat_tests)

    none_is_some : (t : Triplet) → None ≡ Some t → ⊥
    none_is_some t q = cc

    inside : (i : ℕ) (t : Triplet) → head_of (left i) ≡ Some t → (b : Bool) → nat_lt i (length F) ≡ b → i < length F
    inside i t e true q = ltb-true i (length F) q
    inside i t e false q = absurd (none_is_some t (sym (ap head_of (left_past (course fs F) (between rows) at.stack C ms left (length F) i at.leads at.columns (past i (length F) q))) ∙ e))

    by_wanted : (f : ℕ) → length ms + owed at.stack + 0 ≤ 2 * rows + 65 * triplet_count ms + 2 * f → f ≤ 32 → Pends left → ((j : ℕ) → LastGives j ms → ⊥) → (o : Option ℕ) → w.wanted ≡ o → w.given ≤ 2 * rows + 65 * w.taken
    by_wanted f c l p n None e =
        let i = p.0 in
        let q : pending w i ≡ Some (triplet_levels p.1) = at.known i (ap (λ (o : Option ℕ). is_known o w.given i) e) ∙ ap (option_map triplet_levels) p.2 in
        let x = count_at (pending w) (length F) i (triplet_levels p.1) (inside i p.1 p.2 (nat_lt i (length F)) refl) q in
        let g = at.gave in
        let t = at.took in
        omega (arith, c, l, x, g, t)
    by_wanted f c l p n (Some j) e = asked (at.asks j e)
      where
        asked : (w.given ≡ 0) ⊎ LastGives j ms → w.given ≤ 2 * rows + 65 * w.taken
        asked (inl z) = omega (arith, z)
        asked (inr x) = absurd (n j x)

    none_fresh : (f : ℕ) → f ≡ 0 → length ms + owed at.stack + 0 ≤ 2 * rows + 65 * triplet_count ms + 2 * f → w.given ≤ 2 * rows + 65 * w.taken
    none_fresh f z c = let g = at.gave in let t = at.took in omega (arith, c, z, g, t)

    by_safe : (f : ℕ) → length ms + owed at.stack + 2 * 0 ≤ owed (between rows) + 65 * triplet_count ms + 2 * f → f ≤ 32 → (f ≡ 0) ⊎ (CanGive at.stack × Pends left) → (f ≡ 0) ⊎ ((j : ℕ) → LastGives j ms → ⊥) → w.given ≤ 2 * rows + 65 * w.taken
    by_safe f c l (inl z) n = none_fresh f z c
    by_safe f c l (inr s) (inl z) = none_fresh f z c
    by_safe f c l (inr s) (inr n) = by_wanted f c l s.1 n w.wanted refl
