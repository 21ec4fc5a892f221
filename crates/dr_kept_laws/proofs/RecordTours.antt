-- The tour of a record: one branch with the number 0, in which each has another number.
use Rattle.std.proofs.Common.{◌≡◌, ℕ, zero, suc, ◌+◌, ◌<◌, List, [], ◌∷◌, ◌++◌, Bool, true, false, Option, None, Some, refl, sym, ap, ap₂, subst, ◌∙◌, arith}
use Rattle.std.specs.Prelude.{if◌then◌else◌}
use Rattle.std.proofs.lemmas.Bool.{ne_eqb}
use Rattle.dr_meaning.specs.Schema.{Repetition, required, optional, repeated, Fields, no_fields, field, Shape, leaf, group, repetition_count, shape_repeated_fields}
use Rattle.dr_meaning.specs.Path.{Step}
use Rattle.dr_meaning.specs.Record.{Node, Instances, no_instances, instance, Instance}
use Rattle.dr_meaning.specs.Column.{Triplet, triplet}
use Rattle.dr_meaning.specs.Automaton.{Pick, picks, first_picks, later_picks, indexes}
use Rattle.dr_meaning.specs.Walk.{Move, enter, value, leave, Depth, inside, begun_later, first_of, first_slot, other_slots, node_of, value_there, triplet_moves, unless_repeated, enclosed, later_moves, repeated_moves, by_repetition, where_selected, moves_in, near_moves, far_moves, shape_near_moves, shape_far_moves, top, record_moves}
use Rattle.dr_meaning.proofs.WalkLemmas.{near_in, far_in}
use Rattle.dr_kept_laws.specs.Tours.{joined}
use Rattle.dr_kept_laws.specs.GroupFlow.{left_with}
use Rattle.dr_kept_laws.proofs.TourParts.{joined_moves}
use Rattle.dr_kept_laws.proofs.OffChain.{near_off, far_off}
use Rattle.dr_moves.specs.Context.{Context, with_value}
use Rattle.dr_moves.specs.Tour.{Tour, over, saw, inside as within_instance, moves_of, after}
use Rattle.dr_moves.specs.Condition.{Watch, some_true, rest_below, is_dropped}
use Rattle.dr_moves.specs.Cutting.{flow}

-- ---- no branch is a record's

abbrev pub NoRecord : List Move → Type 0
NoRecord [] = Unit {0}
NoRecord (enter zero ∷ ms) = ⊥
NoRecord (enter (suc k) ∷ ms) = NoRecord ms
NoRecord (value i t ∷ ms) = NoRecord ms
NoRecord (leave k ∷ ms) = NoRecord ms

both_no_record : (a b : List Move) → NoRecord a → NoRecord b → NoRecord (a ++ b)
both_no_record [] b x y = y
both_no_record (enter zero ∷ a) b x y = absurd x
both_no_record (enter (suc k) ∷ a) b x y = both_no_record a b x y
both_no_record (value i t ∷ a) b x y = both_no_record a b x y
both_no_record (leave k ∷ a) b x y = both_no_record a b x y

no_record_parts : (a b : List Move) → NoRecord (a ++ b) → NoRecord a × NoRecord b
no_record_parts [] b x = (tt, x)
no_record_parts (enter zero ∷ a) b x = absurd x
no_record_parts (enter (suc k) ∷ a) b x = no_record_parts a b x
no_record_parts (value i t ∷ a) b x = no_record_parts a b x
no_record_parts (leave k ∷ a) b x = no_record_parts a b x

enclosed_no_record : (k : ℕ) (ms : List Move) → 0 < k → NoRecord ms → NoRecord (enclosed k ms)
enclosed_no_record zero ms h x = absurd (omega (arith, h))
enclosed_no_record (suc k) ms h x = both_no_record ms (leave (suc k) ∷ []) x tt

values_no_record : (is : List ℕ) (t : Triplet) → NoRecord (triplet_moves is t)
values_no_record [] t = tt
values_no_record (i ∷ is) t = values_no_record is t

unless_no_record : (r : Repetition) (ms : List Move) → NoRecord ms → NoRecord (unless_repeated r ms)
unless_no_record required ms x = x
unless_no_record optional ms x = x
unless_no_record repeated ms x = tt

where_no_record : (G : List Pick) (ms : List Move) → NoRecord ms → NoRecord (where_selected G ms)
where_no_record [] ms x = tt
where_no_record (g ∷ G) ms x = x

later_no_record : (k : ℕ) (moves : Option Instance → List Move) → 0 < k → ((x : Option Instance) → NoRecord (moves x)) → (xs : Instances) → NoRecord (later_moves k moves xs)
later_no_record k moves h f no_instances = tt
later_no_record k moves h f (instance x xs) = both_no_record (enclosed k (moves (Some x))) (later_moves k moves xs) (enclosed_no_record k (moves (Some x)) h (f (Some x))) (later_no_record k moves h f xs)

repeated_no_record : (k : ℕ) (first later : Option Instance → List Move) → 0 < k → ((x : Option Instance) → NoRecord (first x)) → ((x : Option Instance) → NoRecord (later x)) → (xs : Instances) → NoRecord (repeated_moves k first later xs)
repeated_no_record k first later h f g no_instances = f None
repeated_no_record k first later h f g (instance x xs) = both_no_record (enclosed k (first (Some x))) (later_moves k later xs) (enclosed_no_record k (first (Some x)) h (f (Some x))) (later_no_record k later h g xs)

by_no_record : (r : Repetition) (each : Instances → List Move) (only : Option Instance → List Move) → ((xs : Instances) → NoRecord (each xs)) → ((x : Option Instance) → NoRecord (only x)) → (xs : Instances) → NoRecord (by_repetition r each only xs)
by_no_record required each only f g xs = g (first_of xs)
by_no_record optional each only f g xs = g (first_of xs)
by_no_record repeated each only f g xs = f xs

mutual
  near_no_record : (fs : Fields) (G : List Pick) (at : Depth) (n : Node) → NoRecord (near_moves fs G at n)
  near_no_record no_fields G at n = tt
  near_no_record (field m r s fs) G at n =
      let x = first_of (first_slot n) in
      both_no_record (near_in r s (first_picks G) at n) (near_moves fs (later_picks G) at (other_slots n))
      (unless_no_record r (shape_near_moves s (first_picks G) (inside r at (first_of (first_slot n))) (first_of (first_slot n))) (shape_near_no_record s (first_picks G) (inside r at (first_of (first_slot n))) (first_of (first_slot n))))
      (near_no_record fs (later_picks G) at (other_slots n))

  shape_near_no_record : (s : Shape) (G : List Pick) (at : Depth) (x : Option Instance) → NoRecord (shape_near_moves s G at x)
  shape_near_no_record (leaf k) G at x = values_no_record (indexes G) (triplet at.repetition at.definition (value_there x))
  shape_near_no_record (group fs) G at x = near_no_record fs G at (node_of x)

mutual
  far_no_record : (fs : Fields) (G : List Pick) (k : ℕ) (at : Depth) (n : Node) → 0 < k → NoRecord (far_moves fs G k at n)
  far_no_record no_fields G k at n h = tt
  far_no_record (field m r s fs) G k at n h =
      both_no_record (far_in r s (first_picks G) k at n) (far_moves fs (later_picks G) (k + (repetition_count r + shape_repeated_fields s)) at (other_slots n))
      (where_no_record (first_picks G) _ (by_no_record r
      (repeated_moves k (λ x. moves_in (shape_near_moves s (first_picks G)) (shape_far_moves s (first_picks G) (suc k)) (inside r at x) x) (λ x. moves_in (shape_near_moves s (first_picks G)) (shape_far_moves s (first_picks G) (suc k)) (inside r (begun_later at) x) x))
      (λ x. shape_far_moves s (first_picks G) k (inside r at x) x)
      (repeated_no_record k (λ x. moves_in (shape_near_moves s (first_picks G)) (shape_far_moves s (first_picks G) (suc k)) (inside r at x) x) (λ x. moves_in (shape_near_moves s (first_picks G)) (shape_far_moves s (first_picks G) (suc k)) (inside r (begun_later at) x) x) h
      (λ x. both_no_record (shape_near_moves s (first_picks G) (inside r at x) x) (shape_far_moves s (first_picks G) (suc k) (inside r at x) x) (shape_near_no_record s (first_picks G) (inside r at x) x) (shape_far_no_record s (first_picks G) (suc k) (inside r at x) x (omega arith)))
      (λ x. both_no_record (shape_near_moves s (first_picks G) (inside r (begun_later at) x) x) (shape_far_moves s (first_picks G) (suc k) (inside r (begun_later at) x) x) (shape_near_no_record s (first_picks G) (inside r (begun_later at) x) x) (shape_far_no_record s (first_picks G) (suc k) (inside r (begun_later at) x) x (omega arith))))
      (λ x. shape_far_no_record s (first_picks G) k (inside r at x) x h)
      (first_slot n)))
      (far_no_record fs (later_picks G) (k + (repetition_count r + shape_repeated_fields s)) at (other_slots n) (omega (arith, h)))

  shape_far_no_record : (s : Shape) (G : List Pick) (k : ℕ) (at : Depth) (x : Option Instance) → 0 < k → NoRecord (shape_far_moves s G k at x)
  shape_far_no_record (leaf j) G k at x h = tt
  shape_far_no_record (group fs) G k at x h = far_no_record fs G k at (node_of x) h

-- ---- a record's tour

pub record RecordTour (fs : Fields) (F : List (List Step)) (n : Node) : Type 0 where
  pub within : Tour
  pub no_record : NoRecord (moves_of within)
  pub moves : moves_of (within_instance 0 within over) ≡ record_moves fs F n

pub record_tour : (fs : Fields) (F : List (List Step)) (n : Node) → RecordTour fs F n
record_tour fs F n =
    let a = near_off 1 1 fs (picks F) top n in
    let b = far_off fs (picks F) 1 top n in
    let m : moves_of (joined a.tour b.tour) ≡ near_moves fs (picks F) top n ++ far_moves fs (picks F) 1 top n = joined_moves a.tour b.tour ∙ ap₂ (λ (x y : List Move). x ++ y) a.moves b.moves in
    record {
      within = joined a.tour b.tour;
      no_record = subst NoRecord (sym m) (both_no_record (near_moves fs (picks F) top n) (far_moves fs (picks F) 1 top n) (near_no_record fs (picks F) top n) (far_no_record fs (picks F) 1 top n (omega arith)));
      moves = ap (λ (ms : List Move). enter 0 ∷ (ms ++ leave 0 ∷ [])) m;
    }

-- where nothing is seen, and something is added at records alone, nothing is made
pub nothing_seen : (X : Type 0) (more : Context → List X) (w : Watch) (r : Option (List ℕ)) (c : Context) (T : Tour) → NoRecord (moves_of T) → flow (λ k d. []) (left_with more) w r c T ≡ []
nothing_seen X more w r c over h = refl
nothing_seen X more w r c (saw i t T) h = nothing_seen X more w r (with_value i t.value c) T h
nothing_seen X more w r c (within_instance zero B T) h = absurd h
nothing_seen X more w r c (within_instance (suc k) B T) h =
    let p : NoRecord (moves_of B) × NoRecord (moves_of T) = no_record_parts (moves_of B) (leave (suc k) ∷ moves_of T) h in
    ap₂ (λ (x y : List X). (if is_dropped (rest_below (suc k) r) (some_true w c B) then [] else left_with more (suc k) (after c B) x) ++ y) (nothing_seen X more w (rest_below (suc k) r) c B p.0) (nothing_seen X more w r (after c B) T p.1)
    ∙ ap (λ (b : Bool). (if is_dropped (rest_below (suc k) r) (some_true w c B) then [] else (if b then [] ++ more (after c B) else [])) ++ []) (ne_eqb (suc k) 0 (omega arith))
    ∙ either (is_dropped (rest_below (suc k) r) (some_true w c B))
  where
    either : (b : Bool) → ◌++◌ {A = X} (if b then [] else []) [] ≡ []
    either true = refl
    either false = refl
