-- Branches off the condition's chain are kept.
use Rattle.std.proofs.Common.{◌≡◌, ℕ, suc, ◌+◌, ◌<◌, ◌≤◌, List, [], ◌∷◌, ◌++◌, false, Option, None, Some, refl, sym, ap, ap₂, ◌∙◌, append_assoc, arith}
use Rattle.dr_meaning.specs.Schema.{Repetition, required, optional, repeated, Fields, no_fields, field, Shape, leaf, group, repetition_count, repeated_fields, shape_repeated_fields}
use Rattle.dr_meaning.specs.Record.{Node, no_slots, Instances, no_instances, instance, Instance}
use Rattle.dr_meaning.specs.Column.{Triplet, triplet}
use Rattle.dr_meaning.specs.Automaton.{Pick, first_picks, later_picks, indexes}
use Rattle.dr_meaning.specs.Walk.{Move, enter, value, leave, Depth, inside, begun_later, first_of, first_slot, other_slots, node_of, value_there, triplet_moves, unless_repeated, enclosed, later_moves, repeated_moves, moves_in, near_moves, far_moves, shape_near_moves, shape_far_moves}
use Rattle.dr_meaning.proofs.WalkLemmas.{near_in, far_in}
use Rattle.dr_kept_laws.specs.Tours.{joined}
use Rattle.dr_kept_laws.specs.Leavings.{Leaving, tour_leavings, Standing, off, if_selected, each_leaving, field_leavings, own_leaving, node_leavings, instance_leavings}
use Rattle.dr_kept_laws.proofs.TourParts.{joined_moves}
use Rattle.dr_moves.specs.Context.{Context, with_value}
use Rattle.dr_moves.specs.Tour.{Tour, over, saw, inside as within_instance, moves_of, after}
use Rattle.dr_moves.specs.Condition.{Watch, some_true, rest_below, is_dropped}

pub joined_leavings : (w : Watch) (r : Option (List ℕ)) (c : Context) (T U : Tour) → tour_leavings w r c (joined T U) ≡ tour_leavings w r c T ++ tour_leavings w r (after c T) U
joined_leavings w r c over U = refl
joined_leavings w r c (saw i t T) U = joined_leavings w r (with_value i t.value c) T U
joined_leavings w r c (within_instance k B T) U =
    let l : Leaving = record { number = k; dropped = is_dropped (rest_below k r) (some_true w c B) } in
    ap (λ (x : List Leaving). tour_leavings w (rest_below k r) c B ++ l ∷ x) (joined_leavings w r (after c B) T U)
    ∙ sym (append_assoc (tour_leavings w (rest_below k r) c B) (l ∷ tour_leavings w r (after c B) T) (tour_leavings w r (after (after c B) T) U))

-- the numbers of a tour's own branches, from one on, below another
abbrev pub IsWithin : ℕ → ℕ → Tour → Type 0
IsWithin low high over = Unit {0}
IsWithin low high (saw i t T) = IsWithin low high T
IsWithin low high (within_instance k B T) = (low ≤ k) × (k < high) × IsWithin low high T

joined_within : (low high : ℕ) (T U : Tour) → IsWithin low high T → IsWithin low high U → IsWithin low high (joined T U)
joined_within low high over U h g = g
joined_within low high (saw i t T) U h g = joined_within low high T U h g
joined_within low high (within_instance k B T) U h g = (h.0, h.1, joined_within low high T U h.2 g)

wider_within : (low high lower higher : ℕ) → lower ≤ low → high ≤ higher → (T : Tour) → IsWithin low high T → IsWithin lower higher T
wider_within low high lower higher a b over h = tt
wider_within low high lower higher a b (saw i t T) h = wider_within low high lower higher a b T h
wider_within low high lower higher a b (within_instance k B T) h = (omega (arith, a, h.0), omega (arith, b, h.1), wider_within low high lower higher a b T h.2)

-- moves whose branches are off the chain, with numbers within these
pub record Off (low high : ℕ) (ms : List Move) (ls : List Leaving) : Type 0 where
  pub tour : Tour
  pub moves : moves_of tour ≡ ms
  pub within : IsWithin low high tour
  pub told : (w : Watch) (c : Context) → tour_leavings w None c tour ≡ ls

nothing_off : (low high : ℕ) → Off low high [] []
nothing_off low high = record { tour = over; moves = refl; within = tt; told = λ w c. refl }

append_off : (low high : ℕ) (a b : List Move) (p q : List Leaving) → Off low high a p → Off low high b q → Off low high (a ++ b) (p ++ q)
append_off low high a b p q x y = record {
  tour = joined x.tour y.tour;
  moves = joined_moves x.tour y.tour ∙ ap₂ (λ (m n : List Move). m ++ n) x.moves y.moves;
  within = joined_within low high x.tour y.tour x.within y.within;
  told = λ w c. joined_leavings w None c x.tour y.tour ∙ ap₂ (λ (m n : List Leaving). m ++ n) (x.told w c) (y.told w (after c x.tour));
}

wider_off : (low high lower higher : ℕ) → lower ≤ low → high ≤ higher → (ms : List Move) (ls : List Leaving) → Off low high ms ls → Off lower higher ms ls
wider_off low high lower higher a b ms ls x = record { tour = x.tour; moves = x.moves; within = wider_within low high lower higher a b x.tour x.within; told = x.told }

enclosed_off : (low high l h k : ℕ) → l ≤ k → k < h → (ms : List Move) (ls : List Leaving) → Off low high ms ls → Off l h (enclosed k ms) (ls ++ record { number = k; dropped = false } ∷ [])
enclosed_off low high l h k a b ms ls x = record {
  tour = within_instance k x.tour over;
  moves = ap (λ (m : List Move). enter k ∷ (m ++ leave k ∷ [])) x.moves;
  within = (a, b, tt);
  told = λ w c. ap (λ (m : List Leaving). m ++ record { number = k; dropped = false } ∷ []) (x.told w c);
}

pub same_off : (low high : ℕ) (ms : List Move) (p q : List Leaving) → p ≡ q → Off low high ms p → Off low high ms q
same_off low high ms p q e x = record { tour = x.tour; moves = x.moves; within = x.within; told = λ w c. x.told w c ∙ e }

-- ---- where nothing is, no branch is

mutual
  pub no_node_leavings : (fs : Fields) (G : List Pick) (k : ℕ) (stand : ℕ → Standing) → node_leavings fs G k stand no_slots ≡ []
  no_node_leavings no_fields G k stand = refl
  no_node_leavings (field m r s fs) G k stand =
      ap₂ (λ (x y : List Leaving). x ++ y) (by_repetition_of r (first_picks G) (no_leavings s (first_picks G) k (stand 0)))
      (no_node_leavings fs (later_picks G) (k + (repetition_count r + shape_repeated_fields s)) (λ i. stand (suc i)))
    where
      by_repetition_of : (r : Repetition) (B : List Pick) → instance_leavings s (first_picks G) k (stand 0) None ≡ []
          → if_selected B (field_leavings r (own_leaving k (stand 0) (instance_leavings s (first_picks G) (suc k) (stand 0))) (instance_leavings s (first_picks G) k (stand 0)) no_instances) ≡ []
      by_repetition_of r [] e = refl
      by_repetition_of required (g ∷ B) e = e
      by_repetition_of optional (g ∷ B) e = e
      by_repetition_of repeated (g ∷ B) e = refl

  pub no_leavings : (s : Shape) (G : List Pick) (k : ℕ) (a : Standing) → instance_leavings s G k a None ≡ []
  no_leavings (leaf j) G k a = refl
  no_leavings (group fs) G k a = no_node_leavings fs G k _

-- ---- the leaves of a level

values_off : (low high : ℕ) (is : List ℕ) (t : Triplet) → Off low high (triplet_moves is t) []
values_off low high [] t = nothing_off low high
values_off low high (i ∷ is) t =
    let x = values_off low high is t in
    record { tour = saw i t x.tour; moves = ap (λ (m : List Move). value i t ∷ m) x.moves; within = x.within; told = λ w c. x.told w (with_value i t.value c) }

mutual
  pub near_off : (low high : ℕ) (fs : Fields) (G : List Pick) (at : Depth) (n : Node) → Off low high (near_moves fs G at n) []
  near_off low high no_fields G at n = nothing_off low high
  near_off low high (field m r s fs) G at n =
      append_off low high (near_in r s (first_picks G) at n) (near_moves fs (later_picks G) at (other_slots n)) [] []
      (by_repetition_of r (shape_near_moves s (first_picks G) (inside r at (first_of (first_slot n))) (first_of (first_slot n))) (shape_near_off low high s (first_picks G) (inside r at (first_of (first_slot n))) (first_of (first_slot n))))
      (near_off low high fs (later_picks G) at (other_slots n))
    where
      by_repetition_of : (r : Repetition) (ms : List Move) → Off low high ms [] → Off low high (unless_repeated r ms) []
      by_repetition_of required ms x = x
      by_repetition_of optional ms x = x
      by_repetition_of repeated ms x = nothing_off low high

  pub shape_near_off : (low high : ℕ) (s : Shape) (G : List Pick) (at : Depth) (x : Option Instance) → Off low high (shape_near_moves s G at x) []
  shape_near_off low high (leaf k) G at x = values_off low high (indexes G) (triplet at.repetition at.definition (value_there x))
  shape_near_off low high (group fs) G at x = near_off low high fs G at (node_of x)

-- ---- the repeated fields of a level

abbrev FarOff : Shape → List Pick → Type 0
FarOff s G = (k : ℕ) (at : Depth) (x : Option Instance) → Off k (k + shape_repeated_fields s) (shape_far_moves s G k at x) (instance_leavings s G k off x)

-- an instance of a repeated field, without its Enter and Leave
pub instance_off : (low high : ℕ) (s : Shape) (G : List Pick) → FarOff s G → (k : ℕ) (at : Depth) (x : Option Instance) → low ≤ k → k + shape_repeated_fields s ≤ high
    → Off low high (moves_in (shape_near_moves s G) (shape_far_moves s G k) at x) (instance_leavings s G k off x)
instance_off low high s G f k at x a b =
    append_off low high (shape_near_moves s G at x) (shape_far_moves s G k at x) [] (instance_leavings s G k off x) (shape_near_off low high s G at x)
    (wider_off k (k + shape_repeated_fields s) low high a b (shape_far_moves s G k at x) (instance_leavings s G k off x) (f k at x))

later_off : (low high : ℕ) (s : Shape) (G : List Pick) → FarOff s G → (k : ℕ) (at : Depth) (xs : Instances) → low ≤ k → k < high
    → Off low high (later_moves k (λ x. moves_in (shape_near_moves s G) (shape_far_moves s G (suc k)) (inside repeated (begun_later at) x) x) xs) (each_leaving (own_leaving k off (instance_leavings s G (suc k) off)) xs)
later_off low high s G f k at no_instances a b = nothing_off low high
later_off low high s G f k at (instance x xs) a b =
    append_off low high (enclosed k (moves_in (shape_near_moves s G) (shape_far_moves s G (suc k)) (inside repeated (begun_later at) (Some x)) (Some x))) _
    (own_leaving k off (instance_leavings s G (suc k) off) x) (each_leaving (own_leaving k off (instance_leavings s G (suc k) off)) xs)
    (enclosed_off (suc k) (suc k + shape_repeated_fields s) low high k a b _ (instance_leavings s G (suc k) off (Some x)) (instance_off (suc k) (suc k + shape_repeated_fields s) s G f (suc k) (inside repeated (begun_later at) (Some x)) (Some x) (omega arith) (omega arith)))
    (later_off low high s G f k at xs a b)

-- one field
pub field_off : (r : Repetition) (s : Shape) (G : List Pick) → FarOff s G → (k : ℕ) (at : Depth) (n : Node)
    → Off k (k + (repetition_count r + shape_repeated_fields s)) (far_in r s G k at n) (if_selected G (field_leavings r (own_leaving k off (instance_leavings s G (suc k) off)) (instance_leavings s G k off) (first_slot n)))
field_off r s [] f k at n = nothing_off k (k + (repetition_count r + shape_repeated_fields s))
field_off required s (g ∷ G) f k at n = wider_off k (k + shape_repeated_fields s) k (k + (0 + shape_repeated_fields s)) (omega arith) (omega arith) _ _ (f k (inside required at (first_of (first_slot n))) (first_of (first_slot n)))
field_off optional s (g ∷ G) f k at n = wider_off k (k + shape_repeated_fields s) k (k + (0 + shape_repeated_fields s)) (omega arith) (omega arith) _ _ (f k (inside optional at (first_of (first_slot n))) (first_of (first_slot n)))
field_off repeated s (g ∷ G) f k at n = by_slot (first_slot n)
  where
    by_slot : (xs : Instances) → Off k (k + (1 + shape_repeated_fields s)) (repeated_moves k (λ x. moves_in (shape_near_moves s (g ∷ G)) (shape_far_moves s (g ∷ G) (suc k)) (inside repeated at x) x)
        (λ x. moves_in (shape_near_moves s (g ∷ G)) (shape_far_moves s (g ∷ G) (suc k)) (inside repeated (begun_later at) x) x) xs) (each_leaving (own_leaving k off (instance_leavings s (g ∷ G) (suc k) off)) xs)
    by_slot no_instances = same_off k (k + (1 + shape_repeated_fields s)) _ (instance_leavings s (g ∷ G) (suc k) off None) [] (no_leavings s (g ∷ G) (suc k) off)
        (instance_off k (k + (1 + shape_repeated_fields s)) s (g ∷ G) f (suc k) (inside repeated at None) None (omega arith) (omega arith))
    by_slot (instance x xs) = append_off k (k + (1 + shape_repeated_fields s)) (enclosed k (moves_in (shape_near_moves s (g ∷ G)) (shape_far_moves s (g ∷ G) (suc k)) (inside repeated at (Some x)) (Some x))) _
        (own_leaving k off (instance_leavings s (g ∷ G) (suc k) off) x) (each_leaving (own_leaving k off (instance_leavings s (g ∷ G) (suc k) off)) xs)
        (enclosed_off (suc k) (suc k + shape_repeated_fields s) k (k + (1 + shape_repeated_fields s)) k (omega arith) (omega arith) _ (instance_leavings s (g ∷ G) (suc k) off (Some x)) (instance_off (suc k) (suc k + shape_repeated_fields s) s (g ∷ G) f (suc k) (inside repeated at (Some x)) (Some x) (omega arith) (omega arith)))
        (later_off k (k + (1 + shape_repeated_fields s)) s (g ∷ G) f k at xs (omega arith) (omega arith))

mutual
  pub far_off : (fs : Fields) (G : List Pick) (k : ℕ) (at : Depth) (n : Node) → Off k (k + repeated_fields fs) (far_moves fs G k at n) (node_leavings fs G k (λ i. off) n)
  far_off no_fields G k at n = nothing_off k (k + 0)
  far_off (field m r s fs) G k at n =
      let j = k + (repetition_count r + shape_repeated_fields s) in
      append_off k (k + (repetition_count r + shape_repeated_fields s + repeated_fields fs)) (far_in r s (first_picks G) k at n) (far_moves fs (later_picks G) j at (other_slots n))
      (if_selected (first_picks G) (field_leavings r (own_leaving k off (instance_leavings s (first_picks G) (suc k) off)) (instance_leavings s (first_picks G) k off) (first_slot n)))
      (node_leavings fs (later_picks G) j (λ i. off) (other_slots n))
      (wider_off k j k (k + (repetition_count r + shape_repeated_fields s + repeated_fields fs)) (omega arith) (omega arith) (far_in r s (first_picks G) k at n) _ (field_off r s (first_picks G) (λ k at x. shape_far_off s (first_picks G) k at x) k at n))
      (wider_off j (j + repeated_fields fs) k (k + (repetition_count r + shape_repeated_fields s + repeated_fields fs)) (omega arith) (omega arith) (far_moves fs (later_picks G) j at (other_slots n)) _ (far_off fs (later_picks G) j at (other_slots n)))

  pub shape_far_off : (s : Shape) (G : List Pick) → FarOff s G
  shape_far_off (leaf j) G k at x = nothing_off k (k + 0)
  shape_far_off (group fs) G k at x = far_off fs G k at (node_of x)
