-- The walk of records follows the course of their schema: going through it.
use Rattle.std.proofs.Common.{◌≡◌, ℕ, suc, ◌+◌, ◌<◌, ◌≤◌, List, [], ◌∷◌, ◌++◌, length, Bool, true, false, Option, None, Some, refl, sym, ap, subst, ◌∙◌, append_assoc, true≢false, arith}
use Rattle.std.specs.Prelude.{◌||◌, ◌==◌}
use Rattle.std.specs.List.{list_all, flat_map, slice_get}
use Rattle.std.proofs.lemmas.Bool.{and_parts, eq-eqb, ne_eqb, lt-ltb, le-ltb}
use Rattle.dr_meaning.specs.Schema.{Repetition, required, optional, repeated, Kind, Fields, no_fields, field, Shape, leaf, group, repetition_count, definition_count, shape_repeated_fields}
use Rattle.dr_meaning.specs.Path.{Step, is_leaf_path}
use Rattle.dr_meaning.specs.Record.{Value, Node, no_slots, slot, gap, Instances, no_instances, instance, Instance, atom, inner, count_instances, fits_repetition, all_instances, is_record, is_instance, is_of_kind, is_atom_of}
use Rattle.dr_meaning.specs.Column.{triplet}
use Rattle.dr_meaning.specs.Automaton.{Pick, picks, picks_from, first_picks, later_picks, indexes, near_order, far_order, shape_near_order, shape_far_order, unless_repeated as order_unless_repeated, where_repeated}
use Rattle.dr_meaning.specs.Walk.{Move, enter, leave, Depth, inside, first_of, first_slot, other_slots, node_of, triplet_moves, unless_repeated as walk_unless_repeated, enclosed, later_moves, moves_in, near_moves, far_moves, shape_near_moves, shape_far_moves, top, record_moves, walk}
use Rattle.dr_meaning.specs.AutomatonLaws.{next_level}
use Rattle.dr_meaning.proofs.Blocks.{and₃_parts}
use Rattle.dr_meaning.proofs.WalkLemmas.{Only, picks_only}
use Rattle.dr_moves.specs.Course.{Gate, reach, are_open, comes_to, low_in, Give, Visit, Items, nothing, give, visit, followed_by, gated, give_each, unless_repeated, where_selected, by_repetition, visit_of, near_items, far_items, field_near_items, shape_near_items, shape_far_items, course}
use Rattle.dr_moves.specs.Turning.{Stack, between, in_record, in_items, in_absent, lapped}
use Rattle.dr_moves.proofs.Following.{next_definition, Follows, ended, record_begun, record_ended, items_done, given, visited, skipped, absent_done, absent_given, lap_more, lap_last, entered}
use Rattle.dr_moves.proofs.Made.{nulls}
use Rattle.dr_moves.proofs.GateLemmas.{Shut, open_reach, open_gated, shut_gated, gated_shut, nulls_append, no_shape_near_order, no_shape_far_order}
use Rattle.dr_moves.proofs.DeadMoves.{shape_near_in_absent, shape_far_in_absent, two_parts}
use Rattle.dr_moves.proofs.NodesMade.{required_items, depth, body, slot_far, in_first, in_later}
use Rattle.dr_moves.proofs.FollowsWalk.{absent_next, first_def, first_def_above, AllOnly, Paths, ShapePaths, Heads, SlotHeads, Low, all_only_behind, all_only_beside, field_paths, heads_behind, heads_beside, low_behind, low_beside, behind_without, low_past, begun, heads_begun, low_begun}

-- ---- items, one after another

pub followed_assoc : (I J K : Items) → followed_by (followed_by I J) K ≡ followed_by I (followed_by J K)
followed_assoc nothing J K = refl
followed_assoc (give g I) J K = ap (give g) (followed_assoc I J K)
followed_assoc (visit v B I) J K = ap (visit v B) (followed_assoc I J K)

pub followed_nothing : (I : Items) → followed_by I nothing ≡ I
followed_nothing nothing = refl
followed_nothing (give g I) = ap (give g) (followed_nothing I)
followed_nothing (visit v B I) = ap (visit v B) (followed_nothing I)

pub group_paths : (fs : Fields) (F : List Pick) → ShapePaths (group fs) F → Paths fs F
group_paths fs [] h = tt
group_paths fs (f ∷ F) h = (h.0, group_paths fs F h.1)

low_more : (l m : ℕ) (F : List Pick) (ms : List Move) → l ≤ m → Low l F ms → Low m F ms
low_more l m [] ms h q = tt
low_more l m (f ∷ F) ms h q = (omega (arith, q.0), low_more l m F ms h q.1)

-- without selected leaves there is nothing
mutual
  no_near_items : (fs : Fields) (G : List Gate) (d : ℕ) → near_items fs [] G d ≡ nothing
  no_near_items no_fields G d = refl
  no_near_items (field n required h fs) G d = rw (no_field_near_items required h G d) (no_near_items fs G d)
  no_near_items (field n optional h fs) G d = rw (no_field_near_items optional h G d) (no_near_items fs G d)
  no_near_items (field n repeated h fs) G d = no_near_items fs G d

  no_field_near_items : (c : Repetition) (h : Shape) (G : List Gate) (d : ℕ) → field_near_items c h [] G d ≡ nothing
  no_field_near_items c (leaf k) G d = refl
  no_field_near_items c (group fs) G d = no_near_items fs (gated c [] d G) (d + definition_count c)

mutual
  no_near_moves : (fs : Fields) (at : Depth) (n : Node) → near_moves fs [] at n ≡ []
  no_near_moves no_fields at n = refl
  no_near_moves (field m required h fs) at n = rw (no_shape_near_moves h (inside required at (first_of (first_slot n))) (first_of (first_slot n))) (no_near_moves fs at (other_slots n))
  no_near_moves (field m optional h fs) at n = rw (no_shape_near_moves h (inside optional at (first_of (first_slot n))) (first_of (first_slot n))) (no_near_moves fs at (other_slots n))
  no_near_moves (field m repeated h fs) at n = no_near_moves fs at (other_slots n)

  no_shape_near_moves : (h : Shape) (at : Depth) (x : Option Instance) → shape_near_moves h [] at x ≡ []
  no_shape_near_moves (leaf k) at x = refl
  no_shape_near_moves (group fs) at x = no_near_moves fs at (node_of x)

module _ (T : Items) where
  -- the moves go through these items, whatever comes behind
  abbrev Goes : Items → ℕ → (ℕ → ℕ) → List Move → Type 0
  Goes I r next a = (J : Items) (S : Stack) (ms : List Move) → Follows T (in_items J r next S) ms → Follows T (in_items (followed_by I J) r next S) (a ++ ms)

  both_go : (I J : Items) (r : ℕ) (next : ℕ → ℕ) (a b : List Move) → Goes I r next a → Goes J r next b → Goes (followed_by I J) r next (a ++ b)
  both_go I J r next a b f g K S ms h = rw (followed_assoc I J K, append_assoc a b ms) (f (followed_by J K) S (b ++ ms) (g K S ms h))

  goes_nothing : (r : ℕ) (next : ℕ → ℕ) → Goes nothing r next []
  goes_nothing r next J S ms h = h

  absent_goes : (is : List ℕ) (r d : ℕ) (S : Stack) (ms : List Move) → Follows T S ms → Follows T (in_absent is r d S) (nulls is r d ++ ms)
  absent_goes [] r d S ms h = absent_done r d S ms h
  absent_goes (i ∷ is) r d S ms h = absent_given i is r d S (nulls is r d ++ ms) (absent_goes is r d S ms h)

  -- ---- behind shut gates

  comes_shut : (next : ℕ → ℕ) (g : Give) (e : ℕ) → Shut next g.gates e → comes_to next g e ≡ true
  comes_shut next g e s = rw s.shut (eq-eqb e (reach next g.gates g.low) (sym (s.reached g.low)))

  gives_dead : (k : Kind) (F : List Pick) (G : List Gate) (b d r : ℕ) (next : ℕ → ℕ) (e : ℕ) → Shut next G e → e < d → Goes (give_each k F G b d) r next (nulls (indexes F) r e)
  gives_dead k [] G b d r next e s l = goes_nothing r next
  gives_dead k (f ∷ F) G b d r next e s l = λ J S ms h.
      let n : (e == d) ≡ false = ne_eqb e d (omega (arith, l)) in
      given (record { leaf = f.index; kind = k; gates = G; low = b; full = d }) (followed_by (give_each k F G b d) J) r next S (triplet r e None) (nulls (indexes F) r e ++ ms) refl (comes_shut next (record { leaf = f.index; kind = k; gates = G; low = b; full = d }) e s) (rw n refl) (gives_dead k F G b d r next e s l J S ms h)

  unless_goes : (c : Repetition) (I : Items) (is : List ℕ) (r : ℕ) (next : ℕ → ℕ) (e : ℕ) → Goes I r next (nulls is r e) → Goes (unless_repeated c I) r next (nulls (order_unless_repeated c is) r e)
  unless_goes required I is r next e f = f
  unless_goes optional I is r next e f = f
  unless_goes repeated I is r next e f = goes_nothing r next

  mutual
    near_dead_goes : (fs : Fields) (F : List Pick) (G : List Gate) (d r : ℕ) (next : ℕ → ℕ) (e : ℕ) → Shut next G e → e < d → Goes (near_items fs F G d) r next (nulls (near_order fs F) r e)
    near_dead_goes no_fields F G d r next e s l = goes_nothing r next
    near_dead_goes (field n c h fs) F G d r next e s l = subst (Goes (near_items (field n c h fs) F G d) r next) (sym (nulls_append (order_unless_repeated c (shape_near_order h (first_picks F))) (near_order fs (later_picks F)) r e))
        (both_go (unless_repeated c (field_near_items c h (first_picks F) G d)) (near_items fs (later_picks F) G d) r next _ _
        (unless_goes c (field_near_items c h (first_picks F) G d) (shape_near_order h (first_picks F)) r next e (field_near_dead_goes c h (first_picks F) G d r next e s l))
        (near_dead_goes fs (later_picks F) G d r next e s l))

    field_near_dead_goes : (c : Repetition) (h : Shape) (F : List Pick) (G : List Gate) (d r : ℕ) (next : ℕ → ℕ) (e : ℕ) → Shut next G e → e < d → Goes (field_near_items c h F G d) r next (nulls (shape_near_order h F) r e)
    field_near_dead_goes c (leaf k) F G d r next e s l = gives_dead k F G (low_in c d) (d + definition_count c) r next e s (omega (arith, l))
    field_near_dead_goes c (group fs) F G d r next e s l = near_dead_goes fs F (gated c F d G) (d + definition_count c) r next e (gated_shut next c F d G e s) (omega (arith, l))

  visit_dead_goes : (v : Visit) (B : Items) (r : ℕ) (next : ℕ → ℕ) (e : ℕ) → Shut next v.gates e → Goes (visit v B nothing) r next (nulls v.leaves r e)
  visit_dead_goes v B r next e s = λ J S ms h. skipped v B J r next S (nulls v.leaves r e ++ ms) (rw s.shut refl) (rw (s.reached v.low) (absent_goes v.leaves r e (in_items J r next S) ms h))

  abbrev ShapeDeadGoes : Shape → List Pick → ℕ → (ℕ → ℕ) → ℕ → Type 0
  ShapeDeadGoes h B r next e = (k l : ℕ) (G : List Gate) (d : ℕ) → Shut next G e → e < d → Goes (shape_far_items h B k l G d) r next (nulls (shape_far_order h B) r e)

  field_dead_goes : (c : Repetition) (h : Shape) (B : List Pick) (r : ℕ) (next : ℕ → ℕ) (e : ℕ) → ShapeDeadGoes h B r next e → (k l : ℕ) (G H : List Gate) (b d : ℕ) → Shut next G e → Shut next H e → e < d
      → Goes (where_selected B (by_repetition c (visit (visit_of h B k l H b) (followed_by (shape_near_items h B [] d) (shape_far_items h B (suc k) (l + repetition_count c) [] d)) nothing) (shape_far_items h B k (l + repetition_count c) G d))) r next
      (nulls (where_repeated c (shape_near_order h B) ++ shape_far_order h B) r e)
  field_dead_goes required h [] r next e f k l G H b d s u z = rw (no_shape_far_order h) (goes_nothing r next)
  field_dead_goes optional h [] r next e f k l G H b d s u z = rw (no_shape_far_order h) (goes_nothing r next)
  field_dead_goes repeated h [] r next e f k l G H b d s u z = rw (no_shape_near_order h, no_shape_far_order h) (goes_nothing r next)
  field_dead_goes required h (p ∷ F) r next e f k l G H b d s u z = f k (l + 0) G d s z
  field_dead_goes optional h (p ∷ F) r next e f k l G H b d s u z = f k (l + 0) G d s z
  field_dead_goes repeated h (p ∷ F) r next e f k l G H b d s u z = visit_dead_goes (visit_of h (p ∷ F) k l H b) _ r next e u

  mutual
    far_dead_goes : (fs : Fields) (F : List Pick) (r : ℕ) (next : ℕ → ℕ) (e : ℕ) (k l : ℕ) (G : List Gate) (d : ℕ) → Shut next G e → e < d → Goes (far_items fs F k l G d) r next (nulls (far_order fs F) r e)
    far_dead_goes no_fields F r next e k l G d s b = goes_nothing r next
    far_dead_goes (field n c h fs) F r next e k l G d s b = subst (Goes (far_items (field n c h fs) F k l G d) r next) (sym (nulls_append (where_repeated c (shape_near_order h (first_picks F)) ++ shape_far_order h (first_picks F)) (far_order fs (later_picks F)) r e))
        (both_go _ (far_items fs (later_picks F) (k + (repetition_count c + shape_repeated_fields h)) l G d) r next _ _
        (field_dead_goes c h (first_picks F) r next e (shape_far_dead_goes h (first_picks F) r next e) k l (gated c (first_picks F) d G) G d (d + definition_count c) (gated_shut next c (first_picks F) d G e s) s (omega (arith, b)))
        (far_dead_goes fs (later_picks F) r next e (k + (repetition_count c + shape_repeated_fields h)) l G d s b))

    shape_far_dead_goes : (h : Shape) (F : List Pick) (r : ℕ) (next : ℕ → ℕ) (e : ℕ) → ShapeDeadGoes h F r next e
    shape_far_dead_goes (leaf j) F r next e k l G d s b = goes_nothing r next
    shape_far_dead_goes (group fs) F r next e k l G d s b = far_dead_goes fs F r next e k l G d s b

  -- ---- a level's leaves

  abbrev NearGoes : Shape → List Pick → Type 0
  NearGoes h F = (l : ℕ) (G : List Gate) (d r : ℕ) (next : ℕ → ℕ) (x : Instance) → are_open next G ≡ true → Heads next F d x → is_instance h x ≡ true → Goes (shape_near_items h F G d) r next (shape_near_moves h F (depth l r d) (Some x))

  comes_full : (next : ℕ → ℕ) (g : Give) → are_open next g.gates ≡ true → comes_to next g g.full ≡ true
  comes_full next g o = rw (o, eq-eqb g.full g.full refl) (or_true (g.full == g.low))
    where
      or_true : (b : Bool) → (b || true) ≡ true
      or_true true = refl
      or_true false = refl

  comes_low : (next : ℕ → ℕ) (g : Give) → are_open next g.gates ≡ true → comes_to next g g.low ≡ true
  comes_low next g o = rw (o, eq-eqb g.low g.low refl) refl

  atom_given : (k : Kind) (v : Value) (F : List Pick) (G : List Gate) (b d r : ℕ) (next : ℕ → ℕ) → are_open next G ≡ true → is_of_kind k v ≡ true → Goes (give_each k F G b d) r next (triplet_moves (indexes F) (triplet r d (Some v)))
  atom_given k v [] G b d r next o u = goes_nothing r next
  atom_given k v (f ∷ F) G b d r next o u = λ J S ms h.
      let n : (d == d) ≡ true = eq-eqb d d refl in
      given (record { leaf = f.index; kind = k; gates = G; low = b; full = d }) (followed_by (give_each k F G b d) J) r next S (triplet r d (Some v)) (triplet_moves (indexes F) (triplet r d (Some v)) ++ ms) refl
      (comes_full next (record { leaf = f.index; kind = k; gates = G; low = b; full = d }) o) (rw n u) (atom_given k v F G b d r next o u J S ms h)

  null_given : (k : Kind) (F : List Pick) (G : List Gate) (b d r : ℕ) (next : ℕ → ℕ) → are_open next G ≡ true → b < d → Goes (give_each k F G b d) r next (triplet_moves (indexes F) (triplet r b None))
  null_given k [] G b d r next o l = goes_nothing r next
  null_given k (f ∷ F) G b d r next o l = λ J S ms h.
      let n : (b == d) ≡ false = ne_eqb b d (omega (arith, l)) in
      given (record { leaf = f.index; kind = k; gates = G; low = b; full = d }) (followed_by (give_each k F G b d) J) r next S (triplet r b None) (triplet_moves (indexes F) (triplet r b None) ++ ms) refl
      (comes_low next (record { leaf = f.index; kind = k; gates = G; low = b; full = d }) o) (rw n refl) (null_given k F G b d r next o l J S ms h)

  leaf_goes : (k : Kind) (F : List Pick) → NearGoes (leaf k) F
  leaf_goes k F l G d r next (atom v) o a u = atom_given k v F G d d r next o u
  leaf_goes k F l G d r next (inner n) o a u = absurd (true≢false (sym u))

  gate_shut : (next : ℕ → ℕ) (p : Pick) (F : List Pick) (d : ℕ) (G : List Gate) → are_open next G ≡ true → next p.index ≡ d → Shut next (G ++ record { leaf = p.index; definition = d } ∷ []) d
  gate_shut next p F d G o e = shut_gated next G (record { leaf = p.index; definition = d }) o (le-ltb d (next p.index) (omega (arith, e)))

  gate_open : (next : ℕ → ℕ) (p : Pick) (F : List Pick) (d : ℕ) (G : List Gate) (x : Instance) → are_open next G ≡ true → next p.index ≡ first_def p.rest (d + 1) x → are_open next (G ++ record { leaf = p.index; definition = d } ∷ []) ≡ true
  gate_open next p F d G x o e = open_gated next G (record { leaf = p.index; definition = d }) o (lt-ltb d (next p.index) (omega (arith, e, first_def_above p.rest (d + 1) x)))

  slot_near_goes : (c : Repetition) (h : Shape) (B : List Pick) → NearGoes h B → (l : ℕ) (G : List Gate) (d r : ℕ) (next : ℕ → ℕ) (xs : Instances) → are_open next G ≡ true → SlotHeads next B d (d + definition_count c) xs
      → fits_repetition c (count_instances xs) ≡ true → all_instances (is_instance h) xs ≡ true
      → Goes (unless_repeated c (field_near_items c h B G d)) r next (walk_unless_repeated c (shape_near_moves h B (inside c (depth l r d) (first_of xs)) (first_of xs)))
  slot_near_goes repeated h B f l G d r next xs o a u v = goes_nothing r next
  slot_near_goes required h B f l G d r next no_instances o a u v = absurd (true≢false (sym u))
  slot_near_goes required h B f l G d r next (instance x xs) o a u v = rw (required_items h B G d) (f (l + 0) G (d + 0) r next x o a (and_parts _ _ v).0)
  slot_near_goes optional (leaf k) B f l G d r next no_instances o a u v = null_given k B G d (d + 1) r next o (omega arith)
  slot_near_goes optional (leaf k) B f l G d r next (instance (atom y) xs) o a u v = atom_given k y B G d (d + 1) r next o (and_parts _ _ v).0
  slot_near_goes optional (leaf k) B f l G d r next (instance (inner n) xs) o a u v = absurd (true≢false (sym (and_parts false (all_instances (is_atom_of k) xs) v).0))
  slot_near_goes optional (group fs) [] f l G d r next xs o a u v = rw (no_near_items fs (gated optional [] d G) (d + 1), no_near_moves fs (inside optional (depth l r d) (first_of xs)) (node_of (first_of xs))) (goes_nothing r next)
  slot_near_goes optional (group fs) (p ∷ F) f l G d r next no_instances o a u v = subst (Goes (near_items fs (p ∷ F) (gated optional (p ∷ F) d G) (d + 1)) r next) (sym (shape_near_in_absent (group fs) (p ∷ F) (depth (l + 0) r d)))
      (near_dead_goes fs (p ∷ F) (gated optional (p ∷ F) d G) (d + 1) r next d (gate_shut next p F d G o a.0) (omega arith))
  slot_near_goes optional (group fs) (p ∷ F) f l G d r next (instance x xs) o a u v = f (l + 0) (gated optional (p ∷ F) d G) (d + 1) r next x (gate_open next p F d G x o a.0) a (and_parts _ _ v).0

  mutual
    near_goes : (fs : Fields) (F : List Pick) → Paths fs F → (l : ℕ) (G : List Gate) (d r : ℕ) (next : ℕ → ℕ) (n : Node) → are_open next G ≡ true → Heads next F d (inner n) → is_record fs n ≡ true → Goes (near_items fs F G d) r next (near_moves fs F (depth l r d) n)
    near_goes no_fields F w l G d r next n o a u = goes_nothing r next
    near_goes (field m c h fs) F w l G d r next no_slots o a u = absurd (true≢false (sym u))
    near_goes (field m c h fs) F w l G d r next (gap n) o a u = absurd (true≢false (sym u))
    near_goes (field m c h fs) F w l G d r next (slot xs n) o a u =
        let t : (fits_repetition c (count_instances xs) ≡ true) × (all_instances (is_instance h) xs ≡ true) × (is_record fs n ≡ true) = and₃_parts _ _ _ u in
        let q = field_paths m c h fs F w in
        both_go (unless_repeated c (field_near_items c h (first_picks F) G d)) (near_items fs (later_picks F) G d) r next _ _
        (slot_near_goes c h (first_picks F) (shape_near_goes h (first_picks F) q.first) l G d r next xs o (heads_behind m c h fs next F d xs n w a) t.0 t.1)
        (near_goes fs (later_picks F) q.others l G d r next n o (heads_beside next F d xs n a) t.2)

    shape_near_goes : (h : Shape) (F : List Pick) → ShapePaths h F → NearGoes h F
    shape_near_goes (leaf k) F w l G d r next x o a u = leaf_goes k F l G d r next x o a u
    shape_near_goes (group fs) F w l G d r next (atom v) o a u = absurd (true≢false (sym u))
    shape_near_goes (group fs) F w l G d r next (inner n) o a u = near_goes fs F (group_paths fs F w) l G d r next n o a u

  -- ---- its repeated fields

  abbrev GoesLow : ℕ → List Pick → Items → ℕ → (ℕ → ℕ) → List Move → Type 0
  GoesLow l F I r next a = (J : Items) (S : Stack) (ms : List Move) → Low l F ms → Follows T (in_items J r next S) ms → Follows T (in_items (followed_by I J) r next S) (a ++ ms)

  abbrev FarGoes : Shape → List Pick → Type 0
  FarGoes h F = (k l : ℕ) (G : List Gate) (d r : ℕ) (next : ℕ → ℕ) (x : Instance) → are_open next G ≡ true → Heads next F d x → is_instance h x ≡ true → GoesLow l F (shape_far_items h F k l G d) r next (shape_far_moves h F k (depth l r d) (Some x))

  body_goes : (h : Shape) (F : List Pick) → NearGoes h F → FarGoes h F → AllOnly F F → ShapePaths h F → (k l d r : ℕ) (x : Instance) (S : Stack) (ms : List Move) → is_instance h x ≡ true → Low l F ms → Follows T S ms
      → Follows T (in_items (body h F k l d) r (next_definition (moves_in (shape_near_moves h F) (shape_far_moves h F k) (depth l r d) (Some x) ++ ms)) S) (moves_in (shape_near_moves h F) (shape_far_moves h F k) (depth l r d) (Some x) ++ ms)
  body_goes h F f g o w k l d r x S ms u low q =
      let next = next_definition (moves_in (shape_near_moves h F) (shape_far_moves h F k) (depth l r d) (Some x) ++ ms) in
      let a = heads_begun h F F k (depth l r d) x ms o w u in
      let far : Follows T (in_items (followed_by (shape_far_items h F k l [] d) nothing) r next S) (shape_far_moves h F k (depth l r d) (Some x) ++ ms) = g k l [] d r next x refl a u nothing S ms low (items_done r next S ms q) in
      let far2 : Follows T (in_items (shape_far_items h F k l [] d) r next S) (shape_far_moves h F k (depth l r d) (Some x) ++ ms) = subst (λ (y : Items). Follows T (in_items y r next S) (shape_far_moves h F k (depth l r d) (Some x) ++ ms)) (followed_nothing (shape_far_items h F k l [] d)) far in
      subst (λ (y : List Move). Follows T (in_items (body h F k l d) r next S) y) (sym (append_assoc (shape_near_moves h F (depth l r d) (Some x)) (shape_far_moves h F k (depth l r d) (Some x)) ms))
      (f l [] d r next x refl a u (shape_far_items h F k l [] d) S (shape_far_moves h F k (depth l r d) (Some x) ++ ms) far2)

  enclosed_far : (k : ℕ) (a b ms : List Move) → (enclosed k a ++ b) ++ ms ≡ enter k ∷ (a ++ leave k ∷ (b ++ ms))
  enclosed_far k a b ms = simp append_assoc

  low_laps : (h : Shape) (E B : List Pick) → AllOnly E B → ShapePaths h E → (k l d r : ℕ) (xs : Instances) (ms : List Move) → all_instances (is_instance h) xs ≡ true → Low l E ms → Low (suc l) E (later_moves k (in_later h B k (depth l r d)) xs ++ ms)
  low_laps h E B o w k l d r no_instances ms u low = low_more l (suc l) E ms (omega arith) low
  low_laps h E B o w k l d r (instance x xs) ms u low =
      let A = in_later h B k (depth l r d) (Some x) in
      subst (λ (y : List Move). Low (suc l) E y) (sym (enclosed_far k A (later_moves k (in_later h B k (depth l r d)) xs) ms))
      (low_entered (suc l) E k (A ++ leave k ∷ (later_moves k (in_later h B k (depth l r d)) xs ++ ms)) (low_begun h E B (suc k) (depth (l + 1) (suc l) (d + 1)) x (leave k ∷ (later_moves k (in_later h B k (depth l r d)) xs ++ ms)) o w (and_parts _ _ u).0))
    where
      low_entered : (l : ℕ) (E : List Pick) (k : ℕ) (ms : List Move) → Low l E ms → Low l E (enter k ∷ ms)
      low_entered l [] k ms h = tt
      low_entered l (e ∷ E) k ms h = (h.0, low_entered l E k ms h.1)

  low_left : (l : ℕ) (E : List Pick) (k : ℕ) (ms : List Move) → Low l E ms → Low l E (leave k ∷ ms)
  low_left l [] k ms h = tt
  low_left l (e ∷ E) k ms h = (h.0, low_left l E k ms h.1)

  laps_go : (h : Shape) (p : Pick) (B : List Pick) → NearGoes h (p ∷ B) → FarGoes h (p ∷ B) → AllOnly (p ∷ B) (p ∷ B) → ShapePaths h (p ∷ B) → (k l : ℕ) (G : List Gate) (d r : ℕ) (xs : Instances) (S : Stack) (ms : List Move) → all_instances (is_instance h) xs ≡ true
      → Low l (p ∷ B) ms → Follows T S ms → Follows T (lapped (visit_of h (p ∷ B) k l G d) (body h (p ∷ B) (suc k) (l + 1) (d + 1)) S) (leave k ∷ (later_moves k (in_later h (p ∷ B) k (depth l r d)) xs ++ ms))
  laps_go h p B f g o w k l G d r no_instances S ms u low q = lap_last (visit_of h (p ∷ B) k l G d) (body h (p ∷ B) (suc k) (l + 1) (d + 1)) S ms (ne_eqb (next_level p.index ms) (suc l) (omega (arith, low.0))) q
  laps_go h p B f g o w k l G d r (instance x xs) S ms u low q =
      let v = visit_of h (p ∷ B) k l G d in
      let A = in_later h (p ∷ B) k (depth l r d) (Some x) in
      let M = leave k ∷ (later_moves k (in_later h (p ∷ B) k (depth l r d)) xs ++ ms) in
      let z : (is_instance h x ≡ true) × (all_instances (is_instance h) xs ≡ true) = and_parts _ _ u in
      let b = begun h (p ∷ B) (suc k) (depth (l + 1) (suc l) (d + 1)) x M p.index p.rest o.0 w.0 z.0 in
      subst (λ (y : List Move). Follows T (lapped v (body h (p ∷ B) (suc k) (l + 1) (d + 1)) S) (leave k ∷ y)) (sym (enclosed_far k A (later_moves k (in_later h (p ∷ B) k (depth l r d)) xs) ms))
      (lap_more v (body h (p ∷ B) (suc k) (l + 1) (d + 1)) S (enter k ∷ (A ++ M)) (eq-eqb (next_level p.index (A ++ M)) (suc l) b.level)
      (entered v (body h (p ∷ B) (suc k) (l + 1) (d + 1)) S (A ++ M)
      (body_goes h (p ∷ B) f g o w (suc k) (l + 1) (d + 1) (suc l) x (lapped v (body h (p ∷ B) (suc k) (l + 1) (d + 1)) S) M z.0
      (low_left (l + 1) (p ∷ B) k (later_moves k (in_later h (p ∷ B) k (depth l r d)) xs ++ ms) (low_more (suc l) (l + 1) (p ∷ B) _ (omega arith) (low_laps h (p ∷ B) (p ∷ B) o w k l d r xs ms z.1 low)))
      (laps_go h p B f g o w k l G d r xs S ms z.1 low q))))

  visit_goes : (h : Shape) (p : Pick) (B : List Pick) → NearGoes h (p ∷ B) → FarGoes h (p ∷ B) → AllOnly (p ∷ B) (p ∷ B) → ShapePaths h (p ∷ B) → (k l : ℕ) (G : List Gate) (d r : ℕ) (next : ℕ → ℕ) (x : Instance) (xs : Instances) → is_instance h x ≡ true → all_instances (is_instance h) xs ≡ true → are_open next G ≡ true
      → GoesLow l (p ∷ B) (visit (visit_of h (p ∷ B) k l G d) (body h (p ∷ B) (suc k) (l + 1) (d + 1)) nothing) r next (enclosed k (in_first h (p ∷ B) k (depth l r d) (Some x)) ++ later_moves k (in_later h (p ∷ B) k (depth l r d)) xs)
  visit_goes h p B f g o w k l G d r next x xs u v q J S ms low y =
      let V = visit_of h (p ∷ B) k l G d in
      let A = in_first h (p ∷ B) k (depth l r d) (Some x) in
      let M = leave k ∷ (later_moves k (in_later h (p ∷ B) k (depth l r d)) xs ++ ms) in
      subst (λ (z : List Move). Follows T (in_items (visit V (body h (p ∷ B) (suc k) (l + 1) (d + 1)) J) r next S) z) (sym (enclosed_far k A (later_moves k (in_later h (p ∷ B) k (depth l r d)) xs) ms))
      (visited V (body h (p ∷ B) (suc k) (l + 1) (d + 1)) J r next S (A ++ M) (rw (q, lt-ltb d (next_definition (A ++ M) p.index) (omega (arith, (begun h (p ∷ B) (suc k) (depth (l + 1) r (d + 1)) x M p.index p.rest o.0 w.0 u).definition, first_def_above p.rest (d + 1) x))) refl)
      (body_goes h (p ∷ B) f g o w (suc k) (l + 1) (d + 1) r x (lapped V (body h (p ∷ B) (suc k) (l + 1) (d + 1)) (in_items J r next S)) M u
      (low_left (l + 1) (p ∷ B) k (later_moves k (in_later h (p ∷ B) k (depth l r d)) xs ++ ms) (low_more (suc l) (l + 1) (p ∷ B) _ (omega arith) (low_laps h (p ∷ B) (p ∷ B) o w k l d r xs ms v low)))
      (laps_go h p B f g o w k l G d r xs (in_items J r next S) ms v low y)))

  slot_far_goes : (c : Repetition) (h : Shape) (B : List Pick) → NearGoes h B → FarGoes h B → AllOnly B B → ShapePaths h B → (k l : ℕ) (G : List Gate) (d r : ℕ) (next : ℕ → ℕ) (xs : Instances) → are_open next G ≡ true → SlotHeads next B d (d + definition_count c) xs
      → fits_repetition c (count_instances xs) ≡ true → all_instances (is_instance h) xs ≡ true
      → GoesLow l B (where_selected B (by_repetition c (visit (visit_of h B k l G d) (body h B (suc k) (l + repetition_count c) (d + definition_count c)) nothing) (shape_far_items h B k (l + repetition_count c) (gated c B d G) (d + definition_count c)))) r next
      (slot_far c h B k (depth l r d) xs)
  slot_far_goes c h [] f g o w k l G d r next xs q a u v J S ms low y = y
  slot_far_goes required h (p ∷ B) f g o w k l G d r next no_instances q a u v J S ms low y = absurd (true≢false (sym u))
  slot_far_goes required h (p ∷ B) f g o w k l G d r next (instance x xs) q a u v J S ms low y = g k (l + 0) G (d + 0) r next x q a (and_parts _ _ v).0 J S ms (low_more l (l + 0) (p ∷ B) ms (omega arith) low) y
  slot_far_goes optional h (p ∷ B) f g o w k l G d r next no_instances q a u v J S ms low y =
      rw (shape_far_in_absent h (p ∷ B) k (depth (l + 0) r d)) (shape_far_dead_goes h (p ∷ B) r next d k (l + 0) (gated optional (p ∷ B) d G) (d + 1) (gate_shut next p B d G q a.0) (omega arith) J S ms y)
  slot_far_goes optional h (p ∷ B) f g o w k l G d r next (instance x xs) q a u v J S ms low y =
      g k (l + 0) (gated optional (p ∷ B) d G) (d + 1) r next x (gate_open next p B d G x q a.0) a (and_parts _ _ v).0 J S ms (low_more l (l + 0) (p ∷ B) ms (omega arith) low) y
  slot_far_goes repeated h (p ∷ B) f g o w k l G d r next no_instances q a u v J S ms low y =
      let leaves = shape_near_order h (p ∷ B) ++ shape_far_order h (p ∷ B) in
      let A = moves_in (shape_near_moves h (p ∷ B)) (shape_far_moves h (p ∷ B) (suc k)) (depth (l + 1) r d) None in
      let e : A ≡ nulls leaves r d = two_parts _ _ (shape_near_order h (p ∷ B)) (shape_far_order h (p ∷ B)) r d (shape_near_in_absent h (p ∷ B) (depth (l + 1) r d)) (shape_far_in_absent h (p ∷ B) (suc k) (depth (l + 1) r d)) in
      let z : next_definition (nulls leaves r d ++ ms) p.index ≡ d = ap (λ (x : List Move). next_definition (x ++ ms) p.index) (sym e) ∙ absent_next h (p ∷ B) (suc k) (depth (l + 1) r d) ms p.index p.rest o.0 w.0 in
      subst (λ (x : List Move). Follows T (in_items (visit (visit_of h (p ∷ B) k l G d) (body h (p ∷ B) (suc k) (l + 1) (d + 1)) J) r next S) (x ++ ms)) (sym e)
      (skipped (visit_of h (p ∷ B) k l G d) (body h (p ∷ B) (suc k) (l + 1) (d + 1)) J r next S (nulls leaves r d ++ ms) (rw (q, le-ltb d (next_definition (nulls leaves r d ++ ms) p.index) (omega (arith, z))) refl)
      (rw (open_reach next G d q) (absent_goes leaves r d (in_items J r next S) ms y)))
  slot_far_goes repeated h (p ∷ B) f g o w k l G d r next (instance x xs) q a u v J S ms low y =
      visit_goes h p B f g o w k l G d r next x xs (and_parts _ _ v).0 (and_parts _ _ v).1 q J S ms low y

  mutual
    far_goes : (fs : Fields) (F : List Pick) → AllOnly F F → Paths fs F → (k l : ℕ) (G : List Gate) (d r : ℕ) (next : ℕ → ℕ) (n : Node) → are_open next G ≡ true → Heads next F d (inner n) → is_record fs n ≡ true → GoesLow l F (far_items fs F k l G d) r next (far_moves fs F k (depth l r d) n)
    far_goes no_fields F z w k l G d r next n o a u J S ms low y = y
    far_goes (field m c h fs) F z w k l G d r next no_slots o a u J S ms low y = absurd (true≢false (sym u))
    far_goes (field m c h fs) F z w k l G d r next (gap n) o a u J S ms low y = absurd (true≢false (sym u))
    far_goes (field m c h fs) F z w k l G d r next (slot xs n) o a u J S ms low y =
        let t : (fits_repetition c (count_instances xs) ≡ true) × (all_instances (is_instance h) xs ≡ true) × (is_record fs n ≡ true) = and₃_parts _ _ _ u in
        let q = field_paths m c h fs F w in
        let j = k + (repetition_count c + shape_repeated_fields h) in
        let rest : Follows T (in_items (followed_by (far_items fs (later_picks F) j l G d) J) r next S) (far_moves fs (later_picks F) j (depth l r d) n ++ ms) =
        far_goes fs (later_picks F) (all_only_beside F F z) q.others j l G d r next n o (heads_beside next F d xs n a) t.2 J S ms (low_beside l F ms low) y in
        let first = slot_far_goes c h (first_picks F) (shape_near_goes h (first_picks F) q.first) (shape_far_goes h (first_picks F) (all_only_behind F F z) q.first) (all_only_behind F F z) q.first k l G d r next xs o (heads_behind m c h fs next F d xs n w a) t.0 t.1
        (followed_by (far_items fs (later_picks F) j l G d) J) S (far_moves fs (later_picks F) j (depth l r d) n ++ ms) (low_past l (first_picks F) (later_picks F) fs j (depth l r d) n ms (behind_without F F z) (low_behind l F ms low)) rest in
        rw (
          followed_assoc (where_selected (first_picks F) (by_repetition c (visit (visit_of h (first_picks F) k l G d) (body h (first_picks F) (suc k) (l + repetition_count c) (d + definition_count c)) nothing) (shape_far_items h (first_picks F) k (l + repetition_count c) (gated c (first_picks F) d G) (d + definition_count c)))) (far_items fs (later_picks F) j l G d) J,
          append_assoc (slot_far c h (first_picks F) k (depth l r d) xs) (far_moves fs (later_picks F) j (depth l r d) n) ms,
        ) first

    shape_far_goes : (h : Shape) (F : List Pick) → AllOnly F F → ShapePaths h F → FarGoes h F
    shape_far_goes (leaf j) F z w k l G d r next x o a u J S ms low y = y
    shape_far_goes (group fs) F z w k l G d r next (atom v) o a u J S ms low y = absurd (true≢false (sym u))
    shape_far_goes (group fs) F z w k l G d r next (inner n) o a u J S ms low y = far_goes fs F z (group_paths fs F w) k l G d r next n o a u J S ms low y

-- ---- records

all_only_from : (F : List (List Step)) (k : ℕ) (E : List (List Step)) → ((i : ℕ) (p : List Step) → slice_get E i ≡ Some p → Only (k + i) p (picks F)) → AllOnly (picks_from k E) (picks F)
all_only_from F k [] h = tt
all_only_from F k (q ∷ E) h =
    let z : k + 0 ≡ k = omega arith in (
      subst (λ (x : ℕ). Only x q (picks F)) z (h 0 q refl),
      all_only_from F (suc k) E (λ i p e. let y : k + suc i ≡ suc k + i = omega arith in subst (λ (x : ℕ). Only x p (picks F)) y (h (suc i) p e)),
    )

pub picks_are_only : (F : List (List Step)) → AllOnly (picks F) (picks F)
picks_are_only F = all_only_from F 0 F (λ i p e. picks_only i 0 p F e)

pub paths_from : (fs : Fields) (k : ℕ) (F : List (List Step)) → list_all (is_leaf_path fs) F ≡ true → ShapePaths (group fs) (picks_from k F)
paths_from fs k [] h = tt
paths_from fs k (p ∷ F) h = let a = and_parts (is_leaf_path fs p) (list_all (is_leaf_path fs) F) h in (a.0, paths_from fs (suc k) F a.1)

enclosed_last : (k : ℕ) (a b : List Move) → enclosed k a ++ b ≡ enter k ∷ (a ++ leave k ∷ b)
enclosed_last k a b = simp append_assoc

low_none : (E : List Pick) → Low 0 E (leave 0 ∷ [])
low_none [] = tt
low_none (e ∷ E) = (omega arith, low_none E)

low_in_record : (E : List Pick) (ms : List Move) → Low 0 E ms → Low 0 E (leave 0 ∷ (enter 0 ∷ ms))
low_in_record [] ms h = tt
low_in_record (e ∷ E) ms h = (h.0, low_in_record E ms h.1)

low_records : (fs : Fields) (F : List (List Step)) (R : List Node) (E : List Pick) → AllOnly E (picks F) → ShapePaths (group fs) E → list_all (is_record fs) R ≡ true → Low 0 E (leave 0 ∷ walk fs F R)
unfolding walk
low_records fs F [] E o w v = low_none E
low_records fs F (n ∷ R) E o w v =
    subst (λ (y : List Move). Low 0 E (leave 0 ∷ y)) (sym (enclosed_last 0 (near_moves fs (picks F) top n ++ far_moves fs (picks F) 1 top n) (flat_map (record_moves fs F) R)))
    (low_in_record E _ (low_begun (group fs) E (picks F) 1 top (inner n) (leave 0 ∷ flat_map (record_moves fs F) R) o w (and_parts _ _ v).0))

pub walk_follows : (fs : Fields) (F : List (List Step)) (R : List Node) → list_all (is_leaf_path fs) F ≡ true → list_all (is_record fs) R ≡ true → Follows (course fs F) (between (length R)) (walk fs F R)
unfolding walk
walk_follows fs F [] h v = ended
walk_follows fs F (n ∷ R) h v =
    let a : (is_record fs n ≡ true) × (list_all (is_record fs) R ≡ true) = and_parts _ _ v in
    let o = picks_are_only F in
    let w = paths_from fs 0 F h in
    let A = near_moves fs (picks F) top n ++ far_moves fs (picks F) 1 top n in
    let M = leave 0 ∷ walk fs F R in
    subst (λ (y : List Move). Follows (course fs F) (between (suc (length R))) y) (sym (enclosed_last 0 A (walk fs F R)))
    (record_begun (length R) (A ++ M)
    (body_goes (course fs F) (group fs) (picks F) (shape_near_goes (course fs F) (group fs) (picks F) w) (shape_far_goes (course fs F) (group fs) (picks F) o w) o w 1 0 0 0 (inner n) (in_record (length R)) M a.0
    (low_records fs F R (picks F) o w a.1) (record_ended (length R) (walk fs F R) (walk_follows fs F R h a.1))))
