-- Each move of the walk of records nests.
use Rattle.std.proofs.Common.{◌≡◌, ◌⊎◌, inl, inr, ℕ, zero, suc, ◌+◌, List, [], ◌∷◌, ◌++◌, map, length, Bool, true, false, ◌&&◌, ◌==◌, Option, Some, None, refl, sym, ap, ap₂, ◌∙◌, subst, true≢false, arith, append_assoc, append-nil, length-append}
use Rattle.std.specs.Prelude.{if◌then◌else◌, reverse, option_and_then}
use Rattle.std.specs.List.{list_all, slice_get, flat_map}
use Rattle.std.proofs.lemmas.Bool.{and_parts, and_from, eq-eqb}
use Rattle.std.proofs.lemmas.List.{map-append, reverse-append}
use Rattle.dr_meaning.specs.Schema.{Repetition, required, optional, repeated, is_repeated, Kind, Fields, no_fields, field, Shape, leaf, group, repetition_count, repeated_fields, shape_repeated_fields}
use Rattle.dr_meaning.specs.Path.{Step, Leaf, same_repetition, begins_with, same_path, chain, leaves}
use Rattle.dr_meaning.specs.Record.{Node, no_slots, slot, gap, Instances, no_instances, instance, Instance, atom, inner, is_of_kind, all_instances, is_record, is_instance}
use Rattle.dr_meaning.specs.Column.{triplet}
use Rattle.dr_meaning.specs.Automaton.{Pick, picks_from, picks, first_picks_if, first_picks_and, first_picks, later_picks_if, later_picks_and, later_picks, indexes}
use Rattle.dr_meaning.specs.Walk.{Move, enter, leave, Depth, inside, begun_later, first_of, first_slot, other_slots, node_of, value_there, triplet_moves, unless_repeated, enclosed, later_moves, repeated_moves, by_repetition, where_selected, moves_in, near_moves, far_moves, shape_near_moves, shape_far_moves, top, record_moves, walk, own_path, repeated_paths_from, shape_repeated_paths, repeated_paths, Open, no_record, in_record, is_chain_front, is_same_chain, is_of_leaf, open_after}
use Rattle.dr_meaning.specs.WalkLaws.{open_after_moves, WalkNests}
use Rattle.dr_meaning.proofs.ProjectionLemmas.{step}
use Rattle.dr_meaning.proofs.Blocks.{same_repetition-true, and₃_parts}
use Rattle.dr_meaning.proofs.LeafKinds.{through_kind, kind_if, leaf_kind, shape_kind, kind_if_some, kind_of_leaf, no_shift as no_place}

-- ---- chains

pub begins_itself : (p : List Step) → begins_with p p ≡ true
begins_itself [] = refl
begins_itself (s ∷ p) = and_from (s.place == s.place) (begins_with p p) (eq-eqb s.place s.place refl) (begins_itself p)

pub same_itself : (p : List Step) → same_path p p ≡ true
same_itself p = and_from (begins_with p p) (begins_with p p) (begins_itself p) (begins_itself p)

pub front_itself : (cs ds : List (List Step)) → is_chain_front cs (cs ++ ds) ≡ true
front_itself [] ds = refl
front_itself (c ∷ cs) ds = and_from (same_path c c) (is_chain_front cs (cs ++ ds)) (same_itself c) (front_itself cs ds)

pub same_chain_itself : (cs : List (List Step)) → is_same_chain cs cs ≡ true
same_chain_itself cs =
    let e : is_chain_front cs cs ≡ true = subst (λ x. is_chain_front cs x ≡ true) (append-nil cs) (front_itself cs []) in
    and_from (is_chain_front cs cs) (is_chain_front cs cs) e e

-- the paths of a step that is added
abbrev pub own_chain : List Step → Step → Repetition → List (List Step)
own_chain q s required = []
own_chain q s optional = []
own_chain q s repeated = (q ++ s ∷ []) ∷ []

pub chain_one : (s : Step) (r : Repetition) → s.repetition ≡ r → chain (s ∷ []) ≡ own_chain [] s r
chain_one s required e = rw e refl
chain_one s optional e = rw e refl
chain_one s repeated e = rw e refl

pub own_map : (t s : Step) (q : List Step) (r : Repetition) → map (λ x. t ∷ x) (own_chain q s r) ≡ own_chain (t ∷ q) s r
own_map t s q required = refl
own_map t s q optional = refl
own_map t s q repeated = refl

pub chain_more : (q : List Step) (s : Step) → chain (q ++ s ∷ []) ≡ chain q ++ own_chain q s s.repetition
chain_more [] s = chain_one s s.repetition refl
chain_more (t ∷ q) s =
    let e : map (λ x. t ∷ x) (chain (q ++ s ∷ [])) ≡ map (λ x. t ∷ x) (chain q) ++ own_chain (t ∷ q) s s.repetition = ap (map (λ x. t ∷ x)) (chain_more q s) ∙ map-append (λ x. t ∷ x) (chain q) (own_chain q s s.repetition) ∙ ap (λ y. map (λ x. t ∷ x) (chain q) ++ y) (own_map t s q s.repetition) in
    by_test (is_repeated t.repetition) e
  where
    by_test : (b : Bool) → map (λ x. t ∷ x) (chain (q ++ s ∷ [])) ≡ map (λ x. t ∷ x) (chain q) ++ own_chain (t ∷ q) s s.repetition
        → (if b then (t ∷ []) ∷ map (λ x. t ∷ x) (chain (q ++ s ∷ [])) else map (λ x. t ∷ x) (chain (q ++ s ∷ []))) ≡ (if b then (t ∷ []) ∷ map (λ x. t ∷ x) (chain q) else map (λ x. t ∷ x) (chain q)) ++ own_chain (t ∷ q) s s.repetition
    by_test true e = ap (λ y. (t ∷ []) ∷ y) e
    by_test false e = e

-- ---- paths of the rest of a group

-- a path of the rest of a group that begins with place i
abbrev pub shifted : ℕ → List Step → List Step
shifted i [] = []
shifted i (t ∷ p) = step (i + t.place) t.repetition ∷ p

pub no_shift : (p : List Step) → shifted 0 p ≡ p
no_shift [] = refl
no_shift (t ∷ p) = ap (λ x. step x t.repetition ∷ p) (no_place t.place)

-- ---- places in lists

pub get_left : (xs ys : List (List Step)) (j : ℕ) (p : List Step) → slice_get xs j ≡ Some p → slice_get (xs ++ ys) j ≡ Some p
get_left [] ys j p h = absurd (cc)
get_left (x ∷ xs) ys zero p h = h
get_left (x ∷ xs) ys (suc j) p h = get_left xs ys j p h

pub get_right : (xs ys : List (List Step)) (j i : ℕ) → i ≡ length xs + j → slice_get (xs ++ ys) i ≡ slice_get ys j
get_right [] ys j i e = ap (slice_get ys) (omega (arith, e))
get_right (x ∷ xs) ys j zero e = absurd (omega (arith, e))
get_right (x ∷ xs) ys j (suc i) e = get_right xs ys j i (omega (arith, e))

pub get_map : (s : Step) (xs : List (List Step)) (j : ℕ) (p : List Step) → slice_get xs j ≡ Some p → slice_get (map (λ x. s ∷ x) xs) j ≡ Some (s ∷ p)
get_map s [] j p h = absurd (cc)
get_map s (x ∷ xs) zero p h = ap (λ y. Some (s ∷ y)) (same x h)
  where
    same : (x : List Step) → Some x ≡ Some p → x ≡ p
    same x h = cc
get_map s (x ∷ xs) (suc j) p h = get_map s xs j p h

pub map_length : (s : Step) (xs : List (List Step)) → length (map (λ x. s ∷ x) xs) ≡ length xs
map_length s [] = refl
map_length s (x ∷ xs) = ap suc (map_length s xs)

pub own_length : (s : Step) (r : Repetition) (below : List (List Step)) → length (own_path s r below) ≡ repetition_count r + length below
own_length s required below = omega (arith, map_length s below)
own_length s optional below = omega (arith, map_length s below)
own_length s repeated below = omega (arith, map_length s below)

mutual
  pub paths_length : (fs : Fields) (i : ℕ) → length (repeated_paths_from fs i) ≡ repeated_fields fs
  paths_length no_fields i = refl
  paths_length (field m r s fs) i = omega (arith, length-append (own_path (step i r) r (shape_repeated_paths s)) (repeated_paths_from fs (suc i)), own_length (step i r) r (shape_repeated_paths s), shape_length s, paths_length fs (suc i))

  pub shape_length : (s : Shape) → length (shape_repeated_paths s) ≡ shape_repeated_fields s
  shape_length (leaf k) = refl
  shape_length (group fs) = paths_length fs 0

-- ---- what is known where the walk is

abbrev pub ValidNode : Fields → Node → Type 0
ValidNode fs n = (is_record fs n ≡ true) ⊎ (n ≡ no_slots)

abbrev pub ValidOne : Shape → Option Instance → Type 0
ValidOne s None = Unit {0}
ValidOne s (Some x) = is_instance s x ≡ true

pub slot_valid : (m : List ℕ) (r : Repetition) (s : Shape) (fs : Fields) (n : Node) → ValidNode (field m r s fs) n → (all_instances (is_instance s) (first_slot n) ≡ true) × ValidNode fs (other_slots n)
slot_valid m r s fs no_slots h = (refl, inr refl)
slot_valid m r s fs (slot xs n) (inl h) = let k = and₃_parts _ _ _ h in (k.1, inl k.2)
slot_valid m r s fs (slot xs n) (inr h) = absurd (cc)
slot_valid m r s fs (gap n) (inl h) = absurd (true≢false (sym h))
slot_valid m r s fs (gap n) (inr h) = absurd (cc)

pub first_valid : (s : Shape) (xs : Instances) → all_instances (is_instance s) xs ≡ true → ValidOne s (first_of xs)
first_valid s no_instances h = tt
first_valid s (instance x xs) h = (and_parts _ _ h).0

pub node_valid : (fs : Fields) (x : Option Instance) → ValidOne (group fs) x → ValidNode fs (node_of x)
node_valid fs None h = inr refl
node_valid fs (Some (atom v)) h = absurd (true≢false (sym h))
node_valid fs (Some (inner n)) h = inl h

module _ (whole : Fields) (F : List Leaf) where
  -- a pick is a leaf of the selection whose path is that of the walk and its rest
  abbrev pub GoodPick : List Step → Shape → List Step → ℕ → Type 0
  GoodPick q s rest i = (l : Leaf) × (slice_get F i ≡ Some l) × (l.path ≡ q ++ rest) × (shape_kind s rest ≡ Some l.kind)

  abbrev pub ShapePicks : List Step → Shape → List Pick → Type 0
  ShapePicks q s [] = Unit {0}
  ShapePicks q s (g ∷ G) = GoodPick q s g.rest g.index × ShapePicks q s G

  abbrev pub FieldPick : List Step → ℕ → Fields → Pick → Type 0
  FieldPick q i fs g = (l : Leaf) × (slice_get F g.index ≡ Some l) × (l.path ≡ q ++ shifted i g.rest) × (leaf_kind fs g.rest ≡ Some l.kind)

  abbrev pub FieldPicks : List Step → ℕ → Fields → List Pick → Type 0
  FieldPicks q i fs [] = Unit {0}
  FieldPicks q i fs (g ∷ G) = FieldPick q i fs g × FieldPicks q i fs G

  pub picks_of_group : (q : List Step) (fs : Fields) (G : List Pick) → ShapePicks q (group fs) G → FieldPicks q 0 fs G
  picks_of_group q fs [] h = tt
  picks_of_group q fs (g ∷ G) h = ((h.0.0, h.0.1, h.0.2 ∙ ap (λ x. q ++ x) (sym (no_shift g.rest)), h.0.3), picks_of_group q fs G h.1)

  pub add_behind : (q : List Step) (i : ℕ) (m : List ℕ) (r : Repetition) (s : Shape) (fs : Fields) (p : List Step) (j : ℕ) (B : List Pick) → FieldPick q i (field m r s fs) (record { rest = p; index = j }) → ShapePicks (q ++ step i r ∷ []) s B → ShapePicks (q ++ step i r ∷ []) s (first_picks_and p j B)
  add_behind q i m r s fs [] j B h b = b
  add_behind q i m r s fs (t ∷ p) j B h b = by_place t.place refl
    where
      here : t.place ≡ zero → kind_if (same_repetition t.repetition r) (shape_kind s p) ≡ Some h.0.kind → GoodPick (q ++ step i r ∷ []) s p j
      here e k =
          let n : i + t.place ≡ i = omega (arith, e) in
          let w : (same_repetition t.repetition r ≡ true) × (shape_kind s p ≡ Some h.0.kind) = kind_if_some _ _ _ k in
          (h.0, h.1, h.2 ∙ ap₂ (λ x y. q ++ step x y ∷ p) n (same_repetition-true t.repetition r w.0) ∙ sym (append_assoc q (step i r ∷ []) p), w.1)

      by_place : (k : ℕ) → t.place ≡ k → ShapePicks (q ++ step i r ∷ []) s (first_picks_if k p j B)
      by_place zero e = (here e (subst (λ (x : ℕ). through_kind x (kind_if (same_repetition t.repetition r) (shape_kind s p)) (λ y. leaf_kind fs (step y t.repetition ∷ p)) ≡ Some h.0.kind) e h.3), b)
      by_place (suc k) e = b

  pub picks_behind : (q : List Step) (i : ℕ) (m : List ℕ) (r : Repetition) (s : Shape) (fs : Fields) (G : List Pick) → FieldPicks q i (field m r s fs) G → ShapePicks (q ++ step i r ∷ []) s (first_picks G)
  picks_behind q i m r s fs [] h = tt
  picks_behind q i m r s fs (g ∷ G) h = add_behind q i m r s fs g.rest g.index (first_picks G) h.0 (picks_behind q i m r s fs G h.1)

  pub add_beside : (q : List Step) (i : ℕ) (m : List ℕ) (r : Repetition) (s : Shape) (fs : Fields) (p : List Step) (j : ℕ) (B : List Pick) → FieldPick q i (field m r s fs) (record { rest = p; index = j }) → FieldPicks q (suc i) fs B → FieldPicks q (suc i) fs (later_picks_and p j B)
  add_beside q i m r s fs [] j B h b = b
  add_beside q i m r s fs (t ∷ p) j B h b = by_place t.place refl
    where
      there : (k : ℕ) → t.place ≡ suc k → leaf_kind fs (step k t.repetition ∷ p) ≡ Some h.0.kind → FieldPick q (suc i) fs (record { rest = step k t.repetition ∷ p; index = j })
      there k e a =
          let n : i + t.place ≡ suc i + k = omega (arith, e) in
          (h.0, h.1, h.2 ∙ ap (λ x. q ++ step x t.repetition ∷ p) n, a)

      by_place : (k : ℕ) → t.place ≡ k → FieldPicks q (suc i) fs (later_picks_if k t p j B)
      by_place zero e = b
      by_place (suc k) e = (there k e (subst (λ (x : ℕ). through_kind x (kind_if (same_repetition t.repetition r) (shape_kind s p)) (λ y. leaf_kind fs (step y t.repetition ∷ p)) ≡ Some h.0.kind) e h.3), b)

  pub picks_beside : (q : List Step) (i : ℕ) (m : List ℕ) (r : Repetition) (s : Shape) (fs : Fields) (G : List Pick) → FieldPicks q i (field m r s fs) G → FieldPicks q (suc i) fs (later_picks G)
  picks_beside q i m r s fs [] h = tt
  picks_beside q i m r s fs (g ∷ G) h = add_beside q i m r s fs g.rest g.index (later_picks G) h.0 (picks_beside q i m r s fs G h.1)

  -- these repeated paths have numbers of the schema from n on
  abbrev pub Numbered : List Step → List (List Step) → ℕ → Type 0
  Numbered q paths n = (j : ℕ) (p : List Step) → slice_get paths j ≡ Some p → (k : ℕ) × (n + j ≡ suc k) × (slice_get (repeated_paths whole) k ≡ Some (q ++ p))

  pub numbered_shape : (q : List Step) (s : Step) (r : Repetition) (below rest : List (List Step)) (n : ℕ) → Numbered q (own_path s r below ++ rest) n → Numbered (q ++ s ∷ []) below (n + repetition_count r)
  numbered_shape q s required below rest n h j p e = let k = h j (s ∷ p) (get_left _ rest j (s ∷ p) (get_map s below j p e)) in (k.0, omega (arith, k.1), k.2 ∙ ap Some (sym (append_assoc q (s ∷ []) p)))
  numbered_shape q s optional below rest n h j p e = let k = h j (s ∷ p) (get_left _ rest j (s ∷ p) (get_map s below j p e)) in (k.0, omega (arith, k.1), k.2 ∙ ap Some (sym (append_assoc q (s ∷ []) p)))
  numbered_shape q s repeated below rest n h j p e = let k = h (suc j) (s ∷ p) (get_left (map (λ x. s ∷ x) below) rest j (s ∷ p) (get_map s below j p e)) in (k.0, omega (arith, k.1), k.2 ∙ ap Some (sym (append_assoc q (s ∷ []) p)))

  pub numbered_rest : (q : List Step) (s : Step) (r : Repetition) (below rest : List (List Step)) (n : ℕ) → Numbered q (own_path s r below ++ rest) n → Numbered q rest (n + (repetition_count r + length below))
  numbered_rest q s r below rest n h j p e = let k = h (length (own_path s r below) + j) p (get_right (own_path s r below) rest j _ refl ∙ e) in (k.0, omega (arith, k.1, own_length s r below), k.2)

  pub numbered_own : (q : List Step) (s : Step) (below rest : List (List Step)) (n : ℕ) → Numbered q (own_path s repeated below ++ rest) n → (k : ℕ) × (n ≡ suc k) × (slice_get (repeated_paths whole) k ≡ Some (q ++ s ∷ []))
  numbered_own q s below rest n h = let k = h 0 (s ∷ []) refl in (k.0, omega (arith, k.1), k.2)

  -- ---- moves that nest and leave open what is open

  abbrev pub Nests : List (List Step) → List Move → Type 0
  Nests c ms = open_after_moves whole F (in_record c) ms ≡ Some (in_record c)

  pub open_append : (ms ns : List Move) (o p : Open) → open_after_moves whole F o ms ≡ Some p → open_after_moves whole F o (ms ++ ns) ≡ open_after_moves whole F p ns
  open_append [] ns o p h = ap (λ x. open_after_moves whole F x ns) (same h)
    where
      same : Some o ≡ Some p → o ≡ p
      same e = cc
  open_append (m ∷ ms) ns o p h = by_open (open_after whole F o m) (λ x. open_append ms ns x p) h
    where
      by_open : (x : Option Open) → ((y : Open) → open_after_moves whole F y ms ≡ Some p → open_after_moves whole F y (ms ++ ns) ≡ open_after_moves whole F p ns)
          → option_and_then (λ y. open_after_moves whole F y ms) x ≡ Some p → option_and_then (λ y. open_after_moves whole F y (ms ++ ns)) x ≡ open_after_moves whole F p ns
      by_open None f h = absurd (cc)
      by_open (Some y) f h = f y h

  pub nests_append : (c : List (List Step)) (ms ns : List Move) → Nests c ms → Nests c ns → Nests c (ms ++ ns)
  nests_append c ms ns h g = open_append ms ns (in_record c) (in_record c) h ∙ g

  pub reverse_push : (p : List Step) (c : List (List Step)) → reverse (p ∷ c) ≡ reverse c ++ p ∷ []
  reverse_push p c = reverse-append (p ∷ []) c

  pub nests_enclosed : (c : List (List Step)) (q : List Step) (s : Step) (n : ℕ) (ms : List Move) → (k : ℕ) × (n ≡ suc k) × (slice_get (repeated_paths whole) k ≡ Some (q ++ s ∷ [])) → chain (q ++ s ∷ []) ≡ reverse ((q ++ s ∷ []) ∷ c)
      → Nests ((q ++ s ∷ []) ∷ c) ms → Nests c (enclosed n ms)
  nests_enclosed c q s n ms e h g =
      let p : List Step = q ++ s ∷ [] in
      let a : open_after whole F (in_record c) (enter (suc e.0)) ≡ Some (in_record (p ∷ c)) = rw (e.2, h) (rw (same_chain_itself (reverse (p ∷ c))) refl) in
      let b : open_after whole F (in_record (p ∷ c)) (leave (suc e.0)) ≡ Some (in_record c) = rw e.2 (rw (same_itself p) refl) in
      let d : open_after_moves whole F (in_record (p ∷ c)) (ms ++ leave (suc e.0) ∷ []) ≡ Some (in_record c) = open_append ms (leave (suc e.0) ∷ []) (in_record (p ∷ c)) (in_record (p ∷ c)) g ∙ ap (option_and_then (λ x. open_after_moves whole F x [])) b in
      rw e.1 (rw a d)

  -- ---- a leaf's triplet

  -- the open fields are the first of the walk's path
  abbrev pub IsOpenFront : List (List Step) → List Step → Type 0
  IsOpenFront c q = (ds : List (List Step)) × (chain q ≡ reverse c ++ ds)

  pub value_fits : (k : Kind) (l : Leaf) (x : Option Instance) → k ≡ l.kind → ValidOne (leaf k) x → is_of_leaf l (value_there x) ≡ true
  value_fits k l None e h = refl
  value_fits k l (Some (atom v)) e h = subst (λ j. is_of_kind j v ≡ true) e h
  value_fits k l (Some (inner n)) e h = absurd (true≢false (sym h))

  pub at_leaf : (k : Kind) (p : List Step) (j : Kind) → shape_kind (leaf k) p ≡ Some j → (p ≡ []) × (k ≡ j)
  at_leaf k [] j h = (refl, cc)
  at_leaf k (t ∷ p) j h = absurd (cc)

  pub nests_leaf : (c : List (List Step)) (q : List Step) (k : Kind) (G : List Pick) (r d : ℕ) (x : Option Instance) → ShapePicks q (leaf k) G → ValidOne (leaf k) x → IsOpenFront c q → Nests c (triplet_moves (indexes G) (triplet r d (value_there x)))
  nests_leaf c q k [] r d x h v o = refl
  nests_leaf c q k (g ∷ G) r d x h v o =
      let l : Leaf = h.0.0 in
      let z : (g.rest ≡ []) × (k ≡ l.kind) = at_leaf k g.rest l.kind h.0.3 in
      let e : l.path ≡ q = h.0.2 ∙ ap (λ y. q ++ y) z.0 ∙ append-nil q in
      let f : is_chain_front (reverse c) (chain l.path) ≡ true = ap (λ y. is_chain_front (reverse c) (chain y)) e ∙ ap (is_chain_front (reverse c)) o.1 ∙ front_itself (reverse c) o.0 in
      let a : (is_chain_front (reverse c) (chain l.path) && is_of_leaf l (value_there x)) ≡ true = and_from _ _ f (value_fits k l x z.1 v) in
      rw h.0.1 (rw a (nests_leaf c q k G r d x h.1 v o))

  -- ---- the walk

  -- the open fields are those of the path
  abbrev pub IsOpenChain : List (List Step) → List Step → Type 0
  IsOpenChain c q = chain q ≡ reverse c

  pub front_of_chain : (c : List (List Step)) (q : List Step) → IsOpenChain c q → IsOpenFront c q
  front_of_chain c q h = ([], h ∙ sym (append-nil (reverse c)))

  pub front_more : (c : List (List Step)) (q : List Step) (s : Step) → IsOpenFront c q → IsOpenFront c (q ++ s ∷ [])
  front_more c q s h = (h.0 ++ own_chain q s s.repetition, chain_more q s ∙ ap (λ x. x ++ own_chain q s s.repetition) h.1 ∙ append_assoc (reverse c) h.0 (own_chain q s s.repetition))

  pub chain_entered : (c : List (List Step)) (q : List Step) (i : ℕ) → IsOpenChain c q → IsOpenChain ((q ++ step i repeated ∷ []) ∷ c) (q ++ step i repeated ∷ [])
  chain_entered c q i h = chain_more q (step i repeated) ∙ ap (λ x. x ++ (q ++ step i repeated ∷ []) ∷ []) h ∙ sym (reverse_push (q ++ step i repeated ∷ []) c)

  pub chain_same : (c : List (List Step)) (q : List Step) (s : Step) → repetition_count s.repetition ≡ 0 → IsOpenChain c q → IsOpenChain c (q ++ s ∷ [])
  chain_same c q s e h = chain_more q s ∙ ap (λ x. chain q ++ x) (none s.repetition e) ∙ append-nil (chain q) ∙ h
    where
      none : (r : Repetition) → repetition_count r ≡ 0 → own_chain q s r ≡ []
      none required e = refl
      none optional e = refl
      none repeated e = absurd (omega (arith, e))

  pub nests_unless : (c : List (List Step)) (r : Repetition) (ms : List Move) → Nests c ms → Nests c (unless_repeated r ms)
  nests_unless c required ms h = h
  nests_unless c optional ms h = h
  nests_unless c repeated ms h = refl

  pub nests_where : (c : List (List Step)) (G : List Pick) (ms : List Move) → Nests c ms → Nests c (where_selected G ms)
  nests_where c [] ms h = refl
  nests_where c (g ∷ G) ms h = h

  mutual
    pub near : (fs : Fields) (G : List Pick) (at : Depth) (n : Node) (q : List Step) (i : ℕ) (c : List (List Step)) → FieldPicks q i fs G → ValidNode fs n → IsOpenFront c q → Nests c (near_moves fs G at n)
    near no_fields G at n q i c h v o = refl
    near (field m r s fs) G at n q i c h v o =
        let w : (all_instances (is_instance s) (first_slot n) ≡ true) × ValidNode fs (other_slots n) = slot_valid m r s fs n v in
        nests_append c (unless_repeated r (shape_near_moves s (first_picks G) (inside r at (first_of (first_slot n))) (first_of (first_slot n)))) (near_moves fs (later_picks G) at (other_slots n))
        (nests_unless c r (shape_near_moves s (first_picks G) (inside r at (first_of (first_slot n))) (first_of (first_slot n))) (shape_near s (first_picks G) (inside r at (first_of (first_slot n))) (first_of (first_slot n)) (q ++ step i r ∷ []) c (picks_behind q i m r s fs G h) (first_valid s (first_slot n) w.0) (front_more c q (step i r) o)))
        (near fs (later_picks G) at (other_slots n) q (suc i) c (picks_beside q i m r s fs G h) w.1 o)

    pub shape_near : (s : Shape) (G : List Pick) (at : Depth) (x : Option Instance) (q : List Step) (c : List (List Step)) → ShapePicks q s G → ValidOne s x → IsOpenFront c q → Nests c (shape_near_moves s G at x)
    shape_near (leaf k) G at x q c h v o = nests_leaf c q k G at.repetition at.definition x h v o
    shape_near (group fs) G at x q c h v o = near fs G at (node_of x) q 0 c (picks_of_group q fs G h) (node_valid fs x v) o

  mutual
    -- where nothing is, nothing is entered
    pub far_absent : (fs : Fields) (G : List Pick) (k : ℕ) (at : Depth) (q : List Step) (i : ℕ) (c : List (List Step)) → FieldPicks q i fs G → IsOpenFront c q → Nests c (far_moves fs G k at no_slots)
    far_absent no_fields G k at q i c h o = refl
    far_absent (field m r s fs) G k at q i c h o =
        nests_append c (where_selected (first_picks G) (by_repetition r (repeated_moves k (λ x. moves_in (shape_near_moves s (first_picks G)) (shape_far_moves s (first_picks G) (suc k)) (inside r at x) x) (λ x. moves_in (shape_near_moves s (first_picks G)) (shape_far_moves s (first_picks G) (suc k)) (inside r (begun_later at) x) x)) (λ x. shape_far_moves s (first_picks G) k (inside r at x) x) no_instances)) (far_moves fs (later_picks G) (k + (repetition_count r + shape_repeated_fields s)) at no_slots)
        (nests_where c (first_picks G) _ (by_kind r (λ d. shape_near s (first_picks G) d None (q ++ step i r ∷ []) c (picks_behind q i m r s fs G h) tt (front_more c q (step i r) o)) (λ j d. shape_far_absent s (first_picks G) j d (q ++ step i r ∷ []) c (picks_behind q i m r s fs G h) (front_more c q (step i r) o))))
        (far_absent fs (later_picks G) (k + (repetition_count r + shape_repeated_fields s)) at q (suc i) c (picks_beside q i m r s fs G h) o)
      where
        by_kind : (r : Repetition) → ((d : Depth) → Nests c (shape_near_moves s (first_picks G) d None)) → ((j : ℕ) (d : Depth) → Nests c (shape_far_moves s (first_picks G) j d None))
            → Nests c (by_repetition r (repeated_moves k (λ x. moves_in (shape_near_moves s (first_picks G)) (shape_far_moves s (first_picks G) (suc k)) (inside r at x) x) (λ x. moves_in (shape_near_moves s (first_picks G)) (shape_far_moves s (first_picks G) (suc k)) (inside r (begun_later at) x) x)) (λ x. shape_far_moves s (first_picks G) k (inside r at x) x) no_instances)
        by_kind required f g = g k (inside required at None)
        by_kind optional f g = g k (inside optional at None)
        by_kind repeated f g = nests_append c (shape_near_moves s (first_picks G) (inside repeated at None) None) (shape_far_moves s (first_picks G) (suc k) (inside repeated at None) None) (f (inside repeated at None)) (g (suc k) (inside repeated at None))

    pub shape_far_absent : (s : Shape) (G : List Pick) (k : ℕ) (at : Depth) (q : List Step) (c : List (List Step)) → ShapePicks q s G → IsOpenFront c q → Nests c (shape_far_moves s G k at None)
    shape_far_absent (leaf j) G k at q c h o = refl
    shape_far_absent (group fs) G k at q c h o = far_absent fs G k at q 0 c (picks_of_group q fs G h) o

  pub renumbered : (q : List Step) (paths : List (List Step)) (m n : ℕ) → m ≡ n → Numbered q paths m → Numbered q paths n
  renumbered q paths m n e h j p g = let k = h j p g in (k.0, omega (arith, k.1, e), k.2)

  pub nests_later : (s : Shape) (c : List (List Step)) (q : List Step) (t : Step) (k : ℕ) (f : Option Instance → List Move) → ((x : Instance) → is_instance s x ≡ true → Nests c (enclosed k (f (Some x)))) → (xs : Instances) → all_instances (is_instance s) xs ≡ true → Nests c (later_moves k f xs)
  nests_later s c q t k f h no_instances v = refl
  nests_later s c q t k f h (instance x xs) v =
      let w : (is_instance s x ≡ true) × (all_instances (is_instance s) xs ≡ true) = and_parts _ _ v in
      nests_append c (enclosed k (f (Some x))) (later_moves k f xs) (h x w.0) (nests_later s c q t k f h xs w.1)

  -- the repeated fields in a shape, from any depth
  abbrev pub Inner : Shape → List Pick → Type 0
  Inner s G = (j : ℕ) (d : Depth) (x : Option Instance) (p : List Step) (e : List (List Step)) → ShapePicks p s G → ValidOne s x → Numbered p (shape_repeated_paths s) j × IsOpenChain e p → Nests e (shape_far_moves s G j d x)

  mutual
    pub far : (fs : Fields) (G : List Pick) (k : ℕ) (at : Depth) (n : Node) (q : List Step) (i : ℕ) (c : List (List Step)) → FieldPicks q i fs G → ValidNode fs n → Numbered q (repeated_paths_from fs i) k → IsOpenChain c q → Nests c (far_moves fs G k at n)
    far no_fields G k at n q i c h v u o = refl
    far (field m r s fs) G k at n q i c h v u o =
        let w : (all_instances (is_instance s) (first_slot n) ≡ true) × ValidNode fs (other_slots n) = slot_valid m r s fs n v in
        let b : ShapePicks (q ++ step i r ∷ []) s (first_picks G) = picks_behind q i m r s fs G h in
        let ns : Numbered (q ++ step i r ∷ []) (shape_repeated_paths s) (k + repetition_count r) = numbered_shape q (step i r) r (shape_repeated_paths s) (repeated_paths_from fs (suc i)) k u in
        let nr : Numbered q (repeated_paths_from fs (suc i)) (k + (repetition_count r + shape_repeated_fields s)) = renumbered q (repeated_paths_from fs (suc i)) _ _ (ap (λ x. k + (repetition_count r + x)) (shape_length s)) (numbered_rest q (step i r) r (shape_repeated_paths s) (repeated_paths_from fs (suc i)) k u) in
        nests_append c (where_selected (first_picks G) (by_repetition r (repeated_moves k (λ x. moves_in (shape_near_moves s (first_picks G)) (shape_far_moves s (first_picks G) (suc k)) (inside r at x) x) (λ x. moves_in (shape_near_moves s (first_picks G)) (shape_far_moves s (first_picks G) (suc k)) (inside r (begun_later at) x) x)) (λ x. shape_far_moves s (first_picks G) k (inside r at x) x) (first_slot n))) (far_moves fs (later_picks G) (k + (repetition_count r + shape_repeated_fields s)) at (other_slots n))
        (nests_where c (first_picks G) _ (by_kind r (first_slot n) w.0 b ns u (λ j d x p e g y z. shape_far s (first_picks G) j d x p e g y z)))
        (far fs (later_picks G) (k + (repetition_count r + shape_repeated_fields s)) at (other_slots n) q (suc i) c (picks_beside q i m r s fs G h) w.1 nr o)
      where
        one : (xs : Instances) → all_instances (is_instance s) xs ≡ true → (r : Repetition) → repetition_count r ≡ 0 → ShapePicks (q ++ step i r ∷ []) s (first_picks G) → Numbered (q ++ step i r ∷ []) (shape_repeated_paths s) (k + repetition_count r) → Inner s (first_picks G) → Nests c (shape_far_moves s (first_picks G) k (inside r at (first_of xs)) (first_of xs))
        one xs v r z b ns f = f k (inside r at (first_of xs)) (first_of xs) (q ++ step i r ∷ []) c b (first_valid s xs v) (renumbered (q ++ step i r ∷ []) (shape_repeated_paths s) (k + repetition_count r) k (omega (arith, z)) ns, chain_same c q (step i r) z o)

        each : ShapePicks (q ++ step i repeated ∷ []) s (first_picks G) → Numbered (q ++ step i repeated ∷ []) (shape_repeated_paths s) (k + 1) → Numbered q (own_path (step i repeated) repeated (shape_repeated_paths s) ++ repeated_paths_from fs (suc i)) k → Inner s (first_picks G) → (d : Depth) (x : Instance) → is_instance s x ≡ true
            → Nests c (enclosed k (moves_in (shape_near_moves s (first_picks G)) (shape_far_moves s (first_picks G) (suc k)) (inside repeated d (Some x)) (Some x)))
        each b ns u f d x v =
            let p : List Step = q ++ step i repeated ∷ [] in
            let e : IsOpenChain (p ∷ c) p = chain_entered c q i o in
            nests_enclosed c q (step i repeated) k _ (numbered_own q (step i repeated) (shape_repeated_paths s) (repeated_paths_from fs (suc i)) k u) e
            (nests_append (p ∷ c) (shape_near_moves s (first_picks G) (inside repeated d (Some x)) (Some x)) (shape_far_moves s (first_picks G) (suc k) (inside repeated d (Some x)) (Some x))
            (shape_near s (first_picks G) (inside repeated d (Some x)) (Some x) p (p ∷ c) b v (front_of_chain (p ∷ c) p e))
            (f (suc k) (inside repeated d (Some x)) (Some x) p (p ∷ c) b v (renumbered p (shape_repeated_paths s) (k + 1) (suc k) (omega arith) ns, e)))

        by_kind : (r : Repetition) (xs : Instances) → all_instances (is_instance s) xs ≡ true → ShapePicks (q ++ step i r ∷ []) s (first_picks G) → Numbered (q ++ step i r ∷ []) (shape_repeated_paths s) (k + repetition_count r) → Numbered q (own_path (step i r) r (shape_repeated_paths s) ++ repeated_paths_from fs (suc i)) k → Inner s (first_picks G)
            → Nests c (by_repetition r (repeated_moves k (λ x. moves_in (shape_near_moves s (first_picks G)) (shape_far_moves s (first_picks G) (suc k)) (inside r at x) x) (λ x. moves_in (shape_near_moves s (first_picks G)) (shape_far_moves s (first_picks G) (suc k)) (inside r (begun_later at) x) x)) (λ x. shape_far_moves s (first_picks G) k (inside r at x) x) xs)
        by_kind required xs v b ns u f = one xs v required refl b ns f
        by_kind optional xs v b ns u f = one xs v optional refl b ns f
        by_kind repeated no_instances v b ns u f =
            let g : IsOpenFront c (q ++ step i repeated ∷ []) = front_more c q (step i repeated) (front_of_chain c q o) in
            nests_append c (shape_near_moves s (first_picks G) (inside repeated at None) None) (shape_far_moves s (first_picks G) (suc k) (inside repeated at None) None)
            (shape_near s (first_picks G) (inside repeated at None) None (q ++ step i repeated ∷ []) c b tt g) (shape_far_absent s (first_picks G) (suc k) (inside repeated at None) (q ++ step i repeated ∷ []) c b g)
        by_kind repeated (instance x xs) v b ns u f =
            let w : (is_instance s x ≡ true) × (all_instances (is_instance s) xs ≡ true) = and_parts _ _ v in
            nests_append c (enclosed k (moves_in (shape_near_moves s (first_picks G)) (shape_far_moves s (first_picks G) (suc k)) (inside repeated at (Some x)) (Some x))) (later_moves k (λ x. moves_in (shape_near_moves s (first_picks G)) (shape_far_moves s (first_picks G) (suc k)) (inside repeated (begun_later at) x) x) xs)
            (each b ns u f at x w.0)
            (nests_later s c q (step i repeated) k (λ x. moves_in (shape_near_moves s (first_picks G)) (shape_far_moves s (first_picks G) (suc k)) (inside repeated (begun_later at) x) x) (λ y z. each b ns u f (begun_later at) y z) xs w.1)

    pub shape_far : (s : Shape) (G : List Pick) (k : ℕ) (at : Depth) (x : Option Instance) (q : List Step) (c : List (List Step)) → ShapePicks q s G → ValidOne s x → Numbered q (shape_repeated_paths s) k × IsOpenChain c q → Nests c (shape_far_moves s G k at x)
    shape_far (leaf j) G k at x q c h v u = refl
    shape_far (group fs) G k at x q c h v u = far fs G k at (node_of x) q 0 c (picks_of_group q fs G h) (node_valid fs x v) u.0 u.1

  -- ---- records

  pub record_nests : (n : Node) → FieldPicks [] 0 whole (picks (map (λ (l : Leaf). l.path) F)) → is_record whole n ≡ true → open_after_moves whole F no_record (record_moves whole (map (λ (l : Leaf). l.path) F) n) ≡ Some no_record
  record_nests n h v =
      let P : List Pick = picks (map (λ (l : Leaf). l.path) F) in
      let a : Nests [] (near_moves whole P top n) = near whole P top n [] 0 [] h (inl v) ([], refl) in
      let b : Nests [] (far_moves whole P 1 top n) = far whole P 1 top n [] 0 [] h (inl v) (λ j p e. (j, omega arith, e)) refl in
      open_append (near_moves whole P top n ++ far_moves whole P 1 top n) (leave 0 ∷ []) (in_record []) (in_record []) (nests_append [] (near_moves whole P top n) (far_moves whole P 1 top n) a b)

  pub records_nest : (R : List Node) → FieldPicks [] 0 whole (picks (map (λ (l : Leaf). l.path) F)) → list_all (is_record whole) R ≡ true → open_after_moves whole F no_record (walk whole (map (λ (l : Leaf). l.path) F) R) ≡ Some no_record
  unfolding walk
  records_nest [] h v = refl
  records_nest (n ∷ R) h v =
      let w : (is_record whole n ≡ true) × (list_all (is_record whole) R ≡ true) = and_parts _ _ v in
      open_append (record_moves whole (map (λ (l : Leaf). l.path) F) n) (flat_map (record_moves whole (map (λ (l : Leaf). l.path) F)) R) no_record no_record (record_nests n h w.0) ∙ records_nest R h w.1

  -- each pick of the selection is a leaf
  pub picked : (k : ℕ) (ls : List Leaf) → ((i : ℕ) (l : Leaf) → slice_get ls i ≡ Some l → (slice_get F (k + i) ≡ Some l) × (leaf_kind whole l.path ≡ Some l.kind)) → FieldPicks [] 0 whole (picks_from k (map (λ (l : Leaf). l.path) ls))
  picked k [] h = tt
  picked k (l ∷ ls) h =
      let a : (slice_get F (k + 0) ≡ Some l) × (leaf_kind whole l.path ≡ Some l.kind) = h 0 l refl in
      let e : k + 0 ≡ k = omega arith in
      ((l, ap (slice_get F) (sym e) ∙ a.0, sym (no_shift l.path), a.1), picked (suc k) ls (λ i m g. let b = h (suc i) m g in let q : k + suc i ≡ suc k + i = omega arith in (ap (slice_get F) (sym q) ∙ b.0, b.1)))

pub walk_nests : WalkNests
walk_nests fs F R h v = records_nest fs F R (picked fs F 0 F (λ i l e. let k : (j : ℕ) × (slice_get (leaves fs) j ≡ Some l) = h i l e in (ap (slice_get F) (no_place i) ∙ e, kind_of_leaf fs k.0 l k.1))) v
