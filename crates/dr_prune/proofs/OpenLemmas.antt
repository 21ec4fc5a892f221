-- How many branches are open behind moves that nest.
use Rattle.std.proofs.Common.{◌≡◌, ℕ, zero, suc, ◌-◌, ◌≤◌, List, [], ◌∷◌, ◌++◌, length, drop, Bool, true, false, ◌&&◌, Option, Some, None, is_some, refl, sym, ap, subst, arith}
use Rattle.std.specs.Prelude.{map, reverse, ◌==◌, if◌then◌else◌, option_and_then}
use Rattle.std.specs.List.{slice_get}
use Rattle.std.proofs.lemmas.Bool.{and_parts}
use Rattle.std.proofs.lemmas.List.{length-map, length-reverse}
use Rattle.dr_meaning.specs.Schema.{Repetition, required, optional, repeated, is_repeated, Fields, no_fields, field, Shape, leaf, group, depth, shape_depth}
use Rattle.dr_meaning.specs.Path.{Step, Leaf, chain}
use Rattle.dr_meaning.specs.Column.{Triplet}
use Rattle.dr_meaning.specs.Walk.{Move, enter, value, leave, own_path, repeated_paths, repeated_paths_from, shape_repeated_paths, Open, no_record, in_record, is_chain_front, is_same_chain, same_path, where_true, entered, left, is_of_leaf, passed_leaf, open_after}
use Rattle.dr_meaning.specs.WalkLaws.{open_after_moves}
use Rattle.dr_moves.specs.Context.{Context}
use Rattle.dr_moves.specs.Condition.{Watch}
use Rattle.dr_kept_laws.specs.Constant.{depth_behind}
use Rattle.dr_kept_laws.specs.Counting.{Numbers, whole_chain, is_first, count_entered, count_row, count_left, count_move, context_behind, Counted, nothing_counted, count_on, count_all}
use Rattle.dr_kept_laws.specs.Parts.{Pruning, answering, parts_behind, nothing_pruned, prune_move, prune_moves}
use Rattle.dr_prune.specs.AnswerLaws.{FewArePruned}
use Rattle.dr_prune.specs.PartAnswers.{untested}
use Rattle.dr_prune.specs.Nesting.{FewAreOpen}

-- ---- the paths of repeated fields are no longer than the fields are deep

-- each of these paths has so many steps at most
abbrev Short : ℕ → List (List Step) → Type 0
Short n [] = Unit {0}
Short n (p ∷ ps) = (length p ≤ n) × Short n ps

short_append : (n : ℕ) (ps qs : List (List Step)) → Short n ps → Short n qs → Short n (ps ++ qs)
short_append n [] qs h g = g
short_append n (p ∷ ps) qs h g = (h.0, short_append n ps qs h.1 g)

short_more : (n m : ℕ) (ps : List (List Step)) → n ≤ m → Short n ps → Short m ps
short_more n m [] l h = tt
short_more n m (p ∷ ps) l h = let x : length p ≤ n = h.0 in (omega (arith, x, l), short_more n m ps l h.1)

short_map : (n : ℕ) (s : Step) (ps : List (List Step)) → Short n ps → Short (suc n) (map (λ p. s ∷ p) ps)
short_map n s [] h = tt
short_map n s (p ∷ ps) h = let x : length p ≤ n = h.0 in (omega (arith, x), short_map n s ps h.1)

own_short : (n : ℕ) (s : Step) (r : Repetition) (ps : List (List Step)) → Short n ps → Short (suc n) (own_path s r ps)
own_short n s required ps h = short_map n s ps h
own_short n s optional ps h = short_map n s ps h
own_short n s repeated ps h = (omega arith, short_map n s ps h)

short_get : (n : ℕ) (ps : List (List Step)) (k : ℕ) (p : List Step) → Short n ps → slice_get ps k ≡ Some p → length p ≤ n
short_get n [] k p h e = absurd (cc)
short_get n (q ∷ ps) zero p h e = let same : q ≡ p = cc in subst (λ (x : List Step). length x ≤ n) same h.0
short_get n (q ∷ ps) (suc k) p h e = short_get n ps k p h.1 e

mutual
  paths_short : (fs : Fields) (i : ℕ) → Short (depth fs) (repeated_paths_from fs i)
  paths_short no_fields i = tt
  paths_short (field m r s fs) i =
      let below : Short (suc (shape_depth s)) (own_path (record { place = i; repetition = r }) r (shape_repeated_paths s)) = own_short (shape_depth s) (record { place = i; repetition = r }) r (shape_repeated_paths s) (shape_short s) in
      short_append (depth (field m r s fs)) (own_path (record { place = i; repetition = r }) r (shape_repeated_paths s)) (repeated_paths_from fs (suc i))
      (short_more (suc (shape_depth s)) (depth (field m r s fs)) (own_path (record { place = i; repetition = r }) r (shape_repeated_paths s)) (omega arith) below)
      (short_more (depth fs) (depth (field m r s fs)) (repeated_paths_from fs (suc i)) (omega arith) (paths_short fs (suc i)))

  shape_short : (s : Shape) → Short (shape_depth s) (shape_repeated_paths s)
  shape_short (leaf k) = tt
  shape_short (group fs) = paths_short fs 0

-- ---- chains

chain_short : (p : List Step) → length (chain p) ≤ length p
chain_short [] = omega arith
chain_short (s ∷ p) = by_repeated (is_repeated s.repetition) (chain_short p)
  where
    more : length (chain p) ≤ length p → length (map (λ (q : List Step). s ∷ q) (chain p)) ≤ length p
    more h = let e : length (map (λ (q : List Step). s ∷ q) (chain p)) ≡ length (chain p) = length-map (chain p) (λ q. s ∷ q) in omega (arith, e, h)

    by_repeated : (b : Bool) → length (chain p) ≤ length p → length (if b then (s ∷ []) ∷ map (λ (q : List Step). s ∷ q) (chain p) else map (λ (q : List Step). s ∷ q) (chain p)) ≤ suc (length p)
    by_repeated true h = omega (arith, more h)
    by_repeated false h = omega (arith, more h)

front_short : (cs ds : List (List Step)) → is_chain_front cs ds ≡ true → length cs ≤ length ds
front_short [] ds h = omega arith
front_short (c ∷ cs) [] h = absurd (cc)
front_short (c ∷ cs) (d ∷ ds) h =
    let x : (same_path c d ≡ true) × (is_chain_front cs ds ≡ true) = and_parts _ _ h in
    let l : length cs ≤ length ds = front_short cs ds x.1 in
    omega (arith, l)

-- ---- one more move

module _ (w : Watch) where
  move_depth : (c : Context) (m : Move) (n : Numbers) → (count_move w c m n).depth ≡ depth_behind n.depth m
  move_depth c (enter k) n = by_next ((n.along == n.depth) && is_first k (drop n.along (whole_chain w)))
    where
      by_next : (b : Bool) → (count_entered b n).depth ≡ suc n.depth
      by_next true = refl
      by_next false = refl
  move_depth c (value i t) n = by_leaf (i == w.last)
    where
      by_test : (b : Bool) → (count_row b n).depth ≡ n.depth
      by_test true = refl
      by_test false = refl

      by_leaf : (b : Bool) → (if b then count_row (w.test c) n else n).depth ≡ n.depth
      by_leaf true = by_test (w.test c)
      by_leaf false = refl
  move_depth c (leave k) n = by_chain (n.along == n.depth)
    where
      by_chain : (b : Bool) → (count_left b n).depth ≡ n.depth - 1
      by_chain true = refl
      by_chain false = refl

module _ (fs : Fields) (F : List Leaf) where
  -- so many branches are open: the record, and no more instances in it than the fields are deep
  abbrev AreOpen : Open → ℕ → Type 0
  AreOpen no_record n = n ≡ 0
  AreOpen (in_record c) n = (n ≡ suc (length c)) × (length c ≤ depth fs)

  -- what nests is open
  by_true : (b : Bool) (o p : Open) (n : ℕ) → (b ≡ true → AreOpen o n) → where_true b o ≡ Some p → AreOpen p n
  by_true true o p n h e = let same : o ≡ p = cc in subst (λ (x : Open). AreOpen x n) same (h refl)
  by_true false o p n h e = absurd (cc)

  entered_open : (c : List (List Step)) (k n : ℕ) (o : Open) → n ≡ suc (length c) → entered c (slice_get (repeated_paths fs) k) ≡ Some o → AreOpen o (suc n)
  entered_open c k n o d e = by_path (slice_get (repeated_paths fs) k) refl e
    where
      by_path : (x : Option (List Step)) → slice_get (repeated_paths fs) k ≡ x → entered c x ≡ Some o → AreOpen o (suc n)
      by_path None q e = absurd (cc)
      by_path (Some p) q e = by_true (is_same_chain (chain p) (reverse (p ∷ c))) (in_record (p ∷ c)) o (suc n) fits e
        where
          fits : is_same_chain (chain p) (reverse (p ∷ c)) ≡ true → AreOpen (in_record (p ∷ c)) (suc n)
          fits h =
              let x : (is_chain_front (chain p) (reverse (p ∷ c)) ≡ true) × (is_chain_front (reverse (p ∷ c)) (chain p) ≡ true) = and_parts _ _ h in
              let l : length (reverse (p ∷ c)) ≤ length (chain p) = front_short (reverse (p ∷ c)) (chain p) x.1 in
              let v : length (reverse (p ∷ c)) ≡ length (p ∷ c) = length-reverse (p ∷ c) in
              let s : length p ≤ depth fs = short_get (depth fs) (repeated_paths fs) k p (paths_short fs 0) q in
              (omega (arith, d), omega (arith, l, v, chain_short p, s))

  left_open : (c : List (List Step)) (x : Option (List Step)) (n : ℕ) (o : Open) → AreOpen (in_record c) n → left c x ≡ Some o → AreOpen o (n - 1)
  left_open [] None n o h e = absurd (cc)
  left_open (q ∷ c) None n o h e = absurd (cc)
  left_open [] (Some p) n o h e = absurd (cc)
  left_open (q ∷ c) (Some p) n o h e = by_true (same_path q p) (in_record c) o (n - 1) (λ t. (omega (arith, h.0), omega (arith, h.1))) e

  passed_open : (c : List (List Step)) (t : Triplet) (x : Option Leaf) (n : ℕ) (o : Open) → AreOpen (in_record c) n → passed_leaf c t x ≡ Some o → AreOpen o n
  passed_open c t None n o h e = absurd (cc)
  passed_open c t (Some l) n o h e = by_true (is_chain_front (reverse c) (chain l.path) && is_of_leaf l t.value) (in_record c) o n (λ t. h) e

  move_open : (o p : Open) (m : Move) (n : ℕ) → AreOpen o n → open_after fs F o m ≡ Some p → AreOpen p (depth_behind n m)
  move_open no_record p (enter zero) n h e = let same : in_record [] ≡ p = cc in subst (λ (x : Open). AreOpen x (suc n)) same (ap suc h, omega arith)
  move_open no_record p (enter (suc k)) n h e = absurd (cc)
  move_open no_record p (value i t) n h e = absurd (cc)
  move_open no_record p (leave k) n h e = absurd (cc)
  move_open (in_record c) p (enter zero) n h e = absurd (cc)
  move_open (in_record c) p (enter (suc k)) n h e = entered_open c k n p h.0 e
  move_open (in_record c) p (value i t) n h e = passed_open c t (slice_get F i) n p h e
  move_open (in_record []) p (leave zero) n h e = let same : no_record ≡ p = cc in subst (λ (x : Open). AreOpen x (n - 1)) same (omega (arith, h.0))
  move_open (in_record (q ∷ c)) p (leave zero) n h e = absurd (cc)
  move_open (in_record c) p (leave (suc k)) n h e = left_open c (slice_get (repeated_paths fs) k) n p h e

  few : (o : Open) (n : ℕ) → AreOpen o n → n ≤ suc (depth fs)
  few no_record n h = omega (arith, h)
  few (in_record c) n h = let a : n ≡ suc (length c) = h.0 in let b : length c ≤ depth fs = h.1 in omega (arith, a, b)

  -- ---- along moves
  few_along : (w : Watch) (ms : List Move) (g : Counted) (o : Open) → AreOpen o g.numbers.depth → is_some (open_after_moves fs F o ms) ≡ true → (count_all w g ms).numbers.depth ≤ suc (depth fs)
  few_along w [] g o h e = few o g.numbers.depth h
  few_along w (m ∷ ms) g o h e = by_open (open_after fs F o m) refl e (few_along w ms (count_on w g m))
    where
      by_open : (x : Option Open) → open_after fs F o m ≡ x → is_some (option_and_then (λ p. open_after_moves fs F p ms) x) ≡ true
          → ((p : Open) → AreOpen p (count_on w g m).numbers.depth → is_some (open_after_moves fs F p ms) ≡ true → (count_all w (count_on w g m) ms).numbers.depth ≤ suc (depth fs))
          → (count_all w (count_on w g m) ms).numbers.depth ≤ suc (depth fs)
      by_open None q e f = absurd (cc)
      by_open (Some p) q e f = f p (subst (AreOpen p) (sym (move_depth w (context_behind g.context m) m g.numbers)) (move_open o p m g.numbers.depth h q)) e

  few_pruned : (w : Watch) (ms : List Move) (g : Pruning) (o : Open) → AreOpen o g.numbers.depth → is_some (open_after_moves fs F o ms) ≡ true
      → (prune_moves w g ms).numbers.depth ≤ suc (depth fs)
  few_pruned w [] g o h e = few o g.numbers.depth h
  few_pruned w (m ∷ ms) g o h e = by_open (open_after fs F o m) refl e (few_pruned w ms (prune_move w g m))
    where
      by_open : (x : Option Open) → open_after fs F o m ≡ x → is_some (option_and_then (λ p. open_after_moves fs F p ms) x) ≡ true
          → ((p : Open) → AreOpen p (prune_move w g m).numbers.depth → is_some (open_after_moves fs F p ms) ≡ true → (prune_moves w (prune_move w g m) ms).numbers.depth ≤ suc (depth fs))
          → (prune_moves w (prune_move w g m) ms).numbers.depth ≤ suc (depth fs)
      by_open None q e f = absurd (cc)
      by_open (Some p) q e f =
          let c = context_behind g.context m in
          let d = move_depth (answering w (parts_behind c m g.parts)) c m g.numbers in
          f p (subst (AreOpen p) (sym d) (move_open o p m g.numbers.depth h q)) e

pub few_are_open : FewAreOpen
few_are_open fs F ms t p d n s =
    let l = few_along fs F (record { chain = p.chain.items; last = p.last; test = t }) ms nothing_counted no_record refl n in
    let e = ap (λ (x : Numbers). x.depth) s in
    omega (arith, l, e, d)

pub few_are_pruned : FewArePruned
few_are_pruned fs F ms s t ls p d n h =
    let l = few_pruned fs F (record { chain = p.chain.items; last = p.last; test = s }) ms (nothing_pruned (untested t ls)) no_record refl n in
    let e = ap (λ (x : Numbers). x.depth) h in
    omega (arith, l, e, d)
