-- What is known of open branches by the numbers of a pruner in parts, one move more.
use Rattle.std.proofs.Common.{◌≡◌, ◌-◌, ◌<◌, ◌≤◌, ℕ, zero, suc, min, List, [], ◌∷◌, ◌++◌, drop, replicate, length, Bool, true, false, ◌&&◌, Option, Some, None, refl, sym, ap, ap₂, subst, ◌∙◌, true≢false, arith}
use Rattle.std.specs.Prelude.{◌==◌, ◌||◌, nat_le, nat_lt, if◌then◌else◌}
use Rattle.std.specs.List.{list_all}
use Rattle.std.proofs.lemmas.Bool.{eqb-true, and_parts}
use Rattle.std.proofs.lemmas.Bool.Decides.{nat_tests}
use Rattle.dr_meaning.specs.Column.{Triplet}
use Rattle.dr_meaning.specs.Walk.{Move, enter, value, leave}
use Rattle.dr_moves.specs.Context.{Context}
use Rattle.dr_moves.specs.Condition.{Watch}
use Rattle.dr_kept_laws.specs.Telling.{kept, dropped, undecided, first_dropped, is_told_dropped}
use Rattle.dr_kept_laws.specs.Counting.{Numbers, whole_chain, is_first, count_entered, count_row, count_left, count_move, verdict_left, verdicts_of, left_among, context_behind}
use Rattle.dr_kept_laws.specs.Parts.{answering, parts_behind, Pruning, prune_move, prune_moves}
use Rattle.dr_condition.specs.Parted.{WatchedParts}
use Rattle.dr_condition.specs.Watching.{is_settled, pruned_behind, dropped_at, TellsKept}
use Rattle.dr_condition.proofs.WatchingLemmas.{twice_reversed}
use Rattle.dr_within.specs.Framing.{StaySettled, AllSettled}
use Rattle.dr_within.specs.Behind.{settled_of, settled_by, settled_behind}

-- ---- on the chain

above_test : (a i : ℕ) → i < a → nat_le a i ≡ false
above_test a i h = grind (arith, nat_tests)

min_test : (h a i : ℕ) → i < a → nat_lt i (min h a) ≡ nat_lt i h
min_test h a i l = grind (arith, nat_tests)

every_place : (a i : ℕ) → (nat_le a i || nat_lt i a) ≡ true
every_place a i = grind (arith, nat_tests)

-- one more on the chain behind these
longer_chain : (a h i : ℕ) → i ≤ a → settled_of (suc a) h i ≡ settled_of a h i
longer_chain a h zero l = refl
longer_chain a h (suc i) l =
    let m : i < a = omega (arith, l) in
    let n : i < suc a = omega (arith, l) in
    ap₂ (λ (x : Bool) (bs : List Bool). (x || nat_lt i h) ∷ bs) (above_test (suc a) i n ∙ sym (above_test a i m)) (longer_chain a h i (omega (arith, l)))

-- one less on it behind these
shorter_chain : (a h i : ℕ) → i ≤ a → settled_of a (min h a) i ≡ settled_of (suc a) h i
shorter_chain a h zero l = refl
shorter_chain a h (suc i) l =
    let m : i < a = omega (arith, l) in
    let n : i < suc a = omega (arith, l) in
    ap₂ (λ (x : Bool) (bs : List Bool). x ∷ bs)
    (ap₂ (λ (x y : Bool). x || y) (above_test a i m ∙ sym (above_test (suc a) i n)) (min_test h a i m))
    (shorter_chain a h i (omega (arith, l)))

-- ---- one move more

same_stay : (bs : List Bool) → StaySettled bs bs
same_stay [] = tt
same_stay (b ∷ bs) = (λ e. e, same_stay bs)

true_row : (a h i : ℕ) → StaySettled (settled_of a h i) (settled_of a a i)
true_row a h zero = tt
true_row a h (suc i) = (λ e. every_place a i, true_row a h i)

module _ (u : Watch) (c : Context) (n : Numbers) where
  pub entered_numbers : (k : ℕ) → (b : Bool) × (settled_by (count_move u c (enter k) n) ≡ b ∷ settled_by n)
  entered_numbers k = by_chain (n.along == n.depth) (is_first k (drop n.along (whole_chain u))) refl
    where
      by_chain : (x y : Bool) → (n.along == n.depth) ≡ x → (b : Bool) × (settled_by (count_entered (x && y) n) ≡ b ∷ settled_by n)
      by_chain true true e =
          let q : n.along ≡ n.depth = eqb-true n.along n.depth e in
          (_, ap (λ (bs : List Bool). (nat_le (suc n.along) n.depth || nat_lt n.depth n.hit) ∷ bs) (longer_chain n.along n.hit n.depth (omega (arith, q))))
      by_chain true false e = (_, refl)
      by_chain false y e = (_, refl)

  pub read_numbers : (i : ℕ) (t : Triplet) → StaySettled (settled_by n) (settled_by (count_move u c (value i t) n)) × ((count_move u c (value i t) n).depth ≡ n.depth)
  read_numbers i t = by_last (i == u.last) (u.test c)
    where
      by_last : (x y : Bool) → StaySettled (settled_by n) (settled_by (if x then count_row y n else n)) × ((if x then count_row y n else n).depth ≡ n.depth)
      by_last true true = (true_row n.along n.hit n.depth, refl)
      by_last true false = (same_stay (settled_by n), refl)
      by_last false y = (same_stay (settled_by n), refl)

  -- of the others as one is left
  pub left_numbers : (k d : ℕ) → n.depth ≡ suc d → settled_by (count_move u c (leave k) n) ≡ settled_of n.along n.hit d
  left_numbers k d e = by_chain (n.along == n.depth) refl
    where
      less : n.depth - 1 ≡ d
      less = omega (arith, e)

      by_chain : (x : Bool) → (n.along == n.depth) ≡ x → settled_by (count_left x n) ≡ settled_of n.along n.hit d
      by_chain true q =
          let a : n.along ≡ suc d = eqb-true n.along n.depth q ∙ e in
          let b : n.along - 1 ≡ d = omega (arith, a) in
          ap₂ (λ (x y : ℕ). settled_of x (min n.hit x) y) b less
          ∙ (shorter_chain d n.hit d (omega arith) ∙ ap (λ (x : ℕ). settled_of x n.hit d) (sym a))
      by_chain false q = ap (settled_of n.along n.hit) less

  pub none_numbers : (k : ℕ) → n.depth ≡ 0 → settled_by (count_move u c (leave k) n) ≡ []
  none_numbers k e = by_chain (n.along == n.depth)
    where
      less : n.depth - 1 ≡ 0
      less = omega (arith, e)

      by_chain : (x : Bool) → settled_by (count_left x n) ≡ []
      by_chain true = ap (settled_of (n.along - 1) (min n.hit (n.along - 1))) less
      by_chain false = ap (settled_of n.along n.hit) less

-- ---- by what is told

kept_where : (x y : Bool) → is_settled (if x then kept else if y then dropped else undecided) ≡ true → x ≡ true
kept_where true y h = refl
kept_where false true h = absurd (true≢false (sym h))
kept_where false false h = absurd (true≢false (sym h))

all_kept : (long : ℕ) (n : Numbers) (i : ℕ) → list_all is_settled (verdicts_of long n i) ≡ true → AllSettled (settled_of n.along n.hit i)
all_kept long n zero h = tt
all_kept long n (suc i) h = let x = and_parts _ _ h in (kept_where (nat_le n.along i || nat_lt i n.hit) ((suc i == long) && n.read) x.0, all_kept long n i x.1)

dropped_where : (x : Bool) → is_told_dropped (if x then kept else dropped) ≡ true → x ≡ false
dropped_where true h = absurd (true≢false (sym h))
dropped_where false h = refl

-- ---- behind moves

prune_snoc : (w : Watch) (g : Pruning) (ms : List Move) (m : Move) → prune_moves w g (ms ++ m ∷ []) ≡ prune_move w (prune_moves w g ms) m
prune_snoc w g [] m = refl
prune_snoc w g (x ∷ ms) m = prune_snoc w (prune_move w g x) ms m

-- the context and the watch of one move more
abbrev context_at : WatchedParts → List Move → Move → Context
context_at w ms m = context_behind (pruned_behind w ms).context m

abbrev watch_at : WatchedParts → List Move → Move → Watch
watch_at w ms m = answering w.watch (parts_behind (context_at w ms m) m (pruned_behind w ms).parts)

one_more : (w : WatchedParts) (ms : List Move) (m : Move) → (pruned_behind w (ms ++ m ∷ [])).numbers ≡ count_move (watch_at w ms m) (context_at w ms m) m (pruned_behind w ms).numbers
one_more w ms m = ap (λ (g : Pruning). g.numbers) (prune_snoc w.watch (pruned_behind w []) ms m)

-- into a branch
pub entered_settled : (W : Option WatchedParts) (n : ℕ) (ms : List Move) (k : ℕ) → (b : Bool) × (settled_behind W (suc n) (ms ++ enter k ∷ []) ≡ b ∷ settled_behind W n ms)
entered_settled None n ms k = (true, refl)
entered_settled (Some w) n ms k =
    let x = entered_numbers (watch_at w ms (enter k)) (context_at w ms (enter k)) (pruned_behind w ms).numbers k in
    (x.0, ap settled_by (one_more w ms (enter k)) ∙ x.1)

-- at a triplet
pub read_settled : (W : Option WatchedParts) (n : ℕ) (ms : List Move) (i : ℕ) (t : Triplet) → StaySettled (settled_behind W n ms) (settled_behind W n (ms ++ value i t ∷ []))
read_settled None n ms i t = same_stay (replicate n true)
read_settled (Some w) n ms i t =
    subst (λ (x : Numbers). StaySettled (settled_by (pruned_behind w ms).numbers) (settled_by x)) (sym (one_more w ms (value i t)))
    (read_numbers (watch_at w ms (value i t)) (context_at w ms (value i t)) (pruned_behind w ms).numbers i t).0

all_true : (n : ℕ) → AllSettled (replicate n true)
all_true zero = tt
all_true (suc n) = (refl, all_true n)

pub kept_settled : (W : Option WatchedParts) (n : ℕ) (ms : List Move) (i : ℕ) (t : Triplet) (is_kept : Bool) → TellsKept W ms (value i t) is_kept → is_kept ≡ true → AllSettled (settled_behind W n (ms ++ value i t ∷ []))
kept_settled None n ms i t is_kept h e = all_true n
kept_settled (Some w) n ms i t is_kept h e =
    let u = watch_at w ms (value i t) in
    let c = context_at w ms (value i t) in
    let before = (pruned_behind w ms).numbers in
    let x = count_move u c (value i t) before in
    let long = length (whole_chain u) in
    let told : list_all is_settled (verdicts_of long x before.depth) ≡ true = ap (list_all is_settled) (sym (twice_reversed (verdicts_of long x before.depth))) ∙ h e in
    subst (λ (y : Numbers). AllSettled (settled_by y)) (sym (one_more w ms (value i t)))
    (subst (λ (d : ℕ). AllSettled (settled_of x.along x.hit d)) (sym (read_numbers u c before i t).1) (all_kept long x before.depth told))

-- out of a branch: what is known of the others, and that it isn't known to be kept where it is dropped
pub record Leaves (W : Option WatchedParts) (ms : List Move) (k : ℕ) (n : ℕ) (b : Bool) (bs : List Bool) : Type 0 where
  pub others : settled_behind W n (ms ++ leave k ∷ []) ≡ bs
  pub unsettled : dropped_at W ms (leave k) ≡ true → b ≡ false

first_of : (b c : Bool) (bs cs : List Bool) → b ∷ bs ≡ c ∷ cs → (b ≡ c) × (bs ≡ cs)
first_of b c bs cs e = (cc, cc)

never_empty : (b : Bool) (bs : List Bool) → [] ≡ b ∷ bs → ⊥
never_empty b bs e = cc

pub left_settled : (W : Option WatchedParts) (n : ℕ) (ms : List Move) (k : ℕ) (b : Bool) (bs : List Bool) → settled_behind W (suc n) ms ≡ b ∷ bs → Leaves W ms k n b bs
left_settled None n ms k b bs e = let x = first_of true b (replicate n true) bs e in record { others = x.1; unsettled = λ q. absurd (true≢false (sym q)) }
left_settled (Some w) n ms k b bs e = by_depth (pruned_behind w ms).numbers.depth refl e
  where
    told : (d : ℕ) → (pruned_behind w ms).numbers.depth ≡ suc d → dropped_at (Some w) ms (leave k) ≡ is_told_dropped (verdict_left (pruned_behind w ms).numbers d)
    told d q =
        ap first_dropped (twice_reversed (left_among (length (whole_chain w.watch)) (pruned_behind w ms).numbers (pruned_behind w ms).numbers.depth))
        ∙ ap (λ (x : ℕ). first_dropped (left_among (length (whole_chain w.watch)) (pruned_behind w ms).numbers x)) q

    by_depth : (d : ℕ) → (pruned_behind w ms).numbers.depth ≡ d → settled_of (pruned_behind w ms).numbers.along (pruned_behind w ms).numbers.hit d ≡ b ∷ bs → Leaves (Some w) ms k n b bs
    by_depth zero q e = absurd (never_empty b bs e)
    by_depth (suc d) q e =
        let x = (pruned_behind w ms).numbers in
        let y = first_of (nat_le x.along d || nat_lt d x.hit) b (settled_of x.along x.hit d) bs e in
        record {
          others = ap settled_by (one_more w ms (leave k)) ∙ left_numbers (watch_at w ms (leave k)) (context_at w ms (leave k)) x k d q ∙ y.1;
          unsettled = λ h. sym y.0 ∙ dropped_where (nat_le x.along d || nat_lt d x.hit) (sym (told d q) ∙ h);
        }

-- where nothing is open nothing is left
pub none_settled : (W : Option WatchedParts) (ms : List Move) (k : ℕ) → settled_behind W 0 ms ≡ [] → settled_behind W 0 (ms ++ leave k ∷ []) ≡ []
none_settled None ms k e = refl
none_settled (Some w) ms k e = by_depth (pruned_behind w ms).numbers.depth refl e
  where
    by_depth : (d : ℕ) → (pruned_behind w ms).numbers.depth ≡ d → settled_of (pruned_behind w ms).numbers.along (pruned_behind w ms).numbers.hit d ≡ [] → settled_behind (Some w) 0 (ms ++ leave k ∷ []) ≡ []
    by_depth zero q e = ap settled_by (one_more w ms (leave k)) ∙ none_numbers (watch_at w ms (leave k)) (context_at w ms (leave k)) (pruned_behind w ms).numbers k q
    by_depth (suc d) q e = absurd (never_empty _ _ (sym e))

pub first_settled : (W : Option WatchedParts) → settled_behind W 0 [] ≡ []
first_settled None = refl
first_settled (Some w) = refl
