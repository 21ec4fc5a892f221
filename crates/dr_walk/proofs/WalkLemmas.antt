-- A walk over columns by their levels: what it knows, what it takes, what it gives.
use Rattle.std.proofs.Common.{◌≡◌, ◌≢◌, ◌⊎◌, inl, inr, ℕ, zero, suc, ◌+◌, ◌-◌, ◌^◌, ◌<◌, ◌≤◌, min, List, [], ◌∷◌, ◌++◌, length, get_or, Bool, true, false, ◌&&◌, Option, Some, None, refl, sym, ap, ap₂, subst, ◌∙◌, append-nil, true≢false, arith}
use Rattle.std.specs.Prelude.{not, ◌==◌, nat_lt, if◌then◌else◌, option_map, replicate}
use Rattle.std.proofs.lemmas.List.{get_or_past, get_or-replicate, length-replicate}
use Rattle.std.proofs.lemmas.Bool.{eqb-true, ne_eqb, ltb-true}
use Rattle.std.proofs.lemmas.Bool.Decides.{nat_tests}
use Rattle.dr_meaning.specs.Schema.{Fields, depth, greatest_depth}
use Rattle.dr_meaning.specs.Path.{Step}
use Rattle.dr_meaning.specs.Column.{Triplet}
use Rattle.dr_meaning.specs.Walk.{Move, enter, value, leave}
use Rattle.dr_meaning.specs.WalkLaws.{triplets_of}
use Rattle.dr_levels.specs.Views.{levels_pair, triplet_levels}
use Rattle.dr_levels.specs.declared.triplet.Levels.{Levels}
use Rattle.dr_moves.specs.Course.{Items, course}
use Rattle.dr_moves.specs.Turning.{Stack, between, gives, done, stops, turn}
use Rattle.dr_moves.specs.Leading.{Left, Leads, stays, moves, turns, columns_of, head_of, heads as next_of, behind_move}
use Rattle.dr_moves.proofs.LeadingLemmas.{leads_taken, leads_on}
use Rattle.dr_walk.specs.Seen.{levels_at, AreLevelsOf}
use Rattle.std.proofs.Common.{Result, Ok, Err}
use Rattle.dr_nested.specs.Views.{kind_view}
use Rattle.dr_nested.specs.declared.shape.Kind as code_kind
use Rattle.dr_walk.specs.Views.{items_view}
use Rattle.dr_walk.specs.declared.course.Course.{Course}
use Rattle.dr_walk.specs.declared.fault.AssembleFault.{AssembleFault}
use Rattle.dr_walk.specs.Standing.{Stands, GoesOn, stays_here, goes_further, GivesLeaf, fits}
use Rattle.dr_walk.specs.Walking.{pending, next_levels, is_known, wanted_behind, triplet_count, count_one, count_some, first_wanted, leaf_moves, moves_over, behind_moves, fits_next, LastGives, Gave, Goes, IsAtLevels}
use Rattle.dr_walk.specs.declared.level_move.LevelMove.{LevelMove}
use Rattle.dr_walk.specs.declared.level_walk.LevelWalk.{LevelWalk}

-- ---- levels, of what is pending

pub all_known : (fs : Fields) (F : List (List Step)) (rows : ℕ) (C : List (List Triplet)) (ms : List Move) (left : Left) (w : LevelWalk) → IsAtLevels fs F rows C ms left w → w.wanted ≡ None → AreLevelsOf w.course.heads.items (next_of left)
all_known fs F rows C ms left w at n i = at.known i (ap (λ (o : Option ℕ). is_known o w.given i) n)

-- ---- turns without a move

pub gone : (top : Items) (left : Left) (S V : Stack) → GoesOn top (next_of left) S V → Leads top S left [] V left
gone top left _ _ (stays_here S) = stays S left
gone top left _ _ (goes_further S U V e g) = turns S U V left left [] e (gone top left U V g)

-- and then one
pub moved : (top : Items) (start : Stack) (C left : Left) (ms : List Move) (S V U : Stack) (m : Move) → Leads top start C ms S left → GoesOn top (next_of left) S V → turn top V (next_of left) ≡ gives m U → Leads top start C (ms ++ m ∷ []) U (behind_move m left)
moved top start C left ms S V U m l g e = leads_on top start S U C left (behind_move m left) ms (m ∷ []) l (leads_on top S V U left left (behind_move m left) [] (m ∷ []) (gone top left S V g) (moves V U U left (behind_move m left) m [] e (stays U (behind_move m left))))

-- ---- beyond the leaves nothing is left

nothing_behind : {A : Type 0} (xs ys : List A) → [] ≡ xs ++ ys → ys ≡ []
nothing_behind [] ys e = sym e
nothing_behind (x ∷ xs) ys e = absurd (cc)

pub left_past : (top : Items) (start S : Stack) (C : List (List Triplet)) (ms : List Move) (left : Left) (n i : ℕ) → Leads top start (columns_of C) ms S left → length C ≡ n → n ≤ i → left i ≡ []
left_past top start S C ms left n i l c p =
    nothing_behind (triplets_of i ms) (left i) (sym (get_or_past C i [] (omega (arith, c, p))) ∙ leads_taken top start S (columns_of C) left ms l i)

pub pending_past : (w : LevelWalk) (n i : ℕ) → length w.course.heads.items ≡ n → n ≤ i → pending w i ≡ None
pending_past w n i c p = ap (λ (o : Option Levels). option_map levels_pair o) (get_or_past w.course.heads.items i None (omega (arith, c, p)))

-- ---- counting

pub same_count : (P Q : ℕ → Option (ℕ × ℕ)) (n : ℕ) → ((j : ℕ) → j < n → Q j ≡ P j) → count_some Q n ≡ count_some P n
same_count P Q zero h = refl
same_count P Q (suc n) h = ap₂ (λ (x y : ℕ). x + y) (ap count_one (h n (omega arith))) (same_count P Q n (λ j l. h j (omega (arith, l))))

-- where only one changes
pub count_changes : (P Q : ℕ → Option (ℕ × ℕ)) (n i : ℕ) → i < n → ((j : ℕ) → j ≢ i → Q j ≡ P j) → count_some Q n + count_one (P i) ≡ count_some P n + count_one (Q i)
count_changes P Q zero i l h = absurd (no_less i l)
  where
    no_less : (i : ℕ) → i < 0 → ⊥
    no_less i l = omega (arith, l)
count_changes P Q (suc n) i l h = by_bit (i == n) refl (λ m. count_changes P Q n i m h)
  where
    by_bit : (b : Bool) → (i == n) ≡ b → (i < n → count_some Q n + count_one (P i) ≡ count_some P n + count_one (Q i)) → (count_one (Q n) + count_some Q n) + count_one (P i) ≡ (count_one (P n) + count_some P n) + count_one (Q i)
    by_bit true e rec =
        let k : i ≡ n = eqb-true i n e in
        let s : count_some Q n ≡ count_some P n = same_count P Q n (λ j m. h j (λ q. no_more (omega (arith, q, m, k)))) in
        let p : count_one (P i) ≡ count_one (P n) = ap (λ (x : ℕ). count_one (P x)) k in
        let q : count_one (Q i) ≡ count_one (Q n) = ap (λ (x : ℕ). count_one (Q x)) k in
        omega (arith, s, p, q)
      where
        no_more : n < n → ⊥
        no_more x = omega (arith, x)
    by_bit false e rec =
        let k : n ≢ i = λ q. true≢false (itself i n q ∙ e) in
        let m : i < n = less i n l e in
        let r = rec m in
        let s : count_one (Q n) ≡ count_one (P n) = ap count_one (h n k) in
        omega (arith, r, s)
      where
        itself : (a b : ℕ) → b ≡ a → true ≡ (a == b)
        itself a b q = grind (arith, nat_tests)

        less : (a b : ℕ) → a < suc b → (a == b) ≡ false → a < b
        less a b x y = grind (arith, nat_tests)

-- ---- what is known once a leaf's next triplet was taken

abbrev pub is_known_by : Bool → Option ℕ → ℕ → Bool
is_known_by b None i = true
is_known_by b (Some j) i = if b then nat_lt i j else not (i == j)

pub known_is : (o : Option ℕ) (given i : ℕ) → is_known o given i ≡ is_known_by (given == 0) o i
known_is None given i = refl
known_is (Some j) given i = refl

pub not_known : (given leaf : ℕ) → is_known (Some leaf) given leaf ≡ false
not_known given leaf = by_bit (given == 0)
  where
    no_less : (x : ℕ) → nat_lt x x ≡ false
    no_less x = grind (arith, nat_tests)

    same : (x : ℕ) → not (x == x) ≡ false
    same x = grind (arith, nat_tests)

    by_bit : (b : Bool) → (if b then nat_lt leaf leaf else not (leaf == leaf)) ≡ false
    by_bit true = no_less leaf
    by_bit false = same leaf

pub known_before : (given n leaf i : ℕ) → i ≢ leaf → is_known (wanted_behind given n leaf) given i ≡ true → (is_known (Some leaf) given i ≡ true) ⊎ (n ≤ i)
known_before given n leaf i d k = by_first (given == 0) (nat_lt (leaf + 1) n) refl (sym (known_is (wanted_behind given n leaf) given i) ∙ k)
  where
    differs : not (i == leaf) ≡ true
    differs = ap not (ne_eqb i leaf d)

    by_later : (b : Bool) → nat_lt i leaf ≡ b → nat_lt (leaf + 1) n ≡ false → (nat_lt i leaf ≡ true) ⊎ (n ≤ i)
    by_later true e f = inl e
    by_later false e f = inr (past i leaf n d e f)
      where
        past : (i leaf n : ℕ) → i ≢ leaf → nat_lt i leaf ≡ false → nat_lt (leaf + 1) n ≡ false → n ≤ i
        past i leaf n d e f = grind (arith, nat_tests)

    before : (i leaf : ℕ) → i ≢ leaf → nat_lt i (leaf + 1) ≡ true → nat_lt i leaf ≡ true
    before i leaf d e = grind (arith, nat_tests)

    by_first : (b c : Bool) → nat_lt (leaf + 1) n ≡ c → is_known_by b (if b && c then Some (leaf + 1) else None) i ≡ true → (is_known_by b (Some leaf) i ≡ true) ⊎ (n ≤ i)
    by_first true true e k = inl (before i leaf d k)
    by_first true false e k = by_later (nat_lt i leaf) refl e
    by_first false c e k = inl differs

pub unknown_before : (given n leaf i : ℕ) → is_known (wanted_behind given n leaf) given i ≡ false → (i ≢ leaf) × (is_known (Some leaf) given i ≡ false)
unknown_before given n leaf i k = by_first (given == 0) (nat_lt (leaf + 1) n) (sym (known_is (wanted_behind given n leaf) given i) ∙ k)
  where
    apart : (i leaf : ℕ) → nat_lt i (leaf + 1) ≡ false → i ≢ leaf
    apart i leaf e q = true≢false (sym (less i leaf q) ∙ e)
      where
        less : (i leaf : ℕ) → i ≡ leaf → nat_lt i (leaf + 1) ≡ true
        less i leaf q = grind (arith, nat_tests)

    later : (i leaf : ℕ) → nat_lt i (leaf + 1) ≡ false → nat_lt i leaf ≡ false
    later i leaf e = grind (arith, nat_tests)

    by_first : (b c : Bool) → is_known_by b (if b && c then Some (leaf + 1) else None) i ≡ false → (i ≢ leaf) × (is_known_by b (Some leaf) i ≡ false)
    by_first true true k = (apart i leaf k, later i leaf k)
    by_first true false k = absurd (true≢false k)
    by_first false c k = absurd (true≢false k)

wanted_within : (given n leaf i : ℕ) → wanted_behind given n leaf ≡ Some i → i < n
wanted_within given n leaf i e = by_bit (given == 0) (nat_lt (leaf + 1) n) refl e
  where
    none_is_some : None ≡ Some i → ⊥
    none_is_some q = cc

    by_bit : (b c : Bool) → nat_lt (leaf + 1) n ≡ c → (if b && c then Some (leaf + 1) else None) ≡ Some i → i < n
    by_bit true true f e = let k : leaf + 1 ≡ i = cc in let l = ltb-true (leaf + 1) n f in omega (arith, k, l)
    by_bit true false f e = absurd (none_is_some e)
    by_bit false c f e = absurd (none_is_some e)

wanted_fresh : (given n leaf i : ℕ) → wanted_behind given n leaf ≡ Some i → given ≡ 0
wanted_fresh given n leaf i e = by_bit (given == 0) (nat_lt (leaf + 1) n) refl e
  where
    none_is_some : None ≡ Some i → ⊥
    none_is_some q = cc

    by_bit : (b c : Bool) → (given == 0) ≡ b → (if b && c then Some (leaf + 1) else None) ≡ Some i → given ≡ 0
    by_bit true c f e = eqb-true given 0 f
    by_bit false c f e = absurd (none_is_some e)

pub wanted_other : (given n leaf i : ℕ) → leaf ≡ i → wanted_behind given n leaf ≡ Some i → ⊥
wanted_other given n leaf i q e = by_bit (given == 0) (nat_lt (leaf + 1) n) e
  where
    none_is_some : None ≡ Some i → ⊥
    none_is_some q = cc

    by_bit : (b c : Bool) → (if b && c then Some (leaf + 1) else None) ≡ Some i → ⊥
    by_bit true true e = let k : leaf + 1 ≡ i = cc in never (omega (arith, k, q))
      where
        never : leaf < leaf → ⊥
        never x = omega (arith, x)
    by_bit true false e = none_is_some e
    by_bit false c e = none_is_some e

-- a walk that took what comes of the leaf that it wants
pub taken_at : (fs : Fields) (F : List (List Step)) (rows : ℕ) (C : List (List Triplet)) (ms : List Move) (left : Left) (old new : LevelWalk) (leaf : ℕ) (t : Option (ℕ × ℕ)) → IsAtLevels fs F rows C ms left old → old.wanted ≡ Some leaf → t ≡ next_levels (left leaf)
    → pending new leaf ≡ t → ((i : ℕ) → i ≢ leaf → pending new i ≡ pending old i) → length new.course.heads.items ≡ length old.course.heads.items
    → ((top : Items) (S : Stack) → Stands top old.course S → Stands top new.course S) → new.wanted ≡ wanted_behind old.given (length old.course.heads.items) leaf → new.failed ≡ old.failed → new.given ≡ old.given → new.taken ≡ min (old.taken + count_one t) (2 ^ 64 - 1)
    → IsAtLevels fs F rows C ms left new
taken_at fs F rows C ms left old new leaf t at w e here others hs st nw nf ng nt =
    let n = length old.course.heads.items in
    let within : leaf < length F = at.wants leaf w in
    let before : pending old leaf ≡ None = at.unknown leaf (ap (λ (o : Option ℕ). is_known o old.given leaf) w ∙ not_known old.given leaf) in
    let count = count_changes (pending old) (pending new) (length F) leaf within others in
    let a : count_one (pending old leaf) ≡ 0 = ap count_one before in
    let b : count_one (pending new leaf) ≡ count_one t = ap count_one here in
    record {
      columns = at.columns;
      few = at.few;
      deep = at.deep;
      heads = hs ∙ at.heads;
      stack = at.stack;
      leads = at.leads;
      stands = st (course fs F) at.stack at.stands;
      known = λ i k. known_at i (i == leaf) refl (sym (ap₂ (λ (o : Option ℕ) (g : ℕ). is_known o g i) nw ng) ∙ k);
      unknown = λ i k. let u = unknown_before old.given n leaf i (sym (ap₂ (λ (o : Option ℕ) (g : ℕ). is_known o g i) nw ng) ∙ k) in
          others i u.0 ∙ at.unknown i (ap (λ (o : Option ℕ). is_known o old.given i) w ∙ u.1);
      wants = λ i k. let l = wanted_within old.given n leaf i (sym nw ∙ k) in omega (arith, l, at.heads);
      asks = λ i k. inl (ng ∙ wanted_fresh old.given n leaf i (sym nw ∙ k));
      goes_on = nf ∙ at.goes_on;
      gave = ng ∙ at.gave;
      took = let x = at.took in omega (arith, nt, x, count, a, b);
    }
  where
    known_at : (i : ℕ) (b : Bool) → (i == leaf) ≡ b → is_known (wanted_behind old.given (length old.course.heads.items) leaf) old.given i ≡ true → pending new i ≡ next_levels (left i)
    known_at i true q k = let z : i ≡ leaf = eqb-true i leaf q in subst (λ (x : ℕ). pending new x ≡ next_levels (left x)) (sym z) (here ∙ e)
    known_at i false q k = by_side (known_before old.given (length old.course.heads.items) leaf i d k)
      where
        d : i ≢ leaf
        d z = true≢false (itself i leaf z ∙ q)
          where
            itself : (a b : ℕ) → a ≡ b → true ≡ (a == b)
            itself a b q = grind (arith, nat_tests)

        by_side : (is_known (Some leaf) old.given i ≡ true) ⊎ (length old.course.heads.items ≤ i) → pending new i ≡ next_levels (left i)
        by_side (inl h) = others i d ∙ at.known i (ap (λ (o : Option ℕ). is_known o old.given i) w ∙ h)
        by_side (inr h) = others i d ∙ pending_past old (length old.course.heads.items) i refl h
            ∙ sym (ap next_levels (left_past (course fs F) (between rows) at.stack C ms left (length F) i at.leads at.columns (omega (arith, h, at.heads))))

-- ---- a move that takes nothing

saturates : (g L N : ℕ) → g ≡ min L (2 ^ 64 - 1) → N ≡ L + 1 → min (g + 1) (2 ^ 64 - 1) ≡ min N (2 ^ 64 - 1)
saturates g L N e f = omega (arith, e, f)

pub one_more : (ms : List Move) (m : Move) → length (ms ++ m ∷ []) ≡ length ms + 1
one_more [] m = refl
one_more (n ∷ ms) m = let e = one_more ms m in omega (arith, e)

pub counted : (ms : List Move) (m : Move) → triplet_count (ms ++ m ∷ []) ≡ triplet_count ms + triplet_count (m ∷ [])
counted [] m = omega arith
counted (enter k ∷ ms) m = counted ms m
counted (value i t ∷ ms) m = let e = counted ms m in omega (arith, e)
counted (leave k ∷ ms) m = counted ms m

pub moved_at : (fs : Fields) (F : List (List Step)) (rows : ℕ) (C : List (List Triplet)) (ms : List Move) (left : Left) (old new : LevelWalk) (m : Move) (V U : Stack) → (at : IsAtLevels fs F rows C ms left old) → old.wanted ≡ None
    → GoesOn (course fs F) (next_of left) at.stack V → turn (course fs F) V (next_of left) ≡ gives m U → Stands (course fs F) new.course U → ((i : ℕ) → behind_move m left i ≡ left i) → triplet_count (m ∷ []) ≡ 0
    → new.course.heads.items ≡ old.course.heads.items → new.wanted ≡ old.wanted → new.failed ≡ old.failed → new.given ≡ min (old.given + 1) (2 ^ 64 - 1) → new.taken ≡ old.taken
    → IsAtLevels fs F rows C (ms ++ m ∷ []) (behind_move m left) new
moved_at fs F rows C ms left old new m V U at w go made st same none nh nw nf ng nt =
    let p : (i : ℕ) → pending new i ≡ pending old i = λ i. ap (λ hs. levels_at hs i) nh in
    let none_wanted : new.wanted ≡ None = nw ∙ w in
    record {
      columns = at.columns;
      few = at.few;
      deep = at.deep;
      heads = ap length nh ∙ at.heads;
      stack = U;
      leads = moved (course fs F) (between rows) (columns_of C) left ms at.stack V U m at.leads go made;
      stands = st;
      known = λ i k. p i ∙ all_known fs F rows C ms left old at w i ∙ ap next_levels (sym (same i));
      unknown = λ i k. absurd (true≢false (sym (ap (λ (o : Option ℕ). is_known o new.given i) none_wanted) ∙ k));
      wants = λ i k. absurd (none_is_some i (sym none_wanted ∙ k));
      asks = λ i k. absurd (none_is_some i (sym none_wanted ∙ k));
      goes_on = nf ∙ at.goes_on;
      gave = ng ∙ saturates old.given (length ms) (length (ms ++ m ∷ [])) at.gave (one_more ms m);
      took = let x = at.took in let y = counted ms m in let z = same_count (pending old) (pending new) (length F) (λ j l. p j) in omega (arith, nt, x, y, z, none);
    }
  where
    none_is_some : (i : ℕ) → None ≡ Some i → ⊥
    none_is_some i q = cc

-- ---- a leaf's triplet

last_is : (ms : List Move) (j : ℕ) (t : Triplet) → LastGives j (ms ++ value j t ∷ [])
last_is [] j t = refl
last_is (m ∷ []) j t = refl
last_is (m ∷ n ∷ ms) j t = last_is (n ∷ ms) j t

pub known_one : (given leaf j : ℕ) → given ≢ 0 → is_known (Some leaf) given j ≡ true → j ≢ leaf
known_one given leaf j d k q = true≢false (sym k ∙ rw (ne_eqb given 0 d) (same j leaf q))
  where
    same : (a b : ℕ) → a ≡ b → not (a == b) ≡ false
    same a b q = grind (arith, nat_tests)

unknown_one : (given leaf j : ℕ) → given ≢ 0 → is_known (Some leaf) given j ≡ false → j ≡ leaf
unknown_one given leaf j d k = by_bit (j == leaf) refl (sym (rw (ne_eqb given 0 d) refl) ∙ k)
  where
    by_bit : (b : Bool) → (j == leaf) ≡ b → not (j == leaf) ≡ false → j ≡ leaf
    by_bit true e h = eqb-true j leaf e
    by_bit false e h = absurd (true≢false (sym (ap not e) ∙ h))

pub gave_at : (fs : Fields) (F : List (List Step)) (rows : ℕ) (C : List (List Triplet)) (ms : List Move) (left : Left) (old new : LevelWalk) (leaf : ℕ) (t : Triplet) (V U : Stack) → (at : IsAtLevels fs F rows C ms left old) → old.wanted ≡ None
    → GoesOn (course fs F) (next_of left) at.stack V → turn (course fs F) V (next_of left) ≡ gives (value leaf t) U → Stands (course fs F) new.course U → head_of (left leaf) ≡ Some t
    → (leaf < length F → pending new leaf ≡ None) → ((j : ℕ) → j ≢ leaf → pending new j ≡ pending old j) → length new.course.heads.items ≡ length old.course.heads.items
    → new.wanted ≡ Some leaf → new.failed ≡ old.failed → new.given ≡ min (old.given + 1) (2 ^ 64 - 1) → new.taken ≡ old.taken
    → IsAtLevels fs F rows C (ms ++ value leaf t ∷ []) (behind_move (value leaf t) left) new
gave_at fs F rows C ms left old new leaf t V U at w go made st next here others nh nw nf ng nt =
    let within : leaf < length F = by_side (nat_lt leaf (length F)) refl in
    let gone : pending new leaf ≡ None = here within in
    let some : new.given ≢ 0 = λ q. never (omega (arith, ng, q)) in
    record {
      columns = at.columns;
      few = at.few;
      deep = at.deep;
      heads = nh ∙ at.heads;
      stack = U;
      leads = moved (course fs F) (between rows) (columns_of C) left ms at.stack V U (value leaf t) at.leads go made;
      stands = st;
      known = λ j k. let d = known_one new.given leaf j some (sym (ap (λ (o : Option ℕ). is_known o new.given j) nw) ∙ k) in others j d ∙ all_known fs F rows C ms left old at w j ∙ ap next_levels (sym (behind_other j d));
      unknown = λ j k. subst (λ (x : ℕ). pending new x ≡ None) (sym (unknown_one new.given leaf j some (sym (ap (λ (o : Option ℕ). is_known o new.given j) nw) ∙ k))) gone;
      wants = λ i k. let q : leaf ≡ i = same_leaf i (sym nw ∙ k) in subst (λ (x : ℕ). x < length F) q within;
      asks = λ i k. inr (subst (λ (x : ℕ). LastGives x (ms ++ value leaf t ∷ [])) (same_leaf i (sym nw ∙ k)) (last_is ms leaf t));
      goes_on = nf ∙ at.goes_on;
      gave = ng ∙ saturates old.given (length ms) (length (ms ++ value leaf t ∷ [])) at.gave (one_more ms (value leaf t));
      took =
          let x = at.took in
          let y = counted ms (value leaf t) in
          let z = count_changes (pending old) (pending new) (length F) leaf within others in
          let a : count_one (pending old leaf) ≡ 1 = ap count_one (all_known fs F rows C ms left old at w leaf ∙ ap (option_map triplet_levels) next) in
          let b : count_one (pending new leaf) ≡ 0 = ap count_one gone in
          omega (arith, nt, x, y, z, a, b);
    }
  where
    never : 1 ≤ 0 → ⊥
    never x = omega (arith, x)

    same_leaf : (i : ℕ) → Some leaf ≡ Some i → leaf ≡ i
    same_leaf i q = cc

    behind_other : (j : ℕ) → j ≢ leaf → behind_move (value leaf t) left j ≡ left j
    behind_other j d = rw (ne_eqb leaf j (λ q. d (sym q))) refl

    past : (a b : ℕ) → nat_lt a b ≡ false → b ≤ a
    past a b e = grind (arith, nat_tests)

    none_is_some : None ≡ Some t → ⊥
    none_is_some q = cc

    by_side : (b : Bool) → nat_lt leaf (length F) ≡ b → leaf < length F
    by_side true e = ltb-true leaf (length F) e
    by_side false e = absurd (none_is_some (sym (ap head_of (left_past (course fs F) (between rows) at.stack C ms left (length F) leaf at.leads at.columns (past leaf (length F) e))) ∙ next))

-- ---- the end

pub nothing_left : (w : LevelWalk) (left : Left) → ((i : ℕ) → pending w i ≡ next_levels (left i)) → ((i : ℕ) → pending w i ≡ None) → (i : ℕ) → left i ≡ []
nothing_left w left k e i = empty (left i) (sym (k i) ∙ e i)
  where
    empty : (xs : List Triplet) → next_levels xs ≡ None → xs ≡ []
    empty [] q = refl
    empty (x ∷ xs) q = absurd (some_is_none q)
      where
        some_is_none : Some (triplet_levels x) ≡ None → ⊥
        some_is_none q = cc

pub something_left : (w : LevelWalk) (left : Left) (i : ℕ) → ((i : ℕ) → pending w i ≡ next_levels (left i)) → pending w i ≢ None → left i ≢ []
something_left w left i k d e = d (k i ∙ ap next_levels e)

-- ---- the beginning

abbrev pub none_of : (A : Type 0) → Option A
none_of A = None

pub nothing_there : {A : Type 0} (n i : ℕ) → get_or (replicate n (none_of A)) i (none_of A) ≡ none_of A
nothing_there {A} n i = by_side (nat_lt i n) refl
  where
    past : (a b : ℕ) → nat_lt a b ≡ false → b ≤ a
    past a b e = grind (arith, nat_tests)

    by_side : (b : Bool) → nat_lt i n ≡ b → get_or (replicate n (none_of A)) i (none_of A) ≡ none_of A
    by_side true e = get_or-replicate n i (none_of A) (none_of A) (ltb-true i n e)
    by_side false e = let l = past i n e in let m = length-replicate n (none_of A) in get_or_past (replicate n (none_of A)) i (none_of A) (omega (arith, l, m))

pub at_start : (fs : Fields) (F : List (List Step)) (rows : ℕ) (C : List (List Triplet)) (w : LevelWalk) (n : ℕ) → depth fs ≤ greatest_depth → length C ≡ length F → n ≡ length F → n < 2 ^ 32 → w.course.heads.items ≡ replicate n None
    → Stands (course fs F) w.course (between rows) → w.wanted ≡ first_wanted n → w.failed ≡ None → w.given ≡ 0 → w.taken ≡ 0 → IsAtLevels fs F rows C [] (columns_of C) w
at_start fs F rows C w n dp c k few hs st nw nf ng nt =
    let none : (i : ℕ) → pending w i ≡ None = λ i. ap (λ hs. option_map levels_pair (get_or hs i None)) hs ∙ ap (λ o. option_map levels_pair o) (nothing_there n i) in
    record {
      columns = c;
      deep = dp;
      few = omega (arith, k, few);
      heads = ap length hs ∙ length-replicate n None ∙ k;
      stack = between rows;
      leads = stays (between rows) (columns_of C);
      stands = st;
      known = λ i q. none i ∙ known_at n i k (sym (ap₂ (λ (o : Option ℕ) (g : ℕ). is_known o g i) nw ng) ∙ q);
      unknown = λ i q. none i;
      wants = λ i q. wants_at n i k (sym nw ∙ q);
      asks = λ i q. inl ng;
      goes_on = nf;
      gave = ng ∙ omega arith;
      took = let x = none_yet (length F) none in omega (arith, nt, x);
    }
  where
    known_at : (n i : ℕ) → n ≡ length F → is_known (first_wanted n) 0 i ≡ true → None ≡ next_levels (columns_of C i)
    known_at zero i e q = ap next_levels (sym (get_or_past C i [] (omega (arith, c, e))))
    known_at (suc n) i e q = absurd (true≢false (sym q ∙ never i))
      where
        never : (i : ℕ) → nat_lt i 0 ≡ false
        never i = grind (arith, nat_tests)

    wants_at : (n i : ℕ) → n ≡ length F → first_wanted n ≡ Some i → i < length F
    wants_at zero i e q = absurd (none_is_some q)
      where
        none_is_some : None ≡ Some i → ⊥
        none_is_some q = cc
    wants_at (suc n) i e q = let z : 0 ≡ i = cc in omega (arith, z, e)

    none_yet : (n : ℕ) → ((i : ℕ) → pending w i ≡ None) → count_some (pending w) n ≡ 0
    none_yet zero h = refl
    none_yet (suc n) h = let a = none_yet n h in let b : count_one (pending w n) ≡ 0 = ap count_one (h n) in omega (arith, a, b)

-- ---- what a turn leads to

pub leads_to : (top : Items) (start : Stack) (C left : Left) (ms : List Move) (S V : Stack) → Leads top start C ms S left → GoesOn top (next_of left) S V → Leads top start C ms V left
leads_to top start C left ms S V l g = subst (λ (ns : List Move). Leads top start C ns V left) (append-nil ms) (leads_on top start S V C left left ms [] l (gone top left S V g))

-- a leaf's move, whatever its column's next value is
pub goes_leaf : (fs : Fields) (F : List (List Step)) (rows : ℕ) (C : List (List Triplet)) (ms : List Move) (left : Left) (old new : LevelWalk) (mid : Course) (leaf : ℕ) (l : Levels) (k : Option code_kind.Kind)
    → (at : IsAtLevels fs F rows C ms left old) → old.wanted ≡ None → (g : GivesLeaf (items_view mid.table.items.items) (course fs F) at.stack (next_of left) mid.spot leaf l k)
    → mid.heads.items ≡ old.course.heads.items → Stands (course fs F) mid g.to → new.wanted ≡ Some leaf → new.given ≡ min (old.given + 1) (2 ^ 64 - 1) → new.taken ≡ old.taken → new.failed ≡ old.failed
    → (leaf < length mid.heads.items → levels_at new.course.heads.items leaf ≡ None)
    → ((i : ℕ) → i ≢ leaf → levels_at new.course.heads.items i ≡ levels_at mid.heads.items i) → length new.course.heads.items ≡ length mid.heads.items
    → ((top : Items) (S : Stack) → Stands top mid S → Stands top new.course S)
    → Gave fs F rows C ms left new (LevelMove.Leaf leaf l k)
goes_leaf fs F rows C ms left old new mid leaf l k at w g mh ms_to nw ng nt nf here others nh st = record {
  levels = ap (option_map triplet_levels) g.next ∙ ap Some g.levels;
  on = λ f.
      let made : turn (course fs F) g.from (next_of left) ≡ gives (value leaf g.entry) g.to = g.made ∙ ap (λ (b : Bool). if b then gives (value leaf g.entry) g.to else stops) (fitting f) in
      let at2 : IsAtLevels fs F rows C (ms ++ value leaf g.entry ∷ []) (behind_move (value leaf g.entry) left) new =
      gave_at fs F rows C ms left old new leaf g.entry g.from g.to at w g.comes made (st (course fs F) g.to ms_to) g.next
      (λ m. here (subst (λ (n : ℕ). leaf < n) (sym (ap length mh ∙ at.heads)) m)) (λ j d. others j d ∙ ap (λ hs. levels_at hs j) mh) (nh ∙ ap length mh) nw nf ng nt in
      subst (λ (o : Option Triplet). IsAtLevels fs F rows C (ms ++ leaf_moves leaf o) (behind_moves (leaf_moves leaf o) left) new) (sym g.next) at2;
  unfit = λ f. record {
    stack = g.from;
    leads = leads_to (course fs F) (between rows) (columns_of C) left ms at.stack g.from at.leads g.comes;
    why = inl (g.made ∙ ap (λ (b : Bool). if b then gives (value leaf g.entry) g.to else stops) (fitting f));
  };
}
  where
    fitting : {b : Bool} → fits_next (option_map kind_view k) (head_of (left leaf)) ≡ b → fits (option_map kind_view k) g.entry.value ≡ b
    fitting f = ap (fits_next (option_map kind_view k)) (sym g.next) ∙ f

pub goes_end : (fs : Fields) (F : List (List Step)) (rows : ℕ) (C : List (List Triplet)) (ms : List Move) (left : Left) (old new : LevelWalk) (result : Result (Option LevelMove) AssembleFault)
    → (at : IsAtLevels fs F rows C ms left old) → old.wanted ≡ None → (V : Stack) → GoesOn (course fs F) (next_of left) at.stack V → turn (course fs F) V (next_of left) ≡ done → Stands (course fs F) new.course V
    → new.course.heads.items ≡ old.course.heads.items → new.wanted ≡ old.wanted → new.failed ≡ old.failed → new.given ≡ old.given → new.taken ≡ old.taken
    → (result ≡ Ok None → (i : ℕ) → levels_at new.course.heads.items i ≡ None) → (result ≡ Err AssembleFault.BadData → (i : ℕ) × (levels_at new.course.heads.items i ≢ None)) → ((m : LevelMove) → result ≡ Ok (Some m) → ⊥) → (result ≡ Err AssembleFault.NoMemory → ⊥)
    → Goes fs F rows C ms left new result
goes_end fs F rows C ms left old new (Ok None) at w V go made st nh nw nf ng nt e b o m =
    let l = leads_to (course fs F) (between rows) (columns_of C) left ms at.stack V at.leads go in
    let p : (i : ℕ) → pending new i ≡ pending old i = λ i. ap (λ hs. levels_at hs i) nh in
    let k : (i : ℕ) → is_known new.wanted new.given i ≡ is_known old.wanted old.given i = λ i. ap₂ (λ (x : Option ℕ) (y : ℕ). is_known x y i) nw ng in (
      record {
        columns = at.columns;
        few = at.few;
        deep = at.deep;
        heads = ap length nh ∙ at.heads;
        stack = V;
        leads = l;
        stands = st;
        known = λ i q. p i ∙ at.known i (sym (k i) ∙ q);
        unknown = λ i q. p i ∙ at.unknown i (sym (k i) ∙ q);
        wants = λ i q. at.wants i (sym nw ∙ q);
        asks = λ i q. inl (absurd (none_is_some i (sym (nw ∙ w) ∙ q)));
        goes_on = nf ∙ at.goes_on;
        gave = ng ∙ at.gave;
        took = let x = at.took in let z = same_count (pending old) (pending new) (length F) (λ j l. p j) in omega (arith, nt, x, z);
      },
      record { stack = V; leads = l; all = made; nothing_left = nothing_left new left (λ i. p i ∙ all_known fs F rows C ms left old at w i) (e refl) },
    )
  where
    none_is_some : (i : ℕ) → None ≡ Some i → ⊥
    none_is_some i q = cc
goes_end fs F rows C ms left old new (Ok (Some x)) at w V go made st nh nw nf ng nt e b o m = absurd (o x refl)
goes_end fs F rows C ms left old new (Err AssembleFault.BadData) at w V go made st nh nw nf ng nt e b o m =
    let p : (i : ℕ) → pending new i ≡ pending old i = λ i. ap (λ hs. levels_at hs i) nh in
    let s = b refl in
    record {
      stack = V;
      leads = leads_to (course fs F) (between rows) (columns_of C) left ms at.stack V at.leads go;
      why = inr (made, (s.0, something_left new left s.0 (λ i. p i ∙ all_known fs F rows C ms left old at w i) s.1));
    }
goes_end fs F rows C ms left old new (Err AssembleFault.NoMemory) at w V go made st nh nw nf ng nt e b o m = absurd (m refl)

-- a move into an instance, or out of it
pub goes_over : (fs : Fields) (F : List (List Step)) (rows : ℕ) (C : List (List Triplet)) (ms : List Move) (left : Left) (w : LevelWalk) (m : LevelMove) (n : Move) → moves_over left (Some m) ≡ n ∷ []
    → IsAtLevels fs F rows C (ms ++ n ∷ []) (behind_move n left) w → IsAtLevels fs F rows C (ms ++ moves_over left (Some m)) (behind_moves (moves_over left (Some m)) left) w
goes_over fs F rows C ms left w m n e at = subst (λ (ns : List Move). IsAtLevels fs F rows C (ms ++ ns) (behind_moves ns left) w) (sym e) at
