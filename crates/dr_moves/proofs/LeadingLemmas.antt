-- Over the columns of records the turns give their walk; and columns over which all is done are those of records.
use Rattle.std.proofs.Common.{◌≡◌, ℕ, zero, suc, ◌+◌, ◌≤◌, List, [], ◌∷◌, ◌++◌, length, Bool, true, false, Option, None, Some, refl, sym, ap, ap₂, subst, ◌∙◌, append-nil, arith}
use Rattle.std.specs.Prelude.{map, get_or, nat_lt, ◌&&◌, ◌==◌, if◌then◌else◌}
use Rattle.std.specs.List.{list_all, flat_map, slice_get}
use Rattle.std.proofs.lemmas.Bool.{and_parts, ne_eqb, eqb-true}
use Rattle.dr_meaning.specs.Schema.{Fields}
use Rattle.dr_meaning.specs.Path.{Step, is_leaf_path}
use Rattle.dr_meaning.specs.Record.{Node, is_record}
use Rattle.dr_meaning.specs.Column.{Triplet, column}
use Rattle.dr_meaning.specs.Automaton.{picks, picks_from}
use Rattle.dr_meaning.specs.Walk.{Move, enter, value, leave, walk, near_moves, far_moves, top, record_moves}
use Rattle.dr_meaning.specs.WalkLaws.{triplets_of}
use Rattle.dr_meaning.proofs.WalkLemmas.{of_append, of_enclosed, Without, near_nothing, far_nothing, walk_gives_columns}
use Rattle.dr_moves.specs.Course.{reach, are_open, Items, nothing, give, visit, course}
use Rattle.dr_moves.specs.Turning.{Stack, between, in_record, in_items, in_absent, lapped, entering, Turn, gives, goes_on, stops, is_due, turn_given, is_null, turn_absent, turn, definitions_of, definition_of}
use Rattle.dr_moves.specs.Leading.{Left, head_of, tail_of, heads, behind_move, Leads, stays, moves, turns, has_columns}
use Rattle.dr_moves.specs.CourseLaws.{RecordsLead, LedToRecords}
use Rattle.dr_moves.proofs.Following.{Follows, heads_of}
use Rattle.dr_moves.proofs.Made.{no_record}
use Rattle.dr_moves.proofs.TurnLemmas.{Agrees, turn_agrees}
use Rattle.dr_moves.proofs.WalkFollows.{walk_follows}
use Rattle.dr_moves.proofs.NodesMade.{records_made}
use Rattle.dr_moves.proofs.Viability.{Turns, no_turn, move_turn, still_turn, turns_back}
use Rattle.dr_moves.proofs.ApartLemmas.{leaves_apart}

pub same_heads : (i : ℕ) (ms : List Move) → head_of (triplets_of i ms) ≡ heads_of ms i
same_heads i [] = refl
same_heads i (enter k ∷ ms) = same_heads i ms
same_heads i (leave k ∷ ms) = same_heads i ms
same_heads i (value j t ∷ ms) = by_test (j == i) (same_heads i ms)
  where
    by_test : (b : Bool) → head_of (triplets_of i ms) ≡ heads_of ms i → head_of (if b then t ∷ triplets_of i ms else triplets_of i ms) ≡ (if b then Some t else heads_of ms i)
    by_test true e = refl
    by_test false e = e

-- ---- over the columns of moves that follow

record OnWay (T : Items) (S : Stack) (left : Left) (ms : List Move) : Type 0 where
  follows : Follows T S ms
  columns : (i : ℕ) → left i ≡ triplets_of i ms

heads_on_way : (T : Items) (S : Stack) (left : Left) (ms : List Move) → OnWay T S left ms → heads left ≡ heads_of ms
heads_on_way T S left ms w = λ j i. (ap head_of (w.columns i) ∙ same_heads i ms) j

agrees_on_way : (T : Items) (S : Stack) (left : Left) (ms : List Move) → OnWay T S left ms → Agrees T (turn T S (heads left)) ms
agrees_on_way T S left ms w = subst (λ (x : ℕ → Option Triplet). Agrees T (turn T S x) ms) (sym (heads_on_way T S left ms w)) (turn_agrees T S ms w.follows)

pub behind_columns : (m : Move) (left : Left) (ms : List Move) → ((i : ℕ) → left i ≡ triplets_of i (m ∷ ms)) → (i : ℕ) → behind_move m left i ≡ triplets_of i ms
behind_columns (enter k) left ms h i = h i
behind_columns (leave k) left ms h i = h i
behind_columns (value j t) left ms h i = by_test (j == i) (h i)
  where
    by_test : (b : Bool) → left i ≡ (if b then t ∷ triplets_of i ms else triplets_of i ms) → (if b then tail_of (left i) else left i) ≡ triplets_of i ms
    by_test true e = ap tail_of e
    by_test false e = e

record Way (T : Items) (S : Stack) (left : Left) (given all : List Move) : Type 0 where
  rest : List Move
  both : all ≡ given ++ rest
  way : OnWay T S left rest

leads_way : (T : Items) (S V : Stack) (left end : Left) (ms all : List Move) → OnWay T S left all → Leads T S left ms V end → Way T V end ms all
leads_way T _ _ _ _ _ all w (stays S left) = record { rest = all; both = refl; way = w }
leads_way T _ _ _ _ _ all w (moves S U V left end m ms e l) =
    let a : Agrees T (gives m U) all = subst (λ (x : Turn). Agrees T x all) e (agrees_on_way T S left all w) in
    let n : OnWay T U (behind_move m left) a.0 = record { follows = a.2; columns = behind_columns m left a.0 (λ i. w.columns i ∙ ap (triplets_of i) a.1) } in
    let k = leads_way T U V (behind_move m left) end ms a.0 n l in
    record { rest = k.rest; both = a.1 ∙ ap (λ (x : List Move). m ∷ x) k.both; way = k.way }
leads_way T _ _ _ _ _ all w (turns S U V left end ms e l) =
    let a : Agrees T (goes_on U) all = subst (λ (x : Turn). Agrees T x all) e (agrees_on_way T S left all w) in
    leads_way T U V left end ms all (record { follows = a; columns = w.columns }) l

-- ---- the columns of records

past_picks : (i k : ℕ) (F : List (List Step)) → k + length F ≤ i → Without i (picks_from k F)
past_picks i k [] h = tt
past_picks i k (p ∷ F) h = (ne_eqb k i (omega (arith, h)), past_picks i (suc k) F (omega (arith, h)))

none_past : (fs : Fields) (F : List (List Step)) (i : ℕ) (R : List Node) → length F ≤ i → triplets_of i (walk fs F R) ≡ []
unfolding walk
none_past fs F i [] h = refl
none_past fs F i (n ∷ R) h =
    let w : Without i (picks F) = past_picks i 0 F (omega (arith, h)) in
    of_append i (record_moves fs F n) (flat_map (record_moves fs F) R)
    ∙ ap₂ (λ (x y : List Triplet). x ++ y) (of_enclosed i 0 (near_moves fs (picks F) top n ++ far_moves fs (picks F) 1 top n) ∙ of_append i (near_moves fs (picks F) top n) (far_moves fs (picks F) 1 top n)
    ∙ ap₂ (λ (x y : List Triplet). x ++ y) (near_nothing i fs (picks F) top n w) (far_nothing i fs (picks F) 1 top n w)) (none_past fs F i R h)

columns_from : (fs : Fields) (E : List (List Step)) (R : List Node) (w : ℕ → List Triplet) → ((j : ℕ) (p : List Step) → slice_get E j ≡ Some p → is_leaf_path fs p ≡ true → w j ≡ column p R) → ((j : ℕ) → length E ≤ j → w j ≡ [])
    → list_all (is_leaf_path fs) E ≡ true → (i : ℕ) → get_or (map (λ (p : List Step). column p R) E) i [] ≡ w i
columns_from fs [] R w f g u i = sym (g i (omega arith))
columns_from fs (p ∷ E) R w f g u zero = sym (f 0 p refl (and_parts (is_leaf_path fs p) (list_all (is_leaf_path fs) E) u).0)
columns_from fs (p ∷ E) R w f g u (suc i) = columns_from fs E R (λ j. w (suc j)) (λ j q e. f (suc j) q e) (λ j l. g (suc j) (omega (arith, l))) (and_parts (is_leaf_path fs p) (list_all (is_leaf_path fs) E) u).1 i

-- the columns of the walk, by the places of the leaves
pub walk_columns : (fs : Fields) (F : List (List Step)) (R : List Node) → list_all (is_leaf_path fs) F ≡ true → list_all (is_record fs) R ≡ true → (i : ℕ) → has_columns F R i ≡ triplets_of i (walk fs F R)
walk_columns fs F R h v i = columns_from fs F R (λ j. triplets_of j (walk fs F R)) (λ j p e u. walk_gives_columns fs F j p R e u v) (λ j l. none_past fs F j R l) h i

pub records_lead : RecordsLead
records_lead fs F R ms S left h v l =
    let w : OnWay (course fs F) (between (length R)) (has_columns F R) (walk fs F R) = record { follows = walk_follows fs F R h v; columns = walk_columns fs F R h v } in
    let k = leads_way (course fs F) (between (length R)) S (has_columns F R) left ms (walk fs F R) w l in
    let a = agrees_on_way (course fs F) S left k.rest k.way in
    (k.rest, k.both, (λ e. subst (λ (x : Turn). Agrees (course fs F) x k.rest) e a), (λ e. subst (λ (x : Turn). Agrees (course fs F) x k.rest) e a))

-- a leaf at a place
pub leaf_at : (fs : Fields) (F : List (List Step)) (k : ℕ) (q : List Step) → list_all (is_leaf_path fs) F ≡ true → slice_get F k ≡ Some q → is_leaf_path fs q ≡ true
leaf_at fs [] k q h e = absurd (cc)
leaf_at fs (p ∷ F) zero q h e = let x : p ≡ q = cc in subst (λ (y : List Step). is_leaf_path fs y ≡ true) x (and_parts (is_leaf_path fs p) (list_all (is_leaf_path fs) F) h).0
leaf_at fs (p ∷ F) (suc k) q h e = leaf_at fs F k q (and_parts (is_leaf_path fs p) (list_all (is_leaf_path fs) F) h).1 e

-- ---- backwards: what is given is what was taken

-- a triplet that a turn gives is the leaf's next
given_head : (T : Items) (S U : Stack) (h : ℕ → Option Triplet) (i : ℕ) (t : Triplet) → turn T S h ≡ gives (value i t) U → h i ≡ Some t
given_head T (between zero) U h i t e = absurd (cc)
given_head T (between (suc n)) U h i t e = absurd (cc)
given_head T (in_record n) U h i t e = absurd (cc)
given_head T (in_items nothing r next S) U h i t e = absurd (cc)
given_head T (in_items (give g I) r next S) U h i t e = by_head (h g.leaf) refl e
  where
    by_head : (o : Option Triplet) → h g.leaf ≡ o → turn_given g I r next S o ≡ gives (value i t) U → h i ≡ Some t
    by_head None p e = absurd (cc)
    by_head (Some u) p e = by_due (is_due g r next u) e
      where
        by_due : (b : Bool) → (if b then gives (value g.leaf u) (in_items I r next S) else stops) ≡ gives (value i t) U → h i ≡ Some t
        by_due false e = absurd (cc)
        by_due true e = let x : g.leaf ≡ i = cc in let y : u ≡ t = cc in subst (λ (j : ℕ). h j ≡ Some t) x (p ∙ ap Some y)
given_head T (in_items (visit v B I) r next S) U h i t e = by_test (are_open next v.gates && nat_lt v.low (definition_of (h v.leaf))) e
  where
    by_test : (b : Bool) → (if b then gives (enter v.number) (in_items B r (definitions_of h) (lapped v B (in_items I r next S))) else goes_on (in_absent v.leaves r (reach next v.gates v.low) (in_items I r next S))) ≡ gives (value i t) U → h i ≡ Some t
    by_test true e = absurd (cc)
    by_test false e = absurd (cc)
given_head T (in_absent [] r d S) U h i t e = absurd (cc)
given_head T (in_absent (k ∷ ks) r d S) U h i t e = by_head (h k) refl e
  where
    by_head : (o : Option Triplet) → h k ≡ o → turn_absent k ks r d S o ≡ gives (value i t) U → h i ≡ Some t
    by_head None p e = absurd (cc)
    by_head (Some u) p e = by_due (is_null r d u) e
      where
        by_due : (b : Bool) → (if b then gives (value k u) (in_absent ks r d S) else stops) ≡ gives (value i t) U → h i ≡ Some t
        by_due false e = absurd (cc)
        by_due true e = let x : k ≡ i = cc in let y : u ≡ t = cc in subst (λ (j : ℕ). h j ≡ Some t) x (p ∙ ap Some y)
given_head T (lapped v B S) U h i t e = absurd (cc)
given_head T (entering v B S) U h i t e = absurd (cc)

behind_given : (m : Move) (left : Left) (ms : List Move) (end : Left) → ((i : ℕ) (t : Triplet) → m ≡ value i t → head_of (left i) ≡ Some t) → ((i : ℕ) → behind_move m left i ≡ triplets_of i ms ++ end i) → (i : ℕ) → left i ≡ triplets_of i (m ∷ ms) ++ end i
behind_given (enter k) left ms end h f i = f i
behind_given (leave k) left ms end h f i = f i
behind_given (value j t) left ms end h f i = by_test (j == i) refl (f i)
  where
    headed : (xs : List Triplet) → head_of xs ≡ Some t → xs ≡ t ∷ tail_of xs
    headed [] e = absurd (cc)
    headed (x ∷ xs) e = let y : x ≡ t = cc in ap (λ (z : Triplet). z ∷ xs) y

    by_test : (b : Bool) → (j == i) ≡ b → (if b then tail_of (left i) else left i) ≡ triplets_of i ms ++ end i → left i ≡ (if b then t ∷ triplets_of i ms else triplets_of i ms) ++ end i
    by_test true p e = let x : j ≡ i = eqb-true j i p in headed (left i) (subst (λ (k : ℕ). head_of (left k) ≡ Some t) x (h j t refl)) ∙ ap (λ (y : List Triplet). t ∷ y) e
    by_test false p e = e

pub leads_taken : (T : Items) (S V : Stack) (left end : Left) (ms : List Move) → Leads T S left ms V end → (i : ℕ) → left i ≡ triplets_of i ms ++ end i
leads_taken T _ _ _ _ _ (stays S left) = λ i. refl
leads_taken T _ _ _ _ _ (moves S U V left end m ms e l) = behind_given m left ms end (λ i t q. given_head T S U (heads left) i t (e ∙ ap (λ (x : Move). gives x U) q)) (leads_taken T U V (behind_move m left) end ms l)
leads_taken T _ _ _ _ _ (turns S U V left end ms e l) = leads_taken T U V left end ms l

pub leads_turns : (T : Items) (S V : Stack) (left end : Left) (ms : List Move) → Leads T S left ms V end → Turns T S ms V
leads_turns T _ _ _ _ _ (stays S left) = no_turn S
leads_turns T _ _ _ _ _ (moves S U V left end m ms e l) = move_turn S U V (heads left) m ms e (leads_turns T U V (behind_move m left) end ms l)
leads_turns T _ _ _ _ _ (turns S U V left end ms e l) = still_turn S U V (heads left) ms e (leads_turns T U V left end ms l)

pub led_to_records : LedToRecords
led_to_records fs F n C ms end h d l z =
    let b = turns_back (course fs F) (between n) (between 0) ms [] (leads_turns (course fs F) (between n) (between 0) C end ms l) no_record in
    let x = records_made fs F (leaves_apart fs F h d) n (ms ++ []) b in (
      x.records,
      x.are_records,
      x.as_many,
      x.moves ∙ append-nil ms,
      (λ i p e. leads_taken (course fs F) (between n) (between 0) C end ms l i ∙ ap (λ (y : List Triplet). triplets_of i ms ++ y) (z i) ∙ append-nil (triplets_of i ms)
          ∙ ap (triplets_of i) (sym (x.moves ∙ append-nil ms)) ∙ walk_gives_columns fs F i p x.records e (leaf_at fs F i p h e) x.are_records),
    )

-- further on
pub leads_on : (T : Items) (S V W : Stack) (left mid end : Left) (ms ns : List Move) → Leads T S left ms V mid → Leads T V mid ns W end → Leads T S left (ms ++ ns) W end
leads_on T _ _ W _ _ end _ ns (stays S left) k = k
leads_on T _ _ W _ mid end _ ns (moves S U V left _ m ms e l) k = moves S U W left end m (ms ++ ns) e (leads_on T U V W (behind_move m left) mid end ms ns l k)
leads_on T _ _ W _ mid end _ ns (turns S U V left _ ms e l) k = turns S U W left end (ms ++ ns) e (leads_on T U V W left mid end ms ns l k)
