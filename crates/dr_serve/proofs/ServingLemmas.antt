-- Serving: what holds before the workers start, and what came of all tablets after them and the closing round.
use Rattle.std.proofs.Common.{◌≡◌, ◌<◌, ◌≤◌, ◌-◌, ◌*◌, ◌^◌, ◌+◌, ℕ, zero, suc, List, [], ◌∷◌, ◌++◌, map, length, take, drop, Bool, true, false, true≢false, Option, Some, None, Result, Ok, Err, IfOk, Vec, length-append, length-drop, refl, sym, ap, ◌∙◌, subst, arith}
use Rattle.std.specs.Prelude.{slice_index_or, slice_set}
use Rattle.std.specs.List.{range_with_len}
use Rattle.std.specs.declared.alloc.Global.{Global}
use Rattle.std.proofs.lemmas.List.{length-map}
use Rattle.dr_meaning.specs.Path.{Leaf}
use Rattle.dr_meaning.specs.Query.{Query}
use Rattle.dr_meaning.specs.QueryLeaves.{query_leaves}
use Rattle.dr_formats.specs.TableFile.{Table}
use Rattle.dr_outside.specs.Link.{Files, LinkShown}
use Rattle.dr_dispatch.specs.Job.{Job}
use Rattle.dr_dispatch.specs.History.{has_answer, is_history}
use Rattle.dr_dispatch.specs.declared.event.Event.{Event}
use Rattle.dr_group.specs.Partials.{partial_view, IsPartialOf}
use Rattle.dr_group.specs.declared.partial.Partial.{Partial}
use Rattle.dr_partials.specs.Partials as meant
use Rattle.dr_partials.specs.Trees.{Tree, tablets_of as tablets_in, gathered}
use Rattle.dr_plan.specs.PlanOf.{IsPlanOf}
use Rattle.dr_plan.specs.Planned.{IsOfSchema, plan_leaves, plan_view}
use Rattle.dr_plan.specs.declared.plan.Plan.{Plan}
use Rattle.dr_reading.specs.Causes.{RisesApart}
use Rattle.dr_reading.specs.Left.{LeftTablet, causes_met}
use Rattle.dr_reading.specs.Scan.{tablets_of}
use Rattle.dr_scan.specs.Asked.{is_at_tablets, is_for_tablets}
use Rattle.dr_table.specs.LeftViews.{left_view, all_left_view}
use Rattle.dr_scan.proofs.AskedTablets.{held_nothing}
use Rattle.dr_table.specs.declared.left.LeftTablet as code
use Rattle.dr_table.specs.declared.left.Tried as code_tried
use Rattle.dr_reading.specs.Outcome.{Serving, IsUnfinished}
use Rattle.dr_scan.specs.declared.tablet.Scanned.{Scanned}
use Rattle.dr_scan.proofs.ScanLemmas.{leaves_are}
use Rattle.dr_tree.specs.Grows.{Growth, Grows}
use Rattle.dr_tree.specs.declared.growing.Growing.{Growing}
use Rattle.dr_serve.specs.declared.found.Found.{Found}
use Rattle.dr_serve.specs.declared.outcome.Outcome.{Outcome}
use Rattle.dr_serve.specs.Working.{directories_of, table_job, IsPieceFound, TakesFrom}
use Rattle.dr_serve.specs.Closing.{Closes, KeepsPlaces, has_some, left_from, growth_by, pieces_of}
use Rattle.dr_serve.specs.Serving.{serving_by, first_shown, ClosesAfter, IsShare, IsFinishedBut, IsGrownOf, IsOfGrown, WhereFinished, WhereMost, WhereUnfinished}
use Rattle.dr_serve.specs.Links.{Worked, OfEachLink, LeavesLinks}
use Rattle.dr_serve.specs.GrowsOn.{AnsweredHavePieces}
use Rattle.dr_serve.specs.Rounds.{HasRead, Rounds}
use Rattle.dr_serve.specs.Served.{ServedAs, IsHistoryOf, NoneWasAnswered, left_in}
use Rattle.dr_serve.specs.Counted.{StandsForCounted, AreLeftOf, held_of}
use Rattle.dr_serve.proofs.CountedLemmas.{counted_by, left_by}
use Rattle.dr_serve.proofs.LeafLemmas.{IsOneOf, one_of_first, one_of_later}
use Rattle.dr_serve.proofs.LinkLemmas.{worked_none, worked_more}
use Rattle.dr_serve.proofs.TruthLemmas.{piece_by_more, piece_has_tablet}
use Rattle.dr_serve.proofs.CloseLemmas.{outcome_before}
use Rattle.dr_serve.proofs.RoundLemmas.{rises_lower, round_by}
use Rattle.dr_serve.proofs.FinishLemmas.{AreOutcomes, partials_of, partials_are, pieces_are, count_of, some_are_left, finished_but, finished_by, unfinished_by}

-- ---- before

pub take_length : {A : Type 0} (n : ℕ) (xs : List A) → n ≤ length xs → length (take n xs) ≡ n
take_length zero xs w = refl
take_length (suc n) [] w = absurd (omega (arith, w))
take_length (suc n) (x ∷ xs) w = ap suc (take_length n xs (omega (arith, w)))

module _ {L : Type 0} (shows : L → LinkShown) where
  abbrev pub held_by : List L → List (Option Files)
  held_by links = held_of (map shows links)

  one_at : (links : List L) (i : ℕ) (l : L) → i < length links → IsOneOf (shows (slice_index_or links i l)).held (held_by links)
  one_at [] i l h = absurd (omega (arith, h))
  one_at (x ∷ links) zero l h = one_of_first (shows x).held (held_by links)
  one_at (x ∷ links) (suc i) l h = one_of_later (shows (slice_index_or links i l)).held (shows x).held (held_by links) (one_at links i l (omega (arith, h)))

  -- what is true of a tablet may come from each of the links
  pub each_is_taken : (t : Table) (plan : Plan) (links : List L) (i : ℕ) (l : L) → i < length links → TakesFrom t plan (IsPieceFound t plan (held_by links)) (shows (slice_index_or links i l)).held
  each_is_taken t plan links i l h = λ tablet p piece. piece_by_more t plan (shows (slice_index_or links i l)).held (held_by links) tablet p (one_at links i l h) piece

  -- the first link worked once more
  pub first_worked : (t : Table) (plan : Plan) (olds mids : List L) (x d : L) → OfEachLink shows (Worked t plan) olds mids → length mids ≡ length olds → Worked t plan (shows (slice_index_or mids 0 d)) (shows x)
      → OfEachLink shows (Worked t plan) olds (slice_set mids 0 x)
  first_worked t plan [] mids x d h e w i l lt = absurd (omega (arith, lt))
  first_worked t plan (o ∷ olds) [] x d h e w i l lt = absurd (omega (arith, e))
  first_worked t plan (o ∷ olds) (m ∷ mids) x d h e w zero l lt = worked_more t plan (shows o) (shows m) (shows x) (h zero l lt) w
  first_worked t plan (o ∷ olds) (m ∷ mids) x d h e w (suc i) l lt = h (suc i) l lt

  -- the first so many links worked
  pub part_worked : (t : Table) (plan : Plan) (n : ℕ) (olds part : List L) → length part ≡ n → n ≤ length olds → OfEachLink shows (Worked t plan) (take n olds) part → OfEachLink shows (Worked t plan) olds (part ++ drop n olds)
  part_worked t plan zero olds [] e w h i l lt = worked_none t plan (shows (slice_index_or olds i l))
  part_worked t plan zero olds (p ∷ part) e w h i l lt = absurd (omega (arith, e))
  part_worked t plan (suc n) [] part e w h i l lt = absurd (omega (arith, w))
  part_worked t plan (suc n) (o ∷ olds) [] e w h i l lt = absurd (omega (arith, e))
  part_worked t plan (suc n) (o ∷ olds) (p ∷ part) e w h zero l lt = h zero l (omega arith)
  part_worked t plan (suc n) (o ∷ olds) (p ∷ part) e w h (suc i) l lt =
      part_worked t plan n olds part (omega (arith, e)) (omega (arith, w)) (λ j m r. h (suc j) m (omega (arith, r))) i l (omega (arith, lt))

  drop_part : (n : ℕ) (part rest : List L) → length part ≡ n → drop n (part ++ rest) ≡ rest
  drop_part zero [] rest e = refl
  drop_part zero (p ∷ part) rest e = absurd (omega (arith, e))
  drop_part (suc n) [] rest e = absurd (omega (arith, e))
  drop_part (suc n) (p ∷ part) rest e = drop_part n part rest (omega (arith, e))

  pub part_leaves : (t : Table) (plan : Plan) (n : ℕ) (olds part : List L) → length part ≡ n → n ≤ length olds → OfEachLink shows (Worked t plan) (take n olds) part
      → LeavesLinks (plan_leaves plan) (tablets_of t) shows n olds (part ++ drop n olds)
  part_leaves t plan n olds part e w h =
      let each = part_worked t plan n olds part e w h in record {
        asks = λ i l lt. (each i l lt).asks;
        same = λ i l lt. (each i l lt).same;
        never_falls = λ i l lt. (each i l lt).never_falls;
        stays_steady = λ i l lt. (each i l lt).stays_steady;
        others = drop_part n part (drop n olds) e;
        count = length-append part (drop n olds) ∙ (let k = length-drop n olds in omega (arith, k, e, w));
      }

  -- the first of some links is that of these and others
  pub first_of_part : (n : ℕ) (olds part rest : List L) → 0 < n → n ≤ length olds → length part ≡ length (take n olds) → first_shown (map shows (part ++ rest)) ≡ first_shown (map shows part)
  first_of_part n olds [] rest some w e = let k = take_length n olds w in absurd (omega (arith, some, e, k))
  first_of_part n olds (p ∷ part) rest some w e = refl

-- it is true of a tablet of the table
pub true_of_some : (t : Table) (plan : Plan) (links : List (Option Files)) (tablet : ℕ) (f : Found) → IsOfSchema t.schema plan → IsPieceFound t plan links tablet f → tablet < t.tablets
true_of_some t plan links tablet f planned h =
    let q : Query = planned.1 in
    subst (λ (n : ℕ). tablet < n) (count_of t) (piece_has_tablet t q links tablet _ (h.truth q (planned.0, planned.2, planned.3)))

-- its job has each of its tablets, which are few
pub job_has_tablets : (t : Table) (j : Job) (lag : ℕ) → j ≡ table_job t lag → length j.leaves ≡ t.tablets
job_has_tablets t j lag e = ap (λ (x : Job). length x.leaves) e ∙ (length-map (tablets_of t) directories_of ∙ count_of t)

pub job_is_small : (t : Table) (j : Job) (lag : ℕ) → j ≡ table_job t lag → t.tablets ≤ 4096 → length j.leaves ≤ 2 ^ 32
job_is_small t j lag e few = let a = job_has_tablets t j lag e in omega (arith, a, few)

-- ---- after

-- what came of all tablets, as the first link was before
pub record Ends (t : Table) (plan : Plan) (tree : Tree) (links : List (Option Files)) (first now : LinkShown) (grown : Growing) (left : List LeftTablet) : Type 0 where
  pub outcomes : List Scanned
  pub count : length outcomes ≡ t.tablets
  pub came : AreOutcomes t plan links first 0 outcomes
  pub grows : Grows (growth_by t plan tree (pieces_of outcomes)) grown
  pub left_are : left ≡ left_from 0 outcomes
  pub rises : RisesApart first.faults (causes_met left) now.faults
  pub round : Rounds t (plan_leaves plan) first now left

-- the first link went on after the workers
pub closed_after : {L : Type 0} (shows : L → LinkShown) (t : Table) (plan : Plan) (tree : Tree) (is_true : ℕ → Found → Type 0) (olds mids : List L) (d new l : L) (places : List (Option Partial)) (grown : Growing) (left : List LeftTablet)
    → 0 < length olds → length mids ≡ length olds → OfEachLink shows (Worked t plan) olds mids → Closes t plan tree is_true (shows (slice_index_or mids 0 d)) places grown left
    → RisesApart (shows (slice_index_or mids 0 d)).faults (causes_met left) (shows new).faults → HasRead t (plan_leaves plan) (shows (slice_index_or mids 0 d)) (shows new) t.tablets left
    → ClosesAfter t plan tree is_true (shows (slice_index_or olds 0 l)) (shows (slice_index_or (slice_set mids 0 new) 0 l)) grown left
closed_after shows t plan tree is_true [] mids d new l places grown left some e w c r k = absurd (omega (arith, some))
closed_after shows t plan tree is_true (o ∷ olds) [] d new l places grown left some e w c r k = absurd (omega (arith, e))
closed_after shows t plan tree is_true (o ∷ olds) (m ∷ mids) d new l places grown left some e w c r k =
    record { middle = shows m; worked = w 0 l some; places = places; closes = c; rises = r; read = k }

came_before : (t : Table) (plan : Plan) (links : List (Option Files)) (before now : LinkShown) (i : ℕ) (xs : List Scanned) → Worked t plan before now → AreOutcomes t plan links now i xs → AreOutcomes t plan links before i xs
came_before t plan links before now i [] w h = tt
came_before t plan links before now i (x ∷ xs) w h =
    (outcome_before t plan (IsPieceFound t plan links) before now i x w.same w.stays_steady h.0, came_before t plan links before now (suc i) xs w h.1)

ends_after : (t : Table) (plan : Plan) (tree : Tree) (links : List (Option Files)) (before now : LinkShown) (grown : Growing) (left : List LeftTablet) → ClosesAfter t plan tree (IsPieceFound t plan links) before now grown left → Ends t plan tree links before now grown left
ends_after t plan tree links before now grown left h = record {
  outcomes = h.closes.outcomes;
  count = h.closes.count;
  came = came_before t plan links before h.middle 0 h.closes.outcomes h.worked h.closes.each;
  grows = h.closes.grows;
  left_are = h.closes.left_are;
  rises = rises_lower before.faults h.middle.faults now.faults (causes_met left) h.worked.never_falls h.rises;
  round = round_by t plan (plan_leaves plan) before h.middle now left refl h.worked h.read;
}

pub serving_ends : {L : Type 0} (shows : L → LinkShown) (t : Table) (plan : Plan) (tree : Tree) (links : List (Option Files)) (olds news : List L) (grown : Growing) (left : List LeftTablet) → 0 < length olds → length news ≡ length olds
    → ((l : L) → ClosesAfter t plan tree (IsPieceFound t plan links) (shows (slice_index_or olds 0 l)) (shows (slice_index_or news 0 l)) grown left)
    → Ends t plan tree links (first_shown (map shows olds)) (first_shown (map shows news)) grown left
serving_ends shows t plan tree links [] news grown left some e h = absurd (omega (arith, some))
serving_ends shows t plan tree links (o ∷ olds) [] grown left some e h = absurd (omega (arith, e))
serving_ends shows t plan tree links (o ∷ olds) (n ∷ news) grown left some e h = ends_after t plan tree links (shows o) (shows n) grown left (h o)

-- ---- what serving ends with

-- where both hold
pub both_ok : {A E : Type 0} (r : Result A E) {P Q S : A → Type 0} → IfOk r P → IfOk r Q → ((x : A) → P x → Q x → S x) → IfOk r S
both_ok (Ok x) h k f = f x h k
both_ok (Err e) h k f = tt

shown_some : {L : Type 0} (shows : L → LinkShown) (links : List L) → 0 < length links → 0 < length (map shows links)
shown_some shows links h = omega (arith, h, length-map links shows)

module _ {L : Type 0} (shows : L → LinkShown) (t : Table) (plan : Plan) (tree : Tree) (olds news : List L) (grown : Growing) (ls : List code.LeftTablet) (some_link : 0 < length olds) (same : length news ≡ length olds)
    (closes : (l : L) → ClosesAfter t plan tree (IsPieceFound t plan (held_by shows olds)) (shows (slice_index_or olds 0 l)) (shows (slice_index_or news 0 l)) grown (all_left_view ls)) where
  abbrev links : List LinkShown
  links = map shows olds

  abbrev now : LinkShown
  now = first_shown (map shows news)

  some : 0 < length links
  some = shown_some shows olds some_link

  e : Ends t plan tree (held_of links) (first_shown links) now grown (all_left_view ls)
  e = serving_ends shows t plan tree (held_of links) olds news grown (all_left_view ls) some_link same closes

  pub lefts_are_fewer : length ls ≤ t.tablets
  lefts_are_fewer =
      let a : length ls ≡ length (left_from 0 e.outcomes) = sym (length-map ls left_view) ∙ ap length e.left_are in
      let b = some_are_left 0 e.outcomes in
      let c = e.count in
      omega (arith, a, b, c)

  pub it_grows : (w : Growth) × Grows w grown
  it_grows = (growth_by t plan tree (pieces_of e.outcomes), e.grows)

  pub it_is_of_plan : (p : Partial) → IsOfGrown grown p → IsPartialOf (plan_view plan) p
  it_is_of_plan p h = h (growth_by t plan tree (pieces_of e.outcomes)) e.grows

  -- it is what the tree gathers of the partials of all tablets
  gathers : (p : Partial) → IsGrownOf grown p → (piece : ℕ → meant.Partial) → map piece (tablets_in tree) ≡ partials_of plan e.outcomes → partial_view p ≡ gathered piece tree
  gathers p h piece k = h (growth_by t plan tree (pieces_of e.outcomes)) piece e.grows (k ∙ sym (pieces_are plan 0 e.outcomes))

  module _ (q : Query) (is : IsPlanOf t.schema q plan) (has : tablets_in tree ≡ range_with_len 0 t.tablets) (least : ℕ) where
    abbrev serving : Serving
    serving = serving_by t.schema q (tablets_of t) links

    abbrev Served : Outcome → Type 0
    Served x = ServedAs t plan q tree least links now x

    but : (p : Partial) (us : List LeftTablet) → us ≡ all_left_view ls → IsGrownOf grown p → IsFinishedBut serving tree us (partial_view p)
    but p us g w =
        subst (λ (vs : List LeftTablet). IsFinishedBut serving tree vs (partial_view p)) (sym (g ∙ e.left_are))
        (finished_but t plan q links some is (first_shown links) e.outcomes e.count tree (partials_of plan e.outcomes) (partial_view p) has e.came (partials_are plan e.outcomes) (gathers p w))

    counted : (p : Partial) (us : List LeftTablet) → us ≡ all_left_view ls → IsGrownOf grown p → StandsForCounted t q (held_of links) us (partial_view p)
    counted p us g w =
        subst (λ (vs : List LeftTablet). StandsForCounted t q (held_of links) vs (partial_view p)) (sym (g ∙ e.left_are))
        (counted_by t plan q links some is (first_shown links) e.outcomes e.count tree (partials_of plan e.outcomes) (partial_view p) has e.came (partials_are plan e.outcomes) (gathers p w))

    rises_of : (us : List LeftTablet) → us ≡ all_left_view ls → RisesApart (first_shown links).faults (causes_met us) now.faults
    rises_of us g = subst (λ (vs : List LeftTablet). RisesApart (first_shown links).faults (causes_met vs) now.faults) (sym g) e.rises

    unfinished : (us : List LeftTablet) → us ≡ all_left_view ls → (us ≡ [] → ⊥) → IsUnfinished serving now.faults us
    unfinished us g none = unfinished_by t plan q links some is (first_shown links) e.outcomes e.count us now.faults e.came (g ∙ e.left_are) none (rises_of us g)

    lefts : (us : List LeftTablet) → us ≡ all_left_view ls → (us ≡ [] → ⊥) → AreLeftOf t.schema (query_leaves t.schema.fields q) (tablets_of t) links now.faults us
    lefts us g none = left_by t plan q links some is (first_shown links) e.outcomes e.count us now.faults e.came (g ∙ e.left_are) none (rises_of us g)

    round_of : (us : List LeftTablet) → us ≡ all_left_view ls → Rounds t (query_leaves t.schema.fields q) (first_shown links) now us
    round_of us g =
        subst (λ (vs : List LeftTablet). Rounds t (query_leaves t.schema.fields q) (first_shown links) now vs) (sym g)
        (subst (λ (F : List Leaf). Rounds t F (first_shown links) now (all_left_view ls)) (leaves_are t.schema q plan is) e.round)

    left_count : (us : List LeftTablet) → us ≡ all_left_view ls → length ls ≡ length us
    left_count us w = sym (ap length w ∙ length-map ls left_view)

    finishes : (p : Partial) → ls ≡ [] → IsGrownOf grown p → IsOfGrown grown p → Served (Outcome.Finished p)
    finishes p none w v =
        let g : [] ≡ all_left_view ls = sym (ap all_left_view none) in record {
          ends = record {
            finished = finished_by t plan q links some is (first_shown links) e.outcomes e.count tree (partials_of plan e.outcomes) (partial_view p) has e.came (partials_are plan e.outcomes) (gathers p w) (sym (g ∙ e.left_are));
            finished_plan = it_is_of_plan p v;
            finished_records = counted p [] g w;
          };
          round = round_of [] g;
        }

    finishes_most : (p : Partial) (us : Vec code.LeftTablet Global) → all_left_view us.items ≡ all_left_view ls → (all_left_view us.items ≡ [] → ⊥) → IsGrownOf grown p → IsOfGrown grown p
        → IsShare least (t.tablets - length ls) t.tablets → (least ≡ 100 → ⊥) → Served (Outcome.Most p us)
    finishes_most p us g some_left w v share all = record {
      ends = record {
        most = but p (all_left_view us.items) g w;
        most_plan = it_is_of_plan p v;
        most_records = counted p (all_left_view us.items) g w;
        most_left = unfinished (all_left_view us.items) g some_left;
        left_tablets = lefts (all_left_view us.items) g some_left;
        share = subst (λ (m : ℕ). IsShare least (t.tablets - m) t.tablets) (left_count (all_left_view us.items) g) share;
        all = all;
      };
      round = round_of (all_left_view us.items) g;
    }

    leaves_some : (us : Vec code.LeftTablet Global) → all_left_view us.items ≡ all_left_view ls → (all_left_view us.items ≡ [] → ⊥) → 100 * (t.tablets - length ls) < least * t.tablets → Served (Outcome.Unfinished us)
    leaves_some us g some_left short = record {
      ends = record {
        unfinished = unfinished (all_left_view us.items) g some_left;
        left_tablets = lefts (all_left_view us.items) g some_left;
        short = subst (λ (m : ℕ). 100 * (t.tablets - m) < least * t.tablets) (left_count (all_left_view us.items) g) short;
      };
      round = round_of (all_left_view us.items) g;
    }

    pub serves_as : (x : Outcome) → WhereFinished (λ p. ls ≡ []) x → WhereFinished (IsGrownOf grown) x → WhereFinished (IsOfGrown grown) x → WhereMost (λ p us. IsGrownOf grown p) x
        → WhereMost (λ p us. IsOfGrown grown p) x → WhereMost (λ p us. us ≡ all_left_view ls) x → WhereMost (λ p us. us ≡ [] → ⊥) x → WhereMost (λ p us. IsShare least (t.tablets - length ls) t.tablets) x
        → WhereUnfinished (λ us. us ≡ all_left_view ls) x → WhereUnfinished (λ us. us ≡ [] → ⊥) x → WhereUnfinished (λ us. 100 * (t.tablets - length ls) < least * t.tablets) x
        → (least ≡ 100 → WhereMost (λ p us. ⊥) x) → Served x
    serves_as (Outcome.Finished p) none fin of_fin most of_most those those_some share left left_some short all = finishes p none fin of_fin
    serves_as (Outcome.Most p us) none fin of_fin most of_most those those_some share left left_some short all = finishes_most p us those those_some most of_most share all
    serves_as (Outcome.Unfinished us) none fin of_fin most of_most those those_some share left left_some short all = leaves_some us left left_some short

-- ---- the history

pub left_is : (ls : List code.LeftTablet) (x : Outcome) → WhereFinished (λ p. ls ≡ []) x → WhereMost (λ p us. us ≡ all_left_view ls) x → WhereUnfinished (λ us. us ≡ all_left_view ls) x → left_in x ≡ all_left_view ls
left_is ls (Outcome.Finished p) none those left = sym (ap all_left_view none)
left_is ls (Outcome.Most p us) none those left = those
left_is ls (Outcome.Unfinished us) none those left = left

none_answered_left : (history : List Event) (i : ℕ) (os : List (Option Partial)) (xs : List Scanned) → KeepsPlaces os xs → ((t : ℕ) → has_answer history (i + t) ≡ true → slice_index_or (map has_some os) t false ≡ true)
    → NoneWasAnswered history (left_from i xs)
none_answered_left history i [] [] k f = tt
none_answered_left history i [] (x ∷ xs) k f = absurd k
none_answered_left history i (o ∷ os) [] k f = absurd k
none_answered_left history i (o ∷ os) (Scanned.Given p ∷ xs) k f =
    none_answered_left history (suc i) os xs k.1 (λ t h. f (suc t) (subst (λ (n : ℕ). has_answer history n ≡ true) (let q : suc i + t ≡ i + suc t = omega arith in q) h))
none_answered_left history i (Some p ∷ os) (Scanned.Left tried ∷ xs) k f = absurd (no_given p tried k.0)
  where
    no_given : (p : Partial) (tried : Vec code_tried.Tried Global) → Scanned.Left tried ≡ Scanned.Given p → ⊥
    no_given p tried e = cc
none_answered_left history i (None ∷ os) (Scanned.Left tried ∷ xs) k f =
    (not_answered (has_answer history i) refl, none_answered_left history (suc i) os xs k.1 (λ t h. f (suc t) (subst (λ (n : ℕ). has_answer history n ≡ true) (let q : suc i + t ≡ i + suc t = omega arith in q) h)))
  where
    not_answered : (b : Bool) → has_answer history i ≡ b → has_answer history i ≡ false
    not_answered false e = e
    not_answered true e = absurd (true≢false (sym (f 0 (subst (λ (n : ℕ). has_answer history n ≡ true) (let q : i ≡ i + 0 = omega arith in q) e))))

pub history_is : (t : Table) (plan : Plan) (tree : Tree) (is_true : ℕ → Found → Type 0) (link : LinkShown) (j : Job) (history : List Event) (flags : List Bool) (places : List (Option Partial)) (grown : Growing) (left : List LeftTablet)
    → is_history j history ≡ true → AnsweredHavePieces history flags → flags ≡ map has_some places → Closes t plan tree is_true link places grown left → IsHistoryOf j history left
history_is t plan tree is_true link j history flags places grown left recorded pieces same closes = record {
  recorded = recorded;
  unanswered = subst (NoneWasAnswered history) (sym closes.left_are)
      (none_answered_left history 0 places closes.outcomes closes.keeps (λ u h. subst (λ (bs : List Bool). slice_index_or bs u false ≡ true) same (pieces u (subst (λ (n : ℕ). has_answer history n ≡ true) (let q : 0 + u ≡ u = omega arith in q) h))));
}

-- ---- the links, by the query

pub leaves_for : {L : Type 0} (t : Table) (plan : Plan) (q : Query) → IsPlanOf t.schema q plan → (shows : L → LinkShown) (n : ℕ) (olds news : List L) → LeavesLinks (plan_leaves plan) (tablets_of t) shows n olds news
    → LeavesLinks (query_leaves t.schema.fields q) (tablets_of t) shows n olds news
leaves_for t plan q is shows n olds news h = subst (λ (F : List Leaf). LeavesLinks F (tablets_of t) shows n olds news) (leaves_are t.schema q plan is) h

pub leaves_none : {L : Type 0} (F : List Leaf) (t : Table) (shows : L → LinkShown) (n : ℕ) (links : List L) → LeavesLinks F (tablets_of t) shows n links links
leaves_none F t shows n links = record {
  asks = λ i l lt. held_nothing (is_at_tablets (tablets_of t)) (is_for_tablets F (tablets_of t)) (shows (slice_index_or links i l)).held (shows (slice_index_or links i l)).asked (shows (slice_index_or links i l)).asked refl;
  same = λ i l lt. refl;
  never_falls = λ i l lt. omega arith;
  stays_steady = λ i l lt is. is;
  others = refl;
  count = refl;
}
