-- The tablets, closed one after another.
use Rattle.std.proofs.Common.{◌≡◌, ◌≤◌, ◌<◌, ℕ, zero, suc, ◌+◌, List, [], ◌∷◌, ◌++◌, map, length, get_or, drop, Bool, true, false, Option, None, Some, refl, sym, ap, ◌∙◌, subst, true≢false, append-nil, append_assoc, length-append, arith}
use Rattle.std.specs.Prelude.{IsTrue, Result, Ok, Err, OnOk}
use Rattle.std.proofs.lemmas.List.{drop_more, length-map, map-append}
use Rattle.dr_formats.specs.TableFile.{Table}
use Rattle.dr_outside.specs.Link.{LinkShown}
use Rattle.dr_outside.specs.declared.cause.Cause.{Cause}
use Rattle.dr_memory.specs.declared.NoMemory.{NoMemory}
use Rattle.dr_group.specs.Partials.{partial_view}
use Rattle.dr_group.specs.declared.partial.Partial.{Partial}
use Rattle.dr_partials.specs.Trees.{Tree}
use Rattle.dr_plan.specs.Planned.{plan_leaves}
use Rattle.dr_plan.specs.declared.plan.Plan.{Plan}
use Rattle.dr_reading.specs.Causes.{RisesApart}
use Rattle.dr_reading.specs.Left.{LeftTablet, causes_of, causes_met}
use Rattle.dr_reading.specs.Scan.{copies_from}
use Rattle.dr_table.specs.LeftViews.{all_tried_view}
use Rattle.dr_scan.specs.Tables.{with_scanned}
use Rattle.dr_scan.specs.declared.tablet.Scanned.{Scanned}
use Rattle.dr_tree.specs.Grows.{Growth, CanAdd, Grows, with_added}
use Rattle.dr_tree.specs.declared.growing.Growing.{Growing}
use Rattle.dr_serve.specs.declared.found.Found.{Found}
use Rattle.dr_serve.specs.Rounds.{OfEachFrom, HasRead}
use Rattle.dr_serve.specs.Closing.{IsTruePlace, AreAddable, HasFound, IsOutcomeOf, KeepsPlace, KeepsPlaces, CanKeep, HasKept, HasClosed, IsNext, IsReadAs, Closes, causes_at, left_from, has_some, place_of, growth_by, piece_of, pieces_of}
use Rattle.dr_serve.specs.Links.{Worked}
use Rattle.dr_serve.proofs.FoundLemmas.{can_add, found_more}
use Rattle.dr_serve.proofs.LinkLemmas.{worked_none, worked_more}
use Rattle.dr_serve.proofs.PlaceLemmas.{set_behind}
use Rattle.dr_serve.proofs.RoundLemmas.{each_more, length_one, rises_join, tried_before, none_read, read_skipped, read_more}

-- ---- one more behind others

keeps_more : (os : List (Option Partial)) (xs : List Scanned) (o : Option Partial) (x : Scanned) → KeepsPlaces os xs → KeepsPlace o x → KeepsPlaces (os ++ o ∷ []) (xs ++ x ∷ [])
keeps_more [] [] o x h k = (k, tt)
keeps_more [] (y ∷ xs) o x h k = absurd h
keeps_more (p ∷ os) [] o x h k = absurd h
keeps_more (p ∷ os) (y ∷ xs) o x h k = (h.0, keeps_more os xs o x h.1 k)

keeps_length : (os : List (Option Partial)) (xs : List Scanned) → KeepsPlaces os xs → length xs ≡ length os
keeps_length [] [] h = refl
keeps_length [] (y ∷ xs) h = absurd h
keeps_length (p ∷ os) [] h = absurd h
keeps_length (p ∷ os) (y ∷ xs) h = ap suc (keeps_length os xs h.1)

lefts_more : (t m : ℕ) (xs : List Scanned) (x : Scanned) → t + length xs ≡ m → left_from t (xs ++ x ∷ []) ≡ with_scanned m x (left_from t xs)
lefts_more t m [] (Scanned.Given p) e = refl
lefts_more t m [] (Scanned.Left tried) e = ap (λ (n : ℕ). record { tablet = n; tried = all_tried_view tried.items } ∷ []) (let q : t ≡ m = omega (arith, e) in q)
lefts_more t m (Scanned.Given p ∷ xs) x e = lefts_more (suc t) m xs x (omega (arith, e))
lefts_more t m (Scanned.Left tried ∷ xs) (Scanned.Given p) e = ap (λ ls. record { tablet = t; tried = all_tried_view tried.items } ∷ ls) (lefts_more (suc t) m xs (Scanned.Given p) (omega (arith, e)))
lefts_more t m (Scanned.Left tried ∷ xs) (Scanned.Left more) e = ap (λ ls. record { tablet = t; tried = all_tried_view tried.items } ∷ ls) (lefts_more (suc t) m xs (Scanned.Left more) (omega (arith, e)))

-- ---- causes

causes_more : (m : ℕ) (x : Scanned) (left : List LeftTablet) → causes_met (with_scanned m x left) ≡ causes_met left ++ causes_at x
causes_more m (Scanned.Given p) left = sym (append-nil (causes_met left))
causes_more m (Scanned.Left tried) left = of_left left (record { tablet = m; tried = all_tried_view tried.items })
  where
    of_left : (left : List LeftTablet) (t : LeftTablet) → causes_met (left ++ t ∷ []) ≡ causes_met left ++ causes_of t.tried
    of_left [] t = append-nil (causes_of t.tried)
    of_left (u ∷ left) t = ap (λ cs. causes_of u.tried ++ cs) (of_left left t) ∙ sym (append_assoc (causes_of u.tried) (causes_met left) (causes_of t.tried))

-- ---- a link as it was before

pub outcome_before : (t : Table) (plan : Plan) (is_true : ℕ → Found → Type 0) (l now : LinkShown) (tablet : ℕ) (x : Scanned) → now.held ≡ l.held → (IsTrue l.is_steady → IsTrue now.is_steady)
    → IsOutcomeOf t plan is_true now tablet x → IsOutcomeOf t plan is_true l tablet x
outcome_before t plan is_true l now tablet (Scanned.Given p) e w h = h
outcome_before t plan is_true l now tablet (Scanned.Left tried) e w h = tried_before t.schema (plan_leaves plan) l now (copies_from t.leaves tablet 0 t.copies) (all_tried_view tried.items) e w h

-- ---- a tablet more

-- what holds of each holds of one
each_at : {A : Type 0} (P : ℕ → A → Type 0) (t m : ℕ) (xs : List A) (x : A) (ys : List A) → OfEachFrom P t (xs ++ x ∷ ys) → t + length xs ≡ m → P m x
each_at P t m [] x ys h e = subst (λ (n : ℕ). P n x) (let q : t ≡ m = omega (arith, e) in q) h.0
each_at P t m (y ∷ xs) x ys h e = each_at P (suc t) m xs x ys h.1 (omega (arith, e))

place_at : (before : List (Option Partial)) (o : Option Partial) (behind : List (Option Partial)) (m : ℕ) → length before ≡ m → place_of (before ++ o ∷ behind) m ≡ o
place_at [] o behind zero e = refl
place_at [] o behind (suc m) e = absurd (omega (arith, e))
place_at (b ∷ before) o behind zero e = absurd (omega (arith, e))
place_at (b ∷ before) o behind (suc m) e = place_at before o behind m (omega (arith, e))

within_more : {A : Type 0} (before : List A) (x : A) (behind : List A) (m : ℕ) → length before ≡ m → m < length (before ++ x ∷ behind)
within_more before x behind m e = let n = length-append before (x ∷ behind) in omega (arith, n, e)

pieces_more : (xs : List Scanned) (x : Scanned) (rest : List (Option Partial)) → pieces_of (xs ++ x ∷ []) ++ rest ≡ pieces_of xs ++ piece_of x ∷ rest
pieces_more xs x rest = ap (λ os. os ++ rest) (map-append piece_of xs (x ∷ [])) ∙ append_assoc (pieces_of xs) (piece_of x ∷ []) rest

no_piece : (o : Option Partial) → has_some o ≡ false → o ≡ None
no_piece None h = refl
no_piece (Some p) h = absurd (true≢false h)

module _ (t : Table) (plan : Plan) (tree : Tree) (is_true : ℕ → Found → Type 0) where
  pub none_closed : (l : LinkShown) (all : List (Option Partial)) (grown : Growing) (left : List LeftTablet) → HasFound t plan tree is_true all grown → left ≡ []
      → HasClosed t plan tree is_true l l all all 0 grown left
  none_closed l all grown left h f = record {
    outcomes = [];
    done = [];
    split = refl;
    count = refl;
    each = tt;
    keeps = tt;
    left_are = f;
    rises = subst (λ (ls : List LeftTablet). RisesApart l.faults (causes_met ls) l.faults) (sym f) (omega arith);
    read = none_read t (plan_leaves plan) l left f;
    worked = worked_none t plan l;
    found = h;
  }

  module _ (l was now : LinkShown) (all rest : List (Option Partial)) (m : ℕ) (grown new : Growing) (left longer : List LeftTablet) (o : Option Partial) (h : HasClosed t plan tree is_true l was all (o ∷ rest) m grown left) where
    -- by an outcome of the next
    one_closed : (x : Scanned) → Worked t plan was now → IsOutcomeOf t plan is_true was m x → KeepsPlace o x → RisesApart was.faults (causes_at x) now.faults → longer ≡ with_scanned m x left
        → HasRead t (plan_leaves plan) l now (m + 1) longer → HasFound t plan tree is_true (pieces_of h.outcomes ++ piece_of x ∷ rest) new → HasClosed t plan tree is_true l now all rest (m + 1) new longer
    one_closed x w is keeps rises g read found = record {
      outcomes = h.outcomes ++ x ∷ [];
      done = h.done ++ o ∷ [];
      split = h.split ∙ sym (append_assoc h.done (o ∷ []) rest);
      count = length_one h.outcomes x ∙ ap (λ (n : ℕ). n + 1) h.count;
      each = each_more (IsOutcomeOf t plan is_true l) 0 m h.outcomes x h.each (omega (arith, h.count)) (outcome_before t plan is_true l was m x h.worked.same h.worked.stays_steady is);
      keeps = keeps_more h.done h.outcomes o x h.keeps keeps;
      left_are = g ∙ (ap (with_scanned m x) h.left_are ∙ sym (lefts_more 0 m h.outcomes x (omega (arith, h.count))));
      rises = subst (λ (cs : List Cause). RisesApart l.faults cs now.faults) (sym (ap causes_met g ∙ causes_more m x left))
          (rises_join l.faults was.faults now.faults (causes_met left) (causes_at x) h.rises rises);
      read = read;
      worked = worked_more t plan l was now h.worked w;
      found = subst (λ (os : List (Option Partial)). HasFound t plan tree is_true os new) (sym (pieces_more h.outcomes x rest)) found;
    }

    many : length (pieces_of h.outcomes) ≡ m
    many = length-map h.outcomes piece_of ∙ h.count

    -- it has no piece, and what came of it can be kept
    module _ (none : has_some o ≡ false) (addable : AreAddable t plan is_true) (few : t.tablets ≤ 4096) where
      abbrev places : List (Option Partial)
      places = pieces_of h.outcomes ++ o ∷ rest

      free : place_of places m ≡ None
      free = place_at (pieces_of h.outcomes) o rest m many ∙ no_piece o none

      within : m < length places
      within = within_more (pieces_of h.outcomes) o rest m many

      pub can_keep : (x : Scanned) → IsOutcomeOf t plan is_true was m x → CanKeep m x grown
      can_keep (Scanned.Given p) is = (growth_by t plan tree places, h.found.grows, can_add t plan tree is_true places grown m p h.found within free is addable few)
      can_keep (Scanned.Left tried) is = tt

      found_now : (x : Scanned) → IsOutcomeOf t plan is_true was m x → HasKept m x grown new → HasFound t plan tree is_true (pieces_of h.outcomes ++ piece_of x ∷ rest) new
      found_now (Scanned.Given p) is kept =
          subst (λ (os : List (Option Partial)). HasFound t plan tree is_true os new) (set_behind (pieces_of h.outcomes) o rest m (Some p) many)
          (found_more t plan tree is_true places grown m p h.found within free is new (kept (growth_by t plan tree places) h.found.grows (can_add t plan tree is_true places grown m p h.found within free is addable few)))
      found_now (Scanned.Left tried) is kept =
          subst (HasFound t plan tree is_true (pieces_of h.outcomes ++ None ∷ rest)) (sym kept)
          (subst (λ (x : Option Partial). HasFound t plan tree is_true (pieces_of h.outcomes ++ x ∷ rest) grown) (no_piece o none) h.found)

      pub scanned_closed : (x : Scanned) → Worked t plan was now → IsOutcomeOf t plan is_true was m x → RisesApart was.faults (causes_at x) now.faults → IsReadAs t plan was now m x → longer ≡ with_scanned m x left → HasKept m x grown new
          → HasClosed t plan tree is_true l now all rest (m + 1) new longer
      scanned_closed x w is rises read g kept =
          one_closed x w is (subst (λ (p : Option Partial). KeepsPlace p x) (sym (no_piece o none)) tt) rises g (read_more t plan l was now m x left longer h.worked h.read read g) (found_now x is kept)

  -- it has its piece
  pub answered_closed : (l was : LinkShown) (all rest : List (Option Partial)) (m : ℕ) (grown : Growing) (left : List LeftTablet) (o : Option Partial) → HasClosed t plan tree is_true l was all (o ∷ rest) m grown left → has_some o ≡ true
      → HasClosed t plan tree is_true l was all rest (m + 1) grown left
  answered_closed l was all rest m grown left None h e = absurd (true≢false (sym e))
  answered_closed l was all rest m grown left (Some p) h e =
      one_closed l was was all rest m grown grown left left (Some p) h (Scanned.Given p) (worked_none t plan was)
      (each_at (IsTruePlace is_true) 0 m (pieces_of h.outcomes) (Some p) rest h.found.truths (omega (arith, many l was was all rest m grown grown left left (Some p) h))) refl (omega arith) refl (read_skipped t (plan_leaves plan) l was m left h.read) h.found

  -- all tablets
  pub all_closed : (l now : LinkShown) (all rest : List (Option Partial)) (m : ℕ) (grown : Growing) (left : List LeftTablet) → HasClosed t plan tree is_true l now all rest m grown left
      → rest ≡ [] → length all ≡ t.tablets → Closes t plan tree is_true l all grown left
  all_closed l now all rest m grown left h e n =
      let same : all ≡ h.done = h.split ∙ (ap (λ (os : List (Option Partial)). h.done ++ os) e ∙ append-nil h.done) in record {
        outcomes = h.outcomes;
        count = keeps_length h.done h.outcomes h.keeps ∙ (ap length (sym same) ∙ n);
        each = h.each;
        keeps = subst (λ (os : List (Option Partial)). KeepsPlaces os h.outcomes) (sym same) h.keeps;
        grows = subst (λ (os : List (Option Partial)). Grows (growth_by t plan tree os) grown) (ap (λ (os : List (Option Partial)). pieces_of h.outcomes ++ os) e ∙ append-nil (pieces_of h.outcomes)) h.found.grows;
        left_are = h.left_are;
      }

-- ---- where a step was done

pub where_both : {P Q S : Type 0} (r : Result (Unit {0}) NoMemory) → OnOk r P → OnOk r Q → (P → Q → S) → OnOk r S
where_both (Ok done) h k f = f h k
where_both (Err e) h k f = tt

pub when_done : {P : Type 0} (r : Result (Unit {0}) NoMemory) (x : Unit {0}) → r ≡ Ok x → OnOk r P → P
when_done {P} r x e h = subst (λ (y : Result (Unit {0}) NoMemory). OnOk y P) e h

pub kept_given : (r : Result (Unit {0}) NoMemory) (t : ℕ) (p : Partial) (x : Scanned) (before now : Growing) → x ≡ Scanned.Given p
    → ((w : Growth) → Grows w before → CanAdd w t p → OnOk r (Grows (with_added w t (partial_view p)) now)) → OnOk r (HasKept t x before now)
kept_given (Ok done) t p x before now e f = subst (λ (y : Scanned). HasKept t y before now) (sym e) f
kept_given (Err error) t p x before now e f = tt

-- ---- the tablets, one after another

pub next_place : (places : List (Option Partial)) (m : ℕ) → m < length places → drop m places ≡ get_or places m None ∷ drop (m + 1) places
next_place places m l = drop_more places m None l

pub has_piece_at : (places : List (Option Partial)) (m : ℕ) (b : Bool) → m < length places → b ≡ get_or (map has_some places) m b → b ≡ has_some (get_or places m None)
has_piece_at [] m b l e = absurd (omega (arith, l))
has_piece_at (o ∷ places) zero b l e = e
has_piece_at (o ∷ places) (suc m) b l e = has_piece_at places m b (omega (arith, l)) e

-- the next of all
abbrev pub next_tablet : (t : Table) (plan : Plan) (tree : Tree) (is_true : ℕ → Found → Type 0) (first now : LinkShown) (places : List (Option Partial)) (flags : List Bool) (m : ℕ) (b : Bool) (grown : Growing) (left : List LeftTablet)
    → HasClosed t plan tree is_true first now places (drop m places) m grown left → m < length places → flags ≡ map has_some places → b ≡ get_or flags m b → IsNext t plan is_true now m b grown left
next_tablet t plan tree is_true first now places flags m b grown left h l e f = record {
  tree = tree;
  first = first;
  all = places;
  place = get_or places m None;
  rest = drop (m + 1) places;
  closed = subst (λ (os : List (Option Partial)). HasClosed t plan tree is_true first now places os m grown left) (next_place places m l) h;
  same = has_piece_at places m b l (f ∙ ap (λ (bs : List Bool). get_or bs m b) e);
}
