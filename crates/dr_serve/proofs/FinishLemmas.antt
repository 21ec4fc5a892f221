-- What the closing round gives, as what serving ends with.
use Rattle.std.proofs.Common.{◌≡◌, ◌<◌, ◌≤◌, ℕ, zero, suc, ◌+◌, List, [], ◌∷◌, ◌++◌, map, length, get_or, Option, refl, sym, ap, ap₂, ◌∙◌, subst, append_assoc, arith}
use Rattle.std.specs.Prelude.{⊤}
use Rattle.std.specs.List.{range_with_len}
use Rattle.dr_meaning.specs.Schema.{Schema, Fields}
use Rattle.dr_meaning.specs.Query.{Query}
use Rattle.dr_meaning.specs.Path.{Leaf}
use Rattle.dr_formats.specs.TableFile.{Table}
use Rattle.dr_outside.specs.Link.{Files, LinkShown}
use Rattle.dr_group.specs.Partials.{partial_view}
use Rattle.dr_group.specs.declared.partial.Partial.{Partial}
use Rattle.dr_partials.specs.Partials as meant
use Rattle.dr_partials.specs.Partials.{lines, Stands, empty_partial}
use Rattle.dr_partials.specs.Rewriting.{leaf_query}
use Rattle.dr_partials.specs.Trees.{Tree, tablets_of as tablets_in, gathered}
use Rattle.dr_partials.proofs.PartialLemmas.{empty_stands_for_none}
use Rattle.dr_partials.proofs.RewritingLemmas.{leaf_has_partials, leaf_uses_same_leaves}
use Rattle.dr_plan.specs.PlanOf.{IsPlanOf}
use Rattle.dr_plan.specs.Planned.{Planned, planned, planned_query, plan_leaves, plan_view}
use Rattle.dr_plan.specs.declared.plan.Plan.{Plan}
use Rattle.dr_reading.specs.Causes.{RisesApart}
use Rattle.dr_reading.specs.Left.{LeftTablet, AreTried, LeftUnanswered, no_tablets, is_answered, is_left, causes_met}
use Rattle.dr_reading.specs.Scan.{Copy, copies_from, tablets_from, tablets_of}
use Rattle.dr_table.specs.LeftViews.{all_tried_view}
use Rattle.dr_reading.specs.Truth.{IsTrueOf}
use Rattle.dr_reading.specs.Outcome.{Serving, serving_leaves, truth_of, HasPiece, AreTrueFrom, IsFinished, IsUnfinished}
use Rattle.dr_scan.specs.declared.tablet.Scanned.{Scanned}
use Rattle.dr_scan.proofs.ScanLemmas.{leaves_are}
use Rattle.dr_tree.specs.Places.{pieces_at}
use Rattle.dr_serve.specs.Serving.{serving_by, first_shown, TrueUnlessLeft, no_more, is_counted, is_not_counted, IsFinishedBut}
use Rattle.dr_serve.specs.Working.{IsPiece, IsPieceFound}
use Rattle.dr_serve.specs.Rounds.{OfEachFrom}
use Rattle.dr_serve.specs.Closing.{IsOutcomeOf, left_from, pieces_of, places_from}
use Rattle.dr_serve.specs.Counted.{held_of}
use Rattle.dr_serve.proofs.LeafLemmas.{copies_of}

-- ---- the partial of each tablet

-- its piece, or of a tablet that is left that of no records
abbrev pub partial_for : Plan → Scanned → meant.Partial
partial_for plan (Scanned.Given p) = partial_view p
partial_for plan (Scanned.Left tried) = empty_partial (planned_query (plan_view plan))

abbrev pub ArePartialsFor : Plan → List Scanned → List meant.Partial → Type 0
ArePartialsFor plan [] [] = ⊤
ArePartialsFor plan (x ∷ xs) (p ∷ ps) = (p ≡ partial_for plan x) × ArePartialsFor plan xs ps
ArePartialsFor plan xs ps = ⊥

abbrev pub partials_of : Plan → List Scanned → List meant.Partial
partials_of plan xs = map (partial_for plan) xs

pub partials_are : (plan : Plan) (xs : List Scanned) → ArePartialsFor plan xs (partials_of plan xs)
partials_are plan [] = tt
partials_are plan (x ∷ xs) = (refl, partials_are plan xs)

-- what a tree has to which the pieces were added
pub pieces_are : (plan : Plan) (t : ℕ) (xs : List Scanned) → pieces_at (planned_query (plan_view plan)) (places_from t (pieces_of xs)) ≡ partials_of plan xs
pieces_are plan t [] = refl
pieces_are plan t (Scanned.Given p ∷ xs) = ap (λ ps. partial_view p ∷ ps) (pieces_are plan (suc t) xs)
pieces_are plan t (Scanned.Left tried ∷ xs) = ap (λ ps. empty_partial (planned_query (plan_view plan)) ∷ ps) (pieces_are plan (suc t) xs)

empty_planned : (fs : Fields) (q : Query) → empty_partial (planned_query (planned fs q)) ≡ empty_partial q
unfolding empty_partial
empty_planned fs q = refl

is_empty : (s : Schema) (q : Query) (plan : Plan) (p : meant.Partial) → IsPlanOf s q plan → p ≡ empty_partial (planned_query (plan_view plan)) → p ≡ empty_partial q
is_empty s q plan p is h = h ∙ (ap (λ (x : Planned). empty_partial (planned_query x)) is.2 ∙ empty_planned s.fields q)

pub empty_stands : (s : Schema) (q : Query) (plan : Plan) (p : meant.Partial) → IsPlanOf s q plan → p ≡ empty_partial (planned_query (plan_view plan)) → Stands s.fields (leaf_query q) [] p
unfolding Stands
empty_stands s q plan p is h = is_empty s q plan p is h ∙ (empty_stands_for_none s.fields q ∙ sym (leaf_has_partials s.fields q []))

-- ---- what came of the tablets

abbrev pub AreOutcomes : Table → Plan → List (Option Files) → LinkShown → ℕ → List Scanned → Type 0
AreOutcomes t plan links l i xs = OfEachFrom (IsOutcomeOf t plan (IsPieceFound t plan links) l) i xs

-- as many as there are tablets
pub as_many : (plan : Plan) (xs : List Scanned) (ps : List meant.Partial) → ArePartialsFor plan xs ps → length ps ≡ length xs
as_many plan [] [] k = refl
as_many plan [] (p ∷ ps) k = absurd k
as_many plan (x ∷ xs) [] k = absurd k
as_many plan (x ∷ xs) (p ∷ ps) k = ap suc (as_many plan xs ps k.1)

-- ---- the partials by their tablets

abbrev pub piece_at : List meant.Partial → ℕ → meant.Partial
piece_at ps t = get_or ps t (lines [])

pub get_behind : {A : Type 0} (before : List A) (x : A) (xs : List A) (d : A) → get_or (before ++ x ∷ xs) (length before) d ≡ x
get_behind [] x xs d = refl
get_behind (b ∷ before) x xs d = get_behind before x xs d

pub length_one : {A : Type 0} (before : List A) (x : A) → length (before ++ x ∷ []) ≡ length before + 1
length_one [] x = refl
length_one (b ∷ before) x = let e = length_one before x in omega (arith, e)

pieces_from : (before ps : List meant.Partial) → map (piece_at (before ++ ps)) (range_with_len (length before) (length ps)) ≡ ps
pieces_from before [] = refl
pieces_from before (p ∷ ps) =
    ap₂ (λ (x : meant.Partial) xs. x ∷ xs) (get_behind before p ps (lines []))
    (ap₂ (λ (all : List meant.Partial) (n : ℕ). map (piece_at all) (range_with_len n (length ps))) (sym (append_assoc before (p ∷ []) ps)) (sym (length_one before p)) ∙ pieces_from (before ++ p ∷ []) ps)

pub pieces_by_tablet : (ps : List meant.Partial) (n : ℕ) → length ps ≡ n → map (piece_at ps) (range_with_len 0 n) ≡ ps
pieces_by_tablet ps n e =
    ap (λ (m : ℕ). map (piece_at ps) (range_with_len 0 m)) (sym e) ∙ pieces_from [] ps

tablets_count : (ds : List (List ℕ)) (k t n : ℕ) → length (tablets_from ds k t n) ≡ n
tablets_count ds k t zero = refl
tablets_count ds k t (suc n) = ap suc (tablets_count ds k (suc t) n)

pub count_of : (t : Table) → length (tablets_of t) ≡ t.tablets
count_of t = tablets_count t.leaves t.copies 0 t.tablets

-- ---- which tablets are left

pub some_are_left : (i : ℕ) (xs : List Scanned) → length (left_from i xs) ≤ length xs
some_are_left i [] = omega arith
some_are_left i (Scanned.Given p ∷ xs) = let h = some_are_left (suc i) xs in omega (arith, h)
some_are_left i (Scanned.Left tried ∷ xs) = let h = some_are_left (suc i) xs in omega (arith, h)

module _ (t : Table) (plan : Plan) (q : Query) (first : LinkShown) (others : List LinkShown) (was : LinkShown) (is : IsPlanOf t.schema q plan) where
  abbrev the_serving : Serving
  the_serving = serving_by t.schema q (tablets_of t) (first ∷ others)

  abbrev the_leaves : List Leaf
  the_leaves = serving_leaves the_serving

  pub true_there : (i : ℕ) (p : Partial) → i < t.tablets → IsPiece t plan (held_of (first ∷ others)) i p → IsTrueOf (truth_of the_serving (copies_from t.leaves i 0 t.copies)) (partial_view p)
  true_there i p l h = subst (λ (cs : List Copy). IsTrueOf (truth_of the_serving cs) (partial_view p)) (copies_of t.leaves t.copies 0 t.tablets i i l (omega arith)) (h.truth q is)

  leaves_same : plan_leaves plan ≡ the_leaves
  leaves_same = leaves_are t.schema q plan is ∙ sym (leaf_uses_same_leaves t.schema.fields q)

  unanswered : (i n : ℕ) (xs : List Scanned) → i + n ≡ t.tablets → length xs ≡ n → AreOutcomes t plan (held_of (first ∷ others)) first i xs
      → LeftUnanswered t.schema the_leaves first (HasPiece the_serving) i (tablets_from t.leaves t.copies i n) (left_from i xs)
  unanswered i zero [] e l h = no_tablets i
  unanswered i (suc n) [] e l h = absurd (omega (arith, l))
  unanswered i zero (x ∷ xs) e l h = absurd (omega (arith, l))
  unanswered i (suc n) (Scanned.Given p ∷ xs) e l h =
      is_answered i (copies_from t.leaves i 0 t.copies) (tablets_from t.leaves t.copies (suc i) n) (left_from (suc i) xs) (partial_view p, true_there i p (omega (arith, e)) h.0) (unanswered (suc i) n xs (omega (arith, e)) (omega (arith, l)) h.1)
  unanswered i (suc n) (Scanned.Left tried ∷ xs) e l h =
      is_left i (copies_from t.leaves i 0 t.copies) (tablets_from t.leaves t.copies (suc i) n) (left_from (suc i) xs) (all_tried_view tried.items)
      (subst (λ (F : List Leaf). AreTried t.schema F first (copies_from t.leaves i 0 t.copies) (all_tried_view tried.items)) leaves_same h.0) (unanswered (suc i) n xs (omega (arith, e)) (omega (arith, l)) h.1)

  -- each has its piece, or that of no records
  counted : (all before : List meant.Partial) (i n : ℕ) (xs : List Scanned) (ps : List meant.Partial) → all ≡ before ++ ps → length before ≡ i → i + n ≡ t.tablets → length xs ≡ n
      → AreOutcomes t plan (held_of (first ∷ others)) was i xs → ArePartialsFor plan xs ps → TrueUnlessLeft the_serving (piece_at all) i (tablets_from t.leaves t.copies i n) (left_from i xs)
  counted all before i zero [] ps a b e l h k = no_more i
  counted all before i (suc n) [] ps a b e l h k = absurd (omega (arith, l))
  counted all before i zero (x ∷ xs) ps a b e l h k = absurd (omega (arith, l))
  counted all before i (suc n) (x ∷ xs) [] a b e l h k = absurd k
  counted all before i (suc n) (Scanned.Given r ∷ xs) (p ∷ ps) a b e l h k =
      is_counted i (copies_from t.leaves i 0 t.copies) (tablets_from t.leaves t.copies (suc i) n) (left_from (suc i) xs)
      (subst (λ (x : meant.Partial). IsTrueOf (truth_of the_serving (copies_from t.leaves i 0 t.copies)) x) (sym (here p ps a b ∙ k.0)) (true_there i r (omega (arith, e)) h.0))
      (counted all (before ++ p ∷ []) (suc i) n xs ps (a ∙ sym (append_assoc before (p ∷ []) ps)) (length_one before p ∙ omega (arith, b)) (omega (arith, e)) (omega (arith, l)) h.1 k.1)
    where
      here : (p : meant.Partial) (ps : List meant.Partial) → all ≡ before ++ p ∷ ps → length before ≡ i → piece_at all i ≡ p
      here p ps a b = ap₂ piece_at a (sym b) ∙ get_behind before p ps (lines [])
  counted all before i (suc n) (Scanned.Left tried ∷ xs) (p ∷ ps) a b e l h k =
      is_not_counted i (copies_from t.leaves i 0 t.copies) (tablets_from t.leaves t.copies (suc i) n) (left_from (suc i) xs) (all_tried_view tried.items)
      (subst (Stands t.schema.fields (leaf_query q) []) (sym (here p ps a b)) (empty_stands t.schema q plan p is k.0))
      (counted all (before ++ p ∷ []) (suc i) n xs ps (a ∙ sym (append_assoc before (p ∷ []) ps)) (length_one before p ∙ omega (arith, b)) (omega (arith, e)) (omega (arith, l)) h.1 k.1)
    where
      here : (p : meant.Partial) (ps : List meant.Partial) → all ≡ before ++ p ∷ ps → length before ≡ i → piece_at all i ≡ p
      here p ps a b = ap₂ piece_at a (sym b) ∙ get_behind before p ps (lines [])

none_left : (s : Serving) (piece : ℕ → meant.Partial) (t : ℕ) (ts : List (List Copy)) (ls : List LeftTablet) → TrueUnlessLeft s piece t ts ls → ls ≡ [] → AreTrueFrom s piece t ts
none_left s piece t [] ls (no_more m) e = tt
none_left s piece t (cs ∷ rest) ls (is_counted m ds more us h k) e = (h, none_left s piece (suc t) rest ls k e)
none_left s piece t (cs ∷ rest) (l ∷ ls) (is_not_counted m ds more us tried h k) e = absurd (cc)

-- ---- what serving ends with

module _ (t : Table) (plan : Plan) (q : Query) (links : List LinkShown) (some : 0 < length links) (is : IsPlanOf t.schema q plan) (was : LinkShown) (xs : List Scanned) (many : length xs ≡ t.tablets) where
  abbrev CameOf : LinkShown → Type 0
  CameOf l = AreOutcomes t plan (held_of links) l 0 xs

  pub finished_but : (tree : Tree) (ps : List meant.Partial) (p : meant.Partial) → tablets_in tree ≡ range_with_len 0 t.tablets → CameOf was → ArePartialsFor plan xs ps
      → ((piece : ℕ → meant.Partial) → map piece (tablets_in tree) ≡ ps → p ≡ gathered piece tree) → IsFinishedBut (serving_by t.schema q (tablets_of t) links) tree (left_from 0 xs) p
  finished_but tree ps p has came are gathers = by links some came
    where
      by : (links : List LinkShown) → 0 < length links → AreOutcomes t plan (held_of links) was 0 xs → IsFinishedBut (serving_by t.schema q (tablets_of t) links) tree (left_from 0 xs) p
      by [] some came = absurd (omega (arith, some))
      by (first ∷ others) some came = (
        piece_at ps,
        has ∙ ap (range_with_len 0) (sym (count_of t)),
        counted t plan q first others was is ps [] 0 t.tablets xs ps refl refl (omega arith) many came are,
        gathers (piece_at ps) (ap (map (piece_at ps)) has ∙ pieces_by_tablet ps t.tablets (as_many plan xs ps are ∙ many)),
      )

  pub finished_by : (tree : Tree) (ps : List meant.Partial) (p : meant.Partial) → tablets_in tree ≡ range_with_len 0 t.tablets → CameOf was → ArePartialsFor plan xs ps
      → ((piece : ℕ → meant.Partial) → map piece (tablets_in tree) ≡ ps → p ≡ gathered piece tree) → left_from 0 xs ≡ [] → IsFinished (serving_by t.schema q (tablets_of t) links) tree p
  finished_by tree ps p has came are gathers none =
      let s : Serving = serving_by t.schema q (tablets_of t) links in
      let h = finished_but tree ps p has came are gathers in
      (h.0, h.1, none_left s h.0 0 s.tablets (left_from 0 xs) h.2 none, h.3)

  pub unfinished_by : (left : List LeftTablet) (now : ℕ) → CameOf (first_shown links) → left ≡ left_from 0 xs → (left ≡ [] → ⊥) → RisesApart (first_shown links).faults (causes_met left) now
      → IsUnfinished (serving_by t.schema q (tablets_of t) links) now left
  unfinished_by left now came e some_left rises = by links some came rises
    where
      by : (links : List LinkShown) → 0 < length links → AreOutcomes t plan (held_of links) (first_shown links) 0 xs → RisesApart (first_shown links).faults (causes_met left) now → IsUnfinished (serving_by t.schema q (tablets_of t) links) now left
      by [] some came rises = absurd (omega (arith, some))
      by (first ∷ others) some came rises = (
        some_left,
        subst (LeftUnanswered t.schema (serving_leaves (serving_by t.schema q (tablets_of t) (first ∷ others))) first (HasPiece (serving_by t.schema q (tablets_of t) (first ∷ others))) 0 (tablets_of t)) (sym e)
            (unanswered t plan q first others first is 0 t.tablets xs (omega arith) many came),
        rises,
      )
