-- What a tree gathers of the partials of all tablets stands for the records of those that aren't left.
use Rattle.std.proofs.Common.{◌≡◌, ◌<◌, inl, inr, ℕ, zero, suc, ◌+◌, List, [], ◌∷◌, ◌++◌, map, length, get_or, true, Option, Some, None, refl, sym, ap, ap₂, ◌∙◌, subst, append_assoc, arith}
use Rattle.std.specs.Prelude.{◌⊎◌, ⊤}
use Rattle.std.specs.List.{list_all, flat_map, range_with_len}
use Rattle.dr_meaning.specs.Schema.{Schema}
use Rattle.dr_meaning.specs.Path.{Leaf}
use Rattle.dr_meaning.specs.Record.{Node, is_record}
use Rattle.dr_meaning.specs.Query.{Query}
use Rattle.dr_meaning.specs.QueryLeaves.{query_leaves}
use Rattle.dr_formats.specs.File.{IsFileOf}
use Rattle.dr_formats.specs.TableFile.{Table}
use Rattle.dr_outside.specs.Link.{Files, LinkShown}
use Rattle.dr_group.specs.Partials.{partial_view}
use Rattle.dr_group.specs.declared.partial.Partial.{Partial}
use Rattle.dr_partials.specs.Partials as meant
use Rattle.dr_partials.specs.Partials.{Stands, lines}
use Rattle.dr_partials.specs.Rewriting.{leaf_query}
use Rattle.dr_partials.specs.Trees.{Tree, tablets_of as tablets_in, gathered}
use Rattle.dr_partials.specs.TreeLaws.{records_of, StandsForEach}
use Rattle.dr_partials.proofs.BoundLemmas.{bound_is_mergeable}
use Rattle.dr_partials.proofs.RewritingLemmas.{leaf_has_partials, leaf_uses_same_leaves}
use Rattle.dr_partials.proofs.TreeLemmas.{gathered_stands}
use Rattle.dr_plan.specs.PlanOf.{IsPlanOf}
use Rattle.dr_plan.specs.declared.plan.Plan.{Plan}
use Rattle.dr_reading.specs.Given.{IsFileThere, SomeIsFile}
use Rattle.dr_reading.specs.Held.{Held, untold, present, held_file, held_at, held_on, held_by_all, IsHeld, IsUntold}
use Rattle.dr_reading.specs.Causes.{RisesApart}
use Rattle.dr_reading.specs.Left.{LeftTablet, AreTried, LeftUnanswered, no_tablets, is_answered, is_left, causes_met}
use Rattle.dr_reading.specs.Scan.{Copy, copy_paths, copies_from, tablets_from, tablets_of, joined}
use Rattle.dr_table.specs.LeftViews.{all_tried_view}
use Rattle.dr_reading.specs.Truth.{TabletTruth, StandsForFile}
use Rattle.dr_reading.specs.Outcome.{truth_of}
use Rattle.dr_scan.specs.declared.tablet.Scanned.{Scanned}
use Rattle.dr_scan.proofs.ScanLemmas.{leaves_are}
use Rattle.dr_serve.specs.Working.{IsPiece}
use Rattle.dr_serve.specs.Closing.{left_from}
use Rattle.dr_serve.specs.Serving.{serving_by, first_shown}
use Rattle.dr_serve.specs.Counted.{OneGives, AreCounted, no_more, is_counted, is_not_counted, StandsForCounted, AreLeftOf, held_of}
use Rattle.dr_serve.proofs.FinishLemmas.{AreOutcomes, ArePartialsFor, as_many, piece_at, pieces_by_tablet, get_behind, length_one, empty_stands, true_there}

-- ---- records by their tablets

abbrev records_at : List (List Node) → ℕ → List Node
records_at Rs t = get_or Rs t []

records_from : (before Rs : List (List Node)) → flat_map (records_at (before ++ Rs)) (range_with_len (length before) (length Rs)) ≡ joined Rs
records_from before [] = refl
records_from before (R ∷ Rs) =
    ap₂ (λ (x xs : List Node). x ++ xs) (get_behind before R Rs [])
    (ap₂ (λ (all : List (List Node)) (n : ℕ). flat_map (records_at all) (range_with_len n (length Rs))) (sym (append_assoc before (R ∷ []) Rs)) (sym (length_one before R)) ∙ records_from (before ++ R ∷ []) Rs)

all_records : (Rs : List (List Node)) → records_of (records_at Rs) (range_with_len 0 (length Rs)) ≡ joined Rs
all_records Rs = records_from [] Rs

-- ---- each partial stands for its tablet's records

stands_as : (s : Schema) (q : Query) (R : List Node) (p : meant.Partial) → Stands s.fields (leaf_query q) R p → Stands s.fields q R p
unfolding Stands
stands_as s q R p h = h ∙ leaf_has_partials s.fields q R

-- each stands for the records of its tablet, which are records of the schema
abbrev AllStand : Schema → Query → List (List Node) → List meant.Partial → Type 0
AllStand s q [] [] = ⊤
AllStand s q (R ∷ Rs) (p ∷ ps) = (list_all (is_record s.fields) R ≡ true) × Stands s.fields (leaf_query q) R p × AllStand s q Rs ps
AllStand s q Rs ps = ⊥

stand_from : (s : Schema) (q : Query) (Sb : List (List Node)) (pb : List meant.Partial) (Rs : List (List Node)) (ps : List meant.Partial) → length Sb ≡ length pb → AllStand s q Rs ps
    → StandsForEach s.fields q (records_at (Sb ++ Rs)) (piece_at (pb ++ ps)) (range_with_len (length pb) (length ps))
stand_from s q Sb pb [] [] e h = tt
stand_from s q Sb pb [] (p ∷ ps) e h = absurd h
stand_from s q Sb pb (R ∷ Rs) [] e h = absurd h
stand_from s q Sb pb (R ∷ Rs) (p ∷ ps) e h =
    let here : records_at (Sb ++ R ∷ Rs) (length pb) ≡ R = ap (records_at (Sb ++ R ∷ Rs)) (sym e) ∙ get_behind Sb R Rs [] in
    let mine : piece_at (pb ++ p ∷ ps) (length pb) ≡ p = get_behind pb p ps (lines []) in
    let e' : length (Sb ++ R ∷ []) ≡ length (pb ++ p ∷ []) = length_one Sb R ∙ (ap (λ n. n + 1) e ∙ sym (length_one pb p)) in
    let rest = stand_from s q (Sb ++ R ∷ []) (pb ++ p ∷ []) Rs ps e' h.2 in (
      ap (list_all (is_record s.fields)) here ∙ h.0,
      subst (λ (ns : List Node). Stands s.fields q ns (piece_at (pb ++ p ∷ ps) (length pb))) (sym here)
          (subst (Stands s.fields q R) (sym mine) (stands_as s q R p h.1)),
      subst (λ (n : ℕ). StandsForEach s.fields q (records_at (Sb ++ R ∷ Rs)) (piece_at (pb ++ p ∷ ps)) (range_with_len n (length ps))) (length_one pb p)
          (subst (λ (all : List meant.Partial). StandsForEach s.fields q (records_at (Sb ++ R ∷ Rs)) (piece_at all) (range_with_len (length (pb ++ p ∷ [])) (length ps))) (append_assoc pb (p ∷ []) ps)
          (subst (λ (all : List (List Node)). StandsForEach s.fields q (records_at all) (piece_at ((pb ++ p ∷ []) ++ ps)) (range_with_len (length (pb ++ p ∷ [])) (length ps)))
          (append_assoc Sb (R ∷ []) Rs) rest)),
    )

same_length : (s : Schema) (q : Query) (Rs : List (List Node)) (ps : List meant.Partial) → AllStand s q Rs ps → length Rs ≡ length ps
same_length s q [] [] h = refl
same_length s q [] (p ∷ ps) h = absurd h
same_length s q (R ∷ Rs) [] h = absurd h
same_length s q (R ∷ Rs) (p ∷ ps) h = ap suc (same_length s q Rs ps h.2)

-- what a tree of all tablets gathers stands for the records of all
tree_stands : (s : Schema) (q : Query) (plan : Plan) (Rs : List (List Node)) (ps : List meant.Partial) (n : ℕ) (tree : Tree) (p : meant.Partial) → IsPlanOf s q plan → AllStand s q Rs ps → length ps ≡ n → tablets_in tree ≡ range_with_len 0 n
    → ((piece : ℕ → meant.Partial) → map piece (tablets_in tree) ≡ ps → p ≡ gathered piece tree) → Stands s.fields q (joined Rs) p
tree_stands s q plan Rs ps n tree p is all each has gathers =
    let tablets : tablets_in tree ≡ range_with_len 0 (length ps) = has ∙ ap (range_with_len 0) (sym each) in
    let pieces : map (piece_at ps) (tablets_in tree) ≡ ps = ap (map (piece_at ps)) has ∙ pieces_by_tablet ps n each in
    let stands : StandsForEach s.fields q (records_at Rs) (piece_at ps) (tablets_in tree) =
    subst (StandsForEach s.fields q (records_at Rs) (piece_at ps)) (sym tablets) (stand_from s q [] [] Rs ps refl all) in
    let records : records_of (records_at Rs) (tablets_in tree) ≡ joined Rs = ap (records_of (records_at Rs)) (tablets ∙ ap (range_with_len 0) (sym (same_length s q Rs ps all))) ∙ all_records Rs in
    subst (Stands s.fields q (joined Rs)) (sym (gathers (piece_at ps) pieces))
    (subst (λ (ns : List Node). Stands s.fields q ns (gathered (piece_at ps) tree)) records
    (gathered_stands s.fields q (records_at Rs) (piece_at ps) tree (bound_is_mergeable s is.0 q is.1) stands))

-- ---- what links hold, as what they give

at_present : (files : Files) (path bytes : List ℕ) → held_at (Some files) path ≡ present bytes → files path ≡ Some bytes
at_present files path bytes e = by (files path) e
  where
    by : (o : Option (List ℕ)) → held_file o ≡ present bytes → o ≡ Some bytes
    by None e = cc
    by (Some b) e = cc

module _ (s : Schema) (F : List Leaf) (cs : List Copy) (R : List Node) where
  none_present : (ds : List Copy) (bytes : List ℕ) (rest : List Held) → IsHeld bytes (held_on None (copy_paths ds) ++ rest) → IsHeld bytes rest
  none_present [] bytes rest h = h
  none_present (d ∷ ds) bytes rest (inl e) = absurd (cc)
  none_present (d ∷ ds) bytes rest (inr h) = none_present ds bytes rest h

  some_present : (files : Files) (ds : List Copy) (bytes : List ℕ) (rest : List Held) → IsFileOf bytes s F R → IsHeld bytes (held_on (Some files) (copy_paths ds) ++ rest) → SomeIsFile s F files ds R ⊎ IsHeld bytes rest
  some_present files [] bytes rest f h = inr h
  some_present files (d ∷ ds) bytes rest f (inl e) = inl (inl (subst (IsFileThere s F R) (sym (at_present files d.path bytes e)) f))
  some_present files (d ∷ ds) bytes rest f (inr h) = by (some_present files ds bytes rest f h)
    where
      by : SomeIsFile s F files ds R ⊎ IsHeld bytes rest → SomeIsFile s F files (d ∷ ds) R ⊎ IsHeld bytes rest
      by (inl k) = inl (inr k)
      by (inr k) = inr k

  held_gives : (links : List (Option Files)) (bytes : List ℕ) → IsFileOf bytes s F R → IsHeld bytes (held_by_all links (copy_paths cs)) → OneGives s F links cs R
  held_gives [] bytes f h = absurd h
  held_gives (None ∷ links) bytes f h = inr (held_gives links bytes f (none_present cs bytes (held_by_all links (copy_paths cs)) h))
  held_gives (Some files ∷ links) bytes f h = by (some_present files cs bytes (held_by_all links (copy_paths cs)) f h) (held_gives links bytes f)
    where
      by : SomeIsFile s F files cs R ⊎ IsHeld bytes (held_by_all links (copy_paths cs)) → (IsHeld bytes (held_by_all links (copy_paths cs)) → OneGives s F links cs R) → OneGives s F (Some files ∷ links) cs R
      by (inl k) more = inl k
      by (inr k) more = inr (more k)

  none_untold : (files : Files) (paths : List (List ℕ)) (rest : List Held) → IsUntold (held_on (Some files) paths ++ rest) → IsUntold rest
  none_untold files [] rest h = h
  none_untold files (p ∷ paths) rest (inl e) = by (files p) e
    where
      by : (o : Option (List ℕ)) → held_file o ≡ untold → IsUntold rest
      by None e = absurd (cc)
      by (Some b) e = absurd (cc)
  none_untold files (p ∷ paths) rest (inr h) = none_untold files paths rest h

  untold_gives : (links : List (Option Files)) → list_all (is_record s.fields) R ≡ true → IsUntold (held_by_all links (copy_paths cs)) → OneGives s F links cs R
  untold_gives [] r h = absurd h
  untold_gives (None ∷ links) r h = inl r
  untold_gives (Some files ∷ links) r h = inr (untold_gives links r (none_untold files (copy_paths cs) (held_by_all links (copy_paths cs)) h))

-- ---- the records that are counted

-- records of a tablet that a link gives, for which a partial stands
record HasRecords (t : Table) (q : Query) (links : List (Option Files)) (cs : List Copy) (p : meant.Partial) : Type 0 where
  records : List Node
  are_records : list_all (is_record t.schema.fields) records ≡ true
  given : OneGives t.schema (query_leaves t.schema.fields q) links cs records
  stands : Stands t.schema.fields (leaf_query q) records p

module _ (t : Table) (plan : Plan) (q : Query) (first : LinkShown) (others : List LinkShown) (was : LinkShown) (is : IsPlanOf t.schema q plan) where
  abbrev links : List (Option Files)
  links = held_of (first ∷ others)

  abbrev F : List Leaf
  F = query_leaves t.schema.fields q

  abbrev truth_here : ℕ → TabletTruth
  truth_here i = truth_of (serving_by t.schema q (tablets_of t) (first ∷ others)) (copies_from t.leaves i 0 t.copies)

  records_here : (i : ℕ) (p : Partial) → i < t.tablets → IsPiece t plan links i p → HasRecords t q links (copies_from t.leaves i 0 t.copies) (partial_view p)
  records_here i p l h = by (true_there t plan q first others was is i p l h).file
    where
      by : StandsForFile (truth_here i) (partial_view p) ⊎ IsUntold (truth_here i).held → HasRecords t q links (copies_from t.leaves i 0 t.copies) (partial_view p)
      by (inl f) = record {
        records = f.records;
        are_records = f.file.4.3;
        given = held_gives t.schema F (copies_from t.leaves i 0 t.copies) f.records links f.bytes (subst (λ (ls : List Leaf). IsFileOf f.bytes t.schema ls f.records) (leaf_uses_same_leaves t.schema.fields q) f.file) f.held;
        stands = f.stands;
      }
      by (inr u) =
          let r = h.records q is in record {
            records = r.0;
            are_records = r.1;
            given = untold_gives t.schema F (copies_from t.leaves i 0 t.copies) r.0 links r.1 u;
            stands = r.2;
          }

  -- the records of some tablets, those of one that is left being none, for which the partials stand
  record Counts (i n : ℕ) (xs : List Scanned) (ps : List meant.Partial) : Type 0 where
    counted : List (List Node)
    all : List (List Node)
    are : AreCounted t.schema F links i (tablets_from t.leaves t.copies i n) (left_from i xs) counted
    stand : AllStand t.schema q all ps
    same : joined all ≡ joined counted

  counts : (i n : ℕ) (xs : List Scanned) (ps : List meant.Partial) → i + n ≡ t.tablets → length xs ≡ n → AreOutcomes t plan links was i xs → ArePartialsFor plan xs ps → Counts i n xs ps
  counts i zero [] [] e l h k = record { counted = []; all = []; are = no_more i; stand = tt; same = refl }
  counts i zero [] (p ∷ ps) e l h k = absurd k
  counts i (suc n) [] ps e l h k = absurd (omega (arith, l))
  counts i zero (x ∷ xs) ps e l h k = absurd (omega (arith, l))
  counts i (suc n) (x ∷ xs) [] e l h k = absurd k
  counts i (suc n) (Scanned.Given r ∷ xs) (p ∷ ps) e l h k =
      let more = counts (suc i) n xs ps (omega (arith, e)) (omega (arith, l)) h.1 k.1 in
      let here = records_here i r (omega (arith, e)) h.0 in record {
        counted = here.records ∷ more.counted;
        all = here.records ∷ more.all;
        are = is_counted i (copies_from t.leaves i 0 t.copies) (tablets_from t.leaves t.copies (suc i) n) (left_from (suc i) xs) here.records more.counted here.given more.are;
        stand = (here.are_records, subst (λ (x : meant.Partial). Stands t.schema.fields (leaf_query q) here.records x) (sym k.0) here.stands, more.stand);
        same = ap (λ (ns : List Node). here.records ++ ns) more.same;
      }
  counts i (suc n) (Scanned.Left tried ∷ xs) (p ∷ ps) e l h k =
      let more = counts (suc i) n xs ps (omega (arith, e)) (omega (arith, l)) h.1 k.1 in record {
        counted = more.counted;
        all = [] ∷ more.all;
        are = is_not_counted i (copies_from t.leaves i 0 t.copies) (tablets_from t.leaves t.copies (suc i) n) (left_from (suc i) xs) (all_tried_view tried.items) more.counted more.are;
        stand = (refl, empty_stands t.schema q plan p is k.0, more.stand);
        same = more.same;
      }

  -- of each tablet that isn't left a link gives records
  abbrev IsGivenRecords : List Copy → Type 0
  IsGivenRecords cs = (R : List Node) × OneGives t.schema F links cs R

  unanswered : (i n : ℕ) (xs : List Scanned) → i + n ≡ t.tablets → length xs ≡ n → AreOutcomes t plan links first i xs
      → LeftUnanswered t.schema F first IsGivenRecords i (tablets_from t.leaves t.copies i n) (left_from i xs)
  unanswered i zero [] e l h = no_tablets i
  unanswered i (suc n) [] e l h = absurd (omega (arith, l))
  unanswered i zero (x ∷ xs) e l h = absurd (omega (arith, l))
  unanswered i (suc n) (Scanned.Given p ∷ xs) e l h =
      let here = records_here i p (omega (arith, e)) h.0 in
      is_answered i (copies_from t.leaves i 0 t.copies) (tablets_from t.leaves t.copies (suc i) n) (left_from (suc i) xs) (here.records, here.given) (unanswered (suc i) n xs (omega (arith, e)) (omega (arith, l)) h.1)
  unanswered i (suc n) (Scanned.Left tried ∷ xs) e l h =
      is_left i (copies_from t.leaves i 0 t.copies) (tablets_from t.leaves t.copies (suc i) n) (left_from (suc i) xs) (all_tried_view tried.items)
      (subst (λ (ls : List Leaf). AreTried t.schema ls first (copies_from t.leaves i 0 t.copies) (all_tried_view tried.items)) (leaves_are t.schema q plan is) h.0) (unanswered (suc i) n xs (omega (arith, e)) (omega (arith, l)) h.1)

-- ---- what serving ends with

module _ (t : Table) (plan : Plan) (q : Query) (links : List LinkShown) (some : 0 < length links) (is : IsPlanOf t.schema q plan) (was : LinkShown) (xs : List Scanned) (many : length xs ≡ t.tablets) where
  pub counted_by : (tree : Tree) (ps : List meant.Partial) (p : meant.Partial) → tablets_in tree ≡ range_with_len 0 t.tablets → AreOutcomes t plan (held_of links) was 0 xs → ArePartialsFor plan xs ps
      → ((piece : ℕ → meant.Partial) → map piece (tablets_in tree) ≡ ps → p ≡ gathered piece tree) → StandsForCounted t q (held_of links) (left_from 0 xs) p
  counted_by tree ps p has came are gathers = by links some came
    where
      by : (links : List LinkShown) → 0 < length links → AreOutcomes t plan (held_of links) was 0 xs → StandsForCounted t q (held_of links) (left_from 0 xs) p
      by [] some came = absurd (omega (arith, some))
      by (first ∷ others) some came =
          let c = counts t plan q first others was is 0 t.tablets xs ps (omega arith) many came are in
          (c.counted, c.are, subst (λ (ns : List Node). Stands t.schema.fields q ns p) c.same (tree_stands t.schema q plan c.all ps t.tablets tree p is c.stand (as_many plan xs ps are ∙ many) has gathers))

  pub left_by : (left : List LeftTablet) (now : ℕ) → AreOutcomes t plan (held_of links) (first_shown links) 0 xs → left ≡ left_from 0 xs → (left ≡ [] → ⊥) → RisesApart (first_shown links).faults (causes_met left) now → AreLeftOf t.schema (query_leaves t.schema.fields q) (tablets_of t) links now left
  left_by left now came e some_left rises = by links some came rises
    where
      by : (links : List LinkShown) → 0 < length links → AreOutcomes t plan (held_of links) (first_shown links) 0 xs → RisesApart (first_shown links).faults (causes_met left) now → AreLeftOf t.schema (query_leaves t.schema.fields q) (tablets_of t) links now left
      by [] some came rises = absurd (omega (arith, some))
      by (first ∷ others) some came rises = (
        some_left,
        subst (LeftUnanswered t.schema (query_leaves t.schema.fields q) first (λ cs. (R : List Node) × OneGives t.schema (query_leaves t.schema.fields q) (held_of (first ∷ others)) cs R) 0 (tablets_of t)) (sym e)
            (unanswered t plan q first others first is 0 t.tablets xs (omega arith) many came),
        rises,
      )
