-- What is printed of a table that is held.
use Rattle.std.specs.Prelude.{⊤, Ok, ◌≡◌, ◌<◌, ◌≤◌, ℕ, zero, suc, List, [], ◌∷◌, All, length, map, take, true, Option, Some, None, IsTrue}
use Rattle.std.specs.List.{list_all, slice_get}
use Rattle.std.proofs.Common.{arith, inl, inr, refl, sym, ap, ◌∙◌, subst}
use Rattle.std.proofs.lemmas.Bool.{and_from}
use Rattle.dr_meaning.specs.Schema.{Schema}
use Rattle.dr_meaning.specs.Path.{Leaf, leaves, is_leaf_path, paths_of_leaves}
use Rattle.dr_meaning.specs.Record.{Node, project}
use Rattle.dr_meaning.specs.Query as plain
use Rattle.dr_meaning.specs.Query.{Query, Object}
use Rattle.dr_meaning.specs.QueryLeaves as plain_leaves
use Rattle.dr_meaning.specs.Syntax.{QuerySyntax}
use Rattle.dr_meaning.specs.Binding.{bind}
use Rattle.dr_meaning.specs.Print.{result_text}
use Rattle.dr_meaning.proofs.QueryLeavesLemmas.{leaves_are_enough}
use Rattle.dr_formats.specs.TableFile.{Table}
use Rattle.dr_formats.specs.WritingLaws.{nth_leaf, AreAmong}
use Rattle.dr_formats.proofs.ColumnRows.{leaf_paths}
use Rattle.dr_formats.proofs.ColumnsFit.{EachLeaf}
use Rattle.dr_outside.specs.Link.{Files, LinkShown}
use Rattle.dr_scan.specs.FileRecords.{AreLeavesOf}
use Rattle.dr_scan.proofs.UsedLeaves.{used_are_leaves}
use Rattle.dr_reading.specs.Scan.{Copy, joined, tablets_of}
use Rattle.dr_reading.specs.Given.{IsGiven, AreGiven}
use Rattle.dr_reading.specs.Left.{LeftTablet}
use Rattle.dr_reading.proofs.ReadingLemmas.{given_are_projected}
use Rattle.dr_sub_meaning.specs.Nested.{NestedQuery, fields_through, records_through, outer_fields, outer_records, answered, meaning, innermost, query_leaves}
use Rattle.dr_sub_meaning.specs.NestedAsk.{nested_answer_text}
use Rattle.dr_sub_meaning.specs.ResultRecords.{result_fields, records_of}
use Rattle.dr_sub.specs.Texts.{ArePlansOf}
use Rattle.dr_sub.specs.declared.nested_plan.NestedPlan.{NestedPlan}
use Rattle.dr_stages.proofs.ResultLemmas.{innermost_planned}
use Rattle.dr_serve.specs.Counted.{OneGives, AreCounted, no_more, is_counted, is_not_counted, AreLeftOf, held_of}
use Rattle.dr_serve.specs.Answers.{IsAnswerBut}
use Rattle.dr_load.specs.Loaded.{TabletsAreFiles}
use Rattle.dr_load.proofs.LoadedLemmas.{files_are_held}
use Rattle.dr_serve.specs.Asked.{HoldsTableOf}
use Rattle.dr_serve.proofs.LeftLemmas.{have_copies, none_left}

-- ---- the leaves of a query

same_leaf : (ls : List Leaf) (i : ℕ) → nth_leaf ls i ≡ slice_get ls i
same_leaf [] i = refl
same_leaf (l ∷ ls) zero = refl
same_leaf (l ∷ ls) (suc i) = same_leaf ls i

are_among : (s : Schema) (F : List Leaf) → AreLeavesOf s.fields F → AreAmong (leaves s.fields) F
are_among s [] h = tt
are_among s (l ∷ F) h = ((h.0.0, same_leaf (leaves s.fields) h.0.0 ∙ h.0.1), are_among s F h.1)

query_among : (s : Schema) (n : NestedQuery) → AreAmong (leaves s.fields) (query_leaves s.fields n)
unfolding query_leaves
query_among s n = are_among s (query_leaves s.fields n) (used_are_leaves s.fields (innermost n.inner n.outer))

nth_of : (P : Leaf → Type 0) (ls : List Leaf) (i : ℕ) (l : Leaf) → EachLeaf P ls → nth_leaf ls i ≡ Some l → P l
nth_of P [] i l h e = absurd (cc)
nth_of P (m ∷ ls) zero l h e = let k : m ≡ l = cc in subst P k h.0
nth_of P (m ∷ ls) (suc i) l h e = nth_of P ls i l h.1 e

all_leaf_paths : (s : Schema) (F : List Leaf) → AreAmong (leaves s.fields) F → list_all (λ (l : Leaf). is_leaf_path s.fields l.path) F ≡ true
all_leaf_paths s [] h = refl
all_leaf_paths s (l ∷ F) h =
    and_from (is_leaf_path s.fields l.path) (list_all (λ (m : Leaf). is_leaf_path s.fields m.path) F)
    (nth_of (λ (m : Leaf). is_leaf_path s.fields m.path ≡ true) (leaves s.fields) h.0.0 l (leaf_paths s.fields) h.0.1) (all_leaf_paths s F h.1)

-- ---- what is printed

-- these records are the same to a query's leaves
abbrev AreAlike : Schema → Query → List Node → List Node → Type 0
AreAlike s q R S = map (project (paths_of_leaves (plain_leaves.query_leaves s.fields q))) R ≡ map (project (paths_of_leaves (plain_leaves.query_leaves s.fields q))) S

same_meaning : (s : Schema) (x : QuerySyntax) (q : Query) (R S : List Node) → bind s x ≡ Ok q → AreAlike s q R S → plain.meaning s.fields q R ≡ plain.meaning s.fields q S
same_meaning s x q R S b e = sym (leaves_are_enough s x q R b) ∙ ap (plain.meaning s.fields q) e ∙ leaves_are_enough s x q S b

-- records that are the same to the innermost query are the same to those over it
same_through : (s : Schema) (x : QuerySyntax) (qs : List Query) (q : Query) (R S : List Node) → bind s x ≡ Ok (innermost qs q) → AreAlike s (innermost qs q) R S
    → plain.meaning (fields_through s.fields qs) q (records_through s.fields qs R) ≡ plain.meaning (fields_through s.fields qs) q (records_through s.fields qs S)
same_through s x [] q R S b e = same_meaning s x q R S b e
same_through s x (p ∷ ps) q R S b e =
    ap (λ (os : List Object). plain.meaning (fields_through (result_fields s.fields p) ps) q (records_through (result_fields s.fields p) ps (records_of os))) (same_meaning s x p R S b e)

same_answers : (s : Schema) (n : NestedQuery) (p : NestedPlan) (R S : List Node) → ArePlansOf s n p → map (project (paths_of_leaves (query_leaves s.fields n))) R ≡ map (project (paths_of_leaves (query_leaves s.fields n))) S
    → nested_answer_text s n R ≡ nested_answer_text s n S
unfolding nested_answer_text meaning outer_fields outer_records query_leaves
same_answers s n p R S are e =
    let b = innermost_planned s n p are in
    ap (λ (os : List Object). result_text (answered n os)) (same_through s b.0 n.inner n.outer R S b.1 e)

-- the answer of the table is that of its records
answer_is_of : (t : Table) (n : NestedQuery) (p : NestedPlan) (held : Option Files) (R : List Node) (text : List ℕ) → HoldsTableOf t held R → ArePlansOf t.schema n p
    → (a : (Rs : List (List Node)) × AreGiven t.schema (query_leaves t.schema.fields n) held (tablets_of t) Rs × (text ≡ nested_answer_text t.schema n (joined Rs))) → text ≡ nested_answer_text t.schema n R
answer_is_of t n p None R text h b a = absurd h
answer_is_of t n p (Some files) R text h b a =
    let F : List Leaf = query_leaves t.schema.fields n in
    let f : TabletsAreFiles h.0 t.schema F files (tablets_of t) h.1 = h.3 F (query_among t.schema n) in
    a.2 ∙ same_answers t.schema n p (joined a.0) (joined h.1) b
    (given_are_projected t.schema F files (Some files) (tablets_of t) h.1 a.0 (all_leaf_paths t.schema F (query_among t.schema n)) (λ path. refl) (files_are_held h.0 t.schema F files (tablets_of t) h.1 f) a.1)
    ∙ ap (nested_answer_text t.schema n) h.2

-- ---- what links hold that hold the same

abbrev AllHold : Files → List LinkShown → Type 0
AllHold files [] = ⊤
AllHold files (l ∷ ls) = (l.held ≡ Some files) × AllHold files ls

hold_taken : {L : Type 0} (shows : L → LinkShown) (files : Files) (n : ℕ) (links : List L) → All (λ l. (shows l).held ≡ Some files) links → AllHold files (map shows (take n links))
hold_taken shows files zero links h = tt
hold_taken shows files (suc n) [] h = tt
hold_taken shows files (suc n) (l ∷ links) h = (h 0 l (omega arith), hold_taken shows files n links (λ i x lt. h (suc i) x (omega (arith, lt))))

-- what one of them gives each gives
one_gives : (s : Schema) (F : List Leaf) (files : Files) (links : List LinkShown) (cs : List Copy) (R : List Node) → AllHold files links → OneGives s F (held_of links) cs R → IsGiven s F (Some files) cs R
one_gives s F files [] cs R a h = absurd h
one_gives s F files (l ∷ links) cs R a (inl g) = subst (λ (o : Option Files). IsGiven s F o cs R) a.0 g
one_gives s F files (l ∷ links) cs R a (inr h) = one_gives s F files links cs R a.1 h

all_given : (s : Schema) (F : List Leaf) (files : Files) (links : List LinkShown) (i : ℕ) (ts : List (List Copy)) (left : List LeftTablet) (Rs : List (List Node)) → AllHold files links → AreCounted s F (held_of links) i ts left Rs → left ≡ []
    → AreGiven s F (Some files) ts Rs
all_given s F files links i ts left Rs a (no_more j) e = tt
all_given s F files links i ts left Rs a (is_counted j cs rest more R Ss h k) e = (one_gives s F files links cs R a h, all_given s F files links (suc j) rest more Ss a k e)
all_given s F files links i ts left Rs a (is_not_counted j cs rest more tried Ss k) e = absurd (cc)

-- ---- what is printed of a table that is held

pub answer_is : {L : Type 0} (shows : L → LinkShown) (t : Table) (n : NestedQuery) (p : NestedPlan) (k : ℕ) (links : List L) (files : Files) (R : List Node) (text : List ℕ) → All (λ l. (shows l).held ≡ Some files) links
    → HoldsTableOf t (Some files) R → ArePlansOf t.schema n p → IsAnswerBut t n (map shows (take k links)) [] text → text ≡ nested_answer_text t.schema n R
answer_is shows t n p k links files R text a h b is =
    answer_is_of t n p (Some files) R text h b
    (is.0, all_given t.schema (query_leaves t.schema.fields n) files (map shows (take k links)) 0 (tablets_of t) [] is.0 (hold_taken shows files k links a) is.1 refl, is.2)

-- no tablet is left
pub steady_leaves_none : {L : Type 0} (shows : L → LinkShown) (t : Table) (n : NestedQuery) (k : ℕ) (links : List L) (now : ℕ) (files : Files) (R : List Node) (left : List LeftTablet) → 0 < k → k ≤ length links → All (λ l. (shows l).held ≡ Some files) links
    → All (λ l. IsTrue (shows l).is_steady) links → 0 < t.copies → HoldsTableOf t (Some files) R → AreLeftOf t.schema (query_leaves t.schema.fields n) (tablets_of t) (map shows (take k links)) now left → ⊥
steady_leaves_none shows t n zero links now files R left some many a s c h l = absurd (omega (arith, some))
steady_leaves_none shows t n (suc k) [] now files R left some many a s c h l = absurd (omega (arith, many))
steady_leaves_none shows t n (suc k) (x ∷ links) now files R left some many a s c h l =
    let F : List Leaf = query_leaves t.schema.fields n in
    l.0 (none_left h.0 t.schema F (shows x) files (a 0 x (omega arith)) (s 0 x (omega arith)) 0 (tablets_of t) left h.1 (have_copies t.leaves t.copies 0 t.tablets c) (h.3 F (query_among t.schema n)) l.1)
