-- How many records are read, and how many triplets.
use Rattle.std.proofs.Common.{◌≡◌, ◌≤◌, ◌+◌, ℕ, List, [], ◌∷◌, ◌++◌, map, length, Bool, true, false, ◌&&◌, ◌||◌, refl, length-append, sym, ap, ap₂, ◌∙◌, arith}
use Rattle.std.specs.Prelude.{nat_le, ◌==◌}
use Rattle.std.specs.List.{list_any}
use Rattle.std.proofs.lemmas.Bool.{le-leb}
use Rattle.std.proofs.lemmas.Bool.Decides.{nat_tests}
use Rattle.std.proofs.lemmas.List.{length-map}
use Rattle.std.proofs.lemmas.List.Folds.{list_all-append}
use Rattle.std.proofs.lemmas.Simd.{map-map}
use Rattle.dr_meaning.specs.Schema.{Fields}
use Rattle.dr_meaning.specs.Path.{Step, Leaf, begins_with}
use Rattle.dr_meaning.specs.Record.{Node, project}
use Rattle.dr_meaning.specs.Column.{Triplet, column}
use Rattle.dr_meaning.proofs.ProjectionLemmas.{leads_from_front}
use Rattle.dr_meaning.proofs.MeaningLemmas.{column_of_projections}
use Rattle.dr_formats.specs.File.{most_rows, most_triplets}
use Rattle.dr_nested.specs.PathView.{path_view, paths_view}
use Rattle.dr_nested.specs.declared.path.Path.{Path}
use Rattle.dr_walk.specs.Walking.{HasColumns}
use Rattle.dr_table.specs.Counting.{counted}
use Rattle.dr_scan.specs.FileRecords.{are_short, AreFew, triplets_at}
use Rattle.dr_formats.specs.Writing.{triplet_count}

-- ---- the columns of projections

begins_itself : (p : List Step) → begins_with p p ≡ true
begins_itself [] = refl
begins_itself (s ∷ p) = ap₂ (λ a b. a && b) (same_place s.place) (begins_itself p)
  where
    same_place : (m : ℕ) → (m == m) ≡ true
    same_place m = grind (arith, nat_tests)

or_later : (a b : Bool) → b ≡ true → (a || b) ≡ true
or_later true b h = refl
or_later false b h = h

-- where each path of G leads on to one of F
pub columns_alike : (F G : List (List Step)) → ((q : List Step) → list_any (begins_with q) G ≡ true → list_any (begins_with q) F ≡ true) → (R : List Node)
    → map (λ (p : List Step). column p (map (project F) R)) G ≡ map (λ (p : List Step). column p R) G
columns_alike F [] h R = refl
columns_alike F (p ∷ G) h R =
    ap₂ (λ (c : List Triplet) (cs : List (List Triplet)). c ∷ cs)
    (column_of_projections F p R (leads_from_front p F (h p (ap (λ b. b || list_any (begins_with p) G) (begins_itself p)))))
    (columns_alike F G (λ q e. h q (or_later (begins_with q p) (list_any (begins_with q) G) e)) R)

-- ---- few

-- one column more
pub one_more_short : (cs ds : List (List Triplet)) (c : List Triplet) → are_short cs ≡ true → length c ≤ most_triplets → ds ≡ cs ++ c ∷ [] → are_short ds ≡ true
one_more_short cs ds c h k e =
    ap are_short e ∙ (list_all-append (λ (ts : List Triplet). nat_le (length ts) most_triplets) cs (c ∷ []) ∙ ap₂ (λ a b. a && (b && true)) h (le-leb (length c) most_triplets k))

-- one more of anything
pub one_more_length : {A : Type 0} (xs ys : List A) (x : A) (n : ℕ) → length xs ≡ n → ys ≡ xs ++ x ∷ [] → length ys ≡ n + 1
one_more_length xs ys x n h e = omega (arith, h, ap length e, length-append xs (x ∷ []))

-- projections of records with these columns
abbrev AreProjections : Fields → List (List Step) → List (List Triplet) → ℕ → List Node → Type 0
AreProjections fs F C rows P = (R : List Node) × HasColumns fs F C rows R × (P ≡ map (project F) R)

-- the projections have the columns of which they are made
columns_of : (fs : Fields) (fields : List Path) (ds : List (List Triplet)) (n : ℕ) (P : List Node) → AreProjections fs (paths_view fields) ds n P → map (λ (l : Leaf). column l.path P) (map path_view fields) ≡ ds
columns_of fs fields ds n P h =
    let F : List (List Step) = paths_view fields in
    let R : List Node = h.0 in
    let of_leaves : map (λ (l : Leaf). column l.path P) (map path_view fields) ≡ map (λ (p : List Step). column p P) F =
    map-map (λ (l : Leaf). column l.path P) path_view fields ∙ sym (map-map (λ (p : List Step). column p P) (λ (p : Path). (path_view p).path) fields) in
    let of_records : map (λ (p : List Step). column p P) F ≡ map (λ (p : List Step). column p R) F =
    ap (λ (Q : List Node). map (λ (p : List Step). column p Q) F) h.2 ∙ columns_alike F F (λ q e. e) R in
    of_leaves ∙ (of_records ∙ h.1.2)

pub few_assembled : (fs : Fields) (fields : List Path) (ds es : List (List Triplet)) (n : ℕ) (P : List Node) → AreProjections fs (paths_view fields) ds n P → ds ≡ es → are_short es ≡ true → n ≤ most_rows
    → AreFew (map path_view fields) P
few_assembled fs fields ds es n P h e s l =
    (omega (arith, ap length h.2, length-map h.0 (project (paths_view fields)), h.1.1), ap are_short (columns_of fs fields ds n P h ∙ e) ∙ s)

-- ---- counted

triplets_in-append : (cs ds : List (List Triplet)) → triplet_count (cs ++ ds) ≡ triplet_count cs + triplet_count ds
triplets_in-append [] ds = omega arith
triplets_in-append (c ∷ cs) ds = ap (λ n. length c + n) (triplets_in-append cs ds) ∙ omega arith

-- one column more
pub one_more_counted : (cs ds : List (List Triplet)) (c : List Triplet) (k m n : ℕ) → m ≡ counted k (triplet_count cs) → n ≡ counted m (length c) → ds ≡ cs ++ c ∷ [] → n ≡ counted k (triplet_count ds)
one_more_counted cs ds c k m n h a e =
    let whole : triplet_count ds ≡ triplet_count cs + (length c + 0) = ap triplet_count e ∙ triplets_in-append cs (c ∷ []) in
    omega (arith, h, a, whole)

-- as many steps as columns have triplets, where these are counted from none on
pub taken_counted : (before now t n : ℕ) → now ≡ counted before t → t ≡ counted 0 n → now ≡ counted before n
taken_counted before now t n h k = omega (arith, h, k)

-- the projections have as many triplets as the columns of which they are made
pub counted_assembled : (fs : Fields) (fields : List Path) (ds es : List (List Triplet)) (n : ℕ) (P : List Node) → AreProjections fs (paths_view fields) ds n P → ds ≡ es
    → triplet_count es ≡ triplets_at (map path_view fields) P
counted_assembled fs fields ds es n P h e = sym (ap triplet_count (columns_of fs fields ds n P h ∙ e))
