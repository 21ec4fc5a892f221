-- What all batches are: the columns of an opened file; or what it says of the file that no records have columns that begin so.
use Rattle.std.proofs.Common.{◌≡◌, ◌<◌, ◌≤◌, ◌⊎◌, inl, inr, ℕ, zero, suc, List, [], ◌∷◌, ◌++◌, length, map, drop, Bool, true, Option, Some, None, refl, sym, ap, subst, ◌∙◌, true≢false, arith}
use Rattle.std.specs.List.{list_all, slice_get}
use Rattle.std.proofs.lemmas.Bool.{and_parts, and_from, cases_lt}
use Rattle.std.proofs.lemmas.List.{length-map}
use Rattle.std.proofs.lemmas.Option.{slice_get_within}
use Rattle.dr_meaning.specs.Schema.{Schema}
use Rattle.dr_meaning.specs.Path.{Step, Leaf, paths_of_leaves}
use Rattle.dr_meaning.specs.Record.{Node}
use Rattle.dr_meaning.specs.Column.{Triplet, column}
use Rattle.dr_formats.specs.File.{Footer, footer_of, given_column, has_leaves, IsDataOf, IsFileOf, HasCause, bad_data, most_triplets}
use Rattle.dr_formats.specs.Writing.{triplet_count}
use Rattle.dr_formats.proofs.OpeningLemmas.{no_leaf_cause_is_file}
use Rattle.dr_nested.specs.PathView.{path_view}
use Rattle.dr_nested.specs.declared.path.Path.{Path}
use Rattle.dr_outside.specs.Link.{Files, LinkShown}
use Rattle.dr_outside.specs.Telling.{Tells, TellsFile}
use Rattle.dr_moves.specs.Leading.{Left, columns_of}
use Rattle.dr_file.specs.OpenedFiles.{IsOpened, IsColumnOf, path_of, rows_of}
use Rattle.dr_file.specs.declared.opened.Opened.{Opened}
use Rattle.dr_group.specs.Partials.{IsPartialOf, partial_view}
use Rattle.dr_partials.specs.Partials.{partial_of}
use Rattle.dr_plan.specs.Planned.{plan_leaves, plan_view, planned_query}
use Rattle.dr_plan.specs.declared.plan.Plan.{Plan}
use Rattle.dr_table.specs.Counting.{counted}
use Rattle.dr_scan.specs.FileRecords.{AreLeavesOf, AreColumnsOf, AreColumnsOfFile, IsFaultOf, assemble_fault}
use Rattle.dr_scan.proofs.ColumnsLemmas.{leaf_there}
use Rattle.dr_scan.proofs.RecordsLemmas.{leaf_at, read_at, data_at, same_footer, columns_of_file}
use Rattle.dr_walk.specs.Batches.{is_last}
use Rattle.dr_walk.specs.Walking.{HasColumns}
use Rattle.dr_walk.specs.declared.fault.AssembleFault.{AssembleFault}
use Rattle.dr_scan.specs.Streamed.{ends_of, IsTold, AreLeafStreams, Extends, NoneBegins, IsOfOpened}
use Rattle.dr_scan.specs.declared.leaf_stream.LeafStream.{LeafStream}
use Rattle.dr_scan.specs.declared.opened.Made.{Made}
use Rattle.dr_scan.proofs.StreamLemmas.{stream_there, end_of_stream, end_past}
use Rattle.dr_scan.proofs.Tabulated.{tabulated, tabulated_of, short_by}

-- ---- a leaf's column

same_column : (a b : List Triplet) (o : Option (List Triplet)) → o ≡ Some a → o ≡ Some b → a ≡ b
same_column a b o h k = let e : Some a ≡ Some b = sym h ∙ k in cc

-- there is one at most
column_given : (bytes : List ℕ) (l : Leaf) (a b : List Triplet) → IsColumnOf bytes l a → IsColumnOf bytes l b → a ≡ b
column_given bytes l a b h k = same_column a b (given_column bytes h.1 l) h.3 (subst (λ (x : Footer). given_column bytes x l ≡ Some b) (same_footer k.1 h.1 (footer_of bytes) k.2 h.2) k.3)

all_at : (t : Leaf → Bool) (F : List Leaf) (i : ℕ) (l : Leaf) → list_all t F ≡ true → slice_get F i ≡ Some l → t l ≡ true
all_at t [] i l h e = let no : None ≡ Some l = e in cc
all_at t (m ∷ F) zero l h e = let is : Some m ≡ Some l = e in let same : m ≡ l = cc in subst (λ (x : Leaf). t x ≡ true) same (and_parts (t m) (list_all t F) h).0
all_at t (m ∷ F) (suc i) l h e = all_at t F i l (and_parts (t m) (list_all t F) h).1 e

first_same : (x y : Option (List Triplet)) → x ∷ [] ≡ y ∷ [] → x ≡ y
first_same x y e = cc

-- where records are those of an opened file, it is theirs
column_is : (bytes : List ℕ) (s : Schema) (F : List Leaf) (o : Opened) (R : List Node) (i : ℕ) (l : Leaf) → (h : IsOpened bytes F o) → AreLeavesOf s.fields F → IsDataOf bytes h.1.0 s F R → slice_get F i ≡ Some l → IsColumnOf bytes l (column l.path R)
column_is bytes s F o R i l h are d e =
    let f = h.1.0 in
    let k = leaf_at s.fields F i l are e in
    let one = data_at bytes f s F R i l e d in
    let has : has_leaves f (l ∷ []) ≡ true = and_from _ _ (all_at _ F i l h.1.2 e) refl in
    let file : IsFileOf bytes s (l ∷ []) R = (f, h.1.1, has, read_at f _ F i l h.1.3 e, one) in
    ((no_leaf_cause_is_file bytes s k.0 l k.1).1 (R, file), f, h.1.1, first_same _ _ one.4)

-- ---- all columns

columns_by : (bytes : List ℕ) (F : List Leaf) (C : List (List Triplet)) → length C ≡ length F → ((i : ℕ) (l : Leaf) → slice_get F i ≡ Some l → IsColumnOf bytes l (columns_of C i)) → AreColumnsOf bytes F C
columns_by bytes [] [] n h = tt
columns_by bytes [] (c ∷ C) n h = absurd (never (omega (arith, n)))
  where
    never : 1 ≤ 0 → ⊥
    never z = omega (arith, z)
columns_by bytes (l ∷ F) [] n h = absurd (never (omega (arith, n)))
  where
    never : 1 ≤ 0 → ⊥
    never z = omega (arith, z)
columns_by bytes (l ∷ F) (c ∷ C) n h = (h 0 l refl, columns_by bytes F C (omega (arith, n)) (λ i m e. h (suc i) m e))

-- all was given, of columns that are what the streams gave, each of which is at its end, and that these records have
pub record IsWholeFile (s : Schema) (p : Plan) (rows : ℕ) (given : Left) (ended : List Bool) (R : List Node) : Type 0 where
  pub columns : List (List Triplet)
  pub have : HasColumns s.fields (paths_of_leaves (plan_leaves p)) columns rows R
  pub given_all : (length columns ≡ length (plan_leaves p)) × ((i : ℕ) → columns_of columns i ≡ given i)
  pub ends : (i : ℕ) → i < length (plan_leaves p) → is_last ended i ≡ true

-- of no leaf too much was given
pub few_given : (held : Option Files) (o : Opened) (F : List Leaf) (given : Left) (xs : List LeafStream) → AreLeafStreams held o F given xs → (i : ℕ) → i < length F → length (given i) ≤ most_triplets
few_given held o F given xs are i h =
    let l = leaf_there F i h in
    let y = stream_there F xs i l.0 are.as_many l.1 in
    let k = (are.each i l.0 y.0 l.1 y.1).few in
    omega (arith, k)

-- what the streams gave, where each is at its end
pub whole_opened : (s : Schema) (p : Plan) (held : Option Files) (o : Opened) (given : Left) (xs : List LeafStream) (R : List Node) (x : Made) → AreLeafStreams held o (plan_leaves p) given xs
    → IsWholeFile s p (rows_of o) given (ends_of xs) R → x.triplets ≡ counted 0 (triplet_count (tabulated (length (plan_leaves p)) given))
    → partial_view x.partial ≡ partial_of s.fields (planned_query (plan_view p)) R → IsPartialOf (plan_view p) x.partial → IsOfOpened s p held o x
whole_opened s p held o given xs R x are w count made of_plan = record {
  columns = w.columns;
  partial = (R, w.have, made);
  of_plan = of_plan;
  short = short_by w.columns (λ i l. few i (omega (arith, l, w.given_all.0)));
  so_many = count ∙ ap (λ (C : List (List Triplet)). counted 0 (triplet_count C)) (sym (tabulated_of w.columns given w.given_all.1 ∙ ap (λ (n : ℕ). tabulated n given) w.given_all.0));
  file = λ bytes told. columns_by bytes (plan_leaves p) w.columns w.given_all.0 (λ i l e. is_column bytes told i l e);
}
  where
    few : (i : ℕ) → i < length (plan_leaves p) → length (columns_of w.columns i) ≤ most_triplets
    few i h = let k = few_given held o (plan_leaves p) given xs are i h in let n = ap length (w.given_all.1 i) in omega (arith, k, n)

    is_column : (bytes : List ℕ) → IsTold held o (plan_leaves p) bytes → (i : ℕ) (l : Leaf) → slice_get (plan_leaves p) i ≡ Some l → IsColumnOf bytes l (columns_of w.columns i)
    is_column bytes told i l e =
        let y = stream_there (plan_leaves p) xs i l are.as_many e in
        let ended = sym (end_of_stream xs i y.0 y.1) ∙ w.ends i (slice_get_within (plan_leaves p) i l e) in
        subst (IsColumnOf bytes l) (sym (w.given_all.1 i)) ((are.each i l y.0 e y.1).last bytes told ended)

-- ---- where no records have columns that begin so

begins_so : (g r ts : List Triplet) → ts ≡ g ++ r → ts ≡ g ++ drop (length g) ts
begins_so g r ts e = e ∙ ap (λ (xs : List Triplet). g ++ xs) (sym (behind g r) ∙ ap (drop (length g)) (sym e))
  where
    behind : (g r : List Triplet) → drop (length g) (g ++ r) ≡ r
    behind [] r = refl
    behind (t ∷ g) r = behind g r

begins_empty : (g ts : List Triplet) → g ≡ [] → ts ≡ g ++ drop (length g) ts
begins_empty [] ts e = refl
begins_empty (t ∷ g) ts e = absurd (cc)

nothing_behind : (g ts : List Triplet) → g ≡ ts → drop (length g) ts ≡ []
nothing_behind g ts e = subst (λ (xs : List Triplet). drop (length g) xs ≡ []) e (all_dropped g)
  where
    all_dropped : (g : List Triplet) → drop (length g) g ≡ []
    all_dropped [] = refl
    all_dropped (t ∷ g) = all_dropped g

abbrev columns_from : List Leaf → List Node → List (List Triplet)
columns_from F R = map (λ (q : List Step). column q R) (paths_of_leaves F)

column_from : (F : List Leaf) (R : List Node) (i : ℕ) (l : Leaf) → slice_get F i ≡ Some l → columns_of (columns_from F R) i ≡ column l.path R
column_from [] R i l e = let no : None ≡ Some l = e in cc
column_from (m ∷ F) R zero l e = let is : Some m ≡ Some l = e in let same : m ≡ l = cc in ap (λ (x : Leaf). column x.path R) same
column_from (m ∷ F) R (suc i) l e = column_from F R i l e

-- what comes behind what was given
abbrev behind_given : List Leaf → Left → List Node → Left
behind_given F given R i = drop (length (given i)) (columns_of (columns_from F R) i)

-- the file is none of any records
pub streamed_bad : (bytes : List ℕ) (s : Schema) (p : Plan) (held : Option Files) (o : Opened) (given : Left) (xs : List LeafStream) → IsTold held o (plan_leaves p) bytes → AreLeavesOf s.fields (plan_leaves p)
    → AreLeafStreams held o (plan_leaves p) given xs → ((i : ℕ) → length (plan_leaves p) ≤ i → given i ≡ []) → NoneBegins s p (rows_of o) given (ends_of xs) → HasCause bytes s (plan_leaves p) bad_data
streamed_bad bytes s p held o given xs told are_leaves are past none =
    let h = told.0 in (h.1.0, h.1.1, h.1.2, h.1.3, λ R d. none (columns_from (plan_leaves p) R) (behind_given (plan_leaves p) given R) (extends R d) R (d.3, d.2 ∙ h.1.5, refl))
  where
    is_column : (R : List Node) → IsDataOf bytes told.0.1.0 s (plan_leaves p) R → (i : ℕ) (l : Leaf) → slice_get (plan_leaves p) i ≡ Some l → IsColumnOf bytes l (columns_of (columns_from (plan_leaves p) R) i)
    is_column R d i l e = subst (IsColumnOf bytes l) (sym (column_from (plan_leaves p) R i l e)) (column_is bytes s (plan_leaves p) o R i l told.0 are_leaves d e)

    begins : (R : List Node) → IsDataOf bytes told.0.1.0 s (plan_leaves p) R → (i : ℕ) → (i < length (plan_leaves p)) ⊎ (length (plan_leaves p) ≤ i) → columns_of (columns_from (plan_leaves p) R) i ≡ given i ++ behind_given (plan_leaves p) given R i
    begins R d i (inl h) =
        let l = leaf_there (plan_leaves p) i h in
        let y = stream_there (plan_leaves p) xs i l.0 are.as_many l.1 in
        let front = ((are.each i l.0 y.0 l.1 y.1).of bytes told).front (columns_of (columns_from (plan_leaves p) R) i) (is_column R d i l.0 l.1) in
        begins_so (given i) front.0 (columns_of (columns_from (plan_leaves p) R) i) front.1
    begins R d i (inr h) = begins_empty (given i) (columns_of (columns_from (plan_leaves p) R) i) (past i h)

    ends : (R : List Node) → IsDataOf bytes told.0.1.0 s (plan_leaves p) R → (i : ℕ) → is_last (ends_of xs) i ≡ true → (i < length (plan_leaves p)) ⊎ (length (plan_leaves p) ≤ i) → behind_given (plan_leaves p) given R i ≡ []
    ends R d i e (inl h) =
        let l = leaf_there (plan_leaves p) i h in
        let y = stream_there (plan_leaves p) xs i l.0 are.as_many l.1 in
        let ended = sym (end_of_stream xs i y.0 y.1) ∙ e in
        nothing_behind (given i) (columns_of (columns_from (plan_leaves p) R) i)
        (column_given bytes l.0 (given i) (columns_of (columns_from (plan_leaves p) R) i) ((are.each i l.0 y.0 l.1 y.1).last bytes told ended) (is_column R d i l.0 l.1))
    ends R d i e (inr h) = absurd (true≢false (sym e ∙ end_past xs i (omega (arith, h, are.as_many))))

    extends : (R : List Node) → IsDataOf bytes told.0.1.0 s (plan_leaves p) R → Extends (length (plan_leaves p)) given (ends_of xs) (columns_from (plan_leaves p) R) (behind_given (plan_leaves p) given R)
    extends R d = (
      length-map (paths_of_leaves (plan_leaves p)) (λ (q : List Step). column q R) ∙ length-map (plan_leaves p) (λ (l : Leaf). l.path),
      λ i. begins R d i (cases_lt i (length (plan_leaves p))),
      λ i e. ends R d i e (cases_lt i (length (plan_leaves p))),
    )

-- the fault of a walk, as that of the file
pub walk_fault : (bytes : List ℕ) (s : Schema) (F : List Leaf) (e : AssembleFault) → (e ≡ AssembleFault.BadData → HasCause bytes s F bad_data) → IsFaultOf bytes s F (assemble_fault e)
walk_fault bytes s F AssembleFault.NoMemory h = tt
walk_fault bytes s F AssembleFault.BadData h = h refl

-- ---- an opened file

-- what a link tells at its path is told of it
pub told_then : (ls : List Path) (p : Plan) (o : Opened) (before after : LinkShown) (path bytes : List ℕ) → ls ≡ p.leaves.items → path_of o ≡ path → after.held ≡ before.held → IsOpened bytes (map path_view ls) o → Tells before path bytes
    → IsTold after.held o (plan_leaves p) bytes
told_then ls p o before after path bytes e at same is t = (
  subst (λ (ms : List Path). IsOpened bytes (map path_view ms) o) e is,
  subst (λ (q : List ℕ). TellsFile after.held q bytes) (sym at) (subst (λ (h : Option Files). TellsFile h path bytes) (sym same) t),
)

-- columns of the file
pub opened_columns : (bytes : List ℕ) (s : Schema) (p : Plan) (held : Option Files) (o : Opened) (m : Made) (w : IsOfOpened s p held o m) → IsTold held o (plan_leaves p) bytes → AreColumnsOfFile bytes s (plan_leaves p) w.columns (rows_of o)
opened_columns bytes s p held o m w told = columns_of_file bytes s (plan_leaves p) o w.columns (rows_of o) told.0 (w.file bytes told) refl
