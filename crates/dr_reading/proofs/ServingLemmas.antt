-- Pieces that are true of tablets of records stand for the leaf query on these; gathered, they mean the query.
use Rattle.std.proofs.Common.{◌≡◌, inl, inr, ℕ, suc, ◌+◌, List, [], ◌∷◌, ◌++◌, map, length, Bool, true, ◌&&◌, Option, Some, None, refl, sym, ap, ap₂, ◌∙◌, subst, append-nil, arith}
use Rattle.std.specs.Prelude.{◌⊎◌}
use Rattle.std.specs.List.{list_all, range_with_len}
use Rattle.std.proofs.lemmas.Bool.{and_parts}
use Rattle.std.proofs.lemmas.List.Folds.{list_all-append}
use Rattle.dr_meaning.specs.Schema.{Fields}
use Rattle.dr_meaning.specs.Path.{Step, Leaf, is_leaf_path, paths_of_leaves}
use Rattle.dr_meaning.specs.Record.{Node, is_record, project}
use Rattle.dr_meaning.specs.Query.{GroupTerm, key, count_rows, aggregate, GroupItem, Selection, objects, groups, Query, meaning}
use Rattle.dr_meaning.specs.MeaningLaws.{group_term_paths, covers}
use Rattle.dr_meaning.specs.QueryLeaves.{query_leaves}
use Rattle.dr_meaning.proofs.QueryLeavesLemmas.{query_leaves_are_leaves}
use Rattle.dr_formats.specs.File.{IsFileOf}
use Rattle.dr_outside.specs.Link.{Files}
use Rattle.dr_partials.specs.Partials.{Partial, partial_of, Stands, finished}
use Rattle.dr_partials.specs.PartialTypes.{with_aggregate, aggregates_among}
use Rattle.dr_partials.specs.PartialLaws.{all_related, is_mergeable_selection, is_mergeable}
use Rattle.dr_partials.specs.Trees.{tablets_of, gathered}
use Rattle.dr_partials.specs.TreeLaws.{records_of, StandsForEach}
use Rattle.dr_partials.specs.Rewriting.{key_items, aggregate_items, leaf_selection, leaf_query}
use Rattle.dr_partials.proofs.PartialLemmas.{finished_partial_is_meaning}
use Rattle.dr_partials.proofs.ProjectedLemmas.{partial_of_projection}
use Rattle.dr_partials.proofs.RewritingLemmas.{leaf_has_partials, leaf_uses_same_leaves, leaf_covered_alike}
use Rattle.dr_partials.proofs.BoundLemmas.{bound_is_mergeable, bound_leaves_are_enough}
use Rattle.dr_partials.proofs.TreeLemmas.{gathered_stands}
use Rattle.dr_reading.specs.Held.{Held, present, held_file, held_on, held_by_all, IsHeld, IsUntold}
use Rattle.dr_reading.specs.Scan.{Copy, copy_paths}
use Rattle.dr_reading.specs.Premises.{TellsFiles, HoldsRecords, PathsHold, TabletsHold}
use Rattle.dr_reading.proofs.FileLemmas.{same_projections}
use Rattle.dr_reading.specs.Truth.{TabletTruth, leaves_of, StandsForFile}
use Rattle.dr_reading.specs.Outcome.{Serving, serving_leaves, held_by_links, truth_of, AreTrueFrom}
use Rattle.dr_reading.specs.ServingPremises.{AllTell, ServesRecords, IsServable, all_records}
use Rattle.dr_reading.specs.ServingLaws.{HasEnoughLeaves, EachHolds, TrueOfTabletStands, FinishedMeansQuery, BoundIsServable}

-- ---- a true piece

picked : (truth : TabletTruth) (R : List Node) (hs : List Held) (bytes : List ℕ) → EachHolds truth R hs → IsHeld bytes hs → HoldsRecords truth.schema (leaves_of truth) R (present bytes)
picked truth R [] bytes e h = absurd h
picked truth R (x ∷ hs) bytes e (inl h) = subst (HoldsRecords truth.schema (leaves_of truth) R) h e.0
picked truth R (x ∷ hs) bytes e (inr h) = picked truth R hs bytes e.1 h

none_untold : (truth : TabletTruth) (R : List Node) (hs : List Held) → EachHolds truth R hs → IsUntold hs → ⊥
none_untold truth R [] e h = h
none_untold truth R (x ∷ hs) e (inl h) = subst (HoldsRecords truth.schema (leaves_of truth) R) h e.0
none_untold truth R (x ∷ hs) e (inr h) = none_untold truth R hs e.1 h

-- it stands for the records, which are records of the schema
abbrev IsOfRecords : TabletTruth → List Node → Partial → Type 0
IsOfRecords truth R p = (list_all (is_record truth.schema.fields) R ≡ true) × Stands truth.schema.fields truth.query R p

of_file : (truth : TabletTruth) (R : List Node) (p : Partial) → HasEnoughLeaves truth → (f : StandsForFile truth p) → IsFileOf f.bytes truth.schema (leaves_of truth) R → IsOfRecords truth R p
unfolding Stands
of_file truth R p h f g =
    let fs : Fields = truth.schema.fields in
    let F : List Leaf = leaves_of truth in
    let e : map (project (paths_of_leaves F)) f.records ≡ map (project (paths_of_leaves F)) R = same_projections f.bytes truth.schema F f.records R (query_leaves_are_leaves fs truth.query) f.file g in
    (g.4.3, f.stands ∙ (sym (partial_of_projection fs truth.query (paths_of_leaves F) f.records h) ∙ (ap (partial_of fs truth.query) e ∙ partial_of_projection fs truth.query (paths_of_leaves F) R h)))

by_held : (truth : TabletTruth) (R : List Node) (p : Partial) → HasEnoughLeaves truth → (f : StandsForFile truth p) → HoldsRecords truth.schema (leaves_of truth) R (present f.bytes) → IsOfRecords truth R p
by_held truth R p h f (inl g) = of_file truth R p h f g
by_held truth R p h f (inr none) = absurd (none f.records f.file)

by_file : (truth : TabletTruth) (R : List Node) (p : Partial) → HasEnoughLeaves truth → EachHolds truth R truth.held → StandsForFile truth p ⊎ IsUntold truth.held → IsOfRecords truth R p
by_file truth R p h e (inl f) = by_held truth R p h f (picked truth R truth.held f.bytes e f.held)
by_file truth R p h e (inr u) = absurd (none_untold truth R truth.held e u)

pub true_of_tablet_stands : TrueOfTabletStands
true_of_tablet_stands truth R p h e t = (by_file truth R p h e t.file).1

-- ---- what the links hold of a tablet

link_holds : (truth : TabletTruth) (R : List Node) (files : Files) (link : Option Files) (paths : List (List ℕ)) → TellsFiles files link → PathsHold truth.schema (leaves_of truth) R files paths → EachHolds truth R (held_on link paths)
link_holds truth R files None paths t h = absurd t
link_holds truth R files (Some told) [] t h = tt
link_holds truth R files (Some told) (path ∷ paths) t h =
    (subst (λ o. HoldsRecords truth.schema (leaves_of truth) R (held_file o)) (sym (t path)) h.0, link_holds truth R files (Some told) paths t h.1)

both_hold : (truth : TabletTruth) (R : List Node) (hs ks : List Held) → EachHolds truth R hs → EachHolds truth R ks → EachHolds truth R (hs ++ ks)
both_hold truth R [] ks h k = k
both_hold truth R (x ∷ hs) ks h k = (h.0, both_hold truth R hs ks h.1 k)

all_hold : (truth : TabletTruth) (R : List Node) (files : Files) (links : List (Option Files)) (paths : List (List ℕ)) → AllTell files links → PathsHold truth.schema (leaves_of truth) R files paths → EachHolds truth R (held_by_all links paths)
all_hold truth R files [] paths t h = tt
all_hold truth R files (link ∷ links) paths t h = both_hold truth R (held_on link paths) (held_by_all links paths) (link_holds truth R files link paths t.0 h) (all_hold truth R files links paths t.1 h)

-- ---- each tablet

next_number : (t : ℕ) → t + 1 ≡ suc t
next_number t = omega arith

each_stands : (s : Serving) (R : ℕ → List Node) (v : IsServable s) (w : ServesRecords s R) (piece : ℕ → Partial) (t : ℕ) (tablets : List (List Copy))
    → TabletsHold s.schema (serving_leaves s) w.files tablets (map R (range_with_len t (length tablets))) → AreTrueFrom s piece t tablets
    → StandsForEach s.schema.fields (leaf_query s.query) R piece (range_with_len t (length tablets))
each_stands s R v w piece t [] h a = tt
each_stands s R v w piece t (copies ∷ rest) h a =
    let truth : TabletTruth = truth_of s copies in
    let o : IsOfRecords truth (R t) (piece t) =
    by_file truth (R t) (piece t) v.enough (all_hold truth (R t) w.files (held_by_links s) (copy_paths copies) w.told h.0) a.0.file in
    let k = subst (λ u. TabletsHold s.schema (serving_leaves s) w.files rest (map R (range_with_len u (length rest)))) (next_number t) h.1 in
    (o.0, o.1, subst (λ u. StandsForEach s.schema.fields (leaf_query s.query) R piece (range_with_len u (length rest))) (sym (next_number t)) (each_stands s R v w piece (suc t) rest k a.1))

-- ---- the leaf query can be merged where the query can

abbrev ItemsRelated : List (List Step) → List GroupItem → Bool
ItemsRelated keys items = list_all (λ (i : GroupItem). all_related (keys ++ group_term_paths i.term)) items

key_items_related : (keys : List (List Step)) → all_related keys ≡ true → (n : ℕ) (ks : List (List Step)) → ItemsRelated keys (key_items n ks) ≡ true
key_items_related keys h n [] = refl
key_items_related keys h n (k ∷ ks) = ap₂ (λ a b. a && b) (ap all_related (append-nil keys) ∙ h) (key_items_related keys h (suc n) ks)

terms_related : (keys : List (List Step)) (items : List GroupItem) → ItemsRelated keys items ≡ true → (n : ℕ) → ItemsRelated keys (aggregate_items n (aggregates_among items)) ≡ true
terms_related keys [] h n = refl
terms_related keys (i ∷ items) h n =
    let k = and_parts (all_related (keys ++ group_term_paths i.term)) (ItemsRelated keys items) h in
    by_term i.term k.0 (terms_related keys items k.1)
  where
    by_term : (g : GroupTerm) → all_related (keys ++ group_term_paths g) ≡ true → ((m : ℕ) → ItemsRelated keys (aggregate_items m (aggregates_among items)) ≡ true) → ItemsRelated keys (aggregate_items n (with_aggregate g (aggregates_among items))) ≡ true
    by_term (key j) a r = r n
    by_term count_rows a r = ap₂ (λ x y. x && y) a (r (suc n))
    by_term (aggregate b e) a r = ap₂ (λ x y. x && y) a (r (suc n))

leaf_mergeable : (fs : Fields) (s : Selection) → is_mergeable_selection fs s ≡ true → is_mergeable_selection fs (leaf_selection s) ≡ true
leaf_mergeable fs (objects items) h = refl
leaf_mergeable fs (groups keys items) h =
    let k = and_parts (list_all (is_leaf_path fs) keys && all_related keys) (ItemsRelated keys items) h in
    let l = and_parts (list_all (is_leaf_path fs) keys) (all_related keys) k.0 in
    ap₂ (λ a b. a && b) k.0 (list_all-append (λ (i : GroupItem). all_related (keys ++ group_term_paths i.term)) (key_items 0 keys) (aggregate_items 0 (aggregates_among items))
    ∙ ap₂ (λ a b. a && b) (key_items_related keys l.1 0 keys) (terms_related keys items k.1 0))

leaf_query_mergeable : (fs : Fields) (q : Query) → is_mergeable fs q ≡ true → is_mergeable fs (leaf_query q) ≡ true
unfolding leaf_query
leaf_query_mergeable fs q h = leaf_mergeable fs q.selection h

-- ---- all tablets

of_query : (fs : Fields) (q : Query) (R : List Node) (p : Partial) → Stands fs (leaf_query q) R p → Stands fs q R p × (finished q p ≡ meaning fs q R)
unfolding Stands
of_query fs q R p h = let e = h ∙ leaf_has_partials fs q R in (e, ap (finished q) e ∙ finished_partial_is_meaning fs q R)

pub finished_means_query : FinishedMeansQuery
finished_means_query s R tree p v w f =
    let fs : Fields = s.schema.fields in
    let q : Query = leaf_query s.query in
    let each = each_stands s R v w f.0 0 s.tablets w.held f.2 in
    let g : Stands fs q (records_of R (tablets_of tree)) (gathered f.0 tree) =
    gathered_stands fs q R f.0 tree (leaf_query_mergeable fs s.query v.mergeable) (subst (StandsForEach fs q R f.0) (sym f.1) each) in
    of_query fs s.query (all_records s R) p (subst (λ ts. Stands fs q (records_of R ts) p) f.1 (subst (λ (r : Partial). Stands fs q (records_of R (tablets_of tree)) r) (sym f.3) g))

-- ---- a bound query

pub bound_is_servable : BoundIsServable
bound_is_servable s q h =
    let fs : Fields = s.schema.fields in
    record {
      enough = ap (λ F. covers (paths_of_leaves F) (leaf_query s.query)) (leaf_uses_same_leaves fs s.query)
          ∙ (leaf_covered_alike (paths_of_leaves (query_leaves fs s.query)) s.query ∙ bound_leaves_are_enough s.schema q s.query h);
      mergeable = bound_is_mergeable s.schema q s.query h;
    }
