-- Trees gather what stands for all records; the tree of a fan.
use Rattle.std.proofs.Common.{◌≡◌, ℕ, zero, suc, ◌+◌, ◌-◌, ◌*◌, ◌≤◌, List, [], ◌∷◌, ◌++◌, map, length, take, drop, true, ◌&&◌, refl, sym, ap, ap₂, ◌∙◌, subst, append_assoc, append-nil, arith, length-append, length-drop, length-take, take-append-drop}
use Rattle.std.proofs.lemmas.List.{length-map}
use Rattle.std.specs.Prelude.{nat_le}
use Rattle.std.specs.List.{list_all, flat_map, range_with_len}
use Rattle.std.proofs.lemmas.Bool.{and_parts}
use Rattle.std.proofs.lemmas.Bool.Decides.{nat_tests}
use Rattle.std.proofs.lemmas.Grind.{flat_map-append}
use Rattle.std.proofs.lemmas.List.FromFn.{length-map-range_with_len}
use Rattle.std.proofs.lemmas.List.Folds.{list_all-append}
use Rattle.dr_meaning.specs.Schema.{Fields}
use Rattle.dr_meaning.specs.Record.{Node, is_record}
use Rattle.dr_meaning.specs.Query.{Query, meaning}
use Rattle.dr_partials.specs.Partials.{Partial, Stands, merge, empty_partial, finished}
use Rattle.dr_partials.specs.PartialTypes.{is_partial}
use Rattle.dr_partials.specs.PartialLaws.{is_mergeable}
use Rattle.dr_partials.specs.PartialBounds.{PartialCanBeOf}
use Rattle.dr_partials.proofs.BoundsLemmas.{bounds_add_up}
use Rattle.dr_partials.specs.Trees.{Tree, leaf_server, intermediate_server, Trees, no_trees, next_tree, tablets_of, tablets_of_all, count_trees, children_at_most, all_at_most, gathered, gathered_behind, trees_of, chunks_at_most, in_chunks, server_of, grow, of_fan}
use Rattle.dr_partials.specs.TreeLaws.{records_of, StandsForEach, GatheredStands, GatheredMeansQuery, AreAllPartials, GatheredIsPartial, CanAllBeOf, GatheredIsBounded, TreesGatherAlike, FanHasAllTablets, FanIsKept}
use Rattle.dr_partials.proofs.PartialLemmas.{merged_stands, finished_partial_is_meaning}
use Rattle.dr_partials.proofs.PartialTypeLemmas.{merge_is_associative, empty_merges_to_same, merged_is_partial, empty_is_partial}

-- ---- what is gathered stands for all records

-- records, and what stands for them
abbrev StandsFor : Fields → Query → List Node → Partial → Type 0
StandsFor fs q ns p = (list_all (is_record fs) ns ≡ true) × Stands fs q ns p

both_stand : (fs : Fields) (q : Query) → is_mergeable fs q ≡ true → (ns ms : List Node) (p r : Partial) → StandsFor fs q ns p → StandsFor fs q ms r → StandsFor fs q (ns ++ ms) (merge p r)
both_stand fs q h ns ms p r a b = (list_all-append (is_record fs) ns ms ∙ ap₂ (λ x y. x && y) a.0 b.0, merged_stands fs q ns ms p r h a.0 b.0 a.1 b.1)

each_split : (fs : Fields) (q : Query) (R : ℕ → List Node) (piece : ℕ → Partial) (ts us : List ℕ) → StandsForEach fs q R piece (ts ++ us) → StandsForEach fs q R piece ts × StandsForEach fs q R piece us
each_split fs q R piece [] us h = (tt, h)
each_split fs q R piece (t ∷ ts) us h = let k = each_split fs q R piece ts us h.2 in ((h.0, h.1, k.0), k.1)

mutual
  tree_stands : (fs : Fields) (q : Query) → is_mergeable fs q ≡ true → (R : ℕ → List Node) (piece : ℕ → Partial) (tree : Tree) → StandsForEach fs q R piece (tablets_of tree) → StandsFor fs q (records_of R (tablets_of tree)) (gathered piece tree)
  tree_stands fs q m R piece (leaf_server t) h = subst (λ (ns : List Node). StandsFor fs q ns (piece t)) (sym (append-nil (R t))) (h.0, h.1)
  tree_stands fs q m R piece (intermediate_server t ts) h =
      let k = each_split fs q R piece (tablets_of t) (tablets_of_all ts) h in
      subst (λ (ns : List Node). StandsFor fs q ns (gathered_behind piece (gathered piece t) ts)) (sym (flat_map-append R (tablets_of t) (tablets_of_all ts)))
      (trees_stand fs q m R piece ts (records_of R (tablets_of t)) (gathered piece t) (tree_stands fs q m R piece t k.0) k.1)

  trees_stand : (fs : Fields) (q : Query) → is_mergeable fs q ≡ true → (R : ℕ → List Node) (piece : ℕ → Partial) (trees : Trees) (ns : List Node) (p : Partial) → StandsFor fs q ns p → StandsForEach fs q R piece (tablets_of_all trees)
      → StandsFor fs q (ns ++ records_of R (tablets_of_all trees)) (gathered_behind piece p trees)
  trees_stand fs q m R piece no_trees ns p h k = subst (λ (ms : List Node). StandsFor fs q ms p) (sym (append-nil ns)) h
  trees_stand fs q m R piece (next_tree t ts) ns p h k =
      let l = each_split fs q R piece (tablets_of t) (tablets_of_all ts) k in
      let N : List Node = records_of R (tablets_of t) in
      let M : List Node = records_of R (tablets_of_all ts) in
      subst (λ (ms : List Node). StandsFor fs q ms (gathered_behind piece (merge p (gathered piece t)) ts)) (append_assoc ns N M ∙ ap (λ ms. ns ++ ms) (sym (flat_map-append R (tablets_of t) (tablets_of_all ts))))
      (trees_stand fs q m R piece ts (ns ++ N) (merge p (gathered piece t)) (both_stand fs q m ns N p (gathered piece t) h (tree_stands fs q m R piece t l.0)) l.1)

pub gathered_stands : GatheredStands
gathered_stands fs q R piece tree m h = (tree_stands fs q m R piece tree h).1

finished_standing : (fs : Fields) (q : Query) (ns : List Node) (p : Partial) → Stands fs q ns p → finished q p ≡ meaning fs q ns
unfolding Stands
finished_standing fs q ns p h = ap (finished q) h ∙ finished_partial_is_meaning fs q ns

pub gathered_means_query : GatheredMeansQuery
gathered_means_query fs q R piece tree m h = finished_standing fs q (records_of R (tablets_of tree)) (gathered piece tree) (gathered_stands fs q R piece tree m h)

-- ---- trees with the same tablets

all_split : (fs : Fields) (q : Query) (piece : ℕ → Partial) (ts us : List ℕ) → AreAllPartials fs q piece (ts ++ us) → AreAllPartials fs q piece ts × AreAllPartials fs q piece us
all_split fs q piece [] us h = (tt, h)
all_split fs q piece (t ∷ ts) us h = let k = all_split fs q piece ts us h.1 in ((h.0, k.0), k.1)

-- the pieces, one behind another
abbrev merged_pieces : Query → (ℕ → Partial) → List ℕ → Partial
merged_pieces q piece [] = empty_partial q
merged_pieces q piece (t ∷ ts) = merge (piece t) (merged_pieces q piece ts)

pieces_are : (fs : Fields) (q : Query) (piece : ℕ → Partial) (ts : List ℕ) → AreAllPartials fs q piece ts → is_partial fs q (merged_pieces q piece ts) ≡ true
pieces_are fs q piece [] h = empty_is_partial fs q
pieces_are fs q piece (t ∷ ts) h = merged_is_partial fs q (piece t) (merged_pieces q piece ts) h.0 (pieces_are fs q piece ts h.1)

pieces_append : (fs : Fields) (q : Query) (piece : ℕ → Partial) (ts us : List ℕ) → AreAllPartials fs q piece ts → AreAllPartials fs q piece us → merged_pieces q piece (ts ++ us) ≡ merge (merged_pieces q piece ts) (merged_pieces q piece us)
pieces_append fs q piece [] us h k = sym (empty_merges_to_same fs q (merged_pieces q piece us) (pieces_are fs q piece us k)).0
pieces_append fs q piece (t ∷ ts) us h k = ap (merge (piece t)) (pieces_append fs q piece ts us h.1 k)
    ∙ sym (merge_is_associative fs q (piece t) (merged_pieces q piece ts) (merged_pieces q piece us) h.0 (pieces_are fs q piece ts h.1) (pieces_are fs q piece us k))

mutual
  tree_pieces : (fs : Fields) (q : Query) (piece : ℕ → Partial) (tree : Tree) → AreAllPartials fs q piece (tablets_of tree) → gathered piece tree ≡ merged_pieces q piece (tablets_of tree)
  tree_pieces fs q piece (leaf_server t) h = sym (empty_merges_to_same fs q (piece t) h.0).1
  tree_pieces fs q piece (intermediate_server t ts) h =
      let k = all_split fs q piece (tablets_of t) (tablets_of_all ts) h in
      trees_pieces fs q piece ts (gathered piece t) (subst (λ (p : Partial). is_partial fs q p ≡ true) (sym (tree_pieces fs q piece t k.0)) (pieces_are fs q piece (tablets_of t) k.0)) k.1
      ∙ (ap (λ p. merge p (merged_pieces q piece (tablets_of_all ts))) (tree_pieces fs q piece t k.0) ∙ sym (pieces_append fs q piece (tablets_of t) (tablets_of_all ts) k.0 k.1))

  trees_pieces : (fs : Fields) (q : Query) (piece : ℕ → Partial) (trees : Trees) (p : Partial) → is_partial fs q p ≡ true → AreAllPartials fs q piece (tablets_of_all trees)
      → gathered_behind piece p trees ≡ merge p (merged_pieces q piece (tablets_of_all trees))
  trees_pieces fs q piece no_trees p a h = sym (empty_merges_to_same fs q p a).1
  trees_pieces fs q piece (next_tree t ts) p a h =
      let k = all_split fs q piece (tablets_of t) (tablets_of_all ts) h in
      let e = tree_pieces fs q piece t k.0 in
      let b : is_partial fs q (gathered piece t) ≡ true = subst (λ (p : Partial). is_partial fs q p ≡ true) (sym e) (pieces_are fs q piece (tablets_of t) k.0) in
      let c = pieces_are fs q piece (tablets_of_all ts) k.1 in
      trees_pieces fs q piece ts (merge p (gathered piece t)) (merged_is_partial fs q p (gathered piece t) a b) k.1
      ∙ (merge_is_associative fs q p (gathered piece t) (merged_pieces q piece (tablets_of_all ts)) a b c
      ∙ ap (merge p) (ap (λ r. merge r (merged_pieces q piece (tablets_of_all ts))) e ∙ sym (pieces_append fs q piece (tablets_of t) (tablets_of_all ts) k.0 k.1)))

pub gathered_is_partial : GatheredIsPartial
gathered_is_partial fs q piece tree h = subst (λ (p : Partial). is_partial fs q p ≡ true) (sym (tree_pieces fs q piece tree h)) (pieces_are fs q piece (tablets_of tree) h)

both_bounded : (m : ℕ) (piece : ℕ → Partial) (ts us : List ℕ) → CanAllBeOf m piece (ts ++ us) → CanAllBeOf m piece ts × CanAllBeOf m piece us
both_bounded m piece [] us h = (tt, h)
both_bounded m piece (t ∷ ts) us h = let k = both_bounded m piece ts us h.1 in ((h.0, k.0), k.1)

-- so many for each of both
for_both : (m : ℕ) (ts us : List ℕ) → length ts * m + length us * m ≡ length (ts ++ us) * m
for_both m ts us = let e = length-append ts us in sym (ap (λ n. n * m) e ∙ omega arith)

for_three : (m k : ℕ) (ts us : List ℕ) → (k + length ts * m) + length us * m ≡ k + length (ts ++ us) * m
for_three m k ts us = omega (arith, for_both m ts us)

mutual
  tree_bounded : (fs : Fields) (q : Query) (m : ℕ) (piece : ℕ → Partial) (tree : Tree) → AreAllPartials fs q piece (tablets_of tree) → CanAllBeOf m piece (tablets_of tree) → PartialCanBeOf (length (tablets_of tree) * m) (gathered piece tree)
  tree_bounded fs q m piece (leaf_server t) h b = let e : m ≡ 1 * m = omega arith in subst (λ n. PartialCanBeOf n (piece t)) e b.0
  tree_bounded fs q m piece (intermediate_server t ts) h b =
      let k = all_split fs q piece (tablets_of t) (tablets_of_all ts) h in
      let c = both_bounded m piece (tablets_of t) (tablets_of_all ts) b in
      subst (λ n. PartialCanBeOf n (gathered_behind piece (gathered piece t) ts)) (for_both m (tablets_of t) (tablets_of_all ts))
      (trees_bounded fs q m piece ts (length (tablets_of t) * m) (gathered piece t) (gathered_is_partial fs q piece t k.0) (tree_bounded fs q m piece t k.0 c.0) k.1 c.1)

  trees_bounded : (fs : Fields) (q : Query) (m : ℕ) (piece : ℕ → Partial) (trees : Trees) (k : ℕ) (p : Partial) → is_partial fs q p ≡ true → PartialCanBeOf k p → AreAllPartials fs q piece (tablets_of_all trees) → CanAllBeOf m piece (tablets_of_all trees)
      → PartialCanBeOf (k + length (tablets_of_all trees) * m) (gathered_behind piece p trees)
  trees_bounded fs q m piece no_trees k p a o h b = let e : k ≡ k + 0 * m = omega arith in subst (λ n. PartialCanBeOf n p) e o
  trees_bounded fs q m piece (next_tree t ts) k p a o h b =
      let l = all_split fs q piece (tablets_of t) (tablets_of_all ts) h in
      let c = both_bounded m piece (tablets_of t) (tablets_of_all ts) b in
      let g = gathered_is_partial fs q piece t l.0 in
      let r = trees_bounded fs q m piece ts (k + length (tablets_of t) * m) (merge p (gathered piece t)) (merged_is_partial fs q p (gathered piece t) a g)
      (bounds_add_up fs q k (length (tablets_of t) * m) p (gathered piece t) a g o (tree_bounded fs q m piece t l.0 c.0)) l.1 c.1 in
      subst (λ n. PartialCanBeOf n (gathered_behind piece (merge p (gathered piece t)) ts)) (for_three m k (tablets_of t) (tablets_of_all ts)) r

pub gathered_is_bounded : GatheredIsBounded
gathered_is_bounded fs q m piece tree h b = tree_bounded fs q m piece tree h b

pub trees_gather_alike : TreesGatherAlike
trees_gather_alike fs q piece a b h e =
    tree_pieces fs q piece a h ∙ (ap (merged_pieces q piece) e ∙ sym (tree_pieces fs q piece b (subst (AreAllPartials fs q piece) e h)))

-- ---- the tree of a fan: its tablets

abbrev tablets_in : List Tree → List ℕ
tablets_in ts = flat_map tablets_of ts

trees_tablets : (ts : List Tree) → tablets_of_all (trees_of ts) ≡ tablets_in ts
trees_tablets [] = refl
trees_tablets (t ∷ ts) = ap (λ us. tablets_of t ++ us) (trees_tablets ts)

chunks_tablets : (most fan : ℕ) (ts : List Tree) → length ts ≤ most → tablets_in (map server_of (chunks_at_most most fan ts)) ≡ tablets_in ts
chunks_tablets zero fan [] h = refl
chunks_tablets zero fan (t ∷ ts) h = absurd (omega (arith, h))
chunks_tablets (suc most) fan [] h = refl
chunks_tablets (suc most) fan (t ∷ ts) h =
    let here : List Tree = take (fan - 1) ts in
    let behind : List Tree = drop (fan - 1) ts in
    ap₂ (λ us vs. (tablets_of t ++ us) ++ vs) (trees_tablets here) (chunks_tablets most fan behind (omega (arith, h, length-drop (fan - 1) ts)))
    ∙ (append_assoc (tablets_of t) (tablets_in here) (tablets_in behind)
    ∙ ap (λ us. tablets_of t ++ us) (sym (flat_map-append tablets_of here behind) ∙ ap tablets_in (take-append-drop (fan - 1) ts)))

grown_tablets : (levels fan : ℕ) (t : Tree) (ts : List Tree) → tablets_of (grow levels fan (t ∷ ts)) ≡ tablets_in (t ∷ ts)
grown_tablets levels fan t [] = sym (append-nil (tablets_of t))
grown_tablets zero fan t (u ∷ us) = ap (λ vs. tablets_of t ++ vs) (trees_tablets (u ∷ us))
grown_tablets (suc levels) fan t (u ∷ us) =
    let here : List Tree = take (fan - 1) (u ∷ us) in
    grown_tablets levels fan (intermediate_server t (trees_of here)) (map server_of (chunks_at_most (suc (length us)) fan (drop (fan - 1) (u ∷ us))))
    ∙ chunks_tablets (suc (suc (length us))) fan (t ∷ u ∷ us) (omega arith)

leaf_tablets : (ts : List ℕ) → tablets_in (map leaf_server ts) ≡ ts
leaf_tablets [] = refl
leaf_tablets (t ∷ ts) = ap (λ us. t ∷ us) (leaf_tablets ts)

pub fan_has_all_tablets : FanHasAllTablets
unfolding of_fan
fan_has_all_tablets zero fan h = absurd (omega (arith, h))
fan_has_all_tablets (suc n) fan h =
    grown_tablets (suc n) fan (leaf_server 0) (map leaf_server (range_with_len 1 n)) ∙ leaf_tablets (range_with_len 0 (suc n))

-- ---- its fan

le_tested : (a b : ℕ) → a ≤ b → nat_le a b ≡ true
le_tested a b h = grind (arith, nat_tests)

few_trees : (n : ℕ) (ts : List Tree) → length ts ≤ n → count_trees (trees_of ts) ≤ n
few_trees n [] h = omega arith
few_trees zero (t ∷ ts) h = absurd (omega (arith, h))
few_trees (suc n) (t ∷ ts) h = omega (arith, few_trees n ts (omega (arith, h)))

trees_kept : (fan : ℕ) (ts : List Tree) → list_all (children_at_most fan) ts ≡ true → all_at_most fan (trees_of ts) ≡ true
trees_kept fan [] h = refl
trees_kept fan (t ∷ ts) h =
    let k = and_parts (children_at_most fan t) (list_all (children_at_most fan) ts) h in
    ap₂ (λ x y. x && y) k.0 (trees_kept fan ts k.1)

-- the first and the others, where these are fewer than the fan
server_kept : (fan : ℕ) (t : Tree) (ts : List Tree) → suc (length ts) ≤ fan → children_at_most fan t ≡ true → list_all (children_at_most fan) ts ≡ true
    → children_at_most fan (intermediate_server t (trees_of ts)) ≡ true
server_kept fan t ts h a b =
    let few = few_trees (length ts) ts (omega arith) in
    ap₂ (λ x y. x && y) (ap₂ (λ x y. x && y) (le_tested (suc (count_trees (trees_of ts))) fan (omega (arith, few, h))) a) (trees_kept fan ts b)

both_kept : (fan n : ℕ) (ts : List Tree) → list_all (children_at_most fan) ts ≡ true
    → (list_all (children_at_most fan) (take n ts) ≡ true) × (list_all (children_at_most fan) (drop n ts) ≡ true)
both_kept fan n ts h =
    and_parts _ _ (sym (list_all-append (children_at_most fan) (take n ts) (drop n ts)) ∙ (ap (list_all (children_at_most fan)) (take-append-drop n ts) ∙ h))

chunks_kept : (most fan : ℕ) (ts : List Tree) → 1 ≤ fan → list_all (children_at_most fan) ts ≡ true
    → list_all (children_at_most fan) (map server_of (chunks_at_most most fan ts)) ≡ true
chunks_kept zero fan ts h a = refl
chunks_kept (suc most) fan [] h a = refl
chunks_kept (suc most) fan (t ∷ ts) h a =
    let b = and_parts (children_at_most fan t) (list_all (children_at_most fan) ts) a in
    let c = both_kept fan (fan - 1) ts b.1 in
    ap₂ (λ x y. x && y) (server_kept fan t (take (fan - 1) ts) (omega (arith, h, length-take (fan - 1) ts)) b.0 c.0)
    (chunks_kept most fan (drop (fan - 1) ts) h c.1)

-- no more chunks than trees
few_chunks : (most fan : ℕ) (ts : List Tree) → length (chunks_at_most most fan ts) ≤ length ts
few_chunks zero fan ts = omega arith
few_chunks (suc most) fan [] = omega arith
few_chunks (suc most) fan (t ∷ ts) = omega (arith, few_chunks most fan (drop (fan - 1) ts), length-drop (fan - 1) ts)

grown_kept : (levels fan : ℕ) (ts : List Tree) → 2 ≤ fan → length ts ≤ suc levels → list_all (children_at_most fan) ts ≡ true
    → children_at_most fan (grow levels fan ts) ≡ true
grown_kept levels fan [] h l a = refl
grown_kept levels fan (t ∷ []) h l a = (and_parts (children_at_most fan t) true a).0
grown_kept zero fan (t ∷ u ∷ us) h l a = absurd (omega (arith, l))
grown_kept (suc levels) fan (t ∷ u ∷ us) h l a =
    let ts : List Tree = t ∷ u ∷ us in
    let behind : List Tree = drop (fan - 1) (u ∷ us) in
    let few = few_chunks (suc (length us)) fan behind in
    grown_kept levels fan (map server_of (in_chunks fan ts)) h
    (omega (arith, h, l, few, length-drop (fan - 1) (u ∷ us), length-map (in_chunks fan ts) server_of))
    (chunks_kept (length ts) fan ts (omega (arith, h)) a)

leaves_kept : (fan : ℕ) (ts : List ℕ) → list_all (children_at_most fan) (map leaf_server ts) ≡ true
leaves_kept fan [] = refl
leaves_kept fan (t ∷ ts) = leaves_kept fan ts

pub fan_is_kept : FanIsKept
unfolding of_fan
fan_is_kept n fan h k =
    let l = length-map-range_with_len leaf_server 0 n in
    grown_kept n fan (map leaf_server (range_with_len 0 n)) k (omega (arith, l)) (leaves_kept fan (range_with_len 0 n))
