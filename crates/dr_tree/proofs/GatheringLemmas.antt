-- What is gathered of partials: of two lists of them, from what is gathered of each.
use Rattle.std.specs.Prelude.{◌≡◌, ◌≤◌, ℕ, ◌+◌, ◌^◌, ◌++◌, List, [], ◌∷◌, map, length, drop, get_or, Some, None}
use Rattle.std.specs.List.{list_all}
use Rattle.std.proofs.Common.{refl, sym, ap, ap₂, ◌∙◌, subst, arith, length-append}
use Rattle.std.proofs.lemmas.Bool.{and_parts}
use Rattle.std.proofs.lemmas.List.{length-map, map-append}
use Rattle.std.proofs.lemmas.List.Folds.{list_all-append}
use Rattle.dr_meaning.specs.Schema.{Fields}
use Rattle.dr_meaning.specs.Query.{Query}
use Rattle.dr_partials.specs.Accumulators.{Accumulator, counted, summed, least_of, greatest_of}
use Rattle.dr_partials.specs.Partials as meant
use Rattle.dr_partials.specs.PartialTypes.{is_partial}
use Rattle.dr_partials.specs.PartialBounds.{CanBeOf, AllCanBeOf, GroupsCanBeOf, PartialCanBeOf}
use Rattle.dr_partials.proofs.BoundsLemmas.{bounds_add_up}
use Rattle.dr_partials.proofs.PartialTypeLemmas.{merged_is_partial}
use Rattle.dr_plan.specs.Planned.{Planned}
use Rattle.dr_group.specs.Partials.{partial_view, AreAlike, IsPartialOf}
use Rattle.dr_group.specs.declared.partial.Partial.{Partial}
use Rattle.dr_group.proofs.PartialLemmas.{alike}
use Rattle.dr_partials.specs.Trees.{Tree, gathered, gathered_behind, tablets_of, tablets_of_all}
use Rattle.dr_tree.specs.Views.{tree_view, trees_view}
use Rattle.dr_tree.specs.declared.tree.Tree as code
use Rattle.dr_tree.specs.declared.tree.Tree.TheVariants as variants
use Rattle.dr_tree.proofs.ViewLemmas.{view-leaf, tablets_apart, gathered_apart}
use Rattle.dr_tree.specs.Together.{CanBeTogether, AreBounded, AreOfPlan, IsBounded, IsGathered, IsMerged, Together, partials_view}

-- ---- a greater bound

accumulator_more : (m n : ℕ) → m ≤ n → (x : Accumulator) → CanBeOf m x → CanBeOf n x
accumulator_more m n h (counted k) b = omega (arith, h, b)
accumulator_more m n h (summed None) b = tt
accumulator_more m n h (summed (Some z)) b = omega (arith, h, b)
accumulator_more m n h (least_of v) b = tt
accumulator_more m n h (greatest_of v) b = tt

all_more : (m n : ℕ) → m ≤ n → (xs : List Accumulator) → AllCanBeOf m xs → AllCanBeOf n xs
all_more m n h [] b = tt
all_more m n h (x ∷ xs) b = (accumulator_more m n h x b.0, all_more m n h xs b.1)

groups_more : (m n : ℕ) → m ≤ n → (gs : List meant.Group) → GroupsCanBeOf m gs → GroupsCanBeOf n gs
groups_more m n h [] b = tt
groups_more m n h (g ∷ gs) b = (all_more m n h g.accumulators b.0, groups_more m n h gs b.1)

pub partial_more : (m n : ℕ) → m ≤ n → (p : meant.Partial) → PartialCanBeOf m p → PartialCanBeOf n p
partial_more m n h (meant.lines os) b = tt
partial_more m n h (meant.grouped gs) b = groups_more m n h gs b

-- ---- two lists of partials

pub of_plan_parts : (p : Planned) (ps qs : List Partial) → AreOfPlan p (ps ++ qs) → AreOfPlan p ps × AreOfPlan p qs
of_plan_parts p [] qs h = (tt, h)
of_plan_parts p (r ∷ ps) qs h = let k = of_plan_parts p ps qs h.1 in ((h.0, k.0), k.1)

bounded_parts : (n : ℕ) (ps qs : List meant.Partial) → CanBeTogether n (ps ++ qs) → (m : ℕ) × (k : ℕ) × (m + k ≤ n) × CanBeTogether m ps × CanBeTogether k qs
bounded_parts n [] qs h = (0, n, omega arith, tt, h)
bounded_parts n (r ∷ ps) qs h =
    let k = bounded_parts h.1 ps qs h.4 in
    (h.0 + k.0, k.1, omega (arith, h.2, k.2), (h.0, k.0, omega arith, h.3, k.3), k.4)

-- of two lists that can be of so many values together, each can be of a part of these
abbrev Parts : Fields → Query → ℕ → List Partial → List Partial → Type 0
Parts fs q n ps qs = (m : ℕ) × (k : ℕ) × (m + k ≤ n) × AreBounded fs q m (partials_view ps) × AreBounded fs q k (partials_view qs)

pub are_bounded_parts : (fs : Fields) (q : Query) (n : ℕ) (ps qs : List Partial) → AreBounded fs q n (partials_view (ps ++ qs)) → Parts fs q n ps qs
are_bounded_parts fs q n ps qs h =
    let e : partials_view (ps ++ qs) ≡ partials_view ps ++ partials_view qs = map-append partial_view ps qs in
    let all = and_parts _ _ (sym (list_all-append (is_partial fs q) (partials_view ps) (partials_view qs)) ∙ sym (ap (list_all (is_partial fs q)) e) ∙ h.partials) in
    let bound = bounded_parts n (partials_view ps) (partials_view qs) (subst (CanBeTogether n) e h.bounded) in
    (bound.0, bound.1, bound.2, record { partials = all.0; bounded = bound.3 }, record { partials = all.1; bounded = bound.4 })

-- those of one list go together where both do
pub first_together : (ps qs : List Partial) → Together (ps ++ qs) → Together ps
first_together ps qs h =
    let parts = are_bounded_parts h.fields h.query h.most ps qs h.bounds in
    record {
      plan = h.plan;
      of_plan = (of_plan_parts h.plan ps qs h.of_plan).0;
      fields = h.fields;
      query = h.query;
      most = parts.0;
      bounds = parts.3;
      room = let r = h.room in omega (arith, r, parts.2);
    }

pub second_together : (ps qs : List Partial) → Together (ps ++ qs) → Together qs
second_together ps qs h =
    let parts = are_bounded_parts h.fields h.query h.most ps qs h.bounds in
    record {
      plan = h.plan;
      of_plan = (of_plan_parts h.plan ps qs h.of_plan).1;
      fields = h.fields;
      query = h.query;
      most = parts.1;
      bounds = parts.4;
      room = let r = h.room in omega (arith, r, parts.2);
    }

-- ---- what is gathered of each

-- they are of one plan, and small enough to be merged
pub gathered_alike : {ts us : List ℕ} {f g : (ℕ → meant.Partial) → meant.Partial} (ps qs : List Partial) (a b : Partial) → Together (ps ++ qs) → IsGathered ts f ps a → IsGathered us g qs b
    → AreAlike a b
gathered_alike ps qs a b h x y = let k = of_plan_parts h.plan ps qs h.of_plan in alike h.plan a b (x.of_plan h.plan k.0) (y.of_plan h.plan k.1)

pub gathered_room : {ts : List ℕ} {f : (ℕ → meant.Partial) → meant.Partial} (ps : List Partial) (a : Partial) → Together ps → IsGathered ts f ps a → PartialCanBeOf (2 ^ 60) (partial_view a)
gathered_room ps a h x = partial_more h.most (2 ^ 60) h.room (partial_view a) (x.bounded h.fields h.query h.most h.bounds).1

-- a list of the same length is cut at the same place
same_parts : {A : Type 0} (ws bs cs ds : List A) → length ws ≡ length cs → ws ++ bs ≡ cs ++ ds → (ws ≡ cs) × (bs ≡ ds)
same_parts [] bs [] ds e h = (refl, h)
same_parts [] bs (c ∷ cs) ds e h = absurd (omega (arith, e))
same_parts (a ∷ ws) bs [] ds e h = absurd (omega (arith, e))
same_parts (a ∷ ws) bs (c ∷ cs) ds e h =
    let k = same_parts ws bs cs ds (omega (arith, e)) (ap (drop 1) h) in (ap₂ (λ x xs. x ∷ xs) (ap (λ zs. get_or zs 0 a) h) k.0, k.1)

-- merged, what is gathered of each is what is gathered of both
pub merged_gathered : (ts us : List ℕ) (f g : (ℕ → meant.Partial) → meant.Partial) (ps qs : List Partial) (a b r : Partial) → length ps ≡ length ts
    → IsGathered ts f ps a → IsGathered us g qs b → IsMerged a b r → IsGathered (ts ++ us) (λ piece. meant.merge (f piece) (g piece)) (ps ++ qs) r
merged_gathered ts us f g ps qs a b r l x y m = record { gathered = gathers; of_plan = of_one; bounded = bound }
  where
    gathers : (piece : ℕ → meant.Partial) → map piece (ts ++ us) ≡ partials_view (ps ++ qs) → partial_view r ≡ meant.merge (f piece) (g piece)
    gathers piece h =
        let same = same_parts (map piece ts) (map piece us) (partials_view ps) (partials_view qs) (length-map ts piece ∙ (sym l ∙ sym (length-map ps partial_view)))
        (sym (map-append piece ts us) ∙ (h ∙ map-append partial_view ps qs)) in
        m.partial ∙ ap₂ meant.merge (x.gathered piece same.0) (y.gathered piece same.1)

    of_one : (p : Planned) → AreOfPlan p (ps ++ qs) → IsPartialOf p r
    of_one p h = m.of_plan p (x.of_plan p (of_plan_parts p ps qs h).0)

    bound : (fs : Fields) (q : Query) (n : ℕ) → AreBounded fs q n (partials_view (ps ++ qs)) → IsBounded fs q n (partial_view r)
    bound fs q n h =
        let parts = are_bounded_parts fs q n ps qs h in
        let c = x.bounded fs q parts.0 parts.3 in
        let d = y.bounded fs q parts.1 parts.4 in
        subst (IsBounded fs q n) (sym m.partial) (
          merged_is_partial fs q (partial_view a) (partial_view b) c.0 d.0,
          partial_more (parts.0 + parts.1) n parts.2 (meant.merge (partial_view a) (partial_view b))
              (bounds_add_up fs q parts.0 parts.1 (partial_view a) (partial_view b) c.0 d.0 c.1 d.1),
        )

-- of one alone it is that one
only_gathered : (t : ℕ) (a : Partial) → IsGathered (t ∷ []) (λ piece. piece t) (a ∷ []) a
only_gathered t a = record {
  gathered = λ piece h. sym (ap (λ zs. get_or zs 0 (piece t)) h);
  of_plan = λ p h. h.0;
  bounded = λ fs q m h. ((and_parts _ _ h.partials).0, let b = h.bounded in partial_more b.0 m (let le = b.2 in omega (arith, le)) (partial_view a) b.3);
}

one_gathered : (t : ℕ) (ps : List Partial) (a : Partial) → ps ≡ a ∷ [] → IsGathered (t ∷ []) (λ piece. piece t) ps a
one_gathered t ps a e = subst (λ (qs : List Partial). IsGathered (t ∷ []) (λ piece. piece t) qs a) (sym e) (only_gathered t a)

-- the last of a list of one is the only one
pub the_only : (t : ℕ) (ps rest : List Partial) (a : Partial) → length ps ≡ 1 → ps ≡ rest ++ a ∷ [] → IsGathered (t ∷ []) (λ piece. piece t) ps a
the_only t ps [] a l e = one_gathered t ps a e
the_only t ps (r ∷ rest) a l e = absurd (let n = ap length e in let m = length-append rest (a ∷ []) in omega (arith, l, n, m))

-- of a leaf server it is the tablet's own
pub leaf_gathered : (t : ℕ) (tree : code.Tree) (ps : List Partial) (r : Partial) → tree ≡ variants.Leaf t → IsGathered (t ∷ []) (λ piece. piece t) ps r
    → IsGathered (tablets_of (tree_view tree)) (λ piece. gathered piece (tree_view tree)) ps r
leaf_gathered t tree ps r e h = subst (λ (v : Tree). IsGathered (tablets_of v) (λ piece. gathered piece v) ps r) (sym (ap tree_view e ∙ view-leaf t)) h

-- what is gathered of the children of a server, with the last apart, is what they gather
pub gathered_children : (first : List ℕ) (p : (ℕ → meant.Partial) → meant.Partial) (rest front : List code.Tree) (last : code.Tree) (ps qs all : List Partial) (r : Partial)
    → rest ≡ front ++ last ∷ [] → ps ++ qs ≡ all
    → IsGathered ((first ++ tablets_of_all (trees_view front)) ++ tablets_of (tree_view last)) (λ piece. meant.merge (gathered_behind piece (p piece) (trees_view front)) (gathered piece (tree_view last))) (ps ++ qs) r
    → IsGathered (first ++ tablets_of_all (trees_view rest)) (λ piece. gathered_behind piece (p piece) (trees_view rest)) all r
gathered_children first p rest front last ps qs all r e f h = record {
  gathered = λ piece k. h.gathered piece (ap (map piece) (sym (tablets_apart first rest front last e)) ∙ (k ∙ ap partials_view (sym f))) ∙ sym (gathered_apart piece (p piece) rest front last e);
  of_plan = λ q k. h.of_plan q (subst (AreOfPlan q) (sym f) k);
  bounded = λ fs q m k. h.bounded fs q m (subst (λ xs. AreBounded fs q m (partials_view xs)) (sym f) k);
}
