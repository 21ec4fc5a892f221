-- Piles of groups: two of them one behind the other, the last two of one merged, and any order.
use Rattle.std.specs.Prelude.{◌≡◌, ◌≤◌, ◌^◌, ℕ, ◌+◌, List, [], ◌∷◌, ◌++◌, take, drop, true, ◌&&◌}
use Rattle.std.specs.List.{fold, list_all}
use Rattle.std.proofs.Common.{refl, sym, ap, ap₂, ◌∙◌, subst, arith, append_assoc}
use Rattle.std.proofs.lemmas.Bool.{and_parts}
use Rattle.std.proofs.lemmas.List.{map-append, take-append-drop}
use Rattle.std.proofs.lemmas.List.Folds.{list_all-append}
use Rattle.std.proofs.lemmas.List.Sums.{fold-append}
use Rattle.dr_meaning.specs.Schema.{Fields}
use Rattle.dr_meaning.specs.Query.{Query, Selection, objects, groups}
use Rattle.dr_partials.specs.Partials as meant
use Rattle.dr_partials.specs.Partials.{merge, merge_groups, empty_partial}
use Rattle.dr_partials.specs.PartialTypes.{is_partial}
use Rattle.dr_partials.specs.PartialBounds.{GroupsCanBeOf}
use Rattle.dr_partials.proofs.BoundsLemmas.{bounds_add_up}
use Rattle.dr_partials.proofs.PartialTypeLemmas.{merge_is_associative, empty_merges_to_same, empty_is_partial, merged_is_partial}
use Rattle.dr_plan.specs.Planned.{Planned, planned_query}
use Rattle.dr_group.specs.Maps.{groups_view, gatherings_view}
use Rattle.dr_group.specs.Partials.{partial_view, GathersFor, IsPartialOf}
use Rattle.dr_group.specs.declared.group_map.GroupMap.{GroupMap}
use Rattle.dr_group.specs.declared.partial.Partial.{Partial}
use Rattle.dr_tree.specs.Piles.{partial_of_groups, piled, IsPile, CanMerge, StaysPile}
use Rattle.dr_tree.specs.Together.{CanBeTogether, AreBounded, AreOfPlan, IsBounded, partials_view}
use Rattle.dr_tree.proofs.GatheringLemmas.{partial_more, of_plan_parts, are_bounded_parts}
use Rattle.dr_tree.proofs.MergedLemmas.{commute, folded_is_partial}

-- ---- partials behind others

of_plan_append : (p : Planned) (ps qs : List Partial) → AreOfPlan p ps → AreOfPlan p qs → AreOfPlan p (ps ++ qs)
of_plan_append p [] qs h k = k
of_plan_append p (x ∷ ps) qs h k = (h.0, of_plan_append p ps qs h.1 k)

together_more : (m n : ℕ) (ps : List meant.Partial) → m ≤ n → CanBeTogether m ps → CanBeTogether n ps
together_more m n [] le h = tt
together_more m n (p ∷ ps) le h = let l = h.2 in (h.0, h.1, omega (arith, l, le), h.3, h.4)

together_append : (m k n : ℕ) (ps qs : List meant.Partial) → CanBeTogether m ps → CanBeTogether k qs → m + k ≤ n → CanBeTogether n (ps ++ qs)
together_append m k n [] qs h b le = together_more k n qs (omega (arith, le)) b
together_append m k n (p ∷ ps) qs h b le =
    let l = h.2 in (h.0, h.1 + k, omega (arith, l, le), h.3, together_append h.1 k (h.1 + k) ps qs h.4 b (omega arith))

one_bounded : (fs : Fields) (q : Query) (n : ℕ) (r : Partial) → AreBounded fs q n (partials_view (r ∷ [])) → IsBounded fs q n (partial_view r)
one_bounded fs q n r h = ((and_parts _ _ h.partials).0, let b = h.bounded in partial_more b.0 n (let le = b.2 in omega (arith, le)) (partial_view r) b.3)

-- what comes first may be merged last
merged_behind : (fs : Fields) (q : Query) (p r : meant.Partial) (xs : List meant.Partial) → is_partial fs q p ≡ true → is_partial fs q r ≡ true → list_all (is_partial fs q) xs ≡ true
    → fold merge (merge p r) xs ≡ merge p (fold merge r xs)
merged_behind fs q p r [] h k l = refl
merged_behind fs q p r (x ∷ xs) h k l =
    let a = and_parts _ _ l in
    ap (λ (s : meant.Partial). fold merge s xs) (merge_is_associative fs q p r x h k a.0) ∙ merged_behind fs q p (merge r x) xs h (merged_is_partial fs q r x k a.0) a.1

-- of two lists each may be merged alone
fold_apart : (fs : Fields) (q : Query) (xs ys : List meant.Partial) → list_all (is_partial fs q) xs ≡ true → list_all (is_partial fs q) ys ≡ true
    → fold merge (empty_partial q) (xs ++ ys) ≡ merge (fold merge (empty_partial q) xs) (fold merge (empty_partial q) ys)
fold_apart fs q xs ys h k =
    let e = empty_partial q in
    let f = fold merge e xs in
    let is = folded_is_partial fs q e xs (empty_is_partial fs q) h in
    fold-append merge e xs ys
    ∙ (ap (λ (p : meant.Partial). fold merge p ys) (sym (empty_merges_to_same fs q f is).1) ∙ merged_behind fs q f e ys is (empty_is_partial fs q) k)

-- ---- two piles, one behind the other

views_append : (ms ns : List GroupMap) → partials_view (piled (ms ++ ns)) ≡ partials_view (piled ms) ++ partials_view (piled ns)
views_append ms ns = ap partials_view (map-append partial_of_groups ms ns) ∙ map-append partial_view (piled ms) (piled ns)

-- all of a pile, merged
abbrev all_of : Planned → List GroupMap → meant.Partial
all_of plan ms = fold merge (empty_partial (planned_query plan)) (partials_view (piled ms))

pile_more : (plan : Planned) (fs : Fields) (m n : ℕ) (all : meant.Partial) (ms : List GroupMap) → m ≤ n → IsPile plan fs m all ms → IsPile plan fs n all ms
pile_more plan fs m n all ms le h =
    record { of_plan = h.of_plan; bounds = record { partials = h.bounds.partials; bounded = together_more m n (partials_view (piled ms)) le h.bounds.bounded }; merged = h.merged }

module _ (plan : Planned) (fs : Fields) where
  -- both are piles, of so many values together
  abbrev Both : ℕ → meant.Partial → List GroupMap → List GroupMap → Type 0
  Both n all ms ns = (m : ℕ) × (k : ℕ) × (m + k ≤ n) × IsPile plan fs m (all_of plan ms) ms × IsPile plan fs k (all_of plan ns) ns × (merge (all_of plan ms) (all_of plan ns) ≡ all)

  pile_parts : (n : ℕ) (all : meant.Partial) (ms ns : List GroupMap) → IsPile plan fs n all (ms ++ ns) → Both n all ms ns
  pile_parts n all ms ns h =
      let q = planned_query plan in
      let cut : piled (ms ++ ns) ≡ piled ms ++ piled ns = map-append partial_of_groups ms ns in
      let o = of_plan_parts plan (piled ms) (piled ns) (subst (AreOfPlan plan) cut h.of_plan) in
      let b = are_bounded_parts fs q n (piled ms) (piled ns) (subst (λ ps. AreBounded fs q n (partials_view ps)) cut h.bounds) in
      let e = fold_apart fs q (partials_view (piled ms)) (partials_view (piled ns)) b.3.partials b.4.partials in (
        b.0,
        b.1,
        b.2,
        record { of_plan = o.0; bounds = b.3; merged = refl },
        record { of_plan = o.1; bounds = b.4; merged = refl },
        sym e ∙ (ap (fold merge (empty_partial q)) (sym (views_append ms ns)) ∙ h.merged),
      )

  pub pile_append : (m k n : ℕ) (a b : meant.Partial) (ms ns : List GroupMap) → m + k ≤ n → IsPile plan fs m a ms → IsPile plan fs k b ns → IsPile plan fs n (merge a b) (ms ++ ns)
  pile_append m k n a b ms ns le h g =
      let q = planned_query plan in
      record {
        of_plan = subst (AreOfPlan plan) (sym (map-append partial_of_groups ms ns)) (of_plan_append plan (piled ms) (piled ns) h.of_plan g.of_plan);
        bounds = subst (AreBounded fs q n) (sym (views_append ms ns)) (record {
          partials = list_all-append (is_partial fs q) (partials_view (piled ms)) (partials_view (piled ns)) ∙ ap₂ (λ x y. x && y) h.bounds.partials g.bounds.partials;
          bounded = together_append m k n (partials_view (piled ms)) (partials_view (piled ns)) h.bounds.bounded g.bounds.bounded le;
        });
        merged = ap (fold merge (empty_partial q)) (views_append ms ns)
            ∙ (fold_apart fs q (partials_view (piled ms)) (partials_view (piled ns)) h.bounds.partials g.bounds.partials ∙ ap₂ merge h.merged g.merged);
      }

  -- nothing is a pile of no records
  pub pile_of_none : (n : ℕ) → IsPile plan fs n (empty_partial (planned_query plan)) []
  pile_of_none n = record { of_plan = tt; bounds = record { partials = refl; bounded = tt }; merged = refl }

  pub pile_of_one : (n : ℕ) (m : GroupMap) → IsPartialOf plan (partial_of_groups m) → IsBounded fs (planned_query plan) n (partial_view (partial_of_groups m)) → IsPile plan fs n (partial_view (partial_of_groups m)) (m ∷ [])
  pile_of_one n m o b = record {
    of_plan = (o, tt);
    bounds = record { partials = ap (λ x. x && true) b.0; bounded = (n, 0, omega arith, b.1, tt) };
    merged = (empty_merges_to_same fs (planned_query plan) (partial_view (partial_of_groups m)) b.0).0;
  }

  pub one_of_pile : (n : ℕ) (all : meant.Partial) (m : GroupMap) → IsPile plan fs n all (m ∷ []) → IsPartialOf plan (partial_of_groups m) × IsBounded fs (planned_query plan) n (partial_view (partial_of_groups m))
  one_of_pile n all m h = (h.of_plan.0, one_bounded fs (planned_query plan) n (partial_of_groups m) h.bounds)

  -- alone, groups are what all of them are
  pub pile_alone : (n : ℕ) (all : meant.Partial) (m : GroupMap) → IsPile plan fs n all (m ∷ []) → partial_view (partial_of_groups m) ≡ all
  pile_alone n all m h = sym (empty_merges_to_same fs (planned_query plan) (partial_view (partial_of_groups m)) (one_of_pile n all m h).1.0).0 ∙ h.merged

-- ---- piles that stay what they are

pub stays_same : (ms : List GroupMap) → StaysPile ms ms
stays_same ms = λ plan fs n all h. h

pub stays_then : {ms ns os : List GroupMap} → StaysPile ms ns → StaysPile ns os → StaysPile ms os
stays_then x y = λ plan fs n all h. y plan fs n all (x plan fs n all h)

pub stays_by : {ms ns : List GroupMap} → ms ≡ ns → StaysPile ms ns
stays_by e = λ plan fs n all h. subst (IsPile plan fs n all) e h

pub stays_both : (ms ns os us : List GroupMap) → StaysPile ms os → StaysPile ns us → StaysPile (ms ++ ns) (os ++ us)
stays_both ms ns os us x y = λ plan fs n all h.
    let c = pile_parts plan fs n all ms ns h in
    subst (λ (p : meant.Partial). IsPile plan fs n p (os ++ us)) c.5
    (pile_append plan fs c.0 c.1 n (all_of plan ms) (all_of plan ns) os us c.2 (x plan fs c.0 (all_of plan ms) c.3) (y plan fs c.1 (all_of plan ns) c.4))

-- those behind others may come first
pub stays_moved : (ns : List GroupMap) (r : GroupMap) → StaysPile (ns ++ r ∷ []) (r ∷ ns)
stays_moved ns r = λ plan fs n all h.
    let q = planned_query plan in
    let c = pile_parts plan fs n all ns (r ∷ []) h in
    let le = c.2 in
    let one = pile_alone plan fs c.1 (all_of plan (r ∷ [])) r c.4 in
    let is = (one_of_pile plan fs c.1 (all_of plan (r ∷ [])) r c.4).1.0 in
    let are = folded_is_partial fs q (empty_partial q) (partials_view (piled ns)) (empty_is_partial fs q) c.3.bounds.partials in
    let swapped : merge (all_of plan (r ∷ [])) (all_of plan ns) ≡ all =
    ap (λ (p : meant.Partial). merge p (all_of plan ns)) (sym one) ∙ (commute fs q (groups_view r) (all_of plan ns) is are ∙ (ap (merge (all_of plan ns)) one ∙ c.5)) in
    subst (λ (p : meant.Partial). IsPile plan fs n p (r ∷ ns)) swapped
    (pile_append plan fs c.1 c.0 n (all_of plan (r ∷ [])) (all_of plan ns) (r ∷ []) ns (omega (arith, le)) c.4 c.3)

pub still_merges : {ms ns : List GroupMap} → StaysPile ms ns → CanMerge ms → CanMerge ns
still_merges k h = (h.0, h.1, h.2, k h.0 h.1 (2 ^ 60) h.2 h.3)

pub can_merge_parts : (ms ns : List GroupMap) → CanMerge (ms ++ ns) → CanMerge ms × CanMerge ns
can_merge_parts ms ns h =
    let c = pile_parts h.0 h.1 (2 ^ 60) h.2 ms ns h.3 in
    let le = c.2 in (
      (h.0, h.1, all_of h.0 ms, pile_more h.0 h.1 c.0 (2 ^ 60) (all_of h.0 ms) ms (omega (arith, le)) c.3),
      (h.0, h.1, all_of h.0 ns, pile_more h.0 h.1 c.1 (2 ^ 60) (all_of h.0 ns) ns (omega (arith, le)) c.4),
    )

-- ---- the last two

gathers_still : (s : Selection) (b c : GroupMap) → gatherings_view c ≡ gatherings_view b → GathersFor s b → GathersFor s c
gathers_still (objects items) b c e h = h
gathers_still (groups keys items) b c e h = h ∙ sym e

groups_merged : (b m c : GroupMap) → groups_view c ≡ merge_groups (groups_view b) (groups_view m) → partial_view (partial_of_groups c) ≡ merge (partial_view (partial_of_groups b)) (partial_view (partial_of_groups m))
unfolding merge
groups_merged b m c e = ap meant.grouped e

-- one with the same groups
one_stays : (b c : GroupMap) → groups_view c ≡ groups_view b → gatherings_view c ≡ gatherings_view b → StaysPile (b ∷ []) (c ∷ [])
one_stays b c e f = λ plan fs n all h.
    let same : partial_view (partial_of_groups c) ≡ partial_view (partial_of_groups b) = ap meant.grouped e in
    let o = one_of_pile plan fs n all b h in
    subst (λ (p : meant.Partial). IsPile plan fs n p (c ∷ [])) (same ∙ pile_alone plan fs n all b h)
    (pile_of_one plan fs n c (gathers_still plan.selection b c f o.0) (subst (IsBounded fs (planned_query plan) n) (sym same) o.1))

-- two, and what they are merged to
pub two_stay : (b m c : GroupMap) → groups_view c ≡ merge_groups (groups_view b) (groups_view m) → gatherings_view c ≡ gatherings_view b → StaysPile (b ∷ m ∷ []) (c ∷ [])
two_stay b m c e f = λ plan fs n all h.
    let q = planned_query plan in
    let same = groups_merged b m c e in
    let k = pile_parts plan fs n all (b ∷ []) (m ∷ []) h in
    let x = one_of_pile plan fs k.0 (all_of plan (b ∷ [])) b k.3 in
    let y = one_of_pile plan fs k.1 (all_of plan (m ∷ [])) m k.4 in
    let bounds : IsBounded fs q (k.0 + k.1) (partial_view (partial_of_groups c)) = subst (IsBounded fs q (k.0 + k.1)) (sym same) (
      merged_is_partial fs q (partial_view (partial_of_groups b)) (partial_view (partial_of_groups m)) x.1.0 y.1.0,
      bounds_add_up fs q k.0 k.1 (partial_view (partial_of_groups b)) (partial_view (partial_of_groups m)) x.1.0 y.1.0 x.1.1 y.1.1,
    ) in
    let all_is : partial_view (partial_of_groups c) ≡ all =
    same ∙ (ap₂ merge (pile_alone plan fs k.0 (all_of plan (b ∷ [])) b k.3) (pile_alone plan fs k.1 (all_of plan (m ∷ [])) m k.4) ∙ k.5) in
    subst (λ (p : meant.Partial). IsPile plan fs n p (c ∷ [])) all_is
    (pile_more plan fs (k.0 + k.1) n (partial_view (partial_of_groups c)) (c ∷ []) k.2 (pile_of_one plan fs (k.0 + k.1) c (gathers_still plan.selection b c f x.0) bounds))

pub two_can_be : (b m : GroupMap) → CanMerge (b ∷ m ∷ []) → GroupsCanBeOf (2 ^ 60) (groups_view b) × GroupsCanBeOf (2 ^ 60) (groups_view m)
two_can_be b m h =
    let c = can_merge_parts (b ∷ []) (m ∷ []) h in ((one_of_pile c.0.0 c.0.1 (2 ^ 60) c.0.2 b c.0.3).1.1, (one_of_pile c.1.0 c.1.1 (2 ^ 60) c.1.2 m c.1.3).1.1)

module _ (ms rest front : List GroupMap) (b m : GroupMap) (e : ms ≡ rest ++ m ∷ []) (f : rest ≡ front ++ b ∷ []) where
  both : ms ≡ (front ++ b ∷ []) ++ m ∷ []
  both = e ∙ ap (λ xs. xs ++ m ∷ []) f

  apart : ms ≡ front ++ (b ∷ m ∷ [])
  apart = both ∙ append_assoc front (b ∷ []) (m ∷ [])

  -- the last two are small enough to be merged
  pub pair_can_be : CanMerge ms → GroupsCanBeOf (2 ^ 60) (groups_view b) × GroupsCanBeOf (2 ^ 60) (groups_view m)
  pair_can_be h = two_can_be b m (can_merge_parts front (b ∷ m ∷ []) (subst CanMerge apart h)).1

  -- the last two are merged
  pub pair_merged : (c : GroupMap) → groups_view c ≡ merge_groups (groups_view b) (groups_view m) → gatherings_view c ≡ gatherings_view b → StaysPile ms (front ++ c ∷ [])
  pair_merged c g h = stays_then (stays_by apart) (stays_both front (b ∷ m ∷ []) front (c ∷ []) (stays_same front) (two_stay b m c g h))

  -- the last but one has the same groups as before
  pub pair_same : (c : GroupMap) → groups_view c ≡ groups_view b → gatherings_view c ≡ gatherings_view b → StaysPile ms ((front ++ c ∷ []) ++ m ∷ [])
  pair_same c g h =
      stays_then (stays_by both) (stays_both (front ++ b ∷ []) (m ∷ []) (front ++ c ∷ []) (m ∷ [])
      (stays_both front (b ∷ []) front (c ∷ []) (stays_same front) (one_stays b c g h)) (stays_same (m ∷ [])))

-- ---- halves of a pile

-- what was cut, together again
pub together_again : (all cut front behind : List GroupMap) (middle last : GroupMap) (at : ℕ) → cut ≡ front ++ middle ∷ [] → cut ≡ take at all → behind ≡ drop at all
    → (front ++ middle ∷ []) ++ (behind ++ last ∷ []) ≡ all ++ last ∷ []
together_again all cut front behind middle last at e f h =
    sym (append_assoc (front ++ middle ∷ []) behind (last ∷ []))
    ∙ ap (λ xs. xs ++ last ∷ []) (ap (λ xs. xs ++ behind) (sym e ∙ f) ∙ (ap (λ ys. take at all ++ ys) h ∙ take-append-drop at all))

-- what both halves are merged to, merged
pub halves_stay : (ms ns : List GroupMap) (a b c : GroupMap) → StaysPile ms (a ∷ []) → StaysPile ns (b ∷ []) → StaysPile (a ∷ b ∷ []) (c ∷ []) → StaysPile (ms ++ ns) (c ∷ [])
halves_stay ms ns a b c x y z = stays_then (stays_both ms ns (a ∷ []) (b ∷ []) x y) z
