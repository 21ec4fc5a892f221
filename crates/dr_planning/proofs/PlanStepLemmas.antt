-- One more item, and one more number, of a plan.
use Rattle.std.proofs.Common.{◌≡◌, ℕ, suc, ◌+◌, ◌<◌, ◌^◌, List, [], ◌∷◌, ◌++◌, map, length, get_or, take, Bool, true, false, ◌&&◌, nat_lt, Option, Some, None, refl, sym, ap, ap₂, ◌∙◌, subst, append-nil, add-zero, arith}
use Rattle.std.specs.Prelude.{String}
use Rattle.std.specs.declared.alloc.Global.{Global}
use Rattle.std.specs.List.{list_all, filter_map, cons_option, slice_get}
use Rattle.std.proofs.lemmas.List.{map_push, take_more}
use Rattle.std.proofs.lemmas.List.Elements.{filter_map-append}
use Rattle.std.proofs.lemmas.List.Folds.{list_all-append}
use Rattle.std.proofs.lemmas.Option.{slice_get_within}
use Rattle.std.proofs.lemmas.Bool.{lt-ltb}
use Rattle.dr_meaning.specs.Path.{Step as MeantStep, Leaf}
use Rattle.dr_meaning.specs.BoundExpression as meant
use Rattle.dr_nested.specs.PathView.{step_view}
use Rattle.dr_plan.specs.Views.{path_of}
use Rattle.dr_plan.specs.declared.aggregate.Aggregate.{Aggregate}
use Rattle.dr_plan.specs.declared.plan.RecordItem.{RecordItem}
use Rattle.dr_plan.specs.declared.plan.GroupTerm.{GroupTerm}
use Rattle.dr_plan.specs.declared.plan.GroupItem.{GroupItem}
use Rattle.dr_paths.specs.declared.bound.BoundPath.{BoundPath}
use Rattle.dr_paths.specs.Views.{bound_path_view}
use Rattle.dr_paths.specs.Numbers.{number_among}
use Rattle.dr_resolve.specs.declared.bound.BoundItem.{BoundItem}
use Rattle.dr_planning.specs.declared.groups.Grouped.{Grouped}
use Rattle.dr_resolve.specs.Bound.{IsAmong}
use Rattle.dr_planning.specs.Planning.{record_item_of}
use Rattle.dr_planning.specs.Planning.{grouped_of, with_aggregate, aggregates_of, with_group_item, group_items_of, AreNumbers}
use Rattle.dr_resolve.proofs.BoundLemmas.{covers_parts}

-- ---- loops that make items

-- one more item is made, or passed over
pub made_more : (xs : List BoundItem) (x : BoundItem) (t : RecordItem) (ts : List RecordItem) → ts ≡ filter_map record_item_of xs → Some t ≡ record_item_of x → ts ++ t ∷ [] ≡ filter_map record_item_of (xs ++ x ∷ [])
made_more xs x t ts h e = ap (λ (us : List RecordItem). us ++ t ∷ []) h
    ∙ (ap (λ (o : Option RecordItem). filter_map record_item_of xs ++ cons_option o []) e ∙ sym (filter_map-append record_item_of xs (x ∷ [])))

pub made_past : (xs : List BoundItem) (x : BoundItem) (ts : List RecordItem) → ts ≡ filter_map record_item_of xs → None ≡ record_item_of x → ts ≡ filter_map record_item_of (xs ++ x ∷ [])
made_past xs x ts h e = h
    ∙ (sym (append-nil (filter_map record_item_of xs)) ∙ (ap (λ (o : Option RecordItem). filter_map record_item_of xs ++ cons_option o []) e ∙ sym (filter_map-append record_item_of xs (x ∷ []))))

aggregate_first : (o : Option Grouped) (ags bs : List Aggregate) → with_aggregate o (ags ++ bs) ≡ with_aggregate o ags ++ bs
aggregate_first None ags bs = refl
aggregate_first (Some (Grouped.Key k)) ags bs = refl
aggregate_first (Some (Grouped.Aggregate a)) ags bs = refl

pub aggregates-push : (keys : List BoundPath) (xs : List BoundItem) (x : BoundItem) → aggregates_of keys (xs ++ x ∷ []) ≡ aggregates_of keys xs ++ with_aggregate (grouped_of keys x.term) []
aggregates-push keys [] x = refl
aggregates-push keys (y ∷ xs) x = ap (with_aggregate (grouped_of keys y.term)) (aggregates-push keys xs x) ∙ aggregate_first (grouped_of keys y.term) (aggregates_of keys xs) (with_aggregate (grouped_of keys x.term) [])

-- what the last item adds, where its aggregate would have this number
abbrev last_item : List BoundPath → BoundItem → ℕ → List GroupItem
last_item keys x n = with_group_item n x.name (grouped_of keys x.term) (λ _. [])

item_first : (keys : List BoundPath) (xs : List BoundItem) (x : BoundItem) (name : String Global) (n : ℕ) (o : Option Grouped)
    → ((m : ℕ) → group_items_of keys m (xs ++ x ∷ []) ≡ group_items_of keys m xs ++ last_item keys x (m + length (aggregates_of keys xs)))
    → with_group_item n name o (λ m. group_items_of keys m (xs ++ x ∷ []))
    ≡ with_group_item n name o (λ m. group_items_of keys m xs) ++ last_item keys x (n + length (with_aggregate o (aggregates_of keys xs)))
item_first keys xs x name n None later = later n
item_first keys xs x name n (Some (Grouped.Key k)) later = ap (λ (is : List GroupItem). record { name = name; term = GroupTerm.Key k } ∷ is) (later n)
item_first keys xs x name n (Some (Grouped.Aggregate a)) later =
    let moved : suc n + length (aggregates_of keys xs) ≡ n + length (a ∷ aggregates_of keys xs) = omega arith in
    ap (λ (is : List GroupItem). record { name = name; term = GroupTerm.Aggregate n } ∷ is) (later (suc n) ∙ ap (λ (m : ℕ). group_items_of keys (suc n) xs ++ last_item keys x m) moved)

pub group_items-push : (keys : List BoundPath) (xs : List BoundItem) (x : BoundItem) (n : ℕ) → group_items_of keys n (xs ++ x ∷ []) ≡ group_items_of keys n xs ++ last_item keys x (n + length (aggregates_of keys xs))
group_items-push keys [] x n = alone (grouped_of keys x.term) ∙ ap (last_item keys x) (sym (add-zero n))
  where
    alone : (o : Option Grouped) → with_group_item n x.name o (λ m. group_items_of keys m []) ≡ with_group_item n x.name o (λ _. [])
    alone o = refl
group_items-push keys (y ∷ xs) x n = item_first keys xs x y.name n (grouped_of keys y.term) (group_items-push keys xs x)

-- one more item of an aggregate query
pub grouped_more : (keys : List BoundPath) (xs : List BoundItem) (x : BoundItem) (ags bs : List Aggregate) (is js : List GroupItem) (o : Option Grouped) → o ≡ grouped_of keys x.term
    → (ags ≡ aggregates_of keys xs) × (is ≡ group_items_of keys 0 xs) → bs ≡ ags ++ with_aggregate o [] → js ≡ is ++ with_group_item (length ags) x.name o (λ _. [])
    → (bs ≡ aggregates_of keys (xs ++ x ∷ [])) × (js ≡ group_items_of keys 0 (xs ++ x ∷ []))
grouped_more keys xs x ags bs is js o e h f g = (
  f ∙ (ap₂ (λ (cs : List Aggregate) (q : Option Grouped). cs ++ with_aggregate q []) h.0 e ∙ sym (aggregates-push keys xs x)),
  g ∙ (ap₂ (λ (ks : List GroupItem) (q : Option Grouped). ks ++ with_group_item (length ags) x.name q (λ _. [])) h.1 e
      ∙ (ap (λ (m : ℕ). group_items_of keys 0 xs ++ last_item keys x m) number ∙ sym (group_items-push keys xs x 0))),
)
  where
    number : length ags ≡ 0 + length (aggregates_of keys xs)
    number = ap length h.0 ∙ omega arith

-- ---- the numbers of leaves

pub both : (a b : Bool) → a ≡ true → b ≡ true → (a && b) ≡ true
both true true h k = refl
both true false h k = k
both false b h k = h

-- one more number
pub numbers_more : (ls : List Leaf) (ps : List meant.BoundPath) (p : meant.BoundPath) (ns : List ℕ) (n : ℕ) → ((i : ℕ) → number_among ls p.leaf.path ≡ Some i → i < 2 ^ 32 → n ≡ i)
    → AreNumbers ls ps ns → AreNumbers ls (ps ++ p ∷ []) (ns ++ n ∷ [])
numbers_more ls ps p ns n f h = λ z.
    let u = covers_parts ls ps (p ∷ []) z in
    let r : IsAmong ls p.leaf = u.1.0 in
    let k = h u.0 in
    let place : (slice_get ls n ≡ Some r.1) = ap (slice_get ls) (f r.0 r.2 r.3) ∙ r.4 in
    let path : path_of (slice_get ls n) ≡ p.leaf.path = ap path_of place ∙ r.5 in (
      map_push (λ (j : ℕ). path_of (slice_get ls j)) ns n ∙ (ap₂ (λ (qs : List (List MeantStep)) (q : List MeantStep). qs ++ q ∷ []) k.0 path ∙ sym (map_push (λ (q : meant.BoundPath). q.leaf.path) ps p)),
      list_all-append (λ (j : ℕ). nat_lt j (length ls)) ns (n ∷ [])
          ∙ both (list_all (λ (j : ℕ). nat_lt j (length ls)) ns) (nat_lt n (length ls) && true) k.1 (both (nat_lt n (length ls)) true (lt-ltb n (length ls) (slice_get_within ls n r.1 place)) refl),
    )

-- one more key
pub key_more : (ls : List Leaf) (keys : List BoundPath) (k : ℕ) (p : BoundPath) (ns ms : List ℕ) (n : ℕ) → k < length keys → p ≡ get_or keys k p
    → ((i : ℕ) → number_among ls (map step_view p.leaf.steps.items) ≡ Some i → i < 2 ^ 32 → n ≡ i) → ms ≡ ns ++ n ∷ []
    → AreNumbers ls (map bound_path_view (take k keys)) ns → AreNumbers ls (map bound_path_view (take (k + 1) keys)) ms
key_more ls keys k p ns ms n h e f g r =
    let next : take (k + 1) keys ≡ take k keys ++ p ∷ [] = take_more keys k p h ∙ ap (λ (q : BoundPath). take k keys ++ q ∷ []) (sym e) in
    let seen : map bound_path_view (take (k + 1) keys) ≡ map bound_path_view (take k keys) ++ bound_path_view p ∷ [] = ap (map bound_path_view) next ∙ map_push bound_path_view (take k keys) p in
    subst (λ (qs : List meant.BoundPath). AreNumbers ls qs ms) (sym seen)
    (subst (λ (js : List ℕ). AreNumbers ls (map bound_path_view (take k keys) ++ bound_path_view p ∷ []) js) (sym g) (numbers_more ls (map bound_path_view (take k keys)) (bound_path_view p) ns n f r))
