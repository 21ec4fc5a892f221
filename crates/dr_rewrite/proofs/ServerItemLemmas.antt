-- The items by which servers give keys and aggregates are those of the definitions, and fit a plan.
use Rattle.std.proofs.Common.{◌≡◌, ℕ, suc, ◌+◌, ◌≤◌, List, [], ◌∷◌, ◌++◌, map, length, drop, Bool, true, ◌&&◌, refl, sym, ap, ap₂, ◌∙◌, arith}
use Rattle.std.specs.Prelude.{nat_lt, Option}
use Rattle.std.specs.List.{list_all, filter_map, cons_option}
use Rattle.std.proofs.lemmas.Bool.{and_parts, lt-ltb}
use Rattle.std.proofs.lemmas.List.{map-append}
use Rattle.std.proofs.lemmas.List.Elements.{filter_map-append}
use Rattle.std.proofs.lemmas.List.Folds.{list_all-append, list_all-map}
use Rattle.dr_meaning.specs.Path.{Step}
use Rattle.dr_meaning.specs.Query as query
use Rattle.dr_partials.specs.Rewriting.{key_items, aggregate_items}
use Rattle.dr_plan.specs.declared.aggregate.Aggregate.{Aggregate}
use Rattle.dr_plan.specs.declared.plan.GroupItem.{GroupItem}
use Rattle.dr_plan.specs.Fitting.{aggregate_number, are_numbered, has_key}
use Rattle.dr_plan.specs.Views.{group_item_view, group_term_view, found_term}
use Rattle.dr_rewrite.specs.Items.{indexed, key_name, aggregate_name}
use Rattle.dr_rewrite.specs.ServerItems.{Titled, titled, titled_key, titled_aggregate, server_items, are_placed}
use Rattle.dr_rewrite.proofs.RewritingTextLemmas.{map_map, at_front, numbers_of}

-- ---- what they give

-- what an item gives, by its name and term
abbrev pub titled_view : List query.GroupTerm → Titled → query.GroupItem
titled_view ts t = record { name = t.name; term = group_term_view ts t.term }

pub by_titles : (ts : List query.GroupTerm) (items : List GroupItem) → map (group_item_view ts) items ≡ map (titled_view ts) (map titled items)
by_titles ts items = sym (map_map (titled_view ts) titled items)

abbrev keys_from : ℕ → List ℕ → List Titled
keys_from n ks = indexed (λ (i k : ℕ). titled_key i) n ks

abbrev aggregates_from : ℕ → List Aggregate → List Titled
aggregates_from n gs = indexed (λ (i : ℕ) (a : Aggregate). titled_aggregate i) n gs

keys_seen : (ts : List query.GroupTerm) (f : ℕ → List Step) (n : ℕ) (ks : List ℕ) → map (titled_view ts) (keys_from n ks) ≡ key_items n (map f ks)
keys_seen ts f n [] = refl
keys_seen ts f n (k ∷ ks) = ap (λ is. record { name = key_name n; term = query.key n } ∷ is) (keys_seen ts f (suc n) ks)

aggregates_seen : (all : List query.GroupTerm) (n : ℕ) (gs : List Aggregate) (ts : List query.GroupTerm) → drop n all ≡ ts → length ts ≡ length gs → map (titled_view all) (aggregates_from n gs) ≡ aggregate_items n ts
aggregates_seen all n [] [] e h = refl
aggregates_seen all n [] (t ∷ ts) e h = absurd (omega (arith, h))
aggregates_seen all n (g ∷ gs) [] e h = absurd (omega (arith, h))
aggregates_seen all n (g ∷ gs) (t ∷ ts) e h =
    let f = at_front all n t ts e in
    ap₂ (λ o is. record { name = aggregate_name n; term = found_term o } ∷ is) f.0 (aggregates_seen all (suc n) gs ts f.1 (omega (arith, h)))

pub server_items_seen : (ts : List query.GroupTerm) (f : ℕ → List Step) (ks : List ℕ) (gs : List Aggregate) → length ts ≡ length gs
    → map (titled_view ts) (server_items ks gs) ≡ key_items 0 (map f ks) ++ aggregate_items 0 ts
server_items_seen ts f ks gs h =
    map-append (titled_view ts) (keys_from 0 ks) (aggregates_from 0 gs) ∙ ap₂ (λ is js. is ++ js) (keys_seen ts f 0 ks) (aggregates_seen ts 0 gs ts refl h)

-- ---- they fit

pub both_true : (a b : Bool) → a ≡ true → b ≡ true → (a && b) ≡ true
both_true a b h g = ap₂ (λ x y. x && y) h g

abbrev keyed : ℕ → Titled → Bool
keyed n t = has_key n t.term

abbrev number_in : Titled → Option ℕ
number_in t = aggregate_number t.term

keys_there : (n i : ℕ) (ks : List ℕ) → i + length ks ≤ n → list_all (keyed n) (keys_from i ks) ≡ true
keys_there n i [] h = refl
keys_there n i (k ∷ ks) h = both_true (nat_lt i n) (list_all (keyed n) (keys_from (suc i) ks)) (lt-ltb i n (omega (arith, h))) (keys_there n (suc i) ks (omega (arith, h)))

none_keyed : (n i : ℕ) (gs : List Aggregate) → list_all (keyed n) (aggregates_from i gs) ≡ true
none_keyed n i [] = refl
none_keyed n i (g ∷ gs) = none_keyed n (suc i) gs

no_numbers : (i : ℕ) (ks : List ℕ) → filter_map number_in (keys_from i ks) ≡ []
no_numbers i [] = refl
no_numbers i (k ∷ ks) = no_numbers (suc i) ks

in_order : (i : ℕ) (gs : List Aggregate) → are_numbered i (filter_map number_in (aggregates_from i gs)) (length gs) ≡ true
in_order i [] = refl
in_order i (g ∷ gs) =
    let l : nat_lt i (suc i) ≡ true = lt-ltb i (suc i) (omega arith) in
    both_true (nat_lt i (suc i) && nat_lt i (suc i)) (are_numbered (suc i) (filter_map number_in (aggregates_from (suc i) gs)) (length gs)) (both_true (nat_lt i (suc i)) (nat_lt i (suc i)) l l) (in_order (suc i) gs)

pub server_items_placed : (ks : List ℕ) (gs : List Aggregate) → are_placed (length ks) (length gs) (server_items ks gs) ≡ true
server_items_placed ks gs =
    let n = length ks in
    both_true (list_all (keyed n) (server_items ks gs)) (are_numbered 0 (filter_map number_in (server_items ks gs)) (length gs))
    (list_all-append (keyed n) (keys_from 0 ks) (aggregates_from 0 gs) ∙ both_true (list_all (keyed n) (keys_from 0 ks)) (list_all (keyed n) (aggregates_from 0 gs)) (keys_there n 0 ks (omega arith)) (none_keyed n 0 gs))
    (ap (λ js. are_numbered 0 js (length gs)) (filter_map-append number_in (keys_from 0 ks) (aggregates_from 0 gs) ∙ ap (λ js. js ++ filter_map number_in (aggregates_from 0 gs)) (no_numbers 0 ks)) ∙ in_order 0 gs)

-- ---- and of any items, by their names and terms

numbers_by_titles : (items : List GroupItem) → filter_map number_in (map titled items) ≡ numbers_of items
numbers_by_titles [] = refl
numbers_by_titles (i ∷ items) = ap (cons_option (aggregate_number i.term)) (numbers_by_titles items)

pub placed_of : (keys count : ℕ) (items : List GroupItem) → list_all (λ (i : GroupItem). has_key keys i.term) items ≡ true → are_numbered 0 (numbers_of items) count ≡ true → are_placed keys count (map titled items) ≡ true
placed_of keys count items h g =
    both_true (list_all (keyed keys) (map titled items)) (are_numbered 0 (filter_map number_in (map titled items)) count)
    (list_all-map (keyed keys) titled items ∙ h) (ap (λ js. are_numbered 0 js count) (numbers_by_titles items) ∙ g)

pub placed_fit : (keys count : ℕ) (items : List GroupItem) → are_placed keys count (map titled items) ≡ true
    → (list_all (λ (i : GroupItem). has_key keys i.term) items ≡ true) × (are_numbered 0 (numbers_of items) count ≡ true)
placed_fit keys count items h =
    let p = and_parts (list_all (keyed keys) (map titled items)) (are_numbered 0 (filter_map number_in (map titled items)) count) h in
    (sym (list_all-map (keyed keys) titled items) ∙ p.0, sym (ap (λ js. are_numbered 0 js count) (numbers_by_titles items)) ∙ p.1)
