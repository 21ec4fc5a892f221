-- The objects of a bound query lie within one another, and its aggregates within their objects.
use Rattle.std.specs.Prelude.{◌≡◌, ◌==◌, ◌+◌, ℕ, suc, List, [], ◌∷◌, ◌++◌, map, Bool, true, false, ◌&&◌, if◌then◌else◌, Some, None, option_map, Ok}
use Rattle.std.specs.List.{list_all, slice_get, flat_map, filter_map, cons_option, join_with_byte}
use Rattle.std.proofs.Common.{refl, sym, ap, ap₂, ◌∙◌, arith}
use Rattle.std.proofs.lemmas.Bool.{and_parts}
use Rattle.std.proofs.lemmas.Bool.Decides.{nat_tests}
use Rattle.dr_meaning.specs.Schema.{Schema, Repetition, required, optional, repeated, Fields, no_fields, field, Shape, leaf, group}
use Rattle.dr_meaning.specs.Path.{Step, begins_with, same_path, chain_end}
use Rattle.dr_meaning.specs.Expression.{Expression, expression_chain}
use Rattle.dr_meaning.specs.Query.{RecordTerm, expression, within, RecordItem, Selection, objects, groups, Query, Levels, no_levels, deeper, levels_of, levels_in, shape_levels, as_level, append_levels, term_chain, leads_to_items}
use Rattle.dr_meaning.specs.Syntax.{QuerySyntax}
use Rattle.dr_meaning.specs.BoundExpression.{bind_path, BoundPath, fault_at, bad_within}
use Rattle.dr_meaning.specs.Binding.{BoundWithin, BoundTerm, plain, rows_counted, aggregated, BoundItem, is_record_syntax, bind_items, passing, within_faults, holds_rows, record_term, record_item, group_item, bind}
use Rattle.dr_meaning.proofs.MeaningLemmas.{level-front}
use Rattle.dr_meaning.proofs.BindingFaultLemmas.{bound_is}
use Rattle.dr_meaning.proofs.BoundPartsLemmas.{both_empty, no_part_faults}
use Rattle.dr_plan.specs.Objects.{ObjectTree, object_tree, ListTrees, places_at, with_list_tree, list_trees, object_tree_of}
use Rattle.dr_mean.specs.Nested.{term_is_below, item_is_below, items_are_below, is_nested, are_nested}

-- ---- paths that begin with others

same_number : (n : ℕ) → (n == n) ≡ true
same_number n = grind (arith, nat_tests)

numbers_along : (a b c : ℕ) → (a == b) ≡ true → (b == c) ≡ true → (a == c) ≡ true
numbers_along a b c h g = grind (arith, nat_tests)

begins_itself : (p : List Step) → begins_with p p ≡ true
begins_itself [] = refl
begins_itself (s ∷ p) = ap₂ ◌&&◌ (same_number s.place) (begins_itself p)

begins_along : (p q f : List Step) → begins_with p q ≡ true → begins_with q f ≡ true → begins_with p f ≡ true
begins_along [] q f h g = refl
begins_along (s ∷ p) [] f h g = cc
begins_along (s ∷ p) (t ∷ q) [] h g = cc
begins_along (s ∷ p) (t ∷ q) (u ∷ f) h g =
    let a : ((s.place == t.place) ≡ true) × (begins_with p q ≡ true) = and_parts _ _ h in
    let b : ((t.place == u.place) ≡ true) × (begins_with q f ≡ true) = and_parts _ _ g in
    ap₂ ◌&&◌ (numbers_along s.place t.place u.place a.0 b.0) (begins_along p q f a.1 b.1)

begins_longer : (p q r : List Step) → begins_with p q ≡ true → begins_with p (q ++ r) ≡ true
begins_longer [] q r h = refl
begins_longer (s ∷ p) [] r h = cc
begins_longer (s ∷ p) (t ∷ q) r h =
    let a : ((s.place == t.place) ≡ true) × (begins_with p q ≡ true) = and_parts _ _ h in
    ap₂ ◌&&◌ a.0 (begins_longer p q r a.1)

-- ---- aggregates of a bound query reach below their nodes

abbrev pub term_reaches : RecordTerm → Bool
term_reaches (expression e) = true
term_reaches (within a e node) = begins_with (chain_end node) (expression_chain e)

abbrev pub all_reach : List RecordItem → Bool
all_reach items = list_all (λ (i : RecordItem). term_reaches i.term) items

held_rows : (e : Expression) (w : BoundWithin) → (if holds_rows e w then [] else fault_at w.place bad_within) ≡ [] → begins_with w.node (expression_chain e) ≡ true
held_rows e w h = by_test (holds_rows e w) refl h
  where
    by_test : (b : Bool) → holds_rows e w ≡ b → (if b then [] else fault_at w.place bad_within) ≡ [] → begins_with w.node (expression_chain e) ≡ true
    by_test true k g = (and_parts w.is_whole (begins_with w.node (expression_chain e)) k).1
    by_test false k g = absurd (cc)

items_reach : (vs : List BoundItem) → flat_map (λ (i : BoundItem). within_faults i.term) vs ≡ [] → all_reach (filter_map record_item vs) ≡ true
items_reach [] w = refl
items_reach (v ∷ vs) w = let k = both_empty (within_faults v.term) (flat_map (λ (i : BoundItem). within_faults i.term) vs) w in by_term v.term k.0 (items_reach vs k.1)
  where
    by_term : (t : BoundTerm) → within_faults t ≡ [] → all_reach (filter_map record_item vs) ≡ true
        → all_reach (cons_option (option_map (λ (r : RecordTerm). record { name = v.name; term = r }) (record_term t)) (filter_map record_item vs)) ≡ true
    by_term (plain e) x r = r
    by_term (rows_counted o) x r = r
    by_term (aggregated a e None) x r = r
    by_term (aggregated a e (Some o)) x r =
        ap₂ ◌&&◌ (begins_along (chain_end o.node) o.node (expression_chain e.expression) (level-front o.node) (held_rows e.expression o x)) r

abbrev selection_reaches : Selection → Bool
selection_reaches (objects items) = all_reach items
selection_reaches (groups keys items) = true

abbrev selection_of_kind : Bool → List BoundPath → List BoundItem → Selection
selection_of_kind b keys vs = if b then objects (filter_map record_item vs) else groups (map (λ (k : BoundPath). k.leaf.path) keys) (filter_map (group_item keys) vs)

kind_reaches : (b : Bool) (keys : List BoundPath) (vs : List BoundItem) → flat_map (λ (i : BoundItem). within_faults i.term) vs ≡ [] → selection_reaches (selection_of_kind b keys vs) ≡ true
kind_reaches true keys vs w = items_reach vs w
kind_reaches false keys vs w = refl

pub bound_reaches : (s : Schema) (q : QuerySyntax) (b : Query) (items : List RecordItem) → bind s q ≡ Ok b → b.selection ≡ objects items → all_reach items ≡ true
bound_reaches s q b items h e =
    let k = bound_is s q b h in
    let w = both_empty _ _ (no_part_faults s q k.0).1 in
    ap selection_reaches (sym e) ∙ ap (λ (x : Query). selection_reaches x.selection) (sym k.1)
    ∙ kind_reaches (is_record_syntax q) (passing (map (bind_path s.fields) q.keys)) (passing (bind_items s.fields 0 q.items)) w.0

-- ---- items at their levels

-- items from the place n on are those at their places among all
abbrev From : List RecordItem → ℕ → List RecordItem → Type 0
From items n is = (k : ℕ) (i : RecordItem) → slice_get is k ≡ Some i → slice_get items (n + k) ≡ Some i

at_zero : (n : ℕ) → n + 0 ≡ n
at_zero n = omega arith

one_later : (n k : ℕ) → suc n + k ≡ n + suc k
one_later n k = omega arith

no_shift : (k : ℕ) → 0 + k ≡ k
no_shift k = omega arith

term_below : (p : List Step) (t : RecordTerm) → same_path p (term_chain t) ≡ true → term_reaches t ≡ true → term_is_below p t ≡ true
term_below p (expression e) h r = refl
term_below p (within a e node) h r =
    let b : (begins_with p (chain_end node) ≡ true) × (begins_with (chain_end node) p ≡ true) = and_parts _ _ h in
    begins_along p (chain_end node) (expression_chain e) b.0 r

places_below : (items : List RecordItem) (n : ℕ) (is : List RecordItem) (p : List Step) → From items n is → all_reach is ≡ true → items_are_below items p (places_at n is p) ≡ true
places_below items n [] p h r = refl
places_below items n (i ∷ is) p h r =
    let d : (term_reaches i.term ≡ true) × (all_reach is ≡ true) = and_parts _ _ r in
    by_level (same_path p (term_chain i.term)) refl d.0 (places_below items (suc n) is p (λ k j e. ap (slice_get items) (one_later n k) ∙ h (suc k) j e) d.1)
  where
    here : slice_get items n ≡ Some i
    here = ap (slice_get items) (sym (at_zero n)) ∙ h 0 i refl

    by_level : (b : Bool) → same_path p (term_chain i.term) ≡ b → term_reaches i.term ≡ true → items_are_below items p (places_at (suc n) is p) ≡ true
        → items_are_below items p (if b then n ∷ places_at (suc n) is p else places_at (suc n) is p) ≡ true
    by_level true e t g = ap₂ ◌&&◌ (ap (item_is_below p) here ∙ term_below p i.term e t) g
    by_level false e t g = g

all_below : (items : List RecordItem) (p : List Step) → all_reach items ≡ true → items_are_below items p (places_at 0 items p) ≡ true
all_below items p r = places_below items 0 items p (λ k i e. ap (slice_get items) (no_shift k) ∙ e) r

-- ---- levels below one another

abbrev LevelsBelow : List Step → Levels → Type 0
LevelsBelow p no_levels = Unit {0}
LevelsBelow p (deeper names q below others) = (begins_with p q ≡ true) × LevelsBelow q below × LevelsBelow p others

append_below : (p : List Step) (ls ms : Levels) → LevelsBelow p ls → LevelsBelow p ms → LevelsBelow p (append_levels ls ms)
append_below p no_levels ms h g = g
append_below p (deeper n q below ks) ms h g = (h.0, h.1, append_below p ks ms h.2 g)

level_below : (r : Repetition) (n : List (List ℕ)) (p q : List Step) (own passed : Levels) → begins_with p q ≡ true → LevelsBelow q own → LevelsBelow p passed → LevelsBelow p (as_level r n q own passed)
level_below required n p q own passed h o g = g
level_below optional n p q own passed h o g = g
level_below repeated n p q own passed h o g = (h, o, tt)

mutual
  fields_below : (fs : Fields) (i : ℕ) (ns : List (List ℕ)) (p q : List Step) → begins_with p q ≡ true → LevelsBelow p (levels_in fs i ns q)
  fields_below no_fields i ns p q h = tt
  fields_below (field n r s fs) i ns p q h =
      let next : List Step = q ++ record { place = i; repetition = r } ∷ [] in
      let further : begins_with p next ≡ true = begins_longer p q (record { place = i; repetition = r } ∷ []) h in
      append_below p (as_level r (ns ++ n ∷ []) next (shape_levels s [] next) (shape_levels s (ns ++ n ∷ []) next)) (levels_in fs (suc i) ns q)
      (level_below r (ns ++ n ∷ []) p next (shape_levels s [] next) (shape_levels s (ns ++ n ∷ []) next) further (shape_below s [] next next (begins_itself next)) (shape_below s (ns ++ n ∷ []) p next further))
      (fields_below fs (suc i) ns p q h)

  shape_below : (s : Shape) (ns : List (List ℕ)) (p q : List Step) → begins_with p q ≡ true → LevelsBelow p (shape_levels s ns q)
  shape_below (leaf k) ns p q h = tt
  shape_below (group fs) ns p q h = fields_below fs 0 ns p q h

list_nested : (b : Bool) (items : List RecordItem) (p : List Step) (name : List ℕ) (q : List Step) (o : ObjectTree) (ls : ListTrees) → begins_with p q ≡ true → is_nested items q o ≡ true → are_nested items p ls ≡ true
    → are_nested items p (with_list_tree b name q o ls) ≡ true
list_nested true items p name q o ls h g k = ap₂ ◌&&◌ (ap₂ ◌&&◌ h g) k
list_nested false items p name q o ls h g k = k

lists_nested : (items : List RecordItem) (p : List Step) (levels : Levels) → all_reach items ≡ true → LevelsBelow p levels → are_nested items p (list_trees items levels) ≡ true
lists_nested items p no_levels r h = refl
lists_nested items p (deeper names q below others) r h =
    list_nested (leads_to_items items q) items p (join_with_byte 46 names) q (object_tree (places_at 0 items q) (list_trees items below)) (list_trees items others) h.0
    (ap₂ ◌&&◌ (all_below items q r) (lists_nested items q below r h.1)) (lists_nested items p others r h.2)

-- the tree of a record query is nested
pub tree_is_nested : (fs : Fields) (items : List RecordItem) → all_reach items ≡ true → is_nested items [] (object_tree_of fs items) ≡ true
tree_is_nested fs items r = ap₂ ◌&&◌ (all_below items [] r) (lists_nested items [] (levels_of fs) r (fields_below fs 0 [] [] [] refl))
