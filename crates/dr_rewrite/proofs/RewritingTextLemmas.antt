-- The items that are written are those of the plan's query.
use Rattle.std.proofs.Common.{◌≡◌, ℕ, zero, suc, ◌+◌, ◌<◌, ◌≤◌, List, [], ◌∷◌, ◌++◌, map, length, drop, Bool, true, false, ◌&&◌, Some, string_bytes, refl, sym, ap, ap₂, ◌∙◌, arith}
use Rattle.std.specs.Prelude.{nat_lt}
use borrow.Author.Tests.{ltb-true}
use Rattle.std.proofs.lemmas.Bool.{and_parts}
use Rattle.std.specs.List.{list_all, slice_get, filter_map, cons_option}
use Rattle.dr_meaning.specs.Path.{Step, Leaf}
use Rattle.dr_meaning.specs.Query as query
use Rattle.dr_partials.specs.PartialTypes.{with_aggregate, aggregates_among}
use Rattle.dr_partials.specs.Rewriting.{key_items, aggregate_items, merging_aggregate, merging_term, merging_terms, root_items, column_behind}
use Rattle.dr_partials.specs.RewritingText.{aggregate_word, in_parentheses, group_term_text, named, in_quotes, column_text}
use Rattle.dr_plan.specs.declared.aggregate.Aggregate.{Aggregate}
use Rattle.dr_plan.specs.declared.plan.GroupItem.{GroupItem}
use Rattle.dr_plan.specs.declared.plan.GroupTerm.{GroupTerm}
use Rattle.dr_plan.specs.Fitting.{aggregate_number, are_numbered, has_key}
use Rattle.dr_plan.specs.Views.{aggregate_view, fold_view, found_term, group_term_view, group_item_view}
use Rattle.dr_rewrite.specs.Items.{indexed, key_name, aggregate_name, key_text, leaf_key, leaf_aggregate, merging_text, merging_word_at, inner_aggregate, root_term, root_item}
use Rattle.dr_rewrite.specs.Writing.{written_leaves, written_path}
use Rattle.dr_rewrite.specs.declared.paths.Names.{Names}
use Rattle.dr_meaning.specs.Lists.{nth_text}

-- ---- names of columns

abbrev pub names_of : List query.GroupItem → List (List ℕ)
names_of is = map (λ (i : query.GroupItem). i.name) is

pub at_zero : (m : ℕ) → m ≡ m + 0
at_zero m = omega arith

pub one_on : (m j : ℕ) → suc m + j ≡ m + suc j
one_on m j = omega arith

pub key_item_names : (f : ℕ → List Step) (n : ℕ) (ks : List ℕ) → names_of (key_items n (map f ks)) ≡ indexed (λ (i k : ℕ). key_name i) n ks
key_item_names f n [] = refl
key_item_names f n (k ∷ ks) = ap (λ ns. key_name n ∷ ns) (key_item_names f (suc n) ks)

pub names_count : (n : ℕ) (ps : List (List Step)) → length (names_of (key_items n ps)) ≡ length ps
names_count n [] = refl
names_count n (p ∷ ps) = ap suc (names_count (suc n) ps)

pub nth_name : (n : ℕ) (ps : List (List Step)) (i : ℕ) → i < length ps → nth_text (names_of (key_items n ps)) i ≡ key_name (n + i)
nth_name n [] i h = absurd (omega arith)
nth_name n (p ∷ ps) zero h = ap key_name (at_zero n)
nth_name n (p ∷ ps) (suc i) h = nth_name (suc n) ps i (omega arith) ∙ ap key_name (one_on n i)

pub nth_aggregate : (n : ℕ) (ts : List query.GroupTerm) (i : ℕ) → i < length ts → nth_text (names_of (aggregate_items n ts)) i ≡ aggregate_name (n + i)
nth_aggregate n [] i h = absurd (omega arith)
nth_aggregate n (t ∷ ts) zero h = ap aggregate_name (at_zero n)
nth_aggregate n (t ∷ ts) (suc i) h = nth_aggregate (suc n) ts i (omega arith) ∙ ap aggregate_name (one_on n i)

pub no_shift : (j : ℕ) → 0 + j ≡ j
no_shift j = omega arith

one_out : (m j : ℕ) → suc m + j ≡ suc (m + j)
one_out m j = omega arith

pub nth_behind : (xs ys : List (List ℕ)) (i : ℕ) → nth_text (xs ++ ys) (length xs + i) ≡ nth_text ys i
nth_behind [] ys i = ap (nth_text ys) (no_shift i)
nth_behind (x ∷ xs) ys i = ap (nth_text ((x ∷ xs) ++ ys)) (one_out (length xs) i) ∙ nth_behind xs ys i

pub nth_of : {A : Type 0} (g : A → List ℕ) (xs : List A) (i : ℕ) (x : A) → slice_get xs i ≡ Some x → nth_text (map g xs) i ≡ g x
nth_of g [] i x h = cc
nth_of g (y ∷ ys) zero x h = let e : y ≡ x = cc in ap g e
nth_of g (y ∷ ys) (suc i) x h = nth_of g ys i x h

pub map_map : {A B C : Type 0} (g : B → C) (f : A → B) (xs : List A) → map g (map f xs) ≡ map (λ x. g (f x)) xs
map_map g f [] = refl
map_map g f (x ∷ xs) = ap (λ ys. g (f x) ∷ ys) (map_map g f xs)

pub map_joined : {A B : Type 0} (g : A → B) (xs ys : List A) → map g (xs ++ ys) ≡ map g xs ++ map g ys
map_joined g [] ys = refl
map_joined g (x ∷ xs) ys = ap (λ zs. g x ∷ zs) (map_joined g xs ys)

-- ---- the leaf query

-- an item as it is written, by the text of its term
abbrev pub written_items : (query.GroupTerm → List ℕ) → List query.GroupItem → List (List ℕ)
written_items text is = map (λ (i : query.GroupItem). named (text i.term) i.name) is

pub leaf_keys : (n : Names) (all : List (List ℕ)) (f : ℕ → List Step) (i : ℕ) (ks : List ℕ) → ((j k : ℕ) → slice_get ks j ≡ Some k → nth_text all (i + j) ≡ key_text n k)
    → written_items (group_term_text (written_path n) all) (key_items i (map f ks)) ≡ indexed (leaf_key n) i ks
leaf_keys n all f i [] h = refl
leaf_keys n all f i (k ∷ ks) h =
    ap₂ (λ t ts. named t (key_name i) ∷ ts) (ap (nth_text all) (at_zero i) ∙ h 0 k refl) (leaf_keys n all f (suc i) ks (λ j l e. ap (nth_text all) (one_on i j) ∙ h (suc j) l e))

same_term : (path : List Step → List ℕ) (ls : List Leaf) (all : List (List ℕ)) (a : Aggregate) → group_term_text path all (aggregate_view ls a) ≡ group_term_text path [] (aggregate_view ls a)
same_term path ls all Aggregate.Rows = refl
same_term path ls all (Aggregate.Of f e) = refl

pub leaf_aggregates : (n : Names) (all : List (List ℕ)) (i : ℕ) (gs : List Aggregate)
    → written_items (group_term_text (written_path n) all) (aggregate_items i (map (aggregate_view (written_leaves n)) gs)) ≡ indexed (leaf_aggregate n) i gs
leaf_aggregates n all i [] = refl
leaf_aggregates n all i (a ∷ gs) = ap₂ (λ t ts. named t (aggregate_name i) ∷ ts) (same_term (written_path n) (written_leaves n) all a) (leaf_aggregates n all (suc i) gs)

-- ---- the aggregates among the items are the plan's

none_left : (i : ℕ) (gs : List Aggregate) → are_numbered i [] (length gs) ≡ true → gs ≡ []
none_left i [] h = refl
none_left i (a ∷ gs) h = cc

is_aggregate : (ls : List Leaf) (a : Aggregate) (ts : List query.GroupTerm) → with_aggregate (aggregate_view ls a) ts ≡ aggregate_view ls a ∷ ts
is_aggregate ls Aggregate.Rows ts = refl
is_aggregate ls (Aggregate.Of f e) ts = refl

all_three : (a b c : Bool) → (a && b && c) ≡ true → (a ≡ true) × (b ≡ true) × (c ≡ true)
all_three true true c h = (refl, refl, h)
all_three true false c h = cc
all_three false true c h = cc
all_three false false c h = cc

-- the aggregate at a place, and those behind it
pub at_front : {A : Type 0} (all : List A) (i : ℕ) (a : A) (gs : List A) → drop i all ≡ a ∷ gs → (slice_get all i ≡ Some a) × (drop (suc i) all ≡ gs)
at_front [] zero a gs h = cc
at_front [] (suc i) a gs h = cc
at_front (b ∷ bs) zero a gs h = let e : b ≡ a = cc in let f : bs ≡ gs = cc in (ap Some e, f)
at_front (b ∷ bs) (suc i) a gs h = at_front bs i a gs h

same_place : (i a : ℕ) → nat_lt i (suc a) ≡ true → nat_lt a (suc i) ≡ true → a ≡ i
same_place i a h g = omega (arith, ltb-true i (suc a) h, ltb-true a (suc i) g)

-- an item's aggregate, next in number
pub record NextAggregate (all : List Aggregate) (i a : ℕ) (js : List ℕ) : Type 0 where
  pub found : Aggregate
  pub there : slice_get all i ≡ Some found
  pub same : a ≡ i
  pub within : i < length all
  pub behind : are_numbered (suc i) js (length (drop (suc i) all)) ≡ true

in_front : {A : Type 0} (xs : List A) (i : ℕ) (x : A) → slice_get xs i ≡ Some x → i < length xs
in_front [] i x h = cc
in_front (y ∷ ys) zero x h = omega arith
in_front (y ∷ ys) (suc i) x h = omega (arith, in_front ys i x h)

pub next_aggregate : (all : List Aggregate) (i a : ℕ) (js : List ℕ) → are_numbered i (a ∷ js) (length (drop i all)) ≡ true → NextAggregate all i a js
next_aggregate all i a js h = by (drop i all) refl h
  where
    by : (gs : List Aggregate) → drop i all ≡ gs → are_numbered i (a ∷ js) (length gs) ≡ true → NextAggregate all i a js
    by [] e k = cc
    by (g ∷ gs) e k =
        let f = at_front all i g gs e in
        let t = all_three (nat_lt i (suc a)) (nat_lt a (suc i)) (are_numbered (suc i) js (length gs)) k in
        record { found = g; there = f.0; same = same_place i a t.0 t.1; within = in_front all i g f.0; behind = ap (λ xs. are_numbered (suc i) js (length xs)) f.1 ∙ t.2 }

pub viewed : (ls : List Leaf) (all : List Aggregate) (i : ℕ) (a : Aggregate) → slice_get all i ≡ Some a → slice_get (map (aggregate_view ls) all) i ≡ Some (aggregate_view ls a)
viewed ls [] i a h = cc
viewed ls (b ∷ bs) zero a h = let e : b ≡ a = cc in ap (λ x. Some (aggregate_view ls x)) e
viewed ls (b ∷ bs) (suc i) a h = viewed ls bs i a h

from_here : (ls : List Leaf) (all : List Aggregate) (i : ℕ) (a : Aggregate) → slice_get all i ≡ Some a → map (aggregate_view ls) (drop i all) ≡ aggregate_view ls a ∷ map (aggregate_view ls) (drop (suc i) all)
from_here ls [] i a h = cc
from_here ls (b ∷ bs) zero a h = let e : b ≡ a = cc in ap (λ x. aggregate_view ls x ∷ map (aggregate_view ls) bs) e
from_here ls (b ∷ bs) (suc i) a h = from_here ls bs i a h

abbrev pub numbers_of : List GroupItem → List ℕ
numbers_of items = filter_map (λ (i : GroupItem). aggregate_number i.term) items

pub among_items : (ls : List Leaf) (all : List Aggregate) (items : List GroupItem) (i : ℕ) → are_numbered i (numbers_of items) (length (drop i all)) ≡ true
    → aggregates_among (map (group_item_view (map (aggregate_view ls) all)) items) ≡ map (aggregate_view ls) (drop i all)
among_items ls all [] i h = sym (ap (map (aggregate_view ls)) (none_left i (drop i all) h))
among_items ls all (item ∷ items) i h = by item.term h (among_items ls all items)
  where
    rest : List query.GroupTerm
    rest = aggregates_among (map (group_item_view (map (aggregate_view ls) all)) items)

    by : (t : GroupTerm) → are_numbered i (cons_option (aggregate_number t) (numbers_of items)) (length (drop i all)) ≡ true
        → ((j : ℕ) → are_numbered j (numbers_of items) (length (drop j all)) ≡ true → rest ≡ map (aggregate_view ls) (drop j all))
        → with_aggregate (group_term_view (map (aggregate_view ls) all) t) rest ≡ map (aggregate_view ls) (drop i all)
    by (GroupTerm.Key k) g r = r i g
    by (GroupTerm.Aggregate a) g r =
        let n = next_aggregate all i a (numbers_of items) g in
        ap (λ o. with_aggregate (found_term o) rest) (ap (slice_get (map (aggregate_view ls) all)) n.same ∙ viewed ls all i n.found n.there)
        ∙ (is_aggregate ls n.found rest ∙ (ap (λ ts. aggregate_view ls n.found ∷ ts) (r (suc i) n.behind) ∙ sym (from_here ls all i n.found n.there)))

-- ---- merging, over the columns of a row

-- the columns of aggregates stand behind those of keys
abbrev pub AggregateColumns : List (List ℕ) → ℕ → ℕ → Type 0
AggregateColumns names keys count = (i : ℕ) → i < count → nth_text names (keys + i) ≡ aggregate_name i

merged_term : (ls : List Leaf) (names knames : List (List ℕ)) (c i : ℕ) (a : Aggregate) → nth_text names c ≡ aggregate_name i
    → group_term_text (column_text names) knames (merging_term c (aggregate_view ls a)) ≡ merging_text i a
merged_term ls names knames c i Aggregate.Rows h = ap (λ t. aggregate_word query.sum ++ in_parentheses t) h
merged_term ls names knames c i (Aggregate.Of f e) h = ap (λ t. aggregate_word (merging_aggregate (fold_view f)) ++ in_parentheses t) h

pub at_column : (keys i c : ℕ) → c ≡ keys + i → suc c ≡ keys + suc i
at_column keys i c e = omega (arith, e)

pub inner_aggregates : (ls : List Leaf) (names knames : List (List ℕ)) (keys count i c : ℕ) (gs : List Aggregate) → AggregateColumns names keys count → c ≡ keys + i → i + length gs ≤ count
    → written_items (group_term_text (column_text names) knames) (aggregate_items i (merging_terms c (map (aggregate_view ls) gs))) ≡ indexed inner_aggregate i gs
inner_aggregates ls names knames keys count i c [] n e h = refl
inner_aggregates ls names knames keys count i c (a ∷ gs) n e h =
    let l : i < count = omega arith in
    let m : suc i + length gs ≤ count = omega arith in
    ap₂ (λ t ts. named t (aggregate_name i) ∷ ts) (merged_term ls names knames c i a (ap (nth_text names) e ∙ n i l))
    (inner_aggregates ls names knames keys count (suc i) (suc c) gs n (at_column keys i c e) m)

pub column_behind_aggregate : (ls : List Leaf) (c : ℕ) (a : Aggregate) → column_behind c (aggregate_view ls a) ≡ suc c
column_behind_aggregate ls c Aggregate.Rows = refl
column_behind_aggregate ls c (Aggregate.Of f e) = refl

abbrev pub KeyColumns : List (List ℕ) → ℕ → Type 0
KeyColumns knames keys = (k : ℕ) → k < keys → nth_text knames k ≡ key_name k

abbrev pub written_root : (query.GroupTerm → List ℕ) → List query.GroupItem → List (List ℕ)
written_root text is = map (λ (i : query.GroupItem). named (text i.term) (in_quotes i.name)) is

pub root_written : (ls : List Leaf) (all : List Aggregate) (names knames : List (List ℕ)) (keys : ℕ) → AggregateColumns names keys (length all) → KeyColumns knames keys
    → (items : List GroupItem) (i c : ℕ) → c ≡ keys + i → are_numbered i (numbers_of items) (length (drop i all)) ≡ true → list_all (λ (x : GroupItem). has_key keys x.term) items ≡ true
    → written_root (group_term_text (column_text names) knames) (root_items c (map (group_item_view (map (aggregate_view ls) all)) items)) ≡ map (root_item all) items
root_written ls all names knames keys n m [] i c e h k = refl
root_written ls all names knames keys n m (item ∷ items) i c e h k =
    by item.term h (and_parts (has_key keys item.term) (list_all (λ (x : GroupItem). has_key keys x.term) items) k).0
    (λ j d f g. root_written ls all names knames keys n m items j d f g (and_parts (has_key keys item.term) (list_all (λ (x : GroupItem). has_key keys x.term) items) k).1)
  where
    ts : List query.GroupTerm
    ts = map (aggregate_view ls) all

    text : query.GroupTerm → List ℕ
    text = group_term_text (column_text names) knames

    more : ℕ → List (List ℕ)
    more d = written_root (group_term_text (column_text names) knames) (root_items d (map (group_item_view (map (aggregate_view ls) all)) items))

    by : (t : GroupTerm) → are_numbered i (cons_option (aggregate_number t) (numbers_of items)) (length (drop i all)) ≡ true → has_key keys t ≡ true
        → ((j d : ℕ) → d ≡ keys + j → are_numbered j (numbers_of items) (length (drop j all)) ≡ true
        → written_root (group_term_text (column_text names) knames) (root_items d (map (group_item_view (map (aggregate_view ls) all)) items)) ≡ map (root_item all) items)
        → named (group_term_text (column_text names) knames (merging_term c (group_term_view (map (aggregate_view ls) all) t))) (in_quotes (string_bytes item.name))
        ∷ written_root (group_term_text (column_text names) knames) (root_items (column_behind c (group_term_view (map (aggregate_view ls) all) t)) (map (group_item_view (map (aggregate_view ls) all)) items))
        ≡ named (root_term all t) (in_quotes (string_bytes item.name)) ∷ map (root_item all) items
    by (GroupTerm.Key q) g l r = ap₂ (λ x xs. named x (in_quotes (string_bytes item.name)) ∷ xs) (m q (ltb-true q keys l)) (r i c e g)
    by (GroupTerm.Aggregate a) g l r =
        let w = next_aggregate all i a (numbers_of items) g in
        let v : slice_get (map (aggregate_view ls) all) a ≡ Some (aggregate_view ls w.found) = ap (slice_get (map (aggregate_view ls) all)) w.same ∙ viewed ls all i w.found w.there in
        let u : slice_get all a ≡ Some w.found = ap (slice_get all) w.same ∙ w.there in
        ap₂ (λ x xs. named x (in_quotes (string_bytes item.name)) ∷ xs)
        (ap (λ o. group_term_text (column_text names) knames (merging_term c (found_term o))) v
        ∙ (merged_term ls names knames c i w.found (ap (nth_text names) e ∙ n i w.within)
        ∙ ap₂ (λ o j. merging_word_at o ++ in_parentheses (aggregate_name j)) (sym u) (sym w.same)))
        (ap (λ d. written_root (group_term_text (column_text names) knames) (root_items d (map (group_item_view (map (aggregate_view ls) all)) items)))
        (ap (λ o. column_behind c (found_term o)) v ∙ column_behind_aggregate ls c w.found) ∙ r (suc i) (suc c) (at_column keys i c e) w.behind)
