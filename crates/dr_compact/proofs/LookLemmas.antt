-- Looking into trees.
use Rattle.std.proofs.Common.{◌≡◌, ℕ, ℤ, ◌+◌, ◌<◌, ◌≤◌, Bool, true, false, List, [], ◌∷◌, map, length, drop, get_or, refl, sym, ap, ◌∙◌, arith, true≢false, rules}
use Rattle.std.proofs.lemmas.Bool.{le-leb, leb-true, and_parts}
use Rattle.std.specs.Prelude.{Option, Some, None, Vec, int_le, ◌&&◌, if◌then◌else◌, nat_le, pos, negsuc}
use Rattle.std.specs.declared.alloc.Global.{Global}
use denote.Ref.{Bor}
use Rattle.std.proofs.lemmas.List.{drop_more, drop_all}
use Rattle.dr_formats.specs.Metadata as metadata
use Rattle.dr_formats.specs.Compact as compact
use Rattle.dr_formats.specs.Compact.{Struct, or_else, find_field}
use Rattle.dr_compact.specs.declared.tree.Item as items
use Rattle.dr_compact.specs.declared.tree.Item.TheOpen.{Item-F, Values-F}
use Rattle.dr_compact.specs.declared.tree.TruthType.{TruthType}
use Rattle.dr_compact.specs.declared.tree.Values as values
use Rattle.dr_compact.specs.declared.tree.Item.TheVariants as variants
use Rattle.dr_compact.specs.declared.tree.Values.{Values}
use Rattle.dr_compact.specs.declared.tree.Values.TheVariants as lists
use Rattle.dr_compact.specs.declared.tree.Tree.{Tree}
use Rattle.dr_compact.specs.declared.tree.Field.{Field}
use Rattle.dr_compact.specs.Views.{SeenField, SeenValues, item_view, values_view, tree_view, fields_view, items_from, lent_bytes, truth_type_view}
use Rattle.dr_compact.proofs.ViewLemmas.{view-field, as_struct, lent_binary, seen, view-structs, view-i32s, view-binaries, view-truths}

-- ---- lists of a type

all_structs : (ts : List Tree) → metadata.all_as metadata.as_struct (items_from (map as_struct ts)) ≡ Some (map tree_view ts)
all_structs [] = refl
all_structs (t ∷ ts) = rw (all_structs ts) refl

all_numbers : (zs : List ℤ) → metadata.all_as metadata.as_i32 (items_from (map compact.i32_item zs)) ≡ Some zs
all_numbers [] = refl
all_numbers (z ∷ zs) = rw (all_numbers zs) refl

all_names : (bs : List (Bor (List ℕ))) → metadata.all_as metadata.as_binary (items_from (map lent_binary bs)) ≡ Some (map lent_bytes bs)
all_names [] = refl
all_names (b ∷ bs) = rw (all_names bs) refl

abbrev listed : Values → compact.Item
listed v = compact.list_item (values_view v).element (items_from (values_view v).values)

list_is : (v : Values) (s : SeenValues) → values_view v ≡ s → listed v ≡ compact.list_item s.element (items_from s.values)
list_is v s h = ap (λ (s : SeenValues). compact.list_item s.element (items_from s.values)) h

pub structs_there : (v : Values) (a : Vec Tree Global) → v ≡ lists.Structs a → Some (map tree_view a.items) ≡ metadata.as_structs (listed v)
structs_there v a h = sym (ap metadata.as_structs (list_is v (seen compact.struct_type (map as_struct a.items)) (ap values_view h ∙ view-structs a)) ∙ all_structs a.items)

pub numbers_there : (v : Values) (a : Vec ℤ Global) → v ≡ lists.I32s a → Some a.items ≡ metadata.as_numbers (listed v)
numbers_there v a h = sym (ap metadata.as_numbers (list_is v (seen compact.i32_type (map compact.i32_item a.items)) (ap values_view h ∙ view-i32s a)) ∙ all_numbers a.items)

pub names_there : (v : Values) (a : Vec (Bor (List ℕ)) Global) → v ≡ lists.Binaries a → Some (map lent_bytes a.items) ≡ metadata.as_names (listed v)
names_there v a h = sym (ap metadata.as_names (list_is v (seen compact.binary_type (map lent_binary a.items)) (ap values_view h ∙ view-binaries a)) ∙ all_names a.items)

-- ---- the field of an id

-- the fields from a place on, or what was found before, give the field
abbrev pub Finds : ℤ → List Field → ℕ → Option compact.Item → Type 0
Finds id fs k found = or_else (find_field id (fields_view (drop k fs))) found ≡ find_field id (fields_view fs)

found_none : (o : Option compact.Item) → or_else o None ≡ o
found_none None = refl
found_none (Some x) = refl

pub none_found : (id : ℤ) (fs : List Field) → Finds id fs 0 None
none_found id fs = found_none (find_field id (fields_view fs))

or_later : (r : Option compact.Item) (b : Bool) (x : compact.Item) (found : Option compact.Item) → or_else (or_else r (if b then Some x else None)) found ≡ or_else r (if b then Some x else found)
or_later None true x found = refl
or_later None false x found = refl
or_later (Some y) b x found = refl

next_found : (id : ℤ) (fs : List Field) (k : ℕ) (f : Field) (found : Option compact.Item) → k < length fs → f ≡ get_or fs k f → Finds id fs k found → or_else (find_field id (fields_view (drop (k + 1) fs))) (if int_le id f.id && int_le f.id id then Some (item_view f.item) else found) ≡ find_field id (fields_view fs)
next_found id fs k f found l h p =
    let here = drop_more fs k f l ∙ ap (λ x. x ∷ drop (k + 1) fs) (sym h) in
    sym (or_later (find_field id (fields_view (drop (k + 1) fs))) (int_le id f.id && int_le f.id id) (item_view f.item) found)
    ∙ (sym (ap (λ o. or_else o found) (ap (λ xs. find_field id (fields_view xs)) here ∙ ap (λ (x : SeenField). or_else (find_field id (fields_view (drop (k + 1) fs))) (if int_le id x.id && int_le x.id id then Some x.value else None)) (view-field f)))
    ∙ p)

both_le : (i : ℤ) → (int_le i i && int_le i i) ≡ true
both_le (pos n) = rw (le-leb n n (omega arith)) refl
both_le (negsuc n) = rw (le-leb n n (omega arith)) refl

one_number : (m n : ℕ) → (nat_le m n && nat_le n m) ≡ true → m ≡ n
one_number m n h = let p = and_parts _ _ h in omega (arith, leb-true m n p.0, leb-true n m p.1)

one_id : (i j : ℤ) → (int_le i j && int_le j i) ≡ true → j ≡ i
one_id (pos m) (pos n) h = ap pos (sym (one_number m n h))
one_id (pos m) (negsuc n) h = absurd (true≢false (sym h))
one_id (negsuc m) (pos n) h = absurd (true≢false (sym h))
one_id (negsuc m) (negsuc n) h = ap negsuc (one_number n m h)

not_both : (i j : ℤ) → (j ≡ i → ⊥) → (int_le i j && int_le j i) ≡ false
not_both i j h = by (int_le i j && int_le j i) refl
  where
    by : (b : Bool) → (int_le i j && int_le j i) ≡ b → b ≡ false
    by true e = absurd (h (one_id i j e))
    by false e = refl

pub this_found : (id : ℤ) (fs : List Field) (k : ℕ) (f : Field) (found : Option compact.Item) → k < length fs → f ≡ get_or fs k f → f.id ≡ id → Finds id fs k found → Finds id fs (k + 1) (Some (item_view f.item))
this_found id fs k f found l h e p =
    let t : (int_le id f.id && int_le f.id id) ≡ true = rw e (both_le id) in
    rw t at (next_found id fs k f found l h p)

pub other_found : (id : ℤ) (fs : List Field) (k : ℕ) (f : Field) (found : Option compact.Item) → k < length fs → f ≡ get_or fs k f → (f.id ≡ id → ⊥) → Finds id fs k found → Finds id fs (k + 1) found
other_found id fs k f found l h e p =
    let t : (int_le id f.id && int_le f.id id) ≡ false = not_both id f.id e in
    rw t at (next_found id fs k f found l h p)

pub all_found : (id : ℤ) (fs : List Field) (k : ℕ) (found : Option compact.Item) → length fs ≤ k → Finds id fs k found → found ≡ find_field id (fields_view fs)
all_found id fs k found l p = sym (ap (λ xs. or_else (find_field id (fields_view xs)) found) (drop_all k fs l)) ∙ p

-- ---- values of other types

pub no_truth : (x : items.Item) → ((a : Bool) → x ≡ variants.Truth a → ⊥) → None ≡ metadata.as_truth (item_view x)
no_truth x h = by (items.out-Item x) refl
  where
    by : (y : _) → items.out-Item x ≡ y → None ≡ metadata.as_truth (item_view x)
    by (Item-F.Truth a) e = absurd (h a (sym (items.roll-out-Item x) ∙ (ap items.roll-Item e ∙ variants.rolls-Truth a)))
    by y e = search (rules, items.the_lemmas)

pub no_i32 : (x : items.Item) → ((a : ℤ) → x ≡ variants.I32 a → ⊥) → None ≡ metadata.as_i32 (item_view x)
no_i32 x h = by (items.out-Item x) refl
  where
    by : (y : _) → items.out-Item x ≡ y → None ≡ metadata.as_i32 (item_view x)
    by (Item-F.I32 a) e = absurd (h a (sym (items.roll-out-Item x) ∙ (ap items.roll-Item e ∙ variants.rolls-I32 a)))
    by y e = search (rules, items.the_lemmas)

pub no_i64 : (x : items.Item) → ((a : ℤ) → x ≡ variants.I64 a → ⊥) → None ≡ metadata.as_i64 (item_view x)
no_i64 x h = by (items.out-Item x) refl
  where
    by : (y : _) → items.out-Item x ≡ y → None ≡ metadata.as_i64 (item_view x)
    by (Item-F.I64 a) e = absurd (h a (sym (items.roll-out-Item x) ∙ (ap items.roll-Item e ∙ variants.rolls-I64 a)))
    by y e = search (rules, items.the_lemmas)

pub no_binary : (x : items.Item) → ((a : Bor (List ℕ)) → x ≡ variants.Binary a → ⊥) → None ≡ metadata.as_binary (item_view x)
no_binary x h = by (items.out-Item x) refl
  where
    by : (y : _) → items.out-Item x ≡ y → None ≡ metadata.as_binary (item_view x)
    by (Item-F.Binary a) e = absurd (h a (sym (items.roll-out-Item x) ∙ (ap items.roll-Item e ∙ variants.rolls-Binary a)))
    by y e = search (rules, items.the_lemmas)

pub no_struct : (x : items.Item) → ((a : Tree) → x ≡ variants.Struct a → ⊥) → None ≡ metadata.as_struct (item_view x)
no_struct x h = by (items.out-Item x) refl
  where
    by : (y : _) → items.out-Item x ≡ y → None ≡ metadata.as_struct (item_view x)
    by (Item-F.Struct a) e = absurd (h a (sym (items.roll-out-Item x) ∙ (ap items.roll-Item e ∙ variants.rolls-Struct a)))
    by y e = search (rules, items.the_lemmas)

pub no_list_of_structs : (x : items.Item) → ((a : Values) → x ≡ variants.List a → ⊥) → None ≡ metadata.as_structs (item_view x)
no_list_of_structs x h = by (items.out-Item x) refl
  where
    by : (y : _) → items.out-Item x ≡ y → None ≡ metadata.as_structs (item_view x)
    by (Item-F.List a) e = absurd (h a (sym (items.roll-out-Item x) ∙ (ap items.roll-Item e ∙ variants.rolls-List a)))
    by y e = search (rules, items.the_lemmas)

pub no_list_of_numbers : (x : items.Item) → ((a : Values) → x ≡ variants.List a → ⊥) → None ≡ metadata.as_numbers (item_view x)
no_list_of_numbers x h = by (items.out-Item x) refl
  where
    by : (y : _) → items.out-Item x ≡ y → None ≡ metadata.as_numbers (item_view x)
    by (Item-F.List a) e = absurd (h a (sym (items.roll-out-Item x) ∙ (ap items.roll-Item e ∙ variants.rolls-List a)))
    by y e = search (rules, items.the_lemmas)

pub no_list_of_names : (x : items.Item) → ((a : Values) → x ≡ variants.List a → ⊥) → None ≡ metadata.as_names (item_view x)
no_list_of_names x h = by (items.out-Item x) refl
  where
    by : (y : _) → items.out-Item x ≡ y → None ≡ metadata.as_names (item_view x)
    by (Item-F.List a) e = absurd (h a (sym (items.roll-out-Item x) ∙ (ap items.roll-Item e ∙ variants.rolls-List a)))
    by y e = search (rules, items.the_lemmas)

no_structs_truths : (t : TruthType) (xs : compact.Items) → None ≡ metadata.as_structs (compact.list_item (truth_type_view t) xs)
no_structs_truths TruthType.True xs = refl
no_structs_truths TruthType.False xs = refl

pub no_structs : (v : Values) → ((a : Vec Tree Global) → v ≡ lists.Structs a → ⊥) → None ≡ metadata.as_structs (listed v)
no_structs v h = by (values.out-Values v) refl
  where
    by : (y : _) → values.out-Values v ≡ y → None ≡ metadata.as_structs (listed v)
    by (Values-F.Structs a) e = absurd (h a (sym (values.roll-out-Values v) ∙ (ap values.roll-Values e ∙ lists.rolls-Structs a)))
    by (Values-F.Truths t a) e =
        let here : v ≡ lists.Truths t a = sym (values.roll-out-Values v) ∙ (ap values.roll-Values e ∙ lists.rolls-Truths t a) in
        no_structs_truths t (items_from (map compact.truth_item a.items)) ∙ sym (ap metadata.as_structs (list_is v (seen (truth_type_view t) (map compact.truth_item a.items)) (ap values_view here ∙ view-truths t a)))
    by y e = search (rules, values.the_lemmas)

no_numbers_truths : (t : TruthType) (xs : compact.Items) → None ≡ metadata.as_numbers (compact.list_item (truth_type_view t) xs)
no_numbers_truths TruthType.True xs = refl
no_numbers_truths TruthType.False xs = refl

pub no_numbers : (v : Values) → ((a : Vec ℤ Global) → v ≡ lists.I32s a → ⊥) → None ≡ metadata.as_numbers (listed v)
no_numbers v h = by (values.out-Values v) refl
  where
    by : (y : _) → values.out-Values v ≡ y → None ≡ metadata.as_numbers (listed v)
    by (Values-F.I32s a) e = absurd (h a (sym (values.roll-out-Values v) ∙ (ap values.roll-Values e ∙ lists.rolls-I32s a)))
    by (Values-F.Truths t a) e =
        let here : v ≡ lists.Truths t a = sym (values.roll-out-Values v) ∙ (ap values.roll-Values e ∙ lists.rolls-Truths t a) in
        no_numbers_truths t (items_from (map compact.truth_item a.items)) ∙ sym (ap metadata.as_numbers (list_is v (seen (truth_type_view t) (map compact.truth_item a.items)) (ap values_view here ∙ view-truths t a)))
    by y e = search (rules, values.the_lemmas)

no_names_truths : (t : TruthType) (xs : compact.Items) → None ≡ metadata.as_names (compact.list_item (truth_type_view t) xs)
no_names_truths TruthType.True xs = refl
no_names_truths TruthType.False xs = refl

pub no_names : (v : Values) → ((a : Vec (Bor (List ℕ)) Global) → v ≡ lists.Binaries a → ⊥) → None ≡ metadata.as_names (listed v)
no_names v h = by (values.out-Values v) refl
  where
    by : (y : _) → values.out-Values v ≡ y → None ≡ metadata.as_names (listed v)
    by (Values-F.Binaries a) e = absurd (h a (sym (values.roll-out-Values v) ∙ (ap values.roll-Values e ∙ lists.rolls-Binaries a)))
    by (Values-F.Truths t a) e =
        let here : v ≡ lists.Truths t a = sym (values.roll-out-Values v) ∙ (ap values.roll-Values e ∙ lists.rolls-Truths t a) in
        no_names_truths t (items_from (map compact.truth_item a.items)) ∙ sym (ap metadata.as_names (list_is v (seen (truth_type_view t) (map compact.truth_item a.items)) (ap values_view here ∙ view-truths t a)))
    by y e = search (rules, values.the_lemmas)
