-- Triplets of a column are taken by each column of its leaf.
use Rattle.std.proofs.Common.{◌≡◌, ◌≤◌, ℕ, zero, suc, List, [], ◌∷◌, length, map, drop, Bool, true, false, refl, sym, ◌∙◌, subst, true≢false, arith, Some, None}
use Rattle.std.specs.Prelude.{◌==◌, ℤ, if◌then◌else◌}
use Rattle.std.specs.List.{list_all}
use Rattle.std.proofs.lemmas.Bool.{and_parts}
use Rattle.std.proofs.lemmas.List.{length-drop}
use Rattle.dr_meaning.specs.Schema as tree
use Rattle.dr_meaning.specs.Record.{Value, bool_value, int_value}
use Rattle.dr_meaning.specs.Column.{Triplet, triplet}
use Rattle.dr_nested.specs.Views.{kind_view}
use Rattle.dr_levels.specs.declared.triplet.Levels.{Levels}
use Rattle.dr_levels.specs.declared.triplets.Triplets.{Triplets}
use Rattle.dr_levels.specs.declared.values.Values.{Values}
use Rattle.dr_levels.specs.declared.text_place.TextPlace.{TextPlace}
use Rattle.dr_levels.specs.Dense.{values_view, text_values, holds_kind, present, joined}
use Rattle.dr_levels.specs.Columns.{is_held, takes}
use Rattle.dr_levels.specs.Views.{triplets_view, triplets_form, form}

-- ---- the values of a kind

bools_held : (bs : List Bool) → list_all (is_held tree.bool_kind) (map bool_value bs) ≡ true
bools_held [] = refl
bools_held (b ∷ bs) = bools_held bs

integers_held : (zs : List ℤ) → (list_all (is_held tree.int32_kind) (map int_value zs) ≡ true) × (list_all (is_held tree.int64_kind) (map int_value zs) ≡ true)
integers_held [] = (refl, refl)
integers_held (z ∷ zs) = integers_held zs

texts_held : (bytes : List ℕ) (ps : List TextPlace) → list_all (is_held tree.text_kind) (text_values bytes ps) ≡ true
texts_held bytes [] = refl
texts_held bytes (p ∷ ps) = texts_held bytes ps

all_held : (k : tree.Kind) (vs : Values) → holds_kind k vs ≡ true → list_all (is_held k) (values_view vs) ≡ true
all_held tree.bool_kind (Values.Bools v) h = bools_held v.items
all_held tree.int32_kind (Values.Integers v) h = (integers_held v.items).0
all_held tree.int64_kind (Values.Integers v) h = (integers_held v.items).1
all_held tree.text_kind (Values.Texts ts) h = texts_held ts.bytes.items ts.places.items
all_held tree.bool_kind (Values.Integers v) h = absurd (true≢false (sym h))
all_held tree.bool_kind (Values.Texts v) h = absurd (true≢false (sym h))
all_held tree.int32_kind (Values.Bools v) h = absurd (true≢false (sym h))
all_held tree.int32_kind (Values.Texts v) h = absurd (true≢false (sym h))
all_held tree.int64_kind (Values.Bools v) h = absurd (true≢false (sym h))
all_held tree.int64_kind (Values.Texts v) h = absurd (true≢false (sym h))
all_held tree.text_kind (Values.Bools v) h = absurd (true≢false (sym h))
all_held tree.text_kind (Values.Integers v) h = absurd (true≢false (sym h))

held_behind : (k : tree.Kind) (n : ℕ) (vs : List Value) → list_all (is_held k) vs ≡ true → list_all (is_held k) (drop n vs) ≡ true
held_behind k zero vs h = h
held_behind k (suc n) [] h = refl
held_behind k (suc n) (v ∷ vs) h = held_behind k n vs (and_parts (is_held k v) (list_all (is_held k) vs) h).1

-- ---- the first triplet

same_first : (x y : Triplet) (xs ys : List Triplet) → x ∷ xs ≡ y ∷ ys → x ≡ y
same_first x y xs ys e = cc

first_taken : (k : tree.Kind) (g : ℕ) (ls : List Levels) (vs : List Value) (x : Triplet) (xs : List Triplet) → present g ls ≤ length vs → list_all (is_held k) vs ≡ true → joined g ls vs ≡ x ∷ xs → takes (form k g) x ≡ true
first_taken k g [] vs x xs n h e = absurd (cc)
first_taken k g (l ∷ ls) vs x xs n h e = by_level (l.definition == g) refl vs n h e
  where
    by_level : (b : Bool) → (l.definition == g) ≡ b → (vs : List Value) → (if b then suc (present g ls) else present g ls) ≤ length vs → list_all (is_held k) vs ≡ true
        → joined g (l ∷ ls) vs ≡ x ∷ xs → takes (form k g) x ≡ true
    by_level true q [] n h e = absurd (omega (arith, n))
    by_level true q (v ∷ vs) n h e =
        let at : joined g (l ∷ ls) (v ∷ vs) ≡ triplet l.repetition l.definition (Some v) ∷ joined g ls vs = rw q refl in
        let is = same_first (triplet l.repetition l.definition (Some v)) x (joined g ls vs) xs (sym at ∙ e) in
        subst (λ (y : Triplet). takes (form k g) y ≡ true) is (rw q (and_parts (is_held k v) (list_all (is_held k) vs) h).0)
    by_level false q vs n h e =
        let at : joined g (l ∷ ls) vs ≡ triplet l.repetition l.definition None ∷ joined g ls vs = rw q refl in
        let is = same_first (triplet l.repetition l.definition None) x (joined g ls vs) xs (sym at ∙ e) in
        subst (λ (y : Triplet). takes (form k g) y ≡ true) is (rw q refl)

-- of a column
pub first_of_column : (r : Triplets) (x : Triplet) (xs : List Triplet) → triplets_view r ≡ x ∷ xs → takes (triplets_form r) x ≡ true
first_of_column r x xs e =
    let c = r.column.now in
    let vs = values_view c.values in
    let n = length-drop r.value vs in
    first_taken (kind_view c.kind) c.greatest r.levels.now (drop r.value vs) x xs (omega (arith, n, r.there)) (held_behind (kind_view c.kind) r.value vs (all_held (kind_view c.kind) c.values c.kinds)) e
