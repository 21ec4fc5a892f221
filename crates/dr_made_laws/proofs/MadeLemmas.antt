-- What values and objects are among what was made, and what goes on to the instance around.
use Rattle.std.proofs.Common.{◌≡◌, ℕ, zero, suc, ◌+◌, ◌<◌, List, [], ◌∷◌, ◌++◌, Bool, true, false, Option, Some, refl, sym, ap, ap₂, ◌∙◌, arith}
use Rattle.std.specs.Prelude.{map, ◌==◌, if◌then◌else◌}
use Rattle.std.specs.List.{slice_get}
use Rattle.std.proofs.lemmas.Bool.{eq-eqb, ne_eqb}
use Rattle.dr_meaning.specs.Path.{Step, same_path}
use Rattle.dr_meaning.specs.Record.{Value}
use Rattle.dr_meaning.specs.Query.{RecordTerm, expression, within, RecordItem, Object, cell, objects_of, aggregated, present_values, Levels, no_levels, deeper, term_chain, leads_to_items, with_list}
use Rattle.dr_moves.specs.Context.{Context}
use Rattle.dr_kept_laws.specs.GroupFlow.{Reading, fired_if}
use Rattle.dr_made_laws.specs.ObjectFlow.{Made, built, taken, ReadItem, items_of, values_for, objects_for, taken_for, taken_from, level_count, gathered, value_made, cells_made, lists_made, is_own, passed_on}
use Rattle.dr_made_laws.specs.ObjectFlowLaws.{PartsMakeObject}

-- ---- one part behind another

pub values_append : (j : ℕ) (a b : List Made) → values_for j (a ++ b) ≡ values_for j a ++ values_for j b
values_append j [] b = refl
values_append j (built k o ∷ a) b = values_append j a b
values_append j (taken i v ∷ a) b = by_place (i == j) (values_append j a b)
  where
    by_place : (d : Bool) → values_for j (a ++ b) ≡ values_for j a ++ values_for j b → (if d then v ∷ values_for j (a ++ b) else values_for j (a ++ b)) ≡ (if d then v ∷ values_for j a else values_for j a) ++ values_for j b
    by_place true e = ap (λ (x : List (Option Value)). v ∷ x) e
    by_place false e = e

pub objects_append : (k : ℕ) (a b : List Made) → objects_for k (a ++ b) ≡ objects_for k a ++ objects_for k b
objects_append k [] b = refl
objects_append k (built i o ∷ a) b = by_number (i == k) (objects_append k a b)
  where
    by_number : (d : Bool) → objects_for k (a ++ b) ≡ objects_for k a ++ objects_for k b → (if d then o ∷ objects_for k (a ++ b) else objects_for k (a ++ b)) ≡ (if d then o ∷ objects_for k a else objects_for k a) ++ objects_for k b
    by_number true e = ap (λ (x : List Object). o ∷ x) e
    by_number false e = e
objects_append k (taken i v ∷ a) b = objects_append k a b

-- ---- what goes on

pub passed_objects : (items : List RecordItem) (p : List Step) (k : ℕ) (ms : List Made) → objects_for k (passed_on items p ms) ≡ []
passed_objects items p k [] = refl
passed_objects items p k (built i o ∷ ms) = passed_objects items p k ms
passed_objects items p k (taken i v ∷ ms) = by_own (is_own items p i) (passed_objects items p k ms)
  where
    by_own : (d : Bool) → objects_for k (passed_on items p ms) ≡ [] → objects_for k (if d then passed_on items p ms else taken i v ∷ passed_on items p ms) ≡ []
    by_own true e = e
    by_own false e = e

pub passed_values : (items : List RecordItem) (p : List Step) (j : ℕ) → is_own items p j ≡ false → (ms : List Made) → values_for j (passed_on items p ms) ≡ values_for j ms
passed_values items p j h [] = refl
passed_values items p j h (built i o ∷ ms) = passed_values items p j h ms
passed_values items p j h (taken i v ∷ ms) = by_own (is_own items p i) refl (passed_values items p j h ms)
  where
    other : is_own items p i ≡ true → (i == j) ≡ false
    other e = ne_eqb i j (λ (q : i ≡ j). let x : true ≡ false = sym e ∙ ap (is_own items p) q ∙ h in cc)

    by_own : (d : Bool) → is_own items p i ≡ d → values_for j (passed_on items p ms) ≡ values_for j ms
        → values_for j (if d then passed_on items p ms else taken i v ∷ passed_on items p ms) ≡ (if i == j then v ∷ values_for j ms else values_for j ms)
    by_own true f e = e ∙ ap (λ (b : Bool). if b then v ∷ values_for j ms else values_for j ms) (sym (other f))
    by_own false f e = ap (λ (x : List (Option Value)). if i == j then v ∷ x else x) e

-- ---- what is taken at a triplet

taken_objects : (k j : ℕ) (vs : List (Option Value)) → objects_for k (map (taken j) vs) ≡ []
taken_objects k j [] = refl
taken_objects k j (v ∷ vs) = taken_objects k j vs

pub seen_objects : (k j : ℕ) (rs : List ReadItem) (i : ℕ) (c : Context) → objects_for k (taken_from j rs i c) ≡ []
seen_objects k j [] i c = refl
seen_objects k j (r ∷ rs) i c =
    objects_append k (taken_for r.item.term r.reading j i c) (taken_from (suc j) rs i c)
    ∙ ap₂ (λ (x y : List Object). x ++ y) (by_term r.item.term) (seen_objects k (suc j) rs i c)
  where
    by_term : (t : RecordTerm) → objects_for k (taken_for t r.reading j i c) ≡ []
    by_term (expression e) = refl
    by_term (within a e node) = taken_objects k j (fired_if r.reading.leaf r.reading.fires i c)

taken_here : (j : ℕ) (vs : List (Option Value)) → values_for j (map (taken j) vs) ≡ vs
taken_here j [] = refl
taken_here j (v ∷ vs) = ap (λ (b : Bool). if b then v ∷ values_for j (map (taken j) vs) else values_for j (map (taken j) vs)) (eq-eqb j j refl) ∙ ap (λ (x : List (Option Value)). v ∷ x) (taken_here j vs)

taken_there : (i j : ℕ) (vs : List (Option Value)) → (i == j) ≡ false → values_for j (map (taken i) vs) ≡ []
taken_there i j [] h = refl
taken_there i j (v ∷ vs) h = ap (λ (b : Bool). if b then v ∷ values_for j (map (taken i) vs) else values_for j (map (taken i) vs)) h ∙ taken_there i j vs h

none_for : (b j : ℕ) (r : ReadItem) (i : ℕ) (c : Context) → (b == j) ≡ false → values_for j (taken_for r.item.term r.reading b i c) ≡ []
none_for b j r i c h = by_term r.item.term
  where
    by_term : (t : RecordTerm) → values_for j (taken_for t r.reading b i c) ≡ []
    by_term (expression e) = refl
    by_term (within a e node) = taken_there b j (fired_if r.reading.leaf r.reading.fires i c) h

none_behind : (b j : ℕ) (rs : List ReadItem) (i : ℕ) (c : Context) → j < b → values_for j (taken_from b rs i c) ≡ []
none_behind b j [] i c h = refl
none_behind b j (r ∷ rs) i c h =
    values_append j (taken_for r.item.term r.reading b i c) (taken_from (suc b) rs i c)
    ∙ ap₂ (λ (x y : List (Option Value)). x ++ y) (none_for b j r i c (ne_eqb b j (omega (arith, h)))) (none_behind (suc b) j rs i c (omega (arith, h)))

-- the term of the item at a place, which is an aggregate
abbrev pub IsWithin : RecordTerm → Type 0
IsWithin (expression e) = ⊥
IsWithin (within a e node) = Unit {0}

append_none : {X : Type 0} (xs ys zs : List X) → xs ≡ zs → ys ≡ [] → xs ++ ys ≡ zs
append_none [] ys zs e f = f ∙ e
append_none {X} (x ∷ xs) ys [] e f = absurd (cc)
append_none {X} (x ∷ xs) ys (z ∷ zs) e f =
    let a : x ≡ z = cc in
    let b : xs ≡ zs = cc in
    ap₂ (λ (y : X) (ys : List X). y ∷ ys) a (append_none xs ys zs b f)

-- for an aggregate what its reading fires
pub taken_at : (b n : ℕ) (rs : List ReadItem) (r : ReadItem) → slice_get rs n ≡ Some r → IsWithin r.item.term → (i : ℕ) (c : Context) → values_for (b + n) (taken_from b rs i c) ≡ fired_if r.reading.leaf r.reading.fires i c
taken_at b n [] r e w i c = absurd (cc)
taken_at b zero (t ∷ rs) r e w i c =
    let x : t ≡ r = cc in
    let z : b + 0 ≡ b = omega arith in
    ap (λ (j : ℕ). values_for j (taken_from b (t ∷ rs) i c)) z
    ∙ values_append b (taken_for t.item.term t.reading b i c) (taken_from (suc b) rs i c)
    ∙ append_none (values_for b (taken_for t.item.term t.reading b i c)) (values_for b (taken_from (suc b) rs i c)) (fired_if r.reading.leaf r.reading.fires i c)
    (ap (λ (u : ReadItem). values_for b (taken_for u.item.term u.reading b i c)) x ∙ by_term r.item.term w) (none_behind (suc b) b rs i c (omega arith))
  where
    by_term : (t : RecordTerm) → IsWithin t → values_for b (taken_for t r.reading b i c) ≡ fired_if r.reading.leaf r.reading.fires i c
    by_term (expression e) h = absurd h
    by_term (within a e node) h = taken_here b (fired_if r.reading.leaf r.reading.fires i c)
taken_at b (suc n) (t ∷ rs) r e w i c =
    let z : b + suc n ≡ suc b + n = omega arith in
    ap (λ (j : ℕ). values_for j (taken_from b (t ∷ rs) i c)) z
    ∙ values_append (suc b + n) (taken_for t.item.term t.reading b i c) (taken_from (suc b) rs i c)
    ∙ ap₂ (λ (x y : List (Option Value)). x ++ y) (none_for b (suc b + n) t i c (ne_eqb b (suc b + n) (omega arith))) (taken_at (suc b) n rs r e w i c)

-- ---- an object of the same values and objects

same_value : (t : RecordTerm) (r : Reading (Option Value)) (j : ℕ) (c : Context) (inner other : List Made) → values_for j inner ≡ values_for j other → value_made t r j c inner ≡ value_made t r j c other
same_value (expression e) r j c inner other h = refl
same_value (within a e node) r j c inner other h = ap (λ (vs : List (Option Value)). aggregated a (present_values (gathered r.leaf (r.fires c) vs))) h

same_cells : (j : ℕ) (rs : List ReadItem) (p : List Step) (c : Context) (inner other : List Made) → ((j : ℕ) → values_for j inner ≡ values_for j other) → (rest more : Object) → rest ≡ more → cells_made j rs p c inner rest ≡ cells_made j rs p c other more
same_cells j [] p c inner other h rest more e = e
same_cells j (r ∷ rs) p c inner other h rest more e =
    ap₂ (λ (v : Option Value) (o : Object). if same_path p (term_chain r.item.term) then cell r.item.name v o else o) (same_value r.item.term r.reading j c inner other (h j)) (same_cells (suc j) rs p c inner other h rest more e)

same_lists : (items : List RecordItem) (k : ℕ) (ls : Levels) (inner other : List Made) → ((i : ℕ) → objects_for i inner ≡ objects_for i other) → lists_made items k ls inner ≡ lists_made items k ls other
same_lists items k no_levels inner other h = refl
same_lists items k (deeper names p below beside) inner other h =
    ap₂ (λ (os : List Object) (o : Object). with_list (leads_to_items items p) names (objects_of os) o) (h k) (same_lists items (suc k + level_count below) beside inner other h)

pub parts_make_object : PartsMakeObject
parts_make_object rs k l c inner other h g =
    same_cells 0 rs l.path c inner other h (lists_made (items_of rs) k l.below inner) (lists_made (items_of rs) k l.below other) (same_lists (items_of rs) k l.below inner other g)
