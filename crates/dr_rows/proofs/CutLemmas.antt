-- The rows of a level within a row that is cut along the level's first steps.
use Rattle.std.specs.Prelude.{◌≡◌, ℕ, List, [], ◌∷◌, ◌++◌, length, map, Bool, true, false, ◌==◌, if◌then◌else◌, Option, Some, None}
use Rattle.std.proofs.Common.{refl, sym, ap, ap₂, ◌∙◌, arith, append_assoc, append-nil}
use Rattle.std.proofs.lemmas.Bool.Decides.{nat_tests}
use Rattle.dr_meaning.specs.Path.{Step}
use Rattle.dr_meaning.specs.Record.{Value, Node, Instances, no_instances, instance, Instance, inner, instances_in}
use Rattle.dr_meaning.specs.Rows.{rows, first_value, value_in}
use Rattle.dr_rows.specs.Known.{Known, known, end_in, first_end, is_cut, is_cut_in, only_one, values_at}
use Rattle.dr_rows.specs.Walking.{behind, filled, filled_one, for_each, for_some, rows_below, rows_from_end}
use Rattle.dr_rows.proofs.WalkingLemmas.{behind_step, behind_further, keeps_fill, rows_kept}
use Rattle.dr_rows.proofs.RowsLemmas.{rows_are, values_from_start}

-- ---- the first instance has the values that are taken

same_place : (i j : ℕ) → (i == j) ≡ true → i ≡ j
same_place i j h = grind (arith, nat_tests)

first_step : (b : Bool) (s t : Step) (l : List Step) (x y : Instance) (ys : Instances) → (s.place == t.place) ≡ b → instances_in s.place x ≡ instance y ys
    → filled_one (if b then Some l else None) y (first_value (value_in l) (instances_in t.place x)) ≡ first_value (value_in l) (instances_in t.place x)
first_step true s t l x y ys h e = sym (ap (λ (k : ℕ). first_value (value_in l) (instances_in k x)) (sym (same_place s.place t.place h)) ∙ ap (first_value (value_in l)) e)
first_step false s t l x y ys h e = refl

first_one : (o : Option (List Step)) (s : Step) (x y : Instance) (ys : Instances) (v : Option Value) → instances_in s.place x ≡ instance y ys
    → filled_one (behind_step s o) y (filled_one o x v) ≡ filled_one o x v
first_one None s x y ys v e = refl
first_one (Some []) s x y ys v e = refl
first_one (Some (t ∷ l)) s x y ys v e = first_step (s.place == t.place) s t l x y ys refl e

first_values : (q : List Step) (s : Step) (x y : Instance) (ys : Instances) (ps : List (List Step)) (vs : List (Option Value)) → instances_in s.place x ≡ instance y ys
    → filled (q ++ s ∷ []) y ps (filled q x ps vs) ≡ filled q x ps vs
first_values q s x y ys [] vs e = refl
first_values q s x y ys (p ∷ ps) [] e = refl
first_values q s x y ys (p ∷ ps) (v ∷ vs) e =
    ap₂ (λ (o : Option Value) (os : List (Option Value)). o ∷ os)
    (ap (λ (o : Option (List Step)). filled_one o y (filled_one (behind q p) x v)) (behind_further q s p) ∙ first_one (behind q p) s x y ys v e)
    (first_values q s x y ys ps vs e)

-- ---- along the steps at which a row is cut

no_end : (y : Instance) → None ≡ Some y → ⊥
no_end y e = cc

one_alone : (f : Instance → List Known) (x : Instance) → for_each f (instance x no_instances) ≡ f x
one_alone f x = append-nil (f x)

some_end : (q : List Step) (s : Step) (p r : List Step) (x y : Instance) (xs : Instances) (ps : List (List Step)) (vs : List (Option Value)) → instances_in s.place x ≡ xs
    → ((z : Instance) (us : List (Option Value)) → is_cut_in p z ≡ true → end_in p z ≡ Some y → rows_below ps (q ++ s ∷ []) (p ++ r) z us ≡ rows_below ps ((q ++ s ∷ []) ++ p) r y (filled (q ++ s ∷ []) z ps us))
    → only_one (is_cut_in p) xs ≡ true → first_end (end_in p) xs ≡ Some y
    → for_some (λ (z : Instance). rows_below ps (q ++ s ∷ []) (p ++ r) z (filled q x ps vs)) (filled q x ps vs) xs ≡ rows_below ps (q ++ s ∷ p) r y (filled q x ps vs)
some_end q s p r x y no_instances ps vs e ih h g = absurd (no_end y g)
some_end q s p r x y (instance z no_instances) ps vs e ih h g =
    one_alone (λ (w : Instance). rows_below ps (q ++ s ∷ []) (p ++ r) w (filled q x ps vs)) z
    ∙ ih z (filled q x ps vs) h g
    ∙ ap (rows_below ps ((q ++ s ∷ []) ++ p) r y) (first_values q s x z no_instances ps vs e)
    ∙ ap (λ (t : List Step). rows_below ps t r y (filled q x ps vs)) (append_assoc q (s ∷ []) p)
some_end q s p r x y (instance z (instance w xs)) ps vs e ih h g = cc

pub below_end : (p q r : List Step) (x y : Instance) (ps : List (List Step)) (vs : List (Option Value)) → is_cut_in p x ≡ true → end_in p x ≡ Some y
    → rows_below ps q (p ++ r) x vs ≡ rows_below ps (q ++ p) r y (filled q x ps vs)
below_end [] q r x y ps vs h g =
    let e : x ≡ y = cc in
    sym (rows_kept ps q r x vs (filled q x ps vs) (keeps_fill ps q x vs (filled q x ps vs) refl))
    ∙ ap₂ (λ (t : List Step) (z : Instance). rows_below ps t r z (filled q x ps vs)) (sym (append-nil q)) e
below_end (s ∷ p) q r x y ps vs h g =
    some_end q s p r x y (instances_in s.place x) ps vs refl (λ (z : Instance) (us : List (Option Value)) (c : is_cut_in p z ≡ true) (d : end_in p z ≡ Some y). below_end p (q ++ s ∷ []) r z y ps us c d) h g

absent_end : (q : List Step) (s : Step) (p r : List Step) (x : Instance) (xs : Instances) (ps : List (List Step)) (vs : List (Option Value)) → instances_in s.place x ≡ xs
    → ((z : Instance) (us : List (Option Value)) → is_cut_in p z ≡ true → end_in p z ≡ None → rows_below ps (q ++ s ∷ []) (p ++ r) z us ≡ record { values = filled (q ++ s ∷ []) z ps us; end = None } ∷ [])
    → only_one (is_cut_in p) xs ≡ true → first_end (end_in p) xs ≡ None
    → for_some (λ (z : Instance). rows_below ps (q ++ s ∷ []) (p ++ r) z (filled q x ps vs)) (filled q x ps vs) xs ≡ record { values = filled q x ps vs; end = None } ∷ []
absent_end q s p r x no_instances ps vs e ih h g = refl
absent_end q s p r x (instance z no_instances) ps vs e ih h g =
    one_alone (λ (w : Instance). rows_below ps (q ++ s ∷ []) (p ++ r) w (filled q x ps vs)) z
    ∙ ih z (filled q x ps vs) h g
    ∙ ap (λ (us : List (Option Value)). record { values = us; end = None } ∷ []) (first_values q s x z no_instances ps vs e)
absent_end q s p r x (instance z (instance w xs)) ps vs e ih h g = cc

pub below_absent : (p q r : List Step) (x : Instance) (ps : List (List Step)) (vs : List (Option Value)) → is_cut_in p x ≡ true → end_in p x ≡ None
    → rows_below ps q (p ++ r) x vs ≡ record { values = filled q x ps vs; end = None } ∷ []
below_absent [] q r x ps vs h g = cc
below_absent (s ∷ p) q r x ps vs h g =
    absent_end q s p r x (instances_in s.place x) ps vs refl (λ (z : Instance) (us : List (Option Value)) (c : is_cut_in p z ≡ true) (d : end_in p z ≡ None). below_absent p (q ++ s ∷ []) r z ps us c d) h g

-- ---- the rows within a row

by_end : (ps : List (List Step)) (p r : List Step) (n : Node) (vs : List (Option Value)) (o : Option Instance) → length vs ≡ length ps → is_cut p n ≡ true → end_in p (inner n) ≡ o
    → rows_from_end ps p r (values_at ps n) o ≡ rows_below ps [] (p ++ r) (inner n) vs
by_end ps p r n vs None l h e = ap (λ (us : List (Option Value)). record { values = us; end = None } ∷ []) (sym (values_from_start ps n vs l)) ∙ sym (below_absent p [] r (inner n) ps vs h e)
by_end ps p r n vs (Some y) l h e = ap (rows_below ps p r y) (sym (values_from_start ps n vs l)) ∙ sym (below_end p [] r (inner n) y ps vs h e)

pub within_are : (ps : List (List Step)) (p r chain : List Step) (n : Node) (k : Known) → length k.values ≡ length ps → chain ≡ p ++ r → is_cut p n ≡ true → k ≡ known ps p n
    → rows_from_end ps p r k.values k.end ≡ map (known ps chain) (rows chain n)
within_are ps p r chain n k l d h e =
    ap (λ (x : Known). rows_from_end ps p r x.values x.end) e ∙ by_end ps p r n k.values (end_in p (inner n)) l h refl
    ∙ ap (λ (t : List Step). rows_below ps [] t (inner n) k.values) (sym d) ∙ rows_are ps chain n k.values l
