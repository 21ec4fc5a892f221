-- Which levels may follow one another.
use Rattle.std.proofs.Common.{◌≡◌, ℕ, zero, suc, ◌+◌, ◌-◌, List, [], ◌∷◌, length, take, set, get_or, ◌<◌, ◌≤◌, inl, inr, refl, sym, ap, subst, ◌∙◌, arith}
use Rattle.std.specs.Prelude.{◌≢◌, ◌⊎◌, if◌then◌else◌, replicate}
use Rattle.std.proofs.lemmas.Bool.{ne_eqb, eq-eqb, le-leb, cases_eq}
use Rattle.std.proofs.lemmas.Bool.Decides.{nat_tests}
use Rattle.std.proofs.lemmas.List.{take_all, length-replicate, length-set, get_or-set_same, get_or-set_other, get_or-replicate}
use Rattle.std.specs.Prelude.{None, Bool, true, false, ◌==◌, ◌&&◌, nat_le}
use Rattle.dr_meaning.specs.Schema.{Repetition, required, optional, repeated, definition_count, repetition_count}
use Rattle.dr_meaning.specs.Path.{Step, max_repetition, max_definition}
use Rattle.dr_meaning.specs.Column.{Triplet, triplet}
use Rattle.dr_meaning.specs.OneColumn.{past_field, level_inside, may_follow, all_follow}
use Rattle.dr_file.specs.Floors.{with_floor, floors_of, least_of, AreLeastOf}

-- ---- floors

-- the floors of a path below a field
level_step : (r : Repetition) (n g : ℕ) (rest : List ℕ) (inside : ℕ → ℕ) (j : ℕ) → ((k : ℕ) → n + inside k ≡ get_or rest k g) → n + past_field r inside j ≡ get_or (with_floor r n rest) j g
level_step required n g rest inside j h = h j
level_step optional n g rest inside j h = h j
level_step repeated n g rest inside zero h = omega arith
level_step repeated n g rest inside (suc j) h = h j

none_left : (j g : ℕ) → get_or [] j g ≡ g
none_left zero g = refl
none_left (suc j) g = refl

level_from : (p : List Step) (n j : ℕ) → n + level_inside p j ≡ get_or (floors_of n p) j (n + max_definition p)
level_from [] n j = omega arith ∙ sym (none_left j (n + 0))
level_from (s ∷ p) n j =
    let m : ℕ = n + definition_count s.repetition in
    let a : n + (definition_count s.repetition + max_definition p) ≡ m + max_definition p = omega arith in
    let b : n + (definition_count s.repetition + past_field s.repetition (level_inside p) j) ≡ m + past_field s.repetition (level_inside p) j = omega arith in
    b ∙ (level_step s.repetition m (m + max_definition p) (floors_of m p) (level_inside p) j (λ k. level_from p m k) ∙ ap (get_or (with_floor s.repetition m (floors_of m p)) j) (sym a))

-- a repeated field's floor, in the list of them; past its end the greatest definition level
pub level_is : (p : List Step) (j : ℕ) → level_inside p j ≡ get_or (floors_of 0 p) j (max_definition p)
level_is p j =
    let z : level_inside p j ≡ 0 + level_inside p j = omega arith in
    let m : 0 + max_definition p ≡ max_definition p = omega arith in
    z ∙ (level_from p 0 j ∙ ap (get_or (floors_of 0 p) j) m)

with_count : (r : Repetition) (n k : ℕ) (ls : List ℕ) → length ls ≡ k → length (with_floor r n ls) ≡ repetition_count r + k
with_count required n k ls h = omega (arith, h)
with_count optional n k ls h = omega (arith, h)
with_count repeated n k ls h = omega (arith, h)

-- there is a floor for each repeated field
pub floor_count : (p : List Step) (n : ℕ) → length (floors_of n p) ≡ max_repetition p
floor_count [] n = refl
floor_count (s ∷ p) n = let m : ℕ = n + definition_count s.repetition in with_count s.repetition m (max_repetition p) (floors_of m p) (floor_count p m)

-- ---- triplets one after another

-- of the triplet before only its definition level counts
pub follow_by_level : (p : List Step) (t : Triplet) (ts : List Triplet) → all_follow p t ts ≡ all_follow p (triplet 0 t.definition None) ts
follow_by_level p t [] = refl
follow_by_level p t (u ∷ us) = refl

-- a triplet may follow one of this definition level where both have the least one of its repetition level
pub follow_tested : (p : List Step) (before definition rep floor : ℕ) → floor ≡ least_of p rep → (nat_le floor before && nat_le floor definition) ≡ may_follow p before definition rep
follow_tested p before definition zero floor e = ap (λ (n : ℕ). nat_le n before && nat_le n definition) e ∙ both (zero_le before) (zero_le definition)
  where
    zero_le : (n : ℕ) → nat_le 0 n ≡ true
    zero_le n = le-leb 0 n (omega arith)

    both : {a b : Bool} → a ≡ true → b ≡ true → (a && b) ≡ true
    both e f = rw (e, f) refl
follow_tested p before definition (suc j) floor e = ap (λ (n : ℕ). nat_le n before && nat_le n definition) e

-- ---- the loop that puts floors into a table: those before this one are there
pub record Table (floors : List ℕ) (greatest : ℕ) (least : List ℕ) (i : ℕ) : Type 0 where
  pub size : length least ≡ 256
  pub first : get_or least 0 0 ≡ 0
  pub others : (j : ℕ) → j < 255 → get_or least (j + 1) 0 ≡ get_or (take i floors) j greatest

pub table_begun : (floors : List ℕ) (greatest : ℕ) → Table floors greatest (set (replicate 256 greatest) 0 0) 0
table_begun floors greatest = record {
  size = omega (arith, length-set (replicate 256 greatest) 0 0, length-replicate 256 greatest);
  first = get_or-set_same (replicate 256 greatest) 0 0 0 (omega (arith, length-replicate 256 greatest));
  others = λ j h. get_or-set_other (replicate 256 greatest) 0 (j + 1) 0 0 (λ e. absurd (omega (arith, e))) ∙ get_or-replicate 256 (j + 1) greatest 0 (omega (arith, h));
}

one_put : (floors : List ℕ) (greatest : ℕ) (least : List ℕ) (i : ℕ) → Table floors greatest least i → i < length floors → i < 255 → Table floors greatest (set least (i + 1) (get_or floors i 0)) (i + 1)
one_put floors greatest least i t h k = record {
  size = omega (arith, length-set least (i + 1) (get_or floors i 0), t.size);
  first = get_or-set_other least (i + 1) 0 (get_or floors i 0) 0 (λ e. absurd (omega (arith, e))) ∙ t.first;
  others = λ j m. by j m (cases_eq j i);
}
  where
    taken : (ls : List ℕ) (i j : ℕ) → i < length ls → get_or (take (suc i) ls) j greatest ≡ (if j == i then get_or ls i 0 else get_or (take i ls) j greatest)
    taken [] i j h = absurd (omega (arith, h))
    taken (x ∷ ls) zero zero h = refl
    taken (x ∷ ls) zero (suc j) h = sym (ap (λ (b : Bool). if b then x else greatest) (ne_eqb (suc j) 0 (λ e. absurd (omega (arith, e)))))
    taken (x ∷ ls) (suc i) zero h = sym (ap (λ (b : Bool). if b then get_or ls i 0 else x) (ne_eqb 0 (suc i) (λ e. absurd (omega (arith, e)))))
    taken (x ∷ ls) (suc i) (suc j) h = taken ls i j (omega (arith, h)) ∙ ap (λ (b : Bool). if b then get_or ls i 0 else get_or (take i ls) j greatest) (same_test j i)
      where
        same_test : (j i : ℕ) → (j == i) ≡ (suc j == suc i)
        same_test j i = grind (arith, nat_tests)

    at : (j : ℕ) → get_or (take (i + 1) floors) j greatest ≡ (if j == i then get_or floors i 0 else get_or (take i floors) j greatest)
    at j = let e : i + 1 ≡ suc i = omega arith in ap (λ (n : ℕ). get_or (take n floors) j greatest) e ∙ taken floors i j h

    by : (j : ℕ) → j < 255 → (j ≡ i) ⊎ (j ≢ i) → get_or (set least (i + 1) (get_or floors i 0)) (j + 1) 0 ≡ get_or (take (i + 1) floors) j greatest
    by j m (inl e) =
        ap (λ (n : ℕ). get_or (set least (i + 1) (get_or floors i 0)) (n + 1) 0) e ∙ (get_or-set_same least (i + 1) (get_or floors i 0) 0 (omega (arith, t.size, k))
        ∙ sym (at j ∙ ap (λ (b : Bool). if b then get_or floors i 0 else get_or (take i floors) j greatest) (eq-eqb j i e)))
    by j m (inr n) =
        get_or-set_other least (i + 1) (j + 1) (get_or floors i 0) 0 (λ e. n (omega (arith, e))) ∙ (t.others j m ∙ sym (at j ∙ ap (λ (b : Bool). if b then get_or floors i 0 else get_or (take i floors) j greatest) (ne_eqb j i n)))

other_default : (ls : List ℕ) (i d e : ℕ) → i < length ls → get_or ls i d ≡ get_or ls i e
other_default [] i d e h = absurd (omega (arith, h))
other_default (l ∷ ls) zero d e h = refl
other_default (l ∷ ls) (suc i) d e h = other_default ls i d e (omega (arith, h))

pub table_more : (floors : List ℕ) (greatest : ℕ) (least : List ℕ) (i level : ℕ) → Table floors greatest least i → i < length floors → i < 255 → level ≡ get_or floors i level → Table floors greatest (set least (i + 1) level) (i + 1)
table_more floors greatest least i level t h k e =
    subst (λ (x : ℕ). Table floors greatest (set least (i + 1) x) (i + 1)) (sym (e ∙ other_default floors i level 0 h)) (one_put floors greatest least i t h k)

-- the table is that of the path
pub table_of : (p : List Step) (floors : List ℕ) (greatest : ℕ) (least : List ℕ) (i : ℕ) → floors ≡ floors_of 0 p → greatest ≡ max_definition p → Table floors greatest least i → length floors ≤ i → AreLeastOf p least
table_of p floors greatest least i e g t h zero l = t.first
table_of p floors greatest least i e g t h (suc j) l =
    let k : suc j ≡ j + 1 = omega arith in
    ap (λ (n : ℕ). get_or least n 0) k ∙ (t.others j (omega (arith, l)) ∙ (ap (λ (ls : List ℕ). get_or ls j greatest) (take_all i floors h ∙ e) ∙ (ap (get_or (floors_of 0 p) j) g ∙ sym (level_is p j))))
