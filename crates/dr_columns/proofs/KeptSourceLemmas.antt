-- What is put of the rows that a condition keeps.
use Rattle.std.proofs.Common.{◌≡◌, ℕ, zero, suc, ◌+◌, ◌-◌, ◌<◌, List, [], ◌∷◌, ◌++◌, map, length, replicate, take, get_or, Bool, true, false, Option, Some, refl, sym, ap, ap₂, ◌∙◌, subst, arith}
use Rattle.std.specs.Prelude.{nat_lt, if◌then◌else◌}
use Rattle.std.specs.List.{flat_map, slice_get, slice_index_or}
use Rattle.std.proofs.lemmas.Bool.{and_from}
use Rattle.std.proofs.lemmas.Bool.Decides.{nat_tests}
use Rattle.dr_meaning.specs.Record.{Value}
use Rattle.dr_meaning.specs.Column.{Triplet}
use Rattle.dr_beside.specs.Neighbours.{column_at}
use Rattle.dr_partials.specs.Putting.{Put}
use Rattle.dr_group.specs.declared.group_map.GroupMap.{GroupMap}
use Rattle.dr_rows_beside.specs.declared.source.Beside.{Beside}
use Rattle.dr_rows_beside.specs.Rows.{Row, picked}
use Rattle.dr_rows_beside.specs.RecordRows.{rows_of}
use Rattle.dr_rows_beside.specs.declared.judging.Test.{Test}
use Rattle.dr_rows_beside.specs.KeptBits.{bits_of, kept_bits}
use Rattle.dr_rows_beside.specs.declared.keeping.Keeping.{Keeping}
use Rattle.dr_rows_beside.specs.Bits.{set_bits}
use Rattle.dr_columns.specs.declared.firing.Fired.{Fired}
use Rattle.dr_columns.specs.Numbers.{tuples_at, are_among, HasPut}
use Rattle.dr_columns.specs.RowPuts.{keys_in}
use Rattle.dr_columns.specs.Takings.{Fires, Take, fired_view, fired_read_puts, end_puts, CanFire}
use Rattle.dr_columns.specs.KeptTakings.{kept_puts, kept_count, kept_chunk_puts, CanSift}
use Rattle.dr_columns.proofs.NumberLemmas.{is_among, tuple_got}

-- ---- how many rows

pub picked_long : {A : Type 0} (bs : List Bool) (xs : List A) → length bs ≡ length xs → length (picked bs xs) ≡ set_bits bs
picked_long [] [] e = refl
picked_long [] (x ∷ xs) e = absurd (omega (arith, e))
picked_long (b ∷ bs) [] e = absurd (omega (arith, e))
picked_long (true ∷ bs) (x ∷ xs) e = let z : 1 + set_bits bs ≡ suc (set_bits bs) = omega arith in ap suc (picked_long bs xs (omega (arith, e))) ∙ sym z
picked_long (false ∷ bs) (x ∷ xs) e = let z : 0 + set_bits bs ≡ set_bits bs = omega arith in picked_long bs xs (omega (arith, e)) ∙ sym z

pub none_of : (rs : List Row) → length rs ≡ 0 → rs ≡ []
none_of [] e = refl
none_of (r ∷ rs) e = absurd (omega (arith, e))

-- ---- the number of the group without keys for each

abbrev Tuples : Type 0
Tuples = List (List (Option Value))

pub tuples_alone : (T : Tuples) (n k : ℕ) (rs : List Row) → slice_get T n ≡ Some [] → length rs ≡ k → tuples_at T (replicate k n) ≡ map (keys_in []) rs
tuples_alone T n zero [] h e = refl
tuples_alone T n zero (r ∷ rs) h e = absurd (omega (arith, e))
tuples_alone T n (suc k) [] h e = absurd (omega (arith, e))
tuples_alone T n (suc k) (r ∷ rs) h e = ap₂ (λ (t : List (Option Value)) (ts : Tuples). t ∷ ts) (tuple_got T n [] h) (tuples_alone T n k rs h (omega (arith, e)))

less_test : (a b : ℕ) → a < b → nat_lt a b ≡ true
less_test a b h = grind (arith, nat_tests)

pub among_alone : (T : Tuples) (n k : ℕ) (t : List (Option Value)) → slice_get T n ≡ Some t → are_among (length T) (replicate k n) ≡ true
among_alone T n zero t h = refl
among_alone T n (suc k) t h = and_from _ _ (less_test n (length T) (is_among T n t h)) (among_alone T n k t h)

-- so many of one number
pub all_alone : (n k m : ℕ) (xs items : List ℕ) → items ≡ take n xs ++ replicate (n - k) m → xs ≡ [] → k ≡ 0 → items ≡ replicate n m
all_alone n k m xs items e h z =
    let l : n - k ≡ n = omega (arith, z) in
    e ∙ ap₂ (λ (ys : List ℕ) (j : ℕ). ys ++ replicate j m) (ap (take n) h ∙ nothing n) l
  where
    nothing : (i : ℕ) → take {A = ℕ} i [] ≡ []
    nothing zero = refl
    nothing (suc i) = refl

-- ---- leaf by leaf

pub sifts_there : (C : List (List Triplet)) (k : Keeping) (xs : List Fired) (i : ℕ) (x : Fired) → i < length xs → x ≡ get_or xs i x → CanSift C k (map fired_view xs) → CanSift C k (fired_view x ∷ [])
sifts_there C k [] i x h e w = absurd (omega (arith, h))
sifts_there C k (y ∷ xs) zero x h e w = subst (λ (z : Fired). CanSift C k (fired_view z ∷ [])) (sym e) (w.0, tt)
sifts_there C k (y ∷ xs) (suc i) x h e w = sifts_there C k xs i x (omega (arith, h)) e w.1

pub sifts_same : (C : List (List Triplet)) (k l : Keeping) (fs : List Fires) → l.commons.items ≡ k.commons.items → CanSift C k fs → CanSift C l fs
sifts_same C k l [] e h = tt
sifts_same C k l (f ∷ fs) e h =
    (λ n. let w : (f.leaf < length k.commons.items) × CanFire C f = h.0 n in (subst (λ (ns : List ℕ). f.leaf < length ns) (sym e) w.0, w.1), sifts_same C k l fs e h.1)

-- ---- what is put by its tests alone

pub kept_same : (ks : List ℕ) (C : List (List Triplet)) (k l : Keeping) (fs : List Fires) → l.own ≡ k.own → l.others.items ≡ k.others.items → l.commons.items ≡ k.commons.items
    → flat_map (kept_puts ks C l) fs ≡ flat_map (kept_puts ks C k) fs
kept_same ks C k l fs a b d =
    ap (λ (o : Test). puts o l.others.items l.commons.items) a ∙ ap (λ (ts : List Test). puts k.own ts l.commons.items) b ∙ ap (λ (ns : List ℕ). puts k.own k.others.items ns) d
  where
    puts : Test → List Test → List ℕ → List Put
    puts o ts ns = flat_map (fired_read_puts ks (λ (leaf : ℕ) (bs : List Beside). picked (kept_bits C o ts (slice_index_or ns leaf 0) (column_at C leaf)) (rows_of leaf bs C))) fs

pub count_same : (C : List (List Triplet)) (k l : Keeping) → l.own ≡ k.own → l.others.items ≡ k.others.items → kept_count C l ≡ kept_count C k
count_same C k l a b = ap₂ (λ (o : Test) (ts : List Test). set_bits (bits_of C o ts 0)) a b

pub chunk_some : (ks : List ℕ) (C : List (List Triplet)) (k : Keeping) (fs : List Fires) (ends : List Take) (n : ℕ) → (n ≡ 0 → ⊥) → flat_map (kept_puts ks C k) fs ++ end_puts n ends ≡ kept_chunk_puts ks C k fs ends n
chunk_some ks C k fs ends zero h = absurd (h refl)
chunk_some ks C k fs ends (suc n) h = refl

pub chunk_none : (ks : List ℕ) (C : List (List Triplet)) (k : Keeping) (fs : List Fires) (ends : List Take) (n : ℕ) (m : GroupMap) → n ≡ 0 → HasPut m (kept_chunk_puts ks C k fs ends n) m
chunk_none ks C k fs ends zero m e items g = refl
chunk_none ks C k fs ends (suc n) m e items g = absurd (omega (arith, e))
