-- The bits of instances that a condition keeps.
use Rattle.std.proofs.Common.{◌≡◌, ℕ, zero, suc, ◌+◌, ◌<◌, ◌≤◌, List, [], ◌∷◌, ◌++◌, map, length, get_or, Bool, true, false, refl, sym, ap, ◌∙◌, true≢false, arith}
use Rattle.std.specs.Prelude.{nat_lt, if◌then◌else◌}
use Rattle.std.specs.List.{slice_index_or}
use Rattle.std.specs.declared.vec.Vec.{Vec}
use Rattle.std.specs.declared.alloc.Global.{Global}
use Rattle.std.proofs.lemmas.Bool.{and_from, and_parts, le-leb, leb-true}
use Rattle.std.proofs.lemmas.Bool.Decides.{nat_tests}
use Rattle.dr_meaning.specs.Schema.{repetition_count, definition_count}
use Rattle.dr_meaning.specs.Path.{Step, max_repetition}
use Rattle.dr_meaning.specs.Record.{Node, Instances, no_instances, instance, Instance, inner, instances_in}
use Rattle.dr_meaning.specs.Column.{Triplet, each_later, spread, instance_column, record_column, column}
use Rattle.dr_beside.specs.Spreading.{repetitions_of}
use Rattle.dr_rows_beside.specs.declared.keeping.Keeping.{Keeping}
use Rattle.dr_rows_beside.specs.Bits.{all_within}
use Rattle.dr_rows_beside.specs.Keepings.{levels_of, judged}
use Rattle.dr_rows_beside.specs.KeptBits.{bits_of, common_at, kept_at, HasJudged}
use Rattle.dr_rows_beside.proofs.BottomLemmas.{gathers_itself}
use Rattle.dr_rows_beside.proofs.KeepingLemmas.{judged_long}
use Rattle.dr_rows_beside.proofs.SpreadBitLemmas.{within_greater}

-- ---- those of a depth

lt_false : (a b : ℕ) → b ≤ a → nat_lt a b ≡ false
lt_false a b h = by_test (nat_lt a b) refl
  where
    by_test : (t : Bool) → nat_lt a b ≡ t → t ≡ false
    by_test false e = refl
    by_test true e = absurd (let l : suc a ≤ b = leb-true (suc a) b e in omega (arith, l, h))

not_less : (a b : ℕ) → nat_lt a b ≡ false → b ≤ a
not_less a b e = grind (arith, nat_tests)

abbrev pub items_of : List (Vec Bool Global) → List (List Bool)
items_of xs = map (λ (v : Vec Bool Global). v.items) xs

got_items : (xs : List (Vec Bool Global)) (d : ℕ) (v : Vec Bool Global) → d < length xs → slice_index_or (items_of xs) d [] ≡ (get_or xs d v).items
got_items [] d v h = absurd (omega (arith, h))
got_items (x ∷ xs) zero v h = refl
got_items (x ∷ xs) (suc d) v h = got_items xs d v (omega (arith, h))

pub at_depth : (xs : List (Vec Bool Global)) (d : ℕ) (w : List Bool) (v : Vec Bool Global) → d < length xs → (if nat_lt d (length xs) then slice_index_or (items_of xs) d [] else w) ≡ (get_or xs d v).items
at_depth xs d w v h = ap (λ (b : Bool). if b then slice_index_or (items_of xs) d [] else w) (le-leb (suc d) (length xs) h) ∙ got_items xs d v h

pub past_depth : (xs : List (Vec Bool Global)) (d : ℕ) (w : List Bool) → length xs ≤ d → (if nat_lt d (length xs) then slice_index_or (items_of xs) d [] else w) ≡ w
past_depth xs d w h = ap (λ (b : Bool). if b then slice_index_or (items_of xs) d [] else w) (lt_false d (length xs) h)

-- they are gathered of the answers
pub kept_at_is : (C : List (List Triplet)) (k : Keeping) → HasJudged C k → (d : ℕ) → kept_at k d ≡ bits_of C k.own k.others.items d
kept_at_is C k h d = by_test (nat_lt d (length k.above.items)) refl
  where
    by_test : (b : Bool) → nat_lt d (length k.above.items) ≡ b → (if b then slice_index_or (items_of k.above.items) d [] else k.whole.items) ≡ bits_of C k.own k.others.items d
    by_test true e = h.above d (leb-true (suc d) (length k.above.items) e)
    by_test false e =
        let l : length k.above.items ≤ d = not_less d (length k.above.items) e in
        h.whole ∙ sym (gathers_itself d (levels_of C k.own) (judged C k.own k.others.items) (within_greater k.own.depth d (levels_of C k.own) (omega (arith, l, h.deep)) h.within) (judged_long C k.own k.others.items))

-- ---- the levels of a column are within its greatest one

both_within : (m : ℕ) (ts us : List Triplet) → all_within m (repetitions_of ts) ≡ true → all_within m (repetitions_of us) ≡ true → all_within m (repetitions_of (ts ++ us)) ≡ true
both_within m [] us h g = g
both_within m (t ∷ ts) us h g = and_from _ _ (and_parts _ _ h).0 (both_within m ts us (and_parts _ _ h).1 g)

abbrev Within : ℕ → (ℕ → Instance → List Triplet) → Type 0
Within m f = (r : ℕ) (x : Instance) → r ≤ m → all_within m (repetitions_of (f r x)) ≡ true

later_within : (m j : ℕ) (f : ℕ → Instance → List Triplet) → Within m f → j ≤ m → (xs : Instances) → all_within m (repetitions_of (each_later f j xs)) ≡ true
later_within m j f w l no_instances = refl
later_within m j f w l (instance x xs) = both_within m (f j x) (each_later f j xs) (w j x l) (later_within m j f w l xs)

spread_within : (m j d r : ℕ) (f : ℕ → Instance → List Triplet) → Within m f → j ≤ m → r ≤ m → (xs : Instances) → all_within m (repetitions_of (spread f j d r xs)) ≡ true
spread_within m j d r f w l h no_instances = and_from _ _ (le-leb r m h) refl
spread_within m j d r f w l h (instance x xs) = both_within m (f r x) (each_later f j xs) (w r x h) (later_within m j f w l xs)

instance_within : (p : List Step) (m v d : ℕ) → v + max_repetition p ≤ m → Within m (instance_column p v d)
instance_within [] m v d g r x h = and_from _ _ (le-leb r m h) refl
instance_within (s ∷ p) m v d g r x h =
    spread_within m (v + repetition_count s.repetition) d r (instance_column p (v + repetition_count s.repetition) (d + definition_count s.repetition))
    (instance_within p m (v + repetition_count s.repetition) (d + definition_count s.repetition) (omega (arith, g))) (omega (arith, g)) h (instances_in s.place x)

pub column_within : (p : List Step) (R : List Node) → all_within (max_repetition p) (repetitions_of (column p R)) ≡ true
column_within p [] = refl
column_within p (n ∷ R) =
    both_within (max_repetition p) (record_column p n) (column p R) (instance_within p (max_repetition p) 0 0 (omega arith) 0 (inner n) (omega arith)) (column_within p R)

-- ---- how many repeated fields a leaf has in common

pub common_got : (k : Keeping) (leaf v : ℕ) → leaf < length k.commons.items → v ≡ get_or k.commons.items leaf v → v ≡ common_at k leaf
common_got k leaf v h e = e ∙ got (k.commons.items) leaf h
  where
    got : (ns : List ℕ) (i : ℕ) → i < length ns → get_or ns i v ≡ slice_index_or ns i 0
    got [] i h = absurd (omega (arith, h))
    got (n ∷ ns) zero h = refl
    got (n ∷ ns) (suc i) h = got ns i (omega (arith, h))
