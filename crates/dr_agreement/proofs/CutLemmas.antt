-- Levels cut where records begin.
use Rattle.std.proofs.Common.{◌≡◌, ℕ, zero, suc, ◌+◌, ◌<◌, ◌≤◌, List, [], ◌∷◌, map, length, take, drop, get_or, ◌-◌, Bool, true, false, refl, sym, ap, ap₂, subst, ◌∙◌, arith, add-one}
use Rattle.std.specs.Prelude.{◌==◌, if◌then◌else◌}
use Rattle.std.proofs.lemmas.List.{length-map, take-map, drop-map}
use Rattle.dr_meaning.specs.Column.{Triplet}
use Rattle.dr_meaning.specs.OneColumn as meant
use Rattle.dr_levels.specs.Views.{levels_pair, triplet_levels}
use Rattle.dr_levels.specs.declared.triplet.Levels.{Levels}
use Rattle.dr_levels.specs.Apart.{repetitions}
use Rattle.dr_agreement.specs.Cuts.{begins, starts, IsCut}

starts_taken : (rs : List ℕ) (i : ℕ) → i < length rs → starts (take (suc i) rs) ≡ starts (take i rs) + (if get_or rs i 0 == 0 then 1 else 0)
starts_taken [] i h = absurd (omega (arith, h))
starts_taken (r ∷ rs) zero h = omega arith
starts_taken (r ∷ rs) (suc i) h = omega (arith, starts_taken rs i (omega (arith, h)))

pub starts_more : (rs : List ℕ) (i : ℕ) → i < length rs → starts (take (i + 1) rs) ≡ starts (take i rs) + (if get_or rs i 0 == 0 then 1 else 0)
starts_more rs i h = ap (λ (n : ℕ). starts (take n rs)) (add-one i) ∙ starts_taken rs i h

begins_at : (rs : List ℕ) (i : ℕ) → i < length rs → (get_or rs i 0 == 0) ≡ true → begins (drop i rs) ≡ true
begins_at [] i h e = absurd (omega (arith, h))
begins_at (r ∷ rs) zero h e = e
begins_at (r ∷ rs) (suc i) h e = begins_at rs i (omega (arith, h)) e

ends_at : (rs : List ℕ) (i : ℕ) → length rs ≤ i → begins (drop i rs) ≡ true
ends_at [] zero h = refl
ends_at [] (suc i) h = refl
ends_at (r ∷ rs) zero h = absurd (omega (arith, h))
ends_at (r ∷ rs) (suc i) h = ends_at rs i (omega (arith, h))

all_starts : (rs : List ℕ) (i : ℕ) → length rs ≤ i → starts (take i rs) ≡ starts rs
all_starts [] zero h = refl
all_starts [] (suc i) h = refl
all_starts (r ∷ rs) zero h = absurd (omega (arith, h))
all_starts (r ∷ rs) (suc i) h = omega (arith, all_starts rs i (omega (arith, h)))

-- past the records that are wanted
pub cut_here : (rs : List ℕ) (i n k records : ℕ) → i < length rs → n ≡ starts (take i rs) → n ≤ records → k ≡ (if get_or rs i 0 == 0 then 1 else 0) → records < n + k → IsCut rs i records
cut_here rs i n k records h c l e p = by_test (get_or rs i 0 == 0) refl
  where
    by_test : (b : Bool) → (get_or rs i 0 == 0) ≡ b → IsCut rs i records
    by_test true t =
        let z : k ≡ 1 = e ∙ ap (λ (x : Bool). if x then 1 else 0) t in
        record { within = omega (arith, h); before = omega (arith, c, l, p, z); behind = begins_at rs i h t }
    by_test false t =
        let z : k ≡ 0 = e ∙ ap (λ (x : Bool). if x then 1 else 0) t in
        absurd (omega (arith, p, l, z))

pub cut_end : (rs : List ℕ) (i n records at : ℕ) → at ≡ length rs → length rs ≤ i → n ≡ starts (take i rs) → n ≤ records → records ≤ starts rs → IsCut rs at records
cut_end rs i n records at a h c l p = record {
  within = omega (arith, a);
  before = omega (arith, all_starts rs at (omega (arith, a)), all_starts rs i h, c, l, p);
  behind = ends_at rs at (omega (arith, a));
}

-- ---- a cut of what is behind the first so many

moved_cut : (rs : List ℕ) (at k : ℕ) → IsCut rs at k → IsCut rs (0 + at) (0 + k)
moved_cut rs at k c =
    let e : 0 + at ≡ at = omega arith in
    record {
      within = omega (arith, c.within);
      before = ap (λ (m : ℕ). starts (take m rs)) e ∙ omega (arith, c.before);
      behind = ap (λ (m : ℕ). begins (drop m rs)) e ∙ c.behind;
    }

cut_behind : (rs : List ℕ) (n at k : ℕ) → n ≤ length rs → IsCut (drop n rs) at k → IsCut rs (n + at) (starts (take n rs) + k)
cut_behind [] zero at k h c = moved_cut [] at k c
cut_behind [] (suc n) at k h c = absurd (omega (arith, h))
cut_behind (r ∷ rs) zero at k h c = moved_cut (r ∷ rs) at k c
cut_behind (r ∷ rs) (suc n) at k h c =
    let i = cut_behind rs n at k (omega (arith, h)) c in
    let e : suc n + at ≡ suc (n + at) = omega arith in
    record {
      within = omega (arith, i.within);
      before = ap (λ (m : ℕ). starts (take m (r ∷ rs))) e ∙ omega (arith, i.before);
      behind = ap (λ (m : ℕ). begins (drop m (r ∷ rs))) e ∙ i.behind;
    }

-- the first so many levels begin no more records than are wanted, and the others are cut where the rest of them is
pub cut_parts : (ls : List Levels) (n at left begun : ℕ) → n ≤ length ls → begun ≡ starts (repetitions (take n ls)) → begun ≤ left → IsCut (repetitions (drop n ls)) at (left - begun) → IsCut (repetitions ls) (n + at) left
cut_parts ls n at left begun h b f c =
    let t : take n (repetitions ls) ≡ repetitions (take n ls) = take-map (λ (l : Levels). l.repetition) n ls in
    let d : drop n (repetitions ls) ≡ repetitions (drop n ls) = drop-map (λ (l : Levels). l.repetition) n ls in
    let i = cut_behind (repetitions ls) n at (left - begun) (omega (arith, h, length-map ls (λ (l : Levels). l.repetition))) (subst (λ (xs : List ℕ). IsCut xs at (left - begun)) (sym d) c) in
    let e : starts (take n (repetitions ls)) + (left - begun) ≡ left = omega (arith, ap starts t, b, f) in
    subst (λ (k : ℕ). IsCut (repetitions ls) (n + at) k) e i

-- the records that begin in the first so many levels, and those in the others
pub begun_parts : (n : ℕ) (ls : List Levels) → starts (repetitions (take n ls)) + starts (repetitions (drop n ls)) ≡ starts (repetitions ls)
begun_parts zero ls = omega arith
begun_parts (suc n) [] = omega arith
begun_parts (suc n) (l ∷ ls) = omega (arith, begun_parts n ls)

-- ---- levels of triplets

abbrev first_of : ℕ × ℕ → ℕ
first_of x = x.0

same_head : (x y : ℕ × ℕ) (xs ys : List (ℕ × ℕ)) → x ∷ xs ≡ y ∷ ys → x ≡ y
same_head x y xs ys e = cc

same_tail : (x y : ℕ × ℕ) (xs ys : List (ℕ × ℕ)) → x ∷ xs ≡ y ∷ ys → xs ≡ ys
same_tail x y xs ys e = cc

-- levels that triplets have begin as many records
pub begun_levels : (ls : List Levels) (ts : List Triplet) → map levels_pair ls ≡ map triplet_levels ts → starts (repetitions ls) ≡ meant.starts ts
begun_levels [] [] e = refl
begun_levels [] (t ∷ ts) e = absurd (cc)
begun_levels (l ∷ ls) [] e = absurd (cc)
begun_levels (l ∷ ls) (t ∷ ts) e =
    let r : l.repetition ≡ t.repetition = ap first_of (same_head (levels_pair l) (triplet_levels t) (map levels_pair ls) (map triplet_levels ts) e) in
    let n = begun_levels ls ts (same_tail (levels_pair l) (triplet_levels t) (map levels_pair ls) (map triplet_levels ts) e) in
    ap₂ (λ (i n : ℕ). (if i == 0 then 1 else 0) + n) r n

-- and begin one at the same places
pub begins_levels : (ls : List Levels) (ts : List Triplet) → map levels_pair ls ≡ map triplet_levels ts → begins (repetitions ls) ≡ meant.begins_record ts
begins_levels [] [] e = refl
begins_levels [] (t ∷ ts) e = absurd (cc)
begins_levels (l ∷ ls) [] e = absurd (cc)
begins_levels (l ∷ ls) (t ∷ ts) e = ap (λ (i : ℕ). i == 0) (ap first_of (same_head (levels_pair l) (triplet_levels t) (map levels_pair ls) (map triplet_levels ts) e))

taken_levels : (n : ℕ) (ls : List Levels) (ts : List Triplet) → map levels_pair ls ≡ map triplet_levels ts → map levels_pair (take n ls) ≡ map triplet_levels (take n ts)
taken_levels n ls ts e = sym (take-map levels_pair n ls) ∙ ap (take n) e ∙ take-map triplet_levels n ts

dropped_levels : (n : ℕ) (ls : List Levels) (ts : List Triplet) → map levels_pair ls ≡ map triplet_levels ts → map levels_pair (drop n ls) ≡ map triplet_levels (drop n ts)
dropped_levels n ls ts e = sym (drop-map levels_pair n ls) ∙ ap (drop n) e ∙ drop-map triplet_levels n ts

-- where levels are cut, triplets are
pub triplets_cut : (ls : List Levels) (ts : List Triplet) (at records : ℕ) → map levels_pair ls ≡ map triplet_levels ts → IsCut (repetitions ls) at records
    → (at ≤ length ts) × (meant.starts (take at ts) ≡ records) × (meant.begins_record (drop at ts) ≡ true)
triplets_cut ls ts at records e k = (
  (let n : length ls ≡ length ts = sym (length-map ls levels_pair) ∙ ap length e ∙ length-map ts triplet_levels in
      let m = length-map ls (λ (l : Levels). l.repetition) in
      let w = k.within in omega (arith, n, m, w)),
  sym (begun_levels (take at ls) (take at ts) (taken_levels at ls ts e)) ∙ (ap starts (sym (take-map (λ (l : Levels). l.repetition) at ls)) ∙ k.before),
  sym (begins_levels (drop at ls) (drop at ts) (dropped_levels at ls ts e)) ∙ (ap begins (sym (drop-map (λ (l : Levels). l.repetition) at ls)) ∙ k.behind),
)
