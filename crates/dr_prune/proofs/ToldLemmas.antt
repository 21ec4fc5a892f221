-- Masks that tell what the numbers tell.
use Rattle.std.proofs.Common.{◌≡◌, ℕ, zero, suc, ◌+◌, ◌-◌, ◌^◌, ◌≤◌, ◌<◌, max, List, [], ◌∷◌, ◌++◌, Bool, true, false, ◌||◌, ◌&&◌, refl, sym, ap, ap₂, ◌∙◌, true≢false, add-zero, zero-add, arith}
use Rattle.std.specs.Prelude.{map, reverse, nat_le, nat_lt, ◌==◌, if◌then◌else◌}
use Rattle.std.proofs.lemmas.List.{reverse-append, map-append}
use Rattle.std.proofs.lemmas.Bool.{eq-eqb, ne_eqb, eqb-true, leb-true, leb-false, ltb-false, lt-leb, le-leb}
use Rattle.dr_levels.specs.Branches.{branch_at, branches_from, kept_view}
use Rattle.dr_levels.specs.declared.kept.Branch.{Branch}
use Rattle.dr_levels.specs.declared.kept.Kept.{Kept}
use Rattle.dr_kept_laws.specs.Telling.{Verdict, kept, dropped, undecided}
use Rattle.dr_kept_laws.specs.Counting.{Numbers, verdict_at, verdict_left, verdicts_of, left_among}
use Rattle.dr_prune.specs.Pruning.{verdict_of, verdicts_in}
use Rattle.dr_prune.proofs.MaskLemmas.{verdict_between, between_bits}

-- ---- one more branch

branches_more : (k : Kept) (i n : ℕ) → branches_from k i (suc n) ≡ branches_from k i n ++ branch_at k (i + n) ∷ []
branches_more k i zero = ap (λ (j : ℕ). branch_at k j ∷ []) (sym (add-zero i))
branches_more k i (suc n) =
    let e : suc i + n ≡ i + suc n = omega arith in
    ap (λ (bs : List Branch). branch_at k i ∷ bs) (branches_more k (suc i) n ∙ ap (λ (j : ℕ). branches_from k (suc i) n ++ branch_at k j ∷ []) e)

verdicts_more : (k : Kept) (n : ℕ) → verdicts_in (suc n) k ≡ verdicts_in n k ++ verdict_of (branch_at k n) ∷ []
verdicts_more k n =
    ap (map verdict_of) (branches_more k 0 n ∙ ap (λ (j : ℕ). kept_view n k ++ branch_at k j ∷ []) (zero-add n))
    ∙ map-append verdict_of (kept_view n k) (branch_at k n ∷ [])

-- the verdict at the last of more, where the others are told
told_more : (k : Kept) (n : ℕ) (v : Verdict) (vs : List Verdict) → verdict_of (branch_at k n) ≡ v → verdicts_in n k ≡ reverse vs → verdicts_in (suc n) k ≡ reverse (v ∷ vs)
told_more k n v vs e h = verdicts_more k n ∙ ap₂ (λ (x : List Verdict) (y : Verdict). x ++ y ∷ []) h e ∙ sym (reverse-append (v ∷ []) vs)

told_of : (long : ℕ) (m : Numbers) (k : Kept) (n : ℕ) → ((i : ℕ) → i < n → verdict_of (branch_at k i) ≡ verdict_at long m i) → verdicts_in n k ≡ reverse (verdicts_of long m n)
told_of long m k zero h = refl
told_of long m k (suc n) h = told_more k n (verdict_at long m n) (verdicts_of long m n) (h n (omega arith)) (told_of long m k n (λ i l. h i (omega (arith, l))))

-- ---- the numbers' verdicts, by the first branch that is dropped

-- whether the chain's end is open, and dropped unless it has a true row
end_verdict : (long : ℕ) (m : Numbers) (first : ℕ) → m.along ≤ long → (((m.along == long) && m.read) ≡ true → first ≡ max m.hit (m.along - 1)) → (((m.along == long) && m.read) ≡ false → first ≡ m.along)
    → (i : ℕ) → verdict_between m.hit first m.along i ≡ verdict_at long m i
end_verdict long m first fits over other i = by_along (nat_le m.along i) refl
  where
    by_first : m.hit ≤ i → i < m.along → nat_le first i ≡ ((suc i == long) && m.read)
    by_first h l = by_end (m.along == long) m.read refl refl
      where
        by_end : (a r : Bool) → (m.along == long) ≡ a → m.read ≡ r → nat_le first i ≡ ((suc i == long) && m.read)
        by_end false r e q =
            let f : first ≡ m.along = other (ap (λ (b : Bool). b && m.read) e) in
            lt-leb first i (omega (arith, f, l)) ∙ sym (ap (λ (b : Bool). b && m.read) (ne_eqb (suc i) long (λ p. true≢false (sym (eq-eqb m.along long (omega (arith, p, l, fits))) ∙ e))))
        by_end true false e q =
            let f : first ≡ m.along = other (ap₂ (λ (b c : Bool). b && c) e q) in
            lt-leb first i (omega (arith, f, l)) ∙ sym (ap (λ (b : Bool). (suc i == long) && b) q ∙ and_false (suc i == long))
          where
            and_false : (b : Bool) → (b && false) ≡ false
            and_false true = refl
            and_false false = refl
        by_end true true e q =
            let f : first ≡ max m.hit (m.along - 1) = over (ap₂ (λ (b c : Bool). b && c) e q) in
            let g : m.along ≡ long = eqb-true m.along long e in
            by_last (nat_le first i) refl f g
          where
            by_last : (b : Bool) → nat_le first i ≡ b → first ≡ max m.hit (m.along - 1) → m.along ≡ long → b ≡ ((suc i == long) && m.read)
            by_last true z f g =
                let x : first ≤ i = leb-true first i z in
                sym (ap₂ (λ (b c : Bool). b && c) (eq-eqb (suc i) long (omega (arith, x, f, g, l))) q)
            by_last false z f g =
                let x : i < first = leb-false first i z in
                sym (ap (λ (b : Bool). b && m.read) (ne_eqb (suc i) long (λ p. omega (arith, x, f, g, h, p))))

    by_hit : (b : Bool) → nat_lt i m.hit ≡ b → i < m.along → (if nat_lt i m.hit then kept else if nat_le first i then dropped else undecided) ≡ (if nat_lt i m.hit then kept else if (suc i == long) && m.read then dropped else undecided)
    by_hit true e l = ap (λ (b : Bool). if b then kept else if nat_le first i then dropped else undecided) e ∙ sym (ap (λ (b : Bool). if b then kept else if (suc i == long) && m.read then dropped else undecided) e)
    by_hit false e l = ap (λ (b : Bool). if nat_lt i m.hit then kept else if b then dropped else undecided) (by_first (ltb-false i m.hit e) l)

    by_along : (b : Bool) → nat_le m.along i ≡ b → verdict_between m.hit first m.along i ≡ verdict_at long m i
    by_along true e = ap (λ (b : Bool). if b || nat_lt i m.hit then kept else if nat_le first i then dropped else undecided) e ∙ sym (ap (λ (b : Bool). if b || nat_lt i m.hit then kept else if (suc i == long) && m.read then dropped else undecided) e)
    by_along false e =
        ap (λ (b : Bool). if b || nat_lt i m.hit then kept else if nat_le first i then dropped else undecided) e
        ∙ by_hit (nat_lt i m.hit) refl (leb-false m.along i e)
        ∙ sym (ap (λ (b : Bool). if b || nat_lt i m.hit then kept else if (suc i == long) && m.read then dropped else undecided) e)

-- ---- what is told

pub told_by_masks : (long : ℕ) (m : Numbers) (first : ℕ) (k : Kept) → m.along ≤ long → (((m.along == long) && m.read) ≡ true → first ≡ max m.hit (m.along - 1)) → (((m.along == long) && m.read) ≡ false → first ≡ m.along)
    → m.hit ≤ first → first ≤ m.along → k.undecided ≡ 2 ^ first - 2 ^ m.hit → k.dropped ≡ 2 ^ m.along - 2 ^ first → (n : ℕ) → verdicts_in n k ≡ reverse (verdicts_of long m n)
told_by_masks long m first k fits over other hits within u d n = told_of long m k n (λ i l. between_bits m.hit first m.along hits within k u d i ∙ end_verdict long m first fits over other i)

-- where the innermost branch is off the chain, its verdict is the same as it is left
pub left_off_chain : (long : ℕ) (m : Numbers) (d : ℕ) → m.along < d → left_among long m d ≡ verdicts_of long m d
left_off_chain long m zero l = absurd (omega (arith, l))
left_off_chain long m (suc d) l = ap (λ (v : Verdict). v ∷ verdicts_of long m d) (by_along (nat_le m.along d) (le-leb m.along d (omega (arith, l))))
  where
    by_along : (b : Bool) → nat_le m.along d ≡ true → verdict_left m d ≡ verdict_at long m d
    by_along b e = ap (λ (b : Bool). if b || nat_lt d m.hit then kept else dropped) e ∙ sym (ap (λ (b : Bool). if b || nat_lt d m.hit then kept else if (suc d == long) && m.read then dropped else undecided) e)

-- where it is on the chain, it is dropped unless it has a true row, and those around it are undecided without one
pub left_on_chain : (long : ℕ) (m : Numbers) (first : ℕ) (k : Kept) (d : ℕ) → m.along ≤ long → m.hit ≤ m.along → m.along ≡ d → first ≡ max m.hit (m.along - 1)
    → k.undecided ≡ 2 ^ first - 2 ^ m.hit → k.dropped ≡ 2 ^ m.along - 2 ^ first → verdicts_in d k ≡ reverse (left_among long m d)
left_on_chain long m first k zero fits hits e f u v = refl
left_on_chain long m first k (suc d) fits hits e f u v = told_more k d (verdict_left m d) (verdicts_of long m d) (at_place d ∙ innermost) (told_of long m k d (λ i l. at_place i ∙ around i l))
  where
    at_place : (i : ℕ) → verdict_of (branch_at k i) ≡ verdict_between m.hit first m.along i
    at_place i = between_bits m.hit first m.along (omega (arith, hits, f)) (omega (arith, hits, f, e)) k u v i

    on_chain : (i : ℕ) → i < m.along → verdict_between m.hit first m.along i ≡ (if nat_lt i m.hit then kept else if nat_le first i then dropped else undecided)
    on_chain i l = ap (λ (b : Bool). if b || nat_lt i m.hit then kept else if nat_le first i then dropped else undecided) (lt-leb m.along i l)

    innermost : verdict_between m.hit first m.along d ≡ verdict_left m d
    innermost = on_chain d (omega (arith, e)) ∙ by_hit (nat_lt d m.hit) refl ∙ sym (ap (λ (b : Bool). if b || nat_lt d m.hit then kept else dropped) (lt-leb m.along d (omega (arith, e))))
      where
        by_hit : (b : Bool) → nat_lt d m.hit ≡ b → (if b then kept else if nat_le first d then dropped else undecided) ≡ (if b then kept else dropped)
        by_hit true q = refl
        by_hit false q =
            let x : m.hit ≤ d = ltb-false d m.hit q in
            ap (λ (b : Bool). if b then dropped else undecided) (le-leb first d (omega (arith, x, f, e)))

    around : (i : ℕ) → i < d → verdict_between m.hit first m.along i ≡ verdict_at long m i
    around i l =
        on_chain i (omega (arith, e, l)) ∙ by_hit (nat_lt i m.hit) refl
        ∙ sym (ap (λ (b : Bool). if b || nat_lt i m.hit then kept else if (suc i == long) && m.read then dropped else undecided) (lt-leb m.along i (omega (arith, e, l))))
      where
        by_hit : (b : Bool) → nat_lt i m.hit ≡ b → (if b then kept else if nat_le first i then dropped else undecided) ≡ (if b then kept else if (suc i == long) && m.read then dropped else undecided)
        by_hit true q = refl
        by_hit false q =
            ap (λ (b : Bool). if b then dropped else undecided) (lt-leb first i (omega (arith, f, e, l)))
            ∙ sym (ap (λ (b : Bool). if b && m.read then dropped else undecided) (ne_eqb (suc i) long (λ p. omega (arith, p, l, e, fits))))
