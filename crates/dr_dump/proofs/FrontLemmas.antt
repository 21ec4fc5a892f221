-- Fronts of a column, one triplet after another.
use Rattle.std.proofs.Common.{◌≡◌, ◌<◌, ℕ, zero, suc, ◌+◌, List, [], ◌∷◌, ◌++◌, length, map, take, drop, get_or, true, refl, sym, ap, ◌∙◌, add-one, arith}
use Rattle.std.specs.Prelude.{◌==◌, if◌then◌else◌}
use Rattle.std.proofs.lemmas.List.{length-map}
use Rattle.dr_meaning.specs.Column.{Triplet}
use Rattle.dr_meaning.specs.OneColumn.{starts, begins_record}
use Rattle.dr_meaning.proofs.ColumnStarts.{starts_append}
use Rattle.dr_levels.specs.declared.triplet.Levels.{Levels}
use Rattle.dr_levels.specs.Views.{levels_pair, triplet_levels}

-- the triplet of a place, and those before and behind it
pub record Parted (ts : List Triplet) (k r : ℕ) : Type 0 where
  pub here : Triplet
  pub behind : List Triplet
  pub there : drop k ts ≡ here ∷ behind
  pub repetition : here.repetition ≡ r
  pub one_more : take (suc k) ts ≡ take k ts ++ here ∷ []

pub parted : (ls : List Levels) (ts : List Triplet) (k : ℕ) (l : Levels) → map levels_pair ls ≡ map triplet_levels ts → k < length ls → Parted ts k (get_or ls k l).repetition
parted [] ts k l e h = absurd (omega (arith, h))
parted (x ∷ ls) [] k l e h = absurd (cc)
parted (x ∷ ls) (t ∷ ts) zero l e h =
    let p : levels_pair x ≡ triplet_levels t = cc in
    record { here = t; behind = ts; there = refl; repetition = ap (λ (q : ℕ × ℕ). q.0) (sym p); one_more = refl }
parted (x ∷ ls) (t ∷ ts) (suc k) l e h =
    let q : map levels_pair ls ≡ map triplet_levels ts = cc in
    let r = parted ls ts k l q (omega (arith, h)) in
    record { here = r.here; behind = r.behind; there = r.there; repetition = r.repetition; one_more = ap (λ us. t ∷ us) r.one_more }

-- as many levels as triplets
pub as_many : (ls : List Levels) (ts : List Triplet) → map levels_pair ls ≡ map triplet_levels ts → length ls ≡ length ts
as_many ls ts e = sym (length-map ls levels_pair) ∙ ap length e ∙ length-map ts triplet_levels

pub starts_more : (ts : List Triplet) (k r n m : ℕ) → Parted ts k r → starts (take k ts) ≡ n → m ≡ n + (if r == 0 then 1 else 0) → starts (take (k + 1) ts) ≡ m
starts_more ts k r n m p h e =
    let one : starts (p.here ∷ []) ≡ (if r == 0 then 1 else 0) + 0 = ap (λ (q : ℕ). (if q == 0 then 1 else 0) + 0) p.repetition in
    ap (λ (j : ℕ). starts (take j ts)) (add-one k) ∙ ap starts p.one_more ∙ starts_append (take k ts) (p.here ∷ []) ∙ omega (arith, h, e, one)

pub begins_there : (ts : List Triplet) (k r : ℕ) → Parted ts k r → (r == 0) ≡ true → begins_record (drop k ts) ≡ true
begins_there ts k r p h = ap begins_record p.there ∙ (ap (λ (q : ℕ). q == 0) p.repetition ∙ h)
