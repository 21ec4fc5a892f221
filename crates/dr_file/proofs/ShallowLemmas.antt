-- Levels of a leaf that has few repeated fields.
use Rattle.std.proofs.Common.{◌≡◌, ℕ, zero, suc, ◌+◌, ◌<◌, ◌≤◌, List, [], ◌∷◌, map, length, take, drop, get_or, Bool, true, false, refl, sym, ap, ap₂, ◌∙◌, arith}
use Rattle.std.specs.Prelude.{◌==◌, ◌&&◌, if◌then◌else◌, None}
use Rattle.std.proofs.lemmas.Bool.{ne_eqb}
use Rattle.dr_meaning.specs.Path.{Step}
use Rattle.dr_meaning.specs.Column.{triplet}
use Rattle.dr_meaning.specs.OneColumn.{level_inside, may_follow, all_follow, starts}
use Rattle.dr_levels.specs.declared.triplet.Levels.{Levels}
use Rattle.dr_levels.specs.Apart.{definitions, repetitions}
use Rattle.dr_levels.proofs.ApartLemmas.{as_many, definition_at, repetition_at}
use Rattle.dr_file.specs.Floors.{least_of, bare, shallow_least, AreFloorsOf, AreShallowOf}
use Rattle.dr_file.specs.declared.floors.Floors.{Floors}
use Rattle.dr_file.specs.declared.shallow.Shallow.{Shallow}
use Rattle.dr_file.proofs.FloorLemmas.{follow_by_level, level_is}
use Rattle.dr_file.proofs.RowOrderLemmas.{and_assoc, begun_more, follow_more}

-- ---- least levels

past_least : (x : Shallow) (r : ℕ) → 3 < r → shallow_least x r ≡ x.others
past_least x r h =
    let a : (r == 0) ≡ false = ne_eqb r 0 (λ e. absurd (omega (arith, h, e))) in
    let b : (r == 1) ≡ false = ne_eqb r 1 (λ e. absurd (omega (arith, h, e))) in
    let c : (r == 2) ≡ false = ne_eqb r 2 (λ e. absurd (omega (arith, h, e))) in
    let d : (r == 3) ≡ false = ne_eqb r 3 (λ e. absurd (omega (arith, h, e))) in
    ap (λ (t : Bool). if t then 0 else (if r == 1 then x.first else (if r == 2 then x.second else (if r == 3 then x.third else x.others)))) a
    ∙ (ap (λ (t : Bool). if t then x.first else (if r == 2 then x.second else (if r == 3 then x.third else x.others))) b
    ∙ (ap (λ (t : Bool). if t then x.second else (if r == 3 then x.third else x.others)) c ∙ ap (λ (t : Bool). if t then x.third else x.others) d))

none_past : (ls : List ℕ) (j g : ℕ) → length ls ≤ j → get_or ls j g ≡ g
none_past [] zero g h = refl
none_past [] (suc j) g h = refl
none_past (l ∷ ls) zero g h = absurd (omega (arith, h))
none_past (l ∷ ls) (suc j) g h = none_past ls j g (omega (arith, h))

pub shallow_floors : (p : List Step) (f : Floors) (x : Shallow) → AreFloorsOf p f → length f.levels.items ≤ 3 → x.first ≡ get_or f.levels.items 0 f.greatest → x.second ≡ get_or f.levels.items 1 f.greatest
    → x.third ≡ get_or f.levels.items 2 f.greatest → x.others ≡ f.greatest → AreShallowOf p x
shallow_floors p f x h few a b c d = by
  where
    at : (j : ℕ) → get_or f.levels.items j f.greatest ≡ level_inside p j
    at j = ap₂ (λ (ls : List ℕ) (g : ℕ). get_or ls j g) h.0 h.1 ∙ sym (level_is p j)

    by : (r : ℕ) → shallow_least x r ≡ least_of p r
    by zero = refl
    by (suc zero) = a ∙ at 0
    by (suc (suc zero)) = b ∙ at 1
    by (suc (suc (suc zero))) = c ∙ at 2
    by (suc (suc (suc (suc j)))) =
        past_least x (suc (suc (suc (suc j)))) (omega arith) ∙ (d ∙ (sym (none_past f.levels.items (suc (suc (suc j))) f.greatest (omega (arith, few))) ∙ at (suc (suc (suc j)))))

-- ---- levels by themselves

-- one more is counted
pub count_more : (ls : List Levels) (i begun one : ℕ) (rs : List ℕ) → repetitions ls ≡ rs → i < length rs → begun ≡ starts (map bare (take i ls)) → one ≡ (if get_or rs i 0 == 0 then 1 else 0)
    → begun + one ≡ starts (map bare (take (i + 1) ls))
count_more ls i begun one rs r h b e =
    let z : Levels = record { repetition = 0; definition = 0 } in
    let n : i < length ls = omega (arith, h, as_many ls rs r) in
    let x : (get_or ls i z).repetition ≡ get_or rs i 0 = repetition_at ls i z refl ∙ ap (λ (xs : List ℕ). get_or xs i 0) r in
    let o : one ≡ (if (get_or ls i z).repetition == 0 then 1 else 0) = e ∙ ap (λ (k : ℕ). if k == 0 then 1 else 0) (sym x) in
    omega (arith, b, o, begun_more ls i z n)

-- one more follows the one before it
pub parts_more : (p : List Step) (last : ℕ) (ls : List Levels) (i : ℕ) (rs ds : List ℕ) (fits b : Bool) → repetitions ls ≡ rs → definitions ls ≡ ds → i < length rs → b ≡ may_follow p last (get_or ds i 0) (get_or rs i 0)
    → (fits && all_follow p (triplet 0 last None) (map bare (drop i ls))) ≡ ((fits && b) && all_follow p (triplet 0 (get_or ds i 0) None) (map bare (drop (i + 1) ls)))
parts_more p last ls i rs ds fits b r d h e =
    let z : Levels = record { repetition = 0; definition = 0 } in
    let n : i < length ls = omega (arith, h, as_many ls rs r) in
    let x : (get_or ls i z).repetition ≡ get_or rs i 0 = repetition_at ls i z refl ∙ ap (λ (xs : List ℕ). get_or xs i 0) r in
    let y : (get_or ls i z).definition ≡ get_or ds i 0 = definition_at ls i z refl ∙ ap (λ (xs : List ℕ). get_or xs i 0) d in
    follow_more p last ls i z fits b n (e ∙ ap₂ (λ (a c : ℕ). may_follow p last a c) (sym y) (sym x))
    ∙ ap (λ (k : ℕ). (fits && b) && all_follow p (triplet 0 k None) (map bare (drop (i + 1) ls))) y

-- ---- a piece, and the others

middle_true : (a b : Bool) → (a && b) ≡ ((a && true) && b)
middle_true true b = refl
middle_true false b = refl

follow_piece : (p : List Step) (last n : ℕ) (ls : List Levels) (d : Levels) → n < length ls
    → all_follow p (triplet 0 last None) (map bare ls) ≡ (all_follow p (triplet 0 last None) (map bare (take (suc n) ls)) && all_follow p (triplet 0 (get_or (take (suc n) ls) n d).definition None) (map bare (drop (suc n) ls)))
follow_piece p last n [] d h = absurd (omega (arith, h))
follow_piece p last zero (l ∷ ls) d h =
    let m : Bool = may_follow p last l.definition l.repetition in
    ap (λ (b : Bool). m && b) (follow_by_level p (bare l) (map bare ls)) ∙ middle_true m (all_follow p (triplet 0 l.definition None) (map bare ls))
follow_piece p last (suc n) (l ∷ ls) d h =
    let m : Bool = may_follow p last l.definition l.repetition in
    let a : Bool = all_follow p (triplet 0 l.definition None) (map bare (take (suc n) ls)) in
    let b : Bool = all_follow p (triplet 0 (get_or (take (suc n) ls) n d).definition None) (map bare (drop (suc n) ls)) in
    ap (λ (x : Bool). m && x) (follow_by_level p (bare l) (map bare ls) ∙ follow_piece p l.definition n ls d (omega (arith, h)))
    ∙ (and_assoc m a b ∙ ap (λ (x : Bool). (m && x) && b) (sym (follow_by_level p (bare l) (map bare (take (suc n) ls)))))

-- one more piece follows
pub piece_more : (p : List Step) (last n m : ℕ) (ls front back : List Levels) (d : Levels) (fits b : Bool) → m ≡ suc n → n < length ls → front ≡ take m ls → back ≡ drop m ls
    → b ≡ all_follow p (triplet 0 last None) (map bare front)
    → (fits && all_follow p (triplet 0 last None) (map bare ls)) ≡ ((fits && b) && all_follow p (triplet 0 (get_or front n d).definition None) (map bare back))
piece_more p last n m ls front back d fits b e h f k q =
    let t : front ≡ take (suc n) ls = f ∙ ap (λ (j : ℕ). take j ls) e in
    let u : back ≡ drop (suc n) ls = k ∙ ap (λ (j : ℕ). drop j ls) e in
    let a : Bool = all_follow p (triplet 0 last None) (map bare (take (suc n) ls)) in
    let r : Bool = all_follow p (triplet 0 (get_or (take (suc n) ls) n d).definition None) (map bare (drop (suc n) ls)) in
    let s : a ≡ b = ap (λ (xs : List Levels). all_follow p (triplet 0 last None) (map bare xs)) (sym t) ∙ sym q in
    ap (λ (x : Bool). fits && x) (follow_piece p last n ls d h)
    ∙ (and_assoc fits a r
    ∙ (ap (λ (x : Bool). (fits && x) && r) s
    ∙ ap₂ (λ (xs ys : List Levels). (fits && b) && all_follow p (triplet 0 (get_or xs n d).definition None) (map bare ys)) (sym t) (sym u)))

-- the rows that begin in the first so many levels, and those in the others
pub begun_parts : (n : ℕ) (ls : List Levels) → starts (map bare (take n ls)) + starts (map bare (drop n ls)) ≡ starts (map bare ls)
begun_parts zero ls = omega arith
begun_parts (suc n) [] = omega arith
begun_parts (suc n) (l ∷ ls) = omega (arith, begun_parts n ls)
