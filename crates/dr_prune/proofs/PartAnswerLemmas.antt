-- The answers of parts, where one more was tested.
use Rattle.std.proofs.Common.{◌≡◌, ℕ, zero, suc, ◌+◌, ◌≤◌, ◌<◌, List, [], ◌∷◌, length, get_or, map, Bool, false, Some, refl, sym, ap, ap₂, ◌∙◌, arith}
use Rattle.std.specs.Prelude.{◌==◌, ◌&&◌, if◌then◌else◌, option_map}
use Rattle.std.specs.List.{slice_get, list_all}
use Rattle.std.proofs.Math.ListN.{set}
use Rattle.std.proofs.lemmas.List.{length-map}
use Rattle.std.proofs.lemmas.Option.{slice_get-map, slice_get-get_or}
use Rattle.std.proofs.lemmas.Bool.{eq-eqb}
use Rattle.dr_moves.specs.Context.{Context}
use Rattle.dr_kept_laws.specs.Parts.{Part, part_at, all_answers}
use Rattle.dr_prune.specs.declared.answers.Answer.{Answer}
use Rattle.dr_prune.specs.PartAnswers.{parts_from, untested_from, tested_to}

-- an answer before any move
abbrev pub fresh : ℕ → Answer
fresh l = record { last = l; is_true = false }

abbrev pub last_of : Answer → ℕ
last_of x = x.last

-- the last leaf of the part that is read
pub last_at : (xs : List Answer) (n : ℕ) (x : Answer) → n < length (map last_of xs) → x ≡ get_or xs n x → slice_get (map last_of xs) n ≡ Some x.last
last_at xs n x l e =
    let m : length (map last_of xs) ≡ length xs = length-map xs last_of in
    slice_get-map last_of xs n ∙ ap (option_map last_of) (slice_get-get_or xs n x (omega (arith, l, m)) ∙ ap (λ (y : Answer). Some y) (sym e))

pub fresh_lasts : (ls : List ℕ) → map last_of (map fresh ls) ≡ ls
fresh_lasts [] = refl
fresh_lasts (l ∷ ls) = ap (λ (js : List ℕ). l ∷ js) (fresh_lasts ls)

pub fresh_parts : (t : ℕ → Context → Bool) (k : ℕ) (ls : List ℕ) → parts_from t k (map fresh ls) ≡ untested_from t k ls
fresh_parts t k [] = refl
fresh_parts t k (l ∷ ls) = ap (λ (ps : List Part). record { last = l; test = t k; answer = false } ∷ ps) (fresh_parts t (suc k) ls)

pub all_by_items : (t : ℕ → Context → Bool) (k : ℕ) (xs : List Answer) → list_all (λ (x : Answer). x.is_true) xs ≡ all_answers (parts_from t k xs)
all_by_items t k [] = refl
all_by_items t k (x ∷ xs) = ap (λ (b : Bool). x.is_true && b) (all_by_items t (suc k) xs)

pub parts_length : (t : ℕ → Context → Bool) (k : ℕ) (xs : List Answer) → length (parts_from t k xs) ≡ length (map last_of xs)
parts_length t k [] = refl
parts_length t k (x ∷ xs) = ap suc (parts_length t (suc k) xs)

module _ (i : ℕ) (c : Context) where
  part_here : (a : Part) (l : ℕ) (b : Bool) → a.last ≡ i → l ≡ i → a.test c ≡ b → part_at i c a ≡ record { last = l; test = a.test; answer = b }
  part_here a l b e f h =
      ap (λ (v : Bool). record { last = a.last; test = a.test; answer = if v then a.test c else a.answer }) (eq-eqb i a.last (sym e))
      ∙ ap₂ (λ (j : ℕ) (v : Bool). record { last = j; test = a.test; answer = v }) (e ∙ sym f) h

  part_elsewhere : (a : Part) → (i == a.last) ≡ false → part_at i c a ≡ a
  part_elsewhere a e = ap (λ (v : Bool). record { last = a.last; test = a.test; answer = if v then a.test c else a.answer }) e

  module _ (t : ℕ → Context → Bool) where
    -- the next part is tested
    pub tested_next : (xs : List Answer) (n k j : ℕ) (y : Answer) (ps : List Part) → k + n ≡ j → slice_get (map last_of xs) n ≡ Some i
        → y.last ≡ i → t j c ≡ y.is_true
        → parts_from t k xs ≡ tested_to n i c ps → parts_from t k (set xs n y) ≡ tested_to (suc n) i c ps
    tested_next [] n k j y ps s g l e h = absurd (cc)
    tested_next (x ∷ xs) zero k j y ps s g l e h =
        let same : k ≡ j = omega (arith, s) in
        let here : x.last ≡ i = cc in
        ap (λ (a : Part). a ∷ parts_from t (suc k) xs) (sym (part_here (record { last = x.last; test = t k; answer = x.is_true }) y.last y.is_true here l (ap (λ (m : ℕ). t m c) same ∙ e)))
        ∙ ap (tested_to 1 i c) h
    tested_next (x ∷ xs) (suc n) k j y [] s g l e h = absurd (cc)
    tested_next (x ∷ xs) (suc n) k j y (q ∷ ps) s g l e h =
        let first : (record { last = x.last; test = t k; answer = x.is_true }) ≡ part_at i c q = cc in
        let others : parts_from t (suc k) xs ≡ tested_to n i c ps = cc in
        ap₂ (λ (a : Part) (rest : List Part). a ∷ rest) first (tested_next xs n (suc k) j y ps (omega (arith, s)) g l e others)

    -- the next part is another leaf's
    pub passed_next : (xs : List Answer) (n k l : ℕ) (ps : List Part) → slice_get (map last_of xs) n ≡ Some l → (i == l) ≡ false
        → parts_from t k xs ≡ tested_to n i c ps → parts_from t k xs ≡ tested_to (suc n) i c ps
    passed_next [] n k l ps g e h = absurd (cc)
    passed_next (x ∷ xs) zero k l ps g e h =
        let here : l ≡ x.last = cc in
        ap (λ (a : Part). a ∷ parts_from t (suc k) xs) (sym (part_elsewhere (record { last = x.last; test = t k; answer = x.is_true }) (ap (λ (m : ℕ). i == m) (sym here) ∙ e)))
        ∙ ap (tested_to 1 i c) h
    passed_next (x ∷ xs) (suc n) k l [] g e h = absurd (cc)
    passed_next (x ∷ xs) (suc n) k l (q ∷ ps) g e h =
        let first : (record { last = x.last; test = t k; answer = x.is_true }) ≡ part_at i c q = cc in
        let others : parts_from t (suc k) xs ≡ tested_to n i c ps = cc in
        ap₂ (λ (a : Part) (rest : List Part). a ∷ rest) first (passed_next xs n (suc k) l ps g e others)

  -- all parts
  pub tested_all : (n : ℕ) (ps : List Part) → length ps ≤ n → tested_to n i c ps ≡ map (part_at i c) ps
  tested_all zero [] h = refl
  tested_all zero (a ∷ ps) h = absurd (omega (arith, h))
  tested_all (suc n) [] h = refl
  tested_all (suc n) (a ∷ ps) h = ap (λ (rest : List Part). part_at i c a ∷ rest) (tested_all n ps (omega (arith, h)))
