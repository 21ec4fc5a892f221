-- Where a column is read: the next triplet, and the values that belong to it.
use Rattle.std.proofs.Common.{◌≡◌, ℕ, suc, ◌+◌, ◌-◌, ◌<◌, ◌≤◌, List, [], ◌∷◌, map, length, take, drop, get_or, Bool, true, false, Some, None, refl, sym, ap, ap₂, ◌∙◌, subst, true≢false, arith}
use Rattle.std.specs.Prelude.{◌==◌, if◌then◌else◌}
use Rattle.std.specs.Str.{IsUtf8}
use Rattle.std.proofs.lemmas.Bool.{eq-eqb, ne_eqb}
use Rattle.std.proofs.lemmas.List.{drop_more, drop-map, length-take-le, length-drop}
use Rattle.dr_meaning.specs.Record.{Value}
use Rattle.dr_meaning.specs.Column.{triplet}
use Rattle.dr_levels.specs.Dense.{present, joined, values_view}
use Rattle.dr_levels.specs.Texts.{is_text, bytes_at}
use Rattle.dr_levels.specs.Lent.{lent_values, lends_kind, present_values}
use Rattle.dr_levels.specs.Views.{levels_pair, triplet_levels, triplets_view, triplets_form}
use Rattle.dr_meaning.specs.Schema as tree
use Rattle.dr_levels.specs.declared.triplet.Levels.{Levels}
use Rattle.dr_levels.specs.declared.text_place.TextPlace.{TextPlace}
use Rattle.dr_levels.specs.declared.triplets.Triplets.{Triplets}
use Rattle.dr_levels.specs.declared.values_ref.ValuesRef.{ValuesRef}
use Rattle.dr_levels.proofs.DenseLemmas.{counted_more, present-taken, joined_levels, joined-front, present-joined}
use Rattle.dr_levels.proofs.TextLemmas.{text_parts}
use Rattle.dr_rows_beside.specs.Lent.{has_texts}

-- ---- values

-- the bytes at a place, as code cuts them out
pub cut_out : (bytes : List ℕ) (p : TextPlace) → take (p.start + p.length - p.start) (drop p.start bytes) ≡ bytes_at bytes p
cut_out bytes p = let n : p.start + p.length - p.start ≡ p.length = omega arith in ap (λ k. take k (drop p.start bytes)) n

pub cut_text : (bytes : List ℕ) (p : TextPlace) → is_text bytes p ≡ true → IsUtf8 (take (p.start + p.length - p.start) (drop p.start bytes))
cut_text bytes p h = subst IsUtf8 (sym (cut_out bytes p)) (text_parts bytes p h).1

pub seen_at : {A : Type 0} (f : A → Value) (xs : List A) (k : ℕ) (d : A) → k < length xs → drop k (map f xs) ≡ f (get_or xs k d) ∷ drop (k + 1) (map f xs)
seen_at f xs k d h = drop-map f k xs ∙ ap (map f) (drop_more xs k d h) ∙ ap (λ ys. f (get_or xs k d) ∷ ys) (sym (drop-map f (k + 1) xs))

pub texts_of_kind : (k : tree.Kind) (v : ValuesRef) → lends_kind k v ≡ true → has_texts v ≡ true
texts_of_kind k (ValuesRef.Bools v) h = refl
texts_of_kind k (ValuesRef.Integers v) h = refl
texts_of_kind tree.text_kind (ValuesRef.Texts bytes places) h = h
texts_of_kind tree.bool_kind (ValuesRef.Texts bytes places) h = absurd (true≢false (sym h))
texts_of_kind tree.int32_kind (ValuesRef.Texts bytes places) h = absurd (true≢false (sym h))
texts_of_kind tree.int64_kind (ValuesRef.Texts bytes places) h = absurd (true≢false (sym h))

-- ---- the next triplet

abbrev counted_if : Bool → ℕ → ℕ
counted_if b n = if b then suc n else n

most_by : (b : Bool) (m n : ℕ) → m ≤ n → counted_if b m ≤ suc n
most_by true m n h = omega (arith, h)
most_by false m n h = omega (arith, h)

present_most : (g : ℕ) (ls : List Levels) → present g ls ≤ length ls
present_most g [] = omega arith
present_most g (l ∷ ls) = most_by (l.definition == g) (present g ls) (length ls) (present_most g ls)

pub few_values : (g i : ℕ) (ls : List Levels) → i ≤ length ls → present g (take i ls) ≤ i
few_values g i ls h = omega (arith, present_most g (take i ls), length-take-le i ls h)

pub counted_none : (g i : ℕ) (ls : List Levels) (d : Levels) → i < length ls → ((get_or ls i d).definition ≡ g → ⊥) → present g (take (i + 1) ls) ≡ present g (take i ls)
counted_none g i ls d h n =
    let e : present g (get_or ls i d ∷ []) ≡ 0 = rw (ne_eqb (get_or ls i d).definition g n) refl in
    omega (arith, counted_more g ls i d h, e)

pub counted_one : (g i : ℕ) (ls : List Levels) (d : Levels) → i < length ls → (get_or ls i d).definition ≡ g → present g (take (i + 1) ls) ≡ present g (take i ls) + 1
counted_one g i ls d h n =
    let e : present g (get_or ls i d ∷ []) ≡ 1 = rw (eq-eqb (get_or ls i d).definition g n) refl in
    omega (arith, counted_more g ls i d h, e)

pub value_within : (g i : ℕ) (ls : List Levels) (d : Levels) → i < length ls → (get_or ls i d).definition ≡ g → present g (take i ls) < present g ls
value_within g i ls d h n = omega (arith, counted_one g i ls d h n, present-taken g (i + 1) ls)

pub next_none : (g i : ℕ) (ls : List Levels) (d : Levels) (vs : List Value) → i < length ls → ((get_or ls i d).definition ≡ g → ⊥)
    → joined g (drop i ls) vs ≡ triplet (get_or ls i d).repetition (get_or ls i d).definition None ∷ joined g (drop (i + 1) ls) vs
next_none g i ls d vs h n = ap (λ ms. joined g ms vs) (drop_more ls i d h) ∙ rw (ne_eqb (get_or ls i d).definition g n) refl

pub next_some : (g i : ℕ) (ls : List Levels) (d : Levels) (vs us : List Value) (v : Value) → i < length ls → (get_or ls i d).definition ≡ g → vs ≡ v ∷ us
    → joined g (drop i ls) vs ≡ triplet (get_or ls i d).repetition (get_or ls i d).definition (Some v) ∷ joined g (drop (i + 1) ls) us
next_some g i ls d vs us v h n e =
    ap₂ (λ ms ws. joined g ms ws) (drop_more ls i d h) e ∙ rw (eq-eqb (get_or ls i d).definition g n) refl

-- ---- a column from its first triplet on

levels_same : (a b : Levels) → levels_pair a ≡ levels_pair b → a ≡ b
levels_same a b h = ap (λ (p : ℕ × ℕ). levels_from p) h
  where
    levels_from : ℕ × ℕ → Levels
    levels_from p = record { repetition = p.0; definition = p.1 }

all_levels_same : (ls ms : List Levels) → map levels_pair ls ≡ map levels_pair ms → ls ≡ ms
all_levels_same [] [] h = refl
all_levels_same [] (m ∷ ms) h = absurd (cc)
all_levels_same (l ∷ ls) [] h = absurd (cc)
all_levels_same (l ∷ ls) (m ∷ ms) h =
    let a : levels_pair l ≡ levels_pair m = cc in
    let b : map levels_pair ls ≡ map levels_pair ms = cc in
    ap₂ (λ (x : Levels) (xs : List Levels). x ∷ xs) (levels_same l m a) (all_levels_same ls ms b)

pub whole_values : (t : Triplets) (g : ℕ) (ls : List Levels) (vs : List Value) → g ≡ (triplets_form t).greatest → map levels_pair ls ≡ map triplet_levels (triplets_view t) → vs ≡ present_values (triplets_view t)
    → (present g ls ≡ length vs) × (joined g ls vs ≡ triplets_view t)
whole_values t g ls vs e h w =
    let G = t.column.now.greatest in
    let T = t.levels.now in
    let V = drop t.value (values_view t.column.now.values) in
    let same : ls ≡ T = all_levels_same ls T (h ∙ sym (joined_levels G T V)) in
    let few : present G T ≤ length V = omega (arith, t.there, length-drop t.value (values_view t.column.now.values)) in
    let k : vs ≡ take (present G T) V = w ∙ present-joined G T V few in (
      ap₂ present e same ∙ sym (ap length k ∙ length-take-le (present G T) V few),
      ap₂ (λ x ms. joined x ms vs) e same ∙ ap (joined G T) k ∙ joined-front G (present G T) T V refl,
    )

pub whole_column : (t : Triplets) (g : ℕ) (ls : List Levels) (v : ValuesRef) → g ≡ (triplets_form t).greatest → map levels_pair ls ≡ map triplet_levels (triplets_view t) → lent_values v ≡ present_values (triplets_view t)
    → (present g ls ≡ length (lent_values v)) × (joined g ls (lent_values v) ≡ triplets_view t)
whole_column t g ls v e h w = whole_values t g ls (lent_values v) e h w
