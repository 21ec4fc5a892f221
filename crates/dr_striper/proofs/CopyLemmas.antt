-- Triplets whose levels and values are taken one after another.
use Rattle.std.specs.Prelude.{◌≡◌, ℕ, suc, List, [], ◌∷◌, ◌++◌, length, map, drop, get_or, Bool, true, false, ◌==◌, if◌then◌else◌, Option, Some, None}
use Rattle.std.specs.List.{list_all}
use Rattle.std.proofs.Common.{refl, sym, ap, ap₂, ◌∙◌, true≢false, arith}
use Rattle.std.proofs.lemmas.Bool.{and_parts}
use Rattle.dr_meaning.specs.Schema.{Kind, bool_kind, int32_kind, int64_kind, text_kind}
use Rattle.dr_meaning.specs.Record.{Value}
use Rattle.dr_meaning.specs.Column.{Triplet, triplet}
use Rattle.dr_levels.specs.declared.triplet.Levels.{Levels}
use Rattle.dr_levels.specs.declared.text_place.TextPlace.{TextPlace}
use Rattle.dr_levels.specs.Views.{LeafForm, levels_pair, triplet_levels}
use Rattle.dr_levels.specs.Columns.{takes, has_value}
use Rattle.dr_levels.specs.Dense.{present, joined, value_list, first_of, text_values}
use Rattle.dr_levels.specs.Lent.{present_values}
use Rattle.dr_striper.specs.Shapes.{AllTaken}

one-copied : (k : Kind) (g : ℕ) (b : Bool) (l : Levels) (r d : ℕ) (v : Option Value) (ls : List Levels) (ts : List Triplet) → has_value k b v ≡ true → l.repetition ≡ r → l.definition ≡ d
    → (joined g ls (present_values ts) ≡ ts) × (present g ls ≡ length (present_values ts))
    → ((if b then triplet l.repetition l.definition (first_of (value_list v ++ present_values ts)) ∷ joined g ls (drop 1 (value_list v ++ present_values ts)) else triplet l.repetition l.definition None ∷ joined g ls (value_list v ++ present_values ts)) ≡ triplet r d v ∷ ts)
    × ((if b then suc (present g ls) else present g ls) ≡ length (value_list v ++ present_values ts))
one-copied k g true l r d (Some v) ls ts h er ed e = (ap₂ (λ (x : Triplet) (xs : List Triplet). x ∷ xs) (ap₂ (λ (i j : ℕ). triplet i j (Some v)) er ed) e.0, ap suc e.1)
one-copied k g true l r d None ls ts h er ed e = absurd (true≢false (sym h))
one-copied k g false l r d (Some v) ls ts h er ed e = absurd (true≢false (sym h))
one-copied k g false l r d None ls ts h er ed e = (ap₂ (λ (x : Triplet) (xs : List Triplet). x ∷ xs) (ap₂ (λ (i j : ℕ). triplet i j None) er ed) e.0, e.1)

pub all_copied : (f : LeafForm) (ls : List Levels) (ts : List Triplet) → map levels_pair ls ≡ map triplet_levels ts → AllTaken f ts
    → (joined f.greatest ls (present_values ts) ≡ ts) × (present f.greatest ls ≡ length (present_values ts))
all_copied f [] [] e h = (refl, refl)
all_copied f [] (t ∷ ts) e h = absurd (omega (arith, ap length e))
all_copied f (l ∷ ls) [] e h = absurd (omega (arith, ap length e))
all_copied f (l ∷ ls) (t ∷ ts) e h =
    let a : (takes f t ≡ true) × AllTaken f ts = and_parts _ _ h in
    let er : l.repetition ≡ t.repetition = ap (λ (xs : List (ℕ × ℕ)). (get_or xs 0 (0, 0)).0) e in
    let ed : l.definition ≡ t.definition = ap (λ (xs : List (ℕ × ℕ)). (get_or xs 0 (0, 0)).1) e in
    let b : has_value f.kind (l.definition == f.greatest) t.value ≡ true = ap (λ (d : ℕ). has_value f.kind (d == f.greatest) t.value) ed ∙ a.0 in
    one-copied f.kind f.greatest (l.definition == f.greatest) l t.repetition t.definition t.value ls ts b er ed (all_copied f ls ts (ap (drop 1) e) a.1)

pub texts_length : (bytes : List ℕ) (ps : List TextPlace) → length (text_values bytes ps) ≡ length ps
texts_length bytes [] = refl
texts_length bytes (p ∷ ps) = ap suc (texts_length bytes ps)
