-- The next records of what is at hand of leaves.
use Rattle.std.proofs.Common.{◌≡◌, ◌<◌, ◌≤◌, ◌+◌, ◌-◌, ℕ, zero, suc, List, [], ◌∷◌, ◌++◌, map, length, take, drop, get_or, Bool, true, false, Some, refl, sym, ap, ap₂, subst, ◌∙◌, true≢false, arith, length-append}
use Rattle.std.specs.List.{list_all, slice_get}
use Rattle.std.proofs.Math.Seq.{take-append_seam}
use Rattle.dr_meaning.specs.Schema.{Fields}
use Rattle.dr_meaning.specs.Path.{Step, Leaf, paths_of_leaves}
use Rattle.dr_meaning.specs.Record.{Node}
use Rattle.dr_meaning.specs.WalkLaws.{AreLeavesOf}
use Rattle.dr_meaning.specs.Column.{Triplet, column}
use Rattle.dr_meaning.specs.OneColumn.{starts, is_column}
use Rattle.dr_meaning.proofs.ColumnStarts.{starts_append}
use Rattle.dr_meaning.proofs.OneColumnLemmas.{columns_recognized}
use Rattle.dr_moves.specs.Leading.{Left, columns_of}
use Rattle.dr_beside.specs.Chunks.{HasColumns, NoneHas}
use Rattle.dr_beside.specs.Neighbours.{column_at}
use Rattle.dr_beside.proofs.NeighbourLemmas.{mapped_at}
use Rattle.dr_agreement.specs.Alone.{OneIsNoColumn}
use Rattle.dr_agreement.specs.AtHand.{whole, whole_at, here_of, ends_of, IsFrontOf, AreFronts, CanPass}
use Rattle.dr_agreement.specs.Behind.{IsFront}
use Rattle.dr_agreement.specs.declared.at_hand.AtHand.{AtHand}

-- ---- fronts of whole records

-- what is left behind them
abbrev pub behind_fronts : List AtHand → List (List Triplet) → Left
behind_fronts xs C i = drop (length (columns_of C i)) (here_of xs i)

whole_records : (b : Bool) (n : ℕ) (all front rest : List Triplet) → all ≡ front ++ rest → starts front ≡ n → 0 < n → n ≤ whole b (starts all) → rest ≡ [] → b ≡ true
whole_records true n all front rest e m some few none = refl
whole_records false n all front rest e m some few none =
    let a : starts all ≡ starts front + starts rest = ap starts e ∙ starts_append front rest in
    let z : starts rest ≡ 0 = ap starts none in
    absurd (omega (arith, a, z, m, some, few))

pub fronts_in_front : (xs : List AtHand) (C : List (List Triplet)) (n records : ℕ) → n ≡ length xs → 0 < records → ((i : ℕ) → i < length xs → records ≤ whole_at xs i) → AreFronts records xs C
    → IsFront n records (here_of xs) (behind_fronts xs C) (columns_of C) (ends_of xs)
fronts_in_front xs C n records e some few f = record {
  lies = λ i l. (f.1 i (within i l)).lies;
  so_many = λ i l. (f.1 i (within i l)).so_many;
  begins = λ i l. (f.1 i (within i l)).begins;
  whole = λ i l z. whole_records (ends_of xs i) records (here_of xs i) (columns_of C i) (behind_fronts xs C i) (f.1 i (within i l)).lies (f.1 i (within i l)).so_many some (few i (within i l)) z;
}
  where
    within : (i : ℕ) → i < n → i < length xs
    within i l = omega (arith, l, e)

-- ---- they are passed

pub count_at : (C : List (List Triplet)) (i : ℕ) → get_or (map (λ (ts : List Triplet). length ts) C) i 0 ≡ length (columns_of C i)
count_at [] zero = refl
count_at [] (suc i) = refl
count_at (c ∷ C) zero = refl
count_at (c ∷ C) (suc i) = count_at C i

front_passes : (records count : ℕ) (all front : List Triplet) → count ≡ length front → IsFrontOf records all front → CanPass all count records
front_passes records count all front e f = (
  (let n = ap length f.lies ∙ length-append front (drop (length front) all) in omega (arith, n, e)),
  ap starts (ap (λ (k : ℕ). take k all) e ∙ (ap (take (length front)) f.lies ∙ take-append_seam front (drop (length front) all))) ∙ f.so_many,
)

pub fronts_pass : (xs : List AtHand) (C : List (List Triplet)) (ns : List ℕ) (records : ℕ) → ns ≡ map (λ (ts : List Triplet). length ts) C → AreFronts records xs C → (i : ℕ) → i < length xs → CanPass (here_of xs i) (get_or ns i 0) records
fronts_pass xs C ns records e f i l = front_passes records (get_or ns i 0) (here_of xs i) (columns_of C i) (ap (λ (ms : List ℕ). get_or ms i 0) e ∙ count_at C i) (f.1 i l)

-- ---- one that is no column

pub none_of_no_column : (fs : Fields) (L : List Leaf) (K : List (List Triplet)) (records : ℕ) → AreLeavesOf fs L → OneIsNoColumn L K records → NoneHas fs (paths_of_leaves L) K records
none_of_no_column fs L K records of_schema (i, l, at, fails) R has =
    let k : (j : ℕ) × _ = of_schema i l at in
    let own : column l.path R ≡ column_at K i = mapped_at (λ (p : List Step). column p R) (paths_of_leaves L) K i l.path has.2 (path_at L i l at) in
    true≢false (sym ((columns_recognized fs k.0 l records (column_at K i) k.1).1 (R, has.0, has.1, own)) ∙ fails)
  where
    path_at : (L : List Leaf) (i : ℕ) (l : Leaf) → slice_get L i ≡ Some l → slice_get (paths_of_leaves L) i ≡ Some l.path
    path_at [] i l e = absurd (cc)
    path_at (m ∷ L) zero l e = cc
    path_at (m ∷ L) (suc i) l e = path_at L i l e
