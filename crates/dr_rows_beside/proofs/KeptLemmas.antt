-- What the bits of a condition mean.
use Rattle.std.proofs.Common.{◌≡◌, ℕ, List, [], ◌∷◌, map, Bool, true, false, refl, sym, ap, ap₂, ◌∙◌, subst}
use Rattle.std.specs.Prelude.{◌&&◌}
use Rattle.std.specs.List.{list_all, flat_map, slice_get}
use Rattle.dr_meaning.specs.Schema.{Fields}
use Rattle.dr_meaning.specs.Path.{Step, Leaf, paths_of_leaves, is_leaf_path, begins_with, chain_end, common}
use Rattle.dr_meaning.specs.Record.{Node}
use Rattle.dr_meaning.specs.Column.{Triplet, column}
use Rattle.dr_meaning.specs.Rows.{rows}
use Rattle.dr_meaning.specs.Expression.{paths_of}
use Rattle.dr_moves.specs.Selection.{all_differ}
use Rattle.dr_plan.specs.declared.expression.Expr.{Expr}
use Rattle.dr_plan.specs.Views.{truth_view, path_of}
use Rattle.dr_scalar.specs.Leaves.{truth_leaves}
use Rattle.dr_scalar.proofs.LeafPathLemmas.{leaves_are_paths}
use Rattle.dr_beside.specs.Chunks.{HasColumns}
use Rattle.dr_beside.specs.Sifting.{sift}
use Rattle.dr_beside.specs.Spreading.{repetitions_of, spread_over, AreOnChain}
use Rattle.dr_beside.proofs.SpreadLemmas.{tests_beside}
use Rattle.dr_beside.proofs.SiftLemmas.{kept_beside}
use Rattle.dr_beside.proofs.DecidedLemmas.{conditions_are_decided}
use Rattle.dr_rows_beside.specs.declared.judging.Test.{Test}
use Rattle.dr_rows_beside.specs.declared.source.Beside.{Beside}
use Rattle.dr_rows_beside.specs.Bits.{each_and, gathered}
use Rattle.dr_rows_beside.specs.Answers.{holds_in}
use Rattle.dr_rows_beside.specs.RecordRows.{AreBeside, rows_of}
use Rattle.dr_rows_beside.specs.Sources.{AreReadBeside, all_beside, AreOnItsChain}
use Rattle.dr_rows_beside.specs.Judging.{narrowed, narrowed_by}
use Rattle.dr_rows_beside.specs.Keepings.{levels_of}
use Rattle.dr_rows_beside.specs.Kept.{holds, all_hold, IsTestOf, AreTestsOf, RowsAreTyped, JudgedBits, JudgedRowsAreKept}
use Rattle.dr_rows_beside.proofs.BitLemmas.{gathers_bits}
use Rattle.dr_rows_beside.proofs.RecordRowLemmas.{Known, known, test_at}
use Rattle.dr_rows_beside.proofs.SlotLemmas.{path_there}
use Rattle.dr_rows_beside.proofs.TestRowLemmas.{answers_of_records}
use Rattle.dr_rows_beside.proofs.SourceLemmas.{sources_are_beside}

-- ---- one test

on_chain_of : (fs : Fields) (ls : List Leaf) (q : List Step) (ks : List ℕ) → list_all (is_leaf_path fs) (paths_of_leaves ls) ≡ true → AreOnItsChain (paths_of_leaves ls) q ks
    → AreOnChain fs q (map (λ (k : ℕ). path_of (slice_get ls k)) ks)
on_chain_of fs ls q [] h a = tt
on_chain_of fs ls q (k ∷ ks) h ((x, e, b), a) =
    let z : x ≡ path_of (slice_get ls k) = path_there ls k x e in
    (subst (λ (y : List Step). (is_leaf_path fs y ≡ true) × (begins_with (chain_end y) (chain_end q) ≡ true)) z (test_at (is_leaf_path fs) (paths_of_leaves ls) k x h e, b), on_chain_of fs ls q ks h a)

answers_of : (fs : Fields) (ls : List Leaf) (C : List (List Triplet)) (n : ℕ) (R : List Node) (t : Test) → HasColumns fs (paths_of_leaves ls) C n R → list_all (is_leaf_path fs) (paths_of_leaves ls) ≡ true → all_differ (paths_of_leaves ls) ≡ true
    → RowsAreTyped ls R → (w : IsTestOf ls t) → map (holds_in t.truth.now) (rows_of t.source.leaf t.source.beside.items C) ≡ map (holds ls t.truth.now) (flat_map (rows (chain_end w.path)) R)
answers_of fs ls C n R t h f d y w =
    let F = paths_of_leaves ls in
    let ks = truth_leaves t.truth.now in
    let bs = all_beside F t.source.leaf [] ks in
    let a : AreBeside F t.source.leaf w.path bs × AreReadBeside t.source.leaf bs ks = sources_are_beside F t.source.leaf w.path ks d w.is_path w.on_chain in
    ap (λ (xs : List Beside). map (holds_in t.truth.now) (rows_of t.source.leaf xs C)) w.read
    ∙ answers_of_records fs ls C n R t.source.leaf w.path bs t.truth.now h f a.0 a.1 w.fits (y t.source.leaf w.path w.is_path)

one_test : (fs : Fields) (ls : List Leaf) (C : List (List Triplet)) (n : ℕ) (R : List Node) (t : Test) (l : List Step) → HasColumns fs (paths_of_leaves ls) C n R → list_all (is_leaf_path fs) (paths_of_leaves ls) ≡ true
    → all_differ (paths_of_leaves ls) ≡ true → RowsAreTyped ls R → is_leaf_path fs l ≡ true → (w : IsTestOf ls t) → begins_with (chain_end w.path) (chain_end l) ≡ true
    → spread_over t.depth false (map (holds_in t.truth.now) (rows_of t.source.leaf t.source.beside.items C)) (repetitions_of (column l R)) ≡ map (holds ls t.truth.now) (flat_map (rows (chain_end l)) R)
one_test fs ls C n R t l h f d y g w b =
    let X = paths_of (truth_view ls t.truth.now) in
    let on : AreOnChain fs w.path X = subst (AreOnChain fs w.path) (leaves_are_paths ls (Expr.Truth t.truth.now)) (on_chain_of fs ls w.path (truth_leaves t.truth.now) f w.on_chain) in
    ap₂ (λ (k : ℕ) (xs : List Bool). spread_over k false xs (repetitions_of (column l R))) w.deep (answers_of fs ls C n R t h f d y w)
    ∙ tests_beside fs w.path l X R (holds ls t.truth.now) (test_at (is_leaf_path fs) (paths_of_leaves ls) t.source.leaf w.path f w.is_path) g b on (conditions_are_decided (truth_view ls t.truth.now)) h.0

-- ---- several

both_mapped : (f g : Node → Bool) (ms : List Node) → each_and (map f ms) (map g ms) ≡ map (λ (m : Node). f m && g m) ms
both_mapped f g [] = refl
both_mapped f g (m ∷ ms) = ap (λ (bs : List Bool). (f m && g m) ∷ bs) (both_mapped f g ms)

same_mapped : (f g : Node → Bool) (ms : List Node) → ((m : Node) → f m ≡ g m) → map f ms ≡ map g ms
same_mapped f g [] h = refl
same_mapped f g (m ∷ ms) h = ap₂ (λ (b : Bool) (bs : List Bool). b ∷ bs) (h m) (same_mapped f g ms h)

and_true : (a : Bool) → a ≡ (a && true)
and_true true = refl
and_true false = refl

and_assoc : (a b c : Bool) → ((a && b) && c) ≡ (a && (b && c))
and_assoc true b c = refl
and_assoc false b c = refl

module _ (fs : Fields) (ls : List Leaf) (C : List (List Triplet)) (n : ℕ) (R : List Node) (l : List Step) (h : HasColumns fs (paths_of_leaves ls) C n R) (f : list_all (is_leaf_path fs) (paths_of_leaves ls) ≡ true)
    (d : all_differ (paths_of_leaves ls) ≡ true) (y : RowsAreTyped ls R) (g : is_leaf_path fs l ≡ true) where
  narrowed_means : (test : Node → Bool) (ts : List Test) (bs : List Bool) → AreTestsOf ls l ts → bs ≡ map test (flat_map (rows (chain_end l)) R)
      → narrowed_by C (repetitions_of (column l R)) ts bs ≡ map (λ (m : Node). test m && all_hold ls ts m) (flat_map (rows (chain_end l)) R)
  narrowed_means test [] bs a e = e ∙ same_mapped test (λ (m : Node). test m && true) (flat_map (rows (chain_end l)) R) (λ m. and_true (test m))
  narrowed_means test (t ∷ ts) bs ((w, b), a) e =
      let ms = flat_map (rows (chain_end l)) R in
      let one : narrowed C (repetitions_of (column l R)) t bs ≡ map (λ (m : Node). test m && holds ls t.truth.now m) ms =
      ap₂ each_and e (one_test fs ls C n R t l h f d y g w b) ∙ both_mapped test (holds ls t.truth.now) ms in
      narrowed_means (λ (m : Node). test m && holds ls t.truth.now m) ts (narrowed C (repetitions_of (column l R)) t bs) a one
      ∙ same_mapped (λ (m : Node). (test m && holds ls t.truth.now m) && all_hold ls ts m) (λ (m : Node). test m && all_hold ls (t ∷ ts) m) ms (λ m. and_assoc (test m) (holds ls t.truth.now m) (all_hold ls ts m))

levels_are : (fs : Fields) (ls : List Leaf) (C : List (List Triplet)) (n : ℕ) (R : List Node) (own : Test) → HasColumns fs (paths_of_leaves ls) C n R → list_all (is_leaf_path fs) (paths_of_leaves ls) ≡ true → (w : IsTestOf ls own)
    → repetitions_of (column w.path R) ≡ levels_of C own
levels_are fs ls C n R own h f w =
    let k : Known fs (paths_of_leaves ls) C R = known fs (paths_of_leaves ls) C n R h f in
    ap repetitions_of (k.col own.source.leaf w.path w.is_path)

pub judged_bits : JudgedBits
judged_bits fs ls C n R own others h f d y w a =
    ap (λ (rs : List ℕ). narrowed_by C rs others (map (holds_in own.truth.now) (rows_of own.source.leaf own.source.beside.items C))) (sym (levels_are fs ls C n R own h f w))
    ∙ narrowed_means fs ls C n R w.path h f d y (test_at (is_leaf_path fs) (paths_of_leaves ls) own.source.leaf w.path f w.is_path) (holds ls own.truth.now) others
    (map (holds_in own.truth.now) (rows_of own.source.leaf own.source.beside.items C)) a (answers_of fs ls C n R own h f d y w)

pub judged_rows_are_kept : JudgedRowsAreKept
judged_rows_are_kept fs ls C n R own others p h f d y w a g =
    let k = common p w.path in
    let l : is_leaf_path fs w.path ≡ true = test_at (is_leaf_path fs) (paths_of_leaves ls) own.source.leaf w.path f w.is_path in
    ap (λ (bs : List Bool). sift k false bs (column p R) (flat_map (rows (chain_end p)) R))
    (ap₂ (λ (rs : List ℕ) (bs : List Bool). gathered k rs bs) (sym (levels_are fs ls C n R own h f w)) (judged_bits fs ls C n R own others h f d y w a)
    ∙ gathers_bits k (column w.path R) (map (all_hold ls (own ∷ others)) (flat_map (rows (chain_end w.path)) R)))
    ∙ kept_beside fs p w.path R (all_hold ls (own ∷ others)) g l h.0
