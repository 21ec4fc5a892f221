-- A scan over columns, chunk by chunk: a chunk that is taken, more of a leaf, and the end.
use Rattle.std.proofs.Common.{◌≡◌, ◌≢◌, ◌<◌, ◌≤◌, ◌+◌, ◌-◌, ◌⊎◌, inl, inr, ℕ, zero, suc, List, [], ◌∷◌, ◌++◌, map, length, drop, get_or, Bool, true, false, refl, sym, ap, ap₂, subst, ◌∙◌, arith}
use Rattle.std.specs.Prelude.{slice_set, Option, Some, Result, Ok, Err, OnOk, IfOk}
use Rattle.std.specs.declared.alloc.Global.{Global}
use Rattle.std.specs.declared.vec.Vec.{Vec}
use Rattle.std.specs.List.{list_all}
use Rattle.std.proofs.lemmas.List.{length-map}
use Rattle.std.proofs.Math.Seq.{map-set_same}
use Rattle.dr_meaning.specs.Schema.{Schema, Fields}
use Rattle.dr_meaning.specs.Path.{Step as PathStep, Leaf, is_leaf_path, paths_of_leaves}
use Rattle.dr_meaning.specs.Record.{Node}
use Rattle.dr_meaning.specs.Column.{Triplet}
use Rattle.dr_meaning.specs.OneColumn.{starts, begins_record}
use Rattle.dr_meaning.specs.WalkLaws.{AreLeavesOf}
use Rattle.dr_moves.specs.Leading.{Left, columns_of, has_columns}
use Rattle.dr_plan.specs.Planned.{plan_leaves}
use Rattle.dr_plan.specs.declared.plan.Plan.{Plan}
use Rattle.dr_beside.specs.Chunks.{HasColumns, NoneHas}
use Rattle.dr_memory.specs.declared.NoMemory.{NoMemory}
use Rattle.dr_levels.specs.Views.{triplets_view}
use Rattle.dr_levels.specs.declared.triplets.Triplets.{Triplets}
use Rattle.dr_beside.proofs.NeighbourLemmas.{tested_alone}
use Rattle.dr_agreement.specs.Alone.{AreTestsOf, AreColumnsAlone, OneIsNoColumn}
use Rattle.dr_agreement.specs.AtHand.{whole, whole_at, rest_of, form_of, here_of, ends_of, AreFronts, CanPass, IsKept}
use Rattle.dr_agreement.specs.Behind.{GoesOn, IsMore, IsBehind}
use Rattle.dr_agreement.specs.declared.at_hand.AtHand.{AtHand}
use Rattle.dr_agreement.specs.declared.at_hand.Kept.{Kept}
use Rattle.dr_agreement.specs.declared.column_of_leaf.LeafTest.{LeafTest}
use Rattle.dr_agreement.proofs.AtHandLemmas.{here_past, here_there, here_set, here_others, end_set, end_others}
use Rattle.dr_agreement.proofs.FrontsLemmas.{behind_fronts, fronts_in_front, fronts_pass, count_at, none_of_no_column}
use Rattle.dr_agreement.proofs.BehindLemmas.{behind_nothing, behind_more, behind_chunk, none_behind, none_left_over, none_to_come}
use Rattle.dr_columns.specs.Taken.{HasTaken, AreAlone, plan_paths}
use Rattle.dr_columns.specs.Chunks.{nothing, AreForPlan, TakesFronts, HasTakenChunks, NoneGoesOn, IsLent}
use Rattle.dr_columns.specs.declared.chunks.Chunks.{Chunks}
use Rattle.dr_columns.specs.declared.column_scan.ColumnScan.{ColumnScan}
use Rattle.dr_columns.proofs.TakenLemmas.{scan_in_order}

-- ---- the same at hand

pub behind_same : (fs : Fields) (F : List (List PathStep)) (rows : ℕ) (given here there : Left) (ends others : ℕ → Bool) (R : List Node) (left now : ℕ) → ((i : ℕ) → there i ≡ here i) → ((i : ℕ) → ends i ≡ true → others i ≡ true) → now ≡ left
    → IsBehind fs F rows given here ends R left → IsBehind fs F rows given there others R now
behind_same fs F rows given here there ends others R left now e q m h = record {
  are_records = h.are_records;
  count = let c = h.count in omega (arith, c, m);
  lies = λ i. h.lies i ∙ ap (λ (ts : List Triplet). has_columns F R i ++ ts) (sym (e i));
  begins = λ C later on Q has i l. ap (λ (ts : List Triplet). begins_record (ts ++ later i)) (e i) ∙ h.begins C later (on.0, on.1, λ j z. on.2 j (q j z)) Q has i l;
  past = h.past;
}

pub paths_count : (p : Plan) → length (plan_paths p) ≡ length (plan_leaves p)
paths_count p = length-map (plan_leaves p) (λ (l : Leaf). l.path)

pub leaf_paths : (s : Schema) (p : Plan) (R : List Node) (x : ColumnScan) → HasTaken s p R x → list_all (is_leaf_path s.fields) (plan_paths p) ≡ true
leaf_paths s p R x t = (scan_in_order s p R x t).leaves

-- ---- the beginning

pub begins_behind : (s : Schema) (p : Plan) (rows : ℕ) (xs : List AtHand) (x : ColumnScan) → HasTaken s p [] x → ((i : ℕ) → here_of xs i ≡ []) → IsBehind s.fields (plan_paths p) rows nothing (here_of xs) (ends_of xs) [] rows
begins_behind s p rows xs x t none = behind_same s.fields (plan_paths p) rows nothing (here_of xs) (here_of xs) (ends_of xs) (ends_of xs) [] rows rows (λ i. refl) (λ i z. z) refl
    (behind_nothing s.fields (plan_paths p) rows (here_of xs) (ends_of xs) (leaf_paths s p [] x t) none)

-- ---- a chunk

drop_of_none : (k : ℕ) (ts : List Triplet) → ts ≡ [] → drop k ts ≡ []
drop_of_none zero ts e = e
drop_of_none (suc k) [] e = refl
drop_of_none (suc k) (t ∷ ts) e = absurd (cc)

pub took_chunk : (s : Schema) (p : Plan) (rows : ℕ) (given : Left) (R S : List Node) (xs ys : List AtHand) (C : List (List Triplet)) (left records now : ℕ) → IsBehind s.fields (plan_paths p) rows given (here_of xs) (ends_of xs) R left
    → length xs ≡ length (plan_leaves p) → AreFronts records xs C → 0 < records → now + records ≡ left → ((i : ℕ) → i < length xs → records ≤ whole_at xs i) → HasColumns s.fields (plan_paths p) C records S
    → ((i : ℕ) → here_of ys i ≡ behind_fronts xs C i) → ((i : ℕ) → ends_of ys i ≡ ends_of xs i) → IsBehind s.fields (plan_paths p) rows given (here_of ys) (ends_of ys) (R ++ S) now
took_chunk s p rows given R S xs ys C left records now h n f some few whole has here ends =
    let k = paths_count p in
    behind_same s.fields (plan_paths p) rows given (behind_fronts xs C) (here_of ys) (ends_of xs) (ends_of ys) (R ++ S) now now here (λ i z. ends i ∙ z) refl
    (behind_chunk s.fields (plan_paths p) rows given (here_of xs) (behind_fronts xs C) C (ends_of xs) R S left records now h (fronts_in_front xs C (length (plan_paths p)) records (k ∙ sym n) some whole f) few has
    (λ i l. drop_of_none (length (columns_of C i)) (here_of xs i) (here_past xs i (omega (arith, l, k, n)))))

pub none_took : (s : Schema) (p : Plan) (rows : ℕ) (given : Left) (R : List Node) (xs : List AtHand) (C : List (List Triplet)) (left records : ℕ) → IsBehind s.fields (plan_paths p) rows given (here_of xs) (ends_of xs) R left
    → list_all (is_leaf_path s.fields) (plan_paths p) ≡ true → length xs ≡ length (plan_leaves p) → AreFronts records xs C → 0 < records → records ≤ left → ((i : ℕ) → i < length xs → records ≤ whole_at xs i)
    → NoneHas s.fields (plan_paths p) C records → NoneGoesOn s p rows given (ends_of xs)
none_took s p rows given R xs C left records h leaf n f some few whole none =
    let k = paths_count p in
    none_behind s.fields (plan_paths p) rows given (here_of xs) (behind_fronts xs C) C (ends_of xs) R left records h (fronts_in_front xs C (length (plan_paths p)) records (k ∙ sym n) some whole f) some few leaf (f.0 ∙ (n ∙ sym k)) none

-- ---- no whole record

whole_none : (b : Bool) (n : ℕ) → n ≡ 0 → whole b n ≡ 0
whole_none true n e = e
whole_none false n e = omega (arith, e)

whole_ended : (b : Bool) (n : ℕ) → b ≡ true → whole b n ≡ n
whole_ended true n e = refl
whole_ended false n e = absurd (cc)

abbrev AllEnd : List AtHand → Type 0
AllEnd xs = (i : ℕ) → i < length xs → whole_at xs i ≡ 0 → ends_of xs i ≡ true

-- records are left, and a leaf that has none is at its end
pub none_comes : (s : Schema) (p : Plan) (rows : ℕ) (given : Left) (R : List Node) (xs : List AtHand) (left most : ℕ) → IsBehind s.fields (plan_paths p) rows given (here_of xs) (ends_of xs) R left
    → list_all (is_leaf_path s.fields) (plan_paths p) ≡ true → length xs ≡ length (plan_leaves p) → 0 < left → 0 < most → (0 ≡ most) ⊎ ((i : ℕ) × (i < length xs) × (whole_at xs i ≡ 0)) → AllEnd xs → NoneGoesOn s p rows given (ends_of xs)
none_comes s p rows given R xs left most h leaf n some more (inl e) ends = absurd (omega (arith, more, e))
none_comes s p rows given R xs left most h leaf n some more (inr (i, l, none)) ends =
    let k = paths_count p in
    let ended = ends i l none in
    none_to_come s.fields (plan_paths p) rows given (here_of xs) (ends_of xs) R left i h leaf some (omega (arith, l, k, n)) ended (sym (whole_ended (ends_of xs i) (starts (here_of xs i)) ended) ∙ none)

-- no record is left, and something is
pub none_over : (s : Schema) (p : Plan) (rows : ℕ) (given : Left) (R : List Node) (xs : List AtHand) (left : ℕ) → IsBehind s.fields (plan_paths p) rows given (here_of xs) (ends_of xs) R left
    → list_all (is_leaf_path s.fields) (plan_paths p) ≡ true → length xs ≡ length (plan_leaves p) → left ≡ 0 → (i : ℕ) × (i < length xs) × (0 < length (here_of xs i)) → NoneGoesOn s p rows given (ends_of xs)
none_over s p rows given R xs left h leaf n none (i, l, some) =
    let k = paths_count p in
    none_left_over s.fields (plan_paths p) rows given (here_of xs) (ends_of xs) R left i h leaf none (omega (arith, l, k, n)) some

-- nothing is left, and each leaf is at its end
pub all_end : (xs : List AtHand) (n : ℕ) → length xs ≡ n → ((i : ℕ) → i < length xs → here_of xs i ≡ []) → AllEnd xs → (i : ℕ) → i < n → (here_of xs i ≡ []) × (ends_of xs i ≡ true)
all_end xs n e none ends i l =
    let k : i < length xs = omega (arith, l, e) in
    (none i k, ends i k (whole_none (ends_of xs i) (starts (here_of xs i)) (ap starts (none i k))))

-- ---- more of a leaf

pub more_behind : (s : Schema) (p : Plan) (rows : ℕ) (given now : Left) (R : List Node) (xs ys : List AtHand) (left k : ℕ) (more : List Triplet) → IsBehind s.fields (plan_paths p) rows given (here_of xs) (ends_of xs) R left
    → length xs ≡ length (plan_leaves p) → k < length xs → ends_of xs k ≡ false → IsMore k more given now → IsMore k more (here_of xs) (here_of ys) → ((i : ℕ) → i ≢ k → ends_of ys i ≡ ends_of xs i)
    → IsBehind s.fields (plan_paths p) rows now (here_of ys) (ends_of ys) R left
more_behind s p rows given now R xs ys left k more h n l goes_on g m same =
    let c = paths_count p in
    behind_more s.fields (plan_paths p) rows given (here_of xs) now (here_of ys) (ends_of xs) (ends_of ys) R left k more h g m (omega (arith, l, n, c)) goes_on same

length_set : (xs : List AtHand) (k : ℕ) (y : AtHand) → length (slice_set xs k y) ≡ length xs
length_set [] k y = refl
length_set (x ∷ xs) zero y = refl
length_set (x ∷ xs) (suc k) y = ap suc (length_set xs k y)

-- what is at hand of a leaf is lent
pub lent_now : (x : Chunks) (k : ℕ) (old y : AtHand) (vs : Vec AtHand Global) (ts : List Triplet) (r : Result Kept NoMemory) → k < length x.leaves.items → old ≡ get_or x.leaves.items k old → vs.items ≡ slice_set x.leaves.items k y
    → OnOk r (ts ≡ rest_of old) → IfOk r (IsKept (rest_of old)) → OnOk r (rest_of y ≡ []) → y.ended ≡ old.ended → form_of y ≡ form_of old → IfOk r (λ kept. IsLent k ts kept x (record { leaves = vs; tests = x.tests; records = x.records; scan = x.scan }))
lent_now x k old y vs ts (Err e) l is set triplets kept none ended form = tt
lent_now x k old y vs ts (Ok n) l is set triplets kept none ended form =
    let xs = x.leaves.items in
    record {
      triplets = triplets ∙ sym (here_there xs k old l is);
      is_kept = subst (λ (us : List Triplet). IsKept us n) (sym triplets) kept;
      none = ap (λ (ys : List AtHand). here_of ys k) set ∙ (here_set xs k y l ∙ none);
      others = λ i d. ap (λ (ys : List AtHand). here_of ys i) set ∙ here_others xs k i y d;
      ends = λ i. ap (λ (ys : List AtHand). ends_of ys i) set ∙ ap (λ (bs : List Bool). get_or bs i false) (map-set_same (λ (v : AtHand). v.ended) xs k y old (ended ∙ ap (λ (v : AtHand). v.ended) is));
      forms = ap (map form_of) set ∙ map-set_same form_of xs k y old (form ∙ ap form_of is);
      scan = (refl, refl, refl);
    }

-- it is taken back with more behind it
pub lent_back : (s : Schema) (p : Plan) (rows : ℕ) (given now : Left) (R : List Node) (x y : Chunks) (k : ℕ) (before more : List Triplet) (kept : Kept) (z : AtHand) (vs : Vec AtHand Global) → HasTakenChunks s p rows given R x → IsLent k before kept x y
    → k < length y.leaves.items → vs.items ≡ slice_set y.leaves.items k z → rest_of z ≡ before ++ more → ends_of x.leaves.items k ≡ false → IsMore k more given now
    → HasTakenChunks s p rows now R (record { leaves = vs; tests = y.tests; records = y.records; scan = y.scan })
lent_back s p rows given now R x y k before more kept z vs h lent l set rest goes_on g = record {
  behind = subst (λ (zs : List AtHand). IsBehind s.fields (plan_paths p) rows now (here_of zs) (ends_of zs) R y.records) (sym set)
      (subst (λ (n : ℕ). IsBehind s.fields (plan_paths p) rows now (here_of back) (ends_of back) R n) (sym lent.scan.1)
      (more_behind s p rows given now R x.leaves.items back x.records k more h.behind h.for_plan.as_many (omega (arith, l, as_many)) goes_on g
      (here_set ys k z l ∙ (rest ∙ ap (λ (ts : List Triplet). ts ++ more) lent.triplets), λ i d. here_others ys k i z d ∙ lent.others i d) (λ i d. end_others ys k i z d ∙ lent.ends i)));
  taken = subst (HasTaken s p R) (sym lent.scan.0) h.taken;
  for_plan = record {
    of_schema = h.for_plan.of_schema;
    as_many = ap length set ∙ (length_set ys k z ∙ (as_many ∙ h.for_plan.as_many));
    are_tests = subst (λ (v : Vec LeafTest Global). AreTestsOf (plan_leaves p) v.items) (sym lent.scan.2) h.for_plan.are_tests;
  };
}
  where
    ys : List AtHand
    ys = y.leaves.items

    back : List AtHand
    back = slice_set y.leaves.items k z

    as_many : length y.leaves.items ≡ length x.leaves.items
    as_many = sym (length-map y.leaves.items form_of) ∙ (ap length lent.forms ∙ length-map x.leaves.items form_of)

-- ---- columns that are each alone one of so many records

pub alone_of : (s : Schema) (p : Plan) (xs : List AtHand) (tests : List LeafTest) (records : ℕ) (ds es : List Triplets) → ds ≡ es → AreForPlan s p xs tests → AreFronts records xs (map triplets_view es)
    → AreColumnsAlone (plan_leaves p) (map triplets_view es) records → AreAlone s p (map triplets_view ds) records
alone_of s p xs tests records ds es e a f alone = subst (λ (cs : List Triplets). AreAlone s p (map triplets_view cs) records) (sym e)
    (paths_count p ∙ (sym a.as_many ∙ sym f.0), tested_alone s.fields (plan_leaves p) (map triplets_view es) records a.of_schema alone)

pub none_alone : (s : Schema) (p : Plan) (xs : List AtHand) (tests : List LeafTest) (records : ℕ) (ds es : List Triplets) → ds ≡ es → AreForPlan s p xs tests → OneIsNoColumn (plan_leaves p) (map triplets_view ds) records
    → NoneHas s.fields (plan_paths p) (map triplets_view es) records
none_alone s p xs tests records ds es e a one = subst (λ (cs : List Triplets). NoneHas s.fields (plan_paths p) (map triplets_view cs) records) e (none_of_no_column s.fields (plan_leaves p) (map triplets_view ds) records a.of_schema one)

pub lengths_seen : (cs : List Triplets) → map (λ (c : Triplets). length (triplets_view c)) cs ≡ map (λ (ts : List Triplet). length ts) (map triplets_view cs)
lengths_seen [] = refl
lengths_seen (c ∷ cs) = ap (λ (ns : List ℕ). length (triplets_view c) ∷ ns) (lengths_seen cs)

-- ---- what lists that are the same tell

pub plan_seen : (s : Schema) (p : Plan) (xs ys : List AtHand) (ts us : List LeafTest) → ys ≡ xs → us ≡ ts → AreForPlan s p xs ts → AreForPlan s p ys us
plan_seen s p xs ys ts us e q h = record { of_schema = h.of_schema; as_many = ap length e ∙ h.as_many; are_tests = subst (AreTestsOf (plan_leaves p)) (sym q) h.are_tests }

pub fronts_seen : (s : Schema) (p : Plan) (xs ys : List AtHand) (n : ℕ) (R : List Node) (y : ColumnScan) (o m : Option (Vec ℕ Global)) → ys ≡ xs → o ≡ m → TakesFronts s p ys n R y o → TakesFronts s p xs n R y m
fronts_seen s p xs ys n R y o m e q h = subst (λ (zs : List AtHand). TakesFronts s p zs n R y m) e (subst (TakesFronts s p ys n R y) q h)

pub pass_seen : (xs ys : List AtHand) (C : List (List Triplet)) (ns ms : List ℕ) (n : ℕ) → ys ≡ xs → ms ≡ ns → ns ≡ map (λ (ts : List Triplet). length ts) C → AreFronts n xs C → (i : ℕ) → i < length ys → CanPass (here_of ys i) (get_or ms i 0) n
pass_seen xs ys C ns ms n e q so_many f i l = subst (λ (zs : List AtHand). CanPass (here_of zs i) (get_or ms i 0) n) (sym e) (subst (λ (ks : List ℕ). CanPass (here_of xs i) (get_or ks i 0) n) (sym q)
    (fronts_pass xs C ns n so_many f i (subst (λ (zs : List AtHand). i < length zs) e l)))

-- the next records are taken
pub took_fronts : (s : Schema) (p : Plan) (rows : ℕ) (given : Left) (R : List Node) (x : Chunks) (n : ℕ) (vs : Vec AtHand Global) (y : ColumnScan) (counts : Vec ℕ Global) → HasTakenChunks s p rows given R x → 0 < n → n ≤ x.records
    → ((i : ℕ) → i < length x.leaves.items → n ≤ whole_at x.leaves.items i) → TakesFronts s p x.leaves.items n R y (Some counts) → ((i : ℕ) → here_of vs.items i ≡ drop (get_or counts.items i 0) (here_of x.leaves.items i))
    → ((i : ℕ) → ends_of vs.items i ≡ ends_of x.leaves.items i) → length vs.items ≡ length x.leaves.items
    → (Q : List Node) × HasTakenChunks s p rows given Q (record { leaves = vs; tests = x.tests; records = x.records - n; scan = y })
took_fronts s p rows given R x n vs y counts h some few whole f here ends as_many = (
  R ++ f.3,
  record {
    behind = took_chunk s p rows given R f.3 x.leaves.items vs.items f.0 x.records n (x.records - n) h.behind h.for_plan.as_many f.1 some (omega (arith, few)) whole f.4
        (λ i. here i ∙ ap (λ (k : ℕ). drop k (here_of x.leaves.items i)) (ap (λ (ks : List ℕ). get_or ks i 0) f.2 ∙ count_at f.0 i)) ends;
    taken = f.5;
    for_plan = record { of_schema = h.for_plan.of_schema; as_many = as_many ∙ h.for_plan.as_many; are_tests = h.for_plan.are_tests };
  },
)
