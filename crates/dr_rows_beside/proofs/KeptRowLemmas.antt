-- The rows that a condition keeps of a source: their slots hold the values of what the condition leaves of records.
use Rattle.std.proofs.Common.{◌≡◌, ℕ, zero, suc, ◌+◌, ◌<◌, ◌≤◌, List, [], ◌∷◌, ◌++◌, map, length, Bool, true, false, Option, Some, None, inl, inr, refl, sym, ap, ap₂, ◌∙◌, arith, append-nil}
use Rattle.std.specs.Prelude.{◌⊎◌, ◌&&◌, ◌||◌, ◌==◌, nat_le, is_some, if◌then◌else◌}
use Rattle.std.specs.List.{list_all, list_any, flat_map, filter_map, cons_option, slice_get}
use Rattle.std.proofs.lemmas.Bool.{and_from, and_parts, le-leb, lt-leb, eq-eqb}
use Rattle.std.proofs.lemmas.List.{length-map, map-append}
use Rattle.dr_meaning.specs.Schema.{Fields, group}
use Rattle.dr_meaning.specs.Path.{Step, Leaf, paths_of_leaves, is_leaf_path, begins_with, chain_end, common}
use Rattle.dr_meaning.specs.Record.{Value, Node, is_record, inner}
use Rattle.dr_meaning.specs.Column.{Triplet, record_column, column}
use Rattle.dr_meaning.specs.Rows.{rows, value_at}
use Rattle.dr_meaning.specs.Kept.{kept_along}
use Rattle.dr_meaning.proofs.Blocks.{IsAbove, IsBlock, BeginsBelow, block-instance, block_begins}
use Rattle.dr_moves.specs.Selection.{all_differ}
use Rattle.dr_moves.proofs.KeptRows.{any_map, kept_any}
use Rattle.dr_kept_laws.specs.RowsOfKept.{kept_rows, rows_left}
use Rattle.dr_kept_laws.proofs.RowsOfKeptLaws.{rows_of_kept}
use Rattle.dr_plan.specs.Views.{path_of}
use Rattle.dr_beside.specs.Chunks.{HasColumns}
use Rattle.dr_beside.specs.Neighbours.{column_at}
use Rattle.dr_beside.specs.Sifting.{next_bit, rest_bits, if_kept, sift}
use Rattle.dr_beside.specs.Spreading.{repetitions_of, next_of, rest_of, spread_over}
use Rattle.dr_beside.proofs.FeedLemmas.{own_values}
use Rattle.dr_rows_beside.specs.declared.source.Beside.{Beside}
use Rattle.dr_rows_beside.specs.Rows.{Row, slot_at, in_slot, picked}
use Rattle.dr_rows_beside.specs.RecordRows.{IsBeside, AreBeside, rows_of}
use Rattle.dr_rows_beside.specs.Slots.{EachSlot}
use Rattle.dr_rows_beside.specs.Sources.{AreReadBeside}
use Rattle.dr_rows_beside.proofs.PickedLemmas.{picked_map}
use Rattle.dr_rows_beside.proofs.RecordRowLemmas.{Known, known, rows_of_records}
use Rattle.dr_rows_beside.proofs.SlotLemmas.{path_there}
use Rattle.dr_rows_beside.specs.declared.judging.Test.{Test}
use Rattle.dr_rows_beside.specs.Bits.{any_bit, gathered, set_bits}
use Rattle.dr_rows_beside.specs.Keepings.{levels_of, judged}
use Rattle.dr_rows_beside.specs.Kept.{all_hold, IsTestOf, AreTestsOf, RowsAreTyped}
use Rattle.dr_rows_beside.specs.KeptBits.{bits_of, kept_bits}
use Rattle.dr_rows_beside.specs.KeptRows.{KeptRowsOfRecords, KeptRecordsAreCounted}
use Rattle.dr_rows_beside.proofs.KeptLemmas.{judged_bits, judged_rows_are_kept}

as_many_rows : (fs : Fields) (p : List Step) (R : List Node) → is_leaf_path fs p ≡ true → list_all (is_record fs) R ≡ true → length (flat_map (rows (chain_end p)) R) ≡ length (column p R)
as_many_rows fs p R l v =
    sym (length-map (flat_map (rows (chain_end p)) R) (value_at p)) ∙ ap (λ (vs : List (Option Value)). length vs) (sym (own_values fs p R l v)) ∙ length-map (column p R) (λ (t : Triplet). t.value)

-- ---- sifting is picking

sift_is_picked : (k : ℕ) (now : Bool) (bs : List Bool) (ts : List Triplet) (xs : List Node) → length xs ≡ length ts → sift k now bs ts xs ≡ picked (spread_over k now bs (repetitions_of ts)) xs
sift_is_picked k now bs [] [] e = refl
sift_is_picked k now bs [] (x ∷ xs) e = absurd (omega (arith, e))
sift_is_picked k now bs (t ∷ ts) [] e = absurd (omega (arith, e))
sift_is_picked k now bs (t ∷ ts) (x ∷ xs) e =
    by_test (nat_le t.repetition k) bs (sift_is_picked k now bs ts xs (omega (arith, e))) (λ (cs : List Bool) (b : Bool). sift_is_picked k b cs ts xs (omega (arith, e)))
  where
    one : (b : Bool) (ys zs : List Node) → ys ≡ zs → if_kept b x ys ≡ (if b then x ∷ zs else zs)
    one true ys zs f = ap (λ (ns : List Node). x ∷ ns) f
    one false ys zs f = f

    by_bits : (cs : List Bool) → ((ds : List Bool) (b : Bool) → sift k b ds ts xs ≡ picked (spread_over k b ds (repetitions_of ts)) xs)
        → if_kept (next_bit now cs) x (sift k (next_bit now cs) (rest_bits cs) ts xs) ≡ picked (next_of now cs ∷ spread_over k (next_of now cs) (rest_of cs) (repetitions_of ts)) (x ∷ xs)
    by_bits [] h = one now _ _ (h [] now)
    by_bits (c ∷ cs) h = one c _ _ (h cs c)

    by_test : (b : Bool) (cs : List Bool) → sift k now cs ts xs ≡ picked (spread_over k now cs (repetitions_of ts)) xs → ((ds : List Bool) (c : Bool) → sift k c ds ts xs ≡ picked (spread_over k c ds (repetitions_of ts)) xs)
        → (if b then if_kept (next_bit now cs) x (sift k (next_bit now cs) (rest_bits cs) ts xs) else if_kept now x (sift k now cs ts xs))
        ≡ picked (if b then next_of now cs ∷ spread_over k (next_of now cs) (rest_of cs) (repetitions_of ts) else now ∷ spread_over k now cs (repetitions_of ts)) (x ∷ xs)
    by_test true cs h g = by_bits cs g
    by_test false cs h g = one now _ _ h

-- ---- what is left of records has the kept rows

module _ (fs : Fields) (p c q : List Step) (test : Node → Bool) (l : is_leaf_path fs q ≡ true) (b : begins_with (chain_end q) p ≡ true) where
  one_left : (n : Node) (o : Option Node) (N : List Node) → is_record fs n ≡ true → kept_along c test n ≡ o → map (value_at q) (flat_map (rows p) (cons_option o N)) ≡ map (value_at q) (kept_rows p c test n ++ flat_map (rows p) N)
  one_left n o N v e =
      ap (map (value_at q)) (left_first o)
      ∙ map-append (value_at q) (rows_left p o) (flat_map (rows p) N)
      ∙ ap (λ (vs : List (Option Value)). vs ++ map (value_at q) (flat_map (rows p) N)) (ap (λ (x : Option Node). map (value_at q) (rows_left p x)) (sym e) ∙ rows_of_kept fs n p c q test v l b)
      ∙ sym (map-append (value_at q) (kept_rows p c test n) (flat_map (rows p) N))
    where
      left_first : (x : Option Node) → flat_map (rows p) (cons_option x N) ≡ rows_left p x ++ flat_map (rows p) N
      left_first None = refl
      left_first (Some m) = refl

  values_left : (R : List Node) → list_all (is_record fs) R ≡ true → map (value_at q) (flat_map (kept_rows p c test) R) ≡ map (value_at q) (flat_map (rows p) (filter_map (kept_along c test) R))
  values_left [] h = refl
  values_left (n ∷ R) h =
      let w : (is_record fs n ≡ true) × (list_all (is_record fs) R ≡ true) = and_parts _ _ h in
      map-append (value_at q) (kept_rows p c test n) (flat_map (kept_rows p c test) R)
      ∙ ap (λ (vs : List (Option Value)). map (value_at q) (kept_rows p c test n) ++ vs) (values_left R w.1)
      ∙ sym (map-append (value_at q) (kept_rows p c test n) (flat_map (rows p) (filter_map (kept_along c test) R)))
      ∙ sym (one_left n (kept_along c test n) (filter_map (kept_along c test) R) w.0 refl)

-- ---- the rows of a source

begins_itself : (p : List Step) → begins_with p p ≡ true
begins_itself [] = refl
begins_itself (s ∷ p) = ap₂ (λ (a b : Bool). a && b) (eq-eqb s.place s.place refl) (begins_itself p)

module _ (fs : Fields) (ls : List Leaf) (C : List (List Triplet)) (n : ℕ) (R : List Node) (own : Test) (others : List Test) (x : HasColumns fs (paths_of_leaves ls) C n R)
    (f : list_all (is_leaf_path fs) (paths_of_leaves ls) ≡ true) (d : all_differ (paths_of_leaves ls) ≡ true) (y : RowsAreTyped ls R) (w : IsTestOf ls own) (a : AreTestsOf ls w.path others) where
  abbrev F : List (List Step)
  F = paths_of_leaves ls

  abbrev T : Node → Bool
  T = all_hold ls (own ∷ others)

  abbrev N : List Node
  N = filter_map (kept_along (chain_end w.path) T) R

  k : Known fs F C R
  k = known fs F C n R x f

  module _ (leaf : ℕ) (p : List Step) (bs : List Beside) (z : AreBeside F leaf p bs) where
    abbrev bits : List Bool
    bits = kept_bits C own others (common p w.path) (column_at C leaf)

    abbrev rs : List Row
    rs = picked bits (rows_of leaf bs C)

    path_is : is_leaf_path fs p ≡ true
    path_is = k.path leaf p z.is_path

    its_values : in_slot leaf (rows_of leaf bs C) ≡ map (value_at p) (flat_map (rows (chain_end p)) R)
    its_values = (rows_of_records fs F C n R leaf p bs x f z).1

    -- as many rows as triplets
    long : length (flat_map (rows (chain_end p)) R) ≡ length (column p R)
    long = as_many_rows fs p R path_is x.0

    nodes_picked : picked bits (flat_map (rows (chain_end p)) R) ≡ flat_map (kept_rows (chain_end p) (chain_end w.path) T) R
    nodes_picked =
        ap (λ (ts : List Triplet). picked (kept_bits C own others (common p w.path) ts) (flat_map (rows (chain_end p)) R)) (sym (k.col leaf p z.is_path))
        ∙ sym (sift_is_picked (common p w.path) false (bits_of C own others (common p w.path)) (column p R) (flat_map (rows (chain_end p)) R) long)
        ∙ judged_rows_are_kept fs ls C n R own others p x f d y w a path_is

    slot_kept : (j : ℕ) (q : List Step) → is_leaf_path fs q ≡ true → begins_with (chain_end q) (chain_end p) ≡ true → in_slot j (rows_of leaf bs C) ≡ map (value_at q) (flat_map (rows (chain_end p)) R)
        → in_slot j rs ≡ map (value_at q) (flat_map (rows (chain_end p)) N)
    slot_kept j q l b e =
        picked_map (λ (r : Row). slot_at r.slots j) bits (rows_of leaf bs C)
        ∙ ap (picked bits) e
        ∙ sym (picked_map (value_at q) bits (flat_map (rows (chain_end p)) R))
        ∙ ap (map (value_at q)) nodes_picked
        ∙ values_left fs (chain_end p) (chain_end w.path) q T l b R x.0

    own_kept : in_slot leaf rs ≡ map (value_at p) (flat_map (rows (chain_end p)) N)
    own_kept = slot_kept leaf p path_is (begins_itself (chain_end p)) its_values

    as_many : length rs ≡ length (flat_map (rows (chain_end p)) N)
    as_many =
        sym (length-map rs (λ (r : Row). slot_at r.slots leaf)) ∙ ap (λ (vs : List (Option Value)). length vs) own_kept ∙ length-map (flat_map (rows (chain_end p)) N) (value_at p)

    slots_kept : (ks : List ℕ) → AreReadBeside leaf bs ks → EachSlot ls ks rs (flat_map (rows (chain_end p)) N)
    slots_kept [] r = tt
    slots_kept (j ∷ ks) r = (one r.0, slots_kept ks r.1)
      where
        one : ((j ≡ leaf) ⊎ ((i : ℕ) × (b : Beside) × (slice_get bs i ≡ Some b) × (b.leaf ≡ j))) → in_slot j rs ≡ map (value_at (path_of (slice_get ls j))) (flat_map (rows (chain_end p)) N)
        one (inl e) =
            ap (λ (i : ℕ). in_slot i rs) e
            ∙ own_kept
            ∙ ap (λ (q : List Step). map (value_at q) (flat_map (rows (chain_end p)) N)) (path_there ls leaf p z.is_path ∙ ap (λ (i : ℕ). path_of (slice_get ls i)) (sym e))
        one (inr (i, b, g, e)) =
            let v : IsBeside F p b = z.each i b g in
            ap (λ (m : ℕ). in_slot m rs) (sym e)
            ∙ slot_kept b.leaf v.path (k.path b.leaf v.path v.is_path) v.on_chain ((rows_of_records fs F C n R leaf p bs x f z).2 i b v.path g v.is_path)
            ∙ ap (λ (q : List Step). map (value_at q) (flat_map (rows (chain_end p)) N)) (path_there ls b.leaf v.path v.is_path ∙ ap (λ (m : ℕ). path_of (slice_get ls m)) e)

pub kept_rows_of_records : KeptRowsOfRecords
kept_rows_of_records fs ls C n R own others leaf p bs ks x f d y w a z r =
    (as_many fs ls C n R own others x f d y w a leaf p bs z, slots_kept fs ls C n R own others x f d y w a leaf p bs z ks r)

-- ---- records that are kept

any_above : (ts us : List Triplet) (bs cs : List Bool) → IsAbove 0 ts → length bs ≡ length ts → BeginsBelow 0 us → any_bit 0 (repetitions_of (ts ++ us)) (bs ++ cs) ≡ list_any (λ (b : Bool). b) bs
any_above [] [] [] cs h e g = refl
any_above [] (u ∷ us) [] [] h e g = refl
any_above [] (u ∷ us) [] (c ∷ cs) h e g = rw (le-leb u.repetition 0 g) refl
any_above [] us (b ∷ bs) cs h e g = absurd (omega (arith, e))
any_above (t ∷ ts) us [] cs h e g = absurd (omega (arith, e))
any_above (t ∷ ts) us (b ∷ bs) cs h e g = rw (lt-leb t.repetition 0 h.0) (ap (λ (x : Bool). b || x) (any_above ts us bs cs h.1 (omega (arith, e)) g))

rest_above : (ts us : List Triplet) (bs cs : List Bool) → IsAbove 0 ts → length bs ≡ length ts → gathered 0 (repetitions_of (ts ++ us)) (bs ++ cs) ≡ gathered 0 (repetitions_of us) cs
rest_above [] us [] cs h e = refl
rest_above [] us (b ∷ bs) cs h e = absurd (omega (arith, e))
rest_above (t ∷ ts) us [] cs h e = absurd (omega (arith, e))
rest_above (t ∷ ts) us (b ∷ bs) cs h e = rw (lt-leb t.repetition 0 h.0) (rest_above ts us bs cs h.1 (omega (arith, e)))

one_record : (ts us : List Triplet) (bs cs : List Bool) → IsBlock 0 0 0 ts → length bs ≡ length ts → BeginsBelow 0 us
    → gathered 0 (repetitions_of (ts ++ us)) (bs ++ cs) ≡ list_any (λ (b : Bool). b) bs ∷ gathered 0 (repetitions_of us) cs
one_record [] us bs cs h e g = absurd h
one_record (t ∷ ts) us [] cs h e g = absurd (omega (arith, e))
one_record (t ∷ ts) us (b ∷ bs) cs h e g =
    rw (le-leb t.repetition 0 (omega (arith, h.0)))
    (ap₂ (λ (x : Bool) (xs : List Bool). (b || x) ∷ xs) (any_above ts us bs cs h.2 (omega (arith, e)) g) (rest_above ts us bs cs h.2 (omega (arith, e))))

module _ (fs : Fields) (l : List Step) (test : Node → Bool) (h : is_leaf_path fs l ≡ true) where
  record_long : (n : Node) → is_record fs n ≡ true → length (map test (rows (chain_end l) n)) ≡ length (record_column l n)
  record_long n v =
      let w : list_all (is_record fs) (n ∷ []) ≡ true = and_from _ _ v refl in
      length-map (rows (chain_end l) n) test
      ∙ ap (λ (ns : List Node). length ns) (sym (append-nil (rows (chain_end l) n)))
      ∙ as_many_rows fs l (n ∷ []) h w
      ∙ ap (λ (ts : List Triplet). length ts) (append-nil (record_column l n))

  later_begins : (R : List Node) → list_all (is_record fs) R ≡ true → BeginsBelow 0 (column l R)
  later_begins [] v = tt
  later_begins (n ∷ R) v = block_begins 0 0 0 (record_column l n) (column l R) (omega arith) (block-instance (group fs) l (inner n) 0 0 0 h (and_parts _ _ v).0)

  zero_more : (k : ℕ) → 0 + k ≡ k
  zero_more k = omega arith

  one_more : (k : ℕ) → 1 + k ≡ suc k
  one_more k = omega arith

  count_left : (o : Option Node) (M : List Node) (b : Bool) (m : ℕ) → is_some o ≡ b → m ≡ length M → (if b then 1 else 0) + m ≡ length (cons_option o M)
  count_left None M b m e f = ap₂ (λ (x : Bool) (k : ℕ). (if x then 1 else 0) + k) (sym e) f ∙ zero_more (length M)
  count_left (Some n) M b m e f = ap₂ (λ (x : Bool) (k : ℕ). (if x then 1 else 0) + k) (sym e) f ∙ one_more (length M)

  records_counted : (R : List Node) → list_all (is_record fs) R ≡ true
      → set_bits (gathered 0 (repetitions_of (column l R)) (map test (flat_map (rows (chain_end l)) R))) ≡ length (filter_map (kept_along (chain_end l) test) R)
  records_counted [] v = refl
  records_counted (n ∷ R) v =
      let w : (is_record fs n ≡ true) × (list_all (is_record fs) R ≡ true) = and_parts _ _ v in
      let bs : List Bool = map test (rows (chain_end l) n) in
      let cs : List Bool = map test (flat_map (rows (chain_end l)) R) in
      let any : list_any (λ (b : Bool). b) bs ≡ list_any test (rows (chain_end l) n) = any_map (λ (b : Bool). b) test (rows (chain_end l) n) in
      ap (λ (xs : List Bool). set_bits (gathered 0 (repetitions_of (record_column l n ++ column l R)) xs)) (map-append test (rows (chain_end l) n) (flat_map (rows (chain_end l)) R))
      ∙ ap set_bits (one_record (record_column l n) (column l R) bs cs (block-instance (group fs) l (inner n) 0 0 0 h w.0) (record_long n w.0) (later_begins R w.1))
      ∙ count_left (kept_along (chain_end l) test n) (filter_map (kept_along (chain_end l) test) R) (list_any (λ (b : Bool). b) bs) (set_bits (gathered 0 (repetitions_of (column l R)) cs))
      (kept_any (chain_end l) test n ∙ sym any) (records_counted R w.1)

pub kept_records_are_counted : KeptRecordsAreCounted
kept_records_are_counted fs ls C n R own others x f d y w a =
    let k : Known fs (paths_of_leaves ls) C R = known fs (paths_of_leaves ls) C n R x f in
    let T : Node → Bool = all_hold ls (own ∷ others) in
    ap₂ (λ (ts : List Triplet) (bs : List Bool). set_bits (gathered 0 (repetitions_of ts) bs)) (sym (k.col own.source.leaf w.path w.is_path)) (judged_bits fs ls C n R own others x f d y w a)
    ∙ records_counted fs w.path T (k.path own.source.leaf w.path w.is_path) R x.0
