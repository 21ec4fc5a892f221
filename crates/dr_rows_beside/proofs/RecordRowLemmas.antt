-- Rows of the columns that records have.
use Rattle.std.proofs.Common.{◌≡◌, ℕ, zero, suc, ◌<◌, List, [], ◌∷◌, map, length, Bool, true, Option, Some, None, refl, sym, ap, ap₂, ◌∙◌, subst, arith}
use Rattle.std.specs.Prelude.{nat_lt, replicate}
use Rattle.std.specs.List.{list_all, slice_get}
use Rattle.std.proofs.lemmas.Bool.{and_from, and_parts, le-leb}
use Rattle.std.proofs.lemmas.List.{length-map, length-replicate}
use Rattle.std.proofs.lemmas.Option.{slice_get_within}
use Rattle.dr_meaning.specs.Schema.{Fields}
use Rattle.dr_meaning.specs.Path.{Step, is_leaf_path, begins_with, chain_end, max_repetition}
use Rattle.dr_meaning.specs.Record.{Value, Node, is_record}
use Rattle.dr_meaning.specs.Column.{Triplet, column}
use Rattle.dr_beside.specs.Along.{along}
use Rattle.dr_beside.specs.Chunks.{HasColumns}
use Rattle.dr_beside.specs.Feeding.{goes}
use Rattle.dr_beside.specs.Neighbours.{column_at}
use Rattle.dr_beside.proofs.AlongLemmas.{rows_beside}
use Rattle.dr_beside.proofs.FeedLemmas.{goes_on_by_each, own_values}
use Rattle.dr_beside.proofs.NeighbourLemmas.{mapped_at}
use Rattle.dr_rows_beside.specs.declared.source.Beside.{Beside}
use Rattle.dr_rows_beside.specs.Rows.{Follower, source_view, is_fed, slot_at}
use Rattle.dr_rows_beside.specs.RecordRows.{IsBeside, RowsOfRecords}
use Rattle.dr_rows_beside.proofs.RunLemmas.{rows_run_along}

pub test_at : (test : List Step → Bool) (F : List (List Step)) (i : ℕ) (q : List Step) → list_all test F ≡ true → slice_get F i ≡ Some q → test q ≡ true
test_at test [] i q h e = absurd (cc)
test_at test (p ∷ F) zero q h e = let k : p ≡ q = cc in subst (λ (z : List Step). test z ≡ true) k (and_parts _ _ h).0
test_at test (p ∷ F) (suc i) q h e = test_at test F i q (and_parts _ _ h).1 e

each_test : (test : Follower → Bool) (C : List (List Triplet)) (bs : List Beside) → ((i : ℕ) (b : Beside) → slice_get bs i ≡ Some b → test (source_view C b) ≡ true) → list_all test (map (source_view C) bs) ≡ true
each_test test C [] h = refl
each_test test C (b ∷ bs) h = and_from _ _ (h 0 b refl) (each_test test C bs (λ i x e. h (suc i) x e))

pub view_at : (C : List (List Triplet)) (bs : List Beside) (i : ℕ) (b : Beside) → slice_get bs i ≡ Some b → slice_get (map (source_view C) bs) i ≡ Some (source_view C b)
view_at C [] i b e = absurd (cc)
view_at C (x ∷ bs) zero b e = let k : x ≡ b = cc in ap (λ (y : Beside). Some (source_view C y)) k
view_at C (x ∷ bs) (suc i) b e = view_at C bs i b e

pub none_there : (n k : ℕ) → slot_at (replicate n None) k ≡ None
none_there zero k = refl
none_there (suc n) zero = refl
none_there (suc n) (suc k) = none_there n k

-- what is known of the columns of records
pub record Known (fs : Fields) (F : List (List Step)) (C : List (List Triplet)) (R : List Node) : Type 0 where
  pub col : (k : ℕ) (q : List Step) → slice_get F k ≡ Some q → column q R ≡ column_at C k
  pub path : (k : ℕ) (q : List Step) → slice_get F k ≡ Some q → is_leaf_path fs q ≡ true
  pub within : (k : ℕ) (q : List Step) → slice_get F k ≡ Some q → k < length C

pub known : (fs : Fields) (F : List (List Step)) (C : List (List Triplet)) (n : ℕ) (R : List Node) → HasColumns fs F C n R → list_all (is_leaf_path fs) F ≡ true → Known fs F C R
known fs F C n R x h =
    let long : length F ≡ length C = sym (length-map F (λ (y : List Step). column y R)) ∙ ap (λ (D : List (List Triplet)). length D) x.2 in
    record {
      col = λ k q e. mapped_at (λ (y : List Step). column y R) F C k q x.2 e;
      path = λ k q e. test_at (is_leaf_path fs) F k q h e;
      within = λ k q e. let a : k < length F = slice_get_within F k q e in omega (arith, a, long);
    }

one_fed : (fs : Fields) (F : List (List Step)) (C : List (List Triplet)) (R : List Node) (leaf : ℕ) (p : List Step) (b : Beside) → Known fs F C R → list_all (is_record fs) R ≡ true → slice_get F leaf ≡ Some p → IsBeside F p b
    → is_fed (column_at C leaf) (length C) (source_view C b) ≡ true
one_fed fs F C R leaf p b k v e w =
    let own : column p R ≡ column_at C leaf = k.col leaf p e in
    let its : column w.path R ≡ column_at C b.leaf = k.col b.leaf w.path w.is_path in
    let g : goes (max_repetition w.path) (column p R) ≡ length (column w.path R) = goes_on_by_each fs p w.path R (k.path leaf p e) (k.path b.leaf w.path w.is_path) w.other w.on_chain v in
    let m : goes b.depth (column_at C leaf) ≡ length (column_at C b.leaf) =
    ap₂ (λ (d : ℕ) (ts : List Triplet). goes d ts) w.deep (sym own) ∙ g ∙ ap (λ (ts : List Triplet). length ts) its in
    and_from _ _ (le-leb (suc b.leaf) (length C) (k.within b.leaf w.path w.is_path)) (le-leb (goes b.depth (column_at C leaf)) (length (column_at C b.leaf)) (omega (arith, m)))

one_within : (fs : Fields) (F : List (List Step)) (C : List (List Triplet)) (R : List Node) (p : List Step) (b : Beside) → Known fs F C R → IsBeside F p b → nat_lt b.leaf (length (replicate {A = Option Value} (length C) None)) ≡ true
one_within fs F C R p b k w =
    let a : b.leaf < length C = k.within b.leaf w.path w.is_path in
    le-leb (suc b.leaf) (length (replicate {A = Option Value} (length C) None)) (omega (arith, a, length-replicate {A = Option Value} (length C) None))

same_path_at : (F : List (List Step)) (i : ℕ) (p q : List Step) → slice_get F i ≡ Some p → slice_get F i ≡ Some q → p ≡ q
same_path_at F i p q e f = cc

pub rows_of_records : RowsOfRecords
rows_of_records fs F C n R leaf p bs x h w =
    let k : Known fs F C R = known fs F C n R x h in
    let vs : List (Option Value) = replicate (length C) None in
    let own : column p R ≡ column_at C leaf = k.col leaf p w.is_path in
    let a : leaf < length C = k.within leaf p w.is_path in
    let all = rows_run_along leaf (map (source_view C) bs) vs (column_at C leaf) (omega (arith, a, length-replicate {A = Option Value} (length C) None))
    (each_test (λ (f : Follower). nat_lt f.leaf (length vs)) C bs (λ i b e. one_within fs F C R p b k (w.each i b e))) (w.apart C) (w.all_different C) in (
      each_test (is_fed (column_at C leaf) (length C)) C bs (λ i b e. one_fed fs F C R leaf p b k x.0 w.is_path (w.each i b e)),
      all.0 ∙ ap (λ (ts : List Triplet). map (λ (t : Triplet). t.value) ts) (sym own) ∙ own_values fs p R (k.path leaf p w.is_path) x.0,
      λ i b q e f.
          let y : IsBeside F p b = w.each i b e in
          let s : y.path ≡ q = same_path_at F b.leaf y.path q y.is_path f in
          let chain : begins_with (chain_end q) (chain_end p) ≡ true = subst (λ (z : List Step). begins_with (chain_end z) (chain_end p) ≡ true) s y.on_chain in
          all.1 i (source_view C b) (view_at C bs i b e)
          ∙ ap₂ (λ (d : ℕ) (v : Option Value). along d v (column_at C b.leaf) (column_at C leaf)) (y.deep ∙ ap max_repetition s) (none_there (length C) b.leaf)
          ∙ ap₂ (λ (us ts : List Triplet). along (max_repetition q) None us ts) (sym (k.col b.leaf q f)) (sym own)
          ∙ rows_beside fs p q R (k.path leaf p w.is_path) (k.path b.leaf q f) chain x.0,
    )
