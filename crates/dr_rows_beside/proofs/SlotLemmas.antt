-- What the slots of rows hold: of each leaf that is read, its value.
use Rattle.std.proofs.Common.{◌≡◌, ℕ, zero, suc, List, [], ◌∷◌, map, length, true, Option, Some, inl, inr, refl, sym, ap, ◌∙◌}
use Rattle.std.specs.Prelude.{◌⊎◌}
use Rattle.std.specs.List.{list_all, flat_map, slice_get}
use Rattle.std.proofs.Math.Path.{fun_ext}
use Rattle.dr_meaning.specs.Schema.{Fields}
use Rattle.dr_meaning.specs.Path.{Step, Leaf, paths_of_leaves, is_leaf_path, chain_end}
use Rattle.dr_meaning.specs.Record.{Node}
use Rattle.dr_meaning.specs.Column.{Triplet}
use Rattle.dr_meaning.specs.Rows.{rows, value_at}
use Rattle.dr_levels.specs.declared.triplet.ValueRef.{ValueRef}
use Rattle.dr_plan.specs.Views.{path_of}
use Rattle.dr_scalar.specs.LeafLaws.{AreRead}
use Rattle.dr_scalar.specs.Slots.{slot_value}
use Rattle.dr_beside.specs.Chunks.{HasColumns}
use Rattle.dr_rows_beside.specs.declared.source.Beside.{Beside}
use Rattle.dr_rows_beside.specs.Rows.{Row, slot_at, in_slot, slots_view}
use Rattle.dr_rows_beside.specs.RecordRows.{IsBeside, AreBeside, rows_of}
use Rattle.dr_rows_beside.specs.Slots.{EachSlot}
use Rattle.dr_rows_beside.specs.Sources.{AreReadBeside}
use Rattle.dr_rows_beside.proofs.RecordRowLemmas.{rows_of_records}

slot_seen : (vs : List (Option ValueRef)) (i : ℕ) → slot_value vs i ≡ slot_at (slots_view vs) i
slot_seen [] i = refl
slot_seen (v ∷ vs) zero = refl
slot_seen (v ∷ vs) (suc i) = slot_seen vs i

pub slots_seen : (vs : List (Option ValueRef)) → slot_value vs ≡ slot_at (slots_view vs)
slots_seen vs = fun_ext (slot_seen vs)

-- ---- in rows of records

pub first_slots : (ls : List Leaf) (ks : List ℕ) (r : Row) (rs : List Row) (m : Node) (ms : List Node) → EachSlot ls ks (r ∷ rs) (m ∷ ms) → AreRead ls ks (slot_at r.slots) m × EachSlot ls ks rs ms
first_slots ls [] r rs m ms h = (tt, tt)
first_slots ls (k ∷ ks) r rs m ms h =
    let e : slot_at r.slots k ∷ in_slot k rs ≡ value_at (path_of (slice_get ls k)) m ∷ map (value_at (path_of (slice_get ls k))) ms = h.0 in
    let a : slot_at r.slots k ≡ value_at (path_of (slice_get ls k)) m = cc in
    let b : in_slot k rs ≡ map (value_at (path_of (slice_get ls k))) ms = cc in
    let w : AreRead ls ks (slot_at r.slots) m × EachSlot ls ks rs ms = first_slots ls ks r rs m ms h.1 in
    ((a, w.0), (b, w.1))

pub path_there : (ls : List Leaf) (k : ℕ) (q : List Step) → slice_get (paths_of_leaves ls) k ≡ Some q → q ≡ path_of (slice_get ls k)
path_there [] k q e = absurd (cc)
path_there (l ∷ ls) zero q e = cc
path_there (l ∷ ls) (suc k) q e = path_there ls k q e

pub each_slot : (fs : Fields) (ls : List Leaf) (C : List (List Triplet)) (n : ℕ) (R : List Node) (leaf : ℕ) (p : List Step) (bs : List Beside) → HasColumns fs (paths_of_leaves ls) C n R → list_all (is_leaf_path fs) (paths_of_leaves ls) ≡ true
    → AreBeside (paths_of_leaves ls) leaf p bs → (ks : List ℕ) → AreReadBeside leaf bs ks → EachSlot ls ks (rows_of leaf bs C) (flat_map (rows (chain_end p)) R)
each_slot fs ls C n R leaf p bs x h w [] a = tt
each_slot fs ls C n R leaf p bs x h w (k ∷ ks) a = (one a.0, each_slot fs ls C n R leaf p bs x h w ks a.1)
  where
    one : ((k ≡ leaf) ⊎ ((i : ℕ) × (b : Beside) × (slice_get bs i ≡ Some b) × (b.leaf ≡ k))) → in_slot k (rows_of leaf bs C) ≡ map (value_at (path_of (slice_get ls k))) (flat_map (rows (chain_end p)) R)
    one (inl e) =
        ap (λ (j : ℕ). in_slot j (rows_of leaf bs C)) e
        ∙ (rows_of_records fs (paths_of_leaves ls) C n R leaf p bs x h w).1
        ∙ ap (λ (q : List Step). map (value_at q) (flat_map (rows (chain_end p)) R)) (path_there ls leaf p w.is_path ∙ ap (λ (j : ℕ). path_of (slice_get ls j)) (sym e))
    one (inr (i, b, f, e)) =
        let y : IsBeside (paths_of_leaves ls) p b = w.each i b f in
        ap (λ (j : ℕ). in_slot j (rows_of leaf bs C)) (sym e)
        ∙ (rows_of_records fs (paths_of_leaves ls) C n R leaf p bs x h w).2 i b y.path f y.is_path
        ∙ ap (λ (q : List Step). map (value_at q) (flat_map (rows (chain_end p)) R)) (path_there ls b.leaf y.path y.is_path ∙ ap (λ (j : ℕ). path_of (slice_get ls j)) e)
