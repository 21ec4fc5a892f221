-- What is put of rows where there are no keys: all are of one group.
use Rattle.std.proofs.Common.{◌≡◌, ℕ, zero, suc, List, [], ◌∷◌, ◌++◌, map, length, replicate, Bool, Option, Some, None, Result, Ok, Err, IfOk, refl, sym, ap, ap₂, ◌∙◌, arith}
use Rattle.std.specs.List.{slice_get, flat_map}
use Rattle.std.proofs.lemmas.List.{length-replicate}
use Rattle.std.specs.Ordering.{match_ordering}
use Rattle.std.specs.declared.cmp.Ordering.{Ordering}
use Rattle.std.specs.declared.cmp.Ordering.TheVariants.{Less, Equal, Greater}
use Rattle.dr_memory.specs.declared.NoMemory.{NoMemory}
use Rattle.dr_meaning.specs.Record.{Value}
use Rattle.dr_meaning.specs.Column.{Triplet}
use Rattle.dr_meaning.specs.Query.{GroupItem, tuple_order}
use Rattle.dr_partials.specs.Partials.{Group}
use Rattle.dr_partials.specs.Putting.{Put, put_group, put_into, empty_accumulators}
use Rattle.dr_partials.specs.GroupPuts.{put_each}
use Rattle.dr_partials.proofs.AnyOrderLemmas.{same_order}
use Rattle.dr_plan.specs.declared.aggregate.Aggregate.{Aggregate}
use Rattle.dr_plan.specs.declared.expression.Expr.{Expr}
use Rattle.dr_group.specs.Gathering.{gatherings_of}
use Rattle.dr_group.specs.Groups.{put_of}
use Rattle.dr_group.specs.ManyTaken.{many_puts}
use Rattle.dr_group.specs.Maps.{groups_view, gatherings_view, tuples_view}
use Rattle.dr_group.specs.declared.group_map.GroupMap.{GroupMap}
use Rattle.dr_beside.specs.Neighbours.{column_at}
use Rattle.dr_rows_beside.specs.declared.source.Beside.{Beside}
use Rattle.dr_rows_beside.specs.ExprRows.{value_in}
use Rattle.dr_columns.specs.Own.{HasOwn}
use Rattle.dr_rows_beside.specs.RecordRows.{rows_of}
use Rattle.dr_rows_beside.specs.Rows.{Row, Follower, run, in_slot, source_view}
use Rattle.dr_columns.specs.RowPuts.{groups_in, puts_in}
use Rattle.dr_columns.specs.Numbers.{HasPut}
use Rattle.dr_columns.specs.Takings.{Take, CanFire, taking_puts, puts_by}
use Rattle.dr_columns.proofs.LeafRowLemmas.{own_kept}
use Rattle.dr_rows_beside.proofs.RunLemmas.{own_slots}

-- ---- a group is put once

module _ (items : List GroupItem) (t : List (Option Value)) where
  abbrev alone : Put
  alone = put_of t None

  abbrev fresh : Group
  fresh = put_into items alone (empty_accumulators items)

  abbrev into : Group → Group
  into h = put_into items alone h.accumulators

  abbrev placed : Ordering → Group → List Group → List Group
  placed o h hs = match_ordering o (fresh ∷ h ∷ hs) (into h ∷ hs) (h ∷ put_group items alone hs)

  put_again : (gs : List Group) → put_group items alone (put_group items alone gs) ≡ put_group items alone gs
  put_again [] = ap (λ (o : Ordering). placed o fresh []) (same_order t)
  put_again (g ∷ gs) = by_order (tuple_order t g.keys) refl (put_again gs)
    where
      by_order : (o : Ordering) → tuple_order t g.keys ≡ o → put_group items alone (put_group items alone gs) ≡ put_group items alone gs → put_group items alone (placed o g gs) ≡ placed o g gs
      by_order Less e h = ap (λ (x : Ordering). placed x fresh (g ∷ gs)) (same_order t)
      by_order Equal e h = ap (λ (x : Ordering). placed x (into g) gs) (same_order t)
      by_order Greater e h = ap (λ (x : Ordering). placed x g (put_group items alone gs)) e ∙ ap (λ (hs : List Group). g ∷ hs) h

groups_once : (items : List GroupItem) (r : Row) (rs : List Row) (gs : List Group) → put_each items (groups_in [] (r ∷ rs)) gs ≡ put_group items (put_of [] None) gs
groups_once items r [] gs = refl
groups_once items r (s ∷ rs) gs = groups_once items s rs (put_group items (put_of [] None) gs) ∙ put_again items [] gs

-- the one group of some rows
pub one_group : (old now : GroupMap) (rs : List Row) → (rs ≡ [] → ⊥) → ((items : List GroupItem) → gatherings_of items ≡ gatherings_view old → groups_view now ≡ put_group items (put_of [] None) (groups_view old)) → HasPut old (groups_in [] rs) now
one_group old now [] h p items e = absurd (h refl)
one_group old now (r ∷ rs) h p items e = p items e ∙ sym (groups_once items r rs (groups_view old))

-- ---- no rows

none_taken : (ks : List ℕ) (i : ℕ) (a : Aggregate) → puts_by ks [] i a ≡ []
none_taken ks i Aggregate.Rows = refl
none_taken ks i (Aggregate.Of f e) = refl

none_at_all : (ks : List ℕ) (ts : List Take) → flat_map (taking_puts ks []) ts ≡ []
none_at_all ks [] = refl
none_at_all ks (t ∷ ts) = ap₂ (λ (ps qs : List Put). ps ++ qs) (none_taken ks t.number t.aggregate) (none_at_all ks ts)

pub nothing_put : (m : GroupMap) (ks : List ℕ) (rs : List Row) (ts : List Take) → rs ≡ [] → HasPut m (groups_in ks rs ++ flat_map (taking_puts ks rs) ts) m
nothing_put m ks rs ts e items g = ap (λ (ps : List Put). put_each items ps (groups_view m)) (sym (ap (λ (us : List Row). groups_in ks us ++ flat_map (taking_puts ks us) ts) e ∙ none_at_all ks ts))

-- ---- at once

pub rows_at_once : (i leaf : ℕ) (ts : List Triplet) (fs : List Follower) (vs : List (Option Value)) → many_puts [] i (replicate (length ts) None) ≡ puts_in [] i (λ (r : Row). None) (run leaf fs vs ts)
rows_at_once i leaf [] fs vs = refl
rows_at_once i leaf (t ∷ ts) fs vs = ap (λ (ps : List Put). put_of [] (Some (record { aggregate = i; value = None })) ∷ ps) (rows_at_once i leaf ts _ _)

pub values_at_once : (i : ℕ) (f : Row → Option Value) (rs : List Row) → many_puts [] i (map f rs) ≡ puts_in [] i f rs
values_at_once i f [] = refl
values_at_once i f (r ∷ rs) = ap (λ (ps : List Put). put_of [] (Some (record { aggregate = i; value = f r })) ∷ ps) (values_at_once i f rs)

pub nulls_at_once : (i n : ℕ) → many_puts [] i (replicate n None) ≡ replicate n (put_of [] (Some (record { aggregate = i; value = None })))
nulls_at_once i zero = refl
nulls_at_once i (suc n) = ap (λ (ps : List Put). put_of [] (Some (record { aggregate = i; value = None })) ∷ ps) (nulls_at_once i n)

pub as_many_rows : (leaf : ℕ) (ts : List Triplet) (fs : List Follower) (vs : List (Option Value)) → length (run leaf fs vs ts) ≡ length ts
as_many_rows leaf [] fs vs = refl
as_many_rows leaf (t ∷ ts) fs vs = ap suc (as_many_rows leaf ts _ _)

pub no_rows : (rs : List Row) → length rs ≡ 0 → rs ≡ []
no_rows [] e = refl
no_rows (r ∷ rs) e = absurd (cc)

pub many_put : (r : Result (Unit {0}) NoMemory) (old new : GroupMap) (n i : ℕ) (t : List (Option Value)) (vs : List (Option Value)) → slice_get (tuples_view old) n ≡ Some t
    → IfOk r (λ done. (items : List GroupItem) (u : List (Option Value)) → gatherings_of items ≡ gatherings_view old → slice_get (tuples_view old) n ≡ Some u → groups_view new ≡ put_each items (many_puts u i vs) (groups_view old))
    → IfOk r (λ done. HasPut old (many_puts t i vs) new)
many_put (Ok done) old new n i t vs g h = λ items e. h items t e g
many_put (Err x) old new n i t vs g h = tt

-- the values of an expression that is the leaf's own, in its rows
pub own_at_once : (i : ℕ) (x : Expr) (leaf : ℕ) (needed : Bool) (ts' : List Take) (bs : List Beside) (C : List (List Triplet)) (ts : List Triplet) → CanFire C (record { leaf = leaf; beside = bs; takings = ts'; needed = needed }) → ts ≡ column_at C leaf → HasOwn x leaf ts
    → many_puts [] i (map (λ (t : Triplet). t.value) ts) ≡ puts_in [] i (value_in x) (rows_of leaf bs C)
own_at_once i x leaf needed ts' bs C ts c e h =
    let rs : List Row = rows_of leaf bs C in
    let own : in_slot leaf rs ≡ map (λ (t : Triplet). t.value) ts =
    own_slots leaf (map (source_view C) bs) (replicate (length C) None) (column_at C leaf) (omega (arith, c.leaf, length-replicate {A = Option Value} (length C) None)) c.apart ∙ ap (map (λ (t : Triplet). t.value)) (sym e) in
    ap (many_puts [] i) (sym (own_kept x leaf ts rs h own)) ∙ values_at_once i (value_in x) rs
