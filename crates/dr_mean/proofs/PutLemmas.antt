-- Putting into partials, one thing after another.
use Rattle.std.specs.Prelude.{◌≡◌, ◌<◌, ◌+◌, ℕ, zero, suc, get_or, List, [], ◌∷◌, ◌++◌, length, drop, Bool, true, false, Option, Some, None, Result, Ok, Err, OnOk}
use Rattle.std.specs.List.{list_all}
use Rattle.std.proofs.Common.{refl, sym, ap, ◌∙◌, arith}
use Rattle.std.proofs.lemmas.Bool.{and_parts}
use Rattle.std.proofs.lemmas.List.{drop_more}
use Rattle.std.proofs.lemmas.List.Folds.{list_all-map}
use Rattle.dr_memory.specs.declared.NoMemory.{NoMemory}
use Rattle.dr_meaning.specs.Path.{Step}
use Rattle.dr_meaning.specs.Record.{Node, project}
use Rattle.dr_meaning.specs.Query.{GroupTerm, key, count_rows, aggregate, Query}
use Rattle.dr_meaning.specs.BindingLaws.{has_shapes}
use Rattle.dr_meaning.proofs.HasShapesLemmas.{kept_have_shapes}
use Rattle.dr_nested.specs.Views.{node_view}
use Rattle.dr_nested.specs.declared.path.Path.{Path}
use Rattle.dr_nested.specs.declared.record.Node.{Node as RecordNode}
use Rattle.dr_partials.specs.Partials.{Partial}
use Rattle.dr_partials.specs.Putting.{put_all}
use Rattle.dr_plan.specs.Conjuncts.{all_of}
use Rattle.dr_plan.specs.Planned.{Planned}
use Rattle.dr_plan.specs.declared.plan.Plan.{Plan}
use Rattle.dr_group.specs.Gathering.{Becomes}
use Rattle.dr_rows.specs.Pruning.{kept_if}
use Rattle.dr_mean.specs.Condition.{plan_tests}
use Rattle.dr_mean.specs.GroupLaws.{term_puts, record_puts}
use Rattle.dr_mean.specs.GroupPuts.{AreTyped, aggregate_puts, projections, records_puts}
use Rattle.dr_mean.specs.Lines.{plan_kept}
use Rattle.dr_mean.specs.RowsOf.{IsTyped}
use Rattle.dr_mean.proofs.OneRecordLemmas.{put_in_parts}
use Rattle.dr_nested.specs.PathView.{paths_view}

-- what became so where nothing failed
pub ok_each : (r : Result (Unit {0}) NoMemory) (before after : Partial) (I : Planned → Type 0) (meant : Planned → Partial) → ((p : Planned) → I p → Becomes before after (meant p) r) → OnOk r ((p : Planned) → I p → after ≡ meant p)
ok_each (Ok d) before after I meant h = h
ok_each (Err e) before after I meant h = tt

-- ---- aggregates one after another

terms_next : (keys : List (List Step)) (i : ℕ) (t : GroupTerm) (ts : List GroupTerm) (n : Node) → term_puts keys i (t ∷ ts) n ≡ aggregate_puts keys i t n ++ term_puts keys (suc i) ts n
terms_next keys i (key j) ts n = refl
terms_next keys i count_rows ts n = refl
terms_next keys i (aggregate a e) ts n = refl

-- with one aggregate put, those behind it are still to be put
pub terms_more : (q : Query) (keys : List (List Step)) (i : ℕ) (t : GroupTerm) (ts : List GroupTerm) (n : Node) (before now : Partial) → now ≡ put_all q (aggregate_puts keys i t n) before
    → put_all q (term_puts keys (i + 1) ts n) now ≡ put_all q (term_puts keys i (t ∷ ts) n) before
terms_more q keys i t ts n before now e =
    let s : i + 1 ≡ suc i = omega arith in
    ap (λ (j : ℕ). put_all q (term_puts keys j ts n) now) s
    ∙ ap (put_all q (term_puts keys (suc i) ts n)) e
    ∙ sym (put_in_parts q (aggregate_puts keys i t n) (term_puts keys (suc i) ts n) before)
    ∙ ap (λ ps. put_all q ps before) (sym (terms_next keys i t ts n))

-- ---- records one after another

pub records_more : (q : Query) (p : Plan) (keys : List (List Step)) (ts : List GroupTerm) (leaves : List Path) (ns : List RecordNode) (k : ℕ) (n : RecordNode) (before now : Partial) → k < length ns → n ≡ get_or ns k n
    → now ≡ put_all q (record_puts keys ts (plan_kept p (project (paths_view leaves) (node_view n)))) before
    → put_all q (records_puts p keys ts (projections leaves (drop (k + 1) ns))) now ≡ put_all q (records_puts p keys ts (projections leaves (drop k ns))) before
records_more q p keys ts leaves ns k n before now h g e =
    let next : drop k ns ≡ n ∷ drop (k + 1) ns = drop_more ns k n h ∙ ap (λ (m : RecordNode). m ∷ drop (k + 1) ns) (sym g) in
    ap (put_all q (records_puts p keys ts (projections leaves (drop (k + 1) ns)))) e
    ∙ sym (put_in_parts q (record_puts keys ts (plan_kept p (project (paths_view leaves) (node_view n)))) (records_puts p keys ts (projections leaves (drop (k + 1) ns))) before)
    ∙ ap (λ (ms : List RecordNode). put_all q (records_puts p keys ts (projections leaves ms)) before) (sym next)

-- ---- at a place

pub true_at : {X : Type 0} (f : X → Bool) (xs : List X) (k : ℕ) (x : X) → k < length xs → x ≡ get_or xs k x → list_all f xs ≡ true → f x ≡ true
true_at f [] k x h e t = absurd (omega arith)
true_at f (y ∷ ys) zero x h e t =
    let b : (f y ≡ true) × (list_all f ys ≡ true) = and_parts _ _ t in ap f e ∙ b.0
true_at f (y ∷ ys) (suc k) x h e t =
    let b : (f y ≡ true) × (list_all f ys ≡ true) = and_parts _ _ t in true_at f ys k x (omega arith) e b.1

-- a record among those that are typed
pub typed_at : (leaves : List Path) (ns : List RecordNode) (k : ℕ) (n : RecordNode) → k < length ns → n ≡ get_or ns k n → AreTyped leaves (projections leaves ns) → IsTyped leaves (project (paths_view leaves) (node_view n))
typed_at leaves ns k n h g t =
    let shape : RecordNode → Bool = λ (m : RecordNode). has_shapes t.fields (project (paths_view leaves) (node_view m)) in
    let all : list_all shape ns ≡ true = sym (list_all-map (has_shapes t.fields) (λ (m : RecordNode). project (paths_view leaves) (node_view m)) ns) ∙ t.shapes in
    record { fields = t.fields; query = t.query; used = t.used; shapes = true_at shape ns k n h g all }

-- ---- what is left

pub none_kept : (b : Bool) (n : Node) (o : Option Node) → b ≡ false → kept_if b n ≡ o → o ≡ None
none_kept true n o h e = cc
none_kept false n o h e = sym e

-- what is left of a record has values of the types too
pub kept_typed : (p : Plan) (leaves : List Path) (n m : Node) → plan_kept p n ≡ Some m → IsTyped leaves n → IsTyped leaves m
kept_typed p leaves n m e t =
    record { fields = t.fields; query = t.query; used = t.used; shapes = kept_have_shapes t.fields (all_of (plan_tests p)) n m e t.shapes }
