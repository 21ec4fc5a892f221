-- What judging and restoring columns in schema order say of the columns as they are given.
use Rattle.std.proofs.Common.{◌≡◌, ℕ, List, ◌++◌, map, length, true, Some, Vec, Global, sym, ap, ◌∙◌, subst}
use Rattle.std.specs.Prelude.{Result, Ok, Err, IfOk, IsErrOf, IsErrAnd}
use Rattle.std.specs.List.{list_all}
use Rattle.dr_meaning.specs.Schema.{Fields}
use Rattle.dr_meaning.specs.Path.{Step, is_leaf_path}
use Rattle.dr_meaning.specs.Record.{Node, project}
use Rattle.dr_meaning.specs.Column.{Triplet}
use Rattle.dr_meaning.specs.Automaton.{schema_order}
use Rattle.dr_nested.specs.declared.record.Node as code
use Rattle.dr_walk.specs.Walking.{HasColumns, NoneHas}
use Rattle.dr_walk.specs.declared.fault.AssembleFault.{AssembleFault}
use Rattle.dr_assemble.specs.Restoring.{Strip, strips_at, rests, columns_of, assembled, restored_each}
use Rattle.dr_assemble.specs.Assembly.{AreProjections}
use Rattle.dr_assemble.specs.Views.{nodes_view, Restores}
use Rattle.dr_assemble.proofs.AssemblyLemmas.{some_same, nothing_restored}
use Rattle.dr_assemble.proofs.JudgingLemmas.{SomeHave, NoneHave}
use Rattle.dr_assemble.specs.Lines.{strip_lines, PrintsRecords}
use Rattle.dr_assemble.proofs.LineLemmas.{lines_same}
use Rattle.dr_assemble.proofs.OrderedAssembly.{has_from_order, has_by_order, columns_restored_each}

-- some records have columns
abbrev pub SomeHas : Fields → List (List Step) → List (List Triplet) → ℕ → Type 0
SomeHas fs F C rows = (R : List Node) × HasColumns fs F C rows R

-- what is restored of strips
abbrev pub RestoresStrips : Fields → ℕ → List Strip → Result (Vec code.Node Global) AssembleFault → Type 0
RestoresStrips fs rows S r = Restores (λ (v : Vec code.Node Global). nodes_view v.items) (restored_each (assembled fs 0 0 0) 0 rows S) r

pub judged : (fs : Fields) (F : List (List Step)) (C : List (List Triplet)) (rows : ℕ) → list_all (is_leaf_path fs) F ≡ true → length C ≡ length F → (S : List Strip) → S ≡ strips_at (schema_order fs F) F C
    → SomeHave fs rows S → SomeHas fs F C rows
judged fs F C rows leaves e S q x = let y = subst (SomeHave fs rows) q x in (y.0, has_from_order fs F C rows leaves e y.0 y.1)

pub not_judged : (fs : Fields) (F : List (List Step)) (C : List (List Triplet)) (rows : ℕ) → list_all (is_leaf_path fs) F ≡ true → (S : List Strip) → S ≡ strips_at (schema_order fs F) F C
    → NoneHave fs rows S → NoneHas fs F C rows
not_judged fs F C rows leaves S q none R h = none R (subst (λ (T : List Strip). HasColumns fs (rests T) (columns_of T) rows R) (sym q) (has_by_order fs F C rows leaves R h))

restored_of : (fs : Fields) (F : List (List Step)) (C : List (List Triplet)) (rows : ℕ) → list_all (is_leaf_path fs) F ≡ true → (S : List Strip) → S ≡ strips_at (schema_order fs F) F C
    → (R : List Node) → HasColumns fs F C rows R → restored_each (assembled fs 0 0 0) 0 rows S ≡ Some (map (project F) R)
restored_of fs F C rows leaves S q R h = ap (restored_each (assembled fs 0 0 0) 0 rows) q ∙ columns_restored_each fs F C rows leaves R h

pub each_of : (fs : Fields) (F : List (List Step)) (C : List (List Triplet)) (rows : ℕ) → list_all (is_leaf_path fs) F ≡ true → (S : List Strip) → S ≡ strips_at (schema_order fs F) F C
    → (r : Result (Vec code.Node Global) AssembleFault) → RestoresStrips fs rows S r → (R : List Node) → HasColumns fs F C rows R → IfOk r (λ (v : Vec code.Node Global). nodes_view v.items ≡ map (project F) R)
each_of fs F C rows leaves S q (Ok v) h R x = some_same (nodes_view v.items) (map (project F) R) (sym h ∙ restored_of fs F C rows leaves S q R x)
each_of fs F C rows leaves S q (Err e) h R x = tt

pub projections_of : (fs : Fields) (F : List (List Step)) (C : List (List Triplet)) (rows : ℕ) → list_all (is_leaf_path fs) F ≡ true → (S : List Strip) → S ≡ strips_at (schema_order fs F) F C
    → (r : Result (Vec code.Node Global) AssembleFault) → RestoresStrips fs rows S r → SomeHas fs F C rows → IfOk r (λ (v : Vec code.Node Global). AreProjections fs F C rows (nodes_view v.items))
projections_of fs F C rows leaves S q (Ok v) h x = (x.0, x.1, each_of fs F C rows leaves S q (Ok v) h x.0 x.1)
projections_of fs F C rows leaves S q (Err e) h x = tt

-- of columns that records have something is restored
pub none_refused : (fs : Fields) (F : List (List Step)) (C : List (List Triplet)) (rows : ℕ) → list_all (is_leaf_path fs) F ≡ true → (S : List Strip) → S ≡ strips_at (schema_order fs F) F C
    → (r : Result (Vec code.Node Global) AssembleFault) → RestoresStrips fs rows S r → SomeHas fs F C rows → IsErrOf r AssembleFault.BadData → NoneHas fs F C rows
none_refused fs F C rows leaves S q (Ok v) h x e = absurd (cc)
none_refused fs F C rows leaves S q (Err e) h x b =
    let none = nothing_restored (λ (v : Vec code.Node Global). nodes_view v.items) (restored_each (assembled fs 0 0 0) 0 rows S) e h b in
    let some = restored_of fs F C rows leaves S q x.0 x.1 in
    absurd (cc)

-- of columns that records have, the records' lines are printed
pub printed_of : (fs : Fields) (F : List (List Step)) (C : List (List Triplet)) (rows : ℕ) → list_all (is_leaf_path fs) F ≡ true → (S : List Strip) → S ≡ strips_at (schema_order fs F) F C
    → (before after : List ℕ) → after ≡ before ++ strip_lines fs rows S → SomeHas fs F C rows → PrintsRecords fs F C rows before after
printed_of fs F C rows leaves S q before after h x =
    (x.0, x.1, h ∙ ap (λ (t : List ℕ). before ++ t) (lines_same fs rows S (map (project F) x.0) (restored_of fs F C rows leaves S q x.0 x.1)))

-- a fault that is handed on is the fault that was told
pub fault_kept : {A B : Type 0} (r : Result A AssembleFault) (k : Result B AssembleFault) (e : AssembleFault) → k ≡ Err e → IsErrAnd r (λ (x : AssembleFault). x ≡ e) → IsErrOf r AssembleFault.BadData → IsErrOf k AssembleFault.BadData
fault_kept (Ok a) k e w h b = absurd h
fault_kept (Err x) k e w h b = let same : x ≡ AssembleFault.BadData = cc in w ∙ ap Err (sym h ∙ same)
