-- What is restored of the columns of records are their projections.
use Rattle.std.proofs.Common.{◌≡◌, ℕ, List, map, length, true, Option, Some, None, sym, ap, ap₂, ◌∙◌}
use Rattle.std.proofs.lemmas.List.{length-map}
use Rattle.std.specs.Prelude.{Result, Ok, Err, IfOk, IsErrOf}
use Rattle.std.specs.List.{list_all}
use Rattle.dr_meaning.specs.Schema.{Fields}
use Rattle.dr_meaning.specs.Path.{Step, is_leaf_path}
use Rattle.dr_meaning.specs.Record.{Node, project}
use Rattle.dr_meaning.specs.Column.{Triplet, column}
use Rattle.dr_assemble.specs.Restoring.{strips}
use Rattle.dr_assemble.proofs.ByPaths.{restored_records}
use Rattle.dr_assemble.specs.Views.{Restores}
use Rattle.dr_walk.specs.declared.fault.AssembleFault.{AssembleFault}
use Rattle.dr_assemble.proofs.RestoringLemmas.{restored_of_columns}
use Rattle.dr_walk.specs.Walking.{HasColumns}

-- what is restored of the columns of records is their projection
pub columns_restored : (fs : Fields) (F : List (List Step)) (C : List (List Triplet)) (rows : ℕ) (R : List Node) → list_all (is_leaf_path fs) F ≡ true
    → HasColumns fs F C rows R → restored_records fs rows (strips F C) ≡ Some (map (project F) R)
columns_restored fs F C rows R t h =
    ap₂ (λ (n : ℕ) (D : List (List Triplet)). restored_records fs n (strips F D)) (sym h.1) (sym h.2) ∙ restored_of_columns fs F R t h.0

pub some_same : {A : Type 0} (a b : A) → Some a ≡ Some b → a ≡ b
some_same a b e = cc

-- other than one column for each leaf: no records have them
pub as_many_columns : (fs : Fields) (F : List (List Step)) (C : List (List Triplet)) (rows : ℕ) → (length C ≡ length F → ⊥) → (R : List Node) → HasColumns fs F C rows R → ⊥
as_many_columns fs F C rows g R h = g (ap length (sym h.2) ∙ length-map F (λ (p : List Step). column p R))

-- ---- answers

-- two facts of what an answer holds
pub both_ok : {A E : Type 0} (P Q T : A → Type 0) (r : Result A E) → ((x : A) → P x → Q x → T x) → IfOk r P → IfOk r Q → IfOk r T
both_ok P Q T (Ok x) f p q = f x p q
both_ok P Q T (Err e) f p q = tt

pub one_ok : {A E : Type 0} (P T : A → Type 0) (r : Result A E) → ((x : A) → P x → T x) → IfOk r P → IfOk r T
one_ok P T (Ok x) f p = f x p
one_ok P T (Err e) f p = tt

-- bad data says that nothing is restored
pub nothing_restored : {A B : Type 0} (see : A → B) (m : Option B) (e : AssembleFault) → Restores see m (Err e) → IsErrOf {T = A} (Err e) AssembleFault.BadData → m ≡ None
nothing_restored see m AssembleFault.BadData h q = h
nothing_restored see m AssembleFault.NoMemory h q = absurd (cc)
