-- The columns of an opened file's leaves, one after another.
use Rattle.std.proofs.Common.{◌≡◌, ◌<◌, ◌≤◌, ℕ, false, IfErr, zero, suc, ◌+◌, List, [], ◌∷◌, ◌++◌, length, take, Some, None, refl, sym, ap, ◌∙◌, subst, add-one, arith}
use Rattle.std.specs.Prelude.{IsErrAnd, Result, Ok, Err}
use Rattle.std.specs.List.{slice_get}
use Rattle.dr_formats.specs.Opening.{leaf_cause}
use Rattle.dr_outside.specs.Link.{LinkShown}
use Rattle.dr_outside.specs.declared.cause.Cause.{Cause}
use Rattle.dr_outside.proofs.FaultLemmas.{raised_never_falls}
use Rattle.dr_file.specs.declared.file_fault.FileFault.{FileFault}
use Rattle.dr_meaning.specs.Path.{Leaf}
use Rattle.dr_meaning.specs.Column.{Triplet}
use Rattle.dr_file.specs.OpenedFiles.{IsColumnOf, IsColumnFault, is_link_fault, is_read_fault}
use Rattle.dr_file.specs.Leaving.{LeavesLinkCounted}
use Rattle.dr_scan.specs.FileRecords.{AreColumnsOf, IsColumnsFault}

-- there is a leaf at each index below their number
pub leaf_there : (F : List Leaf) (i : ℕ) → i < length F → (l : Leaf) × (slice_get F i ≡ Some l)
leaf_there [] i h = absurd (omega arith)
leaf_there (l ∷ F) zero h = (l, refl)
leaf_there (l ∷ F) (suc i) h = leaf_there F i (omega (arith, h))

one_more_suc : (bytes : List ℕ) (F : List Leaf) (i : ℕ) (cs : List (List Triplet)) (l : Leaf) (c : List Triplet) → AreColumnsOf bytes (take i F) cs → slice_get F i ≡ Some l → IsColumnOf bytes l c
    → AreColumnsOf bytes (take (suc i) F) (cs ++ c ∷ [])
one_more_suc bytes [] i cs l c h e k = let no : None ≡ Some l = e in cc
one_more_suc bytes (m ∷ F) zero [] l c h e k = let is : Some m ≡ Some l = e in let same : l ≡ m = cc in (subst (λ (x : Leaf). IsColumnOf bytes x c) same k, tt)
one_more_suc bytes (m ∷ F) zero (d ∷ cs) l c h e k = absurd h
one_more_suc bytes (m ∷ F) (suc i) [] l c h e k = absurd h
one_more_suc bytes (m ∷ F) (suc i) (d ∷ cs) l c h e k = (h.0, one_more_suc bytes F i cs l c h.1 e k)

-- one column more
pub one_more : (bytes : List ℕ) (F : List Leaf) (i : ℕ) (cs ds : List (List Triplet)) (l : Leaf) (c : List Triplet) → AreColumnsOf bytes (take i F) cs → slice_get F i ≡ Some l → IsColumnOf bytes l c → ds ≡ cs ++ c ∷ []
    → AreColumnsOf bytes (take (i + 1) F) ds
one_more bytes F i cs ds l c h e k d = subst (λ (x : List (List Triplet)). AreColumnsOf bytes (take (i + 1) F) x) (sym d) (subst (λ (j : ℕ). AreColumnsOf bytes (take j F) (cs ++ c ∷ [])) (sym (add-one i)) (one_more_suc bytes F i cs l c h e k))

-- all columns
pub all_columns : (bytes : List ℕ) (F : List Leaf) (i : ℕ) (cs : List (List Triplet)) → AreColumnsOf bytes (take i F) cs → length F ≤ i → AreColumnsOf bytes F cs
all_columns bytes [] zero cs h e = h
all_columns bytes [] (suc i) cs h e = h
all_columns bytes (l ∷ F) zero cs h e = absurd (omega arith)
all_columns bytes (l ∷ F) (suc i) [] h e = absurd h
all_columns bytes (l ∷ F) (suc i) (c ∷ cs) h e = (h.0, all_columns bytes F i cs h.1 (omega (arith, e)))

-- the fault of one column is that of all
pub one_fault : (bytes : List ℕ) (F : List Leaf) (i : ℕ) (l : Leaf) (e : FileFault) → slice_get F i ≡ Some l → IsColumnFault e (leaf_cause bytes l) → IsColumnsFault bytes F e
one_fault bytes F i l FileFault.NoMemory at h = tt
one_fault bytes F i l (FileFault.Why (Cause.ReadFailed before after)) at h = tt
one_fault bytes F i l (FileFault.Why Cause.BadFooter) at h = h
one_fault bytes F i l (FileFault.Why Cause.BadSchema) at h = h
one_fault bytes F i l (FileFault.Why Cause.BadCodec) at h = h
one_fault bytes F i l (FileFault.Why Cause.BadData) at h = (i, l, at, h)

-- what holds of the only error holds of the answer's
pub err_is : {A E : Type 0} (P : E → Type 0) (r : Result A E) (e : E) → IsErrAnd r (λ x. x ≡ e) → P e → IfErr r P
err_is P (Ok a) e h p = tt
err_is P (Err x) e h p = subst P (sym h) p

pub no_read_fault : {A : Type 0} (r : Result A FileFault) (e : FileFault) → IsErrAnd r (λ x. x ≡ e) → is_link_fault e ≡ false → is_read_fault r ≡ false
no_read_fault (Ok a) e h p = refl
no_read_fault (Err x) e h p = ap is_link_fault h ∙ p

pub read_fault_is : {A : Type 0} (r : Result A FileFault) (e : FileFault) → IsErrAnd r (λ x. x ≡ e) → is_read_fault r ≡ false → is_link_fault e ≡ false
read_fault_is (Ok a) e h p = elim h [ ]
read_fault_is (Err x) e h p = ap is_link_fault (sym h) ∙ p

-- a count that rises by one at a link's failure, and at nothing else, never falls
pub never_falls : {A : Type 0} (r : Result A FileFault) (serves : List ℕ → Type 0) (before after : LinkShown) → LeavesLinkCounted r serves before after → before.faults ≤ after.faults
never_falls (Ok a) serves before after link = omega (arith, link.calm refl)
never_falls (Err FileFault.NoMemory) serves before after link = omega (arith, link.calm refl)
never_falls (Err (FileFault.Why (Cause.ReadFailed b a))) serves before after link = omega (arith, raised_never_falls before.faults, link.counts.2)
never_falls (Err (FileFault.Why Cause.BadFooter)) serves before after link = omega (arith, link.calm refl)
never_falls (Err (FileFault.Why Cause.BadSchema)) serves before after link = omega (arith, link.calm refl)
never_falls (Err (FileFault.Why Cause.BadCodec)) serves before after link = omega (arith, link.calm refl)
never_falls (Err (FileFault.Why Cause.BadData)) serves before after link = omega (arith, link.calm refl)
