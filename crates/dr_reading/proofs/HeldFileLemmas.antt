-- Tablets of which a file is held: they are left only where its read failed.
use Rattle.std.proofs.Common.{◌≡◌, ℕ, suc, inl, inr, List, [], ◌∷◌, ◌++◌, length, true, false, Bool, Option, Some, None, refl, sym, ap, ◌∙◌, subst, append_assoc, IsSome, true≢false}
use Rattle.std.specs.Prelude.{IsTrue}
use Rattle.std.specs.List.{slice_get}
use Rattle.dr_meaning.specs.Schema.{Schema}
use Rattle.dr_meaning.specs.Path.{Leaf}
use Rattle.dr_meaning.specs.Record.{Node}
use Rattle.dr_outside.specs.Link.{Files, LinkShown, Holds}
use Rattle.dr_reading.specs.Causes.{is_read}
use Rattle.dr_reading.specs.Scan.{Copy}
use Rattle.dr_reading.specs.Given.{IsFileThere, SomeIsFile}
use Rattle.dr_reading.specs.Left.{Tried, LeftTablet, IsCauseAt, AreTried, LeftUnanswered, AreLeft, LeavesJust, no_tablets, is_answered, is_left}
use Rattle.dr_reading.specs.Premises.{EachHasFile, SomeFileFailed, EachReadFailed}
use Rattle.dr_reading.specs.ReadingLaws.{LeftFailedToRead, SteadyLeavesNone}
use Rattle.dr_reading.proofs.ReadingLemmas.{left_holds_no_file}

module _ (s : Schema) (F : List Leaf) (link : LinkShown) (files : Files) (held : link.held ≡ Some files) where
  -- a copy that is a file has a failed read for its cause
  file_failed : (c : Copy) (t : Tried) (R : List Node) → IsCauseAt s F link c.path t.cause → IsFileThere s F R (files c.path) → is_read t.cause ≡ true
  file_failed c t R cause file = by_bytes (files c.path) refl file
    where
      by_read : (bytes : List ℕ) → files c.path ≡ Some bytes → IsFileThere s F R (Some bytes) → (b : Bool) → is_read t.cause ≡ b → b ≡ true
      by_read bytes e f true k = refl
      by_read bytes e f false k = absurd (left_holds_no_file s F link files c.path bytes t.cause R held e cause k f)

      by_bytes : (o : Option (List ℕ)) → files c.path ≡ o → IsFileThere s F R o → is_read t.cause ≡ true
      by_bytes None e f = absurd f
      by_bytes (Some bytes) e f = by_read bytes e f (is_read t.cause) refl

  some_failed : (cs : List Copy) (ts : List Tried) (R : List Node) → AreTried s F link cs ts → SomeIsFile s F files cs R → SomeFileFailed s F files cs ts
  some_failed [] ts R a f = absurd f
  some_failed (c ∷ cs) [] R a f = absurd a
  some_failed (c ∷ cs) (t ∷ ts) R a (inl f) = inl ((R, f), file_failed c t R a.1 f)
  some_failed (c ∷ cs) (t ∷ ts) R a (inr f) = inr (some_failed cs ts R a.2 f)

  slice_behind : (before : List (List Copy)) (cs : List Copy) (rest : List (List Copy)) → slice_get (before ++ cs ∷ rest) (length before) ≡ Some cs
  slice_behind [] cs rest = refl
  slice_behind (b ∷ before) cs rest = slice_behind before cs rest

  each_failed : {HasAnswer : List Copy → Type 0} (all before ts : List (List Copy)) (n : ℕ) (left : List LeftTablet) → all ≡ before ++ ts → n ≡ length before → EachHasFile s F files ts → LeftUnanswered s F link HasAnswer n ts left → EachReadFailed s F files all left
  each_failed all before [] n left e l h (no_tablets m) = tt
  each_failed all before (cs ∷ rest) n left e l h (is_answered m ds more ls g k) =
      each_failed all (before ++ cs ∷ []) rest (suc n) left (e ∙ sym (append_assoc before (cs ∷ []) rest)) (ap suc l ∙ sym (length_one before)) h.1 k
    where
      length_one : (b : List (List Copy)) → length (b ++ cs ∷ []) ≡ suc (length b)
      length_one [] = refl
      length_one (x ∷ b) = ap suc (length_one b)
  each_failed all before (cs ∷ rest) n (l0 ∷ left) e l h (is_left m ds more ls tried a k) = (
    (cs, ap (slice_get all) l ∙ (ap (λ xs. slice_get xs (length before)) e ∙ slice_behind before cs rest), some_failed cs tried h.0.0 a h.0.1),
    each_failed all (before ++ cs ∷ []) rest (suc n) left (e ∙ sym (append_assoc before (cs ∷ []) rest)) (ap suc l ∙ sym (length_one before)) h.1 k,
  )
    where
      length_one : (b : List (List Copy)) → length (b ++ cs ∷ []) ≡ suc (length b)
      length_one [] = refl
      length_one (x ∷ b) = ap suc (length_one b)

  -- with a steady link no copy that is held fails to be read
  module _ (steady : IsTrue link.is_steady) where
    file_read : (c : Copy) (t : Tried) (R : List Node) → IsCauseAt s F link c.path t.cause → IsFileThere s F R (files c.path) → ⊥
    file_read c t R cause file = true≢false (sym (file_failed c t R cause file) ∙ cause.1 steady (is_held (files c.path) refl file))
      where
        is_held : (o : Option (List ℕ)) → files c.path ≡ o → IsFileThere s F R o → Holds link.held c.path
        is_held None e f = absurd f
        is_held (Some bytes) e f = subst (λ (h : Option Files). Holds h c.path) (sym held) (subst IsSome (sym e) refl)

    none_failed : (cs : List Copy) (ts : List Tried) (R : List Node) → AreTried s F link cs ts → SomeIsFile s F files cs R → ⊥
    none_failed [] ts R a f = f
    none_failed (c ∷ cs) [] R a f = a
    none_failed (c ∷ cs) (t ∷ ts) R a (inl f) = file_read c t R a.1 f
    none_failed (c ∷ cs) (t ∷ ts) R a (inr f) = none_failed cs ts R a.2 f

    none_left : {HasAnswer : List Copy → Type 0} (ts : List (List Copy)) (n : ℕ) (left : List LeftTablet) → EachHasFile s F files ts → LeftUnanswered s F link HasAnswer n ts left → left ≡ []
    none_left [] n left h (no_tablets m) = refl
    none_left (cs ∷ rest) n left h (is_answered m ds more ls g k) = none_left rest (suc n) left h.1 k
    none_left (cs ∷ rest) n left h (is_left m ds more ls tried a k) = absurd (none_failed cs tried h.0.0 a h.0.1)

-- whatever answers the other tablets have
pub are_left : {HasAnswer : List Copy → Type 0} (s : Schema) (F : List Leaf) (link : LinkShown) (n : ℕ) (ts : List (List Copy)) (left : List LeftTablet) → LeftUnanswered s F link HasAnswer n ts left → AreLeft s F link n ts left
are_left s F link n ts left (no_tablets m) = no_tablets m
are_left s F link n ts left (is_answered m ds more ls g k) = is_answered m ds more ls tt (are_left s F link (suc m) more ls k)
are_left s F link n ts left (is_left m ds more ls tried a k) = is_left m ds more ls tried a (are_left s F link (suc m) more ls k)

pub left_failed_to_read : LeftFailedToRead
left_failed_to_read s F link files ts left held h k = each_failed s F link files held ts [] ts 0 left refl refl h k

pub steady_leaves_no_tablet : SteadyLeavesNone
steady_leaves_no_tablet s F link files ts left held steady h k = none_left s F link files held steady ts 0 left h k

-- where the link itself gives the others
pub steady_leaves_none : (s : Schema) (F : List Leaf) (link : LinkShown) (files : Files) (ts : List (List Copy)) (left : List LeftTablet) → link.held ≡ Some files
    → IsTrue link.is_steady → EachHasFile s F files ts → LeavesJust s F link 0 ts left → left ≡ []
steady_leaves_none s F link files ts left held steady h k = none_left s F link files held steady ts 0 left h k
