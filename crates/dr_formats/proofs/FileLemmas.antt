-- Causes: what the test knows, and that there is at most one.
use Rattle.std.proofs.Common.{◌≡◌, ◌⊎◌, inl, inr, ℕ, List, [], ◌∷◌, map, Bool, true, false, refl, sym, ap, ◌∙◌, subst, Option, Some, None, true≢false}
use Rattle.std.specs.Prelude.{if◌then◌else◌}
use Rattle.std.specs.List.{list_all}
use Rattle.std.proofs.lemmas.Bool.{and_from, true≢false}
use Rattle.dr_meaning.specs.Schema.{Schema}
use Rattle.dr_meaning.specs.Path.{Leaf}
use Rattle.dr_meaning.specs.Record.{Node}
use Rattle.dr_meaning.specs.Column.{Triplet, column}
use Rattle.dr_formats.specs.File.{Footer, footer_of, has_leaves, are_uncompressed, leaves_read, given_column, AreColumns, IsDataOf, FileCause, bad_footer, bad_schema, bad_codec, bad_data, HasCause, is_decoded, has_columns, footer_cause, known_cause}
use Rattle.dr_formats.specs.FileLaws.{KnownCauseHolds, CauseIsKnown, OneCause, FileHasNoCause}

-- ---- what the test knows

some_decoded : (x : Option (List Triplet)) (ts : List Triplet) → x ≡ Some ts → is_decoded x ≡ true
some_decoded x ts e = rw e refl

first_same : (x y : Option (List Triplet)) (xs ys : List (Option (List Triplet))) → x ∷ xs ≡ y ∷ ys → (x ≡ y) × (xs ≡ ys)
first_same x y xs ys e = (cc, cc)

all_decoded : (bytes : List ℕ) (f : Footer) (F : List Leaf) (R : List Node) → AreColumns bytes f F R → list_all (λ l. is_decoded (given_column bytes f l)) F ≡ true
all_decoded bytes f [] R h = refl
all_decoded bytes f (l ∷ F) R h =
    let p = first_same (given_column bytes f l) (Some (column l.path R)) (map (given_column bytes f) F) (map (λ (m : Leaf). Some (column m.path R)) F) h in
    and_from _ _ (some_decoded (given_column bytes f l) (column l.path R) p.0) (all_decoded bytes f F R p.1)

data_has_columns : (bytes : List ℕ) (f : Footer) (s : Schema) (F : List Leaf) (R : List Node) → IsDataOf bytes f s F R → has_columns bytes f F ≡ true
data_has_columns bytes f s F R h = and_from _ _ (and_from _ _ h.0 h.1) (all_decoded bytes f F R h.4)

abbrev cause_by : Bool → Bool → Bool → Option FileCause
cause_by a b c = if a then (if b then (if c then None else Some bad_data) else Some bad_codec) else Some bad_schema

abbrev Told : List ℕ → Schema → List Leaf → Footer → FileCause → Type 0
Told bytes s F f c = footer_of bytes ≡ Some f → HasCause bytes s F c

by_tests : (bytes : List ℕ) (s : Schema) (F : List Leaf) (f : Footer) (a b c : Bool) → has_leaves f F ≡ a → are_uncompressed f (leaves_read f F) ≡ b → has_columns bytes f F ≡ c → footer_of bytes ≡ Some f → (d : FileCause) → cause_by a b c ≡ Some d → HasCause bytes s F d
by_tests bytes s F f false b c ha hb hc e d h = subst (HasCause bytes s F) (some_cause bad_schema d h) (f, e, ha)
  where
    some_cause : (x y : FileCause) → Some x ≡ Some y → x ≡ y
    some_cause x y g = cc
by_tests bytes s F f true false c ha hb hc e d h = subst (HasCause bytes s F) (some_cause bad_codec d h) (f, e, ha, hb)
  where
    some_cause : (x y : FileCause) → Some x ≡ Some y → x ≡ y
    some_cause x y g = cc
by_tests bytes s F f true true false ha hb hc e d h = subst (HasCause bytes s F) (some_cause bad_data d h) (f, e, ha, hb, λ R k. absurd (true≢false (sym (data_has_columns bytes f s F R k) ∙ hc)))
  where
    some_cause : (x y : FileCause) → Some x ≡ Some y → x ≡ y
    some_cause x y g = cc
by_tests bytes s F f true true true ha hb hc e d h = absurd (none_some d h)
  where
    none_some : (y : FileCause) → None ≡ Some y → ⊥
    none_some y g = cc

by_footer : (bytes : List ℕ) (s : Schema) (F : List Leaf) (o : Option Footer) → footer_of bytes ≡ o → (c : FileCause) → footer_cause bytes F o ≡ Some c → HasCause bytes s F c
by_footer bytes s F None e c h = subst (HasCause bytes s F) (some_cause bad_footer c h) e
  where
    some_cause : (x y : FileCause) → Some x ≡ Some y → x ≡ y
    some_cause x y g = cc
by_footer bytes s F (Some f) e c h = by_tests bytes s F f (has_leaves f F) (are_uncompressed f (leaves_read f F)) (has_columns bytes f F) refl refl refl e c h

pub known_cause_holds : KnownCauseHolds
known_cause_holds bytes s F c h = by_footer bytes s F (footer_of bytes) refl c h

-- ---- at most one cause

no_footer : (o : Option Footer) (f : Footer) → o ≡ None → o ≡ Some f → ⊥
no_footer o f e g = cc

one_footer : (o : Option Footer) (f g : Footer) → o ≡ Some f → o ≡ Some g → f ≡ g
one_footer o f g e h = cc

-- a test of the footer can't both hold and fail
both_tests : (t : Footer → Bool) (o : Option Footer) (f g : Footer) → o ≡ Some f → o ≡ Some g → t f ≡ true → t g ≡ false → ⊥
both_tests t o f g e h a b = true≢false (sym a ∙ (ap t (one_footer o f g e h) ∙ b))

pub one_cause : OneCause
one_cause bytes s F bad_footer bad_footer h k = refl
one_cause bytes s F bad_footer bad_schema h k = absurd (no_footer (footer_of bytes) k.0 h k.1)
one_cause bytes s F bad_footer bad_codec h k = absurd (no_footer (footer_of bytes) k.0 h k.1)
one_cause bytes s F bad_footer bad_data h k = absurd (no_footer (footer_of bytes) k.0 h k.1)
one_cause bytes s F bad_schema bad_footer h k = absurd (no_footer (footer_of bytes) h.0 k h.1)
one_cause bytes s F bad_schema bad_schema h k = refl
one_cause bytes s F bad_schema bad_codec h k = absurd (both_tests (λ f. has_leaves f F) (footer_of bytes) k.0 h.0 k.1 h.1 k.2 h.2)
one_cause bytes s F bad_schema bad_data h k = absurd (both_tests (λ f. has_leaves f F) (footer_of bytes) k.0 h.0 k.1 h.1 k.2 h.2)
one_cause bytes s F bad_codec bad_footer h k = absurd (no_footer (footer_of bytes) h.0 k h.1)
one_cause bytes s F bad_codec bad_schema h k = absurd (both_tests (λ f. has_leaves f F) (footer_of bytes) h.0 k.0 h.1 k.1 h.2 k.2)
one_cause bytes s F bad_codec bad_codec h k = refl
one_cause bytes s F bad_codec bad_data h k = absurd (both_tests (λ f. are_uncompressed f (leaves_read f F)) (footer_of bytes) k.0 h.0 k.1 h.1 k.3 h.3)
one_cause bytes s F bad_data bad_footer h k = absurd (no_footer (footer_of bytes) h.0 k h.1)
one_cause bytes s F bad_data bad_schema h k = absurd (both_tests (λ f. has_leaves f F) (footer_of bytes) h.0 k.0 h.1 k.1 h.2 k.2)
one_cause bytes s F bad_data bad_codec h k = absurd (both_tests (λ f. are_uncompressed f (leaves_read f F)) (footer_of bytes) h.0 k.0 h.1 k.1 h.3 k.3)
one_cause bytes s F bad_data bad_data h k = refl

pub file_has_no_cause : FileHasNoCause
file_has_no_cause bytes s F R bad_footer h k = no_footer (footer_of bytes) h.0 k h.1
file_has_no_cause bytes s F R bad_schema h k = both_tests (λ f. has_leaves f F) (footer_of bytes) h.0 k.0 h.1 k.1 h.2 k.2
file_has_no_cause bytes s F R bad_codec h k = both_tests (λ f. are_uncompressed f (leaves_read f F)) (footer_of bytes) h.0 k.0 h.1 k.1 h.3 k.3
file_has_no_cause bytes s F R bad_data h k = k.4 R (subst (λ f. IsDataOf bytes f s F R) (one_footer (footer_of bytes) h.0 k.0 h.1 k.1) h.4)

-- ---- what holds is known

known_data : (bytes : List ℕ) (F : List Leaf) (f : Footer) (b : Bool) → footer_of bytes ≡ Some f → has_leaves f F ≡ true → are_uncompressed f (leaves_read f F) ≡ true → has_columns bytes f F ≡ b → (known_cause bytes F ≡ Some bad_data) ⊎ ((bad_data ≡ bad_data) × (known_cause bytes F ≡ None))
known_data bytes F f true e h k g = inr (refl, rw (e, h, k, g) refl)
known_data bytes F f false e h k g = inl (rw (e, h, k, g) refl)

pub cause_is_known : CauseIsKnown
cause_is_known bytes s F bad_footer h = inl (rw h refl)
cause_is_known bytes s F bad_schema h = inl (rw (h.1, h.2) refl)
cause_is_known bytes s F bad_codec h = inl (rw (h.1, h.2, h.3) refl)
cause_is_known bytes s F bad_data h = known_data bytes F h.0 (has_columns bytes h.0 F) h.1 h.2 h.3 refl
