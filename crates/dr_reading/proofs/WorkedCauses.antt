-- What links hold, causes, rises and tablets that are left, by example: a table of one column, of which one file is held.
use Rattle.std.proofs.Common.{arith, lit≤, inl, inr, sym, subst, ◌∙◌, true≢false}
use Rattle.std.specs.Prelude.{◌≡◌, ℕ, ◌-◌, ◌^◌, List, [], ◌∷◌, Bool, true, false, Some, None, codes, refl, bytes_eq, if◌then◌else◌}
use Rattle.dr_meaning.specs.Path.{Step, Leaf}
use Rattle.dr_meaning.specs.Schema.{required, int64_kind}
use Rattle.dr_formats.specs.Page.{data_page_v1}
use Rattle.dr_formats.specs.File.{IsFileOf, footer_of, FileCause, bad_footer, bad_schema, bad_codec, bad_data, HasCause}
use Rattle.dr_formats.proofs.FileLemmas.{one_cause, file_has_no_cause}
use Rattle.dr_formats.proofs.WorkedDamaged.{changed, double_type, other_codec, file_rows_disagree}
use Rattle.dr_formats.proofs.WorkedFiles.{one_schema, one_record, one_file, one_file_is_written, one_file_fits}
use Rattle.dr_formats.proofs.FileBack.{written_file_is_file}
use Rattle.dr_outside.specs.Link.{Files, LinkShown}
use Rattle.dr_outside.specs.declared.cause.Cause.{Cause}
use Rattle.dr_outside.specs.declared.cause.Cause.TheVariants.{ReadFailed, BadFooter, BadSchema, BadCodec, BadData}
use Rattle.dr_reading.specs.Held.{Held, untold, absent, present, held_at, held_by_all, IsHeld, IsUntold}
use Rattle.dr_reading.specs.Causes.{IsJustified, RisesApart, LeadTo}
use Rattle.dr_reading.specs.Scan.{Copy}
use Rattle.dr_reading.specs.Given.{SomeIsFile}
use Rattle.dr_reading.specs.Left.{Tried, LeftTablet, AreTried, LeavesJust, no_tablets, is_answered, is_left}
use Rattle.dr_reading.specs.InTurn.{TabletRead, read_given, read_left, FirstGives, AreRead, causes_in, left_from, records_in, ReadsInTurn}
use Rattle.dr_meaning.specs.Record.{Node}

-- ---- what is held

abbrev pub path_a : List ℕ
path_a = codes "a"

abbrev pub path_b : List ℕ
path_b = codes "b"

abbrev pub path_c : List ℕ
path_c = codes "c"

-- a file at a, no byte at b, nothing at c
abbrev pub files : Files
files path = if bytes_eq path path_a then Some one_file else (if bytes_eq path path_b then Some [] else None)

pub held_alone : (held_at None path_a ≡ untold) × (held_at (Some files) path_a ≡ present one_file) × (held_at (Some files) path_b ≡ present []) × (held_at (Some files) path_c ≡ absent)
held_alone = (refl, refl, refl, refl)

-- by links, each at its paths, in order
pub held_by_two : held_by_all (Some files ∷ None ∷ []) (path_c ∷ path_a ∷ []) ≡ absent ∷ present one_file ∷ untold ∷ untold ∷ []
held_by_two = refl

pub held_there : IsHeld one_file (absent ∷ present one_file ∷ []) × (IsHeld one_file (absent ∷ untold ∷ present [] ∷ []) → ⊥)
held_there = (inr (inl refl), not_there)
  where
    not_there : IsHeld one_file (absent ∷ untold ∷ present [] ∷ []) → ⊥
    not_there (inl h) = cc
    not_there (inr (inl h)) = cc
    not_there (inr (inr (inl h))) = cc
    not_there (inr (inr (inr h))) = h

pub untold_there : IsUntold (absent ∷ untold ∷ []) × (IsUntold (absent ∷ present [] ∷ []) → ⊥)
untold_there = (inr (inl refl), none)
  where
    none : IsUntold (absent ∷ present [] ∷ []) → ⊥
    none (inl h) = cc
    none (inr (inl h)) = cc
    none (inr (inr h)) = h

-- ---- causes

abbrev pub path_of_a : List Step
path_of_a = record { place = 0; repetition = required } ∷ []

abbrev pub the_leaf : Leaf
the_leaf = record { names = codes "a" ∷ []; path = path_of_a; kind = int64_kind }

pub no_footer : footer_of [] ≡ None
unfolding footer_of
no_footer = refl

abbrev justified : Held → Cause → Type 0
justified h c = IsJustified one_schema (the_leaf ∷ []) h c

-- no byte has no footer; where nothing is held there are no bytes with a cause; where a link doesn't tell nothing is known
pub footers : justified (present []) BadFooter × (justified absent BadFooter → ⊥) × justified untold BadFooter × (justified (present []) BadSchema → ⊥)
footers = (no_footer, λ h. h, tt, λ h. let e = sym no_footer ∙ h.1 in cc)

-- one cause of bytes isn't another
pub nor_others : (justified (present []) BadCodec → ⊥) × (justified (present []) BadData → ⊥)
nor_others = (λ h. let e = sym no_footer ∙ h.1 in cc, λ h. let e = sym no_footer ∙ h.1 in cc)

-- a column of another type, another codec, other numbers of rows: each has its own cause, and no other
other_cause : (bytes : List ℕ) (c d : FileCause) → HasCause bytes one_schema (the_leaf ∷ []) c → (c ≡ d → ⊥) → HasCause bytes one_schema (the_leaf ∷ []) d → ⊥
other_cause bytes c d h n k = n (one_cause bytes one_schema (the_leaf ∷ []) c d h k)

abbrev of_other_type : List ℕ
of_other_type = changed 40 10 one_file

abbrev of_other_codec : List ℕ
of_other_codec = changed 67 2 one_file

abbrev of_other_rows : List ℕ
of_other_rows = changed 48 4 one_file

pub type_cause : justified (present of_other_type) BadSchema × (justified (present of_other_type) BadFooter → ⊥) × (justified (present of_other_type) BadCodec → ⊥) × (justified (present of_other_type) BadData → ⊥)
type_cause = (double_type, other_cause of_other_type bad_schema bad_footer double_type (λ h. cc), other_cause of_other_type bad_schema bad_codec double_type (λ h. cc), other_cause of_other_type bad_schema bad_data double_type (λ h. cc))

pub codec_cause : justified (present of_other_codec) BadCodec × (justified (present of_other_codec) BadFooter → ⊥) × (justified (present of_other_codec) BadSchema → ⊥) × (justified (present of_other_codec) BadData → ⊥)
codec_cause = (other_codec, other_cause of_other_codec bad_codec bad_footer other_codec (λ h. cc), other_cause of_other_codec bad_codec bad_schema other_codec (λ h. cc), other_cause of_other_codec bad_codec bad_data other_codec (λ h. cc))

pub data_cause : justified (present of_other_rows) BadData × (justified (present of_other_rows) BadFooter → ⊥) × (justified (present of_other_rows) BadSchema → ⊥) × (justified (present of_other_rows) BadCodec → ⊥)
data_cause = (file_rows_disagree, other_cause of_other_rows bad_data bad_footer file_rows_disagree (λ h. cc), other_cause of_other_rows bad_data bad_schema file_rows_disagree (λ h. cc), other_cause of_other_rows bad_data bad_codec file_rows_disagree (λ h. cc))

-- nothing is known where the link doesn't tell, and nothing that is absent has a cause
pub untold_causes : justified untold BadSchema × justified untold BadCodec × justified untold BadData × (justified absent BadSchema → ⊥) × (justified absent BadCodec → ⊥) × (justified absent BadData → ⊥)
untold_causes = (tt, tt, tt, λ h. h, λ h. h, λ h. h)

-- a failed read raised the count, or the count stands at its last value
pub reads : justified absent (ReadFailed 3 4) × justified (present one_file) (ReadFailed 3 4) × (justified absent (ReadFailed 3 3) → ⊥) × justified absent (ReadFailed (2 ^ 64 - 1) (2 ^ 64 - 1))
reads = (lit≤ tt, lit≤ tt, λ h. omega (arith, h), lit≤ tt)

-- each copy in its directory with a cause of its own: none is missing, and none is told of another directory
abbrev pub copy : ℕ → List ℕ → Copy
copy d path = record { directory = d; path = path }

abbrev tried : ℕ → Cause → Tried
tried d c = record { directory = d; cause = c }

-- a link that holds these files, and whether it is steady
abbrev shown : Bool → LinkShown
shown steady = record { held = Some files; asked = None; puts = None; faults = 1; is_steady = steady }

abbrev are_tried : Bool → List Tried → Type 0
are_tried steady ts = AreTried one_schema (the_leaf ∷ []) (shown steady) (copy 3 path_b ∷ copy 0 path_c ∷ []) ts

pub for_each_copy : are_tried false (tried 3 BadFooter ∷ tried 0 (ReadFailed 0 1) ∷ []) × (are_tried false (tried 3 BadFooter ∷ []) → ⊥)
    × (are_tried false (tried 3 BadFooter ∷ tried 0 (ReadFailed 0 1) ∷ tried 0 (ReadFailed 1 2) ∷ []) → ⊥)
    × (are_tried false (tried 0 BadFooter ∷ tried 0 (ReadFailed 0 1) ∷ []) → ⊥) × (are_tried false (tried 3 BadFooter ∷ tried 0 BadFooter ∷ []) → ⊥)
for_each_copy = (
  (refl, (no_footer, λ h k. refl), (refl, (lit≤ tt, λ h k. absurd (true≢false (sym h))), tt)),
  λ h. h.2,
  λ h. h.2.2,
  λ h. let e = h.0 in cc,
  λ h. h.2.1.0,
)

-- a steady link fails only where nothing is held
pub steady_reads : are_tried true (tried 3 BadFooter ∷ tried 0 (ReadFailed 0 1) ∷ []) × (are_tried true (tried 3 (ReadFailed 0 1) ∷ tried 0 (ReadFailed 0 1) ∷ []) → ⊥)
steady_reads = (
  (refl, (no_footer, λ h k. refl), (refl, (lit≤ tt, λ h k. let e = k in cc), tt)),
  λ h. true≢false (h.1.1 refl refl),
)

-- two failed reads have two rises
pub rises : RisesApart 3 (ReadFailed 3 4 ∷ BadFooter ∷ ReadFailed 4 6 ∷ []) 6 × (RisesApart 3 (ReadFailed 3 4 ∷ ReadFailed 3 4 ∷ []) 9 → ⊥) × (RisesApart 3 (ReadFailed 2 4 ∷ []) 9 → ⊥) × (RisesApart 3 (ReadFailed 3 4 ∷ []) 3 → ⊥)
    × RisesApart 3 (BadSchema ∷ BadCodec ∷ BadData ∷ []) 3 × (RisesApart 3 [] 2 → ⊥) × (RisesApart 3 (ReadFailed 3 3 ∷ []) 9 → ⊥)
rises = (
  (lit≤ tt, lit≤ tt, (lit≤ tt, lit≤ tt, lit≤ tt)),
  λ h. let k = h.2.0 in omega (arith, k),
  λ h. let k = h.0 in omega (arith, k),
  λ h. let k = h.2 in omega (arith, k),
  lit≤ tt,
  λ h. omega (arith, h),
  λ h. let k = h.1 in omega (arith, k),
)

-- ---- tablets that are left

-- tablet 0 at b and at a, tablet 1 at b and at c: the first gives its record, the second is left, where no byte and nothing are held
abbrev pub two_tablets : List (List Copy)
two_tablets = (copy 0 path_b ∷ copy 1 path_a ∷ []) ∷ (copy 1 path_b ∷ copy 0 path_c ∷ []) ∷ []

abbrev pub second : LeftTablet
second = record { tablet = 1; tried = tried 1 BadFooter ∷ tried 0 (ReadFailed 5 6) ∷ [] }

pub second_is_tried : AreTried one_schema (the_leaf ∷ []) (shown false) (copy 1 path_b ∷ copy 0 path_c ∷ []) second.tried
second_is_tried = (refl, (no_footer, λ h k. refl), (refl, (lit≤ tt, λ h k. absurd (true≢false (sym h))), tt))

pub one_is_file : IsFileOf one_file one_schema (the_leaf ∷ []) (one_record ∷ [])
one_is_file = subst (λ bytes. IsFileOf bytes one_schema (the_leaf ∷ []) (one_record ∷ [])) one_file_is_written
    (written_file_is_file data_page_v1 one_schema (one_record ∷ []) (the_leaf ∷ []) one_file_fits ((0, refl), tt))

pub second_is_left : LeavesJust one_schema (the_leaf ∷ []) (shown false) 0 two_tablets (second ∷ [])
second_is_left =
    is_answered 0 (copy 0 path_b ∷ copy 1 path_a ∷ []) ((copy 1 path_b ∷ copy 0 path_c ∷ []) ∷ []) (second ∷ []) (one_record ∷ [], inr (inl one_is_file))
    (is_left 1 (copy 1 path_b ∷ copy 0 path_c ∷ []) [] [] second.tried second_is_tried (no_tablets 2))

-- neither is the first left, whose copy is a file, nor is none left
pub first_isnt_left : LeavesJust one_schema (the_leaf ∷ []) (shown false) 0 ((copy 1 path_a ∷ []) ∷ []) (record { tablet = 0; tried = tried 1 BadFooter ∷ [] } ∷ []) → ⊥
first_isnt_left (is_answered t cs rest left g k) = elim k [ ]
first_isnt_left (is_left t cs rest left ts h k) = file_has_no_cause one_file one_schema (the_leaf ∷ []) (one_record ∷ []) bad_footer one_is_file h.1.0

pub some_is_left : LeavesJust one_schema (the_leaf ∷ []) (shown false) 0 ((copy 1 path_c ∷ []) ∷ []) [] → ⊥
some_is_left (is_answered t cs rest left g k) = none_there g.1
  where
    none_there : SomeIsFile one_schema (the_leaf ∷ []) files (copy 1 path_c ∷ []) g.0 → ⊥
    none_there (inl h) = h
    none_there (inr h) = h

-- ---- one link reads them in turn

-- each failed read leads to the next number, and no other cause anywhere
pub counts : LeadTo 3 (ReadFailed 3 4 ∷ BadFooter ∷ ReadFailed 4 5 ∷ []) 5 × LeadTo 3 (BadFooter ∷ BadSchema ∷ BadCodec ∷ BadData ∷ []) 3 × LeadTo 3 [] 3 × LeadTo (2 ^ 64 - 1) (ReadFailed (2 ^ 64 - 1) (2 ^ 64 - 1) ∷ []) (2 ^ 64 - 1)
counts = ((refl, refl, (refl, refl, refl)), refl, refl, (refl, refl, refl))

pub other_counts : (LeadTo 3 [] 4 → ⊥) × (LeadTo 3 (ReadFailed 3 4 ∷ []) 3 → ⊥) × (LeadTo 3 (ReadFailed 3 4 ∷ []) 5 → ⊥) × (LeadTo 3 (ReadFailed 3 5 ∷ []) 5 → ⊥) × (LeadTo 3 (ReadFailed 4 5 ∷ []) 5 → ⊥)
    × (LeadTo 3 (ReadFailed 3 4 ∷ ReadFailed 3 4 ∷ []) 4 → ⊥) × (LeadTo 3 (BadFooter ∷ []) 4 → ⊥) × (LeadTo 3 (BadSchema ∷ []) 4 → ⊥) × (LeadTo 3 (BadCodec ∷ []) 4 → ⊥) × (LeadTo 3 (BadData ∷ []) 4 → ⊥)
other_counts = (λ h. cc, λ h. let e = h.2 in cc, λ h. let e = h.2 in cc, λ h. let e = h.1 in cc, λ h. let e = h.0 in cc, λ h. let e = h.2.0 in cc, λ h. cc, λ h. cc, λ h. cc, λ h. cc)

-- the second copy of tablet 0 gives its record, behind the first, where no byte is held: not the first one, and none where the first isn't told
abbrev gives : List Copy → List Tried → List Node → Type 0
gives cs ts R = FirstGives one_schema (the_leaf ∷ []) (shown false) cs ts R

pub second_copy_gives : gives (copy 0 path_b ∷ copy 1 path_a ∷ []) (tried 0 BadFooter ∷ []) (one_record ∷ [])
second_copy_gives = (refl, (no_footer, λ h k. refl), inl one_is_file)

pub first_copy_gives : gives (copy 1 path_a ∷ copy 0 path_b ∷ []) [] (one_record ∷ [])
first_copy_gives = inl one_is_file

pub others_give_nothing : (gives (copy 0 path_b ∷ copy 1 path_a ∷ []) [] (one_record ∷ []) → ⊥) × (gives (copy 0 path_b ∷ copy 1 path_a ∷ []) (tried 1 BadFooter ∷ []) (one_record ∷ []) → ⊥)
    × (gives (copy 0 path_b ∷ copy 1 path_a ∷ []) (tried 0 BadFooter ∷ tried 1 BadFooter ∷ []) (one_record ∷ []) → ⊥) × (gives [] [] [] → ⊥)
others_give_nothing = (λ h. not_b h, λ h. let e = h.0 in cc, λ h. h.2.2, λ h. h)
  where
    not_b : (gives (copy 0 path_b ∷ copy 1 path_a ∷ []) [] (one_record ∷ [])) → ⊥
    not_b (inl h) = let e = sym no_footer ∙ h.1 in cc
    not_b (inr h) = h

-- what was read of three tablets: what is left by its number, the records of the others, and all causes, also of what was tried before a copy gave
abbrev three : List TabletRead
three = read_given (tried 0 BadFooter ∷ tried 1 (ReadFailed 0 1) ∷ []) (one_record ∷ one_record ∷ []) ∷ read_left (tried 2 BadData ∷ tried 0 (ReadFailed 1 2) ∷ []) ∷ read_given [] [] ∷ read_left (tried 1 BadCodec ∷ []) ∷ []

pub parts_of_three : (left_from 0 three ≡ record { tablet = 1; tried = tried 2 BadData ∷ tried 0 (ReadFailed 1 2) ∷ [] } ∷ record { tablet = 3; tried = tried 1 BadCodec ∷ [] } ∷ [])
    × (records_in three ≡ (one_record ∷ one_record ∷ []) ∷ [] ∷ []) × (causes_in three ≡ BadFooter ∷ ReadFailed 0 1 ∷ BadData ∷ ReadFailed 1 2 ∷ BadCodec ∷ [])
parts_of_three = (refl, refl, refl)

-- the two tablets, from a count of 1 to one of 2
abbrev at_count : ℕ → LinkShown
at_count n = record { held = Some files; asked = None; puts = None; faults = n; is_steady = false }

abbrev two_reads : List TabletRead
two_reads = read_given (tried 0 BadFooter ∷ []) (one_record ∷ []) ∷ read_left (tried 1 BadFooter ∷ tried 0 (ReadFailed 1 2) ∷ []) ∷ []

pub two_are_read : ReadsInTurn one_schema (the_leaf ∷ []) (at_count 1) (at_count 2) two_tablets two_reads
two_are_read = record {
  each = ((refl, (no_footer, λ h k. refl), inl one_is_file), ((refl, (no_footer, λ h k. refl), (refl, (lit≤ tt, λ h k. absurd (true≢false (sym h))), tt)), tt));
  counts = (refl, refl, refl);
}

pub not_all_are_read : (AreRead one_schema (the_leaf ∷ []) (at_count 1) two_tablets (read_left (tried 1 BadFooter ∷ []) ∷ []) → ⊥) × (AreRead one_schema (the_leaf ∷ []) (at_count 1) [] two_reads → ⊥)
not_all_are_read = (λ h. h.1, λ h. h)
