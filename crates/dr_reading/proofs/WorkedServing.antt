-- Pieces, outcomes and premises, by example: a table of one column, of which one file is held.
use Rattle.std.proofs.Common.{arith, lit≤}
use Rattle.std.specs.Prelude.{◌≡◌, ℕ, ◌+◌, ◌^◌, List, [], ◌∷◌, length, true, false, pos, Some, None, codes, refl}
use Rattle.std.proofs.Common.{inl, inr, sym, ap, subst, ◌∙◌, true≢false}
use Rattle.dr_meaning.specs.Record.{int_value, Node}
use Rattle.dr_meaning.specs.Expression.{path_value}
use Rattle.dr_meaning.specs.Query.{sum, count_rows, aggregate, GroupItem, GroupTerm, Query, groups, cell, no_entries, meaning}
use Rattle.dr_meaning.specs.QueryLeaves.{query_leaves}
use Rattle.dr_formats.specs.Page.{data_page_v1}
use Rattle.dr_formats.specs.Writing.{file_bytes}
use Rattle.dr_formats.proofs.WorkedFiles.{one_schema, one_record, one_file, one_file_is_written, one_file_fits}
use Rattle.dr_formats.proofs.FileBack.{written_file_is_file}
use Rattle.dr_formats.specs.File.{Footer, IsFileOf}
use Rattle.dr_outside.specs.Link.{LinkShown}
use Rattle.dr_partials.specs.Accumulators.{Accumulator, counted, summed}
use Rattle.dr_partials.specs.Partials.{Partial, lines, grouped, partial_of, Stands, merge, finished}
use Rattle.dr_partials.specs.PartialTypes.{is_partial}
use Rattle.dr_partials.specs.Trees.{of_fan}
use Rattle.dr_partials.specs.Rewriting.{leaf_query}
use Rattle.dr_reading.specs.Held.{Held, untold, absent, present, held_by_all, IsHeld}
use Rattle.dr_reading.specs.Scan.{Copy}
use Rattle.dr_reading.specs.Left.{AreTried, no_tablets, is_answered, is_left}
use Rattle.dr_reading.specs.Premises.{HoldsRecords}
use Rattle.dr_reading.proofs.WorkedCauses.{path_a, path_b, path_c, files, path_of_a, the_leaf, no_footer, copy, two_tablets, second}
use Rattle.dr_reading.specs.Truth.{TabletTruth, IsTrueOf}
use Rattle.dr_reading.specs.Outcome.{Serving, IsFinished, IsUnfinished}
use Rattle.dr_reading.specs.Pieces.{TabletPiece, copies_at, IsTrueAt, kept_partial}
use Rattle.dr_reading.specs.ServingPremises.{AllTell, ServesRecords, IsServable}
use Rattle.dr_reading.specs.ServingLaws.{HasEnoughLeaves}
use Rattle.dr_reading.proofs.ServingLemmas.{true_of_tablet_stands, finished_means_query}

-- ---- pieces

abbrev item : List ℕ → GroupTerm → GroupItem
item n t = record { name = n; term = t }

-- SELECT COUNT(*) AS n, SUM(a) AS s FROM T
abbrev totals : Query
totals = record { condition = None; selection = groups [] (item (codes "n") count_rows ∷ item (codes "s") (aggregate sum (path_value path_of_a)) ∷ []) }

abbrev one : List Node
one = one_record ∷ []

pub its_leaves : query_leaves one_schema.fields (leaf_query totals) ≡ the_leaf ∷ []
unfolding query_leaves leaf_query
its_leaves = refl

pub one_is_file : IsFileOf one_file one_schema (query_leaves one_schema.fields (leaf_query totals)) one
one_is_file = subst (λ bytes. IsFileOf bytes one_schema (query_leaves one_schema.fields (leaf_query totals)) one) one_file_is_written
    (subst (λ F. IsFileOf (file_bytes data_page_v1 one_schema one) one_schema F one) (sym its_leaves) (written_file_is_file data_page_v1 one_schema one (the_leaf ∷ []) one_file_fits ((0, refl), tt)))

abbrev truth_with : List Held → TabletTruth
truth_with hs = record { schema = one_schema; query = leaf_query totals; held = hs }

abbrev piece_of : List Accumulator → Partial
piece_of xs = grouped (record { keys = []; accumulators = xs } ∷ [])

-- of the one record
abbrev one_piece : Partial
one_piece = piece_of (counted 1 ∷ summed (Some (pos 1)) ∷ [])

one_piece_is_partial : is_partial one_schema.fields (leaf_query totals) one_piece ≡ true
unfolding is_partial leaf_query
one_piece_is_partial = refl

one_piece_stands : Stands one_schema.fields (leaf_query totals) one one_piece
unfolding Stands partial_of leaf_query
one_piece_stands = refl

-- true of a tablet of which some leaf holds the file
pub true_piece : (hs : List Held) → IsHeld one_file hs → IsTrueOf (truth_with hs) one_piece
true_piece hs h = record {
  partial = one_piece_is_partial;
  bounded = ((lit≤ tt, (lit≤ tt, tt)), tt);
  file = inl (record { bytes = one_file; held = h; records = one; file = one_is_file; stands = one_piece_stands });
}

enough_leaves : (hs : List Held) → HasEnoughLeaves (truth_with hs)
unfolding query_leaves leaf_query
enough_leaves hs = refl

one_partial : partial_of one_schema.fields (leaf_query totals) one ≡ one_piece
unfolding partial_of leaf_query
one_partial = refl

standing_is : (R : List Node) (p : Partial) → Stands one_schema.fields (leaf_query totals) R p → p ≡ partial_of one_schema.fields (leaf_query totals) R
unfolding Stands
standing_is R p h = h

abbrev first_count : List Accumulator → ℕ
first_count (counted n ∷ xs) = n
first_count _ = 0

abbrev count_in : Partial → ℕ
count_in (grouped (g ∷ gs)) = first_count g.accumulators
count_in _ = 0

same_count : (m n : ℕ) (xs ys : List Accumulator) → piece_of (counted m ∷ xs) ≡ piece_of (counted n ∷ ys) → m ≡ n
same_count m n xs ys h = ap count_in h

-- a piece that counts two isn't, where the file of one record is all that is held
pub wrong_piece : IsTrueOf (truth_with (absent ∷ present one_file ∷ [])) (piece_of (counted 2 ∷ summed (Some (pos 1)) ∷ [])) → ⊥
wrong_piece t =
    let e = standing_is one (piece_of (counted 2 ∷ summed (Some (pos 1)) ∷ []))
    (true_of_tablet_stands (truth_with (absent ∷ present one_file ∷ [])) one (piece_of (counted 2 ∷ summed (Some (pos 1)) ∷ [])) (enough_leaves (absent ∷ present one_file ∷ [])) (tt, (inl one_is_file, tt)) t) ∙ one_partial in
    let n = same_count 2 1 (summed (Some (pos 1)) ∷ []) (summed (Some (pos 1)) ∷ []) e in
    omega (arith, n)

-- where a link doesn't tell, any partial of the query may be
pub piece_of_untold : IsTrueOf (truth_with (present [] ∷ untold ∷ [])) (piece_of (counted 7 ∷ summed None ∷ []))
unfolding is_partial leaf_query
piece_of_untold = record { partial = refl; bounded = ((lit≤ tt, (tt, tt)), tt); file = inr (inr (inl refl)) }

-- but not one of another form, or of more than 2^40 values
pub no_partial : IsTrueOf (truth_with (untold ∷ [])) (lines []) → ⊥
unfolding is_partial leaf_query
no_partial t = true≢false (sym t.partial)

pub most_that_fit : IsTrueOf (truth_with (untold ∷ [])) (piece_of (counted (2 ^ 40) ∷ summed None ∷ []))
unfolding is_partial leaf_query
most_that_fit = record { partial = refl; bounded = ((lit≤ tt, (tt, tt)), tt); file = inr (inl refl) }

pub too_many_values : IsTrueOf (truth_with (untold ∷ [])) (piece_of (counted (2 ^ 40 + 1) ∷ summed None ∷ [])) → ⊥
too_many_values t = let n = t.bounded.0.0 in omega (arith, n)

-- ---- outcomes

-- by two links, of which the first had five faults
abbrev first_link : LinkShown
first_link = record { held = Some files; asked = None; puts = None; faults = 5; is_steady = false }

abbrev serving : List (List Copy) → Serving
serving tablets = record { schema = one_schema; query = totals; first_link = first_link; other_links = Some files ∷ []; tablets = tablets }

-- of two tablets the first has a piece, the second is left, where no byte and nothing are held
pub second_is_left : IsUnfinished (serving two_tablets) 6 (second ∷ [])
second_is_left = (
  λ h. cc,
  is_answered 0 (copy 0 path_b ∷ copy 1 path_a ∷ []) ((copy 1 path_b ∷ copy 0 path_c ∷ []) ∷ []) (second ∷ [])
      (one_piece, true_piece (held_by_all (Some files ∷ Some files ∷ []) (path_b ∷ path_a ∷ [])) (inr (inl refl)))
      (is_left 1 (copy 1 path_b ∷ copy 0 path_c ∷ []) [] [] second.tried second_tried (no_tablets 2)),
  (lit≤ tt, lit≤ tt, lit≤ tt),
)
  where
    second_tried : AreTried one_schema (query_leaves one_schema.fields (leaf_query totals)) first_link (copy 1 path_b ∷ copy 0 path_c ∷ []) second.tried
    second_tried = (refl, (no_footer, λ h k. refl), (refl, (lit≤ tt, λ h k. absurd (true≢false (sym h))), tt))

-- finished: a piece of each of two tablets of one record, gathered
abbrev both_held : List (List Copy)
both_held = (copy 0 path_b ∷ copy 1 path_a ∷ []) ∷ (copy 1 path_a ∷ []) ∷ []

abbrev of_two : Partial
of_two = piece_of (counted 2 ∷ summed (Some (pos 2)) ∷ [])

pub two_are_finished : IsFinished (serving both_held) (of_fan 2 2) of_two
unfolding of_fan merge
two_are_finished = (λ t. one_piece, refl, (true_piece (held_by_all (Some files ∷ Some files ∷ []) (path_b ∷ path_a ∷ [])) (inr (inl refl)), (true_piece (held_by_all (Some files ∷ Some files ∷ []) (path_a ∷ [])) (inl refl), tt)), refl)

-- ---- kept pieces

abbrev kept : List TabletPiece
kept = record { tablet = 4; partial = one_piece } ∷ record { tablet = 2; partial = of_two } ∷ []

pub kept_of_tablets : (kept_partial kept 2 ≡ of_two) × (kept_partial kept 4 ≡ one_piece) × (kept_partial kept 0 ≡ lines [])
kept_of_tablets = (refl, refl, refl)

pub copies_of_tablets : (copies_at two_tablets 1 ≡ copy 1 path_b ∷ copy 0 path_c ∷ []) × (copies_at two_tablets 0 ≡ copy 0 path_b ∷ copy 1 path_a ∷ []) × (copies_at two_tablets 2 ≡ [])
copies_of_tablets = (refl, refl, refl)

-- the piece of one record is true of the first of the two tablets
pub true_at_first : IsTrueAt (serving two_tablets) 0 (record { tablet = 0; partial = one_piece })
true_at_first = true_piece (held_by_all (Some files ∷ Some files ∷ []) (path_b ∷ path_a ∷ [])) (inr (inl refl))

-- ---- premises

no_file : (S : List Node) → IsFileOf [] one_schema (query_leaves one_schema.fields (leaf_query totals)) S → ⊥
no_file S h = let e = sym no_footer ∙ h.1 in cc

pub held_as_said : HoldsRecords one_schema (query_leaves one_schema.fields (leaf_query totals)) one (present one_file) × HoldsRecords one_schema (query_leaves one_schema.fields (leaf_query totals)) one (present [])
    × HoldsRecords one_schema (query_leaves one_schema.fields (leaf_query totals)) one absent × (HoldsRecords one_schema (query_leaves one_schema.fields (leaf_query totals)) one untold → ⊥)
held_as_said = (inl one_is_file, inr no_file, tt, λ h. h)

-- not where the file is one of other records
pub of_others : HoldsRecords one_schema (query_leaves one_schema.fields (leaf_query totals)) [] (present one_file) → ⊥
of_others (inl h) = let n = same_rows [] one h one_is_file in omega (arith, n)
  where
    same_rows : (R S : List Node) → IsFileOf one_file one_schema (query_leaves one_schema.fields (leaf_query totals)) R → IsFileOf one_file one_schema (query_leaves one_schema.fields (leaf_query totals)) S → length R ≡ length S
    same_rows R S a b = let e : a.0 ≡ b.0 = (let f = sym a.1 ∙ b.1 in cc) in a.4.2 ∙ (ap (λ (f : Footer). f.meta.rows) e ∙ sym b.4.2)
of_others (inr h) = h one one_is_file

pub links_tell : AllTell files (Some files ∷ Some files ∷ []) × (AllTell files (None ∷ []) → ⊥) × (AllTell files (Some (λ path. None) ∷ []) → ⊥)
links_tell = ((λ path. refl, (λ path. refl, tt)), λ h. h.0, λ h. let e = h.0 path_a in cc)

serves : ServesRecords (serving both_held) (λ t. one)
serves = record {
  files = files;
  told = (λ path. refl, (λ path. refl, tt));
  held = ((inr no_file, (inl one_is_file, tt)), ((inl one_is_file, tt), tt));
}

pub servable : IsServable (serving both_held)
unfolding query_leaves leaf_query
servable = record { enough = refl; mergeable = refl }

-- so the finished piece, finished, is what the query means on both tablets' records
pub two_mean_query : finished totals of_two ≡ meaning one_schema.fields totals (one_record ∷ one_record ∷ [])
two_mean_query = (finished_means_query (serving both_held) (λ t. one) (of_fan 2 2) of_two servable serves two_are_finished).1

pub two_as_rows : finished totals of_two ≡ cell (codes "n") (Some (int_value (pos 2))) (cell (codes "s") (Some (int_value (pos 2))) no_entries) ∷ []
unfolding finished
two_as_rows = refl
