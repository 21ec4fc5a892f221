-- The lines of records, tablet by tablet.
use Rattle.std.proofs.Common.{◌≡◌, ℕ, ◌+◌, List, [], ◌∷◌, ◌++◌, map, refl, sym, ap, ◌∙◌, subst, append_assoc, append-nil}
use Rattle.std.specs.Prelude.{IsTrue}
use Rattle.std.proofs.lemmas.List.Concat.{flat_map-append}
use Rattle.std.proofs.lemmas.List.Folds.{flat_map-map}
use Rattle.dr_meaning.specs.Schema.{Schema, Fields}
use Rattle.dr_meaning.specs.Path.{Leaf, paths_of_leaves}
use Rattle.dr_meaning.specs.Record.{Node, project}
use Rattle.dr_meaning.specs.Print.{record_text}
use Rattle.dr_formats.specs.TableFile.{Table}
use Rattle.dr_outside.specs.Link.{LinkShown}
use Rattle.dr_reading.specs.Causes.{LeadTo}
use Rattle.dr_reading.specs.Scan.{Copy, copies_from, tablets_from, joined}
use Rattle.dr_reading.specs.Left.{LeftTablet}
use Rattle.dr_reading.specs.InTurn.{TabletRead, read_given, read_left, IsTabletRead, causes_at, left_from, records_in, ReadsInTurn}
use Rattle.dr_reading.proofs.InTurnLemmas.{reads_none, given_more, one_more_left, records_more}
use Rattle.dr_dump.specs.Dumps.{LeavesTablets}
use Rattle.dr_scan.proofs.TableLemmas.{next_read, as_many, is_some_left}
use Rattle.dr_dump.specs.Dumps.{lines_text, dump_text, AreLinesOf}
use Rattle.dr_dump.specs.Printed.{IsOfRead, IsPrintedAs, with_lines}
use Rattle.dr_dump.specs.declared.tablet_lines.TabletLines.{TabletLines}

-- the lines of projections are what a dump prints
pub dumped : (fs : Fields) (F : List Leaf) (R : List Node) → lines_text fs (map (project (paths_of_leaves F)) R) ≡ dump_text fs F R
dumped fs F R = flat_map-map (record_text fs) (project (paths_of_leaves F)) R

-- what was read of the tablets so far, of which just these are left; where none is, their lines were printed
pub record HasPrinted (s : Schema) (F : List Leaf) (l now : LinkShown) (ts : List (List Copy)) (those : List LeftTablet) (text : List ℕ) : Type 0 where
  pub reads : List TabletRead
  pub in_turn : ReadsInTurn s F l now ts reads
  pub leaves : left_from 0 reads ≡ those
  pub prints : those ≡ [] → text ≡ dump_text s.fields F (joined (records_in reads))

pub printed_nothing : (s : Schema) (F : List Leaf) (l : LinkShown) (text : List ℕ) → text ≡ [] → HasPrinted s F l l [] [] text
printed_nothing s F l text e = record { reads = []; in_turn = reads_none s F l; leaves = refl; prints = λ none. e }

joined_more : (Rs : List (List Node)) (R : List Node) → joined (Rs ++ R ∷ []) ≡ joined Rs ++ R
joined_more [] R = append-nil R
joined_more (S ∷ Rs) R = ap (λ (x : List Node). S ++ x) (joined_more Rs R) ∙ sym (append_assoc S (joined Rs) R)

text_more : (fs : Fields) (F : List Leaf) (rs : List TabletRead) (r : TabletRead) (R : List Node) → records_in (rs ++ r ∷ []) ≡ records_in rs ++ R ∷ [] → dump_text fs F (joined (records_in (rs ++ r ∷ []))) ≡ dump_text fs F (joined (records_in rs)) ++ dump_text fs F R
text_more fs F rs r R e =
    ap (λ (Rs : List (List Node)). dump_text fs F (joined Rs)) e
    ∙ (ap (dump_text fs F) (joined_more (records_in rs) R) ∙ flat_map-append (λ (n : Node). record_text fs (project (paths_of_leaves F) n)) (joined (records_in rs)) R)

-- one tablet more
pub step_printed : (s : Schema) (F : List Leaf) (l was now : LinkShown) (ds : List (List ℕ)) (k n : ℕ) (lines : TabletLines) (those more : List LeftTablet) (before middle after : List ℕ) → was.held ≡ l.held → (IsTrue l.is_steady → IsTrue was.is_steady)
    → HasPrinted s F l was (tablets_from ds k 0 n) those before → IsPrintedAs s F was now (copies_from ds n 0 k) before middle lines → more ≡ with_lines n lines those → (more ≡ [] → after ≡ middle)
    → HasPrinted s F l now (tablets_from ds k 0 (n + 1)) more after
step_printed s F l was now ds k n lines those more before middle after e w h g m stays = by lines g.0 g.1 g.2 g.3 m
  where
    by : (lines : TabletLines) (r : TabletRead) → IsTabletRead s F was (copies_from ds n 0 k) r → LeadTo was.faults (causes_at r) now.faults → IsOfRead s.fields F r before middle lines → more ≡ with_lines n lines those
        → HasPrinted s F l now (tablets_from ds k 0 (n + 1)) more after
    by TabletLines.Printed (read_given ts R) g c p m = record {
      reads = h.reads ++ read_given ts R ∷ [];
      in_turn = next_read s F l was now ds k n h.reads (read_given ts R) e w h.in_turn g c;
      leaves = given_more h.reads ts R ∙ h.leaves ∙ sym m;
      prints = λ none. stays none ∙ (p ∙ (ap (λ (x : List ℕ). x ++ dump_text s.fields F R) (h.prints (sym m ∙ none)) ∙ sym (text_more s.fields F h.reads (read_given ts R) R (records_more h.reads ts R))));
    }
    by TabletLines.Printed (read_left ts) g c p m = absurd p
    by (TabletLines.Left tried) (read_given ts R) g c p m = absurd p
    by (TabletLines.Left tried) (read_left ts) g c p m = record {
      reads = h.reads ++ read_left ts ∷ [];
      in_turn = next_read s F l was now ds k n h.reads (read_left ts) e w h.in_turn g c;
      leaves = one_more_left n h.reads ts (as_many s F l was ds k n h.reads h.in_turn) ∙ (ap (λ us. us ++ record { tablet = n; tried = ts } ∷ []) h.leaves ∙ (ap (λ us. those ++ record { tablet = n; tried = us } ∷ []) (sym p) ∙ sym m));
      prints = λ none. absurd (is_some_left those _ (sym m ∙ none));
    }

-- the text has the lines of the records that all tablets of a table give
pub all_lines : (t : Table) (F : List Leaf) (l now : LinkShown) (n : ℕ) (text : List ℕ) → n ≡ t.tablets → HasPrinted t.schema F l now (tablets_from t.leaves t.copies 0 n) [] text → AreLinesOf t F l now text
all_lines t F l now n text e h = (records_in h.reads, (h.reads, subst (λ (m : ℕ). ReadsInTurn t.schema F l now (tablets_from t.leaves t.copies 0 m) h.reads) e h.in_turn, h.leaves, refl), h.prints refl)

-- and of those that are left just these are
pub all_left : (t : Table) (F : List Leaf) (l now : LinkShown) (n : ℕ) (those : List LeftTablet) (text : List ℕ) → n ≡ t.tablets → (those ≡ [] → ⊥) → HasPrinted t.schema F l now (tablets_from t.leaves t.copies 0 n) those text → LeavesTablets t F those l now
all_left t F l now n those text e some h = (h.reads, subst (λ (m : ℕ). ReadsInTurn t.schema F l now (tablets_from t.leaves t.copies 0 m) h.reads) e h.in_turn, h.leaves, some)
