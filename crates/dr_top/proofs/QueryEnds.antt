-- The answer of `query`, from its steps.
use Rattle.std.specs.Prelude.{◌≡◌, ◌<◌, ◌*◌, ◌-◌, ℕ, zero, suc, List, [], ◌∷◌, length, map, take, Option, Result, Ok, Err}
use Rattle.std.proofs.Common.{refl, sym, ap, ◌∙◌, subst, arith}
use Rattle.dr_meaning.specs.Path.{Leaf}
use Rattle.dr_sub_meaning.specs.Nested.{NestedQuery, query_leaves}
use Rattle.dr_sub_meaning.specs.NestedAsk.{read_nested}
use Rattle.dr_meaning.specs.Refusals.{QueryRefusal}
use Rattle.dr_formats.specs.TableFile.{Table, TableFault, parse_table}
use Rattle.dr_outside.specs.Link.{LinkShown}
use Rattle.dr_reading.specs.InTurn.{TabletRead}
use Rattle.dr_reading.specs.Scan.{tablets_from, tablets_of}
use Rattle.dr_reading.specs.Left.{LeftTablet}
use Rattle.dr_scan.specs.Asked.{AsksForTablets}
use Rattle.dr_serve.specs.Links.{OfEachLink}
use Rattle.dr_serve.specs.Serving.{IsShare, first_shown}
use Rattle.dr_serve.specs.Counted.{AreLeftOf}
use Rattle.dr_serve.specs.Rounds.{Rounds, OfEachFrom, IsRoundAt}
use Rattle.dr_serve.proofs.FinishLemmas.{count_of}
use Rattle.dr_serve.specs.Answers.{IsAnswerBut}
use Rattle.dr_sub.specs.Texts.{IsRefusedAs, refusal_of}
use Rattle.dr_sub.specs.declared.refusal.TextFault.{TextFault}
use Rattle.dr_commands.specs.Meaning.{Look, Outcome, serves, puts_in}
use Rattle.dr_commands.specs.Query.{QueryWords, query_meaning, query_scan, query_table, query_read}
use Rattle.dr_top.specs.World.{outcome_on, WithEach}
use Rattle.dr_top.specs.Reading.{HasText, AreReadAfter, IsClosed, IsLeftWith, HasMost}
use Rattle.dr_top.specs.Answers.{AsksLink}
use Rattle.dr_top.specs.Stops.{StopsEarly, query_stop}
use Rattle.dr_top.proofs.CommandLemmas.{RefusesTable}
use Rattle.dr_top.proofs.LinkLemmas.{serving_asks}

pub query_refuses_table : (w : QueryWords) → RefusesTable (query_meaning w)
query_refuses_table w look e h = ap (query_table w.serving.workers w.least w.query) h

-- ---- the outcome

-- with a table, the outcome is that of the query that is read
by_query : (w : QueryWords) (file text : List ℕ) (t : Table) (r : Result NestedQuery QueryRefusal) → text ≡ w.query → parse_table file ≡ Ok t → read_nested t.schema text ≡ r
    → query_table w.serving.workers w.least w.query (parse_table file) ≡ query_read w.serving.workers w.least t r
by_query w file text t r q f e =
    ap (query_table w.serving.workers w.least w.query) f ∙ ap (query_read w.serving.workers w.least t) (ap (read_nested t.schema) (sym q) ∙ e)

pub query_read_early : (w : QueryWords) (file text : List ℕ) (t : Table) (fault : TextFault) → text ≡ w.query → parse_table file ≡ Ok t → IsRefusedAs (read_nested t.schema text) fault → StopsEarly (outcome_on (query_meaning w) file) (query_stop fault)
query_read_early w file text t TextFault.NoMemory q f h = tt
query_read_early w file text t (TextFault.Refused n x) q f h = λ input. by_query w file text t (Err (refusal_of n x)) q f h

-- what the first so many links show
taken : {A : Type 0} (shows : A → LinkShown) (n : ℕ) (ls : List A) → map shows (take n ls) ≡ take n (map shows ls)
taken shows zero ls = refl
taken shows (suc n) [] = refl
taken shows (suc n) (l ∷ ls) = ap (λ ks. shows l ∷ ks) (taken shows n ls)

taken_so : {A : Type 0} (shows : A → LinkShown) (n m : ℕ) (ls : List A) → m ≡ n → map shows (take m ls) ≡ take n (map shows ls)
taken_so shows n m ls e = ap (λ k. map shows (take k ls)) e ∙ taken shows n ls

-- how many tablets are left or not, of all
short_of : (t : Table) (least n : ℕ) → 100 * (t.tablets - n) < least * t.tablets → 100 * (length (tablets_of t) - n) < least * length (tablets_of t)
short_of t least n h = subst (λ (all : ℕ). 100 * (all - n) < least * all) (sym (count_of t)) h

share_of : (t : Table) (least n : ℕ) → IsShare least (t.tablets - n) t.tablets → IsShare least (length (tablets_of t) - n) (length (tablets_of t))
share_of t least n h = subst (λ (all : ℕ). IsShare least (all - n) all) (sym (count_of t)) h

-- what the closing round read, tablet by tablet
each_read : (t : Table) (F : List Leaf) (link : LinkShown) (k n : ℕ) (reads : List (Option TabletRead)) → length reads ≡ n → OfEachFrom (IsRoundAt t F link) k reads
    → AreReadAfter t.schema F link (tablets_from t.leaves t.copies k n) reads
each_read t F link k zero [] e h = tt
each_read t F link k zero (r ∷ rs) e h = absurd (omega (arith, e))
each_read t F link k (suc n) [] e h = absurd (omega (arith, e))
each_read t F link k (suc n) (r ∷ rs) e h = (h.0, each_read t F link (suc k) n rs (omega (arith, e)) h.1)

closed_of : (t : Table) (q : NestedQuery) (before now : LinkShown) (left : List LeftTablet) → Rounds t (query_leaves t.schema.fields q) before now left → IsClosed (query_scan t q) before now left
closed_of t q before now left h = record {
  middle = h.middle;
  same = h.same;
  never_falls = h.never_falls;
  stays_steady = h.stays_steady;
  reads = h.read.reads;
  each = each_read t (query_leaves t.schema.fields q) h.middle 0 t.tablets h.read.reads h.read.count h.read.each;
  counts = h.read.counts;
  left_are = h.read.left_are;
}

module _ {A : Type 0} (w : QueryWords) (shows : A → LinkShown) (ls : List A) (n : ℕ) (file text : List ℕ) (t : Table) (q : NestedQuery) (e : text ≡ w.query) (m : n ≡ w.serving.workers) (f : parse_table file ≡ Ok t) (r : read_nested t.schema text ≡ Ok q) where
  by : (P : Outcome → Type 0) → P (serves (query_scan t q) w.serving.workers w.least) → P (outcome_on (query_meaning w) file [])
  by P h = subst P (sym (by_query w file text t (Ok q) e f r)) h

  pub query_text_ends : (ks : List LinkShown) (out : List ℕ) → IsAnswerBut t q (map shows (take n ls)) [] out → HasText (outcome_on (query_meaning w) file []) (map shows ls) ks out
  query_text_ends ks out h = by (λ o. HasText o (map shows ls) ks out) (subst (λ (us : List LinkShown). IsAnswerBut t q us [] out) (taken_so shows w.serving.workers n ls m) h)

  are_left : (ks : List LinkShown) (left : List LeftTablet) → AreLeftOf t.schema (query_leaves t.schema.fields q) (tablets_of t) (map shows (take n ls)) (first_shown ks).faults left
      → AreLeftOf t.schema (query_leaves t.schema.fields q) (tablets_of t) (take w.serving.workers (map shows ls)) (first_shown ks).faults left
  are_left ks left h = subst (λ (us : List LinkShown). AreLeftOf t.schema (query_leaves t.schema.fields q) (tablets_of t) us (first_shown ks).faults left) (taken_so shows w.serving.workers n ls m) h

  closes : (ks : List LinkShown) (left : List LeftTablet) → Rounds t (query_leaves t.schema.fields q) (first_shown (map shows (take n ls))) (first_shown ks) left
      → IsClosed (query_scan t q) (first_shown (take w.serving.workers (map shows ls))) (first_shown ks) left
  closes ks left h = subst (λ (us : List LinkShown). IsClosed (query_scan t q) (first_shown us) (first_shown ks) left) (taken_so shows w.serving.workers n ls m)
      (closed_of t q (first_shown (map shows (take n ls))) (first_shown ks) left h)

  pub query_left : (ks : List LinkShown) (least : ℕ) (left : List LeftTablet) → least ≡ w.least → AreLeftOf t.schema (query_leaves t.schema.fields q) (tablets_of t) (map shows (take n ls)) (first_shown ks).faults left
      → 100 * (t.tablets - length left) < least * t.tablets → Rounds t (query_leaves t.schema.fields q) (first_shown (map shows (take n ls))) (first_shown ks) left → IsLeftWith (outcome_on (query_meaning w) file []) (map shows ls) ks left
  query_left ks least left share h few round =
      by (λ o. IsLeftWith o (map shows ls) ks left)
      (are_left ks left h, short_of t w.least (length left) (subst (λ (share : ℕ). 100 * (t.tablets - length left) < share * t.tablets) share few), closes ks left round)

  pub query_most : (ks : List LinkShown) (least : ℕ) (out : List ℕ) (left : List LeftTablet) → least ≡ w.least → AreLeftOf t.schema (query_leaves t.schema.fields q) (tablets_of t) (map shows (take n ls)) (first_shown ks).faults left
      → IsShare least (t.tablets - length left) t.tablets → IsAnswerBut t q (map shows (take n ls)) left out
      → Rounds t (query_leaves t.schema.fields q) (first_shown (map shows (take n ls))) (first_shown ks) left → HasMost (outcome_on (query_meaning w) file []) (map shows ls) ks left out
  query_most ks least out left share h enough answer round =
      by (λ o. HasMost o (map shows ls) ks left out) (
        are_left ks left h,
        share_of t w.least (length left) (subst (λ (share : ℕ). IsShare share (t.tablets - length left) t.tablets) share enough),
        subst (λ (us : List LinkShown). IsAnswerBut t q us left out) (taken_so shows w.serving.workers n ls m) answer,
        closes ks left round,
      )

  pub query_asks : (news : List A) → length news ≡ length ls → OfEachLink shows (AsksForTablets (query_leaves t.schema.fields q) (tablets_of t)) ls news
      → WithEach (map shows ls) (map shows news) (AsksLink (outcome_on (query_meaning w) file []))
  query_asks news k h = by (λ o. WithEach (map shows ls) (map shows news) (AsksLink o)) (serving_asks shows (query_scan t q) w.serving.workers w.least ls news k h)

-- ---- nothing is put

read_puts : (n least : ℕ) (t : Table) (r : Result NestedQuery QueryRefusal) → puts_in (query_read n least t r) ≡ []
read_puts n least t (Ok q) = refl
read_puts n least t (Err e) = refl

table_puts : (n least : ℕ) (query : List ℕ) (r : Result Table TableFault) → puts_in (query_table n least query r) ≡ []
table_puts n least query (Ok t) = read_puts n least t (read_nested t.schema query)
table_puts n least query (Err e) = refl

pub query_puts : (w : QueryWords) (look : Look) → puts_in ((query_meaning w).outcome look) ≡ []
query_puts w look = table_puts w.serving.workers w.least w.query (parse_table look.file)
