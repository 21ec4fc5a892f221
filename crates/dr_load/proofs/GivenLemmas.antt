-- The full tablets of the lines that the source gave before it failed.
use Rattle.std.specs.Prelude.{◌≡◌, ℕ, suc, ◌+◌, ◌==◌, ◌<◌, List, [], ◌∷◌, ◌++◌, length, Bool, true, false, nat_lt, if◌then◌else◌, Option, Some, None, Result, Ok, Err, ◌⊎◌, codes}
use Rattle.std.proofs.Common.{arith, refl, sym, ap, ap₂, ◌∙◌, subst, append_assoc, append-nil, inl, inr}
use Rattle.std.specs.Str.{chars, is_utf8}
use Rattle.serde_json.proofs.OnLiterals.{serde_json_on_literals}
use Rattle.dr_meaning.specs.Schema.{Fields}
use Rattle.dr_meaning.specs.Record.{Node}
use Rattle.dr_meaning.specs.JsonRecord.{record_of_line, not_json}
use Rattle.dr_meaning.specs.Lines.{Refusal, LineFault, no_record, too_many_records, Taken, lines_of, longest_line, record_at, or_stop, taken_from}
use Rattle.dr_formats.specs.Tablets.{tablets}
use Rattle.dr_formats.specs.TabletLaws.{all_records}
use Rattle.dr_formats.specs.Loading.{Plan, Put, most_loaded, puts_from, puts_of, full_tablets, load}
use Rattle.dr_outside.specs.Link.{LinkShown}
use Rattle.dr_lines.specs.Cutting.{BeginsLine, no_lf}
use Rattle.dr_input.specs.Whole.{before_whole, whole_lines}
use Rattle.dr_input.specs.Taken.{behind, EndsLine, AreRecords, HasTaken}
use Rattle.dr_input.proofs.WholeLemmas.{whole_behind, whole_twice, whole_line, none_whole}
use Rattle.dr_input.proofs.TakenLemmas.{last_nothing, taken_is}
use Rattle.dr_load.specs.Filled.{FailsWithin}
use Rattle.dr_load.specs.Puts.{HasPut}
use Rattle.dr_load.specs.Loads.{HasLoaded, taken_of}
use Rattle.dr_load.specs.Given.{AreLinesOf, WhereLines, full_puts, HasPutFull}
use Rattle.dr_load.proofs.TabletLemmas.{full_are}
use Rattle.dr_load.proofs.LoadLemmas.{taken_behind}
use Rattle.dr_meaning.specs.Lists.{onto_first}

-- ---- the lines that were given

-- bytes that end in whole lines, or whose last line can be given its LF
last_line_ends : (a : List ℕ) → (whole_lines a ≡ a) ⊎ (lines_of (a ++ 10 ∷ []) ≡ lines_of a)
last_line_ends [] = inl refl
last_line_ends (x ∷ a) = by (x == 10) refl (last_line_ends a)
  where
    more : (a : List ℕ) → (x == 10) ≡ false → (whole_lines a ≡ a) ⊎ (lines_of (a ++ 10 ∷ []) ≡ lines_of a) → (whole_lines (x ∷ a) ≡ x ∷ a) ⊎ (lines_of (x ∷ a ++ 10 ∷ []) ≡ lines_of (x ∷ a))
    more [] e h = inr (rw e refl)
    more (c ∷ cs) e (inl w) = inl (rw e (ap (before_whole x) w))
    more (c ∷ cs) e (inr l) = inr (rw e (ap (onto_first x) l))

    by : (t : Bool) → (x == 10) ≡ t → (whole_lines a ≡ a) ⊎ (lines_of (a ++ 10 ∷ []) ≡ lines_of a) → (whole_lines (x ∷ a) ≡ x ∷ a) ⊎ (lines_of (x ∷ a ++ 10 ∷ []) ≡ lines_of (x ∷ a))
    by true e (inl w) = inl (rw e (ap (λ (y : List ℕ). x ∷ y) w))
    by true e (inr l) = inr (rw e (ap (λ (ls : List (List ℕ)). [] ∷ ls) l))
    by false e h = more a e h

module _ (p : Plan) (R : List Node) (held now : LinkShown) (put : HasPut (full_puts p R) held now) where
  abbrev Put_ : List ℕ → Type 0
  Put_ lines = (S : List Node) × AreRecords p.schema.fields (most_loaded p.rows) 0 lines S × HasPut (full_puts p S) held now

  -- records of bytes that end in whole lines, with a part of a line behind them
  whole_given : (all a begun rest : List ℕ) → AreRecords p.schema.fields (most_loaded p.rows) 0 a R → all ≡ a ++ (begun ++ rest) → no_lf begun ≡ true → whole_lines a ≡ a
      → WhereLines (Some all) (Some rest) Put_
  whole_given all a begun rest r e n w = (
    a ++ begun,
    a,
    e ∙ sym (append_assoc a begun rest),
    inl (sym (whole_behind a begun w ∙ ap (λ (x : List ℕ). a ++ x) (none_whole begun n) ∙ append-nil a)),
    (R, r, put),
  )

  -- the last line lacks its LF
  last_given : (all a rest : List ℕ) → AreRecords p.schema.fields (most_loaded p.rows) 0 a R → all ≡ a ++ rest → rest ≡ [] → lines_of (a ++ 10 ∷ []) ≡ lines_of a
      → WhereLines (Some all) (Some rest) Put_
  last_given all a rest r e z l = (
    a,
    a ++ 10 ∷ [],
    e,
    inr (refl, z),
    (R, ap (taken_from p.schema.fields (most_loaded p.rows) 1) l ∙ r, put),
  )

  at_end : (all a begun rest : List ℕ) → AreRecords p.schema.fields (most_loaded p.rows) 0 a R → all ≡ a ++ (begun ++ rest) → no_lf begun ≡ true → begun ++ rest ≡ []
      → (whole_lines a ≡ a) ⊎ (lines_of (a ++ 10 ∷ []) ≡ lines_of a) → WhereLines (Some all) (Some rest) Put_
  at_end all a begun rest r e n z (inl w) = whole_given all a begun rest r e n w
  at_end all a begun rest r e n z (inr l) =
      let none : rest ≡ [] = last_nothing begun rest z in
      last_given all a rest r (e ∙ ap (λ (x : List ℕ). a ++ x) (z ∙ sym none)) none l

  ends_given : (all a begun rest : List ℕ) → AreRecords p.schema.fields (most_loaded p.rows) 0 a R → all ≡ a ++ (begun ++ rest) → no_lf begun ≡ true → EndsLine a (begun ++ rest)
      → WhereLines (Some all) (Some rest) Put_
  ends_given all a begun rest r e n (inl w) = whole_given all a begun rest r e n w
  ends_given all a begun rest r e n (inr z) = at_end all a begun rest r e n z (last_line_ends a)

  taken_given : (input left given : Option (List ℕ)) → HasTaken p.schema.fields (most_loaded p.rows) 0 R input left → BeginsLine left given → HasPutFull p input given held now
  taken_given None left given t b = tt
  taken_given (Some all) None given t b = absurd t
  taken_given (Some all) (Some more) None t b = absurd b
  taken_given (Some all) (Some more) (Some rest) t b =
      ends_given all t.0 b.0 rest t.3 (t.1 ∙ ap (λ (x : List ℕ). t.0 ++ x) b.1) b.2 (subst (EndsLine t.0) b.1 t.2)

-- the source failed behind full tablets
pub fails_full : (p : Plan) (k m : ℕ) (input a now : Option (List ℕ)) (before held : LinkShown) → 0 < p.rows → HasLoaded p k m input a before held → FailsWithin p.schema.fields (most_loaded p.rows) m p.rows a now
    → HasPutFull p input now before held
fails_full p k m input a now before held r l f =
    let R : List Node = all_records l.full ++ f.0 in
    let put : HasPut (full_puts p R) before held = subst (λ (ps : List Put). HasPut ps before held) (sym (ap (puts_from p 0) (full_are p.rows l.full f.0 l.are_full r f.2))) l.put in
    taken_given p R before held put input f.1 now (taken_behind p m (all_records l.full) f.0 input a f.1 l.records_of l.taken f.3) f.4

-- ---- an empty line behind them

empty_line : (fs : Fields) → record_of_line fs [] ≡ Err not_json
unfolding record_of_line is_utf8 chars serde_json_on_literals
empty_line fs = refl

empty_refused : (fs : Fields) (most number : ℕ) → (e : LineFault) × (record_at fs most number [] ≡ Err e)
empty_refused fs most number = by (nat_lt most number) refl
  where
    by : (t : Bool) → nat_lt most number ≡ t → (e : LineFault) × (record_at fs most number [] ≡ Err e)
    by true is = (too_many_records, rw is refl)
    by false is = (no_record not_json, rw (is, empty_line fs) refl)

lines_whole : (lines read rest : List ℕ) → AreLinesOf lines read rest → whole_lines lines ≡ lines
lines_whole lines read rest (inl e) = ap whole_lines e ∙ whole_twice read ∙ sym e
lines_whole lines read rest (inr e) = ap whole_lines e.0 ∙ whole_line read ∙ sym e.0

stopped_at : (number : ℕ) (r : Result Node LineFault) (e : LineFault) → r ≡ Err e → or_stop number r (record { records = []; refusal = None }) ≡ record { records = []; refusal = Some (record { line = number; fault = e }) }
stopped_at number r e is = ap (λ (x : Result Node LineFault). or_stop number x (record { records = []; refusal = None })) is

load_puts : (p : Plan) (input : List ℕ) → (load p input).puts ≡ puts_of p (taken_of p input).records (taken_of p input).refusal
unfolding load
load_puts p input = refl

-- the full tablets of lines are put where an empty line comes behind them
pub puts_refused : (p : Plan) (lines read rest : List ℕ) (R : List Node) → AreLinesOf lines read rest → AreRecords p.schema.fields (most_loaded p.rows) 0 lines R → (load p (lines ++ 10 ∷ [])).puts ≡ full_puts p R
puts_refused p lines read rest R a h =
    let fs = p.schema.fields in
    let most = most_loaded p.rows in
    let number : ℕ = suc (0 + length R) in
    let e = empty_refused fs most number in
    let t : taken_of p (lines ++ 10 ∷ []) ≡ record { records = R ++ []; refusal = Some (record { line = number; fault = e.0 }) } =
    taken_is fs most 0 R (lines ++ 10 ∷ []) (10 ∷ []) (lines, refl, inl (lines_whole lines read rest a), h) ∙ ap (behind R) (stopped_at number (record_at fs most number []) e.0 e.1) in
    load_puts p (lines ++ 10 ∷ []) ∙ ap (λ (x : Taken). puts_of p x.records x.refusal) t ∙ ap (full_puts p) (append-nil R)
