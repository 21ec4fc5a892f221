-- The answer of `dump`, from its steps.
use Rattle.std.specs.Prelude.{◌≡◌, ℕ, List, [], Result, Ok, Err}
use Rattle.std.proofs.Common.{refl, sym, ap, ◌∙◌, subst}
use Rattle.dr_meaning.specs.Path.{Leaf}
use Rattle.dr_meaning.specs.Fsm.{named_leaves}
use Rattle.dr_meaning.specs.Refusals.{CommandRefusal, field_refused}
use Rattle.dr_formats.specs.TableFile.{Table, TableFault, parse_table}
use Rattle.dr_nested.specs.Faults.{path_problem_view}
use Rattle.dr_commands.specs.Meaning.{Look, Outcome, scans, puts_in}
use Rattle.dr_commands.specs.Dump.{DumpWords, dump_meaning, dump_scan, dump_table, dump_named}
use Rattle.dr_top.specs.World.{outcome_on}
use Rattle.dr_top.specs.Stops.{StopsEarly, FieldStops, field_stop}
use Rattle.dr_top.specs.declared.field.FieldFault.{FieldFault}
use Rattle.dr_top.proofs.CommandLemmas.{RefusesTable}
use Rattle.dr_top.proofs.FirstLinkLemmas.{IsOfFirst}

pub dump_refuses_table : (w : DumpWords) → RefusesTable (dump_meaning w)
dump_refuses_table w look e h = ap (dump_table w.fields) h

-- ---- the outcome

-- with a table, the outcome is that of the named leaves
by_leaves : (w : DumpWords) (file : List ℕ) (texts : List (List ℕ)) (t : Table) (r : Result (List Leaf) CommandRefusal) → texts ≡ w.fields → parse_table file ≡ Ok t → named_leaves t.schema.fields [] 0 texts ≡ r
    → dump_table w.fields (parse_table file) ≡ dump_named t r
by_leaves w file texts t r q f e = ap (dump_table w.fields) f ∙ ap (dump_named t) (ap (named_leaves t.schema.fields [] 0) (sym q) ∙ e)

pub dump_field_early : (w : DumpWords) (file : List ℕ) (texts : List (List ℕ)) (t : Table) (fault : FieldFault) → texts ≡ w.fields → parse_table file ≡ Ok t
    → FieldStops (named_leaves t.schema.fields [] 0 texts) fault → StopsEarly (outcome_on (dump_meaning w) file) (field_stop fault)
dump_field_early w file texts t FieldFault.NoMemory q f h = tt
dump_field_early w file texts t (FieldFault.Refused n x) q f h = λ input. by_leaves w file texts t (Err (field_refused n (path_problem_view x))) q f h

-- what holds of the scan for the named leaves holds of the outcome
pub dump_scans : (w : DumpWords) (file : List ℕ) (texts : List (List ℕ)) (t : Table) (F : List Leaf) (P : Outcome → Type 0) → texts ≡ w.fields → parse_table file ≡ Ok t → named_leaves t.schema.fields [] 0 texts ≡ Ok F
    → P (scans (dump_scan t F)) → P (outcome_on (dump_meaning w) file [])
dump_scans w file texts t F P q f e h = subst P (sym (by_leaves w file texts t (Ok F) q f e)) h

-- ---- one link gives it

named_of_first : (t : Table) (r : Result (List Leaf) CommandRefusal) → IsOfFirst (dump_named t r)
named_of_first t (Ok F) = tt
named_of_first t (Err e) = tt

table_of_first : (fields : List (List ℕ)) (r : Result Table TableFault) → IsOfFirst (dump_table fields r)
table_of_first fields (Ok t) = named_of_first t (named_leaves t.schema.fields [] 0 fields)
table_of_first fields (Err e) = tt

pub dump_of_first : (w : DumpWords) (file : List ℕ) → IsOfFirst (outcome_on (dump_meaning w) file [])
dump_of_first w file = table_of_first w.fields (parse_table file)

-- ---- nothing is put

named_puts : (t : Table) (r : Result (List Leaf) CommandRefusal) → puts_in (dump_named t r) ≡ []
named_puts t (Ok F) = refl
named_puts t (Err e) = refl

table_puts : (fields : List (List ℕ)) (r : Result Table TableFault) → puts_in (dump_table fields r) ≡ []
table_puts fields (Ok t) = named_puts t (named_leaves t.schema.fields [] 0 fields)
table_puts fields (Err e) = refl

pub dump_puts : (w : DumpWords) (look : Look) → puts_in ((dump_meaning w).outcome look) ≡ []
dump_puts w look = table_puts w.fields (parse_table look.file)
