-- How a line is answered, sign by sign.
use Rattle.std.specs.Prelude.{◌≡◌, ℕ, suc, ◌<◌, ◌≤◌, List, [], ◌∷◌, ◌++◌, length, Bool, true, false, nat_lt, if◌then◌else◌, Result, Ok, Err, String, string_bytes}
use Rattle.std.specs.declared.alloc.Global.{Global}
use Rattle.std.proofs.Common.{arith, refl, sym, ap, ap₂, ◌∙◌, subst, append_assoc}
use Rattle.std.proofs.lemmas.List.{length-append}
use Rattle.std.proofs.lemmas.Bool.Decides.{nat_tests}
use mathlib.Core.List.{IsPrefix}
use Rattle.dr_meaning.specs.Schema.{Schema}
use Rattle.dr_meaning.specs.Path.{leaves}
use Rattle.dr_meaning.specs.Record.{Node}
use Rattle.dr_meaning.specs.JsonRecord.{RecordFault, record_of_line}
use Rattle.dr_meaning.specs.Query.{Object}
use Rattle.dr_meaning.specs.Print.{result_text}
use Rattle.dr_meaning.specs.Refusals.{QueryRefusal}
use Rattle.dr_meaning.specs.Lines.{longest_line}
use Rattle.dr_formats.specs.File.{IsFileOf}
use Rattle.dr_service.specs.Tablets.{most_tablets, AreTabletsOf, IsAnswer}
use Rattle.dr_sub.specs.Texts.{ArePlansMeant, ForNested}
use Rattle.dr_sub.specs.declared.nested_plan.NestedPlan.{NestedPlan}
use Rattle.dr_sub_meaning.specs.Nested.{NestedQuery}
use Rattle.dr_sub_meaning.specs.NestedAsk.{read_nested}
use Rattle.dr_sub_meaning.specs.Session.{Session, Heard, SessionFault, too_many_records, full, line_too_long, too_many_lines, most_kept, most_lines, most_published, kept_behind, keeps, publishes, published_text, answers, asked_text, at_text, commanded, heard}
use Rattle.dr_session.specs.Faults.{IsRefusedLine, Hears}
use Rattle.dr_session.specs.Held.{IsKept, IsSession}
use Rattle.dr_session.specs.Keeping.{wrapped, kept_record, IsRefusedRecord, KeepsRecord}
use Rattle.dr_session.specs.declared.fault.HearFault.{HearFault}
use Rattle.dr_session.specs.declared.kept.Kept.{Kept}
use Rattle.dr_session.proofs.SessionLemmas.{as_many, tablet_more, answer_is, same_lists}

-- ---- `+`

abbrev kept_after : Session → Result Node SessionFault → Result Heard SessionFault
kept_after w (Ok n) = Ok (record { session = record { kept = w.kept ++ n ∷ []; published = w.published }; text = [] })
kept_after w (Err e) = Err e

keeps_case : (w : Session) (b : Bool) (r : Result Node RecordFault) → (if b then kept_behind w r else Err too_many_records) ≡ kept_after w (if b then wrapped r else Err too_many_records)
keeps_case w true (Ok n) = refl
keeps_case w true (Err e) = refl
keeps_case w false r = refl

keeps_so : (s : Schema) (w : Session) (line : List ℕ) → keeps s w line ≡ kept_after w (kept_record w.kept (record_of_line s.fields line))
keeps_so s w line = keeps_case w (nat_lt (length w.kept) most_kept) (record_of_line s.fields line)

-- what keeping says of any records that are kept
abbrev pub KeepsAny : Schema → List ℕ → Kept → Kept → Result (Unit {0}) HearFault → Type 0
KeepsAny s line k m r = (R : List Node) → IsKept s R k → KeepsRecord s R (kept_record R (record_of_line s.fields line)) m r

pub keep_heard : (s t : Schema) (w : Session) (line : List ℕ) (k m : Kept) (ts : List (List ℕ)) (text : String Global) (done : Unit {0}) → t ≡ s → IsSession s w k ts → KeepsAny t line k m (Ok done) → string_bytes text ≡ []
    → Hears (keeps s w line) (λ v. IsSession s v m ts) (Ok text)
keep_heard s t w line k m ts text done same h kept e =
    let f = subst (λ (x : Schema). KeepsAny x line k m (Ok done)) same kept w.kept h.kept_are in (
      record { session = record { kept = w.kept ++ f.0 ∷ []; published = w.published }; text = [] },
      keeps_so s w line ∙ ap (kept_after w) f.1,
      e,
      record { kept_are = f.2; tablets_are = h.tablets_are },
    )

refused_so : (w : Session) (meant : Result Node SessionFault) (r : Result Heard SessionFault) (e : HearFault) → r ≡ kept_after w meant → IsRefusedRecord meant e → IsRefusedLine r e
refused_so w meant r HearFault.NoMemory is h = tt
refused_so w meant r (HearFault.Refused p) is h = is ∙ ap (kept_after w) h

pub keep_refused : (s t : Schema) (w : Session) (line : List ℕ) (k m : Kept) (ts : List (List ℕ)) (e : HearFault) → t ≡ s → IsSession s w k ts → KeepsAny t line k m (Err e) → IsRefusedLine (keeps s w line) e
keep_refused s t w line k m ts e same h kept =
    refused_so w (kept_record w.kept (record_of_line s.fields line)) (keeps s w line) e (keeps_so s w line) (subst (λ (x : Schema). KeepsAny x line k m (Err e)) same kept w.kept h.kept_are)

-- ---- `.`

publishes_if : (w : Session) (b : Bool) → nat_lt (length w.published) most_published ≡ b
    → publishes w ≡ (if b then Ok (record { session = record { kept = []; published = w.published ++ w.kept ∷ [] }; text = published_text (suc (length w.published)) }) else Err full)
publishes_if w b e = ap (λ (c : Bool). if c then Ok (record { session = record { kept = []; published = w.published ++ w.kept ∷ [] }; text = published_text (suc (length w.published)) }) else Err full) e

pub publish_full : (s : Schema) (w : Session) (k : Kept) (ts : List (List ℕ)) → IsSession s w k ts → most_tablets ≤ length ts → publishes w ≡ Err full
publish_full s w k ts h l =
    let n = as_many s ts w.published h.tablets_are in
    publishes_if w false (grind (arith, nat_tests, n, l))

pub publish_heard : (s : Schema) (w : Session) (k m : Kept) (old new : List (List ℕ)) (bytes : List ℕ) (count : ℕ) (text : String Global) → IsSession s w k old → length old < most_tablets → IsFileOf bytes s (leaves s.fields) w.kept
    → IsKept s [] m → new ≡ old ++ bytes ∷ [] → count ≡ length new → string_bytes text ≡ published_text count → Hears (publishes w) (λ v. IsSession s v m new) (Ok text)
publish_heard s w k m old new bytes count text h l f none e c t =
    let n = as_many s old w.published h.tablets_are in
    let many : count ≡ suc (length w.published) = omega (arith, c, ap length e, length-append old (bytes ∷ []), n) in (
      record { session = record { kept = []; published = w.published ++ w.kept ∷ [] }; text = published_text (suc (length w.published)) },
      publishes_if w true (grind (arith, nat_tests, n, l)),
      t ∙ ap published_text many,
      record { kept_are = none; tablets_are = subst (λ (x : List (List ℕ)). AreTabletsOf s x (w.published ++ w.kept ∷ [])) (sym e) (tablet_more s old w.published bytes w.kept h.tablets_are f) },
    )

-- ---- `?`

pub answer_heard : (s : Schema) (w : Session) (n : NestedQuery) (k : Kept) (old new note learnt asked : List (List ℕ)) (rows : List Object) (at : ℕ) (text : String Global) → IsSession s w k old
    → new ≡ old → note ≡ old → IsPrefix note learnt → IsPrefix learnt asked → IsPrefix asked old → IsAnswer s n asked rows → at ≡ length asked → string_bytes text ≡ result_text rows ++ at_text at
    → Hears (answers s w (Ok n)) (λ v. IsSession s v k new) (Ok text)
answer_heard s w n k old new note learnt asked rows at text h e m p r d a c t =
    let front : IsPrefix old learnt = subst (λ (x : List (List ℕ)). IsPrefix x learnt) m p in
    let same : asked ≡ old = same_lists asked old d (prefix_on old learnt asked front r) in (
      record { session = w; text = _ },
      refl,
      t ∙ answer_is s n asked old w.published rows at same h.tablets_are a c,
      record { kept_are = h.kept_are; tablets_are = subst (λ (x : List (List ℕ)). AreTabletsOf s x w.published) (sym e) h.tablets_are },
    )
  where
    prefix_on : (xs ys zs : List (List ℕ)) → IsPrefix xs ys → IsPrefix ys zs → IsPrefix xs zs
    prefix_on xs ys zs p q = (p.0 ++ q.0, sym (append_assoc xs p.0 q.0) ∙ (ap (λ (w : List (List ℕ)). w ++ q.0) p.1 ∙ q.1))

-- ---- lines

heard_if : (s : Schema) (w : Session) (number : ℕ) (line : List ℕ) (b c : Bool) → nat_lt longest_line (length line) ≡ b → nat_lt most_lines number ≡ c
    → heard s w number line ≡ (if b then Err line_too_long else (if c then Err too_many_lines else commanded s w line))
heard_if s w number line b c e f = ap₂ (λ (x y : Bool). if x then Err line_too_long else (if y then Err too_many_lines else commanded s w line)) e f

pub too_long_line : (s : Schema) (w : Session) (number : ℕ) (line : List ℕ) → longest_line < length line → heard s w number line ≡ Err line_too_long
too_long_line s w number line l = heard_if s w number line true (nat_lt most_lines number) (grind (arith, nat_tests, l)) refl

pub late_line : (s : Schema) (w : Session) (number : ℕ) (line : List ℕ) → length line ≤ longest_line → most_lines < number → heard s w number line ≡ Err too_many_lines
late_line s w number line l m = heard_if s w number line false true (grind (arith, nat_tests, l)) (grind (arith, nat_tests, m))

pub heard_line : (s : Schema) (w : Session) (number : ℕ) (line : List ℕ) → length line ≤ longest_line → number ≤ most_lines → heard s w number line ≡ commanded s w line
heard_line s w number line l m = heard_if s w number line false false (grind (arith, nat_tests, l)) (grind (arith, nat_tests, m))

pub keep_line : (s : Schema) (w : Session) (number : ℕ) (line rest : List ℕ) → length line ≤ longest_line → number ≤ most_lines → line ≡ 43 ∷ rest → heard s w number line ≡ keeps s w rest
keep_line s w number line rest l m e = heard_line s w number line l m ∙ ap (commanded s w) e

pub ask_line : (s : Schema) (w : Session) (number : ℕ) (line rest : List ℕ) → length line ≤ longest_line → number ≤ most_lines → line ≡ 63 ∷ rest → heard s w number line ≡ answers s w (read_nested s (asked_text rest))
ask_line s w number line rest l m e = heard_line s w number line l m ∙ ap (commanded s w) e

pub publish_line : (s : Schema) (w : Session) (number : ℕ) (line : List ℕ) → length line ≤ longest_line → number ≤ most_lines → line ≡ 46 ∷ [] → heard s w number line ≡ publishes w
publish_line s w number line l m e = heard_line s w number line l m ∙ ap (commanded s w) e

pub hears_so : (a b : Result Heard SessionFault) (P : Session → Type 0) (r : Result (String Global) HearFault) → a ≡ b → Hears b P r → Hears a P r
hears_so a b P r e h = subst (λ (x : Result Heard SessionFault). Hears x P r) (sym e) h

-- ---- the plans of a query's text

pub ask_heard : (s t : Schema) (w : Session) (text : List ℕ) (p : NestedPlan) (P : Session → Type 0) (r : Result (String Global) HearFault) → t ≡ s → ArePlansMeant t (read_nested t (asked_text text)) p
    → ForNested s p (λ n. Hears (answers s w (Ok n)) P r) → Hears (answers s w (read_nested s (asked_text text))) P r
ask_heard s t w text p P r same meant each =
    let m = subst (λ (x : Schema). ArePlansMeant x (read_nested x (asked_text text)) p) same meant in
    subst (λ (x : Result NestedQuery QueryRefusal). Hears (answers s w x) P r) (sym m.1) (each m.0 m.2)

-- ---- the file of the records that are kept

pub file_at : (s t : Schema) (R : List Node) (k : Kept) (bytes : List ℕ) → t ≡ s → IsKept s R k → (IsKept t R k → IsFileOf bytes t (leaves t.fields) R) → IsFileOf bytes s (leaves s.fields) R
file_at s t R k bytes same h f = subst (λ (x : Schema). IsFileOf bytes x (leaves x.fields) R) same (f (subst (λ (x : Schema). IsKept x R k) (sym same) h))

pub kept_at : (s t : Schema) (R : List Node) (k : Kept) → t ≡ s → IsKept t R k → IsKept s R k
kept_at s t R k same h = subst (λ (x : Schema). IsKept x R k) same h
