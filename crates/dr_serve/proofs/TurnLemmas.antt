-- A turn.
use Rattle.std.proofs.Common.{◌≡◌, inl, inr, ◌<◌, ◌≤◌, ℕ, ◌+◌, ◌-◌, ◌*◌, List, [], ◌∷◌, length, Bool, true, false, Option, sym, ap, ◌∙◌, subst, length-append, arith}
use Rattle.std.specs.Prelude.{◌==◌, IsTrue, string_bytes}
use Rattle.std.specs.List.{list_any}
use Rattle.std.proofs.lemmas.List.{length-map}
use mathlib.Core.List.{IsPrefix}
use Rattle.dr_formats.specs.Opening.{reader_ranges}
use Rattle.dr_outside.specs.Link.{Files, LinkShown, Holds, Lacks}
use Rattle.dr_outside.specs.Telling.{TellsFile, AsksOnly}
use Rattle.dr_outside.specs.declared.cause.Cause.{Cause}
use Rattle.dr_dispatch.specs.Job.{Job, leaves_at, pairs}
use Rattle.dr_dispatch.specs.History.{has_give, is_history}
use Rattle.dr_dispatch.specs.declared.event.Hand.{Hand}
use Rattle.dr_dispatch.specs.declared.event.Event.{Event}
use Rattle.dr_dispatch.specs.declared.event.Event.TheVariants.{Give, Fault}
use Rattle.dr_dispatch.specs.declared.seen.PassShown.{PassShown}
use Rattle.dr_dispatch.proofs.BoundLemmas.{history_is_bounded, given_is_of_job}
use Rattle.dr_dispatch.proofs.Prefixes.{prefix_length}
use Rattle.dr_desk.specs.Calls.{Takes, IsFaultTold}
use Rattle.dr_file.specs.Asking.{is_for_path, is_request_for}
use Rattle.dr_plan.specs.Planned.{plan_leaves}
use Rattle.dr_plan.specs.declared.plan.Plan.{Plan}
use Rattle.dr_reading.specs.Held.{held_at}
use Rattle.dr_reading.specs.Causes.{IsJustified, RisesApart}
use Rattle.dr_outside.specs.Faults.{raised, Rose}
use Rattle.dr_file.specs.OpenedFiles.{HasCounts}
use Rattle.dr_file.specs.declared.file_fault.FileFault.{FileFault}
use Rattle.dr_formats.specs.TableFile.{Table}
use Rattle.dr_table.specs.Views.{table_view}
use Rattle.dr_table.specs.declared.table.Table as code
use Rattle.dr_serve.specs.Working.{table_leaves, hand_path, IsCauseFor}
use Rattle.dr_serve.specs.Ends.{TellsEnd}
use Rattle.dr_serve.specs.Links.{Worked}
use Rattle.dr_serve.proofs.LeafLemmas.{IsOfTable, of_table}
use Rattle.dr_serve.proofs.LinkLemmas.{asks_copy}

-- ---- the hand

pub hand_of_table : (t : code.Table) (j : Job) (seen : List Event) (h : Hand) → j.leaves ≡ table_leaves (table_view t) → is_history j seen ≡ true → has_give seen h ≡ true → IsOfTable (table_view t) h.tablet h.leaf
hand_of_table t j seen h e recorded given =
    of_table (table_view t) h.tablet h.leaf (omega (arith, length-map t.leaves.items string_bytes, t.has_leaf))
    (subst (λ (rows : List (List ℕ)). list_any (λ l. l == h.leaf) (leaves_at rows h.tablet) ≡ true) e (given_is_of_job j seen h recorded given))

-- the measure of the turns falls
pub turn_is_progress : (j : Job) (h : Hand) (a b d : PassShown) → Takes j h a b → IsPrefix b.seen d.seen → is_history j d.seen ≡ true → 3 * pairs j - length d.seen < 3 * pairs j - length a.seen
turn_is_progress j h a b d takes longer recorded =
    let grown : length b.seen ≡ length takes.history + 1 = ap (λ (x : PassShown). length x.seen) takes.added ∙ length-append takes.history (Give h ∷ []) in
    let bound : length d.seen ≤ 3 * pairs j = history_is_bounded j d.seen recorded in
    let before : length a.seen ≤ length takes.history = prefix_length a.seen takes.history takes.earlier in
    let behind : length b.seen ≤ length d.seen = prefix_length b.seen d.seen longer in
    omega (arith, grown, bound, before, behind)

-- ---- the link

pub scan_worked : (t : Table) (p : Plan) (h : Hand) (path : List ℕ) (l now : LinkShown) → IsOfTable t h.tablet h.leaf → path ≡ hand_path t h
    → ((bytes : List ℕ) → TellsFile l.held path bytes → AsksOnly (is_request_for path (reader_ranges bytes (plan_leaves p))) l.asked now.asked) → (Lacks l.held path → AsksOnly (is_request_for path []) l.asked now.asked)
    → AsksOnly (is_for_path path) l.asked now.asked → now.held ≡ l.held → l.faults ≤ now.faults → (IsTrue l.is_steady → IsTrue now.is_steady) → Worked t p l now
scan_worked t p h path l now i e asked none there same falls steady = record {
  same = same;
  never_falls = falls;
  stays_steady = steady;
  asks = asks_copy (plan_leaves p) t h.tablet h.leaf path l now i e asked none there;
}

-- ---- a fault

pub fault_tells : (why : Hand → Cause → Type 0) (j : Job) (h : Hand) (c : Cause) (before now : PassShown) (r : Bool) → why h c → IsFaultTold j h c before now r → TellsEnd why before now
fault_tells why j h c before now true w told = inr (told.history, Fault h c, told.added, w)
fault_tells why j h c before now false w told = inl told.1

-- a failed read raised the count
pub one_rises : (old new : ℕ) (c : Cause) → HasCounts old new (FileFault.Why c) → old ≤ new → RisesApart old (c ∷ []) new
one_rises old new (Cause.ReadFailed before after) h le =
    let rose : Rose old new = subst (λ (n : ℕ). raised old ≤ n) (sym h.2) (omega arith) in
    (omega (arith, h.0), subst (λ (n : ℕ). Rose n after) (sym h.0) (subst (Rose old) (sym h.1) rose), omega (arith, h.1))
one_rises old new Cause.BadFooter h le = le
one_rises old new Cause.BadSchema h le = le
one_rises old new Cause.BadCodec h le = le
one_rises old new Cause.BadData h le = le

-- a cause by what the link showed before
pub cause_before : (t : Table) (p : Plan) (l now : LinkShown) (h : Hand) (c : Cause) → now.held ≡ l.held → (IsTrue l.is_steady → IsTrue now.is_steady) → IsCauseFor t p now h c → IsCauseFor t p l h c
cause_before t p l now h c e w k = (
  subst (λ (x : Option Files). IsJustified t.schema (plan_leaves p) (held_at x (hand_path t h)) c) e k.0,
  λ is holds. k.1 (w is) (subst (λ (x : Option Files). Holds x (hand_path t h)) (sym e) holds),
)
