-- Commands that put nothing, and what is said over the keeper after the file was read.
use Rattle.std.specs.Prelude.{◌≡◌, ℕ, Bool, true, false, List, [], ◌∷◌, ◌++◌, Option, Some, None, Result, Ok, Err, IsTrue, ◌⊎◌}
use Rattle.std.proofs.Common.{refl, sym, ap, ◌∙◌, subst, inl, inr}
use Rattle.dr_meaning.specs.Refusals.{CommandRefusal}
use Rattle.dr_formats.specs.Loading.{Put}
use Rattle.dr_load.specs.Puts.{HasPut, HasPutSome, BreaksOff}
use Rattle.dr_load.specs.Given.{WhereLines}
use Rattle.dr_load.proofs.PutLemmas.{nothing_put, put_more, breaks_behind}
use Rattle.dr_input.specs.Whole.{whole_lines}
use Rattle.dr_input.specs.Taken.{WhereGiven}
use Rattle.dr_outside.specs.Faults.{raised}
use Rattle.dr_outside.specs.Source.{SourceShown}
use Rattle.dr_outside.specs.Link.{Files, LinkShown, Holds}
use Rattle.dr_commands.specs.Refusals.{Refusal as Refused}
use Rattle.dr_commands.specs.Meaning.{Meaning, Outcome, plain, refused, puts_in, first_refusal, text_before}
use Rattle.dr_top.specs.World.{Lent, lent, IsFileOf, outcome_on}
use Rattle.dr_top.specs.Keeping.{IsUnput, KeepsFile, PutsSome, PutsGiven, PutsBreak, IsRefusedSo, RefusesSo, puts_before_end}
use Rattle.dr_top.specs.Stops.{StopsUnread, StopsWith, refusal_view}
use Rattle.dr_top.specs.Printed.{printed}
use Rattle.dr_top.specs.Answers.{Gives, Finishes, Replies, AsksEach, AsksFor}
use Rattle.dr_top.specs.declared.reply.Reply.{Reply}
use Rattle.dr_top.specs.declared.stop.Stop.{Stop}
use Rattle.dr_top.proofs.OutcomeLemmas.{each_input, input_so, file_over}

-- ---- what puts nothing

pub unput : (k : LinkShown) → IsUnput k k
unput k = record { held = refl; puts = refl }

pub unput_more : (k k1 k2 : LinkShown) → IsUnput k k1 → IsUnput k1 k2 → IsUnput k k2
unput_more k k1 k2 d e = record { held = e.held ∙ d.held; puts = e.puts ∙ d.puts }

pub put_none : (k k1 : LinkShown) → IsUnput k k1 → HasPut [] k k1
put_none k k1 e = nothing_put k k1 e.held e.puts

pub some_of_none : (ps : List Put) (k k1 : LinkShown) → IsUnput k k1 → HasPutSome ps k k1
some_of_none ps k k1 e = ([], ps, refl, put_none k k1 e)

pub put_nothing : (m : Meaning) (before after : Lent) → IsUnput before.keeper after.keeper → PutsSome m before after
put_nothing m before after e = inl e

-- an outcome that is refused so
pub refused_so : (o : Outcome) (r : Refused) (puts : List Put) (k k1 : LinkShown) → o ≡ refused r puts → HasPut puts k k1 → IsRefusedSo r [] k k1 o
refused_so o r puts k k1 e h = (ap first_refusal e, ap text_before e, subst (λ (ps : List Put). HasPut ps k k1) (sym (ap puts_in e)) h)

pub plain_puts : (r : Result (List ℕ) CommandRefusal) → puts_in (plain r) ≡ []
plain_puts (Ok text) = refl
plain_puts (Err r) = refl

pub lines_given : (left now : Option (List ℕ)) (P : List ℕ → Type 0) (Q : List ℕ → Type 0) → ((lines : List ℕ) → Q lines) → WhereGiven left now P → WhereLines left now Q
lines_given None now P Q f h = tt
lines_given (Some all) None P Q f h = h
lines_given (Some all) (Some rest) P Q f h = (h.0, whole_lines h.0, h.1, inl refl, f (whole_lines h.0))

lines_so : (left now : Option (List ℕ)) (P Q : List ℕ → Type 0) → ((lines : List ℕ) → P lines → Q lines) → WhereLines left now P → WhereLines left now Q
lines_so None now P Q f h = tt
lines_so (Some all) None P Q f h = h
lines_so (Some all) (Some rest) P Q f h = (h.0, h.1, h.2, h.3, f h.1 h.4)

-- ---- a file that gives no bytes

pub unread_stops : (m : Meaning) (i : SourceShown) (k k1 : LinkShown) (ls : List LinkShown) (stop : Stop) → IsUnput k k1 → StopsUnread m k k1 stop → StopsWith m (lent i k ls) (lent i k1 ls) stop
unread_stops m i k k1 ls Stop.Usage e h = h
unread_stops m i k k1 ls Stop.NoMemory e h = (h, refl, inl (put_nothing m (lent i k ls) (lent i k1 ls) e))
unread_stops m i k k1 ls Stop.Source e h = absurd h
unread_stops m i k k1 ls Stop.Keeper e h = (h.0, refl, refl, h.1, inl (refl, e))
unread_stops m i k k1 ls (Stop.Refused r) e h = (
  h.0,
  refl,
  refl,
  record {
    file = h.1.0;
    is_file = h.1.1;
    refuses = each_input m.reads_input i.left (λ input. IsRefusedSo (refusal_view r) [] k k1 (outcome_on m h.1.0 input)) (λ input. refused_so (outcome_on m h.1.0 input) (refusal_view r) [] k k1 (h.1.2 input) (put_none k k1 e));
    early = λ early. (h.1.2, refl, put_none k k1 e);
  },
)
unread_stops m i k k1 ls (Stop.Left left) e h = absurd h
unread_stops m i k k1 ls (Stop.Most text left) e h = absurd h
unread_stops m i k k1 ls (Stop.LeftFile cause) e h = absurd h

-- ---- what is put behind a look at a file is put behind what was before

put_later : (ps : List Put) (k k1 k2 : LinkShown) → IsUnput k k1 → HasPut ps k1 k2 → HasPut ps k k2
put_later ps k k1 k2 e h = put_more [] ps k k1 k2 (put_none k k1 e) h

some_later : (ps : List Put) (k k1 k2 : LinkShown) → IsUnput k k1 → HasPutSome ps k1 k2 → HasPutSome ps k k2
some_later ps k k1 k2 e h = (h.0, h.1, h.2, put_later h.0 k k1 k2 e h.3)

breaks_later : (known : Bool) (ps : List Put) (k k1 k2 : LinkShown) → IsUnput k k1 → BreaksOff known ps k1 k2 → BreaksOff known ps k k2
breaks_later known ps k k1 k2 e h = breaks_behind known [] ps k k1 k2 (put_none k k1 e) h

pub asks_later : (path : Option (List ℕ)) (k k1 k2 : LinkShown) → AsksFor path k k1 → k2.asked ≡ k1.asked → AsksFor path k k2
asks_later None k k1 k2 h e = e ∙ h
asks_later (Some path) k k1 k2 h e = (h.0, e ∙ h.1, h.2)

pub file_later : (m : Meaning) (k k1 : LinkShown) (file : List ℕ) → IsUnput k k1 → IsFileOf m k file → IsFileOf m k1 file
file_later m k k1 file e h = file_over m k1 k file (sym e.held) h

module _ (m : Meaning) (i i1 : SourceShown) (k k1 k2 : LinkShown) (ls ls1 : List LinkShown) (e : IsUnput k k1) where
  read_before : (file : List ℕ) → IsFileOf m k1 file → IsFileOf m k file
  read_before file h = file_over m k k1 file e.held h

  pub finishes_later : (text : List ℕ) → Finishes m (lent i k1 ls) (lent i1 k2 ls1) text → Finishes m (lent i k ls) (lent i1 k2 ls1) text
  finishes_later text h = record {
    file = h.file;
    is_file = read_before h.file h.is_file;
    gives = input_so m.reads_input i.left (λ input. Gives (lent i k1 ls) (lent i1 k2 ls1) text (outcome_on m h.file input)) (λ input. Gives (lent i k ls) (lent i1 k2 ls1) text (outcome_on m h.file input))
        (λ input g. (g.0, put_later (puts_in (outcome_on m h.file input)) k k1 k2 e g.1)) h.gives;
    opens = h.opens;
  }

  pub replies_later : (reply : Reply) → Replies m (lent i k1 ls) (lent i1 k2 ls1) reply → Replies m (lent i k ls) (lent i1 k2 ls1) reply
  replies_later (Reply.Whole output) h = (finishes_later (printed output) h.0, h.1)
  replies_later (Reply.Talk schema) h = record {
    talks = h.talks;
    reads = h.reads;
    file = h.file;
    is_file = read_before h.file h.is_file;
    speaks = h.speaks;
    unread = h.unread;
    unput = unput_more k k1 k2 e h.unput;
    links = h.links;
  }

  pub asks_each_later : AsksEach (Some m) (lent i k1 ls) (lent i1 k2 ls1) → AsksEach (Some m) (lent i k ls) (lent i1 k2 ls1)
  asks_each_later (inl h) = inl h
  asks_each_later (inr h) = inr (h.0, read_before h.0 h.1, h.2)

  puts_later : PutsSome m (lent i k1 ls) (lent i1 k2 ls1) → PutsSome m (lent i k ls) (lent i1 k2 ls1)
  puts_later (inl h) = inl (unput_more k k1 k2 e h)
  puts_later (inr h) = inr (record {
    file = h.file;
    is_file = read_before h.file h.is_file;
    puts = input_so m.reads_input i.left (λ input. HasPutSome (puts_in (outcome_on m h.file input)) k1 k2) (λ input. HasPutSome (puts_in (outcome_on m h.file input)) k k2)
        (λ input. some_later (puts_in (outcome_on m h.file input)) k k1 k2 e) h.puts;
  })

  break_later : (told : Bool) → PutsBreak told m (lent i k1 ls) (lent i1 k2 ls1) → PutsBreak told m (lent i k ls) (lent i1 k2 ls1)
  break_later told h = record {
    file = h.file;
    is_file = read_before h.file h.is_file;
    opens = h.opens;
    breaks = input_so m.reads_input i.left (λ input. BreaksOff told (puts_in (outcome_on m h.file input)) k1 k2) (λ input. BreaksOff told (puts_in (outcome_on m h.file input)) k k2)
        (λ input. breaks_later told (puts_in (outcome_on m h.file input)) k k1 k2 e) h.breaks;
  }

  given_later : PutsGiven m (lent i k1 ls) (lent i1 k2 ls1) → PutsGiven m (lent i k ls) (lent i1 k2 ls1)
  given_later h = record {
    file = h.file;
    is_file = read_before h.file h.is_file;
    opens = h.opens;
    accepts = h.accepts;
    puts = input_so m.reads_input i.left (λ input. HasPutSome (puts_before_end (outcome_on m h.file input)) k1 k2) (λ input. HasPutSome (puts_before_end (outcome_on m h.file input)) k k2)
        (λ input. some_later (puts_before_end (outcome_on m h.file input)) k k1 k2 e) h.puts;
    given = lines_so i.left i1.left (λ lines. HasPut (puts_in (outcome_on m h.file (lines ++ 10 ∷ []))) k1 k2) (λ lines. HasPut (puts_in (outcome_on m h.file (lines ++ 10 ∷ []))) k k2)
        (λ lines. put_later (puts_in (outcome_on m h.file (lines ++ 10 ∷ []))) k k1 k2 e) h.given;
  }

  refuses_later : (r : Refused) (text : List ℕ) → RefusesSo m r text (lent i k1 ls) (lent i1 k2 ls1) → RefusesSo m r text (lent i k ls) (lent i1 k2 ls1)
  refuses_later r text h = record {
    file = h.file;
    is_file = read_before h.file h.is_file;
    refuses = input_so m.reads_input i.left (λ input. IsRefusedSo r text k1 k2 (outcome_on m h.file input)) (λ input. IsRefusedSo r text k k2 (outcome_on m h.file input))
        (λ input g. (g.0, g.1, put_later (puts_in (outcome_on m h.file input)) k k1 k2 e g.2)) h.refuses;
    early = λ early. let x = h.early early in (x.0, x.1, put_later [] k k1 k2 e x.2);
  }

  memory_later : PutsSome m (lent i k1 ls) (lent i1 k2 ls1) ⊎ PutsBreak false m (lent i k1 ls) (lent i1 k2 ls1) → PutsSome m (lent i k ls) (lent i1 k2 ls1) ⊎ PutsBreak false m (lent i k ls) (lent i1 k2 ls1)
  memory_later (inl h) = inl (puts_later h)
  memory_later (inr h) = inr (break_later false h)

  failed_later : ((i1 ≡ i) × IsUnput k1 k2) ⊎ PutsBreak true m (lent i k1 ls) (lent i1 k2 ls1) → ((i1 ≡ i) × IsUnput k k2) ⊎ PutsBreak true m (lent i k ls) (lent i1 k2 ls1)
  failed_later (inl h) = inl (h.0, unput_more k k1 k2 e h.1)
  failed_later (inr h) = inr (break_later true h)

  keeps_later : (IsTrue k.is_steady → IsTrue k1.is_steady) → KeepsFile m k → KeepsFile m k1
  keeps_later steady kept = record {
    path = kept.path;
    named = kept.named;
    steady = steady kept.steady;
    holds = subst (λ (held : Option Files). Holds held kept.path) (sym e.held) kept.holds;
  }

  pub stops_later : (stop : Stop) → k1.faults ≡ k.faults → (IsTrue k.is_steady → IsTrue k1.is_steady) → StopsWith m (lent i k1 ls) (lent i1 k2 ls1) stop → StopsWith m (lent i k ls) (lent i1 k2 ls1) stop
  stops_later Stop.Usage c s h = h
  stops_later Stop.NoMemory c s h = (h.0 ∙ c, h.1, memory_later h.2)
  stops_later Stop.Keeper c s h = (h.0 ∙ ap raised c, h.1, h.2, (λ kept. h.3 (keeps_later s kept)), failed_later h.4)
  stops_later Stop.Source c s h = (h.0, h.1 ∙ c, h.2, given_later h.3, h.4)
  stops_later (Stop.Refused r) c s h = (h.0 ∙ c, h.1, h.2, refuses_later (refusal_view r) [] h.3)
  stops_later (Stop.Left left) c s h = (h.0 ∙ c, h.1, h.2, unput_more k k1 k2 e h.3, (h.4.0, read_before h.4.0 h.4.1, h.4.2))
  stops_later (Stop.Most text left) c s h = (h.0 ∙ c, h.1, h.2, unput_more k k1 k2 e h.3, (h.4.0, read_before h.4.0 h.4.1, h.4.2))
  stops_later (Stop.LeftFile cause) c s h = (h.0 ∙ c, h.1, h.2, unput_more k k1 k2 e h.3, (h.4.0, read_before h.4.0 h.4.1, h.4.2))
