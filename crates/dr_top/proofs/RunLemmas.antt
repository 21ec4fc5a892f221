-- The ends of a run, from what the words are answered with.
use Rattle.std.specs.Prelude.{◌≡◌, ◌<◌, ℕ, Bool, true, false, List, [], codes, Option, Some, None, option_map, ⊤, ◌⊎◌, String, string_bytes}
use Rattle.std.specs.declared.alloc.Global.{Global}
use Rattle.std.proofs.Common.{refl, sym, ap, ◌∙◌, subst, inl, inr, Vec, true≢false, append-nil, arith}
use Rattle.dr_formats.specs.Reports.{left_file_text}
use Rattle.dr_outside.specs.Faults.{raised}
use Rattle.dr_outside.specs.Source.{SourceShown}
use Rattle.dr_outside.specs.Sink.{SinkShown, Added, AddedWhole, AddedFront}
use Rattle.dr_outside.specs.Link.{LinkShown}
use Rattle.dr_outside.specs.declared.cause.Cause.{Cause}
use Rattle.dr_reading.specs.LeftText.{told_cause, left_text}
use Rattle.dr_table.specs.LeftViews.{all_left_view}
use Rattle.dr_table.specs.declared.left.LeftTablet.{LeftTablet}
use Rattle.dr_commands.specs.Refusals.{Refusal as Refused, refusal_text}
use Rattle.dr_commands.specs.Meaning.{Meaning, first_refusal, IsEarly}
use Rattle.dr_commands.specs.Commands.{CommandWords, meaning_of}
use Rattle.dr_words.specs.declared.words_fault.WordsFault.{WordsFault}
use Rattle.dr_top.specs.World.{World, Lent, lent, world, ForInput, outcome_on, RefusesAlways}
use Rattle.dr_top.specs.Keeping.{IsRefusedSo, RefusesSo}
use Rattle.dr_top.specs.Stops.{StopsWith, IsReadBy, words_stop, refusal_view}
use Rattle.dr_top.specs.Talking.{WritesBefore, WritesGiven}
use Rattle.dr_top.specs.Answers.{Finishes, StopsMeant}
use Rattle.dr_top.specs.Ends.{ForMeant, Holds, Says, Prints, IsUsage, IsRefused, IsLeft, EndsBut, PrintsMost, IsOutside, IsMemory, SameCounts, ByInput, IsComplete}
use Rattle.dr_top.specs.declared.refusal.Refusal.{Refusal}
use Rattle.dr_top.specs.declared.stop.Stop.{Stop}
use Rattle.dr_top.proofs.OutcomeLemmas.{input_so}
use Rattle.dr_top.proofs.PutLemmas.{unput, put_nothing}

-- ---- the words

pub words_stops : (o : Option CommandWords) (fault : WordsFault) (w : Lent) → (fault ≡ WordsFault.Usage → o ≡ None) → StopsMeant (option_map meaning_of o) w w (words_stop fault)
words_stops o WordsFault.Usage w h = subst (λ (x : Option CommandWords). StopsMeant (option_map meaning_of x) w w Stop.Usage) (sym (h refl)) refl
words_stops None WordsFault.NoMemory w h = refl
words_stops (Some c) WordsFault.NoMemory w h = (refl, refl, inl (put_nothing (meaning_of c) w w (unput w.keeper)))

-- ---- out, where nothing was written

nothing_added : (out : SinkShown) → AddedWhole out out []
nothing_added out = record { bytes = same out.written; calls = omega arith }
  where
    same : (o : Option (List ℕ)) → Added o o []
    same None = tt
    same (Some old) = sym (append-nil old)

nothing_before : (m : Meaning) (r : Refused) (out out1 : SinkShown) → out1 ≡ out → WritesBefore m r [] out out1
nothing_before m r out out1 e = record { written = subst (λ (x : SinkShown). AddedWhole out x []) (sym e) (nothing_added out); silent = λ n. e; early = λ early. e }

-- by a command that doesn't talk
nothing_given : (m : Meaning) (file : List ℕ) (before after : World) → m.talks ≡ false → after.out ≡ before.out → WritesGiven m file before after
nothing_given m file before after n e = record { silent = λ t. e; lines = λ t. absurd (true≢false (sym t ∙ n)) }

-- ---- the statuses

module _ (i i1 : SourceShown) (out out1 err err1 : SinkShown) (k k1 : LinkShown) (ls ls1 : List LinkShown) where
  pub prints_end : (o : Option Meaning) (text : List ℕ) → ForMeant o (λ m. Finishes m (lent i k ls) (lent i1 k1 ls1) text × IsReadBy m.reads_input i i1) → AddedWhole out out1 text → err1 ≡ err
      → Holds o Prints (world i out err k ls) (world i1 out1 err1 k1 ls1)
  prints_end None text f a q = absurd f
  prints_end (Some m) text f a q = (text, a, f.0, f.1, q)

  pub out_failed : (o : Option Meaning) (text : List ℕ) → ForMeant o (λ m. Finishes m (lent i k ls) (lent i1 k1 ls1) text × IsReadBy m.reads_input i i1) → AddedFront out out1 text
      → out1.faults ≡ raised out.faults → k1.faults ≡ k.faults → i1.faults ≡ i.faults → Says err err1 (codes "outside: out\n") → Holds o IsOutside (world i out err k ls) (world i1 out1 err1 k1 ls1)
  out_failed None text f a u kf g s = absurd f
  out_failed (Some m) text f a u kf g s = inr (inr (text, s, inl f, u, a, kf, g))

  pub usage_end : (o : Option Meaning) → StopsMeant o (lent i k ls) (lent i1 k1 ls1) Stop.Usage → out1 ≡ out → Says err err1 (codes "usage: dremel load|query|ask|dump|stripe|fsm|schema|explain|gen|trial|session ..\n")
      → IsUsage o (world i out err k ls) (world i1 out1 err1 k1 ls1)
  usage_end None h e s = (refl, s, ap (λ (x : Lent). x.input) h, e, ap (λ (x : Lent). x.keeper) h, ap (λ (x : Lent). x.links) h)
  usage_end (Some m) h e s = absurd h

  pub usage_counts : (o : Option Meaning) → StopsMeant o (lent i k ls) (lent i1 k1 ls1) Stop.Usage → out1 ≡ out → SameCounts (world i out err k ls) (world i1 out1 err1 k1 ls1)
  usage_counts None h e = record { input = ap (λ (x : Lent). x.input.faults) h; out = ap (λ (x : SinkShown). x.faults) e; keeper = ap (λ (x : Lent). x.keeper.faults) h }
  usage_counts (Some m) h e = absurd h

  pub memory_end : (o : Option Meaning) → StopsMeant o (lent i k ls) (lent i1 k1 ls1) Stop.NoMemory → out1 ≡ out → Says err err1 (codes "no memory\n") → IsMemory o (world i out err k ls) (world i1 out1 err1 k1 ls1)
  memory_end None h e s = (s, e, ap (λ (x : Lent). x.keeper) h)
  memory_end (Some m) h e s = (s, inl e, h.2)

  pub memory_counts : (o : Option Meaning) → StopsMeant o (lent i k ls) (lent i1 k1 ls1) Stop.NoMemory → out1 ≡ out → SameCounts (world i out err k ls) (world i1 out1 err1 k1 ls1)
  memory_counts None h e = record { input = ap (λ (x : Lent). x.input.faults) h; out = ap (λ (x : SinkShown). x.faults) e; keeper = ap (λ (x : Lent). x.keeper.faults) h }
  memory_counts (Some m) h e = record { input = h.1; out = ap (λ (x : SinkShown). x.faults) e; keeper = h.0 }

  pub source_failed : (o : Option Meaning) → StopsMeant o (lent i k ls) (lent i1 k1 ls1) Stop.Source → out1 ≡ out → Says err err1 (codes "outside: source\n") → Holds o IsOutside (world i out err k ls) (world i1 out1 err1 k1 ls1)
  source_failed None h e s = absurd h
  source_failed (Some m) h e s = inl (s, h.0, h.3, nothing_given m h.3.file (world i out err k ls) (world i1 out1 err1 k1 ls1) h.4 e, h.1, h.2)

  pub keeper_failed : (o : Option Meaning) → StopsMeant o (lent i k ls) (lent i1 k1 ls1) Stop.Keeper → out1 ≡ out → Says err err1 (codes "outside: keeper\n") → Holds o IsOutside (world i out err k ls) (world i1 out1 err1 k1 ls1)
  keeper_failed None h e s = absurd h
  keeper_failed (Some m) h e s = inr (inl (s, h.0, h.3, h.4, h.1, e, h.2))

  pub refused_end : (o : Option Meaning) (r : Refusal) → StopsMeant o (lent i k ls) (lent i1 k1 ls1) (Stop.Refused r) → out1 ≡ out → Says err err1 (refusal_text (refusal_view r))
      → Holds o IsRefused (world i out err k ls) (world i1 out1 err1 k1 ls1)
  refused_end None r h e s = absurd h
  refused_end (Some m) r h e s = (refusal_view r, s, ([], h.3, nothing_before m (refusal_view r) out out1 e), h.2)

  pub refused_counts : (o : Option Meaning) (r : Refusal) → StopsMeant o (lent i k ls) (lent i1 k1 ls1) (Stop.Refused r) → out1 ≡ out → SameCounts (world i out err k ls) (world i1 out1 err1 k1 ls1)
  refused_counts None r h e = absurd h
  refused_counts (Some m) r h e = record { input = h.1; out = ap (λ (x : SinkShown). x.faults) e; keeper = h.0 }

  -- what is left
  pub left_end : (o : Option Meaning) (left : Vec LeftTablet Global) → StopsMeant o (lent i k ls) (lent i1 k1 ls1) (Stop.Left left) → out1 ≡ out → Says err err1 (left_text (all_left_view left.items))
      → Holds o IsLeft (world i out err k ls) (world i1 out1 err1 k1 ls1)
  left_end None left h e s = absurd h
  left_end (Some m) left h e s = inl (all_left_view left.items, h.1, s, h.4, e, h.2, h.3)

  pub left_counts : (o : Option Meaning) (left : Vec LeftTablet Global) → StopsMeant o (lent i k ls) (lent i1 k1 ls1) (Stop.Left left) → out1 ≡ out → SameCounts (world i out err k ls) (world i1 out1 err1 k1 ls1)
  left_counts None left h e = absurd h
  left_counts (Some m) left h e = record { input = ap (λ (x : SourceShown). x.faults) h.2; out = ap (λ (x : SinkShown). x.faults) e; keeper = h.0 }

  pub left_memory : (o : Option Meaning) (left : Vec LeftTablet Global) → StopsMeant o (lent i k ls) (lent i1 k1 ls1) (Stop.Left left) → out1 ≡ out → Says err err1 (codes "no memory\n") → IsMemory o (world i out err k ls) (world i1 out1 err1 k1 ls1)
  left_memory None left h e s = absurd h
  left_memory (Some m) left h e s = (s, inl e, inl (put_nothing m (lent i k ls) (lent i1 k1 ls1) h.3))

  -- the text of most tablets
  most_is : (m : Meaning) (text : String Global) (left : Vec LeftTablet Global) → StopsWith m (lent i k ls) (lent i1 k1 ls1) (Stop.Most text left) → EndsBut m (world i out err k ls) (world i1 out1 err1 k1 ls1) (all_left_view left.items) (string_bytes text)
  most_is m text left h = (h.1, h.4, h.2, h.3)

  pub most_end : (o : Option Meaning) (text : String Global) (left : Vec LeftTablet Global) → StopsMeant o (lent i k ls) (lent i1 k1 ls1) (Stop.Most text left) → AddedWhole out out1 (string_bytes text) → Says err err1 (left_text (all_left_view left.items))
      → Holds o PrintsMost (world i out err k ls) (world i1 out1 err1 k1 ls1)
  most_end None text left h a s = absurd h
  most_end (Some m) text left h a s = (string_bytes text, all_left_view left.items, a, s, most_is m text left h)

  pub most_failed : (o : Option Meaning) (text : String Global) (left : Vec LeftTablet Global) → StopsMeant o (lent i k ls) (lent i1 k1 ls1) (Stop.Most text left) → AddedFront out out1 (string_bytes text) → out1.faults ≡ raised out.faults
      → Says err err1 (codes "outside: out\n") → Holds o IsOutside (world i out err k ls) (world i1 out1 err1 k1 ls1)
  most_failed None text left h a u s = absurd h
  most_failed (Some m) text left h a u s = inr (inr (string_bytes text, s, inr (inl (all_left_view left.items, most_is m text left h)), u, a, h.0, ap (λ (x : SourceShown). x.faults) h.2))

  pub most_counts : (o : Option Meaning) (text : String Global) (left : Vec LeftTablet Global) → StopsMeant o (lent i k ls) (lent i1 k1 ls1) (Stop.Most text left) → out1.faults ≡ out.faults → SameCounts (world i out err k ls) (world i1 out1 err1 k1 ls1)
  most_counts None text left h e = absurd h
  most_counts (Some m) text left h e = record { input = ap (λ (x : SourceShown). x.faults) h.2; out = e; keeper = h.0 }

  pub most_memory : (o : Option Meaning) (text : String Global) (left : Vec LeftTablet Global) → StopsMeant o (lent i k ls) (lent i1 k1 ls1) (Stop.Most text left) → out1 ≡ out → Says err err1 (codes "no memory\n")
      → IsMemory o (world i out err k ls) (world i1 out1 err1 k1 ls1)
  most_memory None text left h e s = absurd h
  most_memory (Some m) text left h e s = (s, inl e, inl (put_nothing m (lent i k ls) (lent i1 k1 ls1) h.3))

  pub file_end : (o : Option Meaning) (c : Cause) → StopsMeant o (lent i k ls) (lent i1 k1 ls1) (Stop.LeftFile c) → out1 ≡ out → Says err err1 (left_file_text (told_cause c)) → Holds o IsLeft (world i out err k ls) (world i1 out1 err1 k1 ls1)
  file_end None c h e s = absurd h
  file_end (Some m) c h e s = inr (c, h.1, s, h.4, e, h.2, h.3)

  pub file_counts : (o : Option Meaning) (c : Cause) → StopsMeant o (lent i k ls) (lent i1 k1 ls1) (Stop.LeftFile c) → out1 ≡ out → SameCounts (world i out err k ls) (world i1 out1 err1 k1 ls1)
  file_counts None c h e = absurd h
  file_counts (Some m) c h e = record { input = ap (λ (x : SourceShown). x.faults) h.2; out = ap (λ (x : SinkShown). x.faults) e; keeper = h.0 }

  -- what a stop says against a complete run
  pub usage_incomplete : (o : Option Meaning) (n : ℕ) → StopsMeant o (lent i k ls) (lent i1 k1 ls1) Stop.Usage → IsComplete o n (world i out err k ls) (world i1 out1 err1 k1 ls1)
  usage_incomplete None n h accepted calm = absurd accepted
  usage_incomplete (Some m) n h accepted calm = absurd h

  pub source_incomplete : (o : Option Meaning) (n : ℕ) → StopsMeant o (lent i k ls) (lent i1 k1 ls1) Stop.Source → IsComplete o n (world i out err k ls) (world i1 out1 err1 k1 ls1)
  source_incomplete None n h accepted calm = absurd h
  source_incomplete (Some m) n h accepted calm = absurd (calm.input h.0)

  pub keeper_incomplete : (o : Option Meaning) (n : ℕ) → StopsMeant o (lent i k ls) (lent i1 k1 ls1) Stop.Keeper → IsComplete o n (world i out err k ls) (world i1 out1 err1 k1 ls1)
  keeper_incomplete None n h accepted calm = absurd h
  keeper_incomplete (Some m) n h accepted calm = absurd (calm.keeper h.0)

  -- what is refused isn't accepted
  pub refused_complete : (m : Meaning) (r : Refused) (text : List ℕ) → RefusesSo m r text (lent i k ls) (lent i1 k1 ls1) → IsComplete (Some m) 2 (world i out err k ls) (world i1 out1 err1 k1 ls1)
  refused_complete m r text h accepted calm = by m.reads_input i.left (λ x. accepted r (h.file, h.is_file, x)) 2 refl
    where
      told : ForInput m.reads_input i.left (λ input. first_refusal (outcome_on m h.file input) ≡ Some r)
      told = input_so m.reads_input i.left (λ input. IsRefusedSo r text k k1 (outcome_on m h.file input)) (λ input. first_refusal (outcome_on m h.file input) ≡ Some r) (λ input p. p.0) h.refuses

      by : (b : Bool) (left : Option (List ℕ))
          → (ByInput b left (IsEarly r × RefusesAlways (outcome_on m h.file) r) (ForInput m.reads_input i.left (λ input. first_refusal (outcome_on m h.file input) ≡ Some r)) → ⊥)
          → (status : ℕ) → status ≡ 2 → (status ≡ 0) ⊎ ((status ≡ 5) ⊎ ((((status ≡ 3) ⊎ (status ≡ 6)) × (0 < m.links)) ⊎ ((status ≡ 2) × ByInput b left ⊤ ⊥)))
      by true None n status e = inr (inr (inr (e, tt)))
      by true (Some bytes) n status e = absurd (n told)
      by false left n status e = absurd (n told)

  pub refused_incomplete : (o : Option Meaning) (r : Refusal) → StopsMeant o (lent i k ls) (lent i1 k1 ls1) (Stop.Refused r) → IsComplete o 2 (world i out err k ls) (world i1 out1 err1 k1 ls1)
  refused_incomplete None r h accepted calm = absurd h
  refused_incomplete (Some m) r h accepted calm = refused_complete m (refusal_view r) [] h.3 accepted calm

  pub left_incomplete : (o : Option Meaning) (left : Vec LeftTablet Global) → StopsMeant o (lent i k ls) (lent i1 k1 ls1) (Stop.Left left) → IsComplete o 3 (world i out err k ls) (world i1 out1 err1 k1 ls1)
  left_incomplete None left h accepted calm = absurd h
  left_incomplete (Some m) left h accepted calm = inr (inr (inl (inl refl, h.1)))

  pub file_incomplete : (o : Option Meaning) (c : Cause) → StopsMeant o (lent i k ls) (lent i1 k1 ls1) (Stop.LeftFile c) → IsComplete o 3 (world i out err k ls) (world i1 out1 err1 k1 ls1)
  file_incomplete None c h accepted calm = absurd h
  file_incomplete (Some m) c h accepted calm = inr (inr (inl (inl refl, h.1)))
