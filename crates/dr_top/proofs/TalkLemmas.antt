-- The ends of a run that holds a session.
use Rattle.std.specs.Prelude.{◌≡◌, ◌≤◌, ◌⊎◌, ℕ, Bool, true, false, List, [], ◌∷◌, ◌++◌, Option, Some, None}
use Rattle.std.proofs.Common.{nat_eq, refl, sym, ap, ◌∙◌, subst, inl, inr, arith, true≢false}
use Rattle.dr_meaning.specs.Schema.{Schema}
use Rattle.dr_sub_meaning.specs.Session.{SessionRefusal, Spoken, spoken}
use Rattle.dr_outside.specs.Faults.{raised}
use Rattle.dr_outside.specs.Source.{SourceShown}
use Rattle.dr_outside.specs.Sink.{SinkShown}
use Rattle.dr_outside.specs.Link.{LinkShown}
use Rattle.dr_load.specs.Puts.{HasPut, HasPutSome}
use Rattle.dr_formats.specs.Loading.{Put}
use Rattle.dr_input.specs.Whole.{whole_lines}
use Rattle.dr_input.specs.Taken.{EndsLine, WhereGiven, WhereTold}
use Rattle.dr_session.specs.Talking as said
use Rattle.dr_session.specs.Talking.{WhereRead, Prints, PrintsBefore, TalksToEnd}
use Rattle.dr_commands.specs.Refusals.{session_refused}
use Rattle.dr_commands.specs.Meaning.{Meaning, Outcome, done, stops, puts_in, first_refusal}
use Rattle.dr_commands.specs.Session.{session_outcome}
use Rattle.dr_top.specs.World.{lent, world, ForInput, outcome_on, Opens, OpensBy, Accepts}
use Rattle.dr_top.specs.Keeping.{PutsGiven, IsRefusedSo, RefusesSo, puts_before_end}
use Rattle.dr_top.specs.Stops.{IsReadBy}
use Rattle.dr_top.specs.Answers.{Gives, Finishes, BeginsTalk}
use Rattle.dr_top.specs.Talking.{PrintsGiven, PrintsFront, SpeaksFront}
use Rattle.dr_top.specs.Ends as ends
use Rattle.dr_top.specs.Ends.{ForMeant, Holds, IsOutside, IsMemory, SameCounts, IsCalm, IsComplete, IsServed}
use Rattle.dr_top.specs.Held.{IsHeldRefused, IsHeldOutside, IsHeldWanting}
use Rattle.dr_top.proofs.OutcomeLemmas.{told_so, told_input, each_input}
use Rattle.dr_top.proofs.PutLemmas.{put_none, some_of_none, put_nothing, lines_given}
use Rattle.dr_top.proofs.SessionEnds.{spoken_puts, spoken_late, spoken_accepted, whole_spoken}
use Rattle.dr_top.proofs.RunLemmas.{refused_complete}
use Rattle.dr_top.proofs.ServedLemmas.{served_else}

-- ---- what was read

read_so : (before now : Option (List ℕ)) (P Q : List ℕ → List ℕ → Type 0) → ((read rest : List ℕ) → P read rest → Q read rest) → WhereRead before now P → WhereRead before now Q
read_so None now P Q f h = tt
read_so (Some all) None P Q f h = h
read_so (Some all) (Some rest) P Q f h = (h.0, h.1, f h.0 rest h.2)

read_given : (before now : Option (List ℕ)) (P : List ℕ → List ℕ → Type 0) (Q : List ℕ → Type 0) → ((read rest : List ℕ) → P read rest → Q read) → WhereRead before now P → WhereGiven before now Q
read_given None now P Q f h = tt
read_given (Some all) None P Q f h = h
read_given (Some all) (Some rest) P Q f h = (h.0, h.1, f h.0 rest h.2)

-- ---- from what the lines come to, the command's outcome

module _ (s : Schema) (on : List ℕ → Outcome) (speaks : (input : List ℕ) → on input ≡ session_outcome (spoken s input)) where
  is_done : (text input : List ℕ) → Prints s text input → on input ≡ done text []
  is_done text input e = speaks input ∙ ap session_outcome e

  is_stopped : (r : SessionRefusal) (text input : List ℕ) → PrintsBefore s r text input → on input ≡ stops text (session_refused r)
  is_stopped r text input e = speaks input ∙ ap session_outcome e

  puts_nothing : (input : List ℕ) → puts_in (on input) ≡ []
  puts_nothing input = ap puts_in (speaks input) ∙ spoken_puts (spoken s input)

  refuses_lines : Opens on
  refuses_lines = λ input r early e. spoken_late (spoken s input) r early (ap first_refusal (sym (speaks input)) ∙ e)

  given_text : (text : List ℕ) (i i1 : SourceShown) → said.PrintsGiven s text i.left i1.left → PrintsGiven on text i i1
  given_text text i i1 h =
      read_so i.left i1.left (λ read rest. Prints s text (whole_lines read) ⊎ ((rest ≡ []) × Prints s text read)) (λ read rest. (on (whole_lines read) ≡ done text []) ⊎ ((rest ≡ []) × (on read ≡ done text []))) each h
    where
      each : (read rest : List ℕ) → Prints s text (whole_lines read) ⊎ ((rest ≡ []) × Prints s text read) → (on (whole_lines read) ≡ done text []) ⊎ ((rest ≡ []) × (on read ≡ done text []))
      each read rest (inl e) = inl (is_done text (whole_lines read) e)
      each read rest (inr e) = inr (e.0, is_done text read e.1)

  front_text : (text : List ℕ) (i i1 : SourceShown) → said.PrintsFront s text i.left i1.left → PrintsFront on text i i1
  front_text text i i1 h =
      read_so i.left i1.left (λ read rest. (front : List ℕ) × (more : List ℕ) × (read ≡ front ++ more) × EndsLine front (more ++ rest) × Prints s text front)
      (λ read rest. (front : List ℕ) × (more : List ℕ) × (read ≡ front ++ more) × EndsLine front (more ++ rest) × (on front ≡ done text []))
      (λ read rest g. (g.0, g.1, g.2, g.3, is_done text g.0 g.4)) h

  -- no whole line that the source gave is refused
  accepts_given : (text : List ℕ) (i i1 : SourceShown) → said.PrintsGiven s text i.left i1.left → Accepts on i i1
  accepts_given text i i1 h =
      read_given i.left i1.left (λ read rest. Prints s text (whole_lines read) ⊎ ((rest ≡ []) × Prints s text read)) (λ read. first_refusal (on (whole_lines read)) ≡ None) each h
    where
      each : (read rest : List ℕ) → Prints s text (whole_lines read) ⊎ ((rest ≡ []) × Prints s text read) → first_refusal (on (whole_lines read)) ≡ None
      each read rest (inl e) = ap first_refusal (is_done text (whole_lines read) e)
      each read rest (inr e) = ap first_refusal (speaks (whole_lines read)) ∙ spoken_accepted (spoken s (whole_lines read)) (whole_spoken s read (ap (λ (x : Spoken). x.refusal) e.1))

-- ---- the clauses of a run

module _ (m : Meaning) (s : Schema) (i i1 : SourceShown) (out out1 err err1 : SinkShown) (k k1 : LinkShown) (ls ls1 : List LinkShown) (b : BeginsTalk m (lent i k ls) (lent i k1 ls1) s) where
  talks_not : m.talks ≡ false → ⊥
  talks_not n = true≢false (sym b.talks ∙ n)

  told : (P : List ℕ → Type 0) → WhereTold i.left P → ForInput m.reads_input i.left P
  told P h = told_input m.reads_input i.left P b.reads h

  opens : Opens (outcome_on m b.file)
  opens = refuses_lines s (outcome_on m b.file) b.speaks

  none_put : HasPut [] k k1
  none_put = put_none k k1 b.unput

  -- 0
  finishes : (text : List ℕ) → WhereTold i.left (Prints s text) → Finishes m (lent i k ls) (lent i1 k1 ls1) text
  finishes text h = record {
    file = b.file;
    is_file = b.is_file;
    gives = told (λ input. Gives (lent i k ls) (lent i1 k1 ls1) text (outcome_on m b.file input))
        (told_so i.left (Prints s text) (λ input. Gives (lent i k ls) (lent i1 k1 ls1) text (outcome_on m b.file input))
        (λ input e. subst (Gives (lent i k ls) (lent i1 k1 ls1) text) (sym (is_done s (outcome_on m b.file) b.speaks text input e)) (refl, none_put)) h);
    opens = subst (λ (x : Bool). OpensBy x (outcome_on m b.file)) (sym b.reads) opens;
  }

  prints : TalksToEnd s i i1 out out1 → err1 ≡ err → ends.Prints m (world i out err k ls) (world i1 out1 err1 k1 ls1)
  prints t e = (t.text, t.writes, finishes t.text t.prints, subst (λ (x : Bool). IsReadBy x i i1) (sym b.reads) t.at_end, e)

  -- 2
  refuses : (r : SessionRefusal) (text : List ℕ) → WhereTold i.left (PrintsBefore s r text) → RefusesSo m (session_refused r) text (lent i k ls) (lent i1 k1 ls1)
  refuses r text h = record {
    file = b.file;
    is_file = b.is_file;
    refuses = told (λ input. IsRefusedSo (session_refused r) text k k1 (outcome_on m b.file input))
        (told_so i.left (PrintsBefore s r text) (λ input. IsRefusedSo (session_refused r) text k k1 (outcome_on m b.file input))
        (λ input e. subst (IsRefusedSo (session_refused r) text k k1) (sym (is_stopped s (outcome_on m b.file) b.speaks r text input e)) (refl, refl, none_put)) h);
    early = λ early. absurd early;
  }

  is_refused : IsHeldRefused s i i1 out out1 err err1 → ends.IsRefused m (world i out err k ls) (world i1 out1 err1 k1 ls1)
  is_refused t = (
    session_refused t.0,
    t.2,
    (t.1.text, refuses t.0 t.1.text t.1.prints, record { written = t.1.writes; silent = λ n. absurd (talks_not n); early = λ early. absurd early }),
    b.links,
  )

  -- 4
  given : (text : List ℕ) → said.PrintsGiven s text i.left i1.left → PutsGiven m (lent i k ls) (lent i1 k1 ls1)
  given text h =
      let on = outcome_on m b.file in
      let accepts : Accepts on i i1 = accepts_given s on b.speaks text i i1 h in record {
        file = b.file;
        is_file = b.is_file;
        opens = opens;
        accepts = accepts;
        puts = each_input m.reads_input i.left (λ input. HasPutSome (puts_before_end (on input)) k k1) (λ input. some_of_none (puts_before_end (on input)) k k1 b.unput);
        given = lines_given i.left i1.left (λ read. first_refusal (on (whole_lines read)) ≡ None) (λ lines. HasPut (puts_in (on (lines ++ 10 ∷ []))) k k1)
            (λ lines. subst (λ (ps : List Put). HasPut ps k k1) (sym (puts_nothing s on b.speaks (lines ++ 10 ∷ []))) none_put) accepts;
      }

  speaks_front : (text : List ℕ) → said.PrintsFront s text i.left i1.left → SpeaksFront m (world i out err k ls) (world i1 out1 err1 k1 ls1) text
  speaks_front text h = record { talks = b.talks; file = b.file; is_file = b.is_file; prints = front_text s (outcome_on m b.file) b.speaks text i i1 h }

  is_outside : k1.faults ≡ k.faults → IsHeldOutside s i i1 out out1 err err1 → IsOutside m (world i out err k ls) (world i1 out1 err1 k1 ls1)
  unfolding given
  is_outside c (inl t) = inl (
    t.1,
    t.0.input_failed,
    given t.0.text t.0.prints,
    record { silent = λ n. absurd (talks_not n); lines = λ talks. (t.0.text, t.0.writes, given_text s (outcome_on m b.file) b.speaks t.0.text i i1 t.0.prints) },
    c,
    b.links,
  )
  is_outside c (inr t) = inr (inr (t.0.text, t.1, inr (inr (speaks_front t.0.text t.0.prints)), t.0.out_failed, t.0.writes, c, t.0.input_calm))

  -- 5
  is_memory : IsHeldWanting s i i1 out out1 err err1 → IsMemory (Some m) (world i out err k ls) (world i1 out1 err1 k1 ls1)
  is_memory t = (t.1, inr (t.0.text, speaks_front t.0.text t.0.prints, t.0.writes), inl (put_nothing m (lent i k ls) (lent i1 k1 ls1) b.unput))

-- ---- by the status

-- a session whose source was as before when it began
module _ (s : Schema) (i im i1 : SourceShown) (out out1 err err1 : SinkShown) (k k1 : LinkShown) (ls ls1 : List LinkShown) (n : ℕ)
    (ends_at_end : n ≡ 0 → TalksToEnd s im i1 out out1) (silent : n ≡ 0 → err1 ≡ err) (refused : n ≡ 2 → IsHeldRefused s im i1 out out1 err err1)
    (outside : n ≡ 4 → IsHeldOutside s im i1 out out1 err err1) (wanting : n ≡ 5 → IsHeldWanting s im i1 out out1 err err1)
    (known : (n ≡ 0) ⊎ ((n ≡ 2) ⊎ ((n ≡ 4) ⊎ (n ≡ 5)))) where
  begun : (m : Meaning) → BeginsTalk m (lent i k ls) (lent im k1 ls1) s → BeginsTalk m (lent i k ls) (lent i k1 ls1) s
  begun m b = subst (λ (x : SourceShown). BeginsTalk m (lent i k ls) (lent x k1 ls1) s) b.unread b

  pub talk_prints : (o : Option Meaning) → ForMeant o (λ m. BeginsTalk m (lent i k ls) (lent im k1 ls1) s) → n ≡ 0 → Holds o ends.Prints (world i out err k ls) (world i1 out1 err1 k1 ls1)
  talk_prints None b e = absurd b
  talk_prints (Some m) b e = prints m s i i1 out out1 err err1 k k1 ls ls1 (begun m b) (subst (λ (x : SourceShown). TalksToEnd s x i1 out out1) b.unread (ends_at_end e)) (silent e)

  refused_line : (m : Meaning) → BeginsTalk m (lent i k ls) (lent im k1 ls1) s → n ≡ 2 → ends.IsRefused m (world i out err k ls) (world i1 out1 err1 k1 ls1)
  refused_line m b e = is_refused m s i i1 out out1 err err1 k k1 ls ls1 (begun m b) (subst (λ (x : SourceShown). IsHeldRefused s x i1 out out1 err err1) b.unread (refused e))

  pub talk_refused : (o : Option Meaning) → ForMeant o (λ m. BeginsTalk m (lent i k ls) (lent im k1 ls1) s) → n ≡ 2 → Holds o ends.IsRefused (world i out err k ls) (world i1 out1 err1 k1 ls1)
  talk_refused None b e = absurd b
  talk_refused (Some m) b e = refused_line m b e

  pub talk_outside : (o : Option Meaning) → k1.faults ≡ k.faults → ForMeant o (λ m. BeginsTalk m (lent i k ls) (lent im k1 ls1) s) → n ≡ 4 → Holds o IsOutside (world i out err k ls) (world i1 out1 err1 k1 ls1)
  talk_outside None c b e = absurd b
  talk_outside (Some m) c b e = is_outside m s i i1 out out1 err err1 k k1 ls ls1 (begun m b) c (subst (λ (x : SourceShown). IsHeldOutside s x i1 out out1 err err1) b.unread (outside e))

  pub talk_memory : (o : Option Meaning) → ForMeant o (λ m. BeginsTalk m (lent i k ls) (lent im k1 ls1) s) → n ≡ 5 → IsMemory o (world i out err k ls) (world i1 out1 err1 k1 ls1)
  talk_memory None b e = absurd b
  talk_memory (Some m) b e = is_memory m s i i1 out out1 err err1 k k1 ls ls1 (begun m b) (subst (λ (x : SourceShown). IsHeldWanting s x i1 out out1 err err1) b.unread (wanting e))

  -- at another status
  never : (j : ℕ) → (0 ≡ j → ⊥) → (2 ≡ j → ⊥) → (4 ≡ j → ⊥) → (5 ≡ j → ⊥) → n ≡ j → ⊥
  never j a b c d e = by known
    where
      by : (n ≡ 0) ⊎ ((n ≡ 2) ⊎ ((n ≡ 4) ⊎ (n ≡ 5))) → ⊥
      by (inl f) = a (sym f ∙ e)
      by (inr (inl f)) = b (sym f ∙ e)
      by (inr (inr (inl f))) = c (sym f ∙ e)
      by (inr (inr (inr f))) = d (sym f ∙ e)

  pub talk_usage : n ≡ 1 → ⊥
  talk_usage e = never 1 (λ f. omega (arith, f)) (λ f. omega (arith, f)) (λ f. omega (arith, f)) (λ f. omega (arith, f)) e

  pub talk_left : n ≡ 3 → ⊥
  talk_left e = never 3 (λ f. omega (arith, f)) (λ f. omega (arith, f)) (λ f. omega (arith, f)) (λ f. omega (arith, f)) e

  pub talk_most : n ≡ 6 → ⊥
  talk_most e = never 6 (λ f. omega (arith, f)) (λ f. omega (arith, f)) (λ f. omega (arith, f)) (λ f. omega (arith, f)) e

  pub talk_known : n ≤ 6
  talk_known = by known
    where
      by : (n ≡ 0) ⊎ ((n ≡ 2) ⊎ ((n ≡ 4) ⊎ (n ≡ 5))) → n ≤ 6
      by (inl f) = omega (arith, f)
      by (inr (inl f)) = omega (arith, f)
      by (inr (inr (inl f))) = omega (arith, f)
      by (inr (inr (inr f))) = omega (arith, f)

  pub talk_calm : (o : Option Meaning) → k1.faults ≡ k.faults → ForMeant o (λ m. BeginsTalk m (lent i k ls) (lent im k1 ls1) s) → (n ≡ 4 → ⊥) → SameCounts (world i out err k ls) (world i1 out1 err1 k1 ls1)
  talk_calm None c b other = absurd b
  talk_calm (Some m) c b other = by known
    where
      counts : i1.faults ≡ im.faults → out1.faults ≡ out.faults → SameCounts (world i out err k ls) (world i1 out1 err1 k1 ls1)
      counts f g = record { input = f ∙ ap (λ (x : SourceShown). x.faults) b.unread; out = g; keeper = c }

      by : (n ≡ 0) ⊎ ((n ≡ 2) ⊎ ((n ≡ 4) ⊎ (n ≡ 5))) → SameCounts (world i out err k ls) (world i1 out1 err1 k1 ls1)
      by (inl f) = let t = ends_at_end f in counts t.input_calm t.out_calm
      by (inr (inl f)) = let t = refused f in counts t.1.input_calm t.1.out_calm
      by (inr (inr (inl f))) = absurd (other f)
      by (inr (inr (inr f))) = let t = wanting f in counts t.0.input_calm t.0.out_calm

  pub talk_complete : (o : Option Meaning) → ForMeant o (λ m. BeginsTalk m (lent i k ls) (lent im k1 ls1) s) → IsComplete o n (world i out err k ls) (world i1 out1 err1 k1 ls1)
  talk_complete None b = absurd b
  talk_complete (Some m) b = by known
    where
      failed : IsHeldOutside s im i1 out out1 err err1 → IsCalm (world i out err k ls) (world i1 out1 err1 k1 ls1) → ⊥
      failed (inl t) calm = calm.input (t.0.input_failed ∙ ap (λ (x : SourceShown). raised x.faults) b.unread)
      failed (inr t) calm = calm.out t.0.out_failed

      by : (n ≡ 0) ⊎ ((n ≡ 2) ⊎ ((n ≡ 4) ⊎ (n ≡ 5))) → IsComplete (Some m) n (world i out err k ls) (world i1 out1 err1 k1 ls1)
      by (inl f) = λ accepted calm. inl f
      by (inr (inl f)) =
          let r = refused_line m b f in
          subst (λ (x : ℕ). IsComplete (Some m) x (world i out err k ls) (world i1 out1 err1 k1 ls1)) (sym f)
          (refused_complete i i1 out out1 err err1 k k1 ls ls1 m r.0 r.2.0 r.2.1)
      by (inr (inr (inl f))) = λ accepted calm. absurd (failed (outside f) calm)
      by (inr (inr (inr f))) = λ accepted calm. inr (inl f)

  pub talk_served : (o : Option Meaning) → IsServed o n (world i out err k ls)
  talk_served o = by known
    where
      served : (j : ℕ) → nat_eq j 3 ≡ false → nat_eq j 6 ≡ false → n ≡ j → IsServed o n (world i out err k ls)
      served j a b f = served_else o (world i out err k ls) n (ap (λ (x : ℕ). nat_eq x 3) f ∙ a) (ap (λ (x : ℕ). nat_eq x 6) f ∙ b)

      by : (n ≡ 0) ⊎ ((n ≡ 2) ⊎ ((n ≡ 4) ⊎ (n ≡ 5))) → IsServed o n (world i out err k ls)
      by (inl f) = served 0 refl refl f
      by (inr (inl f)) = served 2 refl refl f
      by (inr (inr (inl f))) = served 4 refl refl f
      by (inr (inr (inr f))) = served 5 refl refl f
