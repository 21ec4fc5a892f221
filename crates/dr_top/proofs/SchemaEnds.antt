-- The answer of `schema`, from its steps.
use Rattle.std.specs.Prelude.{◌≡◌, ◌≢◌, IsTrue, IsSome, ℕ, true, false, List, [], ◌∷◌, Option, Some, None, Result, Ok, Err}
use Rattle.std.proofs.Common.{refl, sym, subst, true≢false, inl, arith}
use Rattle.dr_meaning.specs.Schema.{Schema}
use Rattle.dr_meaning.specs.SchemaText.{schema_text}
use Rattle.dr_formats.specs.File.{FileCause, bad_footer, bad_schema, bad_codec, bad_data, schema_of_file}
use Rattle.dr_outside.specs.Faults.{raised, Rose}
use Rattle.dr_outside.specs.Source.{SourceShown}
use Rattle.dr_outside.specs.Link.{Files, LinkShown, Holds, Lacks}
use Rattle.dr_outside.specs.declared.cause.Cause.{Cause}
use Rattle.dr_outside.specs.Telling.{TellsFile}
use Rattle.dr_file.specs.Schemas.{cause_in}
use Rattle.dr_file.specs.OpenedFiles.{IsCauseOf, HasCounts, is_link_fault}
use Rattle.dr_file.specs.declared.file_fault.FileFault.{FileFault}
use Rattle.dr_reading.specs.Held.{held_at, held_file}
use Rattle.dr_reading.specs.Causes.{is_read}
use Rattle.dr_commands.specs.ShowSchema.{ShowSchemaWords, show_schema_meaning}
use Rattle.dr_top.specs.World.{lent}
use Rattle.dr_top.specs.Reading.{IsLookedAt, IsSchemaShown, IsSchemaCause, LeavesFile}
use Rattle.dr_top.specs.Answers.{Finishes}
use Rattle.dr_top.specs.Stops.{SchemaStops, StopsWith, file_stop}
use Rattle.dr_top.specs.declared.stop.Stop.{Stop}
use Rattle.dr_scan.proofs.CopyLemmas.{leads_more}
use Rattle.dr_top.proofs.PutLemmas.{unput, put_nothing, put_none}

-- ---- the text

pub shown : (held : Option Files) (path text : List ℕ) (s : Schema) → ((bytes : List ℕ) → TellsFile held path bytes → schema_of_file bytes ≡ Ok s) → (Lacks held path → false ≡ true) → text ≡ schema_text s → IsSchemaShown (held_at held path) text
shown None path text s h none e = tt
shown (Some files) path text s h none e = go (files path) refl
  where
    go : (o : Option (List ℕ)) → files path ≡ o → IsSchemaShown (held_file o) text
    go None q = absurd (true≢false (sym (none q)))
    go (Some bytes) q = (s, h bytes q, e)

-- ---- the cause

cause_is : (r : Result Schema FileCause) (c : FileCause) → cause_in r ≡ Some c → r ≡ Err c
cause_is (Ok s) c e = cc
cause_is (Err x) c e = cc

rose : (old new before after : ℕ) → (before ≡ old) × (after ≡ new) × (new ≡ raised old) → Rose before after
rose old new before after h = subst (λ (n : ℕ). Rose before n) (sym h.1) (subst (λ (n : ℕ). Rose n new) (sym h.0) (subst (λ (n : ℕ). Rose old n) (sym h.2) (omega arith)))

by_bytes : (bytes : List ℕ) (c : Cause) (old new : ℕ) → HasCounts old new (FileFault.Why c) → IsCauseOf (FileFault.Why c) (cause_in (schema_of_file bytes)) → IsSchemaCause (held_file (Some bytes)) c
by_bytes bytes (Cause.ReadFailed before after) old new n h = rose old new before after n
by_bytes bytes Cause.BadFooter old new n h = cause_is (schema_of_file bytes) bad_footer h
by_bytes bytes Cause.BadSchema old new n h = cause_is (schema_of_file bytes) bad_schema h
by_bytes bytes Cause.BadCodec old new n h = cause_is (schema_of_file bytes) bad_codec h
by_bytes bytes Cause.BadData old new n h = cause_is (schema_of_file bytes) bad_data h

by_absence : (c : Cause) (old new : ℕ) → HasCounts old new (FileFault.Why c) → is_link_fault (FileFault.Why c) ≡ true → IsSchemaCause (held_file None) c
by_absence (Cause.ReadFailed before after) old new n h = rose old new before after n
by_absence Cause.BadFooter old new n h = absurd (true≢false (sym h))
by_absence Cause.BadSchema old new n h = absurd (true≢false (sym h))
by_absence Cause.BadCodec old new n h = absurd (true≢false (sym h))
by_absence Cause.BadData old new n h = absurd (true≢false (sym h))

untold_cause : (path : List ℕ) (c : Cause) (old new : ℕ) → HasCounts old new (FileFault.Why c) → IsSchemaCause (held_at None path) c
untold_cause path (Cause.ReadFailed before after) old new n = rose old new before after n
untold_cause path Cause.BadFooter old new n = tt
untold_cause path Cause.BadSchema old new n = tt
untold_cause path Cause.BadCodec old new n = tt
untold_cause path Cause.BadData old new n = tt

pub file_cause : (held : Option Files) (path : List ℕ) (c : Cause) (old new : ℕ) → HasCounts old new (FileFault.Why c) → ((bytes : List ℕ) → TellsFile held path bytes → IsCauseOf (FileFault.Why c) (cause_in (schema_of_file bytes)))
    → (Lacks held path → is_link_fault (FileFault.Why c) ≡ true) → IsSchemaCause (held_at held path) c
file_cause None path c old new n h none = untold_cause path c old new n
file_cause (Some files) path c old new n h none = go (files path) refl
  where
    go : (o : Option (List ℕ)) → files path ≡ o → IsSchemaCause (held_file o) c
    go None e = by_absence c old new n (none e)
    go (Some bytes) e = by_bytes bytes c old new n (h bytes e)

not_read : (c : Cause) → is_link_fault (FileFault.Why c) ≡ false → is_read c ≡ false
not_read (Cause.ReadFailed before after) h = absurd (true≢false h)
not_read Cause.BadFooter h = refl
not_read Cause.BadSchema h = refl
not_read Cause.BadCodec h = refl
not_read Cause.BadData h = refl

held_bytes : (held : Option Files) (path : List ℕ) → Holds held path → (bytes : List ℕ) × TellsFile held path bytes
held_bytes None path h = absurd h
held_bytes (Some files) path h = go (files path) refl h
  where
    go : (o : Option (List ℕ)) → files path ≡ o → IsSome o → (bytes : List ℕ) × (files path ≡ Some bytes)
    go None e i = absurd (true≢false (sym i))
    go (Some bytes) e i = (bytes, e)

pub file_left : (path : List ℕ) (c : Cause) (l l1 : LinkShown) → HasCounts l.faults l1.faults (FileFault.Why c) → ((bytes : List ℕ) → TellsFile l.held path bytes → IsCauseOf (FileFault.Why c) (cause_in (schema_of_file bytes)))
    → (Lacks l.held path → is_link_fault (FileFault.Why c) ≡ true) → (is_link_fault (FileFault.Why c) ≡ false → l1.faults ≡ l.faults)
    → ((bytes : List ℕ) → IsTrue l.is_steady → TellsFile l.held path bytes → is_link_fault (FileFault.Why c) ≡ false) → LeavesFile path c l l1
file_left path c l l1 n h none calm steady =
    (file_cause l.held path c l.faults l1.faults n h none, (λ is holds. let b = held_bytes l.held path holds in not_read c (steady b.0 is b.1)), leads_more l.faults l.faults l1.faults [] (c ∷ []) c refl n calm refl)

pub schema_faults : (path : List ℕ) (fault : FileFault) (l l1 : LinkShown) → HasCounts l.faults l1.faults fault → ((bytes : List ℕ) → TellsFile l.held path bytes → IsCauseOf fault (cause_in (schema_of_file bytes)))
    → (Lacks l.held path → fault ≢ FileFault.NoMemory → is_link_fault fault ≡ true) → (is_link_fault fault ≡ false → l1.faults ≡ l.faults)
    → ((bytes : List ℕ) → IsTrue l.is_steady → TellsFile l.held path bytes → is_link_fault fault ≡ false) → SchemaStops path l l1 (file_stop fault)
schema_faults path FileFault.NoMemory l l1 n h none calm steady = tt
schema_faults path (FileFault.Why c) l l1 n h none calm steady = file_left path c l l1 n h (λ lacks. none lacks (λ e. cc)) calm steady

-- ---- in the program

module _ (w : ShowSchemaWords) (i : SourceShown) (k : LinkShown) (l l1 : LinkShown) (ls : List LinkShown) where
  pub schema_finishes : (path text : List ℕ) → path ≡ w.file → IsLookedAt path l l1 text → Finishes (show_schema_meaning w) (lent i k (l ∷ ls)) (lent i k (l1 ∷ ls)) text
  schema_finishes path text p h = record {
    file = [];
    is_file = refl;
    gives = (subst (λ (x : List ℕ). IsLookedAt x l l1 text) p h, put_none k k (unput k));
    opens = tt;
  }

  pub schema_ends : (path : List ℕ) (stop : Stop) → path ≡ w.file → SchemaStops path l l1 stop → StopsWith (show_schema_meaning w) (lent i k (l ∷ ls)) (lent i k (l1 ∷ ls)) stop
  schema_ends path Stop.Usage p h = h
  schema_ends path Stop.NoMemory p h = (refl, refl, inl (put_nothing (show_schema_meaning w) (lent i k (l ∷ ls)) (lent i k (l1 ∷ ls)) (unput k)))
  schema_ends path Stop.Source p h = absurd h
  schema_ends path Stop.Keeper p h = absurd h
  schema_ends path (Stop.Refused r) p h = absurd h
  schema_ends path (Stop.Left left) p h = absurd h
  schema_ends path (Stop.Most text left) p h = absurd h
  schema_ends path (Stop.LeftFile c) p h = (refl, omega arith, refl, unput k, ([], refl, subst (λ (x : List ℕ). LeavesFile x c l l1) p h))
