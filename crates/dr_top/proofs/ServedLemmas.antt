-- Where the first link is steady and tells that a copy of each tablet is a file, no tablet is left.
use Rattle.std.proofs.Common.{nat_eq, ◌≡◌, ◌∙◌, inl, inr, ℕ, zero, suc, false, true≢false, List, [], ◌∷◌, Option, Some, None, refl, sym, ap, subst}
use Rattle.std.specs.Prelude.{◌⊎◌, take, IsTrue, IsSome, Ok, Err}
use Rattle.dr_outside.specs.Link.{Files, LinkShown}
use Rattle.dr_outside.specs.Link as Link
use Rattle.dr_outside.specs.declared.cause.Cause.{Cause}
use Rattle.dr_meaning.specs.Schema.{Schema}
use Rattle.dr_meaning.specs.Path.{Leaf}
use Rattle.dr_meaning.specs.Record.{Node}
use Rattle.dr_formats.specs.File.{FileCause, bad_footer, bad_schema, bad_codec, bad_data, schema_of_file}
use Rattle.dr_reading.specs.Held.{Held, present, held_at, held_file}
use Rattle.dr_reading.specs.Causes.{is_read}
use Rattle.dr_reading.specs.Scan.{Copy, Scan}
use Rattle.dr_reading.specs.Given.{IsFileThere, SomeIsFile}
use Rattle.dr_reading.specs.Left.{Tried, LeftTablet, AreTried, LeftUnanswered, no_tablets, is_answered, is_left}
use Rattle.dr_reading.specs.Premises.{EachHasFile}
use Rattle.dr_reading.specs.InTurn.{left_from}
use Rattle.dr_reading.proofs.HeldFileLemmas.{steady_leaves_none}
use Rattle.dr_reading.proofs.ReadingLemmas.{left_holds_no_file}
use Rattle.dr_reading.proofs.InTurnLemmas.{read_in_turn_leaves_just}
use Rattle.dr_serve.specs.Serving.{first_shown}
use Rattle.dr_serve.specs.Counted.{AreLeftOf}
use Rattle.dr_commands.specs.Meaning.{Meaning, Outcome, done, refused, scans, serves, looks_at, stops}
use Rattle.dr_top.specs.World.{World, told_file, file_of, IsTold, IsFileOf, outcome_on, WithFirsts}
use Rattle.dr_top.specs.Reading.{IsLeftWith, HasMost, IsFileLeft, IsSchemaCause, LeavesTablets, LeavesFile}
use Rattle.dr_top.specs.Ends.{Holds, IsLeft, EndsBut, PrintsMost, IsComplete, ScansTable, IsHeldWhole, IsSchemaHeld, IsServed}

-- what holds of the outcome on the file that was read holds of that on the file that is told
outcome_at : (m : Meaning) (k : LinkShown) (P : Outcome → Type 0) (file : List ℕ) → file_of m k ≡ present file → (read : List ℕ) × IsFileOf m k read × P (outcome_on m read []) → P (outcome_on m file [])
outcome_at m k P file told h =
    let is : file ≡ h.0 = subst (λ (t : Held). IsTold t h.0) told h.1 in
    subst (λ (f : List ℕ). P (outcome_on m f [])) (sym is) h.2

-- what is told of the file
whole_told : (m : Meaning) (w : World) (h : IsHeldWhole m w) → file_of m w.keeper ≡ present h.file
whole_told m w h = ap (λ (f : Option (List ℕ)). told_file f w.keeper.held) h.named ∙ (ap (λ (x : Option Files). held_at x h.path) h.keeps ∙ ap held_file h.there)

none_named : (m : Meaning) (w : World) → m.file ≡ None → file_of m w.keeper ≡ present []
none_named m w e = ap (λ (f : Option (List ℕ)). told_file f w.keeper.held) e

-- a steady link doesn't try all copies of a tablet in vain where one of them is a file
module _ (s : Schema) (F : List Leaf) (link : LinkShown) (files : Files) (tells : link.held ≡ Some files) (steady : IsTrue link.is_steady) where
  there : (path bytes : List ℕ) → files path ≡ Some bytes → Link.Holds link.held path
  there path bytes e = subst (λ (o : Option Files). Link.Holds o path) (sym tells) (subst (λ (o : Option (List ℕ)). IsSome o) (sym e) refl)

  not_tried : (cs : List Copy) (ts : List Tried) (R : List Node) → SomeIsFile s F files cs R → AreTried s F link cs ts → ⊥
  not_tried [] ts R f h = f
  not_tried (c ∷ cs) [] R f h = h
  not_tried (c ∷ cs) (t ∷ ts) R (inr f) h = not_tried cs ts R f h.2
  not_tried (c ∷ cs) (t ∷ ts) R (inl f) h = by (files c.path) refl f
    where
      by : (o : Option (List ℕ)) → files c.path ≡ o → IsFileThere s F R (files c.path) → ⊥
      by None e g = subst (IsFileThere s F R) e g
      by (Some bytes) e g = left_holds_no_file s F link files c.path bytes t.cause R tells e h.1 (h.1.1 steady (there c.path bytes e)) (subst (IsFileThere s F R) e g)

  pub all_answered : {HasAnswer : List Copy → Type 0} (t : ℕ) (cs : List (List Copy)) (left : List LeftTablet) → EachHasFile s F files cs → LeftUnanswered s F link HasAnswer t cs left → left ≡ []
  all_answered t cs left f (no_tablets u) = refl
  all_answered t cs left f (is_answered u xs rest more g k) = all_answered (suc u) rest more f.1 k
  all_answered t cs left f (is_left u xs rest more tried g k) = absurd (not_tried xs tried f.0.0 f.0.1 g)

-- so none is left where a query is served
module _ (m : Meaning) (before : World) (h : IsHeldWhole m before) where
  none_unserved : (s : Scan) (n now : ℕ) (left : List LeftTablet) → s ≡ h.scan → AreLeftOf s.schema s.leaves s.tablets (take (suc n) before.links) now left → ⊥
  none_unserved s n now left e w =
      let u : AreLeftOf s.schema s.leaves s.tablets (h.first ∷ take n h.others) now left = subst (λ (ls : List LinkShown). AreLeftOf s.schema s.leaves s.tablets (take (suc n) ls) now left) h.links w in
      let v : AreLeftOf h.scan.schema h.scan.leaves h.scan.tablets (h.first ∷ take n h.others) now left = subst (λ (x : Scan). AreLeftOf x.schema x.leaves x.tablets (h.first ∷ take n h.others) now left) e u in
      v.0 (all_answered h.scan.schema h.scan.leaves h.first h.files h.tells h.steady 0 h.scan.tablets left h.each v.1)

not_left : (m : Meaning) (before after : World) → IsHeldWhole m before → IsLeft m before after → ⊥
not_left m before after h (inl t) = by (outcome_on m h.file []) h.scans_it
    (outcome_at m before.keeper (λ o. IsLeftWith o before.links after.links t.0) h.file (whole_told m before h) t.3)
  where
    in_links : (s : Scan) → s ≡ h.scan → (now : List LinkShown) → WithFirsts (h.first ∷ h.others) now (LeavesTablets s t.0) → ⊥
    in_links s e [] w = w
    in_links s e (k ∷ ks) w =
        let v : LeavesTablets h.scan t.0 h.first k = subst (λ (x : Scan). LeavesTablets x t.0 h.first k) e w in
        v.3 (sym v.2 ∙ steady_leaves_none h.scan.schema h.scan.leaves h.first h.files h.scan.tablets (left_from 0 v.0) h.tells h.steady h.each
        (read_in_turn_leaves_just h.scan.schema h.scan.leaves h.first h.scan.tablets v.0 v.1.each))

    by : (o : Outcome) → ScansTable h.scan o → IsLeftWith o before.links after.links t.0 → ⊥
    by (scans s) e k = in_links s e after.links (subst (λ (ls : List LinkShown). WithFirsts ls after.links (LeavesTablets s t.0)) h.links k)
    by (serves s zero least) e k = e
    by (serves s (suc n) least) e k = none_unserved m before h s n (first_shown after.links).faults t.0 e k.0
    by (looks_at path) e k = e
    by (done text puts) e k = e
    by (refused r puts) e k = e
    by (stops said r) e k = e
not_left m before after h (inr t) = by (outcome_on m h.file []) h.scans_it
    (outcome_at m before.keeper (λ o. IsFileLeft o before.links after.links t.0) h.file (whole_told m before h) t.3)
  where
    by : (o : Outcome) → ScansTable h.scan o → IsFileLeft o before.links after.links t.0 → ⊥
    by (scans s) e k = k
    by (serves s n least) e k = k
    by (looks_at path) e k = e
    by (done text puts) e k = e
    by (refused r puts) e k = e
    by (stops said r) e k = e

not_most : (m : Meaning) (before after : World) (text : List ℕ) (left : List LeftTablet) → IsHeldWhole m before → EndsBut m before after left text → ⊥
not_most m before after text left h t = by (outcome_on m h.file []) h.scans_it
    (outcome_at m before.keeper (λ o. HasMost o before.links after.links left text) h.file (whole_told m before h) t.1)
  where
    by : (o : Outcome) → ScansTable h.scan o → HasMost o before.links after.links left text → ⊥
    by (scans s) e k = k
    by (serves s zero least) e k = e
    by (serves s (suc n) least) e k = none_unserved m before h s n (first_shown after.links).faults left e k.0
    by (looks_at path) e k = e
    by (done text puts) e k = e
    by (refused r puts) e k = e
    by (stops said r) e k = e

-- nor is the file of `schema`
no_cause : (path bytes : List ℕ) (s : Schema) (c : Cause) (l : LinkShown) (files : Files) → l.held ≡ Some files → IsTrue l.is_steady → files path ≡ Some bytes → schema_of_file bytes ≡ Ok s
    → IsSchemaCause (held_at l.held path) c → (IsTrue l.is_steady → Link.Holds l.held path → is_read c ≡ false) → ⊥
no_cause path bytes s c l files tells steady there shows h calm =
    by_cause c (subst (λ (x : Held). IsSchemaCause x c) (ap (λ (x : Option Files). held_at x path) tells ∙ ap held_file there) h) (calm steady (subst (λ (x : Option Files). Link.Holds x path) (sym tells) (subst IsSome (sym there) refl)))
  where
    other : (e : FileCause) → schema_of_file bytes ≡ Err e → ⊥
    other e k = let no : Ok s ≡ Err e = sym shows ∙ k in cc

    by_cause : (c : Cause) → IsSchemaCause (present bytes) c → is_read c ≡ false → ⊥
    by_cause (Cause.ReadFailed before after) k n = true≢false n
    by_cause Cause.BadFooter k n = other bad_footer k
    by_cause Cause.BadSchema k n = other bad_schema k
    by_cause Cause.BadCodec k n = other bad_codec k
    by_cause Cause.BadData k n = other bad_data k

file_not_left : (m : Meaning) (before after : World) → IsSchemaHeld m before → IsLeft m before after → ⊥
file_not_left m before after h (inl t) =
    subst (λ (o : Outcome). IsLeftWith o before.links after.links t.0) h.looks_at_it
    (outcome_at m before.keeper (λ o. IsLeftWith o before.links after.links t.0) [] (none_named m before h.names_none) t.3)
file_not_left m before after h (inr t) = in_links after.links (subst (λ (ls : List LinkShown). WithFirsts ls after.links (LeavesFile h.path t.0)) h.links looked)
  where
    looked : WithFirsts before.links after.links (LeavesFile h.path t.0)
    looked = subst (λ (o : Outcome). IsFileLeft o before.links after.links t.0) h.looks_at_it
        (outcome_at m before.keeper (λ o. IsFileLeft o before.links after.links t.0) [] (none_named m before h.names_none) t.3)

    in_links : (now : List LinkShown) → WithFirsts (h.first ∷ h.others) now (LeavesFile h.path t.0) → ⊥
    in_links [] w = w
    in_links (k ∷ ks) w = no_cause h.path h.bytes h.schema t.0 h.first h.files h.tells h.steady h.there h.shows w.0 w.1

file_not_most : (m : Meaning) (before after : World) (text : List ℕ) (left : List LeftTablet) → IsSchemaHeld m before → EndsBut m before after left text → ⊥
file_not_most m before after text left h t =
    subst (λ (o : Outcome). HasMost o before.links after.links left text) h.looks_at_it
    (outcome_at m before.keeper (λ o. HasMost o before.links after.links left text) [] (none_named m before h.names_none) t.1)

none_left : (m : Meaning) (before after : World) → IsHeldWhole m before ⊎ IsSchemaHeld m before → IsLeft m before after → ⊥
none_left m before after (inl h) t = not_left m before after h t
none_left m before after (inr h) t = file_not_left m before after h t

pub served_by : (o : Option Meaning) (before after : World) (status : ℕ) → Holds o IsLeft before after → IsServed o status before
served_by None before after status h = absurd h
served_by (Some m) before after status h = λ w. absurd (none_left m before after w h)

most_left : (m : Meaning) (before after : World) (text : List ℕ) (left : List LeftTablet) → IsHeldWhole m before ⊎ IsSchemaHeld m before → EndsBut m before after left text → ⊥
most_left m before after text left (inl h) t = not_most m before after text left h t
most_left m before after text left (inr h) t = file_not_most m before after text left h t

pub most_served : (o : Option Meaning) (before after : World) (status : ℕ) → Holds o PrintsMost before after → IsServed o status before
most_served None before after status h = absurd h
most_served (Some m) before after status (text, left, written, said, ends) = λ w. absurd (most_left m before after text left w ends)

-- at another status nothing is left
pub served_else : (o : Option Meaning) (before : World) (status : ℕ) → nat_eq status 3 ≡ false → nat_eq status 6 ≡ false → IsServed o status before
served_else None before status n k = tt
served_else (Some m) before status n k = λ w. ((λ e. true≢false (subst (λ (x : ℕ). nat_eq x 3 ≡ false) e n)), (λ e. true≢false (subst (λ (x : ℕ). nat_eq x 6 ≡ false) e k)))

-- where tablets or a file are left, the first link was asked
pub left_complete : (o : Option Meaning) (before after : World) → Holds o IsLeft before after → IsComplete o 3 before after
left_complete None before after h = absurd h
left_complete (Some m) before after (inl t) = λ a b. inr (inr (inl (inl refl, t.1)))
left_complete (Some m) before after (inr t) = λ a b. inr (inr (inl (inl refl, t.1)))

pub most_complete : (o : Option Meaning) (before after : World) → Holds o PrintsMost before after → IsComplete o 6 before after
most_complete None before after h = absurd h
most_complete (Some m) before after (text, left, written, said, ends) = λ a b. inr (inr (inl (inr refl, ends.0)))
