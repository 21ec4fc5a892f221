-- How a query over a table in memory ends, from the clauses of `run`.
use Rattle.std.specs.Prelude.{◌≡◌, ◌<◌, ◌≤◌, ◌⊎◌, ℕ, zero, suc, false, List, [], ◌∷◌, length, map, take, Option, Some, None, IsSome, IsTrue}
use Rattle.std.specs.Option.{option_map}
use Rattle.std.proofs.Common.{refl, sym, ap, ◌∙◌, subst, inl, inr, arith}
use Rattle.dr_meaning.specs.Schema.{Schema}
use Rattle.dr_meaning.specs.Path.{Leaf}
use Rattle.dr_meaning.specs.Record.{Node}
use Rattle.dr_outside.specs.Faults.{raised}
use Rattle.dr_outside.specs.Source.{SourceShown}
use Rattle.dr_outside.specs.Sink.{SinkShown, AddedWhole}
use Rattle.dr_outside.specs.Memory.{SinkState}
use Rattle.dr_outside.specs.Failing.{is_quiet}
use Rattle.dr_outside.specs.Link.{Files, LinkShown, no_puts}
use Rattle.dr_outside.specs.Link as Link
use Rattle.dr_outside.specs.Shelf.{files_of}
use Rattle.dr_outside.specs.MemLink.{shelf_of, requests_of, link_failing}
use Rattle.dr_outside.specs.declared.mem_link.MemLink.{MemLink}
use Rattle.dr_reading.specs.Held.{Held, held_at, held_file}
use Rattle.dr_reading.specs.Scan.{Copy, Scan, tablets_of}
use Rattle.dr_reading.specs.Premises.{TabletsHold, EachHasFile}
use Rattle.dr_reading.specs.ServingPremises.{AllTell}
use Rattle.dr_serve.specs.Counted.{held_of}
use Rattle.dr_commands.specs.Refusals.{Refusal as Refused}
use Rattle.dr_commands.specs.Meaning.{Meaning, serves, first_refusal}
use Rattle.dr_commands.specs.Commands.{meaning_of}
use Rattle.dr_commands.specs.Query.{query_meaning, query_scan, query_table, query_read}
use Rattle.dr_words.specs.Words.{meant}
use Rattle.dr_top.specs.World.{World, world, lent_in, IsTold, IsFileOf, outcome_on}
use Rattle.dr_top.specs.Keeping.{KeepsFile, RefusesSo}
use Rattle.dr_top.specs.Answers.{Finishes, Gives}
use Rattle.dr_top.specs.Ends.{Holds, Prints, IsUsage, IsRefused, IsLeft, PrintsMost, IsOutside, LeavesInput, ScansTable, IsHeldWhole, IsServed}
use Rattle.dr_top.specs.Theorem.{AllOver, AreHeld, AsksTable, PrintsText, answer_of}
use Rattle.dr_top.proofs.ServedTextLemmas.{told_gives, served_prints_meaning}

-- ---- the files

tablets_hold : (s : Schema) (F : List Leaf) (files : Files) (ts : List (List Copy)) (Rs : List (List Node)) → AreHeld s F files ts Rs → TabletsHold s F files ts Rs
tablets_hold s F files [] [] h = tt
tablets_hold s F files [] (R ∷ Rs) h = h
tablets_hold s F files (cs ∷ ts) [] h = h
tablets_hold s F files (cs ∷ ts) (R ∷ Rs) h = (h.0, tablets_hold s F files ts Rs h.2)

each_has_file : (s : Schema) (F : List Leaf) (files own : Files) → ((path : List ℕ) → own path ≡ files path) → (ts : List (List Copy)) (Rs : List (List Node)) → AreHeld s F files ts Rs → EachHasFile s F own ts
each_has_file s F files own e [] Rs h = tt
each_has_file s F files own e (cs ∷ ts) [] h = absurd h
each_has_file s F files own e (cs ∷ ts) (R ∷ Rs) h = ((R, told_gives s F own files cs R (λ path. sym (e path)) h.1), each_has_file s F files own e ts Rs h.2)

first_tell : (files : Files) (n : ℕ) (ls : List LinkShown) → AllTell files (held_of ls) → AllTell files (held_of (take n ls))
first_tell files zero ls h = tt
first_tell files (suc n) [] h = tt
first_tell files (suc n) (l ∷ ls) h = (h.0, first_tell files n ls h.1)

-- the first link is steady, and tells files that are these
pub record LinksTell (files : Files) (links : List LinkShown) : Type 0 where
  pub first : LinkShown
  pub others : List LinkShown
  pub own : Files
  pub are : links ≡ first ∷ others
  pub tells : first.held ≡ Some own
  pub same : (path : List ℕ) → own path ≡ files path
  pub steady : IsTrue first.is_steady
  pub all : AllTell files (held_of links)

-- ---- the run

serves_is_not_refused : (s : Scan) (n least : ℕ) (r : Refused) → first_refusal (serves s n least) ≡ Some r → ⊥
serves_is_not_refused s n least r e = cc

scans_with : (s : Scan) (n least : ℕ) → 0 < n → ScansTable s (serves s n least)
scans_with s zero least h = absurd (omega (arith, h))
scans_with s (suc n) least h = refl

not_risen : (x y : ℕ) → x ≡ 0 → y ≡ 0 → y ≡ raised x → ⊥
not_risen x y e f h = let n : 0 ≡ raised 0 = sym f ∙ h ∙ ap raised e in omega (arith, n)

module _ (words : List (List ℕ)) (tables files : Files) (a : AsksTable words tables files) (before after : World)
    (held : before.keeper.held ≡ Some tables) (steady : IsTrue before.keeper.is_steady) (fresh : before.input.faults ≡ 0) (links : LinksTell files before.links) where
  abbrev m : Meaning
  m = query_meaning a.query

  abbrev scan : Scan
  scan = query_scan a.table a.plan

  means : meant words ≡ Some m
  means = ap (option_map meaning_of) a.asks

  -- on the table's bytes
  outcome_of : outcome_on m a.bytes [] ≡ serves scan a.query.serving.workers a.query.least
  outcome_of = ap (query_table a.query.serving.workers a.query.least a.query.query) a.is_table ∙ ap (query_read a.query.serving.workers a.query.least a.table) a.is_query

  -- which are those of the file that is read
  outcome_is : (file : List ℕ) → IsFileOf m before.keeper file → outcome_on m file [] ≡ serves scan a.query.serving.workers a.query.least
  outcome_is file h =
      let is : a.bytes ≡ file = subst (λ (t : Held). IsTold t file) (ap (λ (f : Option Files). held_at f a.query.table) held ∙ ap held_file a.there) h in
      ap (λ (f : List ℕ). outcome_on m f []) (sym is) ∙ outcome_of

  -- what it prints is what the query means
  prints_answer : Prints m before after → AddedWhole before.out after.out (answer_of a)
  prints_answer p =
      let f : Finishes m (lent_in before) (lent_in after) p.0 = p.2 in
      let g : Gives (lent_in before) (lent_in after) p.0 (serves scan a.query.serving.workers a.query.least) =
      subst (Gives (lent_in before) (lent_in after) p.0) (outcome_is f.file f.is_file) f.gives in
      let is : p.0 ≡ answer_of a =
      g.0.2 ∙ served_prints_meaning a.table a.query.query a.plan files (held_of (take a.query.serving.workers before.links)) [] a.records g.0.0 a.is_query
      (first_tell files a.query.serving.workers before.links links.all) (tablets_hold a.table.schema scan.leaves files (tablets_of a.table) a.records a.held) g.0.1 in
      subst (AddedWhole before.out after.out) is p.1

  not_refused : IsRefused m before after → ⊥
  not_refused h =
      let r : RefusesSo m h.0 h.2.0 (lent_in before) (lent_in after) = h.2.1 in
      serves_is_not_refused scan a.query.serving.workers a.query.least h.0 (ap first_refusal (sym (outcome_is r.file r.is_file)) ∙ r.refuses.0)

  keeps : KeepsFile m before.keeper
  keeps = record {
    path = a.query.table;
    named = refl;
    steady = steady;
    holds = subst (λ (f : Option Files). Link.Holds f a.query.table) (sym held) (subst IsSome (sym a.there) refl);
  }

  held_whole : 0 < a.query.serving.workers → IsHeldWhole m before
  held_whole some = record {
    path = a.query.table;
    kept = tables;
    file = a.bytes;
    scan = scan;
    first = links.first;
    others = links.others;
    files = links.own;
    named = refl;
    reads_nothing = refl;
    keeps = held;
    there = a.there;
    scans_it = subst (ScansTable scan) (sym outcome_of) (scans_with scan a.query.serving.workers a.query.least some);
    links = links.are;
    tells = links.tells;
    steady = links.steady;
    each = each_has_file a.table.schema scan.leaves files links.own links.same (tablets_of a.table) a.records a.held;
  }

  asks_links : IsLeft m before after → 0 < a.query.serving.workers
  asks_links (inl t) = t.1
  asks_links (inr t) = t.1

  fails : (m.reads_input ≡ false → after.input ≡ before.input) → IsOutside m before after → after.out.faults ≡ raised before.out.faults
  fails stays (inl h) = absurd (not_risen before.input.faults after.input.faults fresh (ap (λ (i : SourceShown). i.faults) (stays refl) ∙ fresh) h.1)
  fails stays (inr (inl h)) = absurd (h.2 keeps)
  fails stays (inr (inr h)) = h.3

  pub ends : (n : ℕ) → n ≤ 6
      → (n ≡ 0 → Holds (meant words) Prints before after) → (n ≡ 1 → IsUsage (meant words) before after) → (n ≡ 2 → Holds (meant words) IsRefused before after)
      → (n ≡ 3 → Holds (meant words) IsLeft before after) → (n ≡ 4 → Holds (meant words) IsOutside before after) → (n ≡ 6 → Holds (meant words) PrintsMost before after)
      → LeavesInput (meant words) before after → IsServed (meant words) n before
      → ((n ≡ 0) × AddedWhole before.out after.out (answer_of a)) ⊎ ((n ≡ 5) ⊎ ((n ≡ 4) × (after.out.faults ≡ raised before.out.faults)))
  ends zero k p u r l x q i s = inl (refl, prints_answer (subst (λ (o : Option Meaning). Holds o Prints before after) means (p refl)))
  ends (suc zero) k p u r l x q i s = let none : Some m ≡ None = sym means ∙ (u refl).0 in absurd (cc)
  ends (suc (suc zero)) k p u r l x q i s = absurd (not_refused (subst (λ (o : Option Meaning). Holds o IsRefused before after) means (r refl)))
  ends (suc (suc (suc zero))) k p u r l x q i s =
      let t : IsLeft m before after = subst (λ (o : Option Meaning). Holds o IsLeft before after) means (l refl) in
      let served : IsServed (Some m) 3 before = subst (λ (o : Option Meaning). IsServed o 3 before) means s in
      absurd ((served (inl (held_whole (asks_links t)))).0 refl)
  ends (suc (suc (suc (suc zero)))) k p u r l x q i s =
      inr (inr (refl, fails (subst (λ (o : Option Meaning). LeavesInput o before after) means i) (subst (λ (o : Option Meaning). Holds o IsOutside before after) means (x refl))))
  ends (suc (suc (suc (suc (suc zero))))) k p u r l x q i s = inr (inl refl)
  ends (suc (suc (suc (suc (suc (suc zero)))))) k p u r l x q i s =
      let t : PrintsMost m before after = subst (λ (o : Option Meaning). Holds o PrintsMost before after) means (q refl) in
      let served : IsServed (Some m) 6 before = subst (λ (o : Option Meaning). IsServed o 6 before) means s in
      absurd ((served (inl (held_whole t.4.0))).1 refl)
  ends (suc (suc (suc (suc (suc (suc (suc n))))))) k p u r l x q i s = absurd (omega (arith, k))

-- ---- links over one shelf

abbrev pub shown : MemLink → LinkShown
shown l = record { held = Some (files_of (shelf_of l)); asked = Some (requests_of l); puts = no_puts; faults = (link_failing l).faults; is_steady = is_quiet (link_failing l) }

all_tell : (files : Files) (ls : List MemLink) → AllOver files ls → AllTell files (held_of (map shown ls))
all_tell files [] h = tt
all_tell files (l ∷ ls) h = (h.0, all_tell files ls h.2)

pub links_tell : (files : Files) (ls : List MemLink) → 16 ≤ length ls → AllOver files ls → LinksTell files (map shown ls)
links_tell files [] n h = absurd (omega (arith, n))
links_tell files (l ∷ ls) n h = record {
  first = shown l;
  others = map shown ls;
  own = files_of (shelf_of l);
  are = refl;
  tells = refl;
  same = h.0;
  steady = h.1;
  all = (h.0, all_tell files ls h.2);
}

-- ---- a sink in memory

abbrev pub sink_shown : SinkState → SinkShown
sink_shown s = record { written = Some s.written; faults = s.failing.faults; calls = s.failing.calls }

pub as_text : (text : List ℕ) (n : ℕ) (out now : SinkState)
    → ((n ≡ 0) × AddedWhole (sink_shown out) (sink_shown now) text) ⊎ ((n ≡ 5) ⊎ ((n ≡ 4) × ((sink_shown now).faults ≡ raised (sink_shown out).faults))) → PrintsText text n out now
as_text text n out now (inl h) = inl (h.0, h.1.bytes)
as_text text n out now (inr h) = inr h

-- all of it
pub query_ends : (words : List (List ℕ)) (tables files : Files) (a : AsksTable words tables files)
    (i i1 : SourceShown) (out now : SinkState) (err err1 : SinkShown) (k k1 : LinkShown) (ls : List MemLink) (ls1 : List LinkShown) (n : ℕ) → n ≤ 6
    → (n ≡ 0 → Holds (meant words) Prints (world i (sink_shown out) err k (map shown ls)) (world i1 (sink_shown now) err1 k1 ls1))
    → (n ≡ 1 → IsUsage (meant words) (world i (sink_shown out) err k (map shown ls)) (world i1 (sink_shown now) err1 k1 ls1))
    → (n ≡ 2 → Holds (meant words) IsRefused (world i (sink_shown out) err k (map shown ls)) (world i1 (sink_shown now) err1 k1 ls1))
    → (n ≡ 3 → Holds (meant words) IsLeft (world i (sink_shown out) err k (map shown ls)) (world i1 (sink_shown now) err1 k1 ls1))
    → (n ≡ 4 → Holds (meant words) IsOutside (world i (sink_shown out) err k (map shown ls)) (world i1 (sink_shown now) err1 k1 ls1))
    → (n ≡ 6 → Holds (meant words) PrintsMost (world i (sink_shown out) err k (map shown ls)) (world i1 (sink_shown now) err1 k1 ls1))
    → LeavesInput (meant words) (world i (sink_shown out) err k (map shown ls)) (world i1 (sink_shown now) err1 k1 ls1)
    → IsServed (meant words) n (world i (sink_shown out) err k (map shown ls))
    → k.held ≡ Some tables → IsTrue k.is_steady → i.faults ≡ 0 → 16 ≤ length ls → AllOver files ls → PrintsText (answer_of a) n out now
query_ends words tables files a i i1 out now err err1 k k1 ls ls1 n known p u r l x q unread served held steady fresh many over =
    as_text (answer_of a) n out now
    (ends words tables files a (world i (sink_shown out) err k (map shown ls)) (world i1 (sink_shown now) err1 k1 ls1) held steady fresh (links_tell files ls many over) n known p u r l x q unread served)
