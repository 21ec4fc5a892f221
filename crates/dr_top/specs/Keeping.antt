-- What a command leaves of the keeper: what it holds, and what it is asked for and to put.
use Rattle.std.specs.Prelude.{◌≡◌, ℕ, Bool, List, [], ◌∷◌, ◌++◌, Option, Some, option_map, ⊤, ◌⊎◌, IsTrue}
use Rattle.dr_formats.specs.Loading.{Put}
use Rattle.dr_load.specs.Puts.{HasPut, HasPutSome, BreaksOff}
use Rattle.dr_load.specs.Given.{WhereLines}
use Rattle.dr_outside.specs.Link.{LinkShown, Request, Holds, size_of, bytes_of}
use Rattle.dr_commands.specs.Refusals.{Refusal}
use Rattle.dr_commands.specs.Meaning.{Meaning, Outcome, done, refused, scans, serves, looks_at, stops, puts_in, first_refusal, text_before, IsEarly}
use Rattle.dr_top.specs.World.{Lent, IsFileOf, ForInput, outcome_on, Opens, OpensBy, RefusesAlways, Accepts}

-- ---- the file that is read

-- the keeper holds what it held, and was asked for no put
pub record IsUnput (before now : LinkShown) : Type 0 where
  pub held : now.held ≡ before.held
  pub puts : now.puts ≡ before.puts

-- the keeper is steady, and tells that it holds the file that a command names
pub record KeepsFile (m : Meaning) (keeper : LinkShown) : Type 0 where
  pub path : List ℕ
  pub named : m.file ≡ Some path
  pub steady : IsTrue keeper.is_steady
  pub holds : Holds keeper.held path

-- the keeper was asked for nothing but the length of a file and then its bytes, each at most once
abbrev pub AreForFile : List ℕ → List Request → Type 0
AreForFile path [] = ⊤
AreForFile path (size_of p ∷ []) = p ≡ path
AreForFile path (size_of p ∷ bytes_of range ∷ []) = (p ≡ path) × (range.path ≡ path) × (range.start ≡ 0)
AreForFile path _ = ⊥

abbrev pub with_requests : Option (List Request) → List Request → Option (List Request)
with_requests asked more = option_map (λ requests. requests ++ more) asked

abbrev pub AsksForFile : List ℕ → LinkShown → LinkShown → Type 0
AsksForFile path before now = (more : List Request) × (now.asked ≡ with_requests before.asked more) × AreForFile path more

-- ---- the files that are put

-- without the last
abbrev pub all_but_last : List Put → List Put
all_but_last [] = []
all_but_last (p ∷ []) = []
all_but_last (p ∷ q ∷ ps) = p ∷ all_but_last (q ∷ ps)

-- the files that a command puts before it is done: the last one of them says that all are there
abbrev pub puts_before_end : Outcome → List Put
puts_before_end (done text puts) = all_but_last puts
puts_before_end (refused r puts) = puts
puts_before_end (scans s) = []
puts_before_end (serves s workers least) = []
puts_before_end (looks_at path) = []
puts_before_end (stops text r) = []

-- a front of the puts of its outcome was done, in their order, and no other was asked for
pub record PutsFront (m : Meaning) (before after : Lent) : Type 0 where
  -- the file that it read
  pub file : List ℕ
  pub is_file : IsFileOf m before.keeper file
  -- on the input, where that is told
  pub puts : ForInput m.reads_input before.input.left (λ input. HasPutSome (puts_in (outcome_on m file input)) before.keeper after.keeper)

-- nothing was put, or such a front
abbrev pub PutsSome : Meaning → Lent → Lent → Type 0
PutsSome m before after = IsUnput before.keeper after.keeper ⊎ PutsFront m before after

-- one of its puts failed, which is told or not; those before it were done, in their order, and none behind it was asked for
pub record PutsBreak (told : Bool) (m : Meaning) (before after : Lent) : Type 0 where
  -- the file that it read, which isn't refused, nor is anything else that comes before an input that is read
  pub file : List ℕ
  pub is_file : IsFileOf m before.keeper file
  pub opens : OpensBy m.reads_input (outcome_on m file)
  -- on the input, where that is told
  pub breaks : ForInput m.reads_input before.input.left (λ input. BreaksOff told (puts_in (outcome_on m file input)) before.keeper after.keeper)

-- the source failed before the input's end
pub record PutsGiven (m : Meaning) (before after : Lent) : Type 0 where
  -- the file that was read, which isn't refused, nor is anything else that comes before the input
  pub file : List ℕ
  pub is_file : IsFileOf m before.keeper file
  pub opens : Opens (outcome_on m file)
  -- nor is a whole line that the source gave
  pub accepts : Accepts (outcome_on m file) before.input after.input
  -- on the input, where that is told, a front of the puts before it is done was done, in their order, and no other was asked for
  pub puts : ForInput m.reads_input before.input.left (λ input. HasPutSome (puts_before_end (outcome_on m file input)) before.keeper after.keeper)
  -- it has put just what it puts where an empty line, which is refused, comes behind the lines that the source gave: each full tablet, before it asked
  -- for the next line
  pub given : WhereLines before.input.left after.input.left (λ lines. HasPut (puts_in (outcome_on m file (lines ++ 10 ∷ []))) before.keeper after.keeper)

-- it is done, with this text, and has put its files, in this order
abbrev pub IsDoneSo : List ℕ → LinkShown → LinkShown → Outcome → Type 0
IsDoneSo text keeper keeper_now o = (puts : List Put) × (o ≡ done text puts) × HasPut puts keeper keeper_now

-- this is its first refusal, before which it prints this text, and has put its files, in their order
abbrev pub IsRefusedSo : Refusal → List ℕ → LinkShown → LinkShown → Outcome → Type 0
IsRefusedSo r text keeper keeper_now o = (first_refusal o ≡ Some r) × (text_before o ≡ text) × HasPut (puts_in o) keeper keeper_now

-- so its outcome is refused, on the file that it read
pub record RefusesSo (m : Meaning) (r : Refusal) (text : List ℕ) (before after : Lent) : Type 0 where
  pub file : List ℕ
  pub is_file : IsFileOf m before.keeper file
  -- on the input, where that is told
  pub refuses : ForInput m.reads_input before.input.left (λ input. IsRefusedSo r text before.keeper after.keeper (outcome_on m file input))
  -- where it isn't a line of the input that is refused, that is so whatever the input, and the input and what the keeper holds stay
  pub early : IsEarly r → RefusesAlways (outcome_on m file) r × (after.input ≡ before.input) × HasPut [] before.keeper after.keeper
