-- The answers of commands that ask the first of some links.
use Rattle.std.specs.Prelude.{◌≡◌, ◌<◌, ℕ, ⊤, List, [], ◌∷◌, map, length, string_bytes}
use Rattle.std.proofs.Common.{ap, drop, get_or, slice_set, arith}
use Rattle.dr_outside.specs.Link.{LinkShown}
use Rattle.dr_table.specs.LeftViews.{all_left_view}
use Rattle.dr_outside.specs.declared.cause.Cause.{Cause}
use Rattle.dr_commands.specs.Meaning.{Outcome, done, refused, scans, serves, looks_at, stops}
use Rattle.dr_reading.specs.Left.{LeftTablet}
use Rattle.dr_top.specs.Reading.{HasText, IsLeftWith, HasMost, IsFileLeft}
use Rattle.dr_top.specs.Stops.{StopsAsking}
use Rattle.dr_top.specs.declared.stop.Stop.{Stop}

-- an outcome that one link gives alone
abbrev pub IsOfFirst : Outcome → Type 0
IsOfFirst (done text puts) = ⊤
IsOfFirst (refused r puts) = ⊤
IsOfFirst (scans s) = ⊤
IsOfFirst (serves s n least) = ⊥
IsOfFirst (looks_at path) = ⊤
IsOfFirst (stops text r) = ⊤

-- what holds of the first and the others holds of all, where the first alone changes
pub first_of : {A : Type 0} (shows : A → LinkShown) (ls : List A) (d y : A) (P : List LinkShown → List LinkShown → Type 0) → 0 < length ls
    → P (shows (get_or ls 0 d) ∷ map shows (drop 1 ls)) (shows y ∷ map shows (drop 1 ls)) → P (map shows ls) (map shows (slice_set ls 0 y))
first_of shows [] d y P n h = absurd (omega (arith, n))
first_of shows (l ∷ ls) d y P n h = h

-- what holds of one link holds of it as the first of some
module _ (l k : LinkShown) (ls : List LinkShown) where
  pub first_text : (o : Outcome) (text : List ℕ) → IsOfFirst o → HasText o (l ∷ []) (k ∷ []) text → HasText o (l ∷ ls) (k ∷ ls) text
  first_text (done t puts) text one h = h
  first_text (refused r puts) text one h = h
  first_text (scans s) text one h = h
  first_text (serves s n least) text one h = absurd one
  first_text (looks_at path) text one h = h
  first_text (stops t r) text one h = h

  first_left : (o : Outcome) (left : List LeftTablet) → IsOfFirst o → IsLeftWith o (l ∷ []) (k ∷ []) left → IsLeftWith o (l ∷ ls) (k ∷ ls) left
  first_left (done t puts) left one h = h
  first_left (refused r puts) left one h = h
  first_left (scans s) left one h = h
  first_left (serves s n least) left one h = absurd one
  first_left (looks_at path) left one h = h
  first_left (stops t r) left one h = h

  first_most : (o : Outcome) (left : List LeftTablet) (text : List ℕ) → IsOfFirst o → HasMost o (l ∷ []) (k ∷ []) left text → HasMost o (l ∷ ls) (k ∷ ls) left text
  first_most (done t puts) left text one h = h
  first_most (refused r puts) left text one h = h
  first_most (scans s) left text one h = h
  first_most (serves s n least) left text one h = absurd one
  first_most (looks_at path) left text one h = h
  first_most (stops t r) left text one h = h

  first_file : (o : Outcome) (cause : Cause) → IsFileLeft o (l ∷ []) (k ∷ []) cause → IsFileLeft o (l ∷ ls) (k ∷ ls) cause
  first_file (done t puts) cause h = h
  first_file (refused r puts) cause h = h
  first_file (scans s) cause h = h
  first_file (serves s n least) cause h = h
  first_file (looks_at path) cause h = h
  first_file (stops t r) cause h = h

  stays : k ∷ [] ≡ l ∷ [] → k ≡ l
  stays e = cc

  pub first_stops : (o : Outcome) (stop : Stop) → IsOfFirst o → StopsAsking o (l ∷ []) (k ∷ []) stop → StopsAsking o (l ∷ ls) (k ∷ ls) stop
  first_stops o Stop.Usage one h = h
  first_stops o Stop.NoMemory one h = tt
  first_stops o Stop.Source one h = h
  first_stops o Stop.Keeper one h = h
  first_stops o (Stop.Refused r) one h = (ap (λ (x : LinkShown). x ∷ ls) (stays h.0), h.1)
  first_stops o (Stop.Left left) one h = first_left o (all_left_view left.items) one h
  first_stops o (Stop.Most text left) one h = first_most o (all_left_view left.items) (string_bytes text) one h
  first_stops o (Stop.LeftFile cause) one h = first_file o cause h
