-- The file that a command names.
use Rattle.std.specs.Prelude.{◌≡◌, ◌≢◌, ◌<◌, ℕ, suc, List, [], length, replicate, Option, Some, None, IsTrue}
use Rattle.std.proofs.Common.{refl, sym, ◌∙◌, subst, arith}
use Rattle.std.proofs.lemmas.List.{length-replicate}
use Rattle.dr_outside.specs.Faults.{raised}
use Rattle.dr_outside.specs.Link.{Files, LinkShown, Holds}
use Rattle.dr_outside.specs.declared.fault.Fault.{Fault}
use Rattle.dr_reading.specs.Held.{held_at, held_file}
use Rattle.dr_commands.specs.Refusals.{Refusal as Refused}
use Rattle.dr_commands.specs.Meaning.{Meaning}
use Rattle.dr_top.specs.World.{IsTold, IsFileOf, told_file, outcome_on, RefusesAlways}
use Rattle.dr_top.specs.KeeperFile.{IsFile, IsLongFile}
use Rattle.dr_top.specs.Keeping.{KeepsFile, AsksForFile}
use Rattle.dr_top.specs.NamedFile.{longest, too_long, RefusesLonger}
use Rattle.dr_top.specs.Stops.{StopsUnread, refusal_view, keeper_stop}
use Rattle.dr_top.specs.Answers.{AsksFor}
use Rattle.dr_top.specs.declared.named_file.Kind.{Kind}
use Rattle.dr_top.specs.declared.refusal.Refusal.{Refusal}
use Rattle.dr_top.specs.declared.stop.Stop.{Stop}

-- ---- a command that names no file

pub none_is_file : (m : Meaning) (k : LinkShown) (bytes : List ℕ) → m.file ≡ None → bytes ≡ [] → IsFileOf m k bytes
none_is_file m k bytes named e = subst (λ (f : Option (List ℕ)). IsTold (told_file f k.held) bytes) (sym named) (sym e)

pub none_asks : (f : Option (List ℕ)) (k : LinkShown) → f ≡ None → AsksFor f k k
none_asks f k e = subst (λ (x : Option (List ℕ)). AsksFor x k k) (sym e) refl

-- ---- the bytes of one that is named

at_path : (held : Option Files) (path bytes : List ℕ) → IsFile held path bytes → IsTold (held_at held path) bytes
at_path None path bytes h = tt
at_path (Some fs) path bytes h = subst (λ (o : Option (List ℕ)). IsTold (held_file o) bytes) (sym h) refl

pub is_file : (m : Meaning) (k : LinkShown) (path bytes : List ℕ) → m.file ≡ Some path → IsFile k.held path bytes → IsFileOf m k bytes
is_file m k path bytes named h = subst (λ (f : Option (List ℕ)). IsTold (told_file f k.held) bytes) (sym named) (at_path k.held path bytes h)

pub asks_named : (f : Option (List ℕ)) (k k1 : LinkShown) (path : List ℕ) → f ≡ Some path → AsksForFile path k k1 → AsksFor f k k1
asks_named f k k1 path e h = subst (λ (x : Option (List ℕ)). AsksFor x k k1) (sym e) h

-- ---- a keeper that fails

not_kept : (m : Meaning) (k : LinkShown) (path : List ℕ) → m.file ≡ Some path → (IsTrue k.is_steady → Holds k.held path → ⊥) → KeepsFile m k → ⊥
not_kept m k path p h kept =
    let named : Some kept.path ≡ Some path = sym kept.named ∙ p in
    let same : kept.path ≡ path = cc in
    h kept.steady (subst (Holds k.held) same kept.holds)

pub keeper_stops : (m : Meaning) (k k1 : LinkShown) (path : List ℕ) (fault : Fault) → m.file ≡ Some path → (fault ≡ Fault.Failed → k1.faults ≡ raised k.faults) → (fault ≢ Fault.Failed → k1.faults ≡ k.faults)
    → (fault ≡ Fault.Failed → IsTrue k.is_steady → Holds k.held path → ⊥) → StopsUnread m k k1 (keeper_stop fault)
keeper_stops m k k1 path Fault.Failed named cause calm steady = (cause refl, not_kept m k path named (steady refl))
keeper_stops m k k1 path Fault.NoMemory named cause calm steady = calm (λ e. cc)

-- ---- one that is too long

-- where nothing is told of it, some bytes are as long
long_at_path : (held : Option Files) (path : List ℕ) (n : ℕ) → IsLongFile held path n → (file : List ℕ) × IsTold (held_at held path) file × (n < length file)
long_at_path None path n h = (replicate (suc n) 0, tt, omega (arith, length-replicate {A = ℕ} (suc n) 0))
long_at_path (Some fs) path n h = (h.0, subst (λ (o : Option (List ℕ)). IsTold (held_file o) h.0) (sym h.1) refl, h.2)

pub long_stops : (m : Meaning) (k k1 : LinkShown) (path : List ℕ) (kind : Kind) (n : ℕ) (r : Refusal) → m.file ≡ Some path → k1.faults ≡ k.faults → RefusesLonger m kind → n ≡ longest kind → refusal_view r ≡ too_long kind
    → IsLongFile k.held path n → StopsUnread m k k1 (Stop.Refused r)
long_stops m k k1 path kind n r named calm longer is e h =
    let l = long_at_path k.held path (longest kind) (subst (λ (x : ℕ). IsLongFile k.held path x) is h) in
    (calm, (l.0, subst (λ (f : Option (List ℕ)). IsTold (told_file f k.held) l.0) (sym named) l.1, subst (λ (x : Refused). RefusesAlways (outcome_on m l.0) x) (sym e) (longer l.0 l.2)))
