-- The copies of one tablet, scanned one after another.
use Rattle.std.proofs.Common.{◌≡◌, ◌<◌, inl, inr, ℕ, suc, ◌+◌, ◌-◌, List, [], ◌∷◌, length, true, Option, Some, None, Result, Err, refl, sym, subst, arith}
use Rattle.std.specs.List.{list_all}
use Rattle.dr_meaning.specs.Schema.{Schema}
use Rattle.dr_meaning.specs.Path.{Leaf}
use Rattle.dr_meaning.specs.Record.{Node, is_record}
use Rattle.dr_meaning.specs.Query.{Query}
use Rattle.dr_meaning.specs.QueryLeaves.{query_leaves}
use Rattle.dr_formats.specs.Tablets.{placement}
use Rattle.dr_outside.specs.Link.{Files, LinkShown, Lacks}
use Rattle.dr_outside.specs.declared.cause.Cause.{Cause}
use Rattle.dr_outside.specs.Telling.{TellsFile}
use Rattle.dr_file.specs.declared.file_fault.FileFault.{FileFault}
use Rattle.dr_group.specs.declared.partial.Partial as code
use Rattle.dr_partials.specs.Partials.{Partial, Stands}
use Rattle.dr_partials.specs.Rewriting.{leaf_query}
use Rattle.dr_reading.specs.Scan.{Copy, copy_in, copies_from}
use Rattle.dr_reading.specs.Given.{IsFileThere, SomeIsFile, IsGiven}
use Rattle.dr_reading.specs.Left.{Tried, AreTried}
use Rattle.dr_scan.proofs.CopyLemmas.{copies_split, first_behind}
use Rattle.dr_scan.specs.Scans.{StandsForBytes, StandsForRecords}
use Rattle.dr_reading.specs.InTurn.{FirstGives}

-- ---- what is given are records

of_file : (s : Schema) (F : List Leaf) (R : List Node) (o : Option (List ℕ)) → IsFileThere s F R o → list_all (is_record s.fields) R ≡ true
of_file s F R None h = absurd h
of_file s F R (Some bytes) h = h.4.3

of_some : (s : Schema) (F : List Leaf) (files : Files) (cs : List Copy) (R : List Node) → SomeIsFile s F files cs R → list_all (is_record s.fields) R ≡ true
of_some s F files [] R h = absurd h
of_some s F files (c ∷ cs) R (inl h) = of_file s F R (files c.path) h
of_some s F files (c ∷ cs) R (inr h) = of_some s F files cs R h

pub of_given : (s : Schema) (F : List Leaf) (held : Option Files) (cs : List Copy) (R : List Node) → IsGiven s F held cs R → list_all (is_record s.fields) R ≡ true
of_given s F None cs R h = h
of_given s F (Some files) cs R h = of_some s F files cs R h

-- ---- the copy that gives a partial

-- records that a copy gives, for which the partial stands
abbrev GivesStanding : Schema → Query → Option Files → Copy → Partial → Type 0
GivesStanding s q held c x = (R : List Node) × IsGiven s (query_leaves s.fields q) held (c ∷ []) R × Stands s.fields (leaf_query q) R x

gives_standing : (s : Schema) (q : Query) (held : Option Files) (path : List ℕ) (c : Copy) (x : Partial) → path ≡ c.path → StandsForRecords s q x → ((bytes : List ℕ) → TellsFile held path bytes → StandsForBytes s q bytes x) → (Lacks held path → ⊥)
    → GivesStanding s q held c x
gives_standing s q None path c x p r h none = r
gives_standing s q (Some files) path c x p r h none = by_bytes (files path) refl
  where
    by_bytes : (o : Option (List ℕ)) → files path ≡ o → GivesStanding s q (Some files) c x
    by_bytes None e = absurd (none e)
    by_bytes (Some bytes) e =
        let g = h bytes e in
        let F : List Leaf = query_leaves s.fields q in
        (g.0, inl (subst (λ (y : List ℕ). IsFileThere s F g.0 (files y)) p (subst (IsFileThere s F g.0) (sym e) g.1)), g.2)

-- the copies before it were tried
pub first_stands : (s : Schema) (q : Query) (F : List Leaf) (link : LinkShown) (ds : List (List ℕ)) (t n i : ℕ) (path : List ℕ) (x : Partial) (tried : List Tried) → F ≡ query_leaves s.fields q → i < n
    → path ≡ (copy_in ds t (placement (length ds) t i)).path → AreTried s F link (copies_from ds t 0 i) tried → StandsForRecords s q x
    → ((bytes : List ℕ) → TellsFile link.held path bytes → StandsForBytes s q bytes x) → (Lacks link.held path → ⊥)
    → (R : List Node) × FirstGives s (query_leaves s.fields q) link (copies_from ds t 0 n) tried R × Stands s.fields (leaf_query q) R x
first_stands s q F link ds t n i path x tried same l p before r h none =
    let c : Copy = copy_in ds t (placement (length ds) t i) in
    let k : ℕ = n - suc i in
    let g = gives_standing s q link.held path c x p r h none in
    let at : n ≡ i + suc k = omega (arith, l) in
    let own : AreTried s (query_leaves s.fields q) link (copies_from ds t 0 i) tried = subst (λ (G : List Leaf). AreTried s G link (copies_from ds t 0 i) tried) same before in (
      g.0,
      subst (λ (cs : List Copy). FirstGives s (query_leaves s.fields q) link cs tried g.0) (sym (copies_split ds t 0 i i k n (omega arith) at))
          (first_behind s (query_leaves s.fields q) link (copies_from ds t 0 i) tried c (copies_from ds t (suc i) k) g.0 own g.1),
      g.2,
    )

-- each copy was tried
pub all_tried : (s : Schema) (q : Query) (F : List Leaf) (link : LinkShown) (ds : List (List ℕ)) (t n m : ℕ) (tried : List Tried) → F ≡ query_leaves s.fields q → n ≡ m → AreTried s F link (copies_from ds t 0 n) tried
    → AreTried s (query_leaves s.fields q) link (copies_from ds t 0 m) tried
all_tried s q F link ds t n m tried same e h =
    subst (λ (G : List Leaf). AreTried s G link (copies_from ds t 0 m) tried) same (subst (λ (k : ℕ). AreTried s F link (copies_from ds t 0 k) tried) e h)

abbrev fails : FileFault → Result code.Partial FileFault
fails e = Err e

-- a cause isn't want of memory
pub no_memory : (e : FileFault) (c : Cause) → e ≡ FileFault.Why c → fails e ≡ fails FileFault.NoMemory → ⊥
no_memory e c is same = cc
