-- The copies of one tablet, tried one after another.
use Rattle.std.proofs.Common.{◌≡◌, ◌<◌, ℕ, zero, suc, ◌+◌, ◌-◌, List, [], ◌∷◌, ◌++◌, length, map, true, false, Option, Some, None, refl, sym, ap, ◌∙◌, subst, inl, add-one, true≢false, arith}
use Rattle.std.specs.Prelude.{IsTrue, IsSome}
use Rattle.dr_meaning.specs.Schema.{Schema}
use Rattle.dr_meaning.specs.Path.{Leaf, paths_of_leaves}
use Rattle.dr_meaning.specs.Record.{Node, project}
use Rattle.dr_formats.specs.Tablets.{placement}
use Rattle.dr_outside.specs.Faults.{raised, Rose}
use Rattle.dr_outside.specs.Link.{Files, LinkShown, Holds, Lacks}
use Rattle.dr_outside.specs.declared.cause.Cause.{Cause}
use Rattle.dr_outside.specs.Telling.{TellsFile}
use Rattle.dr_file.specs.OpenedFiles.{HasCounts, is_link_fault}
use Rattle.dr_file.specs.declared.file_fault.FileFault.{FileFault}
use Rattle.dr_scan.specs.FileRecords.{AreOfFile, AreProjected, IsFaultOf}
use Rattle.dr_reading.specs.Held.{held_at, held_file}
use Rattle.dr_reading.specs.Causes.{IsJustified, LeadTo, is_read}
use Rattle.dr_reading.specs.Scan.{Copy, copy_in, copies_from}
use Rattle.dr_reading.specs.Given.{IsFileThere}
use Rattle.dr_reading.specs.Left.{Tried, IsCauseAt, AreTried}
use Rattle.dr_reading.specs.Given.{IsGiven}
use Rattle.dr_reading.specs.InTurn.{FirstGives}
use Rattle.dr_reading.proofs.InTurnLemmas.{lead_join}

-- ---- the copies

-- one copy more
copies_more : (ds : List (List ℕ)) (t j k m : ℕ) → j + k ≡ m → copies_from ds t j (suc k) ≡ copies_from ds t j k ++ copy_in ds t (placement (length ds) t m) ∷ []
copies_more ds t j zero m e = ap (λ i. copy_in ds t (placement (length ds) t i) ∷ []) (let h : j ≡ m = omega (arith, e) in h)
copies_more ds t j (suc k) m e = ap (λ cs. copy_in ds t (placement (length ds) t j) ∷ cs) (copies_more ds t (suc j) k m (omega (arith, e)))

pub copies_next : (ds : List (List ℕ)) (t k : ℕ) → copies_from ds t 0 (k + 1) ≡ copies_from ds t 0 k ++ copy_in ds t (placement (length ds) t k) ∷ []
copies_next ds t k = ap (copies_from ds t 0) (add-one k) ∙ copies_more ds t 0 k k (omega arith)

-- the copies before one, and those behind it
pub copies_split : (ds : List (List ℕ)) (t j i m k n : ℕ) → j + i ≡ m → n ≡ i + suc k → copies_from ds t j n ≡ copies_from ds t j i ++ copy_in ds t (placement (length ds) t m) ∷ copies_from ds t (suc m) k
copies_split ds t j zero m k n e f =
    let q : j ≡ m = omega (arith, e) in
    let one : n ≡ suc k = omega (arith, f) in
    ap (copies_from ds t j) one ∙ subst (λ (x : ℕ). copies_from ds t j (suc k) ≡ copy_in ds t (placement (length ds) t x) ∷ copies_from ds t (suc x) k) q refl
copies_split ds t j (suc i) m k zero e f = absurd (omega (arith, f))
copies_split ds t j (suc i) m k (suc n) e f = ap (λ cs. copy_in ds t (placement (length ds) t j) ∷ cs) (copies_split ds t (suc j) i m k n (omega (arith, e)) (omega (arith, f)))

-- ---- what a copy gives

-- records that copies give, with their projections
abbrev GivenBy : Schema → List Leaf → Option Files → List Copy → List Node → Type 0
GivenBy s F held cs P = (R : List Node) × IsGiven s F held cs R × (P ≡ map (project (paths_of_leaves F)) R)

there : (s : Schema) (F : List Leaf) (files : Files) (path : List ℕ) (P : List Node) (o : Option (List ℕ)) → files path ≡ o → ((bytes : List ℕ) → files path ≡ Some bytes → AreOfFile bytes s F P) → (files path ≡ None → ⊥)
    → (R : List Node) × IsFileThere s F R o × (P ≡ map (project (paths_of_leaves F)) R)
there s F files path P None e h none = absurd (none e)
there s F files path P (Some bytes) e h none = h bytes e

gives : (s : Schema) (F : List Leaf) (held : Option Files) (path : List ℕ) (c : Copy) (P : List Node) → path ≡ c.path
    → AreProjected s F P → ((bytes : List ℕ) → TellsFile held path bytes → AreOfFile bytes s F P) → (Lacks held path → ⊥) → GivenBy s F held (c ∷ []) P
gives s F None path c P p a h none = (a.0, a.1, a.2)
gives s F (Some files) path c P p a h none =
    let g = there s F files path P (files path) refl h none in
    (g.0, inl (subst (λ (q : List ℕ). IsFileThere s F g.0 (files q)) p g.1), g.2)

-- the copies before it were tried
pub first_behind : (s : Schema) (F : List Leaf) (link : LinkShown) (before : List Copy) (ts : List Tried) (c : Copy) (behind : List Copy) (R : List Node) → AreTried s F link before ts → IsGiven s F link.held (c ∷ []) R
    → FirstGives s F link (before ++ c ∷ behind) ts R
first_behind s F link [] [] c behind R h g = g
first_behind s F link [] (t ∷ ts) c behind R h g = absurd h
first_behind s F link (b ∷ before) [] c behind R h g = absurd h
first_behind s F link (b ∷ before) (t ∷ ts) c behind R h g = (h.0, h.1, first_behind s F link before ts c behind R h.2 g)

pub copy_gives : (s : Schema) (F : List Leaf) (link : LinkShown) (ds : List (List ℕ)) (t n i : ℕ) (path : List ℕ) (P : List Node) (tried : List Tried) → i < n → path ≡ (copy_in ds t (placement (length ds) t i)).path
    → AreTried s F link (copies_from ds t 0 i) tried → AreProjected s F P → ((bytes : List ℕ) → TellsFile link.held path bytes → AreOfFile bytes s F P) → (Lacks link.held path → ⊥)
    → (R : List Node) × FirstGives s F link (copies_from ds t 0 n) tried R × (P ≡ map (project (paths_of_leaves F)) R)
copy_gives s F link ds t n i path P tried l p before a h none =
    let c : Copy = copy_in ds t (placement (length ds) t i) in
    let k : ℕ = n - suc i in
    let g = gives s F link.held path c P p a h none in
    let at : n ≡ i + suc k = omega (arith, l) in (
      g.0,
      subst (λ (cs : List Copy). FirstGives s F link cs tried g.0) (sym (copies_split ds t 0 i i k n (omega arith) at)) (first_behind s F link (copies_from ds t 0 i) tried c (copies_from ds t (suc i) k) g.0 before g.1),
      g.2,
    )

-- ---- why a copy gives nothing

rose : (old new before after : ℕ) → (before ≡ old) × (after ≡ new) × (new ≡ raised old) → Rose before after
rose old new before after h = subst (λ (n : ℕ). Rose before n) (sym h.1) (subst (λ (n : ℕ). Rose n new) (sym h.0) (subst (λ (n : ℕ). Rose old n) (sym h.2) (omega arith)))

by_bytes : (s : Schema) (F : List Leaf) (bytes : List ℕ) (c : Cause) (old new : ℕ) → HasCounts old new (FileFault.Why c) → IsFaultOf bytes s F (FileFault.Why c) → IsJustified s F (held_file (Some bytes)) c
by_bytes s F bytes (Cause.ReadFailed before after) old new n h = rose old new before after n
by_bytes s F bytes Cause.BadFooter old new n h = h
by_bytes s F bytes Cause.BadSchema old new n h = h
by_bytes s F bytes Cause.BadCodec old new n h = h
by_bytes s F bytes Cause.BadData old new n h = h

by_absence : (s : Schema) (F : List Leaf) (c : Cause) (old new : ℕ) → HasCounts old new (FileFault.Why c) → is_link_fault (FileFault.Why c) ≡ true → IsJustified s F (held_file None) c
by_absence s F (Cause.ReadFailed before after) old new n h = rose old new before after n
by_absence s F Cause.BadFooter old new n h = absurd (true≢false (sym h))
by_absence s F Cause.BadSchema old new n h = absurd (true≢false (sym h))
by_absence s F Cause.BadCodec old new n h = absurd (true≢false (sym h))
by_absence s F Cause.BadData old new n h = absurd (true≢false (sym h))

untold_cause : (s : Schema) (F : List Leaf) (path : List ℕ) (c : Cause) (old new : ℕ) → HasCounts old new (FileFault.Why c) → IsJustified s F (held_at None path) c
untold_cause s F path (Cause.ReadFailed before after) old new n = rose old new before after n
untold_cause s F path Cause.BadFooter old new n = tt
untold_cause s F path Cause.BadSchema old new n = tt
untold_cause s F path Cause.BadCodec old new n = tt
untold_cause s F path Cause.BadData old new n = tt

justified : (s : Schema) (F : List Leaf) (held : Option Files) (path : List ℕ) (c : Cause) (old new : ℕ) → HasCounts old new (FileFault.Why c) → ((bytes : List ℕ) → TellsFile held path bytes → IsFaultOf bytes s F (FileFault.Why c))
    → (Lacks held path → is_link_fault (FileFault.Why c) ≡ true) → IsJustified s F (held_at held path) c
justified s F None path c old new n h none = untold_cause s F path c old new n
justified s F (Some files) path c old new n h none = go (files path) refl
  where
    go : (o : Option (List ℕ)) → files path ≡ o → IsJustified s F (held_file o) c
    go None e = by_absence s F c old new n (none e)
    go (Some bytes) e = by_bytes s F bytes c old new n (h bytes e)

not_read : (c : Cause) → is_link_fault (FileFault.Why c) ≡ false → is_read c ≡ false
not_read (Cause.ReadFailed before after) h = absurd (true≢false h)
not_read Cause.BadFooter h = refl
not_read Cause.BadSchema h = refl
not_read Cause.BadCodec h = refl
not_read Cause.BadData h = refl

held_bytes : (held : Option Files) (path : List ℕ) → Holds held path → (bytes : List ℕ) × TellsFile held path bytes
held_bytes None path h = absurd h
held_bytes (Some files) path h = go (files path) refl h
  where
    go : (o : Option (List ℕ)) → files path ≡ o → IsSome o → (bytes : List ℕ) × (files path ≡ Some bytes)
    go None e i = absurd (true≢false (sym i))
    go (Some bytes) e i = (bytes, e)

pub copy_cause : (s : Schema) (F : List Leaf) (link : LinkShown) (path : List ℕ) (c : Cause) (old new : ℕ) → HasCounts old new (FileFault.Why c) → ((bytes : List ℕ) → TellsFile link.held path bytes → IsFaultOf bytes s F (FileFault.Why c))
    → (Lacks link.held path → is_link_fault (FileFault.Why c) ≡ true) → ((bytes : List ℕ) → IsTrue link.is_steady → TellsFile link.held path bytes → is_link_fault (FileFault.Why c) ≡ false) → IsCauseAt s F link path c
copy_cause s F link path c old new n h none steady =
    (justified s F link.held path c old new n h none, λ is holds. let b = held_bytes link.held path holds in not_read c (steady b.0 is b.1))

-- ---- one copy after another

pub tried_more : (s : Schema) (F : List Leaf) (link : LinkShown) (cs : List Copy) (ts us : List Tried) (c : Copy) (t : Tried) → AreTried s F link cs ts → t.directory ≡ c.directory → IsCauseAt s F link c.path t.cause → us ≡ ts ++ t ∷ []
    → AreTried s F link (cs ++ c ∷ []) us
tried_more s F link cs ts us c t h d k e = subst (AreTried s F link (cs ++ c ∷ [])) (sym e) (go cs ts h)
  where
    go : (cs : List Copy) (ts : List Tried) → AreTried s F link cs ts → AreTried s F link (cs ++ c ∷ []) (ts ++ t ∷ [])
    go [] [] h = (d, k, tt)
    go [] (u ∷ us) h = absurd h
    go (x ∷ xs) [] h = absurd h
    go (x ∷ xs) (u ∷ us) h = (h.0, h.1, go xs us h.2)

-- one cause leads from the count before the copy was tried to the count behind it
one_leads : (old new : ℕ) (c : Cause) → HasCounts old new (FileFault.Why c) → (is_link_fault (FileFault.Why c) ≡ false → new ≡ old) → LeadTo old (c ∷ []) new
one_leads old new (Cause.ReadFailed before after) h calm = (h.0, h.1 ∙ h.2, sym h.1)
one_leads old new Cause.BadFooter h calm = calm refl
one_leads old new Cause.BadSchema h calm = calm refl
one_leads old new Cause.BadCodec h calm = calm refl
one_leads old new Cause.BadData h calm = calm refl

pub leads_more : (start old new : ℕ) (cs ds : List Cause) (c : Cause) → LeadTo start cs old → HasCounts old new (FileFault.Why c) → (is_link_fault (FileFault.Why c) ≡ false → new ≡ old) → ds ≡ cs ++ c ∷ [] → LeadTo start ds new
leads_more start old new cs ds c h n calm e = subst (λ (x : List Cause). LeadTo start x new) (sym e) (lead_join start old new cs (c ∷ []) h (one_leads old new c n calm))

-- what was given wasn't absent
pub not_absent : false ≡ true → ⊥
not_absent e = true≢false (sym e)

-- a copy with its cause
abbrev pub told : ℕ → Cause → Tried
told d c = record { directory = d; cause = c }
