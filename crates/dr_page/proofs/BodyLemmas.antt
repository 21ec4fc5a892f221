-- Bodies, part by part.
use Rattle.std.proofs.Common.{◌≡◌, ℕ, suc, List, [], ◌∷◌, map, drop, Bool, true, false, refl, sym, ap, ap₂, ◌∙◌, Option, Some, None}
use Rattle.std.specs.Prelude.{◌==◌, if◌then◌else◌, option_map}
use Rattle.dr_meaning.specs.Record.{Value}
use Rattle.dr_meaning.specs.Column.{Triplet, triplet}
use Rattle.dr_formats.specs.Reading.{Reading, got, refused, Reader, give, goes_on, ◌>>=◌}
use Rattle.dr_formats.specs.Page as page
use Rattle.dr_formats.specs.Page.{PageShape, LevelParts, bad_page, found, level_parts_by, levels, values, encoded_values, count_equal, first_if, behind_if, join_triplets, page_body, triplets_read, page_triplets}
use Rattle.dr_levels.specs.declared.triplet.Levels.{Levels}
use Rattle.dr_levels.specs.Dense.{present, first_of, joined}
use Rattle.dr_bytes.specs.Numbers.{IsFault}
use Rattle.dr_bytes.proofs.FaultLemmas.{is_fault, was_fault}
use Rattle.dr_page.specs.declared.fault.PageFault.{PageFault}
use Rattle.dr_page.specs.Reads.{WhereNone, WhereBad}
use Rattle.dr_page.specs.Parts.{PairsOf}

-- ---- pairs of levels

abbrev repetitions : List Levels → List ℕ
repetitions ls = map (λ (l : Levels). l.repetition) ls

abbrev definitions : List Levels → List ℕ
definitions ls = map (λ (l : Levels). l.definition) ls

one_joined : (b : Bool) (g : ℕ) (l : Levels) (ls : List Levels) (vs : List Value) → ((us : List Value) → join_triplets g (repetitions ls) (definitions ls) us ≡ joined g ls us)
    → triplet l.repetition l.definition (first_if b vs) ∷ join_triplets g (repetitions ls) (definitions ls) (behind_if b vs)
    ≡ (if b then triplet l.repetition l.definition (first_of vs) ∷ joined g ls (drop 1 vs) else triplet l.repetition l.definition None ∷ joined g ls vs)
one_joined true g l ls [] h = ap (λ ts. triplet l.repetition l.definition None ∷ ts) (h [])
one_joined true g l ls (v ∷ vs) h = ap (λ ts. triplet l.repetition l.definition (Some v) ∷ ts) (h vs)
one_joined false g l ls vs h = ap (λ ts. triplet l.repetition l.definition None ∷ ts) (h vs)

same_joined : (g : ℕ) (ls : List Levels) (vs : List Value) → join_triplets g (repetitions ls) (definitions ls) vs ≡ joined g ls vs
same_joined g [] vs = refl
same_joined g (l ∷ ls) vs = one_joined (l.definition == g) g l ls vs (same_joined g ls)

same_present : (g : ℕ) (ls : List Levels) → present g ls ≡ count_equal g (definitions ls)
same_present g [] = refl
same_present g (l ∷ ls) = ap (λ n. if l.definition == g then suc n else n) (same_present g ls)

pub pairs_joined : (g : ℕ) (rs ds : List ℕ) (ls : List Levels) (vs : List Value) → PairsOf rs ds ls → join_triplets g rs ds vs ≡ joined g ls vs
pairs_joined g rs ds ls vs p = ap₂ (λ a b. join_triplets g a b vs) (sym p.0) (sym p.1) ∙ same_joined g ls vs

pub pairs_present : (g : ℕ) (rs ds : List ℕ) (ls : List Levels) → PairsOf rs ds ls → present g ls ≡ count_equal g ds
pairs_present g rs ds ls p = same_present g ls ∙ ap (count_equal g) p.1

-- ---- whole bodies

-- the repetition and the definition levels with which a body begins
abbrev pub levels_ahead : PageShape → Reader page.PageFault (List ℕ × List ℕ)
levels_ahead s = do
  p ← level_parts_by s.form s
  rs ← found (levels s.max_repetition s.triplets p.repetitions)
  ds ← found (levels s.max_definition s.triplets p.definitions)
  give (rs, ds)

-- the triplets of repetition and definition levels, with the values that the rest of the body begins with
abbrev pub triplets_behind : PageShape → List Value → List ℕ × List ℕ → List ℕ → Option (List Triplet)
triplets_behind s d ls rest = option_map (join_triplets s.max_definition ls.0 ls.1) (encoded_values s.encoding s.kind d (count_equal s.max_definition ls.1) rest)

regroup : {A B C : Type 0} (r : Reading page.PageFault A) (second : Reader page.PageFault B) (next : A → B → Reader page.PageFault C)
    → goes_on r (λ a bs. goes_on (second bs) (next a)) ≡ goes_on (goes_on r (λ a bs. goes_on (second bs) (λ b. give (a, b)))) (λ (p : A × B). next p.0 p.1)
regroup (refused e bs) second next = refl
regroup (got a bs) second next = inner a (second bs) next
  where
    inner : {A B C : Type 0} (a : A) (r : Reading page.PageFault B) (next : A → B → Reader page.PageFault C) → goes_on r (next a) ≡ goes_on (goes_on r (λ b. give (a, b))) (λ (p : A × B). next p.0 p.1)
    inner a (refused e bs) next = refl
    inner a (got b bs) next = refl

found_triplets : (o : Option (List Value)) (f : List Value → List Triplet) (bs : List ℕ) → triplets_read (goes_on (found o bs) (λ vs. give (f vs))) ≡ option_map f o
found_triplets None f bs = refl
found_triplets (Some vs) f bs = refl

-- the values and triplets behind these levels
abbrev behind : PageShape → List Value → List ℕ → List ℕ → Reader page.PageFault (List Triplet)
behind s d rs ds bs = goes_on (values s.encoding s.kind d (count_equal s.max_definition ds) bs) (λ vs. give (join_triplets s.max_definition rs ds vs))

-- where the level parts are found
by_part : (s : PageShape) (d : List Value) (r : Reading page.PageFault LevelParts)
    → goes_on r (λ p bs. goes_on (found (levels s.max_repetition s.triplets p.repetitions) bs) (λ rs cs. goes_on (found (levels s.max_definition s.triplets p.definitions) cs) (λ ds. behind s d rs ds)))
    ≡ goes_on (goes_on r (λ p bs. goes_on (found (levels s.max_repetition s.triplets p.repetitions) bs) (λ rs cs. goes_on (found (levels s.max_definition s.triplets p.definitions) cs) (λ ds. give (rs, ds))))) (λ (p : List ℕ × List ℕ). behind s d p.0 p.1)
by_part s d (refused e bs) = refl
by_part s d (got p bs) = regroup (found (levels s.max_repetition s.triplets p.repetitions) bs) (found (levels s.max_definition s.triplets p.definitions)) (behind s d)

by_parts : (s : PageShape) (d : List Value) (bs : List ℕ) → page_body s d bs ≡ goes_on (levels_ahead s bs) (λ (p : List ℕ × List ℕ). behind s d p.0 p.1)
by_parts s d bs = by_part s d (level_parts_by s.form s bs)

-- the triplets of a body are those of its levels, with the values behind them
pub body_is_behind : (s : PageShape) (d : List Value) (bs rest : List ℕ) (p : List ℕ × List ℕ) → levels_ahead s bs ≡ got p rest → page_triplets s d bs ≡ triplets_behind s d p rest
unfolding page_triplets
body_is_behind s d bs rest p e =
    ap triplets_read (by_parts s d bs ∙ ap (λ r. goes_on r (λ (q : List ℕ × List ℕ). behind s d q.0 q.1)) e)
    ∙ found_triplets (encoded_values s.encoding s.kind d (count_equal s.max_definition p.1) rest) (join_triplets s.max_definition p.0 p.1) []

-- there are none where levels are refused
pub no_levels : (s : PageShape) (d : List Value) (bs : List ℕ) (e : PageFault) → WhereBad e (levels_ahead s bs) → WhereNone e (page_triplets s d bs)
unfolding page_triplets
no_levels s d bs PageFault.NoMemory h = tt
no_levels s d bs PageFault.BadData h =
    let w = was_fault bad_page (levels_ahead s bs) h in
    ap triplets_read (by_parts s d bs ∙ ap (λ r. goes_on r (λ (q : List ℕ × List ℕ). behind s d q.0 q.1)) w.1)

-- ---- levels behind the parts

-- the levels of parts that are found
pub levels_are : (s : PageShape) (bs rest : List ℕ) (p : LevelParts) (rs ds : List ℕ) → level_parts_by s.form s bs ≡ got p rest → levels s.max_repetition s.triplets p.repetitions ≡ Some rs → levels s.max_definition s.triplets p.definitions ≡ Some ds
    → levels_ahead s bs ≡ got (rs, ds) rest
levels_are s bs rest p rs ds e h k = rw (e, h, k) refl

-- the levels of parts
abbrev levels_in : PageShape → LevelParts → Reader page.PageFault (List ℕ × List ℕ)
levels_in s p bs = goes_on (found (levels s.max_repetition s.triplets p.repetitions) bs) (λ rs cs. goes_on (found (levels s.max_definition s.triplets p.definitions) cs) (λ ds. give (rs, ds)))

parts_refused : (s : PageShape) (r : Reading page.PageFault LevelParts) → IsFault bad_page r → IsFault bad_page (goes_on r (levels_in s))
parts_refused s (got p bs) h = absurd h
parts_refused s (refused x bs) h = h

-- they are refused where the parts are
pub no_parts : (s : PageShape) (bs : List ℕ) (e : PageFault) → WhereBad e (level_parts_by s.form s bs) → WhereBad e (levels_ahead s bs)
no_parts s bs PageFault.NoMemory h = tt
no_parts s bs PageFault.BadData h = parts_refused s (level_parts_by s.form s bs) h

-- or where a part has no levels
pub no_repetitions : (s : PageShape) (bs rest : List ℕ) (p : LevelParts) (e : PageFault) → level_parts_by s.form s bs ≡ got p rest → WhereNone e (levels s.max_repetition s.triplets p.repetitions) → WhereBad e (levels_ahead s bs)
no_repetitions s bs rest p PageFault.NoMemory h k = tt
no_repetitions s bs rest p PageFault.BadData h k = is_fault bad_page (levels_ahead s bs) rest (rw (h, k) refl)

pub no_definitions : (s : PageShape) (bs rest : List ℕ) (p : LevelParts) (rs : List ℕ) (e : PageFault) → level_parts_by s.form s bs ≡ got p rest → levels s.max_repetition s.triplets p.repetitions ≡ Some rs
    → WhereNone e (levels s.max_definition s.triplets p.definitions) → WhereBad e (levels_ahead s bs)
no_definitions s bs rest p rs PageFault.NoMemory h r k = tt
no_definitions s bs rest p rs PageFault.BadData h r k = is_fault bad_page (levels_ahead s bs) rest (rw (h, r, k) refl)
