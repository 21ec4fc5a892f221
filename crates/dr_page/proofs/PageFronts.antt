-- Bodies of pages of which fewer triplets are wanted, and their triplets joined piece by piece.
use Rattle.std.proofs.Common.{◌≡◌, ℕ, zero, suc, ◌+◌, ◌≤◌, List, [], ◌∷◌, ◌++◌, length, take, drop, Bool, true, false, refl, sym, ap, ◌∙◌, arith, Option, Some, None}
use Rattle.std.specs.Prelude.{◌==◌, if◌then◌else◌, option_map}
use Rattle.std.proofs.lemmas.List.{take-append-drop}
use Rattle.dr_meaning.specs.Record.{Value}
use Rattle.dr_meaning.specs.Column.{Triplet, triplet}
use Rattle.dr_formats.specs.Reading.{Reading, got, refused}
use Rattle.dr_formats.specs.Page.{PageShape, PageForm, data_page_v1, data_page_v2, PageFault, bad_page, LevelParts, level_parts_by, levels, encoded_values, count_equal, first_if, behind_if, join_triplets, page_triplets}
use Rattle.dr_bytes.proofs.FaultLemmas.{is_fault}
use Rattle.dr_page.specs.declared.fault.PageFault as code
use Rattle.dr_page.specs.Reads.{WhereBad}
use Rattle.dr_page.specs.PageReading.{front_of, left_of, IsReading}
use Rattle.dr_page.specs.declared.page_reader.PageReader.{PageReader}
use Rattle.dr_page.proofs.BodyLemmas.{levels_ahead, body_is_behind, levels_are, no_levels, no_parts, no_repetitions, no_definitions}
use Rattle.dr_page.proofs.FrontLemmas.{Fronts, levels_fronts}
use Rattle.dr_page.proofs.ValueFronts.{encoded_fronts}

-- ---- levels with their values

take_none : {A : Type 0} (n : ℕ) → take {A = A} n [] ≡ []
take_none zero = refl
take_none (suc n) = refl

front_by : (b : Bool) (g m r d c : ℕ) (rs ds : List ℕ) (vs : List Value) → ((us : List Value) → join_triplets g (take m rs) (take m ds) (take c us) ≡ take m (join_triplets g rs ds us))
    → triplet r d (first_if b (take (if b then suc c else c) vs)) ∷ join_triplets g (take m rs) (take m ds) (behind_if b (take (if b then suc c else c) vs))
    ≡ triplet r d (first_if b vs) ∷ take m (join_triplets g rs ds (behind_if b vs))
front_by false g m r d c rs ds vs h = ap (λ ts. triplet r d None ∷ ts) (h vs)
front_by true g m r d c rs ds [] h =
    let none : List Value = [] in
    ap (λ ts. triplet r d None ∷ ts) (ap (join_triplets g (take m rs) (take m ds)) (sym (take_none {A = Value} c)) ∙ h none)
front_by true g m r d c rs ds (v ∷ vs) h = ap (λ ts. triplet r d (Some v) ∷ ts) (h vs)

-- the first triplets are those of the first levels, with the values that these have
pub joined_front : (g m : ℕ) (rs ds : List ℕ) (vs : List Value) → join_triplets g (take m rs) (take m ds) (take (count_equal g (take m ds)) vs) ≡ take m (join_triplets g rs ds vs)
joined_front g zero rs ds vs = refl
joined_front g (suc m) [] ds vs = refl
joined_front g (suc m) (r ∷ rs) [] vs = refl
joined_front g (suc m) (r ∷ rs) (d ∷ ds) vs = front_by (d == g) g m r d (count_equal g (take m ds)) rs ds vs (λ us. joined_front g m rs ds us)

count_by : (b : Bool) (m n k : ℕ) → k ≡ m + n → (if b then suc k else k) ≡ (if b then suc m else m) + n
count_by true m n k e = omega (arith, e)
count_by false m n k e = e

pub count_joined : (g : ℕ) (ds es : List ℕ) → count_equal g (ds ++ es) ≡ count_equal g ds + count_equal g es
count_joined g [] es = omega arith
count_joined g (d ∷ ds) es = count_by (d == g) (count_equal g ds) (count_equal g es) (count_equal g (ds ++ es)) (count_joined g ds es)

more_by : (b : Bool) (g r d n : ℕ) (rs ds qs es : List ℕ) (vs us : List Value) → length vs ≡ (if b then suc n else n)
    → ((ws : List Value) → length ws ≡ n → join_triplets g (rs ++ qs) (ds ++ es) (ws ++ us) ≡ join_triplets g rs ds ws ++ join_triplets g qs es us)
    → triplet r d (first_if b (vs ++ us)) ∷ join_triplets g (rs ++ qs) (ds ++ es) (behind_if b (vs ++ us))
    ≡ triplet r d (first_if b vs) ∷ (join_triplets g rs ds (behind_if b vs) ++ join_triplets g qs es us)
more_by false g r d n rs ds qs es vs us l h = ap (λ ts. triplet r d None ∷ ts) (h vs l)
more_by true g r d n rs ds qs es [] us l h = absurd (omega (arith, l))
more_by true g r d n rs ds qs es (v ∷ vs) us l h = ap (λ ts. triplet r d (Some v) ∷ ts) (h vs (omega (arith, l)))

-- pieces of levels, each with its values
pub joined_more : (g : ℕ) (rs ds qs es : List ℕ) (vs us : List Value) → length rs ≡ length ds → length vs ≡ count_equal g ds
    → join_triplets g (rs ++ qs) (ds ++ es) (vs ++ us) ≡ join_triplets g rs ds vs ++ join_triplets g qs es us
joined_more g [] [] qs es [] us h l = refl
joined_more g [] [] qs es (v ∷ vs) us h l = absurd (omega (arith, l))
joined_more g [] (d ∷ ds) qs es vs us h l = absurd (omega (arith, h))
joined_more g (r ∷ rs) [] qs es vs us h l = absurd (omega (arith, h))
joined_more g (r ∷ rs) (d ∷ ds) qs es vs us h l = more_by (d == g) g r d (count_equal g ds) rs ds qs es vs us l (λ ws k. joined_more g rs ds qs es ws us (omega (arith, h)) k)

length_by : (b : Bool) (g r d n : ℕ) (rs ds : List ℕ) (vs : List Value) → ((us : List Value) → length (join_triplets g rs ds us) ≡ n) → length (triplet r d (first_if b vs) ∷ join_triplets g rs ds (behind_if b vs)) ≡ suc n
length_by b g r d n rs ds vs h = ap suc (h (behind_if b vs))

pub length_joined : (g : ℕ) (rs ds : List ℕ) (vs : List Value) → length rs ≡ length ds → length (join_triplets g rs ds vs) ≡ length rs
length_joined g [] ds vs h = refl
length_joined g (r ∷ rs) [] vs h = absurd (omega (arith, h))
length_joined g (r ∷ rs) (d ∷ ds) vs h = length_by (d == g) g r d (length rs) rs ds vs (λ us. length_joined g rs ds us (omega (arith, h)))

-- ---- a body of so many triplets, part by part

pub record Body (s : PageShape) (d : List Value) (bytes : List ℕ) (n : ℕ) (ts : List Triplet) : Type 0 where
  pub parts : LevelParts
  pub rest : List ℕ
  pub rs : List ℕ
  pub ds : List ℕ
  pub vs : List Value
  pub found : level_parts_by s.form s bytes ≡ got parts rest
  pub repetitions : levels s.max_repetition n parts.repetitions ≡ Some rs
  pub definitions : levels s.max_definition n parts.definitions ≡ Some ds
  pub values : encoded_values s.encoding s.kind d (count_equal s.max_definition ds) rest ≡ Some vs
  pub joined : ts ≡ join_triplets s.max_definition rs ds vs

-- the level parts lie where they lie, however many triplets are wanted
pub same_parts : (f : PageForm) (n : ℕ) (s : PageShape) (bs : List ℕ) → level_parts_by f (front_of n s) bs ≡ level_parts_by f s bs
same_parts data_page_v1 n s bs = refl
same_parts data_page_v2 n s bs = refl

pub body_there : (s : PageShape) (d : List Value) (bytes : List ℕ) (n : ℕ) (ts : List Triplet) → Body s d bytes n ts → page_triplets (front_of n s) d bytes ≡ Some ts
body_there s d bytes n ts b =
    body_is_behind (front_of n s) d bytes b.rest (b.rs, b.ds) (levels_are (front_of n s) bytes b.rest b.parts b.rs b.ds (same_parts s.form n s bytes ∙ b.found) b.repetitions b.definitions)
    ∙ (ap (λ o. option_map (join_triplets s.max_definition b.rs b.ds) o) b.values ∙ ap Some (sym b.joined))

-- where the levels are refused there are no triplets
none_there : (s : PageShape) (d : List Value) (bytes : List ℕ) (n : ℕ) (ts : List Triplet) → WhereBad code.PageFault.BadData (levels_ahead (front_of n s) bytes) → page_triplets (front_of n s) d bytes ≡ Some ts → ⊥
none_there s d bytes n ts h e = let f : page_triplets (front_of n s) d bytes ≡ None = no_levels (front_of n s) d bytes code.PageFault.BadData h in cc

by_values : (s : PageShape) (d : List Value) (bytes rest : List ℕ) (n : ℕ) (ts : List Triplet) (p : LevelParts) (rs ds : List ℕ) → level_parts_by s.form s bytes ≡ got p rest → levels s.max_repetition n p.repetitions ≡ Some rs
    → levels s.max_definition n p.definitions ≡ Some ds → (o : Option (List Value)) → encoded_values s.encoding s.kind d (count_equal s.max_definition ds) rest ≡ o → option_map (join_triplets s.max_definition rs ds) o ≡ Some ts → Body s d bytes n ts
by_values s d bytes rest n ts p rs ds e a b None f g = absurd (cc)
by_values s d bytes rest n ts p rs ds e a b (Some vs) f g =
    let h : join_triplets s.max_definition rs ds vs ≡ ts = cc in
    record { parts = p; rest = rest; rs = rs; ds = ds; vs = vs; found = e; repetitions = a; definitions = b; values = f; joined = sym h }

by_definitions : (s : PageShape) (d : List Value) (bytes rest : List ℕ) (n : ℕ) (ts : List Triplet) (p : LevelParts) (rs : List ℕ) → level_parts_by s.form s bytes ≡ got p rest → levels s.max_repetition n p.repetitions ≡ Some rs
    → (o : Option (List ℕ)) → levels s.max_definition n p.definitions ≡ o → page_triplets (front_of n s) d bytes ≡ Some ts → Body s d bytes n ts
by_definitions s d bytes rest n ts p rs e a None b g =
    absurd (none_there s d bytes n ts (no_definitions (front_of n s) bytes rest p rs code.PageFault.BadData (same_parts s.form n s bytes ∙ e) a b) g)
by_definitions s d bytes rest n ts p rs e a (Some ds) b g =
    by_values s d bytes rest n ts p rs ds e a b (encoded_values s.encoding s.kind d (count_equal s.max_definition ds) rest) refl
    (sym (body_is_behind (front_of n s) d bytes rest (rs, ds) (levels_are (front_of n s) bytes rest p rs ds (same_parts s.form n s bytes ∙ e) a b)) ∙ g)

by_repetitions : (s : PageShape) (d : List Value) (bytes rest : List ℕ) (n : ℕ) (ts : List Triplet) (p : LevelParts) → level_parts_by s.form s bytes ≡ got p rest
    → (o : Option (List ℕ)) → levels s.max_repetition n p.repetitions ≡ o → page_triplets (front_of n s) d bytes ≡ Some ts → Body s d bytes n ts
by_repetitions s d bytes rest n ts p e None a g = absurd (none_there s d bytes n ts (no_repetitions (front_of n s) bytes rest p code.PageFault.BadData (same_parts s.form n s bytes ∙ e) a) g)
by_repetitions s d bytes rest n ts p e (Some rs) a g = by_definitions s d bytes rest n ts p rs e a (levels s.max_definition n p.definitions) refl g

by_parts : (s : PageShape) (d : List Value) (bytes : List ℕ) (n : ℕ) (ts : List Triplet) (r : Reading PageFault LevelParts) → level_parts_by s.form s bytes ≡ r → page_triplets (front_of n s) d bytes ≡ Some ts → Body s d bytes n ts
by_parts s d bytes n ts (refused bad_page q) e g =
    absurd (none_there s d bytes n ts (no_parts (front_of n s) bytes code.PageFault.BadData (is_fault bad_page (level_parts_by s.form (front_of n s) bytes) q (same_parts s.form n s bytes ∙ e))) g)
by_parts s d bytes n ts (got p rest) e g = by_repetitions s d bytes rest n ts p e (levels s.max_repetition n p.repetitions) refl g

pub body_of : (s : PageShape) (d : List Value) (bytes : List ℕ) (n : ℕ) (ts : List Triplet) → page_triplets (front_of n s) d bytes ≡ Some ts → Body s d bytes n ts
body_of s d bytes n ts g = by_parts s d bytes n ts (level_parts_by s.form s bytes) refl g

-- ---- bodies of which fewer triplets are wanted

count_front : (g m : ℕ) (ds : List ℕ) → count_equal g (take m ds) ≤ count_equal g ds
count_front g m ds =
    let e : count_equal g ds ≡ count_equal g (take m ds) + count_equal g (drop m ds) = ap (count_equal g) (sym (take-append-drop m ds)) ∙ count_joined g (take m ds) (drop m ds) in
    omega (arith, e)

pub page_fronts : (s : PageShape) (d : List Value) (bytes : List ℕ) → Fronts (λ n. page_triplets (front_of n s) d bytes)
page_fronts s d bytes m n ts l e =
    let b = body_of s d bytes n ts e in
    let g : ℕ = s.max_definition in
    body_there s d bytes m (take m ts) (record {
      parts = b.parts;
      rest = b.rest;
      rs = take m b.rs;
      ds = take m b.ds;
      vs = take (count_equal g (take m b.ds)) b.vs;
      found = b.found;
      repetitions = levels_fronts s.max_repetition b.parts.repetitions m n b.rs l b.repetitions;
      definitions = levels_fronts g b.parts.definitions m n b.ds l b.definitions;
      values = encoded_fronts s.encoding s.kind d b.rest (count_equal g (take m b.ds)) (count_equal g b.ds) b.vs (count_front g m b.ds) b.values;
      joined = ap (take m) b.joined ∙ sym (joined_front g m b.rs b.ds b.vs);
    })

-- ---- what a reader has given

-- it is a front of the page's triplets
pub given_is_front : (s : PageShape) (d : List Value) (bytes : List ℕ) (given : List Triplet) (r : PageReader) (ts : List Triplet) → IsReading s d bytes given r → page_triplets s d bytes ≡ Some ts → (rest : List Triplet) × (ts ≡ given ++ rest)
given_is_front s d bytes given r ts h e =
    let a : page_triplets (front_of (length given) s) d bytes ≡ Some (take (length given) ts) = page_fronts s d bytes (length given) s.triplets ts (omega (arith, h.left)) e in
    let b : page_triplets (front_of (length given) s) d bytes ≡ Some given = h.front in
    let f : take (length given) ts ≡ given = cc in
    (drop (length given) ts, sym (take-append-drop (length given) ts) ∙ ap (λ xs. xs ++ drop (length given) ts) f)

-- all of them where nothing is left
pub all_given : (s : PageShape) (d : List Value) (bytes : List ℕ) (given : List Triplet) (r : PageReader) → IsReading s d bytes given r → left_of r ≡ 0 → page_triplets s d bytes ≡ Some given
all_given s d bytes given r h e =
    let f : length given ≡ s.triplets = omega (arith, h.left, e) in
    sym (ap (λ n. page_triplets (front_of n s) d bytes) f) ∙ h.front
