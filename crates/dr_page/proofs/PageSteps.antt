-- A page that is read a piece at a time: what each piece leaves.
use Rattle.std.proofs.Common.{◌≡◌, ℕ, ◌+◌, ◌-◌, ◌≤◌, List, [], ◌++◌, length, take, drop, refl, sym, ap, ap₂, ◌∙◌, subst, arith, Option, Some, None, ◌⊎◌, inl, inr}
use Rattle.std.specs.Prelude.{Err, min}
use Rattle.std.proofs.lemmas.List.{length-append, length-map, take_rest}
use Rattle.dr_meaning.specs.Record.{Value}
use Rattle.dr_meaning.specs.Column.{Triplet}
use Rattle.dr_nested.specs.Views.{kind_view}
use Rattle.dr_levels.specs.declared.triplet.Levels.{Levels}
use Rattle.dr_levels.specs.Dense.{joined}
use Rattle.dr_formats.specs.Reading.{got}
use Rattle.dr_formats.specs.Page as page
use Rattle.dr_formats.specs.Page.{PageShape, LevelParts, level_parts_by, levels, encoded_values, count_equal, join_triplets, page_triplets}
use Rattle.dr_formats.proofs.ReadingLemmas.{same_got}
use Rattle.dr_page.specs.declared.fault.PageFault.{PageFault}
use Rattle.dr_page.specs.declared.part.BodyParts.{BodyParts}
use Rattle.dr_page.specs.declared.level_pairs.LevelPairs.{LevelPairs}
use Rattle.dr_page.specs.declared.page_reader.PageReader.{PageReader}
use Rattle.dr_page.specs.Encodings.{HasNoValues}
use Rattle.dr_page.specs.Reads.{WhereNone, WhereBad}
use Rattle.dr_page.specs.Parts.{part_in, parts_in, AreInside, PairsOf}
use Rattle.dr_page.specs.LevelPieces.{HavePairs, WhereNotBoth}
use Rattle.dr_page.specs.ValuePieces.{HasValues}
use Rattle.dr_page.specs.PageReading.{front_of, left_of, refused_of, Stands, IsReading, Gives}
use Rattle.dr_page.proofs.BodyLemmas.{pairs_joined, no_levels, no_parts}
use Rattle.dr_page.proofs.FrontLemmas.{none_beyond}
use Rattle.dr_page.proofs.PageFronts.{Body, body_there, body_of, same_parts, page_fronts, count_joined, joined_more, length_joined}

-- ---- where a page isn't there

none_by : (s : PageShape) (d : List Value) (bytes : List ℕ) (n : ℕ) (o : Option (List Triplet)) → page_triplets (front_of n s) d bytes ≡ o → ((ts : List Triplet) → Body s d bytes n ts → ⊥) → o ≡ None
none_by s d bytes n None e h = refl
none_by s d bytes n (Some ts) e h = absurd (h ts (body_of s d bytes n ts e))

none_without : (s : PageShape) (d : List Value) (bytes : List ℕ) (n : ℕ) → ((ts : List Triplet) → Body s d bytes n ts → ⊥) → page_triplets (front_of n s) d bytes ≡ None
none_without s d bytes n h = none_by s d bytes n (page_triplets (front_of n s) d bytes) refl h

both_none : (s : PageShape) (d : List Value) (bytes : List ℕ) (n : ℕ) → n ≤ s.triplets → ((ts : List Triplet) → Body s d bytes n ts → ⊥) → (page_triplets (front_of n s) d bytes ≡ None) × (page_triplets s d bytes ≡ None)
both_none s d bytes n l h =
    let e = none_without s d bytes n h in
    (e, none_beyond (λ m. page_triplets (front_of m s) d bytes) n s.triplets (page_fronts s d bytes) l e)

-- no values of a kind have the encoding
pub no_encoding : (s : PageShape) (d : List Value) (bytes : List ℕ) (n : ℕ) → HasNoValues s.kind s.encoding → page_triplets (front_of n s) d bytes ≡ None
no_encoding s d bytes n h = none_without s d bytes n (λ ts b. let e = h d (count_equal s.max_definition b.ds) b.rest in let f = b.values in cc)

-- the parts are refused
pub no_body : (e : PageFault) (s : PageShape) (d : List Value) (bytes : List ℕ) (n : ℕ) → WhereBad e (level_parts_by s.form s bytes) → WhereNone e (page_triplets (front_of n s) d bytes)
no_body e s d bytes n h = no_levels (front_of n s) d bytes e (no_parts (front_of n s) bytes e (subst (λ r. WhereBad e r) (sym (same_parts s.form n s bytes)) h))

-- ---- a piece that isn't there

same_list : (xs : List ℕ) (o : Option (List ℕ)) (ys : List ℕ) → o ≡ Some ys → o ≡ Some xs → ys ≡ xs
same_list xs o ys e f = let g : Some ys ≡ Some xs = sym e ∙ f in cc

module _ (s : PageShape) (d : List Value) (bytes : List ℕ) (given : List Triplet) (n : ℕ) (r : PageReader) (h : IsReading s d bytes given r) (few : n ≤ left_of r) where
  short_repetitions : levels r.levels.repetitions.greatest (length h.stands.rs + n) (part_in bytes r.parts.repetitions) ≡ None → (ts : List Triplet) → Body s d bytes (length given + n) ts → ⊥
  short_repetitions e ts b =
      let p = (same_got {E = page.PageFault} b.parts (parts_in bytes r.parts) b.rest (drop r.parts.values bytes) (sym b.found ∙ h.stands.parts)).0 in
      let l : length h.stands.rs ≡ length given = sym (ap length h.stands.triplets ∙ length_joined s.max_definition h.stands.rs h.stands.ds h.stands.vs h.stands.as_many) in
      let a : levels s.max_repetition (length given + n) b.parts.repetitions ≡ None = ap₂ (λ g m. levels g m b.parts.repetitions) (sym h.stands.repetition) (ap (λ m. m + n) (sym l)) ∙ (ap (λ (q : LevelParts). levels r.levels.repetitions.greatest (length h.stands.rs + n) q.repetitions) p ∙ e) in
      let f = b.repetitions in
      cc

  short_definitions : levels r.levels.definitions.greatest (length h.stands.ds + n) (part_in bytes r.parts.definitions) ≡ None → (ts : List Triplet) → Body s d bytes (length given + n) ts → ⊥
  short_definitions e ts b =
      let p = (same_got {E = page.PageFault} b.parts (parts_in bytes r.parts) b.rest (drop r.parts.values bytes) (sym b.found ∙ h.stands.parts)).0 in
      let l : length h.stands.ds ≡ length given = sym (ap length h.stands.triplets ∙ (length_joined s.max_definition h.stands.rs h.stands.ds h.stands.vs h.stands.as_many ∙ h.stands.as_many)) in
      let a : levels s.max_definition (length given + n) b.parts.definitions ≡ None = ap₂ (λ g m. levels g m b.parts.definitions) (sym h.stands.definition) (ap (λ m. m + n) (sym l)) ∙ (ap (λ (q : LevelParts). levels r.levels.definitions.greatest (length h.stands.ds + n) q.definitions) p ∙ e) in
      let f = b.definitions in
      cc

  either_short : (levels r.levels.repetitions.greatest (length h.stands.rs + n) (part_in bytes r.parts.repetitions) ≡ None) ⊎ (levels r.levels.definitions.greatest (length h.stands.ds + n) (part_in bytes r.parts.definitions) ≡ None)
      → (ts : List Triplet) → Body s d bytes (length given + n) ts → ⊥
  either_short (inl e) = short_repetitions e
  either_short (inr e) = short_definitions e

  -- a level part doesn't have so many
  pub no_more_levels : (e : PageFault) (before after : List Triplet) (new : PageReader)
      → WhereNotBoth e (levels r.levels.repetitions.greatest (length h.stands.rs + n) (part_in bytes r.parts.repetitions)) (levels r.levels.definitions.greatest (length h.stands.ds + n) (part_in bytes r.parts.definitions))
      → Gives s d bytes given n before after new (Err e)
  no_more_levels PageFault.NoMemory before after new w = tt
  no_more_levels PageFault.BadData before after new w = both_none s d bytes (length given + n) (omega (arith, h.left, few)) (either_short w)

  short_values : (k : ℕ) (es fs : List ℕ) (l : LevelPairs) → HavePairs bytes r.parts (h.stands.rs ++ es) (h.stands.ds ++ fs) l → l.definitions.greatest ≡ r.levels.definitions.greatest → length fs ≡ n → k ≡ count_equal s.max_definition fs
      → encoded_values s.encoding s.kind d (length h.stands.vs + k) (drop r.parts.values bytes) ≡ None → (ts : List Triplet) → Body s d bytes (length given + n) ts → ⊥
  short_values k es fs l p g m c e ts b =
      let q = same_got {E = page.PageFault} b.parts (parts_in bytes r.parts) b.rest (drop r.parts.values bytes) (sym b.found ∙ h.stands.parts) in
      let z : length (h.stands.ds ++ fs) ≡ length given + n = omega (arith, length-append h.stands.ds fs, m, ap length h.stands.triplets, length_joined s.max_definition h.stands.rs h.stands.ds h.stands.vs h.stands.as_many, h.stands.as_many) in
      let a : levels s.max_definition (length given + n) b.parts.definitions ≡ Some (h.stands.ds ++ fs) = ap₂ (λ x y. levels x y b.parts.definitions) (sym (g ∙ h.stands.definition)) (sym z) ∙ (ap (λ (x : LevelParts). levels l.definitions.greatest (length (h.stands.ds ++ fs)) x.definitions) q.0 ∙ p.definitions.taken) in
      let f : b.ds ≡ h.stands.ds ++ fs = same_list (h.stands.ds ++ fs) (levels s.max_definition (length given + n) b.parts.definitions) b.ds b.definitions a in
      let j : count_equal s.max_definition b.ds ≡ length h.stands.vs + k = ap (count_equal s.max_definition) f ∙ (count_joined s.max_definition h.stands.ds fs ∙ ap₂ (λ x y. x + y) (sym h.stands.present) (sym c)) in
      let v : encoded_values s.encoding s.kind d (count_equal s.max_definition b.ds) b.rest ≡ None = ap₂ (λ x y. encoded_values s.encoding s.kind d x y) j q.1 ∙ e in
      let w = b.values in
      cc

  -- there aren't so many values
  pub no_more_values : (e : PageFault) (k : ℕ) (es fs : List ℕ) (l : LevelPairs) (before after : List Triplet) (new : PageReader) → HavePairs bytes r.parts (h.stands.rs ++ es) (h.stands.ds ++ fs) l
      → l.definitions.greatest ≡ r.levels.definitions.greatest → length fs ≡ n → k ≡ count_equal s.max_definition fs → WhereNone e (encoded_values s.encoding s.kind d (length h.stands.vs + k) (drop r.parts.values bytes))
      → Gives s d bytes given n before after new (Err e)
  no_more_values PageFault.NoMemory k es fs l before after new p g m c w = tt
  no_more_values PageFault.BadData k es fs l before after new p g m c w = both_none s d bytes (length given + n) (omega (arith, h.left, few)) (short_values k es fs l p g m c w)

-- ---- a piece that is there

-- pairs of levels are as many as the levels
pairs_length : (es fs : List ℕ) (pairs : List Levels) → PairsOf es fs pairs → (length es ≡ length pairs) × (length fs ≡ length pairs)
pairs_length es fs pairs p =
    (sym (ap length p.0) ∙ length-map pairs (λ (l : Levels). l.repetition), sym (ap length p.1) ∙ length-map pairs (λ (l : Levels). l.definition))

pub stands_more : (s : PageShape) (d : List Value) (bytes : List ℕ) (given : List Triplet) (r new : PageReader) (es fs : List ℕ) (us : List Value) (h : Stands s d bytes given r)
    → new.kind ≡ r.kind → new.parts ≡ r.parts → new.levels.repetitions.greatest ≡ r.levels.repetitions.greatest → new.levels.definitions.greatest ≡ r.levels.definitions.greatest
    → HavePairs bytes r.parts (h.rs ++ es) (h.ds ++ fs) new.levels → length es ≡ length fs → length us ≡ count_equal s.max_definition fs
    → HasValues s.encoding s.kind d (drop r.parts.values bytes) (h.vs ++ us) new.values → Stands s d bytes (given ++ join_triplets s.max_definition es fs us) new
stands_more s d bytes given r new es fs us h k p x y l m c v = record {
  rs = h.rs ++ es;
  ds = h.ds ++ fs;
  vs = h.vs ++ us;
  kind = ap kind_view k ∙ h.kind;
  repetition = x ∙ h.repetition;
  definition = y ∙ h.definition;
  parts = subst (λ (q : BodyParts). level_parts_by s.form s bytes ≡ got (parts_in bytes q) (drop q.values bytes)) (sym p) h.parts;
  inside = subst (λ (q : BodyParts). AreInside bytes q) (sym p) h.inside;
  levels = subst (λ (q : BodyParts). HavePairs bytes q (h.rs ++ es) (h.ds ++ fs) new.levels) (sym p) l;
  values = subst (λ (q : BodyParts). HasValues s.encoding s.kind d (drop q.values bytes) (h.vs ++ us) new.values) (sym p) v;
  as_many = omega (arith, length-append h.rs es, length-append h.ds fs, h.as_many, m);
  present = omega (arith, length-append h.vs us, count_joined s.max_definition h.ds fs, h.present, c);
  triplets = ap (λ ts. ts ++ join_triplets s.max_definition es fs us) h.triplets ∙ sym (joined_more s.max_definition h.rs h.ds es fs h.vs us h.as_many h.present);
}

-- where a reader stands, the triplets that it gave are those of a page
pub front_there : (s : PageShape) (d : List Value) (bytes : List ℕ) (given : List Triplet) (r : PageReader) → Stands s d bytes given r → page_triplets (front_of (length given) s) d bytes ≡ Some given
front_there s d bytes given r h =
    let l : length given ≡ length h.rs = ap length h.triplets ∙ length_joined s.max_definition h.rs h.ds h.vs h.as_many in
    let m : length given ≡ length h.ds = l ∙ h.as_many in
    body_there s d bytes (length given) given (record {
      parts = parts_in bytes r.parts;
      rest = drop r.parts.values bytes;
      rs = h.rs;
      ds = h.ds;
      vs = h.vs;
      found = h.parts;
      repetitions = ap₂ (λ g n. levels g n (part_in bytes r.parts.repetitions)) (sym h.repetition) l ∙ h.levels.repetitions.taken;
      definitions = ap₂ (λ g n. levels g n (part_in bytes r.parts.definitions)) (sym h.definition) m ∙ h.levels.definitions.taken;
      values = ap (λ n. encoded_values s.encoding s.kind d n (drop r.parts.values bytes)) (sym h.present) ∙ h.values.front;
      joined = h.triplets;
    })

pub gives_more : (s : PageShape) (d : List Value) (bytes : List ℕ) (given : List Triplet) (n g : ℕ) (r new : PageReader) (before after : List Triplet) (es fs : List ℕ) (pairs : List Levels) (us : List Value) (h : IsReading s d bytes given r)
    → new.kind ≡ r.kind → new.parts ≡ r.parts → new.levels.repetitions.greatest ≡ r.levels.repetitions.greatest → new.levels.definitions.greatest ≡ r.levels.definitions.greatest
    → HavePairs bytes r.parts (h.stands.rs ++ es) (h.stands.ds ++ fs) new.levels → PairsOf es fs pairs → length pairs ≡ n → length us ≡ count_equal s.max_definition fs
    → HasValues s.encoding s.kind d (drop r.parts.values bytes) (h.stands.vs ++ us) new.values → g ≡ s.max_definition → after ≡ before ++ joined g pairs us → left_of new + n ≡ left_of r → refused_of new ≡ None
    → (more : List Triplet) × (length more ≡ n) × (after ≡ before ++ more) × IsReading s d bytes (given ++ more) new
gives_more s d bytes given n g r new before after es fs pairs us h k p x y l o m c v e a w go =
    let z = pairs_length es fs pairs o in
    let same : length es ≡ length fs = z.0 ∙ sym z.1 in
    let more : List Triplet = join_triplets s.max_definition es fs us in
    let j : length more ≡ n = length_joined s.max_definition es fs us same ∙ (z.0 ∙ m) in
    let st = stands_more s d bytes given r new es fs us h.stands k p x y l same c v in (
      more,
      j,
      a ∙ ap (λ ts. before ++ ts) (ap (λ i. joined i pairs us) e ∙ sym (pairs_joined s.max_definition es fs pairs us o)),
      record {
        front = front_there s d bytes (given ++ more) new st;
        left = omega (arith, length-append given more, h.left, w, j);
        going = go;
        stands = st;
      },
    )

-- ---- a page that begins

pub begun : (s : PageShape) (d : List Value) (bytes : List ℕ) (r : PageReader) → kind_view r.kind ≡ s.kind → r.levels.repetitions.greatest ≡ s.max_repetition → r.levels.definitions.greatest ≡ s.max_definition
    → level_parts_by s.form s bytes ≡ got (parts_in bytes r.parts) (drop r.parts.values bytes) → AreInside bytes r.parts → HavePairs bytes r.parts [] [] r.levels
    → HasValues s.encoding s.kind d (drop r.parts.values bytes) [] r.values → left_of r ≡ s.triplets → refused_of r ≡ None → IsReading s d bytes [] r
begun s d bytes r k x y p i l v w go =
    let st : Stands s d bytes [] r = record {
      rs = [];
      ds = [];
      vs = [];
      kind = k;
      repetition = x;
      definition = y;
      parts = p;
      inside = i;
      levels = l;
      values = v;
      as_many = refl;
      present = refl;
      triplets = refl;
    } in
    record {
      front = front_there s d bytes [] r st;
      left = omega (arith, w);
      going = go;
      stands = st;
    }

-- ---- the bytes behind the levels

pub behind_levels : (i v : ℕ) (bytes : List ℕ) → i ≡ min v (length bytes) → v ≤ length bytes → take (length bytes - i) (drop i bytes) ≡ drop v bytes
behind_levels i v bytes e l = let f : i ≡ v = omega (arith, e, l) in take_rest bytes i ∙ ap (λ k. drop k bytes) f
