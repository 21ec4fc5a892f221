-- What is left of a leaf's batch, and what joins what was given.
use Rattle.std.proofs.Common.{◌≡◌, ◌≢◌, ◌≤◌, ◌<◌, ℕ, ◌+◌, ◌-◌, List, [], ◌∷◌, ◌++◌, length, take, drop, Bool, true, false, not, Option, None, refl, sym, ap, ◌∙◌, subst, true≢false, append_assoc, append-nil, arith, ◌⊎◌, inl, inr}
use Rattle.std.proofs.lemmas.List.{drop-drop, length-drop, nil_from_length, take-append-drop}
use Rattle.dr_meaning.specs.Path.{Leaf}
use Rattle.dr_meaning.specs.Column.{Triplet}
use Rattle.dr_meaning.specs.OneColumn.{starts, begins_record}
use Rattle.dr_meaning.proofs.ColumnStarts.{starts_append}
use Rattle.dr_levels.specs.Views.{column_view}
use Rattle.dr_outside.specs.Link.{Files}
use Rattle.dr_file.specs.OpenedFiles.{IsColumnOf}
use Rattle.dr_file.specs.Streams.{IsStreamOf, StreamGoesOn, Fills, file_of, refused_of}
use Rattle.dr_file.specs.declared.opened.Opened.{Opened}
use Rattle.dr_dump.specs.Fronts.{IsFront}
use Rattle.dr_dump.specs.declared.front.Front.{Front}
use Rattle.dr_dump.specs.declared.leaf_records.LeafRecords.{LeafRecords}
use Rattle.dr_dump.specs.Leaves.{last_of, rest_of, IsTold, IsLeafRecords, IsPassed, IsTaken}

-- ---- lists

pub whole_last : (v : List Triplet) (n : ℕ) → length v ≤ n → last_of n v ≡ v
whole_last v n h = let z : length v - n ≡ 0 = omega (arith, h) in ap (λ (k : ℕ). drop k v) z

-- a front is cut off
pub last_cut : (v : List Triplet) (left n behind : ℕ) → n ≤ length (last_of left v) → behind ≡ length (last_of left v) - n → last_of behind v ≡ drop n (last_of left v)
last_cut v left n behind h e =
    let m : ℕ = length v - left in
    let k : length (drop m v) ≡ length v - m = length-drop m v in
    let at : length v - behind ≡ m + n = omega (arith, h, e, k) in
    ap (λ (j : ℕ). drop j v) at ∙ sym (drop-drop n m v)

some_left : (ts : List Triplet) → 0 < length ts → ts ≢ []
some_left [] h e = absurd (omega (arith, h))
some_left (t ∷ ts) h e = cc

-- ---- a front passed

pub passed : (x y : LeafRecords) (f : Front) (wanted still : ℕ) (before after : List Triplet) (whole : Bool) → IsFront (rest_of x) wanted f → column_view y.batch ≡ column_view x.batch → y.left ≡ length (rest_of x) - f.length
    → still ≡ wanted - f.records → after ≡ before ++ take f.length (rest_of x) → (whole ≡ true → (0 < y.left) ⊎ (y.ended ≡ true)) → (whole ≢ true → (y.left ≡ 0) × (y.ended ≢ true)) → IsPassed x y wanted still before after whole
passed x y f wanted still before after whole h b left s a stops runs = record {
  front = take f.length (rest_of x);
  lies = sym (take-append-drop f.length (rest_of x)) ∙ ap (λ (ts : List Triplet). take f.length (rest_of x) ++ ts) (sym rest);
  joined = a;
  fewer = let n = h.begun in let k = h.few in omega (arith, n, k, s);
  cut = ap begins_record rest ∙ h.cut;
  all = λ some. let n = h.all (λ e. some (rest ∙ e)) in omega (arith, s, n);
  ends = λ w none. by_side (stops w) none;
  goes_on = λ w. let k = runs w in (nil_from_length (rest_of y) (omega (arith, size, k.0)), k.1);
}
  where
    rest : rest_of y ≡ drop f.length (rest_of x)
    rest = ap (last_of y.left) b ∙ last_cut (column_view x.batch) x.left f.length y.left h.within left

    size : length (rest_of y) ≡ y.left
    size = let n = length-drop f.length (rest_of x) in omega (arith, ap length rest, n, left)

    by_side : (0 < y.left) ⊎ (y.ended ≡ true) → rest_of y ≡ [] → y.ended ≡ true
    by_side (inl k) none = absurd (some_left (rest_of y) (omega (arith, size, k)) none)
    by_side (inr k) none = k

-- ---- the stream of a leaf

-- the same stream
pub same_records : (held : Option Files) (o : Opened) (F : List Leaf) (l : Leaf) (given more : List Triplet) (x y : LeafRecords) → IsLeafRecords held o F l given x → y.stream ≡ x.stream → y.ended ≡ x.ended → more ≡ given → IsLeafRecords held o F l more y
same_records held o F l given more x y h s e g = record {
  file = ap file_of s ∙ h.file;
  well = ap refused_of s ∙ h.well;
  of = λ bytes t. subst (λ (ts : List Triplet). IsStreamOf bytes l ts y.stream) (sym g) (subst (IsStreamOf bytes l given) (sym s) (h.of bytes t));
  last = λ bytes t z. subst (IsColumnOf bytes l) (sym g) (h.last bytes t (sym e ∙ z));
}

-- a batch more, or none
pub refilled : (held : Option Files) (o : Opened) (F : List Leaf) (l : Leaf) (given more : List Triplet) (x y : LeafRecords) (some : Bool) → IsLeafRecords held o F l given x → file_of y.stream ≡ file_of x.stream → y.ended ≡ not some
    → rest_of y ≡ more → (some ≡ false → more ≡ []) → refused_of y.stream ≡ None → ((bytes : List ℕ) → IsTold held o F bytes → StreamGoesOn bytes l given [] more y.stream some) → IsLeafRecords held o F l (given ++ rest_of y) y
refilled held o F l given more x y true h f e b none well goes = subst (λ (ts : List Triplet). IsLeafRecords held o F l (given ++ ts) y) (sym b) (record {
  file = f ∙ h.file;
  well = well;
  of = λ bytes told. let g = goes bytes told in subst (λ (ts : List Triplet). IsStreamOf bytes l (given ++ ts) y.stream) (sym g.1) g.2;
  last = λ bytes told z. absurd (true≢false (sym z ∙ e));
})
refilled held o F l given more x y false h f e b none well goes = subst (λ (ts : List Triplet). IsLeafRecords held o F l (given ++ ts) y) (sym b) (record {
  file = f ∙ h.file;
  well = well;
  of = λ bytes told. subst (λ (ts : List Triplet). IsStreamOf bytes l ts y.stream) (sym all) (goes bytes told).2;
  last = λ bytes told z. subst (IsColumnOf bytes l) (sym all) (goes bytes told).1;
})
  where
    all : given ++ more ≡ given
    all = ap (λ (ts : List Triplet). given ++ ts) (none refl) ∙ append-nil given

-- nothing came where no batch did
pub none_came : (more : List Triplet) (some : Bool) (before left rest : ℕ) → Fills some before (length more) left rest → before ≡ 0 → some ≡ false → more ≡ []
none_came more true before left rest f z e = absurd (true≢false e)
none_came more false before left rest f z e = nil_from_length more (omega (arith, f.0, z))

-- ---- what is taken, batch by batch

-- what was passed joins the column
pub passed_on : (held : Option Files) (o : Opened) (F : List Leaf) (l : Leaf) (front : List Triplet) (x y : LeafRecords) (wanted still : ℕ) (before after : List Triplet) (whole : Bool) → IsPassed x y wanted still before after whole → y.stream ≡ x.stream → y.ended ≡ x.ended
    → IsLeafRecords held o F l (front ++ (before ++ rest_of x)) x → IsLeafRecords held o F l (front ++ (after ++ rest_of y)) y
passed_on held o F l front x y wanted still before after whole p s e h =
    let lies : after ++ rest_of y ≡ before ++ rest_of x = ap (λ (ts : List Triplet). ts ++ rest_of y) p.joined ∙ (append_assoc before p.front (rest_of y) ∙ ap (λ (ts : List Triplet). before ++ ts) (sym p.lies)) in
    same_records held o F l (front ++ (before ++ rest_of x)) (front ++ (after ++ rest_of y)) x y h s e (ap (λ (ts : List Triplet). front ++ ts) lies)

-- and a batch more comes behind it
pub refilled_on : (held : Option Files) (o : Opened) (F : List Leaf) (l : Leaf) (front ts : List Triplet) (x y : LeafRecords) → rest_of x ≡ []
    → ((given : List Triplet) → IsLeafRecords held o F l given x → IsLeafRecords held o F l (given ++ rest_of y) y) → IsLeafRecords held o F l (front ++ (ts ++ rest_of x)) x → IsLeafRecords held o F l (front ++ (ts ++ rest_of y)) y
refilled_on held o F l front ts x y none refill h =
    let at : front ++ (ts ++ rest_of x) ≡ front ++ ts = ap (λ (us : List Triplet). front ++ (ts ++ us)) none ∙ ap (λ (us : List Triplet). front ++ us) (append-nil ts) in
    subst (λ (us : List Triplet). IsLeafRecords held o F l us y) (append_assoc front ts (rest_of y)) (refill (front ++ ts) (subst (λ (us : List Triplet). IsLeafRecords held o F l us x) at h))

-- so many fewer are wanted
pub fewer_on : (x y : LeafRecords) (wanted still k : ℕ) (before after : List Triplet) (whole : Bool) → IsPassed x y wanted still before after whole → starts before + wanted ≡ k → starts after + still ≡ k
fewer_on x y wanted still k before after whole p h = let n = starts_append before p.front in omega (arith, h, n, ap starts p.joined, p.fewer)

-- where a record began, the column begins with one, or a record begins in what is left
abbrev pub Begun : List Triplet → LeafRecords → Type 0
Begun ts x = (begins_record ts ≡ true) × (ts ≡ [] → (begins_record (rest_of x) ≡ true) × (rest_of x ≡ [] → x.ended ≡ true))

joins_begun : (ts us rest : List Triplet) → begins_record ts ≡ true → (ts ≡ [] → begins_record (us ++ rest) ≡ true) → begins_record (ts ++ us) ≡ true
joins_begun (t ∷ ts) us rest h k = h
joins_begun [] [] rest h k = refl
joins_begun [] (u ∷ us) rest h k = k refl

no_both : (ts us : List Triplet) → ts ++ us ≡ [] → (ts ≡ []) × (us ≡ [])
no_both [] us e = (refl, e)
no_both (t ∷ ts) us e = absurd (cc)

pub begun_passed : (x y : LeafRecords) (wanted still : ℕ) (before after : List Triplet) (whole : Bool) → IsPassed x y wanted still before after whole → y.ended ≡ x.ended → Begun before x → Begun after y
begun_passed x y wanted still before after whole p e h = (
  ap begins_record p.joined ∙ joins_begun before p.front (rest_of y) h.0 (λ none. sym (ap begins_record p.lies) ∙ (h.1 none).0),
  λ none.
      let both = no_both before p.front (sym p.joined ∙ none) in
      let same : rest_of x ≡ rest_of y = p.lies ∙ ap (λ (ts : List Triplet). ts ++ rest_of y) both.1 in
      (p.cut, λ gone. e ∙ (h.1 both.0).1 (same ∙ gone)),
)

-- a batch more is asked for only where something joined the column
pub begun_refilled : (x y z : LeafRecords) (wanted still : ℕ) (before after : List Triplet) (whole : Bool) → IsPassed x y wanted still before after whole → whole ≢ true → y.ended ≡ x.ended → Begun before x → Begun after z
begun_refilled x y z wanted still before after whole p w e h =
    let b = begun_passed x y wanted still before after whole p e h in
    let k = p.goes_on w in
    (b.0, λ none. absurd (k.1 ((b.1 none).1 k.0)))

-- all that is wanted was taken
pub taken_all : (held : Option Files) (o : Opened) (F : List Leaf) (l : Leaf) (front : List Triplet) (k : ℕ) (first x y : LeafRecords) (wanted still : ℕ) (before after : List Triplet) (whole : Bool) → IsPassed x y wanted still before after whole → whole ≡ true
    → starts after + still ≡ k → IsLeafRecords held o F l (front ++ (after ++ rest_of y)) y → (begins_record (rest_of first) ≡ true → (rest_of first ≡ [] → first.ended ≡ true) → Begun after y) → IsTaken held o F l front k first y after
taken_all held o F l front k first x y wanted still before after whole p w n h b = record {
  of = h;
  few = omega (arith, n);
  all = λ some. let z = p.all some in omega (arith, n, z);
  cut = p.cut;
  ends = p.ends w;
  begins = λ c e. (b c e).0;
}
