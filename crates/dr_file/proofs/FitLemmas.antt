-- The triplets that a chunk spells have levels at most the greatest, and a value of the leaf's kind exactly at the greatest definition level.
use Rattle.std.proofs.Common.{◌≡◌, ℕ, zero, suc, ◌-◌, ◌^◌, ◌≤◌, List, [], ◌∷◌, ◌++◌, length, map, Bool, true, false, refl, sym, ap, ap₂, ◌∙◌, ℤ, pos, negsuc, arith}
use Rattle.std.specs.Prelude.{Option, Some, None, if◌then◌else◌, option_map, option_and_then, replicate, nat_le, nat_lt, ◌==◌, ◌&&◌, ◌||◌, ⊤}
use Rattle.std.specs.List.{list_all}
use Rattle.std.specs.Str.{is_utf8}
use Rattle.std.proofs.lemmas.Bool.{ltb-false, le-leb, and_from, and_parts}
use Rattle.std.proofs.lemmas.List.Folds.{list_all-append}
use Rattle.dr_meaning.specs.Schema.{Kind, bool_kind, int32_kind, int64_kind, text_kind}
use Rattle.dr_meaning.specs.Path.{Leaf, max_repetition, max_definition}
use Rattle.dr_meaning.specs.Record.{Value, int_value, text_value, in_int32, in_int64, is_of_kind}
use Rattle.dr_meaning.specs.Column.{Triplet, triplet}
use Rattle.dr_meaning.specs.OneColumn.{fits_value, fits_levels}
use Rattle.dr_formats.specs.Reading.{Reading, got, refused, Reader, give, goes_on, ◌>>=◌, bytes_of}
use Rattle.dr_formats.specs.LittleEndian.{little_endian, unpacked, bytes_for}
use Rattle.dr_formats.specs.Hybrid.{hybrid}
use Rattle.dr_formats.specs.Plain.{PlainFault, too_short, bad_text, from_complement, repeatedly, plain_number, checked_text, plain_text, truth_of_bit, plain, plain_read, plain_values, nth_value, pick, dictionary_values}
use Rattle.dr_formats.specs.Metadata.{DataPageHeader, DataPageHeaderV2, DictionaryPageHeader, PageHeader}
use Rattle.dr_formats.specs.Page.{PageShape, PageFault, bad_page, found, is_number, rle_encoding, plain_encoding, plain_dictionary_encoding, rle_dictionary_encoding, LevelParts, sized_part, level_parts_by, level_width, none_above, levels, part_read, rle_values, encoded_values, values, count_equal, first_if, behind_if, join_triplets, page_body, triplets_read, page_triplets}
use Rattle.dr_formats.specs.Chunk.{PageTaken, taken, page_header, shape_of_page, shape_of_page_v2, data_page, dictionary_page, page_taken, pages, pages_triplets}
use Rattle.dr_page.proofs.CountLemmas.{values_count}

-- ---- what is read has a property

abbrev Holds : {E A : Type 0} → (A → Type 0) → Reading E A → Type 0
Holds P (got a rest) = P a
Holds P (refused e rest) = ⊤

then_holds : {E A B : Type 0} (P : A → Type 0) (Q : B → Type 0) (r : Reading E A) (f : A → Reader E B) → Holds P r → ((a : A) (rest : List ℕ) → P a → Holds Q (f a rest)) → Holds Q (goes_on r f)
then_holds P Q (got a rest) f h k = k a rest h
then_holds P Q (refused e rest) f h k = tt

abbrev Any : {A : Type 0} → A → Type 0
Any a = ⊤

any_holds : {E A : Type 0} (r : Reading E A) → Holds Any r
any_holds (got a rest) = tt
any_holds (refused e rest) = tt

if_holds : {E A : Type 0} (P : A → Type 0) (b : Bool) (p : Reader E A) (e : E) (bs : List ℕ) → Holds P (p bs) → Holds P ((if b then p else refused e) bs)
if_holds P true p e bs h = h
if_holds P false p e bs h = tt

found_holds : {A : Type 0} (P : A → Type 0) (o : Option A) (bs : List ℕ) → ((a : A) → o ≡ Some a → P a) → Holds P (found o bs)
found_holds P None bs h = tt
found_holds P (Some a) bs h = h a refl

-- ---- levels

abbrev AtMost : ℕ → List ℕ → Type 0
AtMost g ls = list_all (λ l. nat_le l g) ls ≡ true

zeros_at_most : (n : ℕ) → AtMost 0 (replicate n 0)
zeros_at_most zero = refl
zeros_at_most (suc n) = zeros_at_most n

kept_at_most : (b : Bool) (g : ℕ) (us ls : List ℕ) → list_all (λ l. nat_le l g) us ≡ b → (if b then Some us else None) ≡ Some ls → AtMost g ls
kept_at_most true g us ls h e = let f : us ≡ ls = cc in sym (ap (list_all (λ l. nat_le l g)) f) ∙ h
kept_at_most false g us ls h e = absurd (cc)

none_above_at_most : (g : ℕ) (o : Option (List ℕ)) (ls : List ℕ) → option_and_then (none_above g) o ≡ Some ls → AtMost g ls
none_above_at_most g None ls e = absurd (cc)
none_above_at_most g (Some us) ls e = kept_at_most (list_all (λ l. nat_le l g) us) g us ls refl e

levels_at_most : (g n : ℕ) (part ls : List ℕ) → levels g n part ≡ Some ls → AtMost g ls
levels_at_most zero n part ls e = let f : replicate n 0 ≡ ls = cc in sym (ap (list_all (λ l. nat_le l 0)) f) ∙ zeros_at_most n
levels_at_most (suc g) n part ls e = none_above_at_most (suc g) (hybrid (level_width (suc g)) n part) ls e

-- ---- values

abbrev OfKind : Kind → List Value → Type 0
OfKind k vs = list_all (is_of_kind k) vs ≡ true

abbrev IsOf : Kind → Value → Type 0
IsOf k v = is_of_kind k v ≡ true

repeatedly_of_kind : (k : Kind) (read : Reader PlainFault Value) → ((bs : List ℕ) → Holds (IsOf k) (read bs)) → (n : ℕ) (bs : List ℕ) → Holds (OfKind k) (repeatedly read n bs)
repeatedly_of_kind k read h zero bs = refl
repeatedly_of_kind k read h (suc n) bs =
    then_holds (IsOf k) (OfKind k) (read bs) (λ x. repeatedly read n >>= (λ xs. give (x ∷ xs))) (h bs)
    (λ x rest u. then_holds (OfKind k) (OfKind k) (repeatedly read n rest) (λ xs. give (x ∷ xs)) (repeatedly_of_kind k read h n rest) (λ xs more v. and_from _ _ u v))

int32_by : (b : Bool) (x : ℕ) → nat_lt x (2 ^ 31) ≡ b → in_int32 (if b then pos x else negsuc (2 ^ 32 - 1 - x)) ≡ true
int32_by true x h = h
int32_by false x h = let w : 2 ^ 31 ≤ x = ltb-false x (2 ^ 31) h in and_from _ _ (le-leb (2 ^ 32 - 1 - x) (2 ^ 31 - 1) (omega arith)) refl

int64_by : (b : Bool) (x : ℕ) → nat_lt x (2 ^ 63) ≡ b → in_int64 (if b then pos x else negsuc (2 ^ 64 - 1 - x)) ≡ true
int64_by true x h = h
int64_by false x h = let w : 2 ^ 63 ≤ x = ltb-false x (2 ^ 63) h in and_from _ _ (le-leb (2 ^ 64 - 1 - x) (2 ^ 63 - 1) (omega arith)) refl

int32_holds : (bs : List ℕ) → Holds (IsOf int32_kind) (plain_number 32 bs)
int32_holds bs = then_holds Any (IsOf int32_kind) (bytes_of too_short 4 bs) (λ b. give (int_value (from_complement 32 (little_endian b)))) (any_holds (bytes_of {E = PlainFault} too_short 4 bs))
    (λ b rest u. int32_by (nat_lt (little_endian b) (2 ^ 31)) (little_endian b) refl)

int64_holds : (bs : List ℕ) → Holds (IsOf int64_kind) (plain_number 64 bs)
int64_holds bs = then_holds Any (IsOf int64_kind) (bytes_of too_short 8 bs) (λ b. give (int_value (from_complement 64 (little_endian b)))) (any_holds (bytes_of {E = PlainFault} too_short 8 bs))
    (λ b rest u. int64_by (nat_lt (little_endian b) (2 ^ 63)) (little_endian b) refl)

checked_holds : (b : Bool) (t bs : List ℕ) → is_utf8 t ≡ b → Holds (IsOf text_kind) ((if b then give (text_value t) else refused bad_text) bs)
checked_holds true t bs h = h
checked_holds false t bs h = tt

text_holds : (bs : List ℕ) → Holds (IsOf text_kind) (plain_text bs)
text_holds bs = then_holds Any (IsOf text_kind) (bytes_of too_short 4 bs) (λ b. bytes_of too_short (little_endian b) >>= checked_text) (any_holds (bytes_of {E = PlainFault} too_short 4 bs))
    (λ b rest u. then_holds Any (IsOf text_kind) (bytes_of too_short (little_endian b) rest) checked_text (any_holds (bytes_of {E = PlainFault} too_short (little_endian b) rest))
    (λ t more v. checked_holds (is_utf8 t) t more refl))

truths_of_kind : (xs : List ℕ) → OfKind bool_kind (map truth_of_bit xs)
truths_of_kind [] = refl
truths_of_kind (x ∷ xs) = truths_of_kind xs

plain_of_kind : (k : Kind) (n : ℕ) (bs : List ℕ) → Holds (OfKind k) (plain k n bs)
plain_of_kind bool_kind n bs = then_holds Any (OfKind bool_kind) (bytes_of too_short (bytes_for n) bs) (λ b. give (map truth_of_bit (unpacked n 1 (little_endian b)))) (any_holds (bytes_of {E = PlainFault} too_short (bytes_for n) bs))
    (λ b rest u. truths_of_kind (unpacked n 1 (little_endian b)))
plain_of_kind int32_kind n bs = repeatedly_of_kind int32_kind (plain_number 32) int32_holds n bs
plain_of_kind int64_kind n bs = repeatedly_of_kind int64_kind (plain_number 64) int64_holds n bs
plain_of_kind text_kind n bs = repeatedly_of_kind text_kind plain_text text_holds n bs

read_of_kind : (k : Kind) (r : Reading PlainFault (List Value)) (vs : List Value) → Holds (OfKind k) r → plain_read r ≡ Some vs → OfKind k vs
read_of_kind k (got us rest) vs h e = let f : us ≡ vs = cc in sym (ap (list_all (is_of_kind k)) f) ∙ h
read_of_kind k (refused x rest) vs h e = absurd (cc)

plain_values_of_kind : (k : Kind) (n : ℕ) (bs : List ℕ) (vs : List Value) → plain_values k n bs ≡ Some vs → OfKind k vs
plain_values_of_kind k n bs vs e = read_of_kind k (plain k n bs) vs (plain_of_kind k n bs) e

-- ---- values of a dictionary

nth_of_kind : (k : Kind) (d : List Value) (i : ℕ) (v : Value) → OfKind k d → nth_value d i ≡ Some v → IsOf k v
nth_of_kind k [] i v h e = absurd (cc)
nth_of_kind k (u ∷ d) zero v h e = let f : u ≡ v = cc in sym (ap (is_of_kind k) f) ∙ (and_parts _ _ h).0
nth_of_kind k (u ∷ d) (suc i) v h e = nth_of_kind k d i v (and_parts _ _ h).1 e

pick_one : (k : Kind) (o : Option Value) (p : Option (List Value)) (vs : List Value) → ((v : Value) → o ≡ Some v → IsOf k v) → ((us : List Value) → p ≡ Some us → OfKind k us)
    → option_and_then (λ (v : Value). option_map (λ us. v ∷ us) p) o ≡ Some vs → OfKind k vs
pick_one k None p vs h g e = absurd (cc)
pick_one k (Some v) None vs h g e = absurd (cc)
pick_one k (Some v) (Some us) vs h g e = let f : v ∷ us ≡ vs = cc in sym (ap (list_all (is_of_kind k)) f) ∙ and_from _ _ (h v refl) (g us refl)

pick_of_kind : (k : Kind) (d : List Value) (is : List ℕ) (vs : List Value) → OfKind k d → pick d is ≡ Some vs → OfKind k vs
pick_of_kind k d [] vs h e = let none : List Value = [] in let f : none ≡ vs = cc in sym (ap (list_all (is_of_kind k)) f)
pick_of_kind k d (i ∷ is) vs h e = pick_one k (nth_value d i) (pick d is) vs (λ v g. nth_of_kind k d i v h g) (λ us g. pick_of_kind k d is us h g) e

indexed_of_kind : (k : Kind) (d : List Value) (o : Option (List ℕ)) (vs : List Value) → OfKind k d → option_and_then (pick d) o ≡ Some vs → OfKind k vs
indexed_of_kind k d None vs h e = absurd (cc)
indexed_of_kind k d (Some is) vs h e = pick_of_kind k d is vs h e

narrow_of_kind : (k : Kind) (d : List Value) (b : Bool) (o : Option (List ℕ)) (vs : List Value) → OfKind k d → (if b then option_and_then (pick d) o else None) ≡ Some vs → OfKind k vs
narrow_of_kind k d true o vs h e = indexed_of_kind k d o vs h e
narrow_of_kind k d false o vs h e = absurd (cc)

dictionary_of_kind : (k : Kind) (d : List Value) (n : ℕ) (bs : List ℕ) (vs : List Value) → OfKind k d → dictionary_values d n bs ≡ Some vs → OfKind k vs
dictionary_of_kind k d zero bs vs h e = let none : List Value = [] in let f : none ≡ vs = cc in sym (ap (list_all (is_of_kind k)) f)
dictionary_of_kind k d (suc n) [] vs h e = absurd (cc)
dictionary_of_kind k d (suc n) (w ∷ bs) vs h e = narrow_of_kind k d (nat_le w 32) (hybrid w (suc n) bs) vs h e

truths_read : (o : Option (List ℕ)) (vs : List Value) → option_map (map truth_of_bit) o ≡ Some vs → OfKind bool_kind vs
truths_read None vs e = absurd (cc)
truths_read (Some xs) vs e = let f : map truth_of_bit xs ≡ vs = cc in sym (ap (list_all (is_of_kind bool_kind)) f) ∙ truths_of_kind xs

rle_of_kind : (k : Kind) (n : ℕ) (bs : List ℕ) (vs : List Value) → rle_values k n bs ≡ Some vs → OfKind k vs
rle_of_kind bool_kind zero bs vs e = let none : List Value = [] in let f : none ≡ vs = cc in sym (ap (list_all (is_of_kind bool_kind)) f)
rle_of_kind bool_kind (suc n) bs vs e = truths_read (option_and_then (levels 1 (suc n)) (part_read (sized_part bs))) vs e
rle_of_kind int32_kind n bs vs e = absurd (cc)
rle_of_kind int64_kind n bs vs e = absurd (cc)
rle_of_kind text_kind n bs vs e = absurd (cc)

any_of_kind : (k : Kind) (a b c : Bool) (p q r : Option (List Value)) (vs : List Value) → (p ≡ Some vs → OfKind k vs) → (q ≡ Some vs → OfKind k vs) → (r ≡ Some vs → OfKind k vs)
    → (if a then p else (if b then q else (if c then r else None))) ≡ Some vs → OfKind k vs
any_of_kind k true b c p q r vs h g f e = h e
any_of_kind k false true c p q r vs h g f e = g e
any_of_kind k false false true p q r vs h g f e = f e
any_of_kind k false false false p q r vs h g f e = absurd (cc)

encoded_of_kind : (z : ℤ) (k : Kind) (d : List Value) (n : ℕ) (bs : List ℕ) (vs : List Value) → OfKind k d → encoded_values z k d n bs ≡ Some vs → OfKind k vs
encoded_of_kind z k d n bs vs h e =
    any_of_kind k (is_number plain_encoding z) (is_number plain_dictionary_encoding z || is_number rle_dictionary_encoding z) (is_number rle_encoding z) (plain_values k n bs) (dictionary_values d n bs) (rle_values k n bs) vs
    (plain_values_of_kind k n bs vs) (dictionary_of_kind k d n bs vs h) (rle_of_kind k n bs vs) e

-- ---- triplets

abbrev Fit : Kind → ℕ → ℕ → List Triplet → Type 0
Fit k R D ts = list_all (fits_levels k R D) ts ≡ true

fits_by : (k : Kind) (R D r d : ℕ) (v : Option Value) → nat_le r R ≡ true → nat_le d D ≡ true → fits_value k (d == D) v ≡ true → fits_levels k R D (triplet r d v) ≡ true
fits_by k R D r d v a b c = and_from _ _ (and_from _ _ a b) c

-- the value at a level: the first that is left where there is to be one
value_fits : (k : Kind) (b : Bool) (n : ℕ) (vs : List Value) → OfKind k vs → length vs ≡ (if b then suc n else n)
    → (fits_value k b (first_if b vs) ≡ true) × (OfKind k (behind_if b vs)) × (length (behind_if b vs) ≡ n)
value_fits k true n [] h e = absurd (omega (arith, e))
value_fits k true n (v ∷ vs) h e = ((and_parts _ _ h).0, (and_parts _ _ h).1, omega (arith, e))
value_fits k false n vs h e = (refl, h, e)

joined_fit : (k : Kind) (R D : ℕ) (rs ds : List ℕ) (vs : List Value) → AtMost R rs → AtMost D ds → OfKind k vs → length vs ≡ count_equal D ds → Fit k R D (join_triplets D rs ds vs)
joined_fit k R D [] ds vs a b h e = refl
joined_fit k R D (r ∷ rs) [] vs a b h e = refl
joined_fit k R D (r ∷ rs) (d ∷ ds) vs a b h e =
    let v = value_fits k (d == D) (count_equal D ds) vs h e in
    and_from _ _ (fits_by k R D r d (first_if (d == D) vs) (and_parts _ _ a).0 (and_parts _ _ b).0 v.0) (joined_fit k R D rs ds (behind_if (d == D) vs) (and_parts _ _ a).1 (and_parts _ _ b).1 v.1 v.2)

body_fits : (s : PageShape) (d : List Value) (bytes : List ℕ) → OfKind s.kind d → Holds (Fit s.kind s.max_repetition s.max_definition) (page_body s d bytes)
body_fits s d bytes h =
    let k = s.kind in let R = s.max_repetition in let D = s.max_definition in
    then_holds Any (Fit k R D) (level_parts_by s.form s bytes)
    (λ (p : LevelParts). found (levels R s.triplets p.repetitions) >>= (λ rs. found (levels D s.triplets p.definitions) >>= (λ ds. values s.encoding k d (count_equal D ds) >>= (λ vs. give (join_triplets D rs ds vs)))))
    (any_holds (level_parts_by s.form s bytes))
    (λ p left u. then_holds (AtMost R) (Fit k R D) (found (levels R s.triplets p.repetitions) left)
    (λ rs. found (levels D s.triplets p.definitions) >>= (λ ds. values s.encoding k d (count_equal D ds) >>= (λ vs. give (join_triplets D rs ds vs))))
    (found_holds (AtMost R) (levels R s.triplets p.repetitions) left (levels_at_most R s.triplets p.repetitions))
    (λ rs rest a. then_holds (AtMost D) (Fit k R D) (found (levels D s.triplets p.definitions) rest) (λ ds. values s.encoding k d (count_equal D ds) >>= (λ vs. give (join_triplets D rs ds vs)))
    (found_holds (AtMost D) (levels D s.triplets p.definitions) rest (levels_at_most D s.triplets p.definitions))
    (λ ds more b. then_holds (λ vs. (OfKind k vs) × (length vs ≡ count_equal D ds)) (Fit k R D) (values s.encoding k d (count_equal D ds) more) (λ vs. give (join_triplets D rs ds vs))
    (found_holds (λ vs. (OfKind k vs) × (length vs ≡ count_equal D ds)) (encoded_values s.encoding k d (count_equal D ds) more) []
    (λ vs e. (encoded_of_kind s.encoding k d (count_equal D ds) more vs h e, values_count s.encoding k d (count_equal D ds) more vs e)))
    (λ vs last c. joined_fit k R D rs ds vs a b c.0 c.1))))

read_fits : (k : Kind) (R D : ℕ) (r : Reading PageFault (List Triplet)) (ts : List Triplet) → Holds (Fit k R D) r → triplets_read r ≡ Some ts → Fit k R D ts
read_fits k R D (got us rest) ts h e = let f : us ≡ ts = cc in sym (ap (list_all (fits_levels k R D)) f) ∙ h
read_fits k R D (refused x rest) ts h e = absurd (cc)

page_fits : (s : PageShape) (d : List Value) (bytes : List ℕ) (ts : List Triplet) → OfKind s.kind d → page_triplets s d bytes ≡ Some ts → Fit s.kind s.max_repetition s.max_definition ts
unfolding page_triplets
page_fits s d bytes ts h e = read_fits s.kind s.max_repetition s.max_definition (page_body s d bytes) ts (body_fits s d bytes h) e

-- ---- chunks

-- triplets of the leaf, and a dictionary of its kind
abbrev Taken : Leaf → PageTaken → Type 0
Taken l t = (Fit l.kind (max_repetition l.path) (max_definition l.path) t.triplets) × (OfKind l.kind t.dictionary)

shape_fits : (l : Leaf) (w : ℕ) (d : List Value) (body : List ℕ) (s : PageShape) (bs : List ℕ) → OfKind l.kind d
    → ((ts : List Triplet) → page_triplets s d body ≡ Some ts → Fit l.kind (max_repetition l.path) (max_definition l.path) ts) → Holds (Taken l) (data_page w d body (Some s) bs)
shape_fits l w d body s bs h f =
    if_holds (Taken l) (nat_le s.triplets w) (found (page_triplets s d body) >>= (λ ts. give (taken ts d))) bad_page bs
    (then_holds (Fit l.kind (max_repetition l.path) (max_definition l.path)) (Taken l) (found (page_triplets s d body) bs) (λ ts. give (taken ts d))
    (found_holds (Fit l.kind (max_repetition l.path) (max_definition l.path)) (page_triplets s d body) bs f) (λ ts rest g. (g, h)))

data_fits : (l : Leaf) (w : ℕ) (d : List Value) (body : List ℕ) (o : Option DataPageHeader) (bs : List ℕ) → OfKind l.kind d → Holds (Taken l) (data_page w d body (option_map (shape_of_page l) o) bs)
data_fits l w d body None bs h = tt
data_fits l w d body (Some k) bs h = shape_fits l w d body (shape_of_page l k) bs h (λ ts e. page_fits (shape_of_page l k) d body ts h e)

data_fits_v2 : (l : Leaf) (w : ℕ) (d : List Value) (body : List ℕ) (o : Option DataPageHeaderV2) (bs : List ℕ) → OfKind l.kind d → Holds (Taken l) (data_page w d body (option_map (shape_of_page_v2 l) o) bs)
data_fits_v2 l w d body None bs h = tt
data_fits_v2 l w d body (Some k) bs h = shape_fits l w d body (shape_of_page_v2 l k) bs h (λ ts e. page_fits (shape_of_page_v2 l k) d body ts h e)

dictionary_fits : (l : Leaf) (first : Bool) (body : List ℕ) (o : Option DictionaryPageHeader) (bs : List ℕ) → Holds (Taken l) (dictionary_page l first body o bs)
dictionary_fits l first body None bs = tt
dictionary_fits l first body (Some k) bs =
    if_holds (Taken l) (first && (is_number plain_encoding k.encoding || is_number plain_dictionary_encoding k.encoding)) (found (plain_values l.kind k.values body) >>= (λ vs. give (taken [] vs))) bad_page bs
    (then_holds (OfKind l.kind) (Taken l) (found (plain_values l.kind k.values body) bs) (λ vs. give (taken [] vs))
    (found_holds (OfKind l.kind) (plain_values l.kind k.values body) bs (λ vs e. plain_values_of_kind l.kind k.values body vs e)) (λ vs rest f. (refl, f)))

kinds_hold : (P : PageTaken → Type 0) (a b c v : Bool) (p q r s : Reader PageFault PageTaken) (bs : List ℕ) → Holds P (p bs) → Holds P (q bs) → Holds P (r bs) → Holds P (s bs)
    → Holds P ((if a then p else (if b then q else (if c then r else (if v then s else refused bad_page)))) bs)
kinds_hold P true b c v p q r s bs h g f e = h
kinds_hold P false true c v p q r s bs h g f e = g
kinds_hold P false false true v p q r s bs h g f e = f
kinds_hold P false false false true p q r s bs h g f e = e
kinds_hold P false false false false p q r s bs h g f e = tt

taken_fits : (l : Leaf) (w : ℕ) (first : Bool) (d : List Value) (h : PageHeader) (body bs : List ℕ) → OfKind l.kind d → Holds (Taken l) (page_taken l w first d h body bs)
taken_fits l w first d h body bs k =
    kinds_hold (Taken l) (is_number 0 h.type) (is_number 1 h.type) (is_number 2 h.type) (is_number 3 h.type) (data_page w d body (option_map (shape_of_page l) h.data_page)) (give (taken [] d)) (dictionary_page l first body h.dictionary_page)
    (data_page w d body (option_map (shape_of_page_v2 l) h.data_page_v2)) bs (data_fits l w d body h.data_page bs k) (refl, k) (dictionary_fits l first body h.dictionary_page bs) (data_fits_v2 l w d body h.data_page_v2 bs k)

pages_read_fit : (l : Leaf) (k n : ℕ) (first : Bool) (d : List Value) (bs : List ℕ) → OfKind l.kind d → Holds (Fit l.kind (max_repetition l.path) (max_definition l.path)) (pages l k n first d bs)
pages_read_fit l k zero first d bs h = none k
  where
    none : (j : ℕ) → Holds (Fit l.kind (max_repetition l.path) (max_definition l.path)) (pages l j 0 first d bs)
    none zero = refl
    none (suc j) = refl
pages_read_fit l zero (suc n) first d bs h = tt
pages_read_fit l (suc k) (suc n) first d bs h =
    let F = Fit l.kind (max_repetition l.path) (max_definition l.path) in
    then_holds Any F (page_header bs)
    (λ e. bytes_of bad_page e.compressed_size >>= (λ body. page_taken l (suc n) first d e body >>= (λ t. pages l k (suc n - length t.triplets) false t.dictionary >>= (λ more. give (t.triplets ++ more))))) (any_holds (page_header bs))
    (λ e rest u. then_holds Any F (bytes_of bad_page e.compressed_size rest) (λ body. page_taken l (suc n) first d e body >>= (λ t. pages l k (suc n - length t.triplets) false t.dictionary >>= (λ more. give (t.triplets ++ more))))
    (any_holds (bytes_of bad_page e.compressed_size rest))
    (λ body left v. then_holds (Taken l) F (page_taken l (suc n) first d e body left) (λ t. pages l k (suc n - length t.triplets) false t.dictionary >>= (λ more. give (t.triplets ++ more)))
    (taken_fits l (suc n) first d e body left h)
    (λ t last g. then_holds F F (pages l k (suc n - length t.triplets) false t.dictionary last) (λ more. give (t.triplets ++ more)) (pages_read_fit l k (suc n - length t.triplets) false t.dictionary last g.1)
    (λ more end i. list_all-append (fits_levels l.kind (max_repetition l.path) (max_definition l.path)) t.triplets more ∙ ap₂ (λ x y. x && y) g.0 i))))

-- the triplets of a chunk fit the leaf
pub pages_fit : (l : Leaf) (wanted : ℕ) (bytes : List ℕ) (ts : List Triplet) → pages_triplets l wanted bytes ≡ Some ts → list_all (fits_levels l.kind (max_repetition l.path) (max_definition l.path)) ts ≡ true
pages_fit l wanted bytes ts e = read_fits l.kind (max_repetition l.path) (max_definition l.path) (pages l (length bytes) wanted true [] bytes) ts (pages_read_fit l (length bytes) wanted true [] bytes refl) e
