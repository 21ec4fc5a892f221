-- The pages that are written are read back.
use Rattle.std.proofs.Common.{◌≡◌, ℕ, zero, suc, ◌^◌, ◌≤◌, ◌<◌, List, [], ◌∷◌, ◌++◌, length, Bool, true, false, refl, sym, ap, ◌∙◌, arith, ℤ, pos, Some, append_assoc, append-nil}
use Rattle.std.specs.Prelude.{◌-◌, ◌-ℤ◌, ◌==◌, if◌then◌else◌}
use Rattle.std.proofs.lemmas.Bool.{lt-ltb, le-leb}
use Rattle.std.proofs.lemmas.List.{length-append}
use Rattle.dr_meaning.specs.Path.{Leaf, max_repetition, max_definition}
use Rattle.dr_meaning.specs.Record.{Value}
use Rattle.dr_meaning.specs.Column.{Triplet}
use Rattle.dr_meaning.specs.OneColumn.{starts}
use Rattle.dr_formats.specs.Reading.{got, bytes_of, IsReadAs}
use Rattle.dr_formats.specs.Compact.{Struct, stop, struct_field, is_tree, struct_bytes, fields_bytes, header_bytes, item_type, in_field, item_bytes}
use Rattle.dr_formats.specs.Metadata.{PageHeader, page_tree}
use Rattle.dr_formats.specs.Plain.{plain_bytes}
use Rattle.dr_formats.specs.Page.{PageForm, data_page_v1, data_page_v2, bad_page, page_triplets, triplets_read, level_data, column_repetitions, column_definitions, column_values, body_bytes}
use Rattle.dr_formats.specs.Chunk.{header_viewed, header_read, page_header, PageTaken, taken, page_taken, pages}
use Rattle.dr_formats.specs.Writing.{null_count, header_of_page, leaf_body, page_head_bytes, pages_bytes, triplet_count, is_full, last_page, closed_page, open_page, cut_pages}
use Rattle.dr_formats.specs.PlainLaws.{written_shape}
use Rattle.dr_formats.specs.WritingLaws.{all_triplets, IsPage, ArePages, WrittenPagesAreRead, PagesKeepTriplets}
use Rattle.dr_formats.proofs.ReadingLemmas.{spells_bytes}
use Rattle.dr_formats.proofs.CompactLemmas.{written_struct_is_read, header_has_byte}
use Rattle.dr_formats.proofs.MetadataLemmas.{written_header_is_viewed}
use Rattle.dr_formats.proofs.PageLemmas.{written_body_is_read}

-- ---- headers

starts_few : (ts : List Triplet) → starts ts ≤ length ts
starts_few [] = omega arith
starts_few (t ∷ ts) = omega (arith, first_few (t.repetition == 0), starts_few ts)
  where
    first_few : (b : Bool) → (if b then 1 else 0) ≤ 1
    first_few true = omega arith
    first_few false = omega arith

lengths_fit : (l : Leaf) (p : List Triplet) → length (leaf_body data_page_v2 l p) < 2 ^ 63 → (length (level_data (max_definition l.path) (column_definitions p)) < 2 ^ 63) × (length (level_data (max_repetition l.path) (column_repetitions p)) < 2 ^ 63)
unfolding body_bytes
lengths_fit l p h =
    let rs : List ℕ = level_data (max_repetition l.path) (column_repetitions p) in
    let ds : List ℕ = level_data (max_definition l.path) (column_definitions p) in
    let vs : List ℕ = plain_bytes l.kind (column_values p) in
    (omega (arith, h, length-append rs (ds ++ vs), length-append ds vs), omega (arith, h, length-append rs (ds ++ vs), length-append ds vs))

header_parts : (form : PageForm) (l : Leaf) (p : List Triplet) → IsPage form l p → length p < 2 ^ 63 → length (leaf_body form l p) < 2 ^ 63 → is_tree (page_tree (header_of_page form (max_repetition l.path) (max_definition l.path) p (length (leaf_body form l p)))) ≡ true
header_parts data_page_v1 l p i h k = rw (lt-ltb (length p) (2 ^ 63) h, lt-ltb (length (leaf_body data_page_v1 l p)) (2 ^ 63) k) refl
header_parts data_page_v2 l p i h k =
    let n : null_count p < 2 ^ 63 = omega (arith, h) in
    let r : starts p < 2 ^ 63 = omega (arith, starts_few p, h) in
    let z : (length (level_data (max_definition l.path) (column_definitions p)) < 2 ^ 63) × (length (level_data (max_repetition l.path) (column_repetitions p)) < 2 ^ 63) = lengths_fit l p k in
    rw (lt-ltb (length p) (2 ^ 63) h, lt-ltb (length (leaf_body data_page_v2 l p)) (2 ^ 63) k, lt-ltb (null_count p) (2 ^ 63) n, lt-ltb (starts p) (2 ^ 63) r, lt-ltb (length (level_data (max_definition l.path) (column_definitions p))) (2 ^ 63) z.0, lt-ltb (length (level_data (max_repetition l.path) (column_repetitions p))) (2 ^ 63) z.1) refl

header_is_tree : (form : PageForm) (l : Leaf) (p : List Triplet) → IsPage form l p → is_tree (page_tree (header_of_page form (max_repetition l.path) (max_definition l.path) p (length (leaf_body form l p)))) ≡ true
header_is_tree form l p h = header_parts form l p h (omega (arith, h.1)) h.2

spells_header : (form : PageForm) (l : Leaf) (p : List Triplet) → IsPage form l p → IsReadAs page_header (page_head_bytes form l p) (header_of_page form (max_repetition l.path) (max_definition l.path) p (length (leaf_body form l p)))
spells_header form l p h rest =
    let head : PageHeader = header_of_page form (max_repetition l.path) (max_definition l.path) p (length (leaf_body form l p)) in
    ap header_read (written_struct_is_read (page_tree head) (header_is_tree form l p h) rest) ∙ ap (header_viewed rest) (written_header_is_viewed head)

-- ---- pages

-- the shape by the header is the written one, but for lengths that a V1 page doesn't look at
shape_back : (form : PageForm) (l : Leaf) (p : List Triplet) (dictionary : List Value) (body : List ℕ) → page_triplets (written_shape form l.kind (max_repetition l.path) (max_definition l.path) p) dictionary body ≡ Some p
    → (wanted : ℕ) (first : Bool) (rest : List ℕ) (size : ℕ) → length p ≤ wanted → page_taken l wanted first dictionary (header_of_page form (max_repetition l.path) (max_definition l.path) p size) body rest ≡ got (taken p dictionary) rest
unfolding page_triplets
shape_back data_page_v1 l p dictionary body e wanted first rest size w = rw (le-leb (length p) wanted w, e) refl
shape_back data_page_v2 l p dictionary body e wanted first rest size w = rw (le-leb (length p) wanted w, e) refl

page_back : (form : PageForm) (l : Leaf) (p : List Triplet) (wanted : ℕ) (first : Bool) (dictionary : List Value) (rest : List ℕ) → max_repetition l.path ≤ 32 → max_definition l.path ≤ 32 → IsPage form l p → length p ≤ wanted
    → page_taken l wanted first dictionary (header_of_page form (max_repetition l.path) (max_definition l.path) p (length (leaf_body form l p))) (leaf_body form l p) rest ≡ got (taken p dictionary) rest
page_back form l p wanted first dictionary rest a b h w =
    let body : List ℕ = leaf_body form l p in
    let e : page_triplets (written_shape form l.kind (max_repetition l.path) (max_definition l.path) p) dictionary (body ++ []) ≡ Some p = written_body_is_read form l.kind (max_repetition l.path) (max_definition l.path) p dictionary [] a b h.1 h.0 in
    let f : page_triplets (written_shape form l.kind (max_repetition l.path) (max_definition l.path) p) dictionary body ≡ Some p = rw append-nil at e in
    shape_back form l p dictionary body f wanted first rest (length body) w

fields_have_byte : (last : ℤ) (s : Struct) → 1 ≤ length (fields_bytes last s)
fields_have_byte last stop = omega arith
fields_have_byte last (struct_field id x s) = omega (arith, length-append (header_bytes last id (item_type x)) (in_field x (item_bytes x) ++ fields_bytes id s), header_has_byte id (id -ℤ last) (item_type x))

struct_has_byte : (s : Struct) → 1 ≤ length (struct_bytes s)
unfolding struct_bytes
struct_has_byte s = fields_have_byte (pos 0) s

abbrev PagesBack : PageForm → Leaf → List (List Triplet) → Type 0
PagesBack form l ps = (k m : ℕ) (first : Bool) (dictionary : List Value) (rest : List ℕ) → m ≡ triplet_count ps → length (pages_bytes form l ps) ≤ k → (left : List ℕ) × (pages l k m first dictionary (pages_bytes form l ps ++ rest) ≡ got (all_triplets ps) left)

none_left : (ps : List (List Triplet)) → triplet_count ps ≡ 0 → all_triplets ps ≡ []
none_left [] e = refl
none_left ([] ∷ ps) e = none_left ps (omega (arith, e))
none_left ((t ∷ p) ∷ ps) e = absurd (omega (arith, e))

one_page : (l : Leaf) (k n : ℕ) (first : Bool) (dictionary : List Value) (h : PageHeader) (body : List ℕ) (t : PageTaken) (more : List Triplet) (a b c left : List ℕ) → page_header a ≡ got h b → bytes_of bad_page h.compressed_size b ≡ got body c → page_taken l (suc n) first dictionary h body c ≡ got t c → pages l k (suc n - length t.triplets) false t.dictionary c ≡ got more left → pages l (suc k) (suc n) first dictionary a ≡ got (t.triplets ++ more) left
one_page l k n first dictionary h body t more a b c left e f g i = rw (e, f, g, i) refl

pages_back : (form : PageForm) (l : Leaf) (ps : List (List Triplet)) → max_repetition l.path ≤ 32 → max_definition l.path ≤ 32 → ArePages form l ps → PagesBack form l ps
pages_back form l [] a b h k m first dictionary rest e c = (rest, rw e refl)
pages_back form l (p ∷ ps) a b h k zero first dictionary rest e c = (pages_bytes form l (p ∷ ps) ++ rest, ap (λ x. got x (pages_bytes form l (p ∷ ps) ++ rest)) (sym (none_left (p ∷ ps) (sym e))))
pages_back form l (p ∷ ps) a b h zero (suc n) first dictionary rest e c =
    let body : List ℕ = leaf_body form l p in
    let head : List ℕ = page_head_bytes form l p in
    absurd (omega (arith, c, length-append (head ++ body) (pages_bytes form l ps), length-append head body, struct_has_byte (page_tree (header_of_page form (max_repetition l.path) (max_definition l.path) p (length body)))))
pages_back form l (p ∷ ps) a b h (suc k) (suc n) first dictionary rest e c =
    let body : List ℕ = leaf_body form l p in
    let head : List ℕ = page_head_bytes form l p in
    let behind : List ℕ = pages_bytes form l ps ++ rest in
    let f : ((head ++ body) ++ pages_bytes form l ps) ++ rest ≡ head ++ (body ++ behind) = append_assoc (head ++ body) (pages_bytes form l ps) rest ∙ append_assoc head body behind in
    let w : length p ≤ suc n = omega (arith, e) in
    let m : suc n - length p ≡ triplet_count ps = omega (arith, e) in
    let d : length (pages_bytes form l ps) ≤ k = omega (arith, c, length-append (head ++ body) (pages_bytes form l ps), length-append head body, struct_has_byte (page_tree (header_of_page form (max_repetition l.path) (max_definition l.path) p (length body)))) in
    let r = pages_back form l ps a b h.1 k (suc n - length p) false dictionary rest m d in
    (r.0, ap (pages l (suc k) (suc n) first dictionary) f ∙ one_page l k n first dictionary (header_of_page form (max_repetition l.path) (max_definition l.path) p (length body)) body (taken p dictionary) (all_triplets ps) (head ++ (body ++ behind)) (body ++ behind) behind r.0 (spells_header form l p h.0 (body ++ behind)) (by_size form l p behind) (page_back form l p (suc n) first dictionary behind a b h.0 w) r.1)
  where
    by_size : (form : PageForm) (l : Leaf) (p : List Triplet) (behind : List ℕ) → bytes_of bad_page (header_of_page form (max_repetition l.path) (max_definition l.path) p (length (leaf_body form l p))).compressed_size (leaf_body form l p ++ behind) ≡ got (leaf_body form l p) behind
    by_size data_page_v1 l p behind = spells_bytes bad_page (length (leaf_body data_page_v1 l p)) (leaf_body data_page_v1 l p) refl behind
    by_size data_page_v2 l p behind = spells_bytes bad_page (length (leaf_body data_page_v2 l p)) (leaf_body data_page_v2 l p) refl behind

pub written_pages_are_read : WrittenPagesAreRead
written_pages_are_read form l ps rest a b h = ap triplets_read (pages_back form l ps a b h (length (pages_bytes form l ps ++ rest)) (triplet_count ps) true [] rest refl (omega (arith, length-append (pages_bytes form l ps) rest))).1

-- ---- cutting into pages

last_all : (p : List Triplet) → all_triplets (last_page p) ≡ p
last_all [] = refl
last_all (t ∷ p) = append-nil (t ∷ p)

closed_all : (b : Bool) (p : List Triplet) (qs : List (List Triplet)) → all_triplets (closed_page b p ++ qs) ≡ all_triplets (closed_page b p) ++ all_triplets qs
closed_all true p qs = ap (λ x. x ++ all_triplets qs) (sym (append-nil p))
closed_all false p qs = refl

kept_by : (b : Bool) (p : List Triplet) (rest : List Triplet) → all_triplets (closed_page b p) ++ (open_page b p ++ rest) ≡ p ++ rest
kept_by true p rest = ap (λ x. x ++ rest) (append-nil p)
kept_by false p rest = refl

cut_all : (l : Leaf) (cs : List (List Triplet)) (p : List Triplet) → all_triplets (cut_pages l.kind p cs) ≡ p ++ all_triplets cs
cut_all l [] p = last_all p ∙ sym (append-nil p)
cut_all l (c ∷ cs) p =
    let b : Bool = is_full l.kind (p ++ c) in
    closed_all b (p ++ c) (cut_pages l.kind (open_page b (p ++ c)) cs) ∙ (ap (λ x. all_triplets (closed_page b (p ++ c)) ++ x) (cut_all l cs (open_page b (p ++ c))) ∙ (kept_by b (p ++ c) (all_triplets cs) ∙ append_assoc p c (all_triplets cs)))

pub pages_keep_triplets : PagesKeepTriplets
pages_keep_triplets l cs = cut_all l cs []
