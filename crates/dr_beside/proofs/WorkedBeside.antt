-- When records have columns at several leaves, by computation: leaves that agree on their fronts.
use Rattle.std.specs.Prelude.{◌≡◌, ℕ, List, [], ◌∷◌, ◌++◌, true, false, refl}
use Rattle.std.specs.List.{list_all}
use Rattle.std.specs.Str.{is_utf8, chars}
use Rattle.dr_meaning.specs.Schema.{Fields, Repetition, required, optional, repeated}
use Rattle.dr_meaning.specs.Path.{Step, is_leaf_path}
use Rattle.dr_meaning.specs.Record.{Node, is_record}
use Rattle.dr_meaning.specs.Column.{Triplet, column}
use Rattle.dr_meaning.proofs.WorkedSchemas.{document}
use Rattle.dr_meaning.proofs.WorkedRecords.{record_10, record_20}
use Rattle.dr_meaning.proofs.WorkedPaths.{doc_id, forward, name, language_level, code, country, url}
use Rattle.dr_beside.specs.Outlines.{outline}
use Rattle.dr_beside.specs.Beside.{OfEach, HaveColumns, front_outline, none_through, RecordsAgree, NeighboursHaveRecords, AgreesAmong, EachAgrees, ColumnsTogether}

abbrev both : List Node
both = record_10 ∷ record_20 ∷ []

abbrev field_at : ℕ → Repetition → Step
field_at i r = record { place = i; repetition = r }

abbrev columns_of_both : List Step → List Triplet
columns_of_both p = column p both

-- ---- records with columns at several leaves

pub of_two : OfEach (λ (p : List Step). p ≡ p) (url ∷ code ∷ [])
of_two = (refl, (refl, tt))

pub both_have : HaveColumns document (url ∷ code ∷ country ∷ []) 2 columns_of_both
unfolding is_utf8 chars lib.Utf8.encode
both_have = (both, refl, refl, (refl, (refl, (refl, tt))))

pub have_said : (c : List Step → List Triplet) → HaveColumns document (url ∷ []) 2 c → (R : List Node) × (list_all (is_record document) R ≡ true) × (column url R ≡ c url)
have_said c h = (h.0, h.1, h.3.0)

pub outlined : (front_outline name (column url both) ≡ outline 1 1 (column url both)) × (front_outline language_level (column code both) ≡ outline 2 2 (column code both)) × (front_outline [] (column url both) ≡ outline 0 0 (column url both))
    × (front_outline (field_at 1 optional ∷ []) (column forward both) ≡ outline 0 1 (column forward both))
outlined = (refl, refl, refl, refl)

-- whether paths go on through a field of a front
pub through : (none_through name (field_at 0 repeated) (url ∷ doc_id ∷ []) ≡ true) × (none_through name (field_at 0 repeated) (url ∷ country ∷ []) ≡ false) × (none_through [] (field_at 2 repeated) (url ∷ []) ≡ false)
    × (none_through [] (field_at 1 optional) (url ∷ doc_id ∷ []) ≡ true) × (none_through language_level (field_at 0 required) (country ∷ url ∷ []) ≡ true)
through = (refl, refl, refl, refl, refl)

-- ---- leaves that agree with earlier ones

-- the country with the code, behind languages
pub country_agrees : AgreesAmong columns_of_both (url ∷ code ∷ []) country
country_agrees = (language_level, [], [], field_at 1 optional, field_at 0 required, 1, refl, refl, refl, refl)

-- the code with the address, behind names
pub code_agrees : AgreesAmong columns_of_both (url ∷ []) code
code_agrees = (name, field_at 0 required ∷ [], [], field_at 0 repeated, field_at 1 optional, 0, refl, refl, refl, refl)

-- each with one before it, the latest first
pub country_agrees_too : AgreesAmong columns_of_both (code ∷ url ∷ []) country
country_agrees_too = (language_level, [], [], field_at 1 optional, field_at 0 required, 0, refl, refl, refl, refl)

pub each_agrees : EachAgrees columns_of_both (url ∷ []) (code ∷ country ∷ [])
each_agrees = (code_agrees, (country_agrees_too, tt))

-- ---- the laws

pub agree_said : RecordsAgree → (R : List Node) → list_all (is_record document) R ≡ true → outline 2 2 (column country R) ≡ outline 2 2 (column code R)
agree_said law R ok = law document language_level [] [] (field_at 1 optional) (field_at 0 required) R refl refl ok

pub neighbours_said : NeighboursHaveRecords → (rows : ℕ) (c : List Step → List Triplet) → HaveColumns document (code ∷ url ∷ []) rows c → HaveColumns document (country ∷ []) rows c → outline 2 2 (c country) ≡ outline 2 2 (c code)
    → HaveColumns document (country ∷ code ∷ url ∷ []) rows c
neighbours_said law rows c have alone same = law document (url ∷ []) rows c language_level [] [] (field_at 1 optional) (field_at 0 required) refl refl refl have alone refl same

pub together_said : ColumnsTogether → (rows : ℕ) (c : List Step → List Triplet) → HaveColumns document (url ∷ []) rows c → HaveColumns document (code ∷ []) rows c → HaveColumns document (country ∷ []) rows c
    → EachAgrees c (url ∷ []) (code ∷ country ∷ []) → HaveColumns document (url ∷ code ∷ country ∷ []) rows c
together_said law rows c one two three agree = law document url (code ∷ country ∷ []) rows c refl (one, (two, (three, tt))) agree

-- that the new leaf isn't on the way to its neighbour is asked, whatever the two paths are
pub neighbour_asked : NeighboursHaveRecords → (fs : Fields) (f p q : List Step) (s t : Step) (c : List Step → List Triplet) → is_leaf_path fs (f ++ s ∷ p) ≡ true → is_leaf_path fs (f ++ t ∷ q) ≡ true
    → none_through f s ((f ++ t ∷ q) ∷ []) ≡ true → HaveColumns fs ((f ++ t ∷ q) ∷ []) 2 c → HaveColumns fs ((f ++ s ∷ p) ∷ []) 2 c → front_outline f (c (f ++ s ∷ p)) ≡ front_outline f (c (f ++ t ∷ q))
    → HaveColumns fs ((f ++ s ∷ p) ∷ (f ++ t ∷ q) ∷ []) 2 c
neighbour_asked law fs f p q s t c leaf other apart have alone same = law fs [] 2 c f p q s t leaf other refl have alone apart same

-- and so is that each path is a leaf's, the first one's too
pub leaves_asked : ColumnsTogether → (fs : Fields) (p q : List Step) (c : List Step → List Triplet) → list_all (is_leaf_path fs) (p ∷ q ∷ []) ≡ true → HaveColumns fs (p ∷ []) 2 c → HaveColumns fs (q ∷ []) 2 c
    → AgreesAmong c (p ∷ []) q → HaveColumns fs (p ∷ q ∷ []) 2 c
leaves_asked law fs p q c leaves one two agree = law fs p (q ∷ []) 2 c leaves (one, (two, tt)) (agree, tt)
