-- Columns that records have, and chunks of them, by computation.
use Rattle.std.specs.Prelude.{◌≡◌, ◌≤◌, ◌+◌, ℕ, List, [], ◌∷◌, ◌++◌, length, take, drop, true, pos, Option, Some, None, codes, refl}
use Rattle.std.specs.Str.{is_utf8, chars}
use Rattle.std.proofs.Common.{sym, ap, true≢false}
use Rattle.dr_meaning.specs.Schema.{no_fields, text_kind}
use Rattle.dr_meaning.specs.Path.{Leaf}
use Rattle.dr_meaning.specs.Record.{Value, int_value, text_value, Node}
use Rattle.dr_meaning.specs.Column.{Triplet, triplet, column}
use Rattle.dr_meaning.specs.OneColumn.{starts, begins_record, is_column}
use Rattle.dr_meaning.proofs.WorkedSchemas.{document}
use Rattle.dr_meaning.proofs.WorkedRecords.{record_10, record_20, record_30}
use Rattle.dr_meaning.proofs.WorkedPaths.{doc_id, url}
use Rattle.dr_beside.specs.Chunks.{HasColumns, NoneHas, ColumnOfBoth, ColumnOfCut, CutColumnsPass, JoinedColumnsPass, IsChunk, AreChunks, ChunksOfRecords, NoneHasChunk, each_behind, ChunksAreJoined}

abbrev word : List ℕ → Option Value
word t = Some (text_value t)

abbrev number : ℕ → Option Value
number n = Some (int_value (pos n))

abbrev url_leaf : Leaf
url_leaf = record { names = codes "Name" ∷ codes "Url" ∷ []; path = url; kind = text_kind }

-- ---- the columns of addresses and of numbers, record by record

abbrev urls_10 : List Triplet
urls_10 = triplet 0 2 (word (codes "http://A")) ∷ triplet 1 2 (word (codes "http://B")) ∷ triplet 1 1 None ∷ []

abbrev urls_20 : List Triplet
urls_20 = triplet 0 2 (word (codes "http://C")) ∷ []

abbrev urls_30 : List Triplet
urls_30 = triplet 0 0 None ∷ []

abbrev id : ℕ → List Triplet
id n = triplet 0 0 (number n) ∷ []

abbrev all_three : List Node
all_three = record_10 ∷ record_20 ∷ record_30 ∷ []

abbrev columns_of_three : List (List Triplet)
columns_of_three = (urls_10 ++ urls_20 ++ urls_30) ∷ (id 10 ++ id 20 ++ id 30) ∷ []

-- ---- which records have which columns

pub three_have : HasColumns document (url ∷ doc_id ∷ []) columns_of_three 3 all_three
unfolding is_utf8 chars lib.Utf8.encode
three_have = (refl, refl, refl)

pub none_have : HasColumns document (url ∷ doc_id ∷ []) ([] ∷ [] ∷ []) 0 []
none_have = (refl, refl, refl)

-- as many columns as leaves; columns of as many records
pub another_number : NoneHas document (url ∷ []) [] 1
another_number R h = let e = h.2 in cc

-- records of the schema; as many; with these columns
pub no_records_of_it : HasColumns no_fields [] [] 1 (record_30 ∷ []) → ⊥
no_records_of_it h = true≢false (sym h.0)

pub too_many_records : HasColumns document (doc_id ∷ []) ((id 10 ++ id 20) ∷ []) 1 (record_10 ∷ record_20 ∷ []) → ⊥
too_many_records h = let e = h.1 in cc

pub other_columns : HasColumns document (doc_id ∷ []) (id 10 ∷ []) 2 (record_10 ∷ record_20 ∷ []) → ⊥
other_columns h = two_is_one (ap first_length h.2)
  where
    first_length : List (List Triplet) → ℕ
    first_length [] = 0
    first_length (c ∷ C) = length c

    two_is_one : ◌≡◌ {A = ℕ} 2 1 → ⊥
    two_is_one e = cc

-- ---- one column

pub both_said : ColumnOfBoth → (R S : List Node) → column url (R ++ S) ≡ column url R ++ column url S
both_said law R S = law url R S

pub cut_said : ColumnOfCut → (column url (take 1 all_three) ≡ urls_10) × (column url (drop 1 all_three) ≡ urls_20 ++ urls_30)
unfolding is_utf8 chars lib.Utf8.encode
cut_said law = law document url all_three urls_10 (urls_20 ++ urls_30) refl refl refl refl

pub cuts_pass : CutColumnsPass → (is_column url_leaf 1 urls_10 ≡ true) × (is_column url_leaf 2 (urls_20 ++ urls_30) ≡ true)
unfolding is_utf8 chars lib.Utf8.encode
cuts_pass law = law url_leaf 1 2 urls_10 (urls_20 ++ urls_30) refl refl refl

pub joined_pass : JoinedColumnsPass → is_column url_leaf 3 (urls_10 ++ urls_20 ++ urls_30) ≡ true
unfolding is_utf8 chars lib.Utf8.encode
joined_pass law = law url_leaf 1 2 urls_10 (urls_20 ++ urls_30) refl refl

-- ---- chunks

-- the third record's part of both columns, behind two records
abbrev last_columns : List (List Triplet)
last_columns = urls_30 ∷ id 30 ∷ []

pub last_chunk : AreChunks 2 1 last_columns columns_of_three
last_chunk = (
  record { front = urls_10 ++ urls_20; back = []; lies = refl; behind = refl; so_many = refl; begins = refl; ends = refl },
  (
    record { front = id 10 ++ id 20; back = []; lies = refl; behind = refl; so_many = refl; begins = refl; ends = refl },
    tt,
  ),
)

-- the first two records' part
pub first_chunk : AreChunks 0 2 ((urls_10 ++ urls_20) ∷ []) ((urls_10 ++ urls_20 ++ urls_30) ∷ [])
first_chunk = (record { front = []; back = urls_30; lies = refl; behind = refl; so_many = refl; begins = refl; ends = refl }, tt)

pub no_chunks : AreChunks 2 1 [] []
no_chunks = tt

-- as many chunks as columns
pub too_few : AreChunks 2 1 [] (urls_30 ∷ []) → ⊥
too_few h = h

pub too_many : AreChunks 2 1 (urls_30 ∷ []) [] → ⊥
too_many h = h

-- what a chunk's parts tell of it
pub chunk_said : (before rows : ℕ) (ts whole : List Triplet) (c : IsChunk before rows ts whole) → (whole ≡ c.front ++ (ts ++ c.back)) × (starts c.front ≡ before) × (starts ts ≡ rows) × (begins_record ts ≡ true) × (begins_record c.back ≡ true)
chunk_said before rows ts whole c = (c.lies, c.behind, c.so_many, c.begins, c.ends)

pub chunks_said : ChunksOfRecords → 2 + 1 ≤ 3 → HasColumns document (url ∷ doc_id ∷ []) last_columns 1 (record_30 ∷ [])
chunks_said law few = law document (url ∷ doc_id ∷ []) last_columns columns_of_three 2 1 3 all_three refl few last_chunk three_have

pub none_said : NoneHasChunk → 2 + 1 ≤ 3 → NoneHas document (url ∷ doc_id ∷ []) last_columns 1 → NoneHas document (url ∷ doc_id ∷ []) columns_of_three 3
none_said law few none = law document (url ∷ doc_id ∷ []) last_columns columns_of_three 2 1 3 refl few last_chunk none

-- ---- one chunk behind the other

pub joined_columns : each_behind (urls_10 ∷ id 10 ∷ []) (urls_20 ∷ id 20 ∷ []) ≡ (urls_10 ++ urls_20) ∷ (triplet 0 0 (number 10) ∷ triplet 0 0 (number 20) ∷ []) ∷ []
joined_columns = refl

pub uneven : (each_behind [] (urls_20 ∷ []) ≡ []) × (each_behind (urls_10 ∷ []) [] ≡ []) × (each_behind (urls_10 ∷ id 10 ∷ []) (urls_20 ∷ []) ≡ (urls_10 ++ urls_20) ∷ [])
uneven = (refl, refl, refl)

pub joined_said : ChunksAreJoined → (C D : List (List Triplet)) (R S : List Node) → HasColumns document (url ∷ []) C 1 R → HasColumns document (url ∷ []) D 2 S → HasColumns document (url ∷ []) (each_behind C D) 3 (R ++ S)
joined_said law C D R S one other = law document (url ∷ []) C D 1 2 R S one other
