-- Files with V2 pages that another writer may have made, by computation. Each is the file of some numbers in the one leaf of
-- `message T { required int64 a; }`, or has the cause that is told.
use Rattle.std.specs.Prelude.{ℕ, List, [], ◌∷◌, ◌++◌, map, pos, codes, refl}
use Rattle.dr_meaning.specs.Record.{Node, no_slots, slot, single, atom, int_value}
use Rattle.dr_formats.specs.Compact.{read_struct}
use Rattle.dr_formats.specs.Hybrid.{hybrid}
use Rattle.dr_formats.specs.Page.{page_triplets}
use Rattle.dr_formats.specs.File.{bad_data, IsFileOf, footer_of}
use Rattle.dr_formats.proofs.FileLemmas.{known_cause_holds}
use Rattle.dr_formats.proofs.Hexadecimal.{hex}
use Rattle.dr_formats.proofs.WorkedFiles.{one_schema}
use Rattle.dr_formats.proofs.WorkedDamaged.{footer_or, one_leaf, Refused}

abbrev number : ℕ → Node
number n = slot (single (atom (int_value (pos n)))) no_slots

abbrev Holds : List ℕ → List ℕ → Type 0
Holds bytes numbers = IsFileOf bytes one_schema one_leaf (map number numbers)

-- ---- accepted

abbrev one_page_bytes : List ℕ
one_page_bytes =
    hex (codes "504152311506151015105C1502150015021500150015001200000700000000000000") ++
    hex (codes "292C350018015415020015042500180161001602191C191C3C150435001602263C2608000026020000") ++
    hex (codes "2900000050415231")

-- a V2 page of one value
pub one_page : Holds one_page_bytes (7 ∷ [])
unfolding footer_of read_struct page_triplets hybrid
one_page = (footer_or (footer_of one_page_bytes), refl, refl, refl, (refl, refl, refl, refl, refl))

abbrev claims_bytes : List ℕ
claims_bytes =
    hex (codes "504152311506151015105C15021512150115001500150011000007000000000000001506151015105C150235001500150000000800000000000000") ++
    hex (codes "292C350018015415020015042500180161001604191C191C3C150435001604266E2608000026040000") ++
    hex (codes "2900000050415231")

-- the numbers of NULLs and of rows aren't looked at, nor whether it says that its values are compressed; without them it is read, too
pub claims : Holds claims_bytes (7 ∷ 8 ∷ [])
unfolding footer_of read_struct page_triplets hybrid
claims = (footer_or (footer_of claims_bytes), refl, refl, refl, (refl, refl, refl, refl, refl))

abbrev absent_levels_bytes : List ℕ
absent_levels_bytes =
    hex (codes "504152311506152615265C150415001504150015021504120000FFFFFF07000000000000000800000000000000") ++
    hex (codes "292C350018015415020015042500180161001604191C191C3C15043500160426522608000026040000") ++
    hex (codes "2900000050415231")

-- level parts that the header tells where both greatest levels are 0: their bytes, whatever they are, are passed over
pub absent_levels : Holds absent_levels_bytes (7 ∷ 8 ∷ [])
unfolding footer_of read_struct page_triplets hybrid
absent_levels = (footer_or (footer_of absent_levels_bytes), refl, refl, refl, (refl, refl, refl, refl, refl))

abbrev mixed_forms_bytes : List ℕ
mixed_forms_bytes =
    hex (codes "504152311504152015204C150415000000070000000000000009000000000000001500150615062C150415101506150600000103021506150615065C15061500") ++
    hex (codes "15061510150015001200000103051506151015105C15021500150215001500150012000005000000000000001500151015102C15021500150615060000060000") ++
    hex (codes "0000000000") ++
    hex (codes "292C35001801541502001504250018016100160E191C191C3C15043500160E26820226080000260E0000") ++
    hex (codes "2A00000050415231")

-- a dictionary of 7 and 9, a V1 page of its values, a V2 page of them, a V2 page of PLAIN values, a V1 page of those
pub mixed_forms : Holds mixed_forms_bytes (7 ∷ 9 ∷ 9 ∷ 7 ∷ 9 ∷ 5 ∷ 6 ∷ [])
unfolding footer_of read_struct page_triplets hybrid
mixed_forms = (footer_or (footer_of mixed_forms_bytes), refl, refl, refl, (refl, refl, refl, refl, refl))

abbrev both_headers_bytes : List ℕ
both_headers_bytes =
    hex (codes "504152311506151015102C1504151215121512003C1502350015001500000007000000000000001500151015102C1502150015061506003C1504351215121512") ++
    hex (codes "00000800000000000000") ++
    hex (codes "292C350018015415020015042500180161001604191C191C3C150435001604268C012608000026040000") ++
    hex (codes "2A00000050415231")

-- each page by the header struct of its type, with the other one beside it
pub both_headers : Holds both_headers_bytes (7 ∷ 8 ∷ [])
unfolding footer_of read_struct page_triplets hybrid
both_headers = (footer_or (footer_of both_headers_bytes), refl, refl, refl, (refl, refl, refl, refl, refl))

abbrev no_values_bytes : List ℕ
no_values_bytes =
    hex (codes "504152311506150015005C1500150015001500150015001200001506151015105C15021500150215001500150012000007000000000000001506150615065C15") ++
    hex (codes "00150015001500150415021200000102031506151015105C1502150015021500150015001200000800000000000000") ++
    hex (codes "292C350018015415020015042500180161001604191C191C3C15043500160426D6012608000026040000") ++
    hex (codes "2A00000050415231")

-- V2 pages without values, before and behind others
pub no_values : Holds no_values_bytes (7 ∷ 8 ∷ [])
unfolding footer_of read_struct page_triplets hybrid
no_values = (footer_or (footer_of no_values_bytes), refl, refl, refl, (refl, refl, refl, refl, refl))

-- ---- refused

abbrev first_past_body_bytes : List ℕ
first_past_body_bytes =
    hex (codes "504152311506151015105C1502150015021500150015121200000700000000000000") ++
    hex (codes "292C350018015415020015042500180161001602191C191C3C150435001602263C2608000026020000") ++
    hex (codes "2900000050415231")

-- a length of the repetition levels that is a byte past the body, where the greatest level is 0
pub first_past_body : Refused first_past_body_bytes bad_data
unfolding footer_of read_struct page_triplets hybrid
first_past_body = known_cause_holds first_past_body_bytes one_schema one_leaf bad_data refl

abbrev second_past_body_bytes : List ℕ
second_past_body_bytes =
    hex (codes "504152311506151015105C1502150015021500151215001200000700000000000000") ++
    hex (codes "292C350018015415020015042500180161001602191C191C3C150435001602263C2608000026020000") ++
    hex (codes "2900000050415231")

-- a length of the definition levels past it
pub second_past_body : Refused second_past_body_bytes bad_data
unfolding footer_of read_struct page_triplets hybrid
second_past_body = known_cause_holds second_past_body_bytes one_schema one_leaf bad_data refl

abbrev together_past_body_bytes : List ℕ
together_past_body_bytes =
    hex (codes "504152311506151015105C1500150015001500150A150812000007000000000000001506151015105C1502150015021500150015001200000700000000000000") ++
    hex (codes "292C350018015415020015042500180161001602191C191C3C15043500160226782608000026020000") ++
    hex (codes "2900000050415231")

-- lengths that are past it together alone
pub together_past_body : Refused together_past_body_bytes bad_data
unfolding footer_of read_struct page_triplets hybrid
together_past_body = known_cause_holds together_past_body_bytes one_schema one_leaf bad_data refl

abbrev too_few_values_bytes : List ℕ
too_few_values_bytes =
    hex (codes "504152311506151015105C1502150015021500150015021200000700000000000000") ++
    hex (codes "292C350018015415020015042500180161001602191C191C3C150435001602263C2608000026020000") ++
    hex (codes "2900000050415231")

-- level parts that leave a byte too few for the value
pub too_few_values : Refused too_few_values_bytes bad_data
unfolding footer_of read_struct page_triplets hybrid
too_few_values = known_cause_holds too_few_values_bytes one_schema one_leaf bad_data refl

abbrev v2_without_header_bytes : List ℕ
v2_without_header_bytes =
    hex (codes "504152311506151015102C150215001506150600000700000000000000") ++
    hex (codes "292C350018015415020015042500180161001602191C191C3C15043500160226322608000026020000") ++
    hex (codes "2900000050415231")

-- a page of the type DATA_PAGE_V2 3 with a V1 header alone
pub v2_without_header : Refused v2_without_header_bytes bad_data
unfolding footer_of read_struct page_triplets hybrid
v2_without_header = known_cause_holds v2_without_header_bytes one_schema one_leaf bad_data refl

abbrev v2_past_values_bytes : List ℕ
v2_past_values_bytes =
    hex (codes "504152311506152015205C15041500150415001500150012000007000000000000000800000000000000") ++
    hex (codes "292C350018015415020015042500180161001602191C191C3C150435001602264C2608000026020000") ++
    hex (codes "2900000050415231")

-- a V2 page that goes past the chunk's number of values
pub v2_past_values : Refused v2_past_values_bytes bad_data
unfolding footer_of read_struct page_triplets hybrid
v2_past_values = known_cause_holds v2_past_values_bytes one_schema one_leaf bad_data refl

abbrev v2_negative_length_bytes : List ℕ
v2_negative_length_bytes =
    hex (codes "504152311506151015105C1502150015021500150115001200000700000000000000") ++
    hex (codes "292C350018015415020015042500180161001602191C191C3C150435001602263C2608000026020000") ++
    hex (codes "2900000050415231")

-- a negative length of a level part
pub v2_negative_length : Refused v2_negative_length_bytes bad_data
unfolding footer_of read_struct page_triplets hybrid
v2_negative_length = known_cause_holds v2_negative_length_bytes one_schema one_leaf bad_data refl

abbrev v2_rle_numbers_bytes : List ℕ
v2_rle_numbers_bytes =
    hex (codes "504152311506151015105C15001500150015061500150012000007000000000000001506151015105C1502150015021500150015001200000700000000000000") ++
    hex (codes "292C350018015415020015042500180161001602191C191C3C15043500160226782608000026020000") ++
    hex (codes "2900000050415231")

-- whole numbers of the encoding RLE 3, also where none is wanted: before the number there is a page of none
pub v2_rle_numbers : Refused v2_rle_numbers_bytes bad_data
unfolding footer_of read_struct page_triplets hybrid
v2_rle_numbers = known_cause_holds v2_rle_numbers_bytes one_schema one_leaf bad_data refl

abbrev v2_dictionary_behind_bytes : List ℕ
v2_dictionary_behind_bytes =
    hex (codes "504152311506151015105C15021500150215001500150012000007000000000000001504151015104C15021500000009000000000000001506151015105C1502") ++
    hex (codes "150015021500150015001200000800000000000000") ++
    hex (codes "292C350018015415020015042500180161001604191C191C3C15043500160426A2012608000026040000") ++
    hex (codes "2A00000050415231")

-- a dictionary page behind a V2 page
pub v2_dictionary_behind : Refused v2_dictionary_behind_bytes bad_data
unfolding footer_of read_struct page_triplets hybrid
v2_dictionary_behind = known_cause_holds v2_dictionary_behind_bytes one_schema one_leaf bad_data refl
