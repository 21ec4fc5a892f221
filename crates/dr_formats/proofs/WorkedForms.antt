-- Files that another writer may have made, by computation: pages, dictionaries, offsets, row groups and schema elements of each form. Each is the file of
-- some numbers in the one leaf of `message T { required int64 a; }`, or has the cause that is told.
use Rattle.std.specs.Prelude.{ℕ, List, [], ◌∷◌, ◌++◌, map, pos, codes, refl}
use Rattle.dr_meaning.specs.Record.{Node, no_slots, slot, single, atom, int_value}
use Rattle.dr_formats.specs.Compact.{read_struct}
use Rattle.dr_formats.specs.Hybrid.{hybrid}
use Rattle.dr_formats.specs.Page.{page_triplets}
use Rattle.dr_formats.specs.File.{bad_footer, bad_schema, bad_data, IsFileOf, footer_of}
use Rattle.dr_formats.proofs.FileLemmas.{known_cause_holds}
use Rattle.dr_formats.proofs.Hexadecimal.{hex}
use Rattle.dr_formats.proofs.WorkedFiles.{one_schema}
use Rattle.dr_formats.proofs.WorkedDamaged.{footer_or, one_leaf, Refused}

abbrev number : ℕ → Node
number n = slot (single (atom (int_value (pos n)))) no_slots

abbrev Holds : List ℕ → List ℕ → Type 0
Holds bytes numbers = IsFileOf bytes one_schema one_leaf (map number numbers)

-- ---- accepted

abbrev index_before_data_bytes : List ℕ
index_before_data_bytes =
    hex (codes "50415231150215061506000102031500152015202C1504150015061506000007000000000000000800000000000000") ++
    hex (codes "292C350018015415020015042500180161001604191C191C3C15043500160426562608000026040000") ++
    hex (codes "2900000050415231")

-- an index page before the data is passed over
pub index_before_data : Holds index_before_data_bytes (7 ∷ 8 ∷ [])
unfolding footer_of read_struct page_triplets hybrid
index_before_data = (footer_or (footer_of index_before_data_bytes), refl, refl, refl, (refl, refl, refl, refl, refl))

abbrev dictionary_then_plain_bytes : List ℕ
dictionary_then_plain_bytes =
    hex (codes "504152311504152015204C150415000000070000000000000009000000000000001500150615062C150415101506150600000103021500151015102C1502150015") ++
    hex (codes "06150600000500000000000000") ++
    hex (codes "292C350018015415020015042500180161001606191C191C3C1504350016062694012608000026060000") ++
    hex (codes "2A00000050415231")

-- a dictionary, a page of its values, then a page of PLAIN values
pub dictionary_then_plain : Holds dictionary_then_plain_bytes (7 ∷ 9 ∷ 5 ∷ [])
unfolding footer_of read_struct page_triplets hybrid
dictionary_then_plain = (footer_or (footer_of dictionary_then_plain_bytes), refl, refl, refl, (refl, refl, refl, refl, refl))

abbrev old_dictionary_bytes : List ℕ
old_dictionary_bytes =
    hex (codes "504152311504152015204C150415040000070000000000000009000000000000001500150615062C15041504150615060000010301") ++
    hex (codes "292C350018015415020015042500180161001604191C191C3C15043500160426622608000026040000") ++
    hex (codes "2900000050415231")

-- the older numbers: a dictionary page and a page of its values of the encoding PLAIN_DICTIONARY 2
pub old_dictionary : Holds old_dictionary_bytes (9 ∷ 7 ∷ [])
unfolding footer_of read_struct page_triplets hybrid
old_dictionary = (footer_or (footer_of old_dictionary_bytes), refl, refl, refl, (refl, refl, refl, refl, refl))

abbrev several_pages_bytes : List ℕ
several_pages_bytes =
    hex (codes "504152311500151015102C1502150015061506000007000000000000001500150015002C150015001506150600001500152015202C150415001506150600000800") ++
    hex (codes "0000000000000900000000000000FFFF") ++
    hex (codes "292C350018015415020015042500180161001606191C191C3C150435001606269A012608000026060000") ++
    hex (codes "2A00000050415231")

-- three pages, the second without triplets, and bytes behind the last
pub several_pages : Holds several_pages_bytes (7 ∷ 8 ∷ 9 ∷ [])
unfolding footer_of read_struct page_triplets hybrid
several_pages = (footer_or (footer_of several_pages_bytes), refl, refl, refl, (refl, refl, refl, refl, refl))

abbrev offset_of_dictionary_bytes : List ℕ
offset_of_dictionary_bytes =
    hex (codes "504152311504152015204C150415000000070000000000000009000000000000001500150615062C15041510150615060000010302") ++
    hex (codes "292C350018015415020015042500180161001604191C191C3C150435001604266226422608000026040000") ++
    hex (codes "2B00000050415231")

-- the chunk begins at the dictionary page's offset, where that is above 0 and below the data page's
pub offset_of_dictionary : Holds offset_of_dictionary_bytes (7 ∷ 9 ∷ [])
unfolding footer_of read_struct page_triplets hybrid
offset_of_dictionary = (footer_or (footer_of offset_of_dictionary_bytes), refl, refl, refl, (refl, refl, refl, refl, refl))

abbrev offset_zero_bytes : List ℕ
offset_zero_bytes =
    hex (codes "504152311500152015202C1504150015061506000007000000000000000800000000000000") ++
    hex (codes "292C350018015415020015042500180161001604191C191C3C150435001604264226082600000026040000") ++
    hex (codes "2B00000050415231")

-- a dictionary page's offset of 0 doesn't count
pub offset_zero : Holds offset_zero_bytes (7 ∷ 8 ∷ [])
unfolding footer_of read_struct page_triplets hybrid
offset_zero = (footer_or (footer_of offset_zero_bytes), refl, refl, refl, (refl, refl, refl, refl, refl))

abbrev offset_negative_bytes : List ℕ
offset_negative_bytes =
    hex (codes "504152311500152015202C1504150015061506000007000000000000000800000000000000") ++
    hex (codes "292C350018015415020015042500180161001604191C191C3C150435001604264226082601000026040000") ++
    hex (codes "2B00000050415231")

-- nor does a negative one
pub offset_negative : Holds offset_negative_bytes (7 ∷ 8 ∷ [])
unfolding footer_of read_struct page_triplets hybrid
offset_negative = (footer_or (footer_of offset_negative_bytes), refl, refl, refl, (refl, refl, refl, refl, refl))

abbrev offset_behind_bytes : List ℕ
offset_behind_bytes =
    hex (codes "504152311500152015202C1504150015061506000007000000000000000800000000000000") ++
    hex (codes "292C350018015415020015042500180161001604191C191C3C15043500160426422608263C000026040000") ++
    hex (codes "2B00000050415231")

-- nor one behind the data page
pub offset_behind : Holds offset_behind_bytes (7 ∷ 8 ∷ [])
unfolding footer_of read_struct page_triplets hybrid
offset_behind = (footer_or (footer_of offset_behind_bytes), refl, refl, refl, (refl, refl, refl, refl, refl))

abbrev offset_same_bytes : List ℕ
offset_same_bytes =
    hex (codes "504152311500152015202C1504150015061506000007000000000000000800000000000000") ++
    hex (codes "292C350018015415020015042500180161001604191C191C3C150435001604264226082608000026040000") ++
    hex (codes "2B00000050415231")

-- nor one at the data page
pub offset_same : Holds offset_same_bytes (7 ∷ 8 ∷ [])
unfolding footer_of read_struct page_triplets hybrid
offset_same = (footer_or (footer_of offset_same_bytes), refl, refl, refl, (refl, refl, refl, refl, refl))

abbrev no_values_no_pages_bytes : List ℕ
no_values_no_pages_bytes =
    hex (codes "50415231") ++
    hex (codes "292C350018015415020015042500180161001600191C191C3C15043500160026002608000026000000") ++
    hex (codes "2900000050415231")

-- a chunk without values needs no page
pub no_values_no_pages : Holds no_values_no_pages_bytes ([])
unfolding footer_of read_struct page_triplets hybrid
no_values_no_pages = (footer_or (footer_of no_values_no_pages_bytes), refl, refl, refl, (refl, refl, refl, refl, refl))

abbrev two_row_groups_bytes : List ℕ
two_row_groups_bytes =
    hex (codes "504152311500152015202C15041500150615060000080000000000000009000000000000001500151015102C150215001506150600000700000000000000") ++
    hex (codes "292C350018015415020015042500180161001606192C191C3C1504350016022632264A0000260200191C3C15043500160426422608000026040000") ++
    hex (codes "3B00000050415231")

-- two row groups, whose chunks lie in another order
pub two_row_groups : Holds two_row_groups_bytes (7 ∷ 8 ∷ 9 ∷ [])
unfolding footer_of read_struct page_triplets hybrid
two_row_groups = (footer_or (footer_of two_row_groups_bytes), refl, refl, refl, (refl, refl, refl, refl, refl))

abbrev no_row_groups_bytes : List ℕ
no_row_groups_bytes =
    hex (codes "50415231") ++
    hex (codes "292C48015415020015042500180161001600190C00") ++
    hex (codes "1500000050415231")

-- no row group and no row
pub no_row_groups : Holds no_row_groups_bytes ([])
unfolding footer_of read_struct page_triplets hybrid
no_row_groups = (footer_or (footer_of no_row_groups_bytes), refl, refl, refl, (refl, refl, refl, refl, refl))

abbrev root_of_any_repetition_bytes : List ℕ
root_of_any_repetition_bytes =
    hex (codes "50415231") ++
    hex (codes "292C350E180015020015042500180161001600190C00") ++
    hex (codes "1600000050415231")

-- the root's repetition and name aren't looked at
pub root_of_any_repetition : Holds root_of_any_repetition_bytes ([])
unfolding footer_of read_struct page_triplets hybrid
root_of_any_repetition = (footer_or (footer_of root_of_any_repetition_bytes), refl, refl, refl, (refl, refl, refl, refl, refl))

abbrev other_conversion_bytes : List ℕ
other_conversion_bytes =
    hex (codes "50415231") ++
    hex (codes "292C4801541502001504250018016125244C8C0000001600190C00") ++
    hex (codes "1B00000050415231")

-- another converted type and a logical type aren't looked at
pub other_conversion : Holds other_conversion_bytes ([])
unfolding footer_of read_struct page_triplets hybrid
other_conversion = (footer_or (footer_of other_conversion_bytes), refl, refl, refl, (refl, refl, refl, refl, refl))

-- ---- refused

abbrev dictionary_second_bytes : List ℕ
dictionary_second_bytes =
    hex (codes "504152311500151015102C1502150015061506000007000000000000001504151015104C15021500000007000000000000001500151015102C1502150015061506") ++
    hex (codes "00000700000000000000") ++
    hex (codes "292C350018015415020015042500180161001604191C191C3C150435001604268E012608000026040000") ++
    hex (codes "2A00000050415231")

-- a dictionary page behind a data page
pub dictionary_second : Refused dictionary_second_bytes bad_data
unfolding footer_of read_struct page_triplets hybrid
dictionary_second = known_cause_holds dictionary_second_bytes one_schema one_leaf bad_data refl

abbrev dictionary_behind_index_bytes : List ℕ
dictionary_behind_index_bytes =
    hex (codes "50415231150215001500001504151015104C15021500000007000000000000001500151015102C150215001506150600000700000000000000") ++
    hex (codes "292C350018015415020015042500180161001602191C191C3C150435001602266A2608000026020000") ++
    hex (codes "2900000050415231")

-- a dictionary page behind an index page
pub dictionary_behind_index : Refused dictionary_behind_index_bytes bad_data
unfolding footer_of read_struct page_triplets hybrid
dictionary_behind_index = known_cause_holds dictionary_behind_index_bytes one_schema one_leaf bad_data refl

abbrev two_dictionaries_bytes : List ℕ
two_dictionaries_bytes =
    hex (codes "504152311504151015104C15021500000007000000000000001504151015104C15021500000007000000000000001500151015102C150215001506150600000700") ++
    hex (codes "000000000000") ++
    hex (codes "292C350018015415020015042500180161001602191C191C3C1504350016022686012608000026020000") ++
    hex (codes "2A00000050415231")

-- two dictionary pages
pub two_dictionaries : Refused two_dictionaries_bytes bad_data
unfolding footer_of read_struct page_triplets hybrid
two_dictionaries = known_cause_holds two_dictionaries_bytes one_schema one_leaf bad_data refl

abbrev no_dictionary_bytes : List ℕ
no_dictionary_bytes =
    hex (codes "504152311500150415042C150215101506150600000002") ++
    hex (codes "292C350018015415020015042500180161001602191C191C3C15043500160226262608000026020000") ++
    hex (codes "2900000050415231")

-- values of a dictionary that there isn't
pub no_dictionary : Refused no_dictionary_bytes bad_data
unfolding footer_of read_struct page_triplets hybrid
no_dictionary = known_cause_holds no_dictionary_bytes one_schema one_leaf bad_data refl

abbrev other_dictionary_encoding_bytes : List ℕ
other_dictionary_encoding_bytes =
    hex (codes "504152311504151015104C15021510000007000000000000001500150415042C150215101506150600000002") ++
    hex (codes "292C350018015415020015042500180161001602191C191C3C15043500160226502608000026020000") ++
    hex (codes "2900000050415231")

-- a dictionary page of the encoding RLE_DICTIONARY 8
pub other_dictionary_encoding : Refused other_dictionary_encoding_bytes bad_data
unfolding footer_of read_struct page_triplets hybrid
other_dictionary_encoding = known_cause_holds other_dictionary_encoding_bytes one_schema one_leaf bad_data refl

abbrev short_dictionary_bytes : List ℕ
short_dictionary_bytes =
    hex (codes "504152311504151015104C15041500000007000000000000001500151015102C150215001506150600000700000000000000") ++
    hex (codes "292C350018015415020015042500180161001602191C191C3C150435001602265C2608000026020000") ++
    hex (codes "2900000050415231")

-- a dictionary page of two values that has the bytes of one
pub short_dictionary : Refused short_dictionary_bytes bad_data
unfolding footer_of read_struct page_triplets hybrid
short_dictionary = known_cause_holds short_dictionary_bytes one_schema one_leaf bad_data refl

abbrev data_page_without_header_bytes : List ℕ
data_page_without_header_bytes =
    hex (codes "504152311500151015105C15021500150215001500150000000700000000000000") ++
    hex (codes "292C350018015415020015042500180161001602191C191C3C150435001602263A2608000026020000") ++
    hex (codes "2900000050415231")

-- a data page with a V2 header alone
pub data_page_without_header : Refused data_page_without_header_bytes bad_data
unfolding footer_of read_struct page_triplets hybrid
data_page_without_header = known_cause_holds data_page_without_header_bytes one_schema one_leaf bad_data refl

abbrev dictionary_without_header_bytes : List ℕ
dictionary_without_header_bytes =
    hex (codes "504152311504151015102C1502150015061506000007000000000000001500151015102C150215001506150600000700000000000000") ++
    hex (codes "292C350018015415020015042500180161001602191C191C3C15043500160226642608000026020000") ++
    hex (codes "2900000050415231")

-- a dictionary page with a data page's header alone
pub dictionary_without_header : Refused dictionary_without_header_bytes bad_data
unfolding footer_of read_struct page_triplets hybrid
dictionary_without_header = known_cause_holds dictionary_without_header_bytes one_schema one_leaf bad_data refl

abbrev page_past_values_bytes : List ℕ
page_past_values_bytes =
    hex (codes "504152311500151015102C1502150015061506000007000000000000001500152015202C1504150015061506000008000000000000000900000000000000") ++
    hex (codes "292C350018015415020015042500180161001604191C191C3C15043500160426742608000026040000") ++
    hex (codes "2900000050415231")

-- a page that goes past the chunk's number of values
pub page_past_values : Refused page_past_values_bytes bad_data
unfolding footer_of read_struct page_triplets hybrid
page_past_values = known_cause_holds page_past_values_bytes one_schema one_leaf bad_data refl

abbrev rows_of_groups_bytes : List ℕ
rows_of_groups_bytes =
    hex (codes "504152311500152015202C1504150015061506000007000000000000000800000000000000") ++
    hex (codes "292C350018015415020015042500180161001602191C191C3C15043500160426422608000026020000") ++
    hex (codes "2900000050415231")

-- a chunk of two values in one row
pub rows_of_groups : Refused rows_of_groups_bytes bad_data
unfolding footer_of read_struct page_triplets hybrid
rows_of_groups = known_cause_holds rows_of_groups_bytes one_schema one_leaf bad_data refl

abbrev chunk_in_other_file_bytes : List ℕ
chunk_in_other_file_bytes =
    hex (codes "504152311500152015202C1504150015061506000007000000000000000800000000000000") ++
    hex (codes "292C350018015415020015042500180161001604191C191C1801782C15043500160426422608000026040000") ++
    hex (codes "2C00000050415231")

-- a chunk in another file
pub chunk_in_other_file : Refused chunk_in_other_file_bytes bad_footer
unfolding footer_of read_struct page_triplets hybrid
chunk_in_other_file = known_cause_holds chunk_in_other_file_bytes one_schema one_leaf bad_footer refl

abbrev empty_file_path_bytes : List ℕ
empty_file_path_bytes =
    hex (codes "504152311500152015202C1504150015061506000007000000000000000800000000000000") ++
    hex (codes "292C350018015415020015042500180161001604191C191C18002C15043500160426422608000026040000") ++
    hex (codes "2B00000050415231")

-- also where its path is empty
pub empty_file_path : Refused empty_file_path_bytes bad_footer
unfolding footer_of read_struct page_triplets hybrid
empty_file_path = known_cause_holds empty_file_path_bytes one_schema one_leaf bad_footer refl

abbrev chunk_past_footer_bytes : List ℕ
chunk_past_footer_bytes =
    hex (codes "504152311500152015202C1504150015061506000007000000000000000800000000000000") ++
    hex (codes "292C350018015415020015042500180161001604191C191C3C15043500160426442608000026040000") ++
    hex (codes "2900000050415231")

-- a chunk that reaches a byte into the footer
pub chunk_past_footer : Refused chunk_past_footer_bytes bad_data
unfolding footer_of read_struct page_triplets hybrid
chunk_past_footer = known_cause_holds chunk_past_footer_bytes one_schema one_leaf bad_data refl

abbrev chunk_in_magic_bytes : List ℕ
chunk_in_magic_bytes =
    hex (codes "5041523105020025202C1504150015061506000007000000000000000800000000000000") ++
    hex (codes "292C350018015415020015042500180161001604191C191C3C15043500160426422606000026040000") ++
    hex (codes "2900000050415231")

-- a chunk that begins with the magic's last byte, which a page header could have: it spells a truth value in field 3, and the last of two with one id counts
pub chunk_in_magic : Refused chunk_in_magic_bytes bad_data
unfolding footer_of read_struct page_triplets hybrid
chunk_in_magic = known_cause_holds chunk_in_magic_bytes one_schema one_leaf bad_data refl

abbrev footer_in_magic_bytes : List ℕ
footer_in_magic_bytes = hex (codes "50415231 09042C48015415020015042500180161001600190C00 17000000 50415231")

-- a footer that begins with the magic's last byte, alike
pub footer_in_magic : Refused footer_in_magic_bytes bad_footer
unfolding footer_of read_struct page_triplets hybrid
footer_in_magic = known_cause_holds footer_in_magic_bytes one_schema one_leaf bad_footer refl

abbrev group_without_chunk_bytes : List ℕ
group_without_chunk_bytes =
    hex (codes "504152311500151015102C150215001506150600000700000000000000") ++
    hex (codes "292C350018015415020015042500180161001602192C191C3C150435001602263226080000260200190C26000000") ++
    hex (codes "2E00000050415231")

-- a row group without a chunk for the leaf
pub group_without_chunk : Refused group_without_chunk_bytes bad_footer
unfolding footer_of read_struct page_triplets hybrid
group_without_chunk = known_cause_holds group_without_chunk_bytes one_schema one_leaf bad_footer refl

abbrev no_elements_bytes : List ℕ
no_elements_bytes =
    hex (codes "50415231") ++
    hex (codes "290C1600190C00") ++
    hex (codes "0700000050415231")

-- no schema element
pub no_elements : Refused no_elements_bytes bad_footer
unfolding footer_of read_struct page_triplets hybrid
no_elements = known_cause_holds no_elements_bytes one_schema one_leaf bad_footer refl

abbrev root_with_type_bytes : List ℕ
root_with_type_bytes =
    hex (codes "50415231") ++
    hex (codes "292C150438015415020015042500180161001600190C00") ++
    hex (codes "1700000050415231")

-- a root that has a type
pub root_with_type : Refused root_with_type_bytes bad_footer
unfolding footer_of read_struct page_triplets hybrid
root_with_type = known_cause_holds root_with_type_bytes one_schema one_leaf bad_footer refl

abbrev root_without_children_bytes : List ℕ
root_without_children_bytes =
    hex (codes "50415231") ++
    hex (codes "292C4801540015042500180161001600190C00") ++
    hex (codes "1300000050415231")

-- a root without a number of children
pub root_without_children : Refused root_without_children_bytes bad_footer
unfolding footer_of read_struct page_triplets hybrid
root_without_children = known_cause_holds root_without_children_bytes one_schema one_leaf bad_footer refl

abbrev element_left_bytes : List ℕ
element_left_bytes =
    hex (codes "50415231") ++
    hex (codes "293C480154150200150425001801610015042500180161001600190C00") ++
    hex (codes "1D00000050415231")

-- an element left over
pub element_left : Refused element_left_bytes bad_footer
unfolding footer_of read_struct page_triplets hybrid
element_left = known_cause_holds element_left_bytes one_schema one_leaf bad_footer refl

abbrev child_missing_bytes : List ℕ
child_missing_bytes =
    hex (codes "50415231") ++
    hex (codes "292C48015415040015042500180161001600190C00") ++
    hex (codes "1500000050415231")

-- a child that isn't there
pub child_missing : Refused child_missing_bytes bad_footer
unfolding footer_of read_struct page_triplets hybrid
child_missing = known_cause_holds child_missing_bytes one_schema one_leaf bad_footer refl

abbrev no_repetition_bytes : List ℕ
no_repetition_bytes =
    hex (codes "50415231") ++
    hex (codes "292C4801541502001504380161001600190C00") ++
    hex (codes "1300000050415231")

-- an element without a repetition
pub no_repetition : Refused no_repetition_bytes bad_footer
unfolding footer_of read_struct page_triplets hybrid
no_repetition = known_cause_holds no_repetition_bytes one_schema one_leaf bad_footer refl

abbrev group_without_children_bytes : List ℕ
group_without_children_bytes =
    hex (codes "50415231") ++
    hex (codes "292C4801541502003500180161001600190C00") ++
    hex (codes "1300000050415231")

-- an element without type and number of children
pub group_without_children : Refused group_without_children_bytes bad_footer
unfolding footer_of read_struct page_triplets hybrid
group_without_children = known_cause_holds group_without_children_bytes one_schema one_leaf bad_footer refl

abbrev repetition_3_bytes : List ℕ
repetition_3_bytes =
    hex (codes "50415231") ++
    hex (codes "292C48015415020015042506180161001600190C00") ++
    hex (codes "1500000050415231")

-- the repetition 3
pub repetition_3 : Refused repetition_3_bytes bad_footer
unfolding footer_of read_struct page_triplets hybrid
repetition_3 = known_cause_holds repetition_3_bytes one_schema one_leaf bad_footer refl

abbrev other_names_bytes : List ℕ
other_names_bytes =
    hex (codes "50415231") ++
    hex (codes "292C48015415020015042500180162001600190C00") ++
    hex (codes "1500000050415231")

-- another name
pub other_names : Refused other_names_bytes bad_schema
unfolding footer_of read_struct page_triplets hybrid
other_names = known_cause_holds other_names_bytes one_schema one_leaf bad_schema refl

abbrev optional_leaf_bytes : List ℕ
optional_leaf_bytes =
    hex (codes "50415231") ++
    hex (codes "292C48015415020015042502180161001600190C00") ++
    hex (codes "1500000050415231")

-- an optional leaf
pub optional_leaf : Refused optional_leaf_bytes bad_schema
unfolding footer_of read_struct page_triplets hybrid
optional_leaf = known_cause_holds optional_leaf_bytes one_schema one_leaf bad_schema refl

abbrev repeated_leaf_bytes : List ℕ
repeated_leaf_bytes =
    hex (codes "50415231") ++
    hex (codes "292C48015415020015042504180161001600190C00") ++
    hex (codes "1500000050415231")

-- a repeated leaf
pub repeated_leaf : Refused repeated_leaf_bytes bad_schema
unfolding footer_of read_struct page_triplets hybrid
repeated_leaf = known_cause_holds repeated_leaf_bytes one_schema one_leaf bad_schema refl

abbrev a_group_bytes : List ℕ
a_group_bytes =
    hex (codes "50415231") ++
    hex (codes "293C480154150200350018016115020015042500180161001600190C00") ++
    hex (codes "1D00000050415231")

-- a group of the name
pub a_group : Refused a_group_bytes bad_schema
unfolding footer_of read_struct page_triplets hybrid
a_group = known_cause_holds a_group_bytes one_schema one_leaf bad_schema refl

abbrev int96_bytes : List ℕ
int96_bytes =
    hex (codes "50415231") ++
    hex (codes "292C48015415020015062500180161001600190C00") ++
    hex (codes "1500000050415231")

-- the type INT96 3
pub int96 : Refused int96_bytes bad_schema
unfolding footer_of read_struct page_triplets hybrid
int96 = known_cause_holds int96_bytes one_schema one_leaf bad_schema refl

abbrev rows_without_groups_bytes : List ℕ
rows_without_groups_bytes =
    hex (codes "50415231") ++
    hex (codes "292C48015415020015042500180161001602190C00") ++
    hex (codes "1500000050415231")

-- a row, and no row group
pub rows_without_groups : Refused rows_without_groups_bytes bad_data
unfolding footer_of read_struct page_triplets hybrid
rows_without_groups = known_cause_holds rows_without_groups_bytes one_schema one_leaf bad_data refl
