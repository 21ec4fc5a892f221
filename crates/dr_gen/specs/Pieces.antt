-- Lines in pieces, as they are put one behind another.
use Rattle.std.specs.Prelude.{ℕ, ◌+◌, List, [], ◌∷◌, ◌++◌, Bool, true, false, codes, decimal}
use Rattle.std.specs.List.{join_with_byte}
use Rattle.dr_meaning.specs.Schema.{group}
use Rattle.dr_meaning.specs.Record.{Instance}
use Rattle.dr_meaning.specs.Print.{atom_text, instance_texts, shape_text}
use Rattle.dr_gen.specs.Document.{language_fields, name_fields, links_fields}
use Rattle.dr_gen.specs.Generator.{several, number, links}

-- so many instances, separated by commas
abbrev pub several_text : (Instance → List ℕ) → ℕ → (ℕ → Instance) → List ℕ
several_text text n f = join_with_byte 44 (instance_texts text (several n f))

-- so many numbers, the first of which is this one
abbrev pub numbers_text : ℕ → ℕ → List ℕ
numbers_text first n = several_text atom_text n (λ j. number (first + j))

abbrev pub language_text : Instance → List ℕ
language_text = shape_text (group language_fields)

abbrev pub name_text : Instance → List ℕ
name_text = shape_text (group name_fields)

-- what stands behind a code, where there is a country
abbrev pub country_piece : Bool → ℕ → List ℕ
country_piece true n = codes "\",\"Country\":\"n" ++ decimal n
country_piece false n = []

-- what stands behind a name's languages, where it has an address
abbrev pub url_piece : Bool → ℕ → List ℕ
url_piece true n = codes ",\"Url\":\"http://u/" ++ (decimal n ++ 34 ∷ [])
url_piece false n = []

-- what stands behind a record's number, where it has links
abbrev pub links_piece : Bool → ℕ → List ℕ
links_piece true x = codes ",\"Links\":" ++ shape_text (group links_fields) (links x)
links_piece false x = []
