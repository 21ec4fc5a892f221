-- Faults of table texts, by computation: the lines before a fault, and the line that is wrong.
use Rattle.std.specs.Prelude.{◌≡◌, ℕ, List, [], ◌∷◌, ◌++◌, replicate, codes, refl}
use Rattle.std.proofs.Common.{ap, ◌∙◌, arith, inl, inr}
use Rattle.std.specs.Fmt.{digits}
use Rattle.std.specs.Str.{is_utf8, chars}
use Rattle.dr_meaning.specs.SchemaText.{parse_schema, empty_group}
use Rattle.dr_formats.specs.TableFile.{bad_head, bad_tablets, bad_copies, bad_leaf, bad_table_schema, parse_table, leaf_texts}
use Rattle.dr_formats.proofs.WorkedTables.{line}
use Rattle.dr_format_laws.specs.TableFaultLaws.{BeginsWith, IsLeafLine, IsSchemaLine, HasFault}
use Rattle.dr_format_laws.proofs.TableFaults.{table_fault_is_told, one_table_fault}

-- two tablets, two copies, and these lines behind
abbrev two : List ℕ → List ℕ
two behind = line (codes "dremel-table 1") (line (codes "tablets 2") (line (codes "copies 2") behind))

-- all lines are as they should be, but there is one leaf line for two copies
pub fewer_leaves : HasFault (two (line (codes "leaf a") (line (codes "schema") []))) bad_copies
unfolding digits is_utf8 chars lib.Utf8.encode
fewer_leaves = ((omega arith, refl), inr ([], 2, 1, (omega arith, (codes "a" ∷ [], refl, refl, omega arith, (omega arith, omega arith, (2, omega arith, omega arith, refl)))), omega arith))

abbrev first_byte : List ℕ → ℕ
first_byte [] = 0
first_byte (b ∷ bs) = b

-- one leaf line, and then neither another nor the line `schema`
pub other_line : HasFault (two (line (codes "leaf a") (line (codes "Leaf b") []))) (bad_leaf 1)
unfolding digits is_utf8 chars lib.Utf8.encode
other_line = ((omega arith, refl), line (codes "Leaf b") [], 2, (codes "a" ∷ [], refl, refl, omega arith, (omega arith, omega arith, (2, omega arith, omega arith, refl))), (λ n b. no_leaf b, λ n b. no_schema b))
  where
    no_leaf : BeginsWith IsLeafLine (line (codes "Leaf b") []) → ⊥
    no_leaf b = let e : 76 ≡ 108 = ap first_byte (b.2 ∙ ap (λ x. x ++ 10 ∷ b.1) b.3.1) in omega (arith, e)

    no_schema : BeginsWith IsSchemaLine (line (codes "Leaf b") []) → ⊥
    no_schema b = let e : 76 ≡ 115 = ap first_byte (b.2 ∙ ap (λ x. x ++ 10 ∷ b.1) b.3) in omega (arith, e)

-- the schema text's own fault
pub no_schema_fields : HasFault (two (line (codes "leaf a") (line (codes "leaf b") (line (codes "schema") (codes "message T { }"))))) (bad_table_schema (record { place = 12; problem = empty_group }))
unfolding digits parse_schema is_utf8 chars lib.Utf8.encode
no_schema_fields = ((omega arith, refl), codes "message T { }", 2, 2, (omega arith, (codes "a" ∷ codes "b" ∷ [], refl, refl, omega arith, (omega arith, omega arith, (2, omega arith, omega arith, refl)))), omega arith, refl)

-- of two wrong lines the first is the fault, and the only one
abbrev two_wrong : List ℕ
two_wrong = line (codes "dremel-table 1") (line (codes "tablets 0") (line (codes "copies 0") []))

pub first_wrong : HasFault two_wrong bad_tablets
unfolding parse_table is_utf8 chars lib.Utf8.encode
first_wrong = (table_fault_is_told two_wrong bad_tablets).0 refl

pub later_wrong : HasFault two_wrong bad_copies → ⊥
later_wrong h = let e = one_table_fault two_wrong bad_tablets bad_copies first_wrong h in cc

-- the 65th leaf line stands in the place of the line `schema`
abbrev many_leaves : List ℕ
many_leaves = two (leaf_texts (replicate 65 (codes "a")) [])

pub one_leaf_too_many : HasFault many_leaves (bad_leaf 64)
unfolding parse_table is_utf8 chars lib.Utf8.encode
one_leaf_too_many = (table_fault_is_told many_leaves (bad_leaf 64)).0 refl

-- a line that isn't ended is none; bytes that aren't UTF-8 are the head's fault, wherever they stand
pub unended_line : HasFault (codes "dremel-table 1") bad_head
unfolding parse_table is_utf8 chars lib.Utf8.encode
unended_line = (table_fault_is_told (codes "dremel-table 1") bad_head).0 refl

pub other_bytes : HasFault (line (codes "dremel-table 1") (255 ∷ [])) bad_head
unfolding is_utf8 chars lib.Utf8.encode
other_bytes = (omega arith, inl refl)
