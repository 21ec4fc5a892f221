-- A load of three records, two to a tablet, on two directories with two copies, in pages V2, by computation.
use Rattle.std.specs.Prelude.{◌≡◌, ℕ, ◌⊎◌, List, [], ◌∷◌, map, pos, Some, codes}
use Rattle.std.proofs.Common.{refl, inl, inr}
use Rattle.std.specs.Fmt.{digits}
use Rattle.dr_meaning.specs.Schema.{no_fields, field, leaf, required, int64_kind}
use Rattle.dr_meaning.specs.Record.{int_value, Node, no_slots, slot, atom, single}
use Rattle.dr_formats.specs.Page.{data_page_v2}
use Rattle.dr_formats.specs.Loading.{Plan, Put, whole_puts, table_of}
use Rattle.dr_formats.specs.TableFile.{table_text}
use Rattle.dr_formats.specs.Tablets.{tablets}
use Rattle.dr_formats.specs.Writing.{file_bytes}
use Rattle.dr_outside.specs.Link.{Files}
use Rattle.dr_reading.specs.Scan.{Copy, tablets_of}
use Rattle.dr_load.specs.Puts.{after_puts}
use Rattle.dr_load.specs.Given.{AreLinesOf, full_puts}

abbrev number : ℕ → Node
number n = slot (single (atom (int_value (pos n)))) no_slots

abbrev three_numbers : List Node
three_numbers = number 1 ∷ number 2 ∷ number 3 ∷ []

abbrev plan : Plan
plan = record {
  schema = record { name = codes "T"; fields = field (codes "n") required (leaf int64_kind) no_fields };
  directories = codes "a" ∷ codes "b" ∷ [];
  copies = 2;
  rows = 2;
  table = Some (codes "a/table");
  form = data_page_v2;
}

-- what is held before: the same at each path
abbrev before : Files
before path = Some (codes "old")

abbrev now : Files
now = after_puts (whole_puts plan (tablets 2 three_numbers)) before

-- each copy has its tablet's file, the table file is there, and another path has what it had
pub held_then : map now (codes "a/t000000.parquet" ∷ codes "b/t000000.parquet" ∷ codes "a/t000001.parquet" ∷ codes "b/t000001.parquet" ∷ codes "a/table" ∷ codes "a/t000002.parquet" ∷ [])
    ≡ Some (file_bytes data_page_v2 plan.schema (number 1 ∷ number 2 ∷ [])) ∷ Some (file_bytes data_page_v2 plan.schema (number 1 ∷ number 2 ∷ []))
    ∷ Some (file_bytes data_page_v2 plan.schema (number 3 ∷ [])) ∷ Some (file_bytes data_page_v2 plan.schema (number 3 ∷ []))
    ∷ Some (table_text (table_of plan 2)) ∷ Some (codes "old") ∷ []
unfolding digits
held_then = refl

-- the copies of the table are these, each tablet's first on the next directory
pub copies_then : map (map (λ (c : Copy). c.path)) (tablets_of (table_of plan 2))
    ≡ (codes "a/t000000.parquet" ∷ codes "b/t000000.parquet" ∷ []) ∷ (codes "b/t000001.parquet" ∷ codes "a/t000001.parquet" ∷ []) ∷ []
unfolding digits
copies_then = refl

-- where the source fails behind three records, the first two are put, on both directories; behind one record nothing; behind four both tablets, and no table file
abbrev paths : List Put → List (List ℕ)
paths ps = map (λ (p : Put). p.path) ps

pub full_then : (paths (full_puts plan three_numbers) ≡ codes "a/t000000.parquet" ∷ codes "b/t000000.parquet" ∷ [])
    × (full_puts plan (number 1 ∷ []) ≡ []) × (full_puts plan [] ≡ [])
    × (paths (full_puts plan (number 1 ∷ number 2 ∷ number 3 ∷ number 4 ∷ []))
    ≡ codes "a/t000000.parquet" ∷ codes "b/t000000.parquet" ∷ codes "b/t000001.parquet" ∷ codes "a/t000001.parquet" ∷ [])
    × (map (λ (p : Put). p.bytes) (full_puts plan three_numbers) ≡ file_bytes data_page_v2 plan.schema (number 1 ∷ number 2 ∷ []) ∷ file_bytes data_page_v2 plan.schema (number 1 ∷ number 2 ∷ []) ∷ [])
unfolding digits
full_then = (refl, refl, refl, refl, refl)

-- the lines that were given: whole ones alone, where more is left; at the input's end the last one may lack its LF
pub given_then : AreLinesOf (codes "a\nb\n") (codes "a\nb\nc") (codes "d") × AreLinesOf [] (codes "a") (codes "\n") × AreLinesOf (codes "a\nb\n") (codes "a\nb") []
given_then = (inl refl, inl refl, inr (refl, refl))

pub not_given_then : (AreLinesOf (codes "a\nc\n") (codes "a\nc") (codes "d") → ⊥) × (AreLinesOf (codes "a\n") (codes "a\nb\n") [] → ⊥)
not_given_then = (not_part, not_all)
  where
    not_part : AreLinesOf (codes "a\nc\n") (codes "a\nc") (codes "d") → ⊥
    not_part (inl e) = cc
    not_part (inr e) = let f = e.1 in cc

    not_all : AreLinesOf (codes "a\n") (codes "a\nb\n") [] → ⊥
    not_all (inl e) = cc
    not_all (inr e) = let f = e.0 in cc
