-- Rows of columns side by side, by computation: a leaf that is read beside a deeper one.
use Rattle.std.specs.Prelude.{◌≡◌, ℕ, List, [], ◌∷◌, map, length, Bool, true, false, pos, Option, Some, None, is_some, codes, refl}
use Rattle.std.specs.List.{list_all, flat_map}
use Rattle.std.proofs.Common.{ap}
use Rattle.dr_meaning.specs.Record.{Value, int_value, text_value, Node, is_record}
use Rattle.dr_meaning.specs.Column.{Triplet, triplet, column}
use Rattle.dr_meaning.specs.Rows.{rows, value_at}
use Rattle.dr_meaning.specs.Expression.{Expression, evaluate, is_true, paths_of}
use Rattle.dr_meaning.proofs.WorkedSchemas.{document}
use Rattle.dr_meaning.proofs.WorkedRecords.{record_10, record_20, record_30}
use Rattle.dr_meaning.proofs.WorkedPaths.{doc_id, backward, name, language_level, code, country, url}
use Rattle.dr_beside.specs.Along.{along, RowsBeside}
use Rattle.dr_beside.specs.Feeding.{goes, GoesOnByEach, OwnValues}
use Rattle.dr_beside.specs.Spreading.{repetitions_of, spread_over, IsDecidedBy, AreOnChain, TestsBeside, ConditionsAreDecided}

abbrev both : List Node
both = record_10 ∷ record_20 ∷ []

abbrev word : List ℕ → Option Value
word t = Some (text_value t)

abbrev number : ℕ → Option Value
number n = Some (int_value (pos n))

-- ---- what was read last

-- the five languages of the two records, by their repetition levels 0 2 1 1 0, beside the four addresses: the first stands for two languages
pub addresses : along 1 None (column url both) (column code both) ≡ word (codes "http://A") ∷ word (codes "http://A") ∷ word (codes "http://B") ∷ None ∷ word (codes "http://C") ∷ []
addresses = refl

pub same_in_rows : map (value_at url) (flat_map (rows language_level) both) ≡ along 1 None (column url both) (column code both)
same_in_rows = refl

-- beside a leaf above all repeated fields, and beside one that is as deep
pub numbers_beside : along 0 None (column doc_id both) (column code both) ≡ number 10 ∷ number 10 ∷ number 10 ∷ number 10 ∷ number 20 ∷ []
numbers_beside = refl

pub countries : along 2 None (column country both) (column code both) ≡ word (codes "us") ∷ None ∷ None ∷ word (codes "gb") ∷ None ∷ []
countries = refl

-- where no value comes any more the last one stays
pub no_more : along 1 (number 5) [] (triplet 0 0 None ∷ triplet 1 0 None ∷ triplet 2 0 None ∷ []) ≡ number 5 ∷ number 5 ∷ number 5 ∷ []
no_more = refl

pub one_more : along 1 (number 5) (triplet 0 0 (number 6) ∷ []) (triplet 1 0 None ∷ triplet 0 0 None ∷ triplet 2 0 None ∷ []) ≡ number 6 ∷ number 6 ∷ number 6 ∷ []
one_more = refl

pub no_deeper : along 1 (number 5) (triplet 0 0 (number 6) ∷ []) [] ≡ []
no_deeper = refl

pub rows_said : RowsBeside → (R : List Node) → list_all (is_record document) R ≡ true → along 1 None (column url R) (column code R) ≡ map (value_at url) (flat_map (rows language_level) R)
rows_said law R ok = law document code url R refl refl refl ok

-- ---- how often it goes on

pub as_often : (goes 0 (column code both) ≡ 2) × (goes 1 (column code both) ≡ 4) × (goes 2 (column code both) ≡ 5) × (goes 0 (column backward both) ≡ 2) × (goes 1 [] ≡ 0)
as_often = (refl, refl, refl, refl, refl)

pub as_many : (length (column doc_id both) ≡ 2) × (length (column url both) ≡ 4) × (length (column country both) ≡ 5)
as_many = (refl, refl, refl)

pub often_said : GoesOnByEach → (R : List Node) → list_all (is_record document) R ≡ true → goes 1 (column code R) ≡ length (column url R)
often_said law R ok = law document code url R refl refl refl refl ok

pub own_said : OwnValues → (R : List Node) → list_all (is_record document) R ≡ true → map (λ (t : Triplet). t.value) (column url R) ≡ map (value_at url) (flat_map (rows name) R)
own_said law R ok = law document url R refl ok

-- ---- what holds in each row, at the rows below it

pub levels : repetitions_of (column code both) ≡ 0 ∷ 2 ∷ 1 ∷ 1 ∷ 0 ∷ []
levels = refl

pub spread_at_1 : spread_over {A = ℕ} 1 9 (1 ∷ 2 ∷ 3 ∷ 4 ∷ []) (0 ∷ 2 ∷ 1 ∷ 1 ∷ 0 ∷ []) ≡ 1 ∷ 1 ∷ 2 ∷ 3 ∷ 4 ∷ []
spread_at_1 = refl

pub spread_at_0 : spread_over {A = ℕ} 0 9 (1 ∷ 2 ∷ []) (0 ∷ 2 ∷ 1 ∷ 1 ∷ 0 ∷ []) ≡ 1 ∷ 1 ∷ 1 ∷ 1 ∷ 2 ∷ []
spread_at_0 = refl

-- before the first, and behind the last
pub spread_ends : (spread_over {A = ℕ} 1 9 (1 ∷ []) (2 ∷ 1 ∷ 2 ∷ 0 ∷ []) ≡ 9 ∷ 1 ∷ 1 ∷ 1 ∷ []) × (spread_over {A = ℕ} 1 9 [] (0 ∷ []) ≡ 9 ∷ []) × (spread_over {A = ℕ} 1 9 (1 ∷ []) [] ≡ [])
spread_ends = (refl, refl, refl)

-- whether there is an address
abbrev has_address : Node → Bool
has_address m = is_some (value_at url m)

pub has_address_decided : IsDecidedBy (url ∷ []) has_address
has_address_decided m n e = ap is_some e.0

-- two records without a backward link
pub decided_said : (test : Node → Bool) → IsDecidedBy (backward ∷ []) test → test record_10 ≡ test record_30
decided_said test d = d record_10 record_30 (refl, tt)

pub on_chain : AreOnChain document code (doc_id ∷ url ∷ country ∷ [])
on_chain = ((refl, refl), ((refl, refl), ((refl, refl), tt)))

pub tests_said : TestsBeside → (R : List Node) → list_all (is_record document) R ≡ true
    → spread_over 1 false (map has_address (flat_map (rows name) R)) (repetitions_of (column code R)) ≡ map has_address (flat_map (rows language_level) R)
tests_said law R ok = law document url code (url ∷ []) R has_address refl refl refl ((refl, refl), tt) has_address_decided ok

pub conditions_said : ConditionsAreDecided → (e : Expression) → IsDecidedBy (paths_of e) (λ (m : Node). is_true (evaluate e m))
conditions_said law e = law e
