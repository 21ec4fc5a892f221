-- What a link may be asked for of tablets, by computation.
use Rattle.std.specs.Prelude.{◌≡◌, ℕ, List, [], ◌∷◌, ◌++◌, true, false, if◌then◌else◌, Option, Some, None, bytes_eq, codes, refl}
use Rattle.dr_formats.specs.Compact.{read_struct}
use Rattle.dr_formats.specs.File.{footer_of}
use Rattle.dr_outside.specs.Link.{Files, Request, size_of, bytes_of}
use Rattle.dr_reading.specs.Scan.{Copy}
use Rattle.dr_file.specs.Asking.{is_for_path}
use Rattle.dr_scan.specs.Asked.{is_for_tablets, is_at_tablets}

-- at `a/1` a file without metadata, of twelve bytes; nothing at any other path
abbrev smallest : List ℕ
smallest = codes "PAR1" ++ 0 ∷ 0 ∷ 0 ∷ 0 ∷ codes "PAR1"

abbrev files : Files
files path = if bytes_eq path (codes "a/1") then Some smallest else None

abbrev copy : List ℕ → Copy
copy path = record { directory = 0; path = path }

-- two tablets, the first of two copies
abbrev tablets : List (List Copy)
tablets = (copy (codes "b/0") ∷ copy (codes "a/1") ∷ []) ∷ (copy (codes "b/2") ∷ []) ∷ []

abbrev bytes : List ℕ → ℕ → ℕ → Request
bytes path start len = bytes_of (record { path = path; start = start; len = len })

-- the size of each copy of each tablet, and of nothing else
pub size_of_a_copy : is_for_tablets [] tablets files (size_of (codes "a/1")) ≡ true
size_of_a_copy = refl

pub size_of_another_tablet : is_for_tablets [] tablets files (size_of (codes "b/2")) ≡ true
size_of_another_tablet = refl

pub size_elsewhere : is_for_tablets [] tablets files (size_of (codes "a/2")) ≡ false
size_elsewhere = refl

-- of a file its two ends, and what lies in them
pub front : is_for_tablets [] tablets files (bytes (codes "a/1") 0 4) ≡ true
front = refl

pub end : is_for_tablets [] tablets files (bytes (codes "a/1") 4 8) ≡ true
end = refl

pub within_the_end : is_for_tablets [] tablets files (bytes (codes "a/1") 5 2) ≡ true
within_the_end = refl

pub past_the_front : is_for_tablets [] tablets files (bytes (codes "a/1") 0 5) ≡ false
unfolding footer_of read_struct
past_the_front = refl

pub whole_file : is_for_tablets [] tablets files (bytes (codes "a/1") 0 12) ≡ false
unfolding footer_of read_struct
whole_file = refl

-- no bytes where nothing is held, and none elsewhere
pub absent : is_for_tablets [] tablets files (bytes (codes "b/0") 0 4) ≡ false
absent = refl

pub elsewhere : is_for_tablets [] tablets files (bytes (codes "a/2") 0 4) ≡ false
elsewhere = refl

-- of no tablets nothing
pub no_tablets : is_for_tablets [] [] files (size_of (codes "a/1")) ≡ false
no_tablets = refl

-- ---- by the path alone

-- the size, and any bytes
pub size_there : is_for_path (codes "a/1") (size_of (codes "a/1")) ≡ true
size_there = refl

pub bytes_there : is_for_path (codes "a/1") (bytes (codes "a/1") 7 9) ≡ true
bytes_there = refl

-- of another path neither, nor of one that begins or ends alike
pub size_of_another : is_for_path (codes "a/1") (size_of (codes "b/0")) ≡ false
size_of_another = refl

pub bytes_of_another : is_for_path (codes "a/1") (bytes (codes "b/0") 0 4) ≡ false
bytes_of_another = refl

pub size_of_a_longer : is_for_path (codes "a/1") (size_of (codes "a/11")) ≡ false
size_of_a_longer = refl

pub bytes_of_a_shorter : is_for_path (codes "a/1") (bytes (codes "/1") 0 4) ≡ false
bytes_of_a_shorter = refl

-- at each copy of each tablet, its size and any bytes
pub size_at_a_copy : is_at_tablets tablets (size_of (codes "b/0")) ≡ true
size_at_a_copy = refl

pub bytes_at_the_second_copy : is_at_tablets tablets (bytes (codes "a/1") 0 12) ≡ true
bytes_at_the_second_copy = refl

pub bytes_at_the_second_tablet : is_at_tablets tablets (bytes (codes "b/2") 5 1) ≡ true
bytes_at_the_second_tablet = refl

-- and nowhere else
pub size_at_none : is_at_tablets tablets (size_of (codes "a/2")) ≡ false
size_at_none = refl

pub bytes_at_none : is_at_tablets tablets (bytes (codes "a/2") 0 4) ≡ false
bytes_at_none = refl

pub at_no_tablets : is_at_tablets [] (size_of (codes "a/1")) ≡ false
at_no_tablets = refl

pub at_no_copies : is_at_tablets ([] ∷ []) (size_of (codes "a/1")) ≡ false
at_no_copies = refl
