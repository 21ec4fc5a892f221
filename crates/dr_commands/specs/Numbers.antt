-- Numbers that options have.
use Rattle.std.specs.Prelude.{ℕ}

-- how many records a tablet gets where the words don't say it
abbrev pub default_rows : ℕ
default_rows = 100000

-- the latest version of data pages that are written
abbrev pub latest_pages : ℕ
latest_pages = 2

-- how many children a server of a serving tree has at most: between these bounds, and where the words don't say it
abbrev pub least_fan : ℕ
least_fan = 2

abbrev pub most_fan : ℕ
most_fan = 64

abbrev pub default_fan : ℕ
default_fan = 8

-- how many workers there are: at most so many, and where the words don't say it
abbrev pub most_workers : ℕ
most_workers = 16

abbrev pub default_workers : ℕ
default_workers = 4

-- after how many events a tablet is handed out once more: at most so many, and where the words don't say it
abbrev pub most_lag : ℕ
most_lag = 1000000

abbrev pub default_lag : ℕ
default_lag = 64

-- which share of all tablets is enough, in hundredths: at most so many, and where the words don't say it
abbrev pub most_share : ℕ
most_share = 100

abbrev pub default_share : ℕ
default_share = 100

-- the greatest seed of made records, and how many there are at most
abbrev pub most_seed : ℕ
most_seed = 1000000000

abbrev pub most_made : ℕ
most_made = 10000000
