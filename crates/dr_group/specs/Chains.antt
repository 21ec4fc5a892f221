-- Chains of numbers, one for each bucket of hashes. A head, and the next of a number, is one more than a number, or 0 at the end of a chain.
use Rattle.std.specs.Prelude.{◌≡◌, ◌<◌, ◌≤◌, ◌+◌, ◌%◌, ℕ, zero, suc, List, map, length, get_or, Bool, true, false}
use Rattle.dr_group.specs.declared.index.Link.{Link}

-- of the numbers before n: each is not behind the head of its bucket, and none of its bucket is skipped; chains go down, and stay in one bucket
abbrev pub AreChained : ℕ → (ℕ → ℕ) → (ℕ → ℕ) → (ℕ → ℕ) → Type 0
AreChained n bucket head next =
    ((j : ℕ) → j < n → j < head (bucket j))
    × ((i j : ℕ) → i < n → j < i → bucket j ≡ bucket i → j < next i)
    × ((i : ℕ) → i < n → next i ≤ i)
    × ((b : ℕ) → head b ≤ n)
    × ((b j : ℕ) → head b ≡ j + 1 → bucket j ≡ b)
    × ((i j : ℕ) → i < n → next i ≡ j + 1 → bucket j ≡ bucket i)

-- where there is none
abbrev pub no_link : Link
no_link = record { hash = 0; next = 0; depth = 0 }

abbrev pub link_at : List Link → ℕ → Link
link_at links i = get_or links i no_link

-- the bucket of a hash
abbrev pub bucket_of : List ℕ → ℕ → ℕ
bucket_of heads hash = hash % length heads

-- that of the number i
abbrev pub bucket_at : List ℕ → List Link → ℕ → ℕ
bucket_at heads links i = bucket_of heads (link_at links i).hash

abbrev pub head_of : List ℕ → ℕ → ℕ
head_of heads b = get_or heads b 0

abbrev pub next_at : List Link → ℕ → ℕ
next_at links i = (link_at links i).next

-- from the hash of each number the chain of its bucket leads to it
abbrev pub AreLinked : List ℕ → List Link → Type 0
AreLinked heads links = AreChained (length links) (bucket_at heads links) (head_of heads) (next_at links)

-- ---- chains are short

-- how many numbers a chain has at most
abbrev pub most_linked : ℕ
most_linked = 16

-- whether a chain ends within so many steps, from a head or from what is next of a number
abbrev pub ends_within : ℕ → List Link → ℕ → Bool
ends_within n links zero = true
ends_within zero links (suc i) = false
ends_within (suc n) links (suc i) = ends_within n links (next_at links i)

-- the depth of a number, which is at most the greatest: within so many steps its chain ends
abbrev pub depth_at : List Link → ℕ → ℕ
depth_at links i = (link_at links i).depth

-- that of a head or of what is next of a number: none at the end
abbrev pub depth_before : List Link → ℕ → ℕ
depth_before links zero = 0
depth_before links (suc i) = depth_at links i

abbrev pub AreShort : List Link → Type 0
AreShort links = (i : ℕ) → i < length links → (depth_at links i ≤ most_linked) × (ends_within (depth_at links i) links (suc i) ≡ true)

-- the hashes of all numbers
abbrev pub hashes_of : List Link → List ℕ
hashes_of links = map (λ (l : Link). l.hash) links
