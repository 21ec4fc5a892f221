-- What was put on a shelf.
use Rattle.std.specs.Prelude.{ℕ, ◌+◌, List, Some, None, string_bytes}
use Rattle.std.specs.Option.{option_map}
use Rattle.std.specs.declared.option.Option.{Option}
use Rattle.std.specs.List.{slice_get}
use Rattle.dr_outside.specs.declared.shelf.Put.{Put}
use Rattle.dr_outside.specs.Link.{PutShown}

-- a put, as the clauses of keepers write it
abbrev pub put_of : Put → PutShown
put_of p = record { path = string_bytes p.path; bytes = p.bytes.items }

-- the bytes of the put at a place, if there is a place
abbrev pub bytes_at : List Put → Option ℕ → Option (List ℕ)
bytes_at puts None = None
bytes_at puts (Some place) = option_map (λ (p : Put). p.bytes.items) (slice_get puts place)

-- how many puts reach to a place, with its own; none where there is no place
abbrev pub end_of : Option ℕ → ℕ
end_of None = 0
end_of (Some place) = place + 1
