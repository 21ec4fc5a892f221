-- Sizes as far as the machine's numbers go.
use Rattle.std.specs.Prelude.{ℕ, ◌-◌, ◌^◌, min, Option, Some, None}
use Rattle.dr_meaning.specs.Record.{Node, Instances, Instance, instance_count, instance_count_all}
use Rattle.dr_meaning.specs.Record.{instance_count_one, text_bytes, text_bytes_all, text_bytes_one}
use Rattle.dr_json.specs.declared.size.Size.{Size}

-- the number, or the greatest of 64 bits
abbrev pub capped : ℕ → ℕ
capped n = min n (2 ^ 64 - 1)

-- so many instances, and so many bytes of texts
abbrev pub size : ℕ → ℕ → Size
size n b = record { instances = capped n; text_bytes = capped b }

abbrev pub node_size : Node → Size
node_size n = size (instance_count n) (text_bytes n)

abbrev pub instances_size : Instances → Size
instances_size xs = size (instance_count_all xs) (text_bytes_all xs)

-- the size of what is in an instance
abbrev pub instance_size : Instance → Size
instance_size x = size (instance_count_one x) (text_bytes_one x)

-- a gap holds nothing
abbrev pub slot_size : Option Instances → Size
slot_size None = size 0 0
slot_size (Some xs) = instances_size xs
