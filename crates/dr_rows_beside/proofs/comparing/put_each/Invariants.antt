use Rattle.std.proofs.Common.{◌≡◌, ◌+◌, ◌++◌, map, take, vec_len, vec_capacity}
use Rattle.std.specs.Ordering.{int_cmp}
use Rattle.dr_meaning.specs.Expression as meant
use Rattle.dr_rows_beside.proofs.comparing.put_each.Given as goal

-- those before this one are put
abbrev pub invariant-equal : goal.invariant-equal
invariant-equal l = record {
  put : l.out.items ≡ l.fn.out.items ++ map (λ x. meant.holds meant.equal (int_cmp x l.literal)) (take l.number-index l.numbers);
  many : vec_len l.out ≡ vec_len l.fn.out + l.number-index;
  room : vec_capacity l.out ≡ vec_capacity l.fn.out;
}

-- those before this one are put
abbrev pub invariant-unequal : goal.invariant-unequal
invariant-unequal l = record {
  put : l.out.items ≡ l.fn.out.items ++ map (λ x. meant.holds meant.unequal (int_cmp x l.literal)) (take l.number-index l.numbers);
  many : vec_len l.out ≡ vec_len l.fn.out + l.number-index;
  room : vec_capacity l.out ≡ vec_capacity l.fn.out;
}

-- those before this one are put
abbrev pub invariant-less : goal.invariant-less
invariant-less l = record {
  put : l.out.items ≡ l.fn.out.items ++ map (λ x. meant.holds meant.less (int_cmp x l.literal)) (take l.number-index l.numbers);
  many : vec_len l.out ≡ vec_len l.fn.out + l.number-index;
  room : vec_capacity l.out ≡ vec_capacity l.fn.out;
}

-- those before this one are put
abbrev pub invariant-at_most : goal.invariant-at_most
invariant-at_most l = record {
  put : l.out.items ≡ l.fn.out.items ++ map (λ x. meant.holds meant.at_most (int_cmp x l.literal)) (take l.number-index l.numbers);
  many : vec_len l.out ≡ vec_len l.fn.out + l.number-index;
  room : vec_capacity l.out ≡ vec_capacity l.fn.out;
}

-- those before this one are put
abbrev pub invariant-greater : goal.invariant-greater
invariant-greater l = record {
  put : l.out.items ≡ l.fn.out.items ++ map (λ x. meant.holds meant.greater (int_cmp x l.literal)) (take l.number-index l.numbers);
  many : vec_len l.out ≡ vec_len l.fn.out + l.number-index;
  room : vec_capacity l.out ≡ vec_capacity l.fn.out;
}

-- those before this one are put
abbrev pub invariant-at_least : goal.invariant-at_least
invariant-at_least l = record {
  put : l.out.items ≡ l.fn.out.items ++ map (λ x. meant.holds meant.at_least (int_cmp x l.literal)) (take l.number-index l.numbers);
  many : vec_len l.out ≡ vec_len l.fn.out + l.number-index;
  room : vec_capacity l.out ≡ vec_capacity l.fn.out;
}
