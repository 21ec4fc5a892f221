use Rattle.std.proofs.Common.{◌≡◌, ◌<◌, ◌+◌, ◌++◌, ◌∷◌, [], ℕ, suc, List, Option, None, length, map, take, drop, get_or, sym, ap, ap₂, ◌∙◌, append_assoc, add-one, arith}
use Rattle.std.specs.Prelude.{slice_set, option_map}
use Rattle.std.proofs.lemmas.List.{length-map, drop-map, drop_more}
use Rattle.dr_meaning.specs.Record.{Value}
use Rattle.dr_levels.specs.Views.{lent_value}
use Rattle.dr_levels.specs.declared.triplet.ValueRef.{ValueRef}
use Rattle.dr_within.specs.Rows.{last_value}
use Rattle.dr_within.proofs.CopyLemmas.{take_one_more}
use Rattle.dr_within.proofs.RowLemmas.{set_next}
use Rattle.dr_within.proofs.last_read.LastRead.keep.Goals as goal

-- a value or NULL that is lent
abbrev shown : Option ValueRef → Option Value
shown v = option_map lent_value v

pub slots-preserved : goal.slots-preserved
slots-preserved c =
    let k = c.slots.number in
    let slots = c.args.row.now.slots.items in
    let vs = map shown slots in
    let olds = map last_value c.args.self.now.values.items in
    let v = get_or slots k None in
    let within : k < length slots = omega (arith, c.slots-test.true, ap length c.deref-value-items.ensures.value) in
    let there : drop k vs ≡ shown v ∷ drop (k + 1) vs =
    drop-map shown k slots ∙ (ap (map shown) (drop_more slots k None within) ∙ ap (λ (xs : List (Option Value)). shown v ∷ xs) (sym (drop-map shown (k + 1) slots))) in
    let same : shown (get_or c.deref-value-items.result.now k None) ≡ shown v = ap (λ (xs : List (Option ValueRef)). shown (get_or xs k None)) c.deref-value-items.ensures.value in
    record {
      as_many = c.keep_at.ensures.as_many ∙ c.slots.invariant.as_many;
      placed = λ n.
          c.in_ok-keep_at.ensures.here (omega (arith, within, n, c.slots.invariant.as_many))
          ∙ (ap₂ (λ (xs : List (Option Value)) (y : Option Value). slice_set xs k y) (c.slots.invariant.placed n) same
          ∙ (set_next vs olds k (shown v) (length-map c.args.self.now.values.items last_value ∙ (n ∙ sym (length-map slots shown))) (omega (arith, within, length-map slots shown))
          ∙ (sym (append_assoc (take k vs) (shown v ∷ []) (drop (suc k) olds))
          ∙ ap₂ (λ (xs : List (Option Value)) (j : ℕ). xs ++ drop j olds) (sym (take_one_more k vs (shown v) (drop (k + 1) vs) there)) (sym (add-one k)))));
    }
