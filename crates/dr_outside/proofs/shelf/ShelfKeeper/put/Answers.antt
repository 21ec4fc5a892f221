use Rattle.std.proofs.Common.{◌∙◌, sym, string_bytes}
use Rattle.std.specs.BTreeMap.{get_by_text}
use Rattle.std.proofs.lemmas.Map.Text.{btree_map_updates_text}
use Rattle.dr_outside.proofs.ShelfLemmas.{bytes_stay, bytes_put, new_place, old_place, ends_reach}
use Rattle.dr_outside.proofs.shelf.ShelfKeeper.put.Goals as goal

pub invariant_of-self-2 : goal.invariant_of-self-2
invariant_of-self-2 c = record {
  placed = λ path.
      let moved = btree_map_updates_text (string_bytes c.in_ok-key.key) c.args.self.now.held c.insert.new.self _ c.in_ok-insert.ensures.updates path in
      ends_reach (get_by_text c.args.self.now.held) (string_bytes c.in_ok-key.key) path c.len.result c.push_reserved-2.new.self.items c.reserve.new.self.items c.args.self.now.puts.items _ _ moved
      c.push_reserved-2.ensures.items c.in_ok-reserve.ensures.items (c.len.ensures ∙ c.reserve.new.self.ok.0) (c.args.self.now.placed path);
}

pub returns-clause-placed : goal.returns-clause-placed
returns-clause-placed c =
    let moved = btree_map_updates_text (string_bytes c.in_ok-key.key) c.args.self.now.held c.insert.new.self _ c.in_ok-insert.ensures.updates c.args.path.now in
    bytes_put c.push_reserved-2.new.self.items c.reserve.new.self.items _ _ c.len.result c.args.bytes.now c.push_reserved-2.ensures.items
    (moved ∙ new_place (get_by_text c.args.self.now.held) (string_bytes c.in_ok-key.key) c.args.path.now c.len.result c.in_ok-key.ensures.ok) (c.len.ensures ∙ c.reserve.new.self.ok.0) c.in_ok-from_slice.ensures.items

pub returns-clause-others : goal.returns-clause-others
returns-clause-others c = λ other differs.
    let moved = btree_map_updates_text (string_bytes c.in_ok-key.key) c.args.self.now.held c.insert.new.self _ c.in_ok-insert.ensures.updates other in
    bytes_stay c.push_reserved-2.new.self.items c.reserve.new.self.items c.args.self.now.puts.items _ _ _ c.push_reserved-2.ensures.items c.in_ok-reserve.ensures.items
    (moved ∙ old_place (get_by_text c.args.self.now.held) (string_bytes c.in_ok-key.key) other c.len.result (λ e. differs (sym e ∙ c.in_ok-key.ensures.ok))) (c.args.self.now.placed other)
