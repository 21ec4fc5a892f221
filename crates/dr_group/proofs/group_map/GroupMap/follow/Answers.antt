use Rattle.std.proofs.Common.{◌≡◌, ◌<◌, ◌-◌, ap, sym, refl, map, length, arith}
use Rattle.dr_group.specs.Views.{lent_cell}
use Rattle.dr_group.specs.Groups.{group_at}
use Rattle.dr_group.specs.Chains.{bucket_of, next_at, hashes_of}
use Rattle.dr_group.specs.Distinct.{group_hashes}
use Rattle.dr_group.specs.declared.index.Link.{Link}
use Rattle.dr_group.proofs.FindLemmas.{link_there, other_group, other_hash, way_begins, way_further, way_ends}
use Rattle.dr_group.proofs.HeldLemmas.{indexed_all}
use Rattle.dr_group.proofs.group_map.GroupMap.follow.Goals.{else-link-hash-via-then-link-hash+else-has_key, else-link-hash-via-else-link-hash}
use Rattle.dr_group.proofs.group_map.GroupMap.follow.Goals as goal

pub chain-init : goal.chain-init
chain-init c =
    let s = c.args.self.now in
    let gs = s.groups.items in
    let heads = s.index.heads.items in
    let links = s.index.links.items in
    way_begins (map lent_cell c.args.key.now) gs heads links c.args.hash (bucket_of heads c.args.hash) c.args.head s.index.linked (indexed_all links gs c.requires.ready.1 s.indexed) c.requires.ready.1 c.requires.hash refl c.requires.head

pub chain-smaller : goal.chain-smaller
chain-smaller c =
    let s = c.args.self.now in
    let links = s.index.links.items in
    let i = c.chain.rest - 1 in
    let below : i < length links = omega (arith, c.chain.invariant.within, c.chain-test.true) in
    let next : c.index-link.result.now.next ≡ next_at links i = ap (λ (l : Link). l.next) (sym (link_there links i c.index-link.result.now below c.index-link.ensures)) in
    omega (arith, next, s.index.linked.2 i below, c.chain-test.true)

pub chain-preserved : goal.chain-preserved
chain-preserved c =
    let s = c.args.self.now in
    let t = map lent_cell c.args.key.now in
    let gs = s.groups.items in
    let heads = s.index.heads.items in
    let links = s.index.links.items in
    let i = c.chain.rest - 1 in
    let link = c.index-link.result.now in
    let indexed : hashes_of links ≡ group_hashes gs = indexed_all links gs c.requires.ready.1 s.indexed in
    let below : i < length links = omega (arith, c.chain.invariant.within, c.chain-test.true) in
    let held : i < length gs = omega (arith, below, c.requires.ready.1) in
    let next : link.next ≡ next_at links i = ap (λ (l : Link). l.next) (sym (link_there links i link below c.index-link.ensures)) in
    let other : (group_at gs i).keys ≡ t → ⊥ = elim c.else-link-hash.branch [
      | else-link-hash-via-then-link-hash+else-has_key w ↦ other_group t gs i w.index.result.now held w.index.ensures (w.has_key.ensures.no w.if-has_key.false)
      | else-link-hash-via-else-link-hash w ↦ other_hash t gs links c.args.hash i link indexed c.requires.hash below c.index-link.ensures (λ same. omega (arith, same, w.if-link-hash.false))
    ] in
    way_further t gs heads links c.args.hash (bucket_of heads c.args.hash) c.chain.rest i link.next s.index.linked indexed c.requires.ready.1 c.requires.hash refl (omega (arith, c.chain-test.true)) next other c.chain.invariant

pub returns : goal.returns
returns c =
    let s = c.args.self.now in
    let heads = s.index.heads.items in
    way_ends (map lent_cell c.args.key.now) s.groups.items heads s.index.links.items (bucket_of heads c.args.hash) c.chain.rest (omega (arith, c.chain-test.false)) c.chain.invariant
