use Rattle.std.proofs.Common.{rules, ◌≡◌, ◌+◌, ◌<◌, ap, sym, length, refl, ℕ, slice_set, arith}
use Rattle.std.proofs.lemmas.List.{get_or_read}
use Rattle.dr_group.specs.Chains.{bucket_of, head_of, depth_before, most_linked}
use Rattle.dr_group.specs.declared.index.Link.{Link}
use Rattle.dr_group.proofs.ChainLemmas.{linked_more, short_more}
use Rattle.dr_group.proofs.index.Index.push.Goals as goal

pub invariant_of-self-2 : goal.invariant_of-self-2
invariant_of-self-2 c =
    let s = c.args.self.now in
    let b = c.bucket-bucket.result in
    let head : c.in-Ok.head ≡ length s.links.items + 1 = search rules in
    let next : c.index-next.result.now ≡ head_of s.heads.items b = get_or_read s.heads.items _ _ c.bucket-bucket.ensures.within c.index-next.ensures 0 in
    let before : depth_before s.links.items (head_of s.heads.items (bucket_of s.heads.items c.args.hash)) ≡ depth_before s.links.items (head_of s.heads.items b) =
    ap (λ (i : ℕ). depth_before s.links.items (head_of s.heads.items i)) (sym c.bucket-bucket.ensures.bucket) in
    let d = c.depth-depth.result + 1 in
    let deep : d ≡ depth_before s.links.items (head_of s.heads.items b) + 1 = omega (arith, c.depth-depth.ensures, before) in
    let room : depth_before s.links.items (head_of s.heads.items b) < most_linked = omega (arith, c.requires.short, before) in
    record {
      linked = linked_more s.heads.items (slice_set s.heads.items b c.in-Ok.head) s.links.items c.push.new.self.items c.args.hash b c.in-Ok.head d (record { hash = c.args.hash; next = c.index-next.result.now; depth = d }) c.requires.heads c.bucket-bucket.ensures.bucket
          head refl (ap (λ (n : ℕ). let l : Link = record { hash = c.args.hash; next = n; depth = d } in l) next) c.in_ok-push.ensures.items s.linked;
      short = short_more s.links.items c.push.new.self.items (head_of s.heads.items b) d (record { hash = c.args.hash; next = c.index-next.result.now; depth = d }) s.linked.2 s.short (s.linked.3 b) room deep next refl c.in_ok-push.ensures.items;
    }
