-- In a record a field that isn't repeated has at most one instance, at each step of a leaf's path.
use Rattle.std.proofs.Common.{◌≡◌, ℕ, zero, suc, ◌≤◌, List, [], ◌∷◌, ◌++◌, true, false, sym, subst, true≢false, arith}
use Rattle.std.proofs.lemmas.Bool.{and_parts, eqb-true, leb-true}
use Rattle.dr_meaning.specs.Schema.{Repetition, required, optional, repeated, Fields, no_fields, field, Shape, leaf, group, is_repeated}
use Rattle.dr_meaning.specs.Path.{Step, is_leaf_path, is_shape_path, same_repetition}
use Rattle.dr_meaning.specs.Record.{Node, no_slots, slot, gap, Instances, no_instances, instance, Instance, atom, inner, count_instances, fits_repetition, all_instances, is_record, is_instance, instances_at, instances_in}
use Rattle.dr_meaning.proofs.ProjectionLemmas.{step}
use Rattle.dr_meaning.proofs.Blocks.{EachInstance, same_repetition-true, and₃_parts}
use Rattle.dr_kept_laws.proofs.RowsOfKeptLemmas.{FewIn, FewOn}

pub few : (r : Repetition) (k : ℕ) → fits_repetition r k ≡ true → is_repeated r ≡ false → k ≤ 1
few required k h z = omega (arith, eqb-true _ _ h)
few optional k h z = leb-true _ _ h
few repeated k h z = absurd (true≢false z)

each_few : (h : Shape) (q : List Step) → ((x : Instance) → is_instance h x ≡ true → FewOn q x) → (xs : Instances) → all_instances (is_instance h) xs ≡ true → EachInstance (FewOn q) xs
each_few h q f no_instances e = tt
each_few h q f (instance x xs) e =
    let k : (is_instance h x ≡ true) × (all_instances (is_instance h) xs ≡ true) = and_parts _ _ e in
    (f x k.0, each_few h q f xs k.1)

mutual
  fields_few : (fs : Fields) (i : ℕ) (r : Repetition) (q : List Step) (n : Node) → is_leaf_path fs (step i r ∷ q) ≡ true → is_record fs n ≡ true → FewIn r (FewOn q) (instances_at i n)
  fields_few no_fields i r q n u v = absurd (true≢false (sym u))
  fields_few (field m e h fs) i r q no_slots u v = absurd (true≢false (sym v))
  fields_few (field m e h fs) i r q (gap n) u v = absurd (true≢false (sym v))
  fields_few (field m e h fs) zero r q (slot xs n) u v =
      let k : (fits_repetition e (count_instances xs) ≡ true) × (all_instances (is_instance h) xs ≡ true) × (is_record fs n ≡ true) = and₃_parts _ _ _ v in
      let g : (same_repetition r e ≡ true) × (is_shape_path h q ≡ true) = and_parts _ _ u in (
        few r (count_instances xs) (subst (λ (y : Repetition). fits_repetition y (count_instances xs) ≡ true) (sym (same_repetition-true r e g.0)) k.0),
        each_few h q (λ x w. shape_few h q x g.1 w) xs k.1,
      )
  fields_few (field m e h fs) (suc i) r q (slot xs n) u v = fields_few fs i r q n u (and₃_parts (fits_repetition e (count_instances xs)) (all_instances (is_instance h) xs) (is_record fs n) v).2

  shape_few : (h : Shape) (q : List Step) (x : Instance) → is_shape_path h q ≡ true → is_instance h x ≡ true → FewOn q x
  shape_few (leaf k) [] x u v = tt
  shape_few (leaf k) (s ∷ q) x u v = absurd (true≢false (sym u))
  shape_few (group fs) q (atom w) u v = absurd (true≢false (sym v))
  shape_few (group fs) [] (inner n) u v = tt
  shape_few (group fs) (s ∷ q) (inner n) u v = fields_few fs s.place s.repetition q n u v

pub record_few : (fs : Fields) (q : List Step) (n : Node) → is_leaf_path fs q ≡ true → is_record fs n ≡ true → FewOn q (inner n)
record_few fs q n u v = shape_few (group fs) q (inner n) u v

-- a path that leads on to another
few_before : (q below : List Step) (x : Instance) → FewOn (q ++ below) x → FewOn q x
few_before [] below x h = tt
few_before (s ∷ q) below x h = (h.0, each (instances_in s.place x) (few_before q below) h.1)
  where
    each : (xs : Instances) → ((y : Instance) → FewOn (q ++ below) y → FewOn q y) → EachInstance (FewOn (q ++ below)) xs → EachInstance (FewOn q) xs
    each no_instances f h = tt
    each (instance y ys) f h = (f y h.0, each ys f h.1)

pub front_few : (fs : Fields) (q below : List Step) (n : Node) → is_leaf_path fs (q ++ below) ≡ true → is_record fs n ≡ true → FewOn q (inner n)
front_few fs q below n u v = few_before q below (inner n) (record_few fs (q ++ below) n u v)
