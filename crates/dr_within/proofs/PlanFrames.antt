-- What is made along the walk of records with a plan's condition, watched in parts, is made with its tests, watched as one.
use Rattle.std.proofs.Common.{◌≡◌, ℕ, List, true, Some, ap, ◌∙◌}
use Rattle.std.specs.List.{list_all}
use Rattle.dr_meaning.specs.Schema.{Schema}
use Rattle.dr_meaning.specs.Path.{paths_of_leaves}
use Rattle.dr_meaning.specs.Record.{Node, is_record}
use Rattle.dr_meaning.specs.Query.{Query}
use Rattle.dr_meaning.specs.Walk.{walk}
use Rattle.dr_moves.specs.Context.{Context}
use Rattle.dr_moves.specs.Condition.{Watch}
use Rattle.dr_kept_laws.specs.Frames.{frame_moves}
use Rattle.dr_kept_laws.specs.Telling.{nothing_read}
use Rattle.dr_made_laws.specs.FramesPartial.{no_frames}
use Rattle.dr_plan.specs.Planned.{plan_leaves}
use Rattle.dr_plan.specs.PlanOf.{IsPlanOf}
use Rattle.dr_plan.specs.declared.plan.Plan.{Plan}
use Rattle.dr_scalar.specs.Leaves.{greatest, tests_leaves}
use Rattle.dr_condition.specs.Parted.{reading, lasts_read, constants_hold, watch_parts}
use Rattle.dr_condition.proofs.PlanCondition.{watch_tests}
use Rattle.dr_condition.proofs.PlanParts.{same_watch, plan_parts_tell}
use Rattle.dr_within.specs.FramedMoves.{framed_behind}
use Rattle.dr_within.proofs.FramedLemmas.{framed_watched}

pub watched_frames : {A : Type 0} (seen : ℕ → Context → List A) (left : ℕ → Context → List A → List A)
    → (s : Schema) (q : Query) (p : Plan) → IsPlanOf s q p → (last : ℕ) → greatest (tests_leaves p.test.items) ≡ Some last → (chain : List ℕ)
    → constants_hold p.test.items ≡ true → (R : List Node) → list_all (is_record s.fields) R ≡ true
    → (let ms = walk s.fields (paths_of_leaves (plan_leaves p)) R in
    framed_behind seen left (Some (watch_parts chain last (reading p.test.items) (lasts_read p.test.items))) ms
    ≡ frame_moves seen left (watch_tests chain last p.test.items) nothing_read ms no_frames)
watched_frames seen left s q p h last g chain b R r =
    let ms = walk s.fields (paths_of_leaves (plan_leaves p)) R in
    framed_watched seen left (watch_parts chain last (reading p.test.items) (lasts_read p.test.items)) ms (plan_parts_tell s q p h chain last g R r)
    ∙ ap (λ (w : Watch). frame_moves seen left w nothing_read ms no_frames) (same_watch chain last p.test.items b)
