-- Conditions that hold at a placement of the grid are met there.
use Rattle.std.proofs.Common.{◌≡◌, true, List, get_or, arith}
use Rattle.std.proofs.lemmas.List.Sums.{AllPass-from_list_all}
use Rattle.std.specs.List.{All, list_all}
use Rattle.gd_quat.proofs.Grid.{grid-rotation}
use Rattle.gd_quat.specs.Placements.{placement_of}
use Rattle.gd_quat.specs.declared.shape.Assignment.{Assignment}
use Rattle.gd_vec.specs.declared.vector.V3.{V3}
use Rattle.gd_zone.proofs.Meeting.{tests-are-sound}
use Rattle.gd_zone.specs.Boxes.{HoldsPlacement, placed_ends}
use Rattle.gd_zone.specs.Conditions.{IsCondition}
use Rattle.gd_zone.specs.Seen.{SubjectMet, subject_holds}
use Rattle.gd_zone.specs.declared.placed.Placed.{Placed}
use Rattle.gd_zone.specs.declared.subject.Subject.{Subject}

pub all-met : (b : Placed) (a : Assignment) (base : V3) (ss : List Subject) → HoldsPlacement b (placement_of a) → All (λ (s : Subject). IsCondition s.condition) ss
    → list_all (subject_holds (placed_ends b) base) ss ≡ true → All (SubjectMet (placement_of a) base) ss
all-met b a base ss held are h k d l =
    let s : Subject = get_or ss k d in
    tests-are-sound b (placement_of a) base s.index.now.table.now.rows s.condition (record { turn = grid-rotation a.face a.ratios; scale = omega arith }) held (are k d l)
    (AllPass-from_list_all (subject_holds (placed_ends b) base) ss h k d l)
