-- Which requirements are judged together, so that one placement has to meet the conditions of all of them: the frames
-- of position and profile with the same datum words, one or more, in the same order and with the same modifiers, but
-- those that are separate. Every other requirement is judged by itself: a lower segment, an orientation, a runout, a
-- form, and a frame without a datum word.
use Rattle.std.specs.Prelude.{ℕ, Bool, false, List, [], ◌∷◌, Option, Some, None, nat_eq, slice_get, map, filter}
use Rattle.std.specs.Prelude.{length, cond}
use Rattle.std.specs.List.{range_with_len}
use Rattle.gd_frames.specs.Combinations.{passes}
use Rattle.gd_frames.specs.Counts.{is_joined, joins}
use Rattle.gd_group.specs.Requirements.{requirement}
use Rattle.gd_group.specs.declared.requirement.Part.{Part}
use Rattle.gd_group.specs.declared.requirement.Part.TheVariants as part
use Rattle.gd_group.specs.declared.requirement.Requirement.{Requirement}
use Rattle.gd_tables.specs.Kinds.{File, Frame}

-- a frame as a requirement, by its place in the file
abbrev pub whole : ℕ → Requirement
whole number = requirement number part.Whole

-- all frames as requirements
abbrev pub wholes : File → List Requirement
wholes file = map whole (range_with_len 0 (length file.frames))

-- the frames that are joined to a frame, itself among them: `joins` of gd_frames, by which the limits of groups count
abbrev pub is_partner : File → Frame → Requirement → Bool
is_partner file f q = passes (joins f) (slice_get file.frames q.frame)

abbrev pub partners : File → Frame → List Requirement
partners file f = filter (is_partner file f) (wholes file)

-- the frame, if it may be judged with others
abbrev pub if_joined : Option Frame → Option Frame
if_joined None = None
if_joined (Some f) = cond (is_joined f) (Some f) None

-- the frame of a requirement, if that may be judged with others
abbrev pub joined_by : Part → Option Frame → Option Frame
joined_by part.Whole f = if_joined f
joined_by _ f = None

abbrev pub joined_frame : File → Requirement → Option Frame
joined_frame file r = joined_by r.part (slice_get file.frames r.frame)

-- what is judged together with a requirement, itself among it
abbrev pub with_partners : File → Requirement → Option Frame → List Requirement
with_partners file r None = r ∷ []
with_partners file r (Some f) = partners file f

abbrev pub judged_with : File → Requirement → List Requirement
judged_with file r = with_partners file r (joined_frame file r)

-- some requirements begin with one of this frame
abbrev pub begins : Requirement → List Requirement → Bool
begins r [] = false
begins r (q ∷ more) = nat_eq q.frame r.frame

-- a group is told once: where its first requirement stands
abbrev pub is_first : File → Requirement → Bool
is_first file r = begins r (judged_with file r)

-- the groups of some requirements, in the order of their first ones
abbrev pub groups : File → List Requirement → List (List Requirement)
groups file rs = map (judged_with file) (filter (is_first file) rs)
