-- What the calls ask of a file and a frame.
use Rattle.std.specs.Prelude.{ℕ, ◌≡◌, ◌+◌, ◌<◌, ◌≤◌, Bool, true, false, slice_get}
use Rattle.std.specs.Option.{IfSome}
use Rattle.gd_base.specs.Limits.{OFFSETS}
use Rattle.gd_frames.specs.Counts.{frame_offsets}
use Rattle.gd_frames.specs.Facts.{IsFile}
use Rattle.gd_points.specs.Table.{Table}
use Rattle.gd_tables.specs.Kinds.{File, Frame}
use Rattle.gd_tables.specs.declared.kind.Kind.{Kind}
use Rattle.gd_tables.specs.declared.kind.Kind.TheVariants as kind

-- a file that was read beside some table of points
abbrev pub WasRead : File → Type 0
WasRead file = (points : Table) × IsFile points file

-- the kinds of this table
abbrev pub is_placed : Kind → Bool
is_placed kind.Position = true
is_placed kind.Orientation = true
is_placed _ = false

-- a frame by its place is of one of these kinds. A position has the one offset, which is at most 2. The offsets of an
-- orientation begin with 1 or 2, since with 0 it would be located, and the one after its last is at most 3
pub record IsPlaced (file : File) (number offset : ℕ) : Type 0 where
  pub of_kind : IfSome (slice_get file.frames number) (λ (f : Frame). is_placed f.kind ≡ true)
  pub few : offset ≤ OFFSETS
  pub moved : IfSome (slice_get file.frames number) (λ (f : Frame). f.kind ≡ kind.Orientation → 0 < offset)
  pub offsets : IfSome (slice_get file.frames number) (λ (f : Frame). offset + frame_offsets file.features f ≤ OFFSETS + 1)
