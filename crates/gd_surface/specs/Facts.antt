-- What the calls ask of a frame.
use Rattle.std.specs.Prelude.{ℕ, ◌≡◌, Bool, true, false, slice_get}
use Rattle.std.specs.Option.{IfSome}
use Rattle.gd_tables.specs.Kinds.{File, Frame}
use Rattle.gd_tables.specs.declared.kind.Kind.{Kind}
use Rattle.gd_tables.specs.declared.kind.Kind.TheVariants as kind

-- the kinds of this table
abbrev pub is_surface_kind : Kind → Bool
is_surface_kind kind.Profile = true
is_surface_kind kind.CircularRunout = true
is_surface_kind kind.TotalRunout = true
is_surface_kind _ = false

-- a frame by its place is of one of these kinds
abbrev pub IsOfSurface : File → ℕ → Type 0
IsOfSurface file number = IfSome (slice_get file.frames number) (λ (f : Frame). is_surface_kind f.kind ≡ true)
