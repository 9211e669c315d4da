-- What a frame file says once it is read: its lists as lists, its names as their bytes.
use Rattle.std.specs.Prelude.{ℕ, Bool, true, false, List, map, Option}
use Rattle.gd_tables.specs.declared.file.DatumDef.{DatumDef}
use Rattle.gd_tables.specs.declared.file.DatumRef.{DatumRef}
use Rattle.gd_tables.specs.declared.file.FeatureDef.{FeatureDef}
use Rattle.gd_tables.specs.declared.file.FrameDef.{FrameDef}
use Rattle.gd_tables.specs.declared.file.FrameFile.{FrameFile}
use Rattle.gd_tables.specs.declared.kind.Kind.{Kind}
use Rattle.gd_tables.specs.declared.kind.Kind.TheVariants as kind
use Rattle.gd_tables.specs.declared.kind.Material.{Material}
use Rattle.gd_tables.specs.declared.kind.Turn.{Turn}
use Rattle.gd_vec.specs.declared.vector.V3.{V3}

-- the kinds of form: a requirement of one feature by itself
abbrev pub is_form : Kind → Bool
is_form kind.Flatness = true
is_form kind.Straightness = true
is_form kind.Circularity = true
is_form kind.Cylindricity = true
is_form _ = false

-- a feature control frame: features by their places in the file, tolerances in units
pub record Frame : Type 0 where
  pub name : List ℕ
  pub kind : Kind
  pub features : List ℕ
  pub tolerance : ℕ
  pub datums : List DatumRef
  pub material : Material
  pub above : Option ℕ
  pub lower : Option ℕ
  pub lower_datums : List DatumRef
  pub separate : Bool

pub record File : Type 0 where
  pub turn : Turn
  pub shift : ℕ
  pub centre : Option V3
  pub features : List FeatureDef
  pub datums : List DatumDef
  pub frames : List Frame

-- the values as they are kept in memory
abbrev pub frame_of : FrameDef → Frame
frame_of f = record {
  name = f.name;
  kind = f.kind;
  features = f.features.items;
  tolerance = f.tolerance;
  datums = f.datums.items;
  material = f.material;
  above = f.above;
  lower = f.lower;
  lower_datums = f.lower_datums.items;
  separate = f.separate;
}

abbrev pub file_of : FrameFile → File
file_of f = record {
  turn = f.turn;
  shift = f.shift;
  centre = f.centre;
  features = f.features.items;
  datums = f.datums.items;
  frames = map frame_of f.frames.items;
}
