-- For the proof of the reader, and cited by its private functions alone: what the lists that it makes stand for.
use Rattle.std.specs.Prelude.{ℕ, [], map, Result, Ok}
use Rattle.gd_base.specs.declared.fault.InputFault.{InputFault}
use Rattle.gd_base.specs.declared.fault.ReadFault.{ReadFault}
use Rattle.gd_base.specs.declared.fault.ReadFault.TheVariants as read_fault
use Rattle.gd_frames.specs.Files.{limits_from, tables_from, with_frame}
use Rattle.gd_keys.specs.Rules.{◌>>=◌, fault}
use Rattle.gd_keys.specs.declared.rule.KeyFault.{KeyFault}
use Rattle.gd_keys.specs.declared.rule.KeyFault.TheVariants as key_fault
use Rattle.gd_points.specs.Table.{Table}
use Rattle.gd_tables.specs.Grammar.{Top}
use Rattle.gd_tables.specs.Kinds.{File, Frame, frame_of}
use Rattle.gd_tables.specs.Listed.{Entries, no_entries}
use Rattle.gd_tables.specs.declared.file.DatumDef.{DatumDef}
use Rattle.gd_tables.specs.declared.file.FeatureDef.{FeatureDef}
use Rattle.gd_tables.specs.declared.file.FrameDef.{FrameDef}
use Rattle.gd_tables.specs.declared.listed.Listed.{Listed}

-- a fault of a table with its place
abbrev pub placed : KeyFault → ℕ → ℕ → ReadFault
placed key_fault.Memory row column = read_fault.Memory
placed (key_fault.Rule broken) row column = read_fault.Input (fault broken row column)

abbrev pub features_read : Listed FeatureDef → Entries FeatureDef
features_read l = record { names = l.names.keys; items = l.items.items }

abbrev pub datums_read : Listed DatumDef → Entries DatumDef
datums_read l = record { names = l.names.keys; items = l.items.items }

abbrev pub frames_read : Listed FrameDef → Entries Frame
frames_read l = record { names = l.names.keys; items = map frame_of l.items.items }

-- the file of what was read
abbrev pub whole : Top → Entries FeatureDef → Entries DatumDef → Entries Frame → File
whole top features datums frames = record {
  turn = top.turn;
  shift = top.shift;
  centre = top.centre;
  features = features.items;
  datums = datums.items;
  frames = frames.items;
}

-- what `file_in` does once the features and the datums are read
abbrev pub rest_in : Table → Top → Entries FeatureDef → Entries DatumDef → Result File InputFault
rest_in points top features datums = do
  frames ← tables_from 3 (with_frame features datums points.rows) no_entries top.frames
  _ ← limits_from features.items datums.items points.rows [] frames.items
  Ok (whole top features datums frames)
