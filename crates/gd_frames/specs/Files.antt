-- The frame file that bytes stand for, or its first fault: the top level, then all features, all datums and all frames,
-- and at last the limits of the groups.
use Rattle.std.specs.Prelude.{ℕ, ◌+◌, List, [], ◌∷◌, ◌++◌, length, Result, Ok, Err}
use Rattle.toml.specs.Data.{Members}
use Rattle.gd_base.specs.declared.fault.InputFault.{InputFault}
use Rattle.gd_frames.specs.Counts.{limits}
use Rattle.gd_frames.specs.Needs.{judged}
use Rattle.gd_keys.specs.Documents.{document}
use Rattle.gd_keys.specs.Rules.{◌>>=◌, fault}
use Rattle.gd_keys.specs.declared.rule.Rule.{Rule}
use Rattle.gd_points.specs.Table.{Table}
use Rattle.gd_points.specs.declared.table.Row.{Row}
use Rattle.gd_tables.specs.Grammar.{datum_in, feature_in, frame_in, top_in}
use Rattle.gd_tables.specs.Kinds.{File, Frame}
use Rattle.gd_tables.specs.Listed.{Entries, no_entries, with_entry}
use Rattle.gd_tables.specs.declared.file.DatumDef.{DatumDef}
use Rattle.gd_tables.specs.declared.file.FeatureDef.{FeatureDef}
use Rattle.gd_tables.specs.declared.ranges.Ranges.{Ranges}

-- a rule that is broken in a table is told with the place of the table
abbrev pub in_table : {A : Type 0} → ℕ → ℕ → Result A Rule → Result A InputFault
in_table row column (Ok x) = Ok x
in_table row column (Err broken) = Err (fault broken row column)

-- the tables of a list, one after another, each beside those before it
abbrev pub tables_from : {A : Type 0} → ℕ → (Entries A → Members → Result (Entries A) Rule) → Entries A → List Members
    → Result (Entries A) InputFault
tables_from column with_table before [] = Ok before
tables_from column with_table before (table ∷ more) =
    in_table (length before.items + 1) column (with_table before table) >>= (λ now. tables_from column with_table now more)

abbrev pub and_entry : {A B : Type 0} → Result A Rule → (A → B) → Result B Rule
and_entry (Ok x) entry = Ok (entry x)
and_entry (Err broken) entry = Err broken

abbrev pub with_feature : Table → Ranges → Entries FeatureDef → Members → Result (Entries FeatureDef) Rule
with_feature points ranges before table =
    and_entry (feature_in points ranges before.names table) (λ f. with_entry before f.0 f.1)

abbrev pub with_datum : List (List ℕ) → Ranges → Entries DatumDef → Members → Result (Entries DatumDef) Rule
with_datum features ranges before table =
    and_entry (datum_in features ranges before.names table) (λ d. with_entry before d.name d)

abbrev pub and_judged : List FeatureDef → List DatumDef → List Row → Result Frame Rule → Result Frame Rule
and_judged features datums rows (Ok f) = judged features datums rows f
and_judged features datums rows (Err broken) = Err broken

abbrev pub with_frame : Entries FeatureDef → Entries DatumDef → List Row → Entries Frame → Members
    → Result (Entries Frame) Rule
with_frame features datums rows before table =
    and_entry (and_judged features.items datums.items rows (frame_in features.names datums.names before.names table))
    (λ f. with_entry before f.name f)

-- the limits of the groups, frame after frame
abbrev pub limits_from : List FeatureDef → List DatumDef → List Row → List Frame → List Frame
    → Result (Unit {0}) InputFault
limits_from features datums rows earlier [] = Ok tt
limits_from features datums rows earlier (f ∷ more) =
    in_table (length earlier + 1) 3 (limits features datums rows earlier f)
    >>= (λ _. limits_from features datums rows (earlier ++ f ∷ []) more)

unfoldable pub file_in : Table → Members → Result File InputFault
file_in points table = do
  top ← in_table 0 0 (top_in table)
  features ← tables_from 1 (with_feature points top.ranges) no_entries top.features
  datums ← tables_from 2 (with_datum features.names top.ranges) no_entries top.datums
  frames ← tables_from 3 (with_frame features datums points.rows) no_entries top.frames
  _ ← limits_from features.items datums.items points.rows [] frames.items
  Ok (record { turn = top.turn; shift = top.shift; centre = top.centre; features = features.items; datums = datums.items; frames = frames.items })

-- the frame file of some bytes beside a table of points
abbrev pub frames : List ℕ → Table → Result File InputFault
frames bytes points = in_table 0 0 (document bytes) >>= file_in points
