-- For the proof of the reader, and cited by its private functions alone: what the parts that it makes stand for.
use Rattle.std.specs.Prelude.{ℕ, List, map, Vec, String}
use Rattle.std.specs.BTreeMap.{BTreeMap}
use Rattle.std.specs.Borrow.{Bor}
use Rattle.std.specs.declared.alloc.Global.{Global}
use Rattle.toml.specs.Data.{Members}
use Rattle.toml.specs.View.{table_view}
use Rattle.toml.specs.declared.value.Value.{Value}
use Rattle.gd_tables.specs.Grammar.{Top, Word}
use Rattle.gd_tables.specs.Kinds.{Frame}
use Rattle.gd_tables.specs.declared.frame.Stated.{Stated}
use Rattle.gd_tables.specs.declared.kind.Kind.{Kind}
use Rattle.gd_tables.specs.declared.top.Top.{Top as TopRead}
use Rattle.gd_tables.specs.declared.word.Word.{Word as WordRead}

abbrev pub seen : WordRead → Word
seen w = record { name = w.name; at_mmb = w.at_mmb }

abbrev pub seen_tables : Vec (Bor (BTreeMap (String Global) Value)) Global → List Members
seen_tables v = map (λ t. table_view t.now) v.items

abbrev pub seen_top : TopRead → Top
seen_top t = record {
  ranges = t.ranges;
  turn = t.turn;
  shift = t.shift;
  centre = t.centre;
  features = seen_tables t.features;
  datums = seen_tables t.datums;
  frames = seen_tables t.frames;
}

abbrev pub seen_frame : List ℕ → Kind → List ℕ → Stated → Frame
seen_frame name kind places s = record {
  name = name;
  kind = kind;
  features = places;
  tolerance = s.tolerance;
  datums = s.datums.items;
  material = s.material;
  above = s.above;
  lower = s.lower;
  lower_datums = s.lower_datums.items;
  separate = s.separate;
}
