-- What a task keeps as facts has one proof at most.
use Rattle.std.proofs.Props.{props}
use mathlib.Core.List.{is_set}
use Rattle.std.specs.Prelude.{List}
use Rattle.gd_fit.specs.Subjects.{AreJudged, SpeakOf}
use Rattle.gd_points.specs.declared.table.Row.{Row}
use Rattle.gd_zone.specs.Conditions.{HasBounds, IsCondition, IsPair, IsSurface}
use Rattle.gd_zone.specs.declared.condition.Condition.{Condition}
use Rattle.gd_zone.specs.declared.subject.Subject.{Subject}
use Rattle.gd_zone.specs.declared.condition.Demand.{Demand}
use Rattle.gd_zone.specs.declared.condition.Demand.TheVariants.{Within, Spread, Contact, HugInner, HugOuter}
use Rattle.gd_zone.specs.declared.condition.Surface.{Surface}
use Rattle.gd_zone.specs.declared.condition.Surface.TheVariants.{Plane, Axis, Ball}

pair_prop : (s : Surface) (d : Demand) → IsProp (IsPair s d)
pair_prop (Plane n a) (Within lo hi) = Prim.hlevel props
pair_prop (Plane n a) (Spread t) = Prim.hlevel props
pair_prop (Plane n a) (Contact hi) = Prim.hlevel props
pair_prop (Plane n a) (HugInner t) = Prim.hlevel props
pair_prop (Plane n a) (HugOuter t) = Prim.hlevel props
pair_prop (Axis n a) (Within lo hi) = Prim.hlevel props
pair_prop (Axis n a) (Spread t) = Prim.hlevel props
pair_prop (Axis n a) (Contact hi) = Prim.hlevel props
pair_prop (Axis n a) (HugInner t) = Prim.hlevel props
pair_prop (Axis n a) (HugOuter t) = Prim.hlevel props
pair_prop (Ball a) (Within lo hi) = Prim.hlevel props
pair_prop (Ball a) (Spread t) = Prim.hlevel props
pair_prop (Ball a) (Contact hi) = Prim.hlevel props
pair_prop (Ball a) (HugInner t) = Prim.hlevel props
pair_prop (Ball a) (HugOuter t) = Prim.hlevel props

surface_prop : (s : Surface) → IsProp (IsSurface s)
surface_prop (Plane n a) = Prim.hlevel props
surface_prop (Axis n a) = Prim.hlevel props
surface_prop (Ball a) = Prim.hlevel props

bounds_prop : (d : Demand) → IsProp (HasBounds d)
bounds_prop (Within lo hi) = Prim.hlevel props
bounds_prop (Spread t) = Prim.hlevel props
bounds_prop (Contact hi) = Prim.hlevel props
bounds_prop (HugInner t) = Prim.hlevel props
bounds_prop (HugOuter t) = Prim.hlevel props

condition_prop : (c : Condition) → IsProp (IsCondition c)
condition_prop c = Prim.hlevel (pair_prop, surface_prop, bounds_prop, props)

pub judged_prop : (subjects : List Subject) → IsProp (AreJudged subjects)
judged_prop subjects = Prim.hlevel (condition_prop, props)

rows_set : IsSet (List Row)
rows_set = is_set (Prim.hlevel props)

pub speak_prop : (rows : List Row) (subjects : List Subject) → IsProp (SpeakOf rows subjects)
speak_prop rows subjects = Prim.hlevel (rows_set, props)
