-- The ranges of a certificate's numbers, counts and name.
use Rattle.std.specs.Prelude.{ℕ, ℤ, ◌^◌, ◌≡◌, ◌≤◌, ◌<◌, Bool, true, ◌==◌, ◌||◌, List, length, unsigned_abs}
use Rattle.std.specs.List.{All, list_all}
use Rattle.gd_base.specs.Limits.{BUDGET, GROUPS, TOLERANCE}
use Rattle.gd_cells.specs.Grid.{MOST_DIMS}
use Rattle.gd_base.specs.declared.verdict.Counts.{Counts}
use Rattle.gd_base.specs.Names.{is_name_byte}
use Rattle.gd_cells.specs.Laws.{IsShort}
use Rattle.gd_cells.specs.declared.node.Node.{Node}
use Rattle.gd_cells.specs.declared.node.Node.TheVariants.{Split, Refuted, Left}
use Rattle.gd_cert.specs.Certificates.{Body, Accept, Reject, Open, Certificate, Heading, Plain, Probe}

-- a byte of a requirement's name: one of a name, `/` or `#`
abbrev pub is_requirement_byte : ℕ → Bool
is_requirement_byte b = is_name_byte b || (b == 47) || (b == 35)

-- a requirement's name has 1 to 48 of these
pub record IsRequirement (name : List ℕ) : Type 0 where
  pub some : 1 ≤ length name
  pub few : length name ≤ 48
  pub bytes : list_all is_requirement_byte name ≡ true

abbrev pub HeadingFits : Heading → Type 0
HeadingFits Plain = Unit {0}
HeadingFits (Probe name tolerance) = IsRequirement name × (tolerance ≤ TOLERANCE)

-- the numbers of a line's evidence are below 2^32
abbrev pub NodeFits : Node → Type 0
NodeFits Split = Unit {0}
NodeFits (Refuted e) = IsShort e
NodeFits Left = Unit {0}

-- the line of no undecided cell
abbrev pub IsDecided : Node → Type 0
IsDecided Split = Unit {0}
IsDecided (Refuted e) = Unit {0}
IsDecided Left = ⊥

-- a witness has a root below 2^32, and 2 to MOST_DIMS numbers below 2^62 in size
pub record WitnessFits (root : ℕ) (at : List ℤ) : Type 0 where
  pub root_fits : root < 2 ^ 32
  pub some : 2 ≤ length at
  pub few : length at ≤ MOST_DIMS
  pub sizes : All (λ x. unsigned_abs x < 2 ^ 62) at

-- the counts of an open group are below 2^32
pub record CountsFit (c : Counts) : Type 0 where
  pub level_fits : c.level < 2 ^ 32
  pub undecided_fits : c.undecided < 2 ^ 32
  pub spent_fits : c.spent < 2 ^ 32

-- the tree of a reject has no undecided cell
abbrev pub BodyFits : Body → Type 0
BodyFits (Accept root at) = WitnessFits root at
BodyFits (Reject tree) = All NodeFits tree × All IsDecided tree
BodyFits (Open counts tree) = CountsFit counts × All NodeFits tree

pub record IsInBounds (c : Certificate) : Type 0 where
  pub heading : HeadingFits c.heading
  pub share : c.share ≤ BUDGET
  pub some_told : 1 ≤ c.told
  pub few_told : c.told ≤ GROUPS
  pub count : length c.groups < 2 ^ 32
  pub groups : All BodyFits c.groups
