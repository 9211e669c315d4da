-- The limits of input and of certificates, which clauses cite by name. Lengths are in units of 0.1 micrometre.
-- docs/UNITS.md lists them, and `limits` has the same numbers for the code.
use Rattle.std.specs.Prelude.{ℕ, ◌^◌}

-- the greatest size of a coordinate of a point, of a nominal point and of a centre
abbrev pub COORDINATE : ℕ
COORDINATE = 8000000

-- the most points of a file
abbrev pub POINTS : ℕ
POINTS = 200000

-- the greatest group number of a point
abbrev pub GROUP : ℕ
GROUP = 999

-- the greatest tolerance
abbrev pub TOLERANCE : ℕ
TOLERANCE = 16000000

-- the greatest budget: how many cells one search may split
abbrev pub BUDGET : ℕ
BUDGET = 1000000

-- the most bytes of a file that is loaded
abbrev pub FILE_BYTES : ℕ
FILE_BYTES = 134217728

-- the most bytes of a name
abbrev pub NAME_BYTES : ℕ
NAME_BYTES = 32

-- the greatest size of an entry of a nominal direction
abbrev pub ENTRY : ℕ
ENTRY = 1000

-- the greatest exponent of a range of angles: ratios lie within 2^-20 then
abbrev pub TURN : ℕ
TURN = 20

-- the greatest exponent of a range of shifts, in units
abbrev pub SHIFT : ℕ
SHIFT = 25

-- the greatest nominal radius
abbrev pub RADIUS : ℕ
RADIUS = 8000000

-- the greatest nominal diameter, of a feature or of a boundary
abbrev pub DIAMETER : ℕ
DIAMETER = 16000000

-- the greatest slack of a contact
abbrev pub SLACK : ℕ
SLACK = 10000

-- the slack of a datum that states none
abbrev pub USUAL_SLACK : ℕ
USUAL_SLACK = 10

-- the most tables of features, of datums and of frames in a frame file
abbrev pub FEATURES : ℕ
FEATURES = 1024

abbrev pub DATUMS : ℕ
DATUMS = 64

abbrev pub FRAMES : ℕ
FRAMES = 256

-- the most features of one frame
abbrev pub FRAME_FEATURES : ℕ
FRAME_FEATURES = 64

-- the most datum words of one frame
abbrev pub WORDS : ℕ
WORDS = 3

-- the most local offsets of a group
abbrev pub OFFSETS : ℕ
OFFSETS = 2

-- the most conditions of a group
abbrev pub CONDITIONS : ℕ
CONDITIONS = 4096

-- the most groups that a certificate states
abbrev pub GROUPS : ℕ
GROUPS = 300000

-- the most bytes of the name of a requirement in a certificate
abbrev pub REQUIREMENT_BYTES : ℕ
REQUIREMENT_BYTES = 48

-- ---- larger limits: those of a later version of the frame file. Where a crate's arithmetic keeps them already, its
-- clauses cite these
abbrev pub LARGE_COORDINATE : ℕ
LARGE_COORDINATE = 40000000

abbrev pub LARGE_SHIFT : ℕ
LARGE_SHIFT = 28

abbrev pub LARGE_RADIUS : ℕ
LARGE_RADIUS = 40000000

abbrev pub LARGE_DIAMETER : ℕ
LARGE_DIAMETER = 80000000
