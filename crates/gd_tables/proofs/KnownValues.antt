-- The definitions by values worked by hand.
use Rattle.std.specs.Prelude.{◌≡◌, [], ◌∷◌, pos, true, false, Some, None, Ok, Err, codes, refl}
use Rattle.toml.specs.Data.{array, integer, item, member, no_items, no_members, string}
use Rattle.gd_keys.specs.declared.rule.Rule.TheVariants as rule
use Rattle.gd_tables.specs.Grammar.{datum_in, features_in, turn_in, version, word_of, words_in}
use Rattle.gd_tables.specs.Ranges.{version_1}
use Rattle.gd_tables.specs.Words.{kind_of}
use Rattle.gd_tables.specs.declared.kind.Kind.TheVariants as kind
use Rattle.gd_tables.specs.declared.kind.Turn.TheVariants as turn

version_one : version (integer (pos 1)) ≡ Ok version_1
version_one = refl

version_two : version (integer (pos 2)) ≡ Err rule.Version
version_two = refl

turn_all : turn_in (string (codes "all")) ≡ Ok turn.All
turn_all = refl

turn_other : turn_in (string (codes "none")) ≡ Err rule.Range
turn_other = refl

parallel : kind_of (codes "parallelism") ≡ Some kind.Orientation
parallel = refl

-- a datum word with `(M)` and one without
at_boundary : word_of (codes "D(M)") ≡ Some (record { name = codes "D"; at_mmb = true })
at_boundary = refl

plain_word : word_of (codes "D") ≡ Some (record { name = codes "D"; at_mmb = false })
plain_word = refl

spaced_word : word_of (codes "D (M)") ≡ None
spaced_word = refl

mark_alone : word_of (codes "(M)") ≡ None
mark_alone = refl

-- a slack of 10 where none is stated
datum_d : datum_in (codes "p" ∷ []) version_1 [] (member (codes "feature") (string (codes "p")) (member (codes "name") (string (codes "D")) no_members))
    ≡ Ok (record { name = codes "D"; feature = 0; slack = 10; boundary = None })
unfolding datum_in
datum_d = refl

-- a name that stands twice is told before one that is unknown
twice_unknown : features_in (codes "p" ∷ []) kind.Position (array (item (string (codes "X")) (item (string (codes "X")) no_items))) ≡ Err rule.Once
unfolding features_in
twice_unknown = refl

-- the same datum with `(M)` and without
same_datum : words_in (codes "D" ∷ []) (array (item (string (codes "D")) (item (string (codes "D(M)")) no_items))) ≡ Err rule.Once
unfolding words_in
same_datum = refl
