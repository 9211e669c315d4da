-- Values worked by hand, so that a wrong definition doesn't check.
use Rattle.std.proofs.Common.{◌≡◌, [], ◌∷◌, Some, None, true, false, refl}
use Rattle.std.specs.Prelude.{negsuc, codes, Ok, Err}
use Rattle.std.specs.Fmt.{digits}
use Rattle.gd_base.specs.declared.verdict.Reason.TheVariants as reason
use Rattle.gd_cert.specs.Lines.{counts_in, counts_of, group_in, node_in, told_in, witness_in}
use Rattle.gd_cert.specs.Reading.{drafted, fault, reading}
use Rattle.gd_cert.specs.Words.{number_below, number_of, signed_number, words_of}
use Rattle.gd_cert.specs.declared.rule.Rule.TheVariants as rule
use Rattle.gd_cert.specs.declared.stage.Stage.TheVariants as stage

two_spaces : words_of (codes "r  1") ≡ codes "r" ∷ [] ∷ codes "1" ∷ []
two_spaces = refl

no_byte : words_of [] ≡ [] ∷ []
no_byte = refl

zero_alone : number_of (codes "0") ≡ Some 0
unfolding number_below digits
zero_alone = refl

leading_zero : number_of (codes "013") ≡ None
unfolding number_below digits
leading_zero = refl

with_plus : number_of (codes "+13") ≡ None
unfolding number_below digits
with_plus = refl

too_large : number_of (codes "4294967296") ≡ None
unfolding number_below digits
too_large = refl

below_zero : signed_number (codes "-13") ≡ Some (negsuc 12)
unfolding number_below signed_number digits
below_zero = refl

minus_zero : signed_number (codes "-0") ≡ None
unfolding number_below signed_number digits
minus_zero = refl

no_groups_told : told_in (words_of (codes "groups 0")) ≡ Err rule.Head
unfolding number_below digits
no_groups_told = refl

-- the next group is 1
other_group : group_in 1 (words_of (codes "group 2 foo")) ≡ Err rule.Expected
unfolding number_below digits
other_group = refl

no_number : group_in 1 (words_of (codes "group x")) ≡ Err rule.Words
unfolding number_below digits
no_number = refl

misspelled_number : group_in 1 (words_of (codes "group 01 accept")) ≡ Err rule.Number
unfolding number_below digits
misspelled_number = refl

misspelled_number_and_verdict : group_in 1 (words_of (codes "group 01 foo")) ≡ Err rule.Words
unfolding number_below digits
misspelled_number_and_verdict = refl

blank_line : group_in 1 (words_of []) ≡ Err rule.Expected
blank_line = refl

end_and_more : group_in 1 (words_of (codes "end x")) ≡ Err rule.Words
end_and_more = refl

blank_line_in_a_tree : node_in true (words_of []) ≡ Err rule.Words
blank_line_in_a_tree = refl

undecided_in_a_reject : node_in false (words_of (codes "o")) ≡ Err rule.Words
undecided_in_a_reject = refl

counts : counts_in (words_of (codes "at 1 2 3 floor")) ≡ Ok (stage.Open (counts_of 1 2 3 reason.Floor))
unfolding number_below digits
counts = refl

-- its reason is tested before its numbers
unknown_reason : counts_in (words_of (codes "at 1 x 3 time")) ≡ Err rule.Words
unknown_reason = refl

one_number : witness_in (words_of (codes "w 1 x")) ≡ Err rule.Words
one_number = refl

no_bytes : reading [] ≡ Err (fault 1 45)
unfolding reading drafted
no_bytes = refl

without_line_end : reading (codes "gdcert 1") ≡ Err (fault 1 45)
unfolding reading drafted
without_line_end = refl
