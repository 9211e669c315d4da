-- Texts and line numbers that are known.
use Rattle.std.proofs.Common.{pos, negsuc, ◌≡◌, refl, [], ◌∷◌, codes}
use Rattle.std.specs.Fmt.{digits}
use Rattle.gd_base.specs.declared.verdict.Reason.TheVariants as reason
use Rattle.gd_cells.specs.declared.node.Node.TheVariants.{Split, Refuted, Left}
use Rattle.gd_cert.specs.Certificates.{Accept, Open, Plain, Probe, Reject}
use Rattle.gd_cert.specs.Text.{first_lines, text}

-- a reject of three roots, the second of them halved
rejected : text (record { heading = Plain; share = 1000; told = 1; groups = Reject (Refuted (record { condition = 1; a = 4; b = 2 }) ∷ Split ∷ Refuted (record { condition = 1; a = 1; b = 2 }) ∷ Refuted (record { condition = 1; a = 3; b = 0 }) ∷ Refuted (record { condition = 1; a = 10; b = 9 }) ∷ []) ∷ [] })
    ≡ codes "gdcert 1\nplain\nshare 1000\ngroups 1\ngroup 1 reject\nr 1 4 2\ns\nr 1 1 2\nr 1 3 0\nr 1 10 9\nend\n"
unfolding text digits
rejected = refl

-- an accept, and an open group of two undecided cells
others : text (record { heading = Probe (codes "A/1#2") 25; share = 3; told = 2; groups = Accept 2 (pos 7 ∷ negsuc 4 ∷ []) ∷ Open (record { level = 1; undecided = 2; spent = 1; reason = reason.Floor }) (Split ∷ Left ∷ Left ∷ []) ∷ [] })
    ≡ codes "gdcert 1\nprobe A/1#2 25\nshare 3\ngroups 2\ngroup 1 accept\nw 2 7 -5\ngroup 2 open\nat 1 2 1 floor\ns\no\no\nend\n"
unfolding text digits
others = refl

-- an accept has one line behind its first, an open group one and those of its tree
places : first_lines 5 (Accept 2 (pos 7 ∷ negsuc 4 ∷ []) ∷ Open (record { level = 1; undecided = 2; spent = 1; reason = reason.Floor }) (Split ∷ Left ∷ Left ∷ []) ∷ Reject (Split ∷ []) ∷ []) ≡ 5 ∷ 7 ∷ 12 ∷ []
places = refl
