-- What the reader's values stand for.
use Rattle.std.proofs.Common.{◌≡◌, ℕ, List, [], ◌∷◌, map, ap, refl}
use Rattle.gd_cert.specs.Certificates.{Body, body_of}
use Rattle.gd_cert.specs.Drafts.{placed_of}
use Rattle.gd_cert.specs.Reading.{bodies_of, lines_of}
use Rattle.gd_cert.specs.declared.cert.CertGroup.{CertGroup}

pub bodies_in : (groups : List CertGroup) → map (λ (group : CertGroup). body_of group.body) groups ≡ bodies_of (map placed_of groups)
bodies_in [] = refl
bodies_in (group ∷ groups) = ap (λ (bodies : List Body). body_of group.body ∷ bodies) (bodies_in groups)

pub lines_in : (groups : List CertGroup) → map (λ (group : CertGroup). group.line) groups ≡ lines_of (map placed_of groups)
lines_in [] = refl
lines_in (group ∷ groups) = ap (λ (lines : List ℕ). group.line ∷ lines) (lines_in groups)
